-- `reading::second::has_leaders` meets its contract.
use Rattle.reading.proofs.LeadLaws.{query_leads, plan_leads}
use Rattle.reading.proofs.second.has_leaders.Goals as goal

pub returns-in-Query : goal.returns-in-Query
returns-in-Query c = search query_leads

pub returns-in-Plan : goal.returns-in-Plan
returns-in-Plan c = search plan_leads
