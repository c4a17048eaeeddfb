-- `bidding::bid::is_candidate` meets its contract: used, or by what scans.
use Rattle.bidding.proofs.BidLaws.{candidate_used, candidate_scans}
use Rattle.bidding.proofs.bid.is_candidate.Goals as goal

pub returns-then-not-is_set : goal.returns-then-not-is_set
returns-then-not-is_set c = search candidate_scans

pub returns-else-not-is_set : goal.returns-else-not-is_set
returns-else-not-is_set c = search candidate_used
