-- `named_joins::joins::validate_run` meets its contract.
use Rattle.named_joins.proofs.NamedLaws.{all_tested}
use Rattle.named_joins.proofs.joins.validate_run.Goals as goal

pub returns : goal.returns
returns c = all_tested _ _ _ c.validate-tested.result c.named_fault-joined.result _ _ c.validate-tested.ensures c.named_fault-joined.ensures c.and.ensures
