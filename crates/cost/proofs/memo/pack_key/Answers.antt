-- `cost::memo::pack_key` meets its contract: field by field.
use native.Mathlib.Omega.{arith}
use Rattle.cost.proofs.MemoLaws.{packed_key}
use Rattle.cost.proofs.memo.pack_key.Goals as goal

pub returns : goal.returns
returns c = packed_key _ c.args.x (omega arith) (omega arith) (omega arith) (omega arith) (omega arith) (omega arith) c.from_be_bytes.ensures
