-- `buckets::index::first_entry` meets its contract.
use Rattle.buckets.proofs.IndexLaws.{head_of}
use native.Mathlib.Omega.{arith}
use Rattle.buckets.proofs.index.first_entry.Goals as goal

pub returns : goal.returns
returns c = search (head_of, arith)
