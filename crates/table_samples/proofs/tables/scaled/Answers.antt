-- `table_samples::tables::scaled` meets its contract.
use native.Mathlib.Omega.{arith}
use Rattle.table_samples.proofs.BucketLaws.{product_small, scaled_short, scaled_long}
use Rattle.table_samples.proofs.tables.scaled.Goals as goal

pub returns-then-n-le-PROBE_SCAN_CAP : goal.returns-then-n-le-PROBE_SCAN_CAP
returns-then-n-le-PROBE_SCAN_CAP c = search scaled_short

pub overflow_mul-result : goal.overflow_mul-result
overflow_mul-result c = omega (arith, product_small _ _ c.requires.0 c.requires.1)

pub overflow_cast-result-2 : goal.overflow_cast-result-2
overflow_cast-result-2 c = omega (arith, product_small _ _ c.requires.0 c.requires.1)

pub returns : goal.returns
returns c = search scaled_long
