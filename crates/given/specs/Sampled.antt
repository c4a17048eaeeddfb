-- What samples are taken from. Note 5: classes are the same when their leaders are "in runs, matches and samples"; rows passed over are "unsampled".
use Rattle.std.specs.Prelude.{ℕ, List, map}
use Rattle.buckets.specs.Choose.{pick}
use Rattle.buckets.specs.Leading.{has_leaders}
use Rattle.buckets.specs.Rows.{row_frame}
use Rattle.buckets.specs.Leaders.{standing}

-- the frames of a table: as they are, and of one that has frames 34 those of the rows that stand, with leaders
unfoldable pub sampled_from : List (List ℕ) → List (List ℕ)
unfolding standing
sampled_from fs = pick (has_leaders fs) (map row_frame (standing fs)) fs
