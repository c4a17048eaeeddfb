-- The globals' classes, one after another. Assumes nothing.
use Prim.Native.Nat.{ℕ, ◌+◌, ◌<◌, ◌≤◌}
use mathlib.Core.Path.{◌≡◌, sym, ◌∙◌}
use mathlib.Core.List.{List, [], ◌∷◌}
use native.Mathlib.Omega.{arith}
use native.Mathlib.Decide.{ℕ_discrete}
use lib.ListN.{length, get_or, set, length-set}
use lib.Seq.{get_or-set_same, get_or-set_other, ext_get_or}
use Rattle.frames.specs.Sheet.{frames_in}
use Rattle.frames.specs.Kinds.{kind_at}
use Rattle.indexing.specs.Index.{Proper}
use Rattle.indexing.specs.Keys.{find}
use Rattle.join_tests.specs.Tabulate.{tabulate}
use Rattle.join_tests.proofs.TabulateLaws.{tabulate_at, tabulate_length}
use Rattle.running.specs.Tables.{class_from, global_in, table_in}
use Rattle.table_tests.specs.Globals.{GlobalsRead}

pub global_proper : (g : ℕ) → Proper (0x32 ∷ g ∷ [])
unfolding kind_at
global_proper g = record { keyed = omega arith; whole = omega arith }

pub class_found : (l : List ℕ) (fs : List (List ℕ)) (g r : ℕ) → l ≡ find (0x32 ∷ g ∷ []) fs → r ≡ class_from fs l → r ≡ global_in fs g
class_found l fs g r p q = rw p at q

-- the first g globals have their classes
pub record Given (x G : List ℕ) (g : ℕ) : Type 0 where
  pub few : g ≤ 16
  pub size : length G ≡ 16
  pub is : (k : ℕ) → k < g → get_or G k 0 ≡ global_in (frames_in x) k

pub given_none : (x G : List ℕ) → length G ≡ 16 → Given x G 0
given_none x G h = record { few = omega arith; size = h; is = λ k l. absurd (omega arith) }

module _ (x G : List ℕ) (g : ℕ) (s : Given x G g) where
  pub given_again : (r : ℕ) → g < 16 → r ≡ global_in (frames_in x) g → Given x (set G g r) (g + 1)
  given_again r h e = record { few = omega arith; size = length-set G g r ∙ s.size; is = λ k l. at k l (ℕ_discrete k g) }
    where
      at : (k : ℕ) → k < g + 1 → Dec (k ≡ g) → get_or (set G g r) k 0 ≡ global_in (frames_in x) k
      at k l (yes i) = rw (i, get_or-set_same G g r 0 (omega (arith, s.size))) e
      at k l (no i) = rw (get_or-set_other G g k r 0 i) (s.is k (omega arith))

  all_given_lem : 16 ≤ g → G ≡ tabulate 16 (global_in (frames_in x))
  all_given_lem h =
      ext_get_or 0 G (tabulate 16 (global_in (frames_in x))) (s.size ∙ sym (tabulate_length 16 (global_in (frames_in x))))
      (λ k l. s.is k (omega (arith, s.size)) ∙ sym (tabulate_at 16 (global_in (frames_in x)) k 0 (omega (arith, s.size))))

  pub given_all : 16 ≤ g → GlobalsRead x G
  unfolding table_in
  given_all h = record { is = all_given_lem h }
