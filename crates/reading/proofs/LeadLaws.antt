-- Frames 34 are a table's, and the set that is lent for their leaders. Assumes nothing.
use Prim.Native.Nat.{ℕ, suc, ◌+◌, ◌<◌}
use mathlib.Core.Path.{◌≡◌, refl, sym, ◌∙◌}
use mathlib.Core.Bool.{Bool, true, false, true≢false}
use mathlib.Core.List.{List, [], ◌∷◌}
use native.Mathlib.Omega.{arith}
use lib.ListN.{length, get_or, replicate, length-replicate}
use lib.Dec.{leb, eqb}
use borrow.Author.Tests.{leb-true}
use Rattle.second_reading.specs.Choose.{pick}
use Rattle.second_reading.proofs.ChooseLaws.{both_hold}
use Rattle.second_reading.proofs.Lists.{blank_at}
use Rattle.second_reading.specs.Sets.{set_words}
use Rattle.second_reading.specs.Lines.{split}
use Rattle.second_reading.specs.Kinds.{kinds, kind_at}
use Rattle.second_reading.specs.Among.{is_between, has_kinds}
use Rattle.second_reading.specs.Sheet.{frames_in}
use Rattle.second_reading.specs.Faults.{belongs}
use Rattle.second_reading.specs.Text.{Text}
use Rattle.second_reading.specs.Text.TheVariants.{Query, Plan, Table}
use Rattle.second_reading.specs.First.{frames_of, first_reading, Sheet}
use Rattle.second_reading.specs.Reading.{Accepted}
use Rattle.second_reading.specs.Leading.{has_leaders}
use Rattle.second_reading.specs.Rereading.{LeadersFor}
use Rattle.reading.specs.IndexedReading.{TablesLead}
use Rattle.reading.proofs.Formed.{Formed, first_accepted, lines_pass}

-- one of the frames is of the kind where there are some
is_there : (fs : List (List ℕ)) → has_kinds 0x34 0x34 fs ≡ true → (i : ℕ) × ((i < length fs) × (get_or (get_or fs i []) 0 0 ≡ 0x34))
unfolding has_kinds
is_there [] p = absurd (true≢false (sym p))
is_there (f ∷ fs) p = go (is_between 0x34 0x34 (get_or f 0 0)) refl p (λ r. is_there fs r)
  where
    go : (b : Bool) → is_between 0x34 0x34 (get_or f 0 0) ≡ b → pick b true (has_kinds 0x34 0x34 fs) ≡ true → (has_kinds 0x34 0x34 fs ≡ true → (i : ℕ) × ((i < length fs) × (get_or (get_or fs i []) 0 0 ≡ 0x34))) → (i : ℕ) × ((i < suc (length fs)) × (get_or (get_or (f ∷ fs) i []) 0 0 ≡ 0x34))
    go true q r more =
        let e = both_hold (leb 0x34 (get_or f 0 0)) (leb (get_or f 0 0) 0x34) q in
        (0, (omega arith, omega (arith, leb-true 0x34 (get_or f 0 0) e.0, leb-true (get_or f 0 0) 0x34 e.1)))
    go false q r more = let m = more r in (suc m.0, (omega (arith, m.1.0), m.1.1))

-- a frame 34 is a table's
a_table : (t : Text) (first : Bool) (b : ℕ) → b ≡ 0x34 → belongs t first b ≡ true → t ≡ Table
unfolding kind_at kinds
a_table Query first b e p = absurd (true≢false (sym (rw e at p)))
a_table Plan first b e p = absurd (true≢false (sym (rw e at p)))
a_table Table first b e p = refl

pub leaders_table : (t : Text) (x : List ℕ) (n c : ℕ) → first_reading t x ≡ Accepted n c → has_leaders (frames_of x) ≡ true → t ≡ Table
unfolding frames_of
leaders_table t x n c p l = found (is_there (frames_of x) l)
  where
    found : (i : ℕ) × ((i < length (frames_of x)) × (get_or (get_or (frames_of x) i []) 0 0 ≡ 0x34)) → t ≡ Table
    found m =
        let f = first_accepted t x n c p in
        let g : Formed t (eqb (0 + m.0) 0) (get_or (frames_of x) m.0 []) = (lines_pass t 0 0 (split x).ended (split x).rest n c f.lines).formed m.0 m.1.0 in
        a_table t (eqb (0 + m.0) 0) (get_or (get_or (frames_of x) m.0 []) 0 0) m.1.1 g.place

pub tables_lead : (t : Text) (x s : List ℕ) (n c : ℕ) → first_reading t x ≡ Accepted n c → Sheet x s → TablesLead t s
tables_lead t x s n c p h = record { only = λ l. leaders_table t x n c p (rw h.frames at l) }

-- ---- the ways through the code

module _ (t : Text) (s : List ℕ) (h : TablesLead t s) where
  no_leaders : (t ≡ Table → ⊥) → false ≡ has_leaders (frames_in s)
  no_leaders o = go (has_leaders (frames_in s)) refl
    where
      go : (b : Bool) → has_leaders (frames_in s) ≡ b → false ≡ b
      go true q = absurd (o (h.only q))
      go false q = refl

  pub query_leads : t ≡ Query → false ≡ has_leaders (frames_in s)
  query_leads e = no_leaders (λ q. let z : ◌≡◌ {A = ℕ} 0 1 = cc in omega arith)

  pub plan_leads : t ≡ Plan → false ≡ has_leaders (frames_in s)
  plan_leads e = no_leaders (λ q. let z : ◌≡◌ {A = ℕ} 0 1 = cc in omega arith)

-- a cleared set serves for a sheet with frames 34, and any zeros for one without
pub leaders_lent : (s : List ℕ) → LeadersFor s (replicate set_words 0)
leaders_lent s = record { room = λ l. length-replicate {A = ℕ} set_words 0; blank = blank_at set_words 0 }

pub none_lent : (s : List ℕ) (r : Bool) (n : ℕ) → r ≡ has_leaders (frames_in s) → r ≡ false → LeadersFor s (replicate n 0)
none_lent s r n p q = record { room = λ l. absurd (true≢false (sym l ∙ sym p ∙ q)); blank = blank_at n 0 }
