-- Note 5: "Frame 34 class(2) leader(2)". Where it may stand.
use Rattle.std.specs.Prelude.{ℕ, Bool, true, false, List, [], ◌∷◌, ◌++◌, get_or, eqb}
use Rattle.class_sets.specs.Choose.{pick}
use Rattle.class_sets.specs.Digits.{short_at}
use Rattle.indexing.specs.Among.{has_kinds}
use Rattle.indexing.specs.Keys.{find, is_found}

abbrev pub leads : List ℕ → Bool
leads f = eqb (get_or f 0 0) 0x34

-- the frames of a table have one
abbrev pub has_leaders : List (List ℕ) → Bool
has_leaders fs = has_kinds 0x34 0x34 fs

-- "Turned away: 14, a leader that itself has a frame 34, at the later of the two lines"

-- the leader of the frame f has a frame 34 among fs: that with this key
abbrev pub leader_key : List ℕ → List ℕ
leader_key f = 0x34 ∷ get_or f 3 0 ∷ get_or f 4 0 ∷ []

abbrev pub leader_led : List (List ℕ) → List ℕ → Bool
leader_led fs f = is_found (find (leader_key f) fs)

-- the class c is a leader by the frame f, and by one of the frames
abbrev pub leads_by : ℕ → List ℕ → Bool
leads_by c f = pick (leads f) (eqb (short_at f 3) c) false

unfoldable pub is_leader : ℕ → List (List ℕ) → Bool
is_leader c [] = false
is_leader c (f ∷ fs) = pick (leads_by c f) true (is_leader c fs)

-- with the frame f the leader of one of the frames so far has a frame 34: its own, by itself or an earlier frame; or that of an earlier frame, by f
abbrev pub chained : List (List ℕ) → List ℕ → Bool
chained earlier f = pick (leads f) (pick (leader_led (earlier ++ f ∷ []) f) true (is_leader (short_at f 1) earlier)) false
