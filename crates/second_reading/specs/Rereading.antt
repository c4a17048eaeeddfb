-- The second reading over a sheet, with an index that it fills.
use Rattle.std.specs.Prelude.{ℕ, ◌+◌, ◌*◌, ◌/◌, ◌≤◌, ◌≡◌, Bool, true, false, List, [], length, get_or}
use Rattle.class_sets.specs.Choose.{pick}
use Rattle.class_sets.specs.Digits.{short_at}
use Rattle.class_sets.specs.Fields.{field_passes}
use Rattle.indexing.specs.Frames.{frame_passes}
use Rattle.indexing.specs.Sheet.{frames_in, Whole}
use Rattle.class_sets.specs.Counts.{Counts}
use Rattle.class_sets.specs.Test.TheVariants.{Range, Reals}
use Rattle.first_reading.specs.Reading.{Reading}
use Rattle.first_reading.specs.Reading.{Accepted}
use Rattle.class_sets.specs.Sets.{set_words, has_class}
use Rattle.indexing.specs.Keys.{begins}
use Rattle.indexing.specs.Index.{slots_for, given_by, Indexed}
use Rattle.second_reading.specs.Leading.{leads, has_leaders, leader_key, leads_by}
use Rattle.second_reading.specs.Second.{second_from}

-- the tests 5 and 6 of a frame: the first that it fails, or 0
abbrev pub fields_fault : Counts → List ℕ → ℕ
fields_fault n f = pick (frame_passes (field_passes Range n) f) (pick (frame_passes (field_passes Reals n) f) 0 6) 5

-- test 14 of the frame f, by the index i of the frames before it and the set B of their leaders
abbrev pub chained_by : List ℕ → List ℕ → List ℕ → List ℕ → Bool
chained_by s i B f =
    pick (leads f)
    (pick (begins (leader_key f) f) true
    (pick (given_by (slots_for (length i)) s i (leader_key f)) true
    (has_class B (short_at f 1))))
    false

-- the set B' has the classes of B and the leader of the frame f
pub record Marked (B B' f : List ℕ) : Type 0 where
  pub same : length B' ≡ length B
  pub is : (c : ℕ) → has_class B' c ≡ pick (leads_by c f) true (has_class B c)

-- the set that is lent for the leaders of the sheet s: it has no class, and where there are frames 34 room for every class
pub record LeadersFor (s B : List ℕ) : Type 0 where
  pub room : has_leaders (frames_in s) ≡ true → length B ≡ set_words
  pub blank : (i : ℕ) → get_or B i 0 ≡ 0

-- how many numbers the index of a sheet of n bytes has, with so many slots: a keyed frame has three bytes or more, and two numbers; there
-- are three entries more, that of a frame 24, which has one byte and is entered once, that numbered 0 and one beyond the last
abbrev pub index_size : ℕ → ℕ → ℕ
index_size slots n = slots + 2 * (n / 3 + 3)

-- the same for the sheet s, whose frames have their lengths
pub record BlankFor (s i : List ℕ) : Type 0 where
  pub size : length s ≤ 32768
  pub whole : Whole (frames_in s)
  pub room : index_size (slots_for (length i)) (length s) ≤ length i
  pub blank : (e : ℕ) → get_or i e 0 ≡ 0

-- the second reading, where the first one says `a`
pub record Rereads (n : Counts) (s : List ℕ) (a : Reading) (i : List ℕ) (r : Reading) : Type 0 where
  pub is : r ≡ second_from n [] 0 (frames_in s) a
  pub indexed : (m c : ℕ) → r ≡ Accepted m c → Indexed s i
