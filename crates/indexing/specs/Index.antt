-- An index of a sheet's keyed frames: a frame is found by its key without a walk of the sheet. "`HashMap`: searched lists": one list a slot.
-- Its first numbers are the slots, each with the number of its latest entry, 0 where it has none. An entry, from number 1 on, has two numbers
-- behind the slots: where its frame begins, and the number of the entry before it in its slot. A short index has few slots.
use Rattle.std.specs.Prelude.{ℕ, zero, suc, ◌+◌, ◌*◌, ◌%◌, ◌<◌, ◌≤◌, ◌≡◌, Bool, false, List, [], ◌∷◌, length, get_or, take, drop, set, leb, ltb, eqb}
use Rattle.frame_keys.specs.Choose.{pick}
use Rattle.frame_keys.specs.Sheet.{frame_at, frames_in}
use Rattle.frame_keys.specs.Kinds.{kind_at}
use Rattle.frame_keys.specs.Frames.{kind_of, frame_length}
use Rattle.frame_keys.specs.Keys.{begins, find, is_found, key_of}

-- few slots or many, and the numbers of the shortest index that has many
abbrev pub few_slots : ℕ
few_slots = 32

abbrev pub many_slots : ℕ
many_slots = 512

abbrev pub large_index : ℕ
large_index = 1024

-- how many slots an index of n numbers has
abbrev pub slots_for : ℕ → ℕ
slots_for n = pick (ltb n large_index) few_slots many_slots

-- ---- the hash of a key

-- how many hashes there are: each is below
abbrev pub hashes : ℕ
hashes = 512

-- how many of a key's first bytes count, by its kind: all of a query's key; kind, class and operator of a row's
abbrev pub hashed : ℕ → ℕ
hashed b = pick (leb (kind_at b).key 6) (kind_at b).key 4

-- the bytes, mixed into the hash h one after the other
unfoldable pub mixed : ℕ → List ℕ → ℕ
mixed h [] = h
mixed h (b ∷ bs) = mixed ((h * 31 + b) % hashes) bs

-- of a key, or of a frame that begins with it
unfoldable pub hash_of : List ℕ → ℕ
unfolding mixed
hash_of f = mixed 0 (take (hashed (get_or f 0 0)) f)

-- a key with a hash: that of every frame that begins with it
pub record Slotted (k : List ℕ) : Type 0 where
  pub keyed : 0 < (kind_at (get_or k 0 0)).key
  pub enough : hashed (get_or k 0 0) ≤ length k

-- a whole key: an accepted text has at most one frame with it
pub record Proper (k : List ℕ) : Type 0 where
  pub keyed : 0 < (kind_at (get_or k 0 0)).key
  pub whole : (kind_at (get_or k 0 0)).key ≤ length k

-- ---- the search, in an index with so many slots

-- the latest entry of the slot s
abbrev pub latest : List ℕ → ℕ → ℕ
latest i s = get_or i s 0

-- how many entries there are with the frame f, behind m: a frame without a key is not entered
abbrev pub entries_with : List ℕ → ℕ → ℕ
entries_with f m = pick (eqb (kind_of f).key 0) m (m + 1)

module _ (slots : ℕ) where
  -- the slot of a key, or of a frame that begins with it
  abbrev pub slot_of : List ℕ → ℕ
  slot_of k = hash_of k % slots

  -- where the frame of entry e begins
  abbrev pub place_of : List ℕ → ℕ → ℕ
  place_of i e = get_or i (slots + 2 * e) 0

  -- the entry before e in its slot, 0 where there is none
  abbrev pub older_of : List ℕ → ℕ → ℕ
  older_of i e = get_or i (slots + 2 * e + 1) 0

  -- the frame with the key k, from entry e on: at most n entries are looked at
  unfoldable pub searched : List ℕ → List ℕ → List ℕ → ℕ → ℕ → List ℕ
  searched x i k zero e = []
  searched x i k (suc n) e =
      let f = frame_at x (place_of i e) in
      pick (eqb e 0) [] (pick (begins k f) f (searched x i k n (older_of i e)))

  -- by the index i of the sheet x: entries fall, so that no more than the slot's latest are looked at
  unfoldable pub found : List ℕ → List ℕ → List ℕ → List ℕ
  unfolding searched
  found x i k = searched x i k (latest i (slot_of k)) (latest i (slot_of k))

  -- each entry is older than the one that names it
  pub record Falling (i : List ℕ) : Type 0 where
    pub falls : (e : ℕ) → 0 < e → older_of i e < e

  -- whether the key of the frame f is one of the entered frames' too
  abbrev pub given_by : List ℕ → List ℕ → List ℕ → Bool
  given_by x i f = pick (eqb (kind_of f).key 0) false (is_found (found x i (key_of f)))

  -- ---- one more frame: the frame f, which begins at `at`, behind m entries

  -- entry e is the latest of the slot s
  abbrev pub entered : List ℕ → ℕ → ℕ → ℕ → List ℕ
  entered i s at e = set (set (set i (slots + 2 * e) at) (slots + 2 * e + 1) (latest i s)) s e

  -- a frame without a key is not entered
  abbrev pub noted : List ℕ → List ℕ → ℕ → ℕ → List ℕ
  noted i f at m = pick (eqb (kind_of f).key 0) i (entered i (slot_of f) at (m + 1))

  -- there is room for one more entry, and its numbers fit
  pub record Noting (i : List ℕ) (at m : ℕ) : Type 0 where
    pub room : slots + 2 * (m + 1) + 2 ≤ length i
    pub place : at < 65536
    pub few : m + 1 < 65536

  -- ---- an index i of the sheet x, with m entries: its search finds what is to be found among the frames fs
  pub record Indexes (x i : List ℕ) (fs : List (List ℕ)) (m : ℕ) : Type 0 where
    pub falling : Falling i
    pub few : (s : ℕ) → s < slots → latest i s ≤ m
    -- an entered frame ends on the sheet
    pub inside : (e : ℕ) → 0 < e → e ≤ m → place_of i e + frame_length (drop (place_of i e) x) ≤ length x
    pub given : (k : List ℕ) → Slotted k → is_found (found x i k) ≡ is_found (find k fs)
    pub is : (k : List ℕ) → Proper k → found x i k ≡ find k fs

-- an index of the whole sheet
pub record Indexed (x i : List ℕ) : Type 0 where
  pub entries : ℕ
  pub are : Indexes (slots_for (length i)) x i (frames_in x) entries

-- the frame with the key k of the sheet x is found by the index i
pub record Finds (x i k : List ℕ) : Type 0 where
  pub falling : Falling (slots_for (length i)) i
  pub is : found (slots_for (length i)) x i k ≡ find k (frames_in x)
