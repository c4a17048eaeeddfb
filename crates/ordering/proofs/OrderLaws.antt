-- What an accepted query gives the order: its atoms' frames and places, few items and few keys, small settings. Proved from the reading.
use Rattle.std.specs.Prelude.{Some, None}
use Prim.Native.Nat.{ℕ, ◌*◌, ◌<◌, ◌≤◌}
use mathlib.Core.Path.{◌≡◌, refl, sym, ◌∙◌, ap}
use mathlib.Core.List.{List, [], ◌∷◌, append-nil}
use native.Mathlib.Omega.{arith}
use lib.ListN.{length, get_or}
use Rattle.query.specs.Sheet.{frames_in}
use Rattle.query.specs.First.{frames_of, Sheet}
use Rattle.query.specs.Text.TheVariants.{Query}
use Rattle.query.specs.Reading.{Reading}
use Rattle.query.specs.Reading.{Accepted}
use Rattle.query.specs.Limits.{items_most}
use Rattle.query.specs.Kinds.{kind_at, items_of}
use Rattle.query.specs.Frames.{kind_of}
use Rattle.query.specs.Second.{reading}
use Rattle.query.specs.SamplerConfig.{SamplerConfig}
use Rattle.query.specs.Statistics.{sampled_of, settings}
use Rattle.query.specs.Bound.{bound_most}
use Rattle.memo_entries.specs.QueryAtoms.{atom_frames}
use Rattle.memo_entries.specs.Choice.{rounds, remembered}
use Rattle.memo_entries.specs.Memo.{keys_most}
use Rattle.query.proofs.KeyLaws.{proper}
use Rattle.behind.proofs.BehindLaws.{find_behind, frames_of_atoms, atoms_behind}
use Rattle.memo_entries.specs.QueryPlans.{atoms_of}
use Rattle.memo_entries.proofs.Remembered.{FewKeys, never, nothing_sampled}
use Rattle.behind.specs.AtomLines.{AtomLine}
use Rattle.placing.specs.Eager.{Located, sheet_atoms}
use Rattle.placing.specs.Places.{Places}
use Rattle.placing.proofs.LocatedPlaces.{frames_length, located}
use Rattle.prices.specs.Prices.{row_size, table_size, FewItems}
use Rattle.scheduling.specs.Remembering.{Samples}
use Rattle.ordering.specs.Accepts.{Accepts}
use Rattle.ordering.proofs.Accepted.{Small, frames_few, atom_lines, atom_items, rounds_memo, rounds_keys, few_keys, small_settings}

-- ---- by what the reading says

pub accepts : (x : List ℕ) (v : Reading) → v ≡ reading Query x → (n c : ℕ) → v ≡ Accepted n c → (s : List ℕ) → Sheet x s → Accepts s
accepts x v is n c e s h = record {
  text = x;
  lines = n;
  atoms = c;
  is = sym is ∙ e;
  behind = [];
  frames = h.frames ∙ sym (append-nil (frames_of x));
  of_table = tt;
  header = h.header;
  size = omega (arith, h.size, h.most);
}

-- ---- the sheet of an accepted query

module _ (s : List ℕ) (a : Accepts s) where
  pub sheet_frames : atom_frames (frames_in s) ≡ atom_frames (frames_of a.text)
  sheet_frames = rw a.frames (frames_of_atoms (frames_of a.text) a.behind a.of_table)

  pub sheet_atoms_lem : sheet_atoms s ≡ atoms_of a.text
  sheet_atoms_lem = rw a.frames (atoms_behind (frames_of a.text) a.behind a.of_table)

  pub sheet_few : length (atom_frames (frames_in s)) ≤ bound_most
  sheet_few = rw sheet_frames (frames_few a.text a.lines a.atoms a.is)

  -- its places fit two bytes
  pub sheet_short : length s < 65536
  sheet_short = a.size

  pub sheet_lines : (k : ℕ) → k < length (atom_frames (frames_in s)) → AtomLine (get_or (atom_frames (frames_in s)) k [])
  sheet_lines = rw sheet_frames (atom_lines a.text a.lines a.atoms a.is)

  pub sheet_items : (k : ℕ) → k < length (atom_frames (frames_in s)) → items_of (kind_of (get_or (atom_frames (frames_in s)) k [])) (get_or (atom_frames (frames_in s)) k []) ≤ items_most
  sheet_items = rw sheet_frames (atom_items a.text a.lines a.atoms a.is)

  pub sheet_memo : (f : ℕ) → length (rounds (frames_in s) (sheet_atoms s) f).memory.tally.memo ≤ items_most * length (sheet_atoms s)
  sheet_memo f = rw sheet_atoms_lem (rounds_memo a.text a.lines a.atoms a.is (frames_in s) f)

  pub sheet_rounds : (f : ℕ) → FewKeys (rounds (frames_in s) (sheet_atoms s) f).memory.tally
  sheet_rounds f = rw sheet_atoms_lem (rounds_keys a.text a.lines a.atoms a.is (frames_in s) f)

  pub sheet_keys : FewKeys (remembered (frames_in s) (sheet_atoms s)).tally
  sheet_keys = rw sheet_atoms_lem (few_keys a.text a.lines a.atoms a.is (frames_in s))

  same_settings : settings (frames_in s) ≡ settings (frames_of a.text)
  unfolding settings kind_at
  same_settings = rw a.frames (ap sampled_of (find_behind (0x20 ∷ []) (frames_of a.text) a.behind (proper _ _ refl refl refl) a.of_table))

  pub sheet_settings : (cfg : SamplerConfig) → settings (frames_in s) ≡ Some cfg → Small cfg
  sheet_settings = rw same_settings (small_settings a.text a.lines a.atoms a.is)

-- ---- the order

pub samples_nothing : (fs : List (List ℕ)) → settings fs ≡ None → Samples fs None
samples_nothing fs e = record { set = sym e; nodes = λ cfg h. never cfg h; resamples = λ cfg h. never cfg h }

pub remembers_nothing : (x : List ℕ) (f : ℕ) → settings (frames_in x) ≡ None → length (rounds (frames_in x) (sheet_atoms x) f).memory.tally.memo ≤ 1
remembers_nothing x f e = rw (nothing_sampled (frames_in x) (sheet_atoms x) f e) (omega arith)

pub samples_some : (x : List ℕ) (cfg : SamplerConfig) → Accepts x → settings (frames_in x) ≡ Some cfg → Samples (frames_in x) (Some cfg)
samples_some x cfg a e = record {
  set = sym e;
  nodes = λ c h. (sheet_settings x a c (e ∙ h)).draws;
  resamples = λ c h. (sheet_settings x a c (e ∙ h)).rounds;
}

pub remembers_some : (x : List ℕ) (f : ℕ) → Accepts x → length (rounds (frames_in x) (sheet_atoms x) f).memory.tally.memo ≤ keys_most
remembers_some x f a = (sheet_rounds x a f).memo_few

-- where there are few atoms, few keys
pub remembers_few : (x from : List ℕ) (n m f : ℕ) → Accepts x → Places x from n → n ≤ m → length (rounds (frames_in x) (sheet_atoms x) f).memory.tally.memo ≤ items_most * m
remembers_few x from n m f a p h = omega (arith, sheet_memo x a f, p.count, frames_length (frames_in x))

-- where its atoms stand
pub places_located : (x from : List ℕ) (n : ℕ) → Accepts x → Places x from n → Located x from n
places_located x from n a p =
    let f = sheet_few x a in
    located x from n p (omega (arith, p.count)) (λ k h. sheet_lines x a k (omega (arith, p.count)))

-- "items 16": each atom's items have room in its row of the table
pub items_fit : (x from : List ℕ) (n : ℕ) → Accepts x → Places x from n → FewItems x from n
items_fit x from n a p = record { few = λ k h. rw (p.is k h) (let i = sheet_items x a k (omega (arith, p.count)) in omega arith) }

-- "atoms 64": as many rows
pub rows_fit : (x from : List ℕ) (n : ℕ) → Accepts x → Places x from n → row_size * n ≤ table_size
rows_fit x from n a p = omega (arith, (places_located x from n a p).few)
