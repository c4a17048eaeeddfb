-- The prices of a query's atoms that no sample changes, in one table: each is found once, before the rounds.
use Rattle.std.specs.Prelude.{ℕ, ◌+◌, ◌*◌, ◌<◌, ◌≤◌, ◌≡◌, Bool, List, ltb, length, get_or, take, drop, Float}
use Rattle.fields.specs.Limits.{atoms_most}
use Rattle.frames.specs.Sheet.{frame_at, frames_in}
use Rattle.kinds.specs.Kinds.{items_of}
use Rattle.frames.specs.Frames.{kind_of}
use Rattle.measure.specs.Selectivity.{zero64, path_selectivity}
use Rattle.passes.specs.Statistics.{base_card, denominator}
use Rattle.prices.specs.Items.{item_fan, repr_cost}
use Rattle.prices.specs.declared.items.Items.{Items}
use Rattle.prices.specs.declared.items.Item.{Item}

-- ---- a row: an atom's base, its cost where its node is bound, and its items' selectivities. "items 16"
abbrev pub row_size : ℕ
row_size = 18

-- a row for each atom: "atoms 64"
abbrev pub table_size : ℕ
table_size = row_size * atoms_most

-- the selectivity of an item of an atom of operator o, an element or a child, at position j, where it is not sampled
abbrev pub item_price : List (List ℕ) → ℕ → Bool → ℕ → Float
item_price fs o t j = path_selectivity (item_fan fs o t j) (denominator fs o)

-- an item is priced in the row ps
pub record ItemPriced (fs : List (List ℕ)) (x : Item) (ps : List Float) : Type 0 where
  pub room : x.position + 2 < length ps
  pub is : get_or ps (x.position + 2) zero64 ≡ item_price fs x.op x.element x.position

-- the first m of the items g are priced in the row qs, which is ps before
pub record ItemsPriced (fs : List (List ℕ)) (g : Items) (m : ℕ) (ps qs : List Float) : Type 0 where
  pub few : m ≤ g.count
  pub size : length qs ≡ length ps
  pub front : take 2 qs ≡ take 2 ps
  pub is : (j : ℕ) → j < m → get_or qs (j + 2) zero64 ≡ item_price fs g.op g.elements j

-- all items of the frame f are priced in the row ps
pub record RowItems (fs : List (List ℕ)) (f : List ℕ) (ps : List Float) : Type 0 where
  pub room : items_of (kind_of f) f + 2 ≤ length ps
  pub is : (j : ℕ) → j < items_of (kind_of f) f → get_or ps (j + 2) zero64 ≡ item_price fs (get_or f 2 0) (ltb 6 (get_or f 0 0)) j

-- the row of atom number k, by its frame f
pub record AtomPrices (fs : List (List ℕ)) (f : List ℕ) (k : ℕ) (ps : List Float) : Type 0 where
  pub base : get_or ps 0 zero64 ≡ base_card fs (get_or f 2 0) k
  pub node : get_or ps 1 zero64 ≡ repr_cost fs (get_or f 2 0) k
  pub items : RowItems fs f ps

-- ---- the table: a row for each atom

abbrev pub row_at : List Float → ℕ → List Float
row_at ps k = take row_size (drop (row_size * k) ps)

-- the frame of atom number k
abbrev pub atom_frame : List ℕ → List ℕ → ℕ → List ℕ
atom_frame x from k = frame_at x (get_or from k 0)

-- the items of each of the n atoms have room in a row
pub record FewItems (x from : List ℕ) (n : ℕ) : Type 0 where
  pub few : (k : ℕ) → k < n → items_of (kind_of (atom_frame x from k)) (atom_frame x from k) + 2 ≤ row_size

-- the rows of the first n atoms
pub record Priced (x from : List ℕ) (n : ℕ) (ps : List Float) : Type 0 where
  pub room : row_size * n ≤ length ps
  pub rows : (k : ℕ) → k < n → AtomPrices (frames_in x) (atom_frame x from k) k (row_at ps k)
