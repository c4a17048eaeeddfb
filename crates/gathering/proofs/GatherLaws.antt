-- A table's sheet behind a query's: accepted as the query is, and given. Proved from both readings and from the index of the rows.
use Prim.Native.Nat.{ℕ, zero, suc, ◌+◌, ◌-◌, ◌/◌, ◌<◌, ◌≤◌}
use mathlib.Core.Path.{◌≡◌, refl, sym, ◌∙◌, ap, subst}
use mathlib.Core.Bool.{true}
use mathlib.Core.List.{List, [], ◌∷◌, ◌++◌}
use native.Mathlib.Omega.{arith}
use lib.ListN.{length, get_or, take, drop, replicate, length-append, length-drop, length-replicate}
use lib.Seq.{drop-append_seam, drop_at, get_or-append-add, get_or-drop, take-add, take-append_seam, take-append-le, take_at, length-take-le}
use Rattle.reading.proofs.Lists.{blank_at}
use Rattle.frame_tests.specs.Limits.{text_most}
use Rattle.frame_tests.specs.Sheet.{frame_at, frames_in, Whole}
use Rattle.frame_tests.proofs.SheetLaws.{no_frames, frames_step, frame_inside, frame_behind}
use Rattle.reading.specs.Index.{many_slots, slots_for, Indexed, Finds}
use Rattle.reading.proofs.BehindLaws.{found_with_behind}
use Rattle.frame_tests.specs.declared.tests.Text.TheVariants.{Query, Table}
use Rattle.first_reading.specs.First.{frames_of, sheet_size, Sheet}
use Rattle.first_reading.specs.Reading.{Reading}
use Rattle.first_reading.specs.Reading.{Accepted, Refused}
use Rattle.reading.specs.Second.{reading, query_reading}
use Rattle.reading.specs.Rereading.{index_size}
use Rattle.reading.proofs.QueryLaws.{query_accepted}
use Rattle.sampled_frames.proofs.Whole.{accepted}
use Rattle.buckets.specs.RowIndex.{rows_at, table_index, rows_on}
use Rattle.row_indexing.specs.Filling.{TableRoom, TableIndexed}
use Rattle.sampled_frames.proofs.AcceptedLaws.{rows_sheet}
use Rattle.sampled_frames.specs.Given.{QueryKey, Given}
use Rattle.sampled_frames.specs.Sampled.{sampled_from}
use Rattle.sampled_frames.proofs.KeyLaws.{part_first}
use Rattle.sampled_frames.proofs.BehindLaws.{frames_of_lem, frames_behind, find_behind, rows_behind}
use Rattle.sampled_frames.specs.Laid.{part_of, TableLaid, SampledSheet, SampledLaid}
use Rattle.reading.specs.IndexedReading.{index_for, Lent, ReadIndexed}
use Rattle.reading.proofs.LentLaws.{lent_for}
use borrow.Rule.Slice.PartMut.{post_of, put_mid}
use Rattle.std.specs.Prelude.{Result, Ok, Err}
use Rattle.first_reading.specs.declared.first.Fault.{Fault}
use Rattle.first_reading.specs.declared.first.Refusal.{Refusal}
use Rattle.gathering.specs.Gathered.{Asks, BothLent, QueryLaid, AcceptsAs, Both, Gathers}

-- ---- both sheets

module _ (x t q y : List ℕ) (n c : ℕ) (okx : reading Query x ≡ Accepted n c) (sq : Sheet x q) (fs : List (List ℕ)) (sy : SampledSheet fs y) (short : length q < 32768) where
  on_both : frames_in (q ++ y) ≡ frames_of x ++ frames_in y
  on_both = frames_behind (frames_in q) q y refl sq.whole ∙ rw sq.frames

  pub both_frames : frames_in (q ++ y) ≡ frames_of x ++ sampled_from fs
  both_frames = on_both ∙ rw sy.frames

  both_small : length (q ++ y) < 65536
  both_small = omega (arith, length-append q y, short, sy.size)

  table_rows : rows_on (drop (length q) (q ++ y)) ≡ rows_on y
  table_rows = rw (drop-append_seam q y)

  both_rows : rows_on (q ++ y) ≡ rows_on (drop (length q) (q ++ y))
  both_rows = rw (table_rows, on_both) (rows_behind (frames_of x) (frames_in y) (frames_of_lem Query x n c okx))

  pub both_room : (i : List ℕ) → table_index ≤ length i → ((k : ℕ) → rows_at ≤ k → get_or i k 0 ≡ 0) → TableRoom (q ++ y) (length q) i
  both_room i l b = record { small = both_small; room = record { rows = rw table_rows sy.rows; narrow = rw table_rows sy.narrow; size = l; blank = b } }

  some_bytes : 0 < length q
  some_bytes = by q sq.frames (accepted Query x n c okx).lines ((accepted Query x n c okx).some (λ e. let z : ◌≡◌ {A = ℕ} 0 1 = cc in omega arith))
    where
      by : (s : List ℕ) → frames_in s ≡ frames_of x → n ≡ length (frames_of x) → 1 ≤ n → 0 < length s
      by [] e l h = let z : length (frames_of x) ≡ 0 = ap length (sym e ∙ no_frames [] refl) in absurd (omega arith)
      by (b ∷ s) e l h = omega arith

  both_header : frame_at (q ++ y) 0 ≡ frame_at q 0
  both_header =
      let s = frames_step q 0 some_bytes (frame_at q 0) refl in
      let w : Whole (frame_at q 0 ∷ frames_in (drop (0 + length (frame_at q 0)) q)) = rw s at sq.whole in
      frame_behind q y 0 (frame_inside q 0 some_bytes (frame_at q 0) refl w.0)

  pub both_accepted : AcceptsAs x (q ++ y)
  both_accepted = record {
    accepts = record {
      text = x;
      lines = n;
      atoms = c;
      is = okx;
      behind = frames_in y;
      frames = on_both;
      of_table = sy.of_table;
      header = both_header ∙ sq.header;
      size = both_small;
    };
    text = refl;
  }

  pub both_given : (i i' : List ℕ) → Indexed q (take rows_at i) → length i ≡ table_index → TableIndexed (rows_on (drop (length q) (q ++ y))) (q ++ y) rows_at i i' → Given (q ++ y) i'
  both_given i i' d l h = record {
    keyed = record { found = λ k p. rw (← part_first i' (omega (arith, h.size, l)), h.kept) (found k p) };
    rows = λ _. rw both_rows h.rows;
  }
    where
      found : (k : List ℕ) → QueryKey k → Finds (q ++ y) (take rows_at i) k
      found k p = record {
        falling = d.are.falling;
        is = found_with_behind q (take rows_at i) d y k p.proper ∙ rw (on_both, sq.frames) (sym (find_behind k (frames_of x) (frames_in y) p sy.of_table));
      }

-- ---- the table behind the query

module _ (x t s : List ℕ) (size : ℕ) (i k : List ℕ) (l : QueryLaid x t s size i k) (y k' : List ℕ) (v : Reading) (d : ReadIndexed (reading Table t) t y k' v) where
  abbrev laid : List ℕ
  laid = put_mid size (length s - size) s y

  pub table_refused : (f : Fault) → v ≡ Refused f.number f.line → (g : Refusal) → g ≡ record { number = f.number; text = Table; line = f.line } → (i' : List ℕ) → Gathers x t laid i' (Err g)
  table_refused f e g q i' = record {
    refused = λ h p. let o : g ≡ h = cc p in (ap (λ (z : Refusal). z.text) (sym o ∙ q), sym d.is ∙ e ∙ ap (λ (z : Refusal). Refused z.number z.line) (sym q ∙ o));
    both = λ c p. let z : ◌≡◌ {A = ℕ} 0 1 = cc in absurd (omega arith);
  }

  module _ (n c m : ℕ) (e : v ≡ Accepted n c) (z : m ≡ sheet_size (length t) n) where
    okt : reading Table t ≡ Accepted n c
    okt = sym d.is ∙ e

    q_long : length (take size s) ≡ size
    q_long = length-take-le size s (omega (arith, l.fits, l.sheet))

    y_long : m ≤ length y
    y_long = rw z (d.fits n c e)

    y_sheet : Sheet t (take m y)
    y_sheet = rw z (d.sheet n c e)

    -- what stands there is the table's sheet
    part_is : part_of laid size (size + m) ≡ take m y
    part_is =
        let a : size + m - size ≡ m = omega arith in
        rw (a, drop_at (take size s) (y ++ post_of size (length s - size) s) size q_long) (take-append-le m y (post_of size (length s - size) s) y_long)

    before_is : take size laid ≡ take size s
    before_is = take_at (take size s) (y ++ post_of size (length s - size) s) size q_long

    table_fits : size + m ≤ length laid
    table_fits = omega (arith, length-append (take size s) (y ++ post_of size (length s - size) s), length-append y (post_of size (length s - size) s), q_long, y_long)

    pub table_laid : TableLaid laid size (size + m) k'
    table_laid = record {
      from = omega arith;
      fits = table_fits;
      sheet = rw part_is (rows_sheet t (take m y) n c okt y_sheet);
      of_table = rw (part_is, y_sheet.frames) (frames_of_lem Table t n c okt);
      indexed = rw part_is (rw (← z) at (d.indexed n c e));
    }

    module _ (s' : List ℕ) (f : ℕ) (sampled : SampledLaid laid size (size + m) s' f) where
      abbrev q : List ℕ
      q = take size s

      abbrev p : List ℕ
      p = part_of s' size f

      is_both : take f s' ≡ q ++ p
      is_both =
          let a : f ≡ size + (f - size) = omega (arith, sampled.from) in
          ap (λ (b : ℕ). take b s') a ∙ take-add size (f - size) s' ∙ ap (λ (b : List ℕ). b ++ p) (sampled.kept ∙ before_is)

      p_sheet : SampledSheet (frames_of t) p
      p_sheet = subst (λ (fs : List (List ℕ)). SampledSheet fs p) (ap frames_in part_is ∙ y_sheet.frames) sampled.sampled

      short : length q < 32768
      short = omega (arith, q_long, l.fits)

      pub sampled_cut : f ≡ length (take f s')
      sampled_cut = sym (length-take-le f s' sampled.fits)

      pub rows_room : TableRoom (take f s') size i
      rows_room =
          let g : TableRoom (q ++ p) (length q) i = both_room x t q p l.lines l.atoms l.is l.laid (frames_of t) p_sheet short i (omega (arith, l.length_is)) l.blank in
          rw is_both (rw q_long at g)

      pub table_behind : (i' : List ℕ) → TableIndexed (rows_on (drop size (take f s'))) (take f s') rows_at i i' → Gathers x t s' i' (Ok f)
      table_behind i' h = record {
        refused = λ a g. let y : ◌≡◌ {A = ℕ} 0 1 = cc in absurd (omega arith);
        both = λ a g. let o : f ≡ a = cc in rw (← o) both_of;
      }
        where
          given_both : Given (q ++ p) i'
          given_both = both_given x t q p l.lines l.atoms l.is l.laid (frames_of t) p_sheet short i i' l.indexed l.length_is (rw q_long (rw is_both at h))

          both_of : Both x t s' i' f
          both_of = record {
            lines = n;
            rows = c;
            is = okt;
            fits = sampled.fits;
            accepted = rw is_both (both_accepted x t q p l.lines l.atoms l.is l.laid (frames_of t) p_sheet short);
            frames = rw is_both (both_frames x t q p l.lines l.atoms l.is l.laid (frames_of t) p_sheet short);
            given = rw is_both given_both;
          }

-- ---- the query

blank_part : (n : ℕ) (i : List ℕ) → ((j : ℕ) → get_or i j 0 ≡ 0) → (j : ℕ) → get_or (take n i) j 0 ≡ 0
blank_part zero i h j = refl
blank_part (suc n) [] h j = refl
blank_part (suc n) (b ∷ i) h zero = h 0
blank_part (suc n) (b ∷ i) h (suc j) = blank_part n i (λ k. h (suc k)) j

-- behind the first numbers nothing is written
blank_behind : (a : ℕ) (i j : List ℕ) → length j ≡ a → ((e : ℕ) → get_or i e 0 ≡ 0) → (e : ℕ) → a ≤ e → get_or (j ++ drop a i) e 0 ≡ 0
blank_behind a i j l h e g =
    let z : e ≡ length j + (e - a) = omega arith in
    let q : get_or (j ++ drop a i) (length j + (e - a)) 0 ≡ 0 = get_or-append-add j (drop a i) (e - a) 0 ∙ get_or-drop a i (e - a) 0 ∙ h (a + (e - a)) in
    rw z q

-- whatever its length, an index of so many numbers has room
part_room : (n m : ℕ) → n ≡ rows_at → m ≤ 32768 → index_size (slots_for n) m ≤ n
part_room n m e h = rw e (omega arith)

module _ (x t s i k : List ℕ) (asks : Asks x) (l : BothLent t s i k) where
  part_long : length (take rows_at i) ≡ rows_at
  part_long = length-take-le rows_at i (omega (arith, l.size))

  pub query_lent : Lent x s (take rows_at i)
  query_lent = record {
    sheet = record { room = λ h. omega (arith, l.sheet) };
    index = record { room = λ h. part_room (length (take rows_at i)) (length x / 2) part_long (omega arith); blank = blank_part rows_at i l.blank };
  }

  module _ (s' j : List ℕ) (v : Reading) (d : ReadIndexed (query_reading true x) x s' j v) (len : length s' ≡ length s) (size-j : length j ≡ rows_at) where
    pub never_refused : (f : Fault) → v ≡ Refused f.number f.line → (g : Refusal) (i' : List ℕ) → Gathers x t s' i' (Err g)
    never_refused f e g i' = let z : ◌≡◌ {A = ℕ} 0 1 = cc (sym e ∙ d.is ∙ asks.is) in absurd (omega arith)

    pub query_laid : (n c z : ℕ) → v ≡ Accepted n c → z ≡ sheet_size (length x) n → QueryLaid x t s' z (j ++ drop rows_at i) k
    query_laid n c z e h = record {
      lines = n;
      atoms = c;
      is = okx;
      laid = rw h (d.sheet n c e);
      fits = omega (arith, h, (accepted Query x n c okx).size, (accepted Query x n c okx).some (λ e. let z : ◌≡◌ {A = ℕ} 0 1 = cc in omega arith));
      sheet = len ∙ l.sheet;
      indexed = rw (first_part, h) (d.indexed n c e);
      length_is = omega (arith, length-append j (drop rows_at i), length-drop rows_at i, size-j, l.size);
      blank = blank_behind rows_at i j size-j l.blank;
      keys = l.keys;
    }
      where
        okx : reading Query x ≡ Accepted n c
        okx = query_accepted true x n c (sym d.is ∙ e)

        first_part : take rows_at (j ++ drop rows_at i) ≡ j
        first_part = rw size-j at (take-append_seam j (drop rows_at i))

-- ---- arrays of zeros

pub both_lent : (t : List ℕ) → BothLent t (replicate 65536 0) (replicate table_index 0) (replicate (index_for many_slots text_most) 0)
both_lent t = record {
  sheet = length-replicate {A = ℕ} 65536 0;
  size = length-replicate {A = ℕ} table_index 0;
  blank = blank_at table_index 0;
  keys = (lent_for t text_most many_slots refl (λ h. h)).index;
}
