-- The rows that stand, laid row by row. Assumes nothing.
use Prim.Native.Nat.{ℕ, ◌+◌, ◌-◌, ◌*◌, ◌<◌, ◌≤◌}
use mathlib.Core.Path.{◌≡◌, refl, sym, ◌∙◌, ap, subst}
use mathlib.Core.Bool.{Bool, true, false, not}
use mathlib.Core.List.{List, [], ◌∷◌, ◌++◌, map, map-append, append_assoc, append-nil}
use native.Mathlib.Omega.{arith}
use lib.ListN.{length, get_or, take, drop, length-append, length-map}
use lib.Seq.{length-take-le, take-length, take-nil, drop_at}
use lib.Dec.{ltb}
use borrow.Author.Tests.{not-true, not-false}
use Rattle.hexadecimal.proofs.ChooseLaws.{pick_elim}
use Rattle.hexadecimal.specs.Digits.{short_at}
use Rattle.frames.specs.Frames.{kind_of, frame_length}
use Rattle.frames.specs.Sheet.{frame_at, frames_in, laid_out, Whole}
use Rattle.frames.proofs.SheetLaws.{frames_end, frame_some, frame_within, frames_step, frames_laid, laid_more}
use Rattle.indexing.specs.Keys.{key_given}
use Rattle.frame_tests.specs.Faults.{is_row}
use Rattle.indexing.specs.Index.{few_slots, many_slots, large_index, slots_for, Noting, Indexes, noted, entries_with}
use Rattle.indexing.proofs.SlotLaws.{slots_some, keyed_counts}
use Rattle.indexing.proofs.NoteLaws.{noted_line, noted_length, given_is, blank_indexes}
use Rattle.indexing.proofs.BehindLaws.{index_behind}
use Rattle.records.specs.Atoms.{Row}
use Rattle.records.specs.Firsts.{is_among, firsts_from, firsts}
use Rattle.records.specs.Items.{Each, items_at}
use Rattle.records.specs.Leaders.{led_row, led_rows, same_row, standing, standing_below}
use Rattle.records.specs.Rows.{row_of, rows_in, row_frame}
use Rattle.records.proofs.ItemsLaws.{items_count}
use Rattle.records.proofs.RowFrames.{IsRow, is_node_lem, is_literal_lem, row_kind, Small, row_length, row_key_lem, rows_whole, same_given}
use Rattle.standing.specs.Laid.{Lays, lead_on, led_frame}
use Rattle.standing.specs.Stands.{part_of, TurnRoom, Turned, Narrow, StandingRoom, Stands}
use Rattle.standing.proofs.PutLaws.{lays_before, lays_there}
use Rattle.standing.proofs.FrameLaws.{led_length}
use Rattle.standing.proofs.FirstLaws.{firsts_old, firsts_new, below_behind, below_before, below_old}

slots_most : (n : ℕ) → slots_for n ≤ many_slots
slots_most n = pick_elim (λ (m : ℕ). m ≤ many_slots) (ltb n large_index) few_slots many_slots (λ _. omega arith) (λ _. omega arith)

-- the row of a frame, with leaders by the sheet s
abbrev row_by : List ℕ → List ℕ → Row
row_by s f = led_row (lead_on s) (row_of f)

abbrev rows_by : List ℕ → List (List ℕ) → List Row
rows_by s fs = map (led_row (lead_on s)) (rows_in fs)

-- at most 16 children
led_small : (s f : List ℕ) → is_row (get_or f 0 0) ≡ true → Narrow f → Small (row_by s f)
unfolding row_of
led_small s f h w = at (row_kind (get_or f 0 0) h)
  where
    at : IsRow (get_or f 0 0) → Small (row_by s f)
    at (is_node_lem e) = let k = w e in let l = items_at short_at 2 f 5 (get_or f 4 0) in rw (e, length-map l (lead_on s), items_count short_at 2 f 5 (get_or f 4 0)) k
    at (is_literal_lem e) = rw e (omega arith)

led_is : (s f : List ℕ) → led_frame s f ≡ row_frame (row_by s f)
unfolding led_frame
led_is s f = refl

-- ---- an index with one more row, laid behind the first e bytes

module _ (slots : ℕ) (some : 0 < slots) (x i : List ℕ) (rs : List Row) (m : ℕ) (q : Indexes slots x i (map row_frame rs) m) (r : Row) where
  there : drop (length x) (x ++ row_frame r) ≡ row_frame r
  there = drop_at x (row_frame r) (length x) refl

  frame_there : frame_at (x ++ row_frame r) (length x) ≡ row_frame r
  frame_there = rw (there, ← row_length r) (take-length (row_frame r))

  ends_there : length x + frame_length (drop (length x) (x ++ row_frame r)) ≤ length (x ++ row_frame r)
  ends_there = rw (there, ← row_length r, length-append x (row_frame r)) (omega arith)

  pub one_more : slots + 2 * (m + 1) + 2 ≤ length i → key_given (map row_frame rs) (row_frame r) ≡ false → Indexes slots (x ++ row_frame r) (noted slots i (row_frame r) (length x) m) (map row_frame (rs ++ r ∷ [])) (m + 1)
  one_more h g =
      let e : entries_with (row_frame r) m ≡ m + 1 = rw (row_key_lem r) in
      rw (map-append row_frame rs (r ∷ [])) (subst (λ (c : ℕ). Indexes slots (x ++ row_frame r) (noted slots i (row_frame r) (length x) m) (map row_frame rs ++ row_frame r ∷ []) c) e (noted_line slots some (x ++ row_frame r) i (row_frame r) (map row_frame rs) (length x) m (index_behind slots some x i (map row_frame rs) m q (row_frame r)) h frame_there ends_there g))

-- ---- the loop

-- The frames before `at` have had their turn: n rows, m of which stand and are laid on the first e bytes.
pub record Laying (s : List ℕ) (new : ℕ) (o₀ t₀ o t : List ℕ) (at n e m old : ℕ) : Type 0 where
  pub within : at ≤ length s
  pub done : List Row
  pub all : done ++ rows_by s (frames_in (drop at s)) ≡ led_rows (frames_in s)
  pub number : n ≡ length done
  pub few : m ≤ n
  pub count : m ≡ length (firsts same_row done)
  pub below : old ≡ length (firsts same_row (take new done))
  pub behind : e ≤ at
  pub laid : take e o ≡ laid_out (map row_frame (firsts same_row done))
  pub index : Indexes (slots_for (length t)) (take e o) t (map row_frame (firsts same_row done)) m
  pub whole : Whole (frames_in (drop at s))
  pub narrow : Each Narrow (frames_in (drop at s))
  pub out_size : length o ≡ length o₀
  pub seen_size : length t ≡ length t₀

pub laying_starts : (s : List ℕ) (new : ℕ) (o t : List ℕ) → StandingRoom s o t → Laying s new o t o t 0 0 0 0 0
unfolding led_rows firsts_from
laying_starts s new o t w = record {
  within = omega arith;
  done = [];
  all = refl;
  number = refl;
  few = omega arith;
  count = refl;
  below = rw (take-nil {A = Row} new);
  behind = omega arith;
  laid = refl;
  index = blank_indexes (slots_for (length t)) (take 0 o) t w.blank;
  whole = w.sheet.whole;
  narrow = w.sheet.narrow;
  out_size = refl;
  seen_size = refl;
}

module _ {s : List ℕ} {new : ℕ} {o₀ t₀ o t : List ℕ} {at n e m old : ℕ} (q : Laying s new o₀ t₀ o t at n e m old) (w : StandingRoom s o₀ t₀) where
  pub laying_ends : length s ≤ at → Stands s new o (record { bytes = e; old = old })
  unfolding standing standing_below led_rows rows_in
  laying_ends h =
      let d : q.done ≡ led_rows (frames_in s) = sym (append-nil q.done) ∙ ap (λ (fs : List (List ℕ)). q.done ++ rows_by s fs) (sym (frames_end s at h)) ∙ q.all in
      let i : frames_in (take e o) ≡ map row_frame (firsts same_row q.done) = ap frames_in q.laid ∙ frames_laid (map row_frame (firsts same_row q.done)) (rows_whole (firsts same_row q.done)) in
      record {
        within = omega (arith, q.behind, q.within);
        is = i ∙ ap (λ (l : List Row). map row_frame (firsts same_row l)) d;
        whole = rw i (rows_whole (firsts same_row q.done));
        old = q.below ∙ ap (λ (l : List Row). length (firsts same_row (take new l))) d;
      }

  -- the frame f at `at`
  module _ (h : at < length s) (f : List ℕ) (taken : f ≡ frame_at s at) where
    step : frames_in (drop at s) ≡ f ∷ frames_in (drop (at + length f) s)
    step = frames_step s at h f taken

    wholes : Whole (f ∷ frames_in (drop (at + length f) s))
    wholes = rw step at q.whole

    narrows : Each Narrow (f ∷ frames_in (drop (at + length f) s))
    narrows = rw step at q.narrow

    pub next_within : at + length f ≤ length s
    next_within = frame_within s at h f taken

    pub next_fits : at + length f ≤ 32768
    next_fits = omega (arith, next_within, w.sheet.size)

    pub next_less : length s - (at + length f) < length s - at
    next_less = omega (arith, frame_some s at h f taken)

    abbrev rest : List Row
    rest = rows_by s (frames_in (drop (at + length f) s))

    module _ (k : ℕ) (b : Bool) (u : k ≡ get_or f 0 0) (v : b ≡ is_row k) where
      kind_is : is_row (get_or f 0 0) ≡ b
      kind_is = sym (v ∙ ap is_row u)

      pub not_row : not b ≡ true → Laying s new o₀ t₀ o t (at + length f) n e m old
      unfolding rows_in
      not_row y =
          let z : is_row (get_or f 0 0) ≡ false = kind_is ∙ not-true b y in
          record {
            within = next_within;
            done = q.done;
            all = ap (λ (l : List Row). q.done ++ l) (sym (ap (rows_by s) step ∙ rw z)) ∙ q.all;
            number = q.number;
            few = q.few;
            count = q.count;
            below = q.below;
            behind = omega (arith, q.behind);
            laid = q.laid;
            index = q.index;
            whole = wholes.1;
            narrow = narrows.1;
            out_size = q.out_size;
            seen_size = q.seen_size;
          }

      -- it is a row
      module _ (y : not b ≡ false) where
        pub row_here : is_row (get_or f 0 0) ≡ true
        row_here = kind_is ∙ not-false b y

        abbrev row : Row
        row = row_by s f

        all_next : (q.done ++ row ∷ []) ++ rest ≡ led_rows (frames_in s)
        unfolding rows_in
        all_next = append_assoc q.done (row ∷ []) rest ∙ ap (λ (l : List Row). q.done ++ l) (sym (ap (rows_by s) step ∙ rw row_here)) ∙ q.all

        row_long : length (led_frame s f) ≡ length f
        row_long = led_length s f row_here wholes.0

        pub row_room : e + length (led_frame s f) ≤ length o
        row_room = omega (arith, q.behind, row_long, next_within, w.fits, q.out_size)

        pub number_next : n + 1 ≤ 1024
        unfolding led_rows
        number_next =
            let l : length (led_rows (frames_in s)) ≡ length (rows_in (frames_in s)) = length-map (rows_in (frames_in s)) (led_row (lead_on s)) in
            let a = ap length all_next in
            omega (arith, q.number, w.sheet.rows, l, a, length-append (q.done ++ row ∷ []) rest, length-append q.done (row ∷ []))

        -- it is laid behind the first e bytes, up to b'
        module _ {p : List ℕ} {b' : ℕ} (a : Lays o e (led_frame s f) p b') where
          ends : b' ≡ e + length f
          ends = a.end ∙ ap (λ (l : ℕ). e + l) row_long

          e_within : e ≤ length o
          e_within = omega (arith, row_room)

          before : take e p ≡ take e o
          before = lays_before a e_within

          part : part_of p e b' ≡ row_frame row
          part = lays_there a e_within ∙ led_is s f

          noting : Noting (slots_for (length t)) t e m
          noting = record {
            room = omega (arith, slots_most (length t), number_next, q.few, w.room, q.seen_size);
            place = omega (arith, q.behind, h, w.sheet.size);
            few = omega (arith, number_next, q.few);
          }

          pub turn_room : TurnRoom p e b' t m
          turn_room = record {
            from = omega (arith, ends);
            to = omega (arith, ends, q.behind, next_within, w.fits, q.out_size, a.size);
            key = sym (ap (λ (l : List ℕ). (kind_of l).key) part ∙ row_key_lem row);
            falling = q.index.falling;
            noting = noting;
          }

          module _ {t' : List ℕ} {r : Bool} (g : Turned p e b' t m t' r) where
            abbrev stood : List Row
            stood = firsts same_row q.done

            given_here : key_given (map row_frame stood) (row_frame row) ≡ r
            given_here = sym (g.passed ∙ rw (part, before) (given_is (slots_for (length t)) (take e o) t (row_frame row) (map row_frame stood) m q.index (keyed_counts (row_frame row) (row_length row))))

            among : is_among same_row row stood ≡ r
            among = sym (same_given row (led_small s f row_here narrows.0) stood) ∙ given_here

            pub row_passed : r ≡ true → Laying s new o₀ t₀ p t' (at + length f) (n + 1) e m old
            row_passed z =
                let x = among ∙ z in
                let same : t' ≡ t = g.entered ∙ rw z in
                let l : firsts same_row (q.done ++ row ∷ []) ≡ stood = firsts_old q.done row x in
                record {
                  within = next_within;
                  done = q.done ++ row ∷ [];
                  all = all_next;
                  number = omega (arith, q.number, length-append q.done (row ∷ []));
                  few = omega (arith, q.few);
                  count = q.count ∙ ap length (sym l);
                  below = q.below ∙ sym (below_old q.done row new x);
                  behind = omega (arith, q.behind);
                  laid = rw (before, l) q.laid;
                  index = rw (before, l, same) q.index;
                  whole = wholes.1;
                  narrow = narrows.1;
                  out_size = a.size ∙ q.out_size;
                  seen_size = ap length same ∙ q.seen_size;
                }

            -- it stands
            module _ (z : r ≡ false) where
              abbrev noted_here : List ℕ
              noted_here = noted (slots_for (length t)) t (row_frame row) e m

              entered_here : t' ≡ noted_here
              entered_here = g.entered ∙ rw (z, part)

              laid_here : take b' p ≡ take e o ++ row_frame row
              laid_here = a.is ∙ ap (λ (l : List ℕ). take e o ++ l) (led_is s f)

              one_there : Indexes (slots_for (length t)) (take e o ++ row_frame row) noted_here (map row_frame (stood ++ row ∷ [])) (m + 1)
              one_there =
                  let l : length (take e o) ≡ e = length-take-le e o e_within in
                  subst (λ (i : ℕ). Indexes (slots_for (length t)) (take e o ++ row_frame row) (noted (slots_for (length t)) t (row_frame row) i m) (map row_frame (stood ++ row ∷ [])) (m + 1)) l
                  (one_more (slots_for (length t)) (slots_some (length t)) (take e o) t stood m q.index row noting.room (given_here ∙ z))

              stands_so : {old' : ℕ} → old' ≡ length (firsts same_row (take new (q.done ++ row ∷ []))) → Laying s new o₀ t₀ p t' (at + length f) (n + 1) b' (m + 1) old'
              stands_so d =
                  let l : firsts same_row (q.done ++ row ∷ []) ≡ stood ++ row ∷ [] = firsts_new q.done row (among ∙ z) in
                  let o' : length t' ≡ length t = ap length entered_here ∙ noted_length (slots_for (length t)) t (row_frame row) e m in
                  record {
                    within = next_within;
                    done = q.done ++ row ∷ [];
                    all = all_next;
                    number = omega (arith, q.number, length-append q.done (row ∷ []));
                    few = omega (arith, q.few);
                    count = rw l (omega (arith, q.count, length-append stood (row ∷ [])));
                    below = d;
                    behind = omega (arith, ends, q.behind);
                    laid = laid_here ∙ ap (λ (x : List ℕ). x ++ row_frame row) q.laid ∙ sym (laid_more (map row_frame stood) (row_frame row)) ∙ ap laid_out (sym (map-append row_frame stood (row ∷ []))) ∙ ap (λ (x : List Row). laid_out (map row_frame x)) (sym l);
                    index = rw (o', entered_here, laid_here, l) one_there;
                    whole = wholes.1;
                    narrow = narrows.1;
                    out_size = a.size ∙ q.out_size;
                    seen_size = o' ∙ q.seen_size;
                  }

              pub row_new : new < n + 1 → Laying s new o₀ t₀ p t' (at + length f) (n + 1) b' (m + 1) old
              row_new d = stands_so (q.below ∙ sym (below_behind q.done row new (omega (arith, q.number))))

              pub row_old : n + 1 ≤ new → Laying s new o₀ t₀ p t' (at + length f) (n + 1) b' (m + 1) (m + 1)
              row_old d =
                  let l = firsts_new q.done row (among ∙ z) in
                  let c : m + 1 ≡ length (firsts same_row (q.done ++ row ∷ [])) = rw l (omega (arith, q.count, length-append stood (row ∷ []))) in
                  stands_so (c ∙ sym (below_before q.done row new (omega (arith, q.number))))
