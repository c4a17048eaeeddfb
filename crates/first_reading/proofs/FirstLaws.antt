-- The first reading, a test and a line at a time. Assumes nothing.
use Rattle.std.specs.Prelude.{Some, None}
use Rattle.std.specs.Prelude.{Option as OptionOf}
use Prim.Native.Nat.{ℕ, zero, suc, ◌+◌, ◌-◌, ◌*◌, ◌/◌, ◌%◌, ◌<◌, ◌≤◌}
use mathlib.Core.Path.{◌≡◌, refl, sym, ◌∙◌, ap}
use mathlib.Core.Bool.{Bool, true, false, true≢false}
use mathlib.Core.List.{List, [], ◌∷◌, ◌++◌, map, append_assoc, append-nil}
use native.Mathlib.Numerals.{add-one}
use native.Mathlib.Nat.{zero-add}
use native.Mathlib.Omega.{arith}
use lib.ListN.{length, get_or, take, drop, drop_of_length-le, length-drop, length-take}
use lib.Seq.{drop-cons, length-take-le, drop_at, take-add, take-nil}
use lib.Dec.{eqb}
use borrow.Author.Tests.{lt-ltb, le-ltb, eq-eqb, ne_eqb, eqb-true, eqb-false}
use Rattle.hex_lines.specs.Choose.{pick}
use Rattle.hex_lines.proofs.ChooseLaws.{pick_elim}
use Rattle.hex_lines.specs.Digits.{bytes_of, short_at}
use Rattle.hex_lines.specs.Lines.{split, is_hex, all_digits, hex_line_in, end_of}
use Rattle.hex_lines.specs.Decoding.{Room, Decodes}
use Rattle.hex_lines.proofs.Cuts.{HexLine, hex_found, all_rest, end_is, cut}
use Rattle.line_steps.specs.Text.{Text}
use Rattle.line_steps.specs.Text.TheVariants.{Query, Plan, Table}
use Rattle.first_reading.specs.Reading.{Reading}
use Rattle.first_reading.specs.Reading.{Accepted, Refused}
use Rattle.line_steps.specs.Limits.{text_most}
use Rattle.line_steps.specs.Frames.{frame_length}
use Rattle.line_steps.specs.Sheet.{frame_at, frames_in, laid_out, Whole}
use Rattle.line_steps.specs.Faults.{is_counted, counted, frame_fault}
use Rattle.first_reading.specs.First.{frames_of, line_fault, at_end, or_else, first_lines, first_from, first_line, steps_say, steps_right, empty_text, first_reading, sheet_size, SheetRoom, Sheet, Lays, LinesLaid, FirstLaid}
use Rattle.first_reading.proofs.ReadingLaws.{or_stops}
use Rattle.line_steps.proofs.FaultLaws.{fault_long}
use Rattle.line_steps.proofs.SheetLaws.{no_frames, frame_before, frames_laid, laid_more, whole_more}

-- ---- the lines in turn

-- n lines are passed, c of them counted, and the text from `at` on says the rest; the frames that are passed stand on the sheet up to `to`
pub record Seen (t : Text) (x s s' : List ℕ) (at n c to : ℕ) : Type 0 where
  pub most : c ≤ n
  pub within : at ≤ length x
  pub is : first_from t 0 0 x ≡ first_from t n c (drop at x)
  pub size : length x ≤ text_most
  pub room : length x / 2 ≤ length s
  pub sized : at ≡ 2 * to + n
  pub same : length s' ≡ length s
  pub passed : List (List ℕ)
  pub laid : take to s' ≡ laid_out passed
  pub whole : Whole passed
  pub frames : passed ++ frames_of (drop at x) ≡ frames_of x

pub seen_starts : (t : Text) (x s : List ℕ) → length x ≤ text_most → SheetRoom x s → Seen t x s s 0 0 0 0
seen_starts t x s h r = record {
  most = omega arith;
  within = omega arith;
  is = refl;
  size = h;
  room = r.room h;
  sized = omega arith;
  same = refl;
  passed = [];
  laid = refl;
  whole = tt;
  frames = refl;
}

-- the frame of the first line of an accepted text
empty_end : (n c : ℕ) (r : List ℕ) → at_end 0 0 r ≡ Accepted n c → r ≡ []
empty_end n c [] g = refl
empty_end n c (b ∷ r) g = let z : ◌≡◌ {A = ℕ} 0 1 = cc in absurd (omega arith)

header_by : (t : Text) (x y : List ℕ) (n c : ℕ) (es : List (List ℕ)) → (split x).ended ≡ es → (fs : List (List ℕ)) → y ≡ laid_out fs → Whole fs → fs ≡ frames_of x → first_from t 0 0 x ≡ Accepted n c → frame_at y 0 ≡ bytes_of (first_line x)
unfolding frames_of first_lines
header_by t x y n c [] e fs a w g h =
    let r : (split x).rest ≡ [] = empty_end n c (split x).rest (rw e at h) in
    let z : x ≡ [] = sym (all_rest x e) ∙ r in
    let f : fs ≡ [] = g ∙ rw e in
    let b : y ≡ [] = a ∙ rw f in
    rw (z, b) (take-nil (frame_length []))
header_by t x y n c (l ∷ ls) e fs a w g h =
    let f : fs ≡ bytes_of l ∷ map bytes_of ls = g ∙ rw e in
    let v : Whole (bytes_of l ∷ map bytes_of ls) = rw f at w in
    let b : y ≡ bytes_of l ++ laid_out (map bytes_of ls) = a ∙ rw f in
    let i : end_of 0 x ≡ length l = end_is x 0 l ls e ∙ zero-add (length l) in
    rw (b, i, ← (cut x l ls e).line) (frame_before (bytes_of l) (laid_out (map bytes_of ls)) v.0)

one_more : (t : Text) (c b : ℕ) → counted t c b ≤ c + 1
one_more t c b = pick_elim (λ (m : ℕ). m ≤ c + 1) (is_counted t b) (c + 1) c (λ _. omega arith) (λ _. omega arith)

-- a line of digits has two of them or more, and their number is even
even_line : (l : List ℕ) → is_hex l ≡ true → (1 ≤ length l / 2) × (2 * (length l / 2) ≡ length l)
even_line l = go (eqb (length l) 0) (eqb (length l % 2) 0) (all_digits l) refl refl
  where
    go : (a b d : Bool) → eqb (length l) 0 ≡ a → eqb (length l % 2) 0 ≡ b → pick a false (pick b d false) ≡ true → (1 ≤ length l / 2) × (2 * (length l / 2) ≡ length l)
    go true b d e g h = absurd (true≢false (sym h))
    go false true d e g h = let m = eqb-false _ _ e in let o = eqb-true _ _ g in (omega (arith, z (length l) m o), omega arith)
      where
        z : (k : ℕ) → (k ≡ 0 → ⊥) → k % 2 ≡ 0 → 2 ≤ k
        z zero m o = absurd (m refl)
        z (suc zero) m o = absurd (omega arith)
        z (suc (suc k)) m o = omega arith
    go false false d e g h = absurd (true≢false (sym h))

-- no claim of the sheet where a text is refused
refused_lays : (x s s' : List ℕ) (k l : ℕ) → length s' ≡ length s → Lays x s s' (Refused k l)
refused_lays x s s' k l e = record {
  same = e;
  sheet = λ n c p. let z : ◌≡◌ {A = ℕ} 0 1 = cc in absurd (omega arith);
  fits = λ n c p. let z : ◌≡◌ {A = ℕ} 0 1 = cc in absurd (omega arith);
}

module _ (t : Text) (x s s' : List ℕ) (at n c to : ℕ) (q : Seen t x s s' at n c to) where
  pub decode_room : Room x at s' to
  decode_room = record { size = q.size; within = q.within; room = omega (arith, q.room, q.sized, q.same, q.within) }

  pub lines_few : n ≤ text_most
  lines_few = omega (arith, q.sized, q.size, q.within)

  pub count_few : at < length x → c < text_most
  count_few h = omega (arith, q.most, q.sized, q.size)

  module _ (s'' : List ℕ) (f : OptionOf ℕ) (d : Decodes x at s' to s'' f) where
    no_line : at < length x → (es : List (List ℕ)) → (split (drop at x)).ended ≡ es → hex_line_in at es ≡ None → first_from t n c (drop at x) ≡ Refused 1 (n + 1)
    unfolding first_lines line_fault
    no_line h [] e g = rw (all_rest (drop at x) e, e, drop-cons x at 0 h, add-one n)
    no_line h (l ∷ ls) e g = rw e (go (is_hex l) refl g)
      where
        go : (b : Bool) → is_hex l ≡ b → pick b (Some (at + length l)) None ≡ None → first_lines t n c (l ∷ ls) (split (drop at x)).rest ≡ Refused 1 (n + 1)
        go true e w = let z : ◌≡◌ {A = ℕ} 0 1 = cc in absurd (omega arith)
        go false e w = rw (e, add-one n)

    pub none_refused : at < length x → f ≡ None → LinesLaid t x s s'' (Refused 1 (n + 1))
    none_refused h p = record { is = sym (q.is ∙ no_line h (split (drop at x)).ended refl (sym d.is ∙ p)); lays = refused_lays x s s'' 1 (n + 1) (d.same ∙ q.same) }

    module _ (e : ℕ) (p : f ≡ Some e) where
      line : HexLine x at e
      line = hex_found x at e (sym d.is ∙ p)

      abbrev l : List ℕ
      l = take (e - at) (drop at x)

      long : length l ≡ e - at
      long = length-take-le (e - at) (drop at x) (omega (arith, length-drop at x, line.line.within, line.line.from))

      -- how many bytes the line has, and where it lies
      half : (1 ≤ (e - at) / 2) × (2 * ((e - at) / 2) ≡ e - at)
      half = rw long at (even_line l line.hex)

      pub behind_half : (e + 1 - at) / 2 ≡ (e - at) / 2
      behind_half = omega (arith, half.1, line.line.from)

      pub end_within : to + (e - at) / 2 ≤ length s''
      end_within = omega (arith, line.line.within, line.line.from, half.1, q.sized, q.room, q.same, d.same)

      pub end_few : to + (e - at) / 2 ≤ text_most
      end_few = omega (arith, line.line.within, line.line.from, half.1, q.sized, q.size)

      pub found_from : at ≤ e
      found_from = line.line.from

      pub found_within : e < length x
      found_within = line.line.within

      -- the frame on the sheet
      abbrev f₀ : List ℕ
      f₀ = take ((e - at) / 2) (drop to s'')

      pub frame_long : length f₀ ≡ (e - at) / 2
      frame_long = length-take-le ((e - at) / 2) (drop to s'') (omega (arith, end_within, length-drop to s''))

      part_is : f₀ ≡ bytes_of l
      part_is =
          let b : length (take to s') ≡ to = length-take-le to s' (omega (arith, q.sized, q.within, q.room, q.same)) in
          let u : length (take to s'') ≡ to = length-take-le to s'' (omega (arith, q.sized, q.within, q.room, q.same, d.same)) in
          sym (drop_at (take to s'') f₀ to u)
          ∙ ap (drop to) (sym (take-add to ((e - at) / 2) s'') ∙ d.laid e p)
          ∙ drop_at (take to s') (bytes_of l) to b

      module _ (k : ℕ) (r : k ≡ frame_fault t (eqb n 0) c f₀) where
        fault : k ≡ frame_fault t (eqb n 0) c (bytes_of l)
        fault = r ∙ ap (frame_fault t (eqb n 0) c) part_is

        line_says : first_from t 0 0 x ≡ or_else k n (first_from t (suc n) (counted t c (get_or (bytes_of l) 0 0)) (drop (e + 1) x))
        unfolding first_lines line_fault
        line_says = q.is ∙ rw (line.line.splits, line.hex, ← fault)

        pub line_refused : (k ≡ 0 → ⊥) → LinesLaid t x s s'' (Refused k (n + 1))
        line_refused z = record { is = sym (line_says ∙ or_stops k n _ z ∙ rw (add-one n)); lays = refused_lays x s s'' k (n + 1) (d.same ∙ q.same) }

        frames_cut : frames_of (drop at x) ≡ bytes_of l ∷ frames_of (drop (e + 1) x)
        unfolding frames_of
        frames_cut = rw line.line.splits

        pub next_seen : k ≡ 0 → Seen t x s s'' (e + 1) (n + 1) (counted t c (get_or f₀ 0 0)) (to + (e - at) / 2)
        next_seen z = record {
          most = omega (arith, q.most, one_more t c (get_or f₀ 0 0));
          within = omega (arith, line.line.within);
          is = line_says ∙ rw (z, ← part_is, add-one n);
          size = q.size;
          room = q.room;
          sized = omega (arith, q.sized, half.1, line.line.from);
          same = d.same ∙ q.same;
          passed = q.passed ++ bytes_of l ∷ [];
          laid = d.laid e p ∙ ap (λ (a : List ℕ). a ++ bytes_of l) q.laid ∙ sym (laid_more q.passed (bytes_of l));
          whole = whole_more q.passed (bytes_of l) q.whole (fault_long t (eqb n 0) c (bytes_of l) (sym fault ∙ z));
          frames = append_assoc q.passed (bytes_of l ∷ []) (frames_of (drop (e + 1) x)) ∙ ap (λ (fs : List (List ℕ)). q.passed ++ fs) (sym frames_cut) ∙ q.frames;
        }

  -- the whole sheet
  module _ (h : length x ≤ at) where
    all_frames : q.passed ≡ frames_of x
    unfolding frames_of split
    all_frames = sym (append-nil q.passed) ∙ ap (λ (l : List ℕ). q.passed ++ frames_of l) (sym (drop_of_length-le x h)) ∙ q.frames

    says : first_from t 0 0 x ≡ Accepted n c
    unfolding first_lines split
    says = q.is ∙ rw (drop_of_length-le x h)

    header_is : frame_at (take to s') 0 ≡ bytes_of (first_line x)
    header_is = header_by t x (take to s') n c (split x).ended refl q.passed q.laid q.whole all_frames says

    pub all_passed : LinesLaid t x s s' (Accepted n c)
    all_passed = record {
      is = sym says;
      lays = record {
        same = q.same;
        sheet = λ n' c' p. laid_here n' (same_lines n' c' p);
        fits = λ n' c' p. fits_here n' (same_lines n' c' p);
      };
    }
      where
        same_lines : (n' c' : ℕ) → Accepted n c ≡ Accepted n' c' → n ≡ n'
        same_lines n' c' p = cc

        size_is : (n' : ℕ) → n ≡ n' → sheet_size (length x) n' ≡ to
        size_is n' p = omega (arith, q.sized, q.within)

        fits_here : (n' : ℕ) → n ≡ n' → sheet_size (length x) n' ≤ length s
        fits_here n' p = rw (size_is n' p) (omega (arith, q.sized, q.within, q.room))

        laid_here : (n' : ℕ) → n ≡ n' → Sheet x (take (sheet_size (length x) n') s')
        laid_here n' p =
            let o : frames_in (take to s') ≡ q.passed = ap frames_in q.laid ∙ frames_laid q.passed q.whole in
            rw (size_is n' p)
            (record {
              frames = o ∙ all_frames;
              whole = rw o q.whole;
              header = header_is;
              size = omega (arith, length-take to s', q.sized, q.within);
              most = q.size;
            })

-- ---- the step count, and the whole

module _ (t : Text) (x s : List ℕ) (f : Reading) (p : t ≡ Plan) where
  module _ (n c : ℕ) (q : f ≡ Accepted n c) (g : Lays x s s f) (z : ℕ) (u : z ≡ sheet_size (length x) n) where
    pub size_fits : z ≡ length (take z s)
    size_fits = sym (length-take-le z s (rw u (g.fits n c q)))

    module _ (h : List ℕ) (v : ℕ) (o : h ≡ frame_at (take z s) 0) (r : v ≡ short_at h 4) where
      say : v ≡ steps_say x
      say = r ∙ ap (λ (l : List ℕ). short_at l 4) (o ∙ ap (λ (m : ℕ). frame_at (take m s) 0) u ∙ (g.sheet n c q).header)

      pub steps_agree : v + 1 ≡ n → Accepted n c ≡ steps_right t x f
      steps_agree e = rw (p, q, ← say, eq-eqb _ _ e)

      pub steps_differ : (v + 1 ≡ n → ⊥) → Refused 3 1 ≡ steps_right t x f
      steps_differ e = rw (p, q, ← say, ne_eqb _ _ e)

-- a refusal of the lines stands
steps_stop : (t : Text) (x : List ℕ) (k l : ℕ) → Refused k l ≡ steps_right t x (Refused k l)
steps_stop Query x k l = refl
steps_stop Table x k l = refl
steps_stop Plan x k l = refl

-- what was laid stays so for the next function
pub lays_again : (x s s' : List ℕ) (f : Reading) → Lays x s s' f → Lays x s' s' f
lays_again x s s' f g = record { same = refl; sheet = g.sheet; fits = λ n c p. rw g.same (g.fits n c p) }

accepted_by : (t : Text) (x : List ℕ) (f : Reading) (n c : ℕ) → steps_right t x f ≡ Accepted n c → f ≡ Accepted n c
accepted_by Query x f n c p = p
accepted_by Table x f n c p = p
accepted_by Plan x (Refused k l) n c p = p
accepted_by Plan x (Accepted m d) n c p = go (eqb (steps_say x + 1) m) p
  where
    go : (b : Bool) → pick b (Accepted m d) (Refused 3 1) ≡ Accepted n c → Accepted m d ≡ Accepted n c
    go true p = p
    go false p = let z : ◌≡◌ {A = ℕ} 0 1 = cc in absurd (omega arith)

module _ (t : Text) (x s : List ℕ) where
  pub too_long : text_most < length x → FirstLaid t x s s (Refused 4 0)
  unfolding first_reading
  too_long h = record { is = rw (lt-ltb _ _ h); lays = refused_lays x s s 4 0 refl }

  module _ (h : length x ≤ text_most) where
    pub is_empty : (a : Reading) → length x ≡ 0 → a ≡ empty_text t → FirstLaid t x s s a
    unfolding first_reading frames_of split
    is_empty a e p = record { is = rw (le-ltb _ _ h, eq-eqb _ _ e) p; lays = record { same = refl; sheet = λ n c q. blank x e n c; fits = λ n c q. omega arith } }
      where
        blank : (x : List ℕ) → length x ≡ 0 → (n c : ℕ) → Sheet x (take (sheet_size (length x) n) s)
        blank [] e n c = let z : (0 - n) / 2 ≡ 0 = omega arith in rw z (record { frames = no_frames [] refl; whole = rw (no_frames [] refl) tt; header = take-nil (frame_length []); size = omega arith; most = omega arith })
        blank (b ∷ x) e n c = absurd (omega arith)

    pub is_read : (s' : List ℕ) (a b : Reading) → (length x ≡ 0 → ⊥) → LinesLaid t x s s' a → b ≡ steps_right t x a → FirstLaid t x s s' b
    unfolding first_reading
    is_read s' a b e p q = record {
      is = rw (le-ltb _ _ h, ne_eqb _ _ e, ← p.is) q;
      lays = record {
        same = p.lays.same;
        sheet = λ n c g. p.lays.sheet n c (accepted_by t x a n c (sym q ∙ g));
        fits = λ n c g. p.lays.fits n c (accepted_by t x a n c (sym q ∙ g));
      };
    }

    pub refused_on : (s' : List ℕ) (k l : ℕ) → (length x ≡ 0 → ⊥) → LinesLaid t x s s' (Refused k l) → FirstLaid t x s s' (Refused k l)
    refused_on s' k l e p = is_read s' (Refused k l) (Refused k l) e p (steps_stop t x k l)
