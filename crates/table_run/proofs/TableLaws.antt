-- A run over a table text, by what the reading of the table says. Proved from the run over its sheet.
use Prim.Native.Nat.{ℕ, ◌*◌, ◌/◌, ◌≤◌}
use mathlib.Core.Path.{◌≡◌, refl, sym, ◌∙◌, ap}
use mathlib.Core.Bool.{Bool, true, false}
use mathlib.Core.List.{List, [], ◌∷◌}
use native.Mathlib.Omega.{arith}
use lib.Dec.{leb}
use lib.ListN.{length, get_or}
use borrow.Author.Tests.{leb-true}
use Rattle.reading.proofs.ChooseLaws.{both_hold}
use Rattle.reading.specs.Digits.{short_at}
use Rattle.reading.specs.Fields.{field_passes, field_in}
use Rattle.reading.specs.Counts.{Counts}
use Rattle.reading.specs.Test.TheVariants.{Range}
use Rattle.reading.specs.Kinds.{kinds, kind_at}
use Rattle.frame_tests.specs.Frames.{pass_all, frame_passes}
use Rattle.reading.specs.Keys.{find, is_found}
use Rattle.modes.specs.Rows.{rows_in}
use Rattle.frame_tests.specs.Limits.{text_most, rows_most}
use Rattle.frame_tests.specs.Sheet.{frames_in}
use Rattle.first_reading.specs.First.{frames_of, Sheet}
use Rattle.frame_tests.specs.declared.tests.Text.TheVariants.{Table as TableText}
use Rattle.first_reading.specs.Reading.{Reading}
use Rattle.first_reading.specs.Reading.{Accepted, Refused}
use Rattle.reading.specs.Second.{counts_of, reading}
use Rattle.sheet_run.proofs.Found.{begun_kind, found_at}
use Rattle.sheet_run.proofs.Whole.{Whole, accepted}
use Rattle.sheet_run.proofs.RoomLaws.{rows_number, rows_most_lem, rows_short, table_room}
use Rattle.modes.specs.Running.{Mode}
use Rattle.sheet_run.specs.Tables.{new_from}
use Rattle.sheet_run.proofs.DistinctRows.{distinct_frames}
use Rattle.sheet_run.proofs.AcceptedLaws.{rows_sheet}
use Rattle.sheet_run.specs.Validation.{Invalid, tests_with}
use Rattle.sheet_run.specs.Halts.{Halt}
use Rattle.std.specs.Prelude.{Result, Err}
use Rattle.first_reading.specs.declared.first.Fault.{Fault}
use Rattle.sheet_run.specs.Refusal.{Refusal}
use Rattle.sheet_run.specs.RunEnds.{Ends}
use Rattle.sheet_run.specs.Handed.{Handed}
use Rattle.sheet_run.specs.SheetRuns.{halt_in, SheetLent}
use Rattle.table_run.specs.TableRuns.{table_tests, TableLent}

-- ---- the first new row is one of the table's, or the number of its rows: "frame 33 .. is 5 above the row count"

-- test 5 of a frame 33
row_in : (n : Counts) (f : List ℕ) → get_or f 0 0 ≡ 0x33 → frame_passes (field_passes Range n) f ≡ true → short_at f 1 ≤ n.rows
unfolding kinds kind_at pass_all field_passes field_in
row_in n f e h = let g = (both_hold _ _ (rw e at h)).0 in leb-true (short_at f 1) n.rows (both_hold (leb (short_at f 1) n.rows) true g).0

new_few : (t y : List ℕ) (n c : ℕ) → reading TableText t ≡ Accepted n c → Sheet t y → new_from (frames_in y) ≤ length (rows_in (frames_in y))
new_few t y n c ok h = by (is_found (find (0x33 ∷ []) (frames_of t))) refl
  where
    w : Whole TableText t n c
    w = accepted TableText t n c ok

    by : (b : Bool) → is_found (find (0x33 ∷ []) (frames_of t)) ≡ b → new_from (frames_in y) ≤ length (rows_in (frames_in y))
    by false e = rw (h.frames, e) (omega arith)
    by true e =
        let r = found_at (0x33 ∷ []) (frames_of t) e in
        let k : short_at (get_or (frames_of t) r.at []) 1 ≤ c = row_in (counts_of TableText t c) (get_or (frames_of t) r.at []) (sym (begun_kind 0x33 [] (get_or (frames_of t) r.at []) r.begun)) (w.named r.at (omega (arith, w.lines, r.within))).range in
        let m : length (rows_in (frames_of t)) ≡ c = ap (λ (fs : List (List ℕ)). length (rows_in fs)) (sym h.frames) ∙ rows_number t y n c ok h in
        rw (h.frames, e, r.is, m) k

pub sheet_lent : (t s i R K L : List ℕ) → TableLent t s i R K L → (v : Reading) → v ≡ reading TableText t → (n c : ℕ) → v ≡ Accepted n c → (y : List ℕ) → Sheet t y → SheetLent y R K L
sheet_lent t s i R K L l v is n c e y h =
    let ok : reading TableText t ≡ Accepted n c = sym is ∙ e in
    let size : length t ≤ text_most = (accepted TableText t n c ok).size in
    let few : c ≤ rows_most = omega (arith, rows_number t y n c ok h, rows_most_lem t y n c ok h) in
    let short : 10 * c ≤ length t = omega (arith, rows_number t y n c ok h, rows_short y h.whole, h.size) in
    let half : length y / 2 ≤ length t / 4 = omega (arith, h.size) in
    record {
      decode = record {
        table = record {
          sheet = rows_sheet t y n c ok h;
          apart = rw h.frames (distinct_frames t n c ok);
          new = new_few t y n c ok h;
        };
        room = table_room t y n c ok h R K (l.rows size c short few) (omega (arith, l.children size, half)) l.small;
        half = omega (arith, l.children size, half);
      };
      few = l.few;
      links = l.links;
    }

-- ---- the table is read

module _ (fs : List (List ℕ)) (t : List ℕ) (md : Mode) (v : Reading) (is : v ≡ reading TableText t) where
  pub table_refused : (f : Fault) → v ≡ Refused f.number f.line → (g : Refusal) → g ≡ record { number = f.number; text = TableText; line = f.line } → (h : Halt) (o : List ℕ) → Ends (table_tests fs t md) h o o (Err g)
  table_refused f e g q h o =
      let r : reading TableText t ≡ Refused f.number f.line = sym is ∙ e in
      record { is = rw (q, r); kept = λ _ _. refl; did = λ _ p. let z : ◌≡◌ {A = ℕ} 0 1 = cc in absurd (omega arith) }

  pub table_run : (n c : ℕ) → v ≡ Accepted n c → (y : List ℕ) → Sheet t y → (A : ℕ) (o o' : List ℕ) (r : Result Handed Refusal) → Ends (tests_with fs (frames_in y) md) (halt_in fs (frames_in y) md A o) o o' r → Ends (table_tests fs t md) (halt_in fs (frames_of t) md A o) o o' r
  table_run n c e y s A o o' r h = let q : reading TableText t ≡ Accepted n c = sym is ∙ e in rw (q, ← s.frames) h
