-- What is handed in beside a query, by whether there is a table; and a query that is read.
use denote.Ref.{Bor}
use Prim.Native.Nat.{ℕ, ◌≤◌}
use mathlib.Core.Path.{◌≡◌, refl, ap, sym, ◌∙◌}
use mathlib.Core.Bool.{Bool, true, false, true≢false}
use mathlib.Core.List.{List, []}
use Rattle.std.specs.Prelude.{Some, None, Ok, Err, is_some, unwrap_or}
use Rattle.std.specs.Prelude.{Option as OptionOf, Result as ResultOf}
use Rattle.std.proofs.Math.Option.{Option, none, some}
use native.Mathlib.Omega.{arith}
use lib.ListN.{length}
use Rattle.first_reading.specs.declared.first.Fault.{Fault}
use Rattle.first_reading.specs.declared.first.Refusal.{Refusal}
use Rattle.first_reading.specs.Reading.{Reading, Accepted, Refused}
use Rattle.first_reading.specs.First.{sheet_size}
use Rattle.frame_tests.specs.declared.tests.Text.TheVariants.{Query}
use Rattle.reading.specs.Second.{query_reading}
use Rattle.reading.specs.IndexedReading.{ReadIndexed}
use Rattle.buckets.specs.RowIndex.{rows_at}
use Rattle.gathering.specs.Gathered.{ReadsBeside}
use Rattle.gathering.specs.Handed.{handed, handed_if}

-- the text that is handed in, and none where there is none
abbrev pub table_in : OptionOf (Bor (List ℕ)) → List ℕ
table_in None = []
table_in (Some t) = t.now

pub handed_is : (o : OptionOf (Bor (List ℕ))) → handed o ≡ handed_if (is_some o) (table_in o)
handed_is None = refl
handed_is (Some t) = refl

pub table_is : (o : OptionOf (Bor (List ℕ))) (d : Bor (List ℕ)) → is_some o ≡ true → (unwrap_or o d).now ≡ table_in o
table_is None d e = absurd (true≢false (sym e))
table_is (Some t) d e = refl

-- ---- a query that is read

module _ (x : List ℕ) (o : OptionOf (Bor (List ℕ))) (s i : List ℕ) (v : Reading) (d : ReadIndexed (query_reading (is_some o) x) x s i v) where
  pub beside_refused : (f : Fault) → v ≡ Refused f.number f.line → (g : Refusal) → g ≡ record { number = f.number; text = Query; line = f.line } → ReadsBeside x o s i (Err g)
  beside_refused f e g q = record {
    refused = λ h p. let b : g ≡ h = cc p in (ap (λ (z : Refusal). z.text) (sym b ∙ q), sym d.is ∙ e ∙ ap (λ (z : Refusal). Refused z.number z.line) (sym q ∙ b));
    read = λ e p. let z : ◌≡◌ {A = ℕ} 0 1 = cc in absurd (omega arith);
  }

  pub beside_read : (n c z : ℕ) → v ≡ Accepted n c → z ≡ sheet_size (length x) n → length i ≤ rows_at → ReadsBeside x o s i (Ok z)
  beside_read n c z e u w = record {
    refused = λ f p. let z : ◌≡◌ {A = ℕ} 0 1 = cc in absurd (omega arith);
    read = λ y p. let b : z ≡ y = cc p in rw (← b, u)
        (d.fits n c e, record { lines = n; atoms = c; is = sym d.is ∙ e; sheet = d.sheet n c e; indexed = d.indexed n c e; few = w });
  }
