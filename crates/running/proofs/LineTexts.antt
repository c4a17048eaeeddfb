-- The text of a match line tells the line: two lines of one plan with the same text are the same. Proved part by part.
use Prim.Native.Nat.{ℕ, zero, suc, ◌/◌, ◌%◌, ◌<◌}
use mathlib.Core.Path.{◌≡◌, refl, sym, ◌∙◌, ap, subst}
use mathlib.Core.Bool.{true}
use mathlib.Core.Option.{Option, none, some}
use mathlib.Core.List.{List, [], ◌∷◌, ◌++◌, flat_map}
use native.Mathlib.Omega.{arith}
use lib.Dec.{T}
use lib.ListN.{length, length-append, get_or, take}
use lib.Pow.{are_bytes}
use lib.Seq.{take_at}
use borrow.Author.Tests.{lt-ltb}
use Rattle.reading_facts.specs.Digits.{digits_of, bytes_of}
use Rattle.reading_facts.proofs.Bytes.{bytes_read}
use Rattle.plans.specs.Tabulate.{tabulate}
use Rattle.plans.specs.Running.{Env, class}
use Rattle.plans.specs.Matching.{Line, Counts, line}
use Rattle.plans.proofs.Carried.{LitHas, EnvHas}
use Rattle.plans.specs.Limits.{class_bytes, lit_bytes, match_kind, match_frame, line_end}
use Rattle.plans.proofs.Frames.{frame_one}
use Rattle.plans.specs.Items.{Each}
use Rattle.plans.proofs.StepsPass.{bytes_append, items_bytes_lem}
use Rattle.running.specs.Run.{line_text}

-- what lines can hold: classes of two bytes, values of four, no sequences
abbrev pub LitSized : Option ℕ → Type 0
LitSized none = Unit {0}
LitSized (some x) = x < 0x1_0000_0000

pub record LineSized (y : Line) : Type 0 where
  pub classes : Each (λ c. c < 0x1_0000) y.classes
  pub literals : Each LitSized y.literals
  pub sequences : y.sequences ≡ []

class_bytes_lem : (c : ℕ) → c < 0x1_0000 → are_bytes (class_bytes c) ≡ true
class_bytes_lem c h = rw (lt-ltb (c / 0x100) 256 (omega arith), lt-ltb (c % 0x100) 256 (omega arith))

lit_bytes_lem : (o : Option ℕ) → LitSized o → are_bytes (lit_bytes o) ≡ true
lit_bytes_lem none h = refl
lit_bytes_lem (some x) h = rw (lt-ltb (x / 0x1_00_0000) 256 (omega arith), lt-ltb (x / 0x1_0000 % 0x100) 256 (omega arith), lt-ltb (x / 0x100 % 0x100) 256 (omega arith), lt-ltb (x % 0x100) 256 (omega arith))

frame_bytes : (y : Line) → LineSized y → are_bytes (match_frame y) ≡ true
unfolding flat_map
frame_bytes y h =
    rw h.sequences
    (bytes_append (match_kind ∷ []) (flat_map class_bytes y.classes ++ (flat_map lit_bytes y.literals ++ [])) refl
    (bytes_append (flat_map class_bytes y.classes) (flat_map lit_bytes y.literals ++ []) (items_bytes_lem class_bytes (λ c. c < 0x1_0000) class_bytes_lem y.classes h.classes)
    (bytes_append (flat_map lit_bytes y.literals) [] (items_bytes_lem lit_bytes LitSized lit_bytes_lem y.literals h.literals) refl)))

-- digits and the line's end tell the frame
text_frame : (f g : List ℕ) → are_bytes f ≡ true → are_bytes g ≡ true → digits_of f ++ (line_end ∷ []) ≡ digits_of g ++ (line_end ∷ []) → f ≡ g
text_frame f g h k e =
    let n : length (digits_of f) ≡ length (digits_of g) = omega (arith, ap length e, length-append (digits_of f) (line_end ∷ []), length-append (digits_of g) (line_end ∷ [])) in
    let d : digits_of f ≡ digits_of g = sym (take_at (digits_of f) (line_end ∷ []) (length (digits_of f)) refl) ∙ ap (take (length (digits_of f))) e ∙ take_at (digits_of g) (line_end ∷ []) (length (digits_of f)) (sym n) in
    sym (bytes_read f (subst T (sym h) tt)) ∙ ap bytes_of d ∙ bytes_read g (subst T (sym k) tt)

-- one-to-one, on what the lines of one plan can hold
pub line_one : (x y : Line) → LineSized x → LineSized y → length x.classes ≡ length y.classes → length x.literals ≡ length y.literals → line_text x ≡ line_text y → x ≡ y
line_one x y h k c l e =
    frame_one x y c l (ap length h.sequences ∙ ap length (sym k.sequences)) (rw h.sequences tt) (rw k.sequences tt)
    (text_frame (match_frame x) (match_frame y) (frame_bytes x h) (frame_bytes y k) e)

-- the line of what a run binds is so
each_tabulate : {X : Type 0} (P : X → Type 0) (n : ℕ) (f : ℕ → X) → ((i : ℕ) → P (f i)) → Each P (tabulate n f)
unfolding tabulate
each_tabulate P zero f h = tt
each_tabulate P (suc n) f h = (h 0, each_tabulate P n (λ i. f (suc i)) (λ i. h (suc i)))

pub line_sized : (n : Counts) → n.sequences ≡ 0 → (σ : Env) → EnvHas (λ c. c < 0x1_0000) (λ x. x < 0x1_0000_0000) σ → LineSized (line n σ)
unfolding tabulate
line_sized n z σ h = record {
  classes = each_tabulate (λ c. c < 0x1_0000) n.variables (class σ) h.classes;
  literals = each_tabulate LitSized n.literals (λ l. get_or σ.literals l none) (λ l. lit (get_or σ.literals l none) (h.literals l));
  sequences = ap (λ k. tabulate k (λ q. get_or σ.sequences q none)) z;
}
  where
    lit : (o : Option ℕ) → LitHas (λ c. c < 0x1_0000) (λ x. x < 0x1_0000_0000) o → LitSized o
    lit none g = tt
    lit (some x) g = g
