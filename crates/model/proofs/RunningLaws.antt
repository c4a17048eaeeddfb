-- Classes, literals and sequences are sorts with lawful tests. Proved by computing.
use mathlib.Core.Path.{◌≡◌, refl}
use mathlib.Core.Bool.{true, false}
use mathlib.Core.Option.{Option, none, some}
use lib.Dec.{eqb}
use borrow.Author.Tests.{eqb-true, eq-eqb}
use Rattle.model.specs.Equality.{same_class, same_list}
use Rattle.model.proofs.EqualityLaws.{same_eq, eq_same, equal_numbers, equal_classes, equal_lists, equal_options}
use Rattle.model.specs.Atoms.{A, unset}
use Rattle.model.proofs.StoresLaws.{Lawful}
use Rattle.model.specs.Running.{class_sort, is_none, lit_sort, seq_sort}

none_is : {A : Type 0} (o : Option A) → is_none o ≡ true → o ≡ none
none_is none h = refl
none_is (some x) h = let z : false ≡ true = h in cc

pub class_lawful : Lawful class_sort
class_lawful = record { free_is = λ a. eqb-true a unset; is_free = eq-eqb unset unset refl; same_is = same_eq; is_same = λ a. eq_same a a refl }

pub lit_lawful : Lawful lit_sort
lit_lawful = record { free_is = none_is; is_free = refl; same_is = (equal_options eqb equal_numbers).is; is_same = (equal_options eqb equal_numbers).self }

pub seq_lawful : Lawful seq_sort
seq_lawful = record { free_is = none_is; is_free = refl; same_is = (equal_options (same_list same_class) (equal_lists same_class equal_classes)).is; is_same = (equal_options (same_list same_class) (equal_lists same_class equal_classes)).self }
