-- Note 3, the answers of a table: "Nodes are row numbers."
use Rattle.std.specs.Prelude.{ℕ, suc, ◌*◌, ◌/◌, min, List, [], ◌∷◌, ◌++◌, length, get_or, eqb, leb}
use Rattle.hexadecimal.specs.Choose.{pick}
use Rattle.buckets.specs.FieldValues.{node_site, child_site}
use Rattle.buckets.specs.Atoms.{Row, class_of, children}
use Rattle.buckets.specs.Running.{among, no_row}
use Rattle.buckets.specs.Wanted.{op_path, wanted}
use Rattle.buckets.specs.Buckets.{numbers_from, strided, hits}

-- "the operator's rows in order"
abbrev pub of_operator : List Row → ℕ → List ℕ
of_operator rs op = numbers_from (wanted (record { path = op_path; place = 0; class = op })) 0 rs

-- "A bucket is the rows in order with the class at that position, or among their children."
abbrev pub bucket : List Row → ℕ → ℕ → ℕ → List ℕ
bucket rs class path position = numbers_from (wanted (record { path = path; place = position; class = class })) 0 rs

-- "Drivers are the operator's rows in order, taken at j times n over min(k, n), rounded down."
unfoldable pub table_drivers : List Row → ℕ → ℕ → List ℕ
table_drivers rs op k = strided (min k (length (of_operator rs op))) (of_operator rs op)

-- the child at a position, where there is one
abbrev pub child_of : List ℕ → ℕ → List ℕ
child_of [] p = []
child_of (c ∷ cs) ℕ.zero = c ∷ []
child_of (c ∷ cs) (suc p) = child_of cs p

-- "the distinct classes in first-seen order", behind those seen
unfoldable pub distinct_from : List ℕ → List ℕ → List ℕ
distinct_from seen [] = seen
distinct_from seen (c ∷ cs) = distinct_from (pick (among c seen) seen (seen ++ c ∷ [])) cs

-- "Site node gives the row's class, child the class at that position, element the distinct classes in first-seen order."
abbrev pub site_classes : ℕ → ℕ → Row → List ℕ
site_classes site position r =
    pick (eqb site node_site) (class_of r ∷ [])
    (pick (eqb site child_site) (child_of (children r) position)
    (distinct_from [] (children r)))

unfoldable pub table_classes : List Row → ℕ → ℕ → ℕ → List ℕ
table_classes rs node site position = site_classes site position (get_or rs node no_row)

-- `PROBE_SCAN_CAP`
abbrev pub scan_most : ℕ
scan_most = 256

-- "Up to 256, those of the probe operator are counted; a longer one is read at j times n over 256 for j below 256, and hits times n over 256 is
-- the length, all rounded down."
abbrev pub scaled_back : ℕ → ℕ → ℕ
scaled_back seen n = pick (leb n scan_most) seen (seen * n / scan_most)

unfoldable pub op_restricted : List Row → ℕ → List ℕ → ℕ
op_restricted rs op b = scaled_back (hits rs op (pick (leb (length b) scan_most) b (strided scan_most b))) (length b)

unfoldable pub table_probe : List Row → ℕ → ℕ → ℕ → ℕ → ℕ
unfolding op_restricted
table_probe rs class path position op = op_restricted rs op (bucket rs class path position)
