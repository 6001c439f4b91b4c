-- Comparisons before they are stated, pushed into a disjunction, or made a truth. What a reader
-- believes after this file: when a test passes, and what it has to meet over the boxes.
use Rattle.std.specs.Prelude.{◌^◌, ◌<◌, Bool, true, false, not, List, ℤ, pos, length, int_le}
use Rattle.std.specs.Ordering.{int_eq}
use Rattle.signed_clause.specs.Clauses.{Boxes}
use Rattle.ground_form.specs.Meaning.{value_of}
use Rattle.ground_form.specs.Bounds.{most_sum}
use Rattle.form_build.specs.Forms.{linear_at, truth_at, HasVariable}
use Rattle.form_build.specs.Sums.{IsLinear}
use Rattle.form_truths.specs.declared.tests.Test.{Test}
use Rattle.form_truths.specs.declared.tests.Test.TheVariants.{Holds, AtMost, Zero, Same}

-- the truth itself, or the other one
abbrev pub wanted : Bool → Bool → Bool
wanted true b = b
wanted false b = not b

-- whether the test passes
abbrev pub test_at : Test → List ℤ → Bool
test_at (Holds t) a = truth_at t a
test_at (AtMost f) a = int_le (linear_at f a) (pos 0)
test_at (Zero f want) a = wanted want (int_eq (linear_at f a) (pos 0))
test_at (Same x y want) a = wanted want (int_eq (value_of a x) (value_of a y))

-- the test's variables exist, and its sums are in good order
abbrev pub IsTest : Boxes → Test → Type 0
IsTest boxes (Holds t) = HasVariable (length boxes) t
IsTest boxes (AtMost f) = IsLinear most_sum boxes f
IsTest boxes (Zero f want) = IsLinear most_sum boxes f
IsTest boxes (Same x y want) = (x < length boxes) × (y < length boxes)
