-- What forms mean. What a reader believes after this file: which value of the language a form is at
-- values of the variables.
use Rattle.std.specs.Prelude.{ℕ, false, cond, List, [], ◌∷◌, ℤ, pos, nat_abs, nat_eq}
use Rattle.std.specs.Ordering.{int_eq}
use Rattle.ground_form.specs.Meaning.{value_of}
use Rattle.form_build.specs.declared.form.Linear.{Linear}
use Rattle.form_build.specs.declared.form.Truth.{Truth as ATruth}
use Rattle.form_build.specs.declared.form.Truth.TheVariants as truth
use Rattle.form_build.specs.Forms.{linear_at, truth_at}
use Rattle.conf_eval.specs.declared.value.Value.{Value}
use Rattle.conf_eval.specs.declared.value.Value.TheVariants.{Int, Truth, Choice, Object, Objects}
use Rattle.expr_forms.specs.declared.form.Choice.{Choice as AChoice}
use Rattle.expr_forms.specs.declared.form.Choice.TheVariants as choice
use Rattle.expr_forms.specs.declared.form.Member.{Member}
use Rattle.expr_forms.specs.declared.form.Slot.{Slot}
use Rattle.expr_forms.specs.declared.form.Listing.{Listing}
use Rattle.expr_forms.specs.declared.form.Listing.TheVariants as listing
use Rattle.expr_forms.specs.declared.form.Form.{Form}
use Rattle.expr_forms.specs.declared.form.Form.TheVariants as form

-- the number that goes with a value, 0 where none does
abbrev pub number_for : ℤ → List (ℤ × ℕ) → ℕ
number_for v [] = 0
number_for v (p ∷ ps) = cond (int_eq p.0 v) p.1 (number_for v ps)

-- the number of the object or of the enumeration's value
abbrev pub choice_at : AChoice → List ℤ → ℕ
choice_at (choice.Fixed n) a = n
choice_at (choice.Cell x) a = nat_abs (value_of a x)
choice_at (choice.Mapped x map) a = number_for (value_of a x) map.items

-- those of these objects that are members
abbrev pub members_at : List Member → List ℤ → List ℕ
members_at [] a = []
members_at (m ∷ ms) a = cond (truth_at m.is a) (m.object ∷ members_at ms a) (members_at ms a)

-- the value of the cell that goes with the owner, 0 where none does
abbrev pub cell_for : ℕ → List (ℕ × ℕ) → List ℤ → ℤ
cell_for owner [] a = pos 0
cell_for owner (p ∷ ps) a = cond (nat_eq p.0 owner) (value_of a p.1) (cell_for owner ps a)

-- the members of the owner's set
abbrev pub owned_at : ℕ → List Slot → List ℤ → List ℕ
owned_at owner [] a = []
owned_at owner (s ∷ ss) a =
    cond (int_eq (cell_for owner s.cells.items a) (pos 1)) (s.object ∷ owned_at owner ss a)
    (owned_at owner ss a)

-- the objects of a list
abbrev pub listing_at : Listing → List ℤ → List ℕ
listing_at (listing.All xs) a = xs.items
listing_at (listing.Some ms) a = members_at ms.items a
listing_at (listing.Owned x map ss) a = owned_at (number_for (value_of a x) map.items) ss.items a

-- the value of a form
abbrev pub form_value : Form → List ℤ → Value
form_value (form.Number f) a = Int (linear_at f a)
form_value (form.Truth t) a = Truth (truth_at t a)
form_value (form.Choice e c) a = Choice e (choice_at c a)
form_value (form.Object d c) a = Object (choice_at c a)
form_value (form.List l) a = Objects (listing_at l a)

-- ---- the part of a form that is of a kind, and nothing where it is of another

abbrev pub nought : Linear
nought = record { terms = []; offset = pos 0 }

abbrev pub number_part : Form → Linear
number_part (form.Number f) = f
number_part (form.Truth t) = nought
number_part (form.Choice e c) = nought
number_part (form.Object d c) = nought
number_part (form.List l) = nought

abbrev pub truth_part : Form → ATruth
truth_part (form.Truth t) = t
truth_part (form.Number f) = truth.Fixed false
truth_part (form.Choice e c) = truth.Fixed false
truth_part (form.Object d c) = truth.Fixed false
truth_part (form.List l) = truth.Fixed false
