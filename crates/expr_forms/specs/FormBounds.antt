-- Forms within their bounds. What a reader believes after this file: the variables of a form exist,
-- its numbers lie in the expression's interval, and what it may choose is of the expression's type,
-- and no more than the expression reaches.
use Rattle.std.specs.Prelude.{◌≡◌, ℕ, ◌<◌, ◌≤◌, Bool, true, false, ◌||◌, nat_eq, List, [], ◌∷◌, ℤ, pos, Option, Some, length, Contains}
use Rattle.std.specs.List.{All}
use Rattle.class_table.specs.Outline.{Outline}
use Rattle.conf_types.specs.declared.types.ExprType.{ExprType}
use Rattle.conf_types.specs.declared.types.ExprType.TheVariants as type
use Rattle.conf_types.specs.Trees.{Tree}
use Rattle.conf_types.specs.Typing.{Place, tree_type}
use Rattle.signed_clause.specs.Ranges.{has}
use Rattle.signed_clause.specs.Clauses.{Boxes, box_of}
use Rattle.ground_form.specs.declared.ground.Ground.{Ground}
use Rattle.ground_form.specs.WellMade.{distinct_values, lacks_value}
use Rattle.form_build.specs.Forms.{HasVariable}
use Rattle.form_build.specs.Sums.{IsSum}
use Rattle.object_alloc.specs.Cells.{extent, value_count}
use Rattle.conf_eval.specs.Fitting.{Fits}
use Rattle.conf_limits.specs.Measures.{interval, reach}
use Rattle.expr_forms.specs.declared.form.Choice.{Choice}
use Rattle.expr_forms.specs.declared.form.Choice.TheVariants as choice
use Rattle.expr_forms.specs.declared.form.Member.{Member}
use Rattle.expr_forms.specs.declared.form.Slot.{Slot}
use Rattle.expr_forms.specs.declared.form.Listing.{Listing}
use Rattle.expr_forms.specs.declared.form.Listing.TheVariants as listing
use Rattle.expr_forms.specs.declared.form.Form.{Form}
use Rattle.expr_forms.specs.declared.form.Form.TheVariants as form
use Rattle.expr_forms.specs.FormValues.{number_part, truth_part}
use Rattle.expr_forms.specs.Standing.{Stands, bare_setting}

-- ---- choices

-- the value is the number of a candidate
pub record IsCandidate (P : ℕ → Type 0) (v : ℤ) : Type 0 where
  pub number : ℕ
  pub is : v ≡ pos number
  pub may : P number

-- each value that the variable may have is the number of a candidate
abbrev pub MayBe : Boxes → (ℕ → Type 0) → ℕ → Type 0
MayBe boxes P x = (v : ℤ) → has (box_of boxes x) v ≡ true → IsCandidate P v

-- a map from each value that the variable may have to candidates
pub record IsMap (boxes : Boxes) (P : ℕ → Type 0) (x : ℕ) (map : List (ℤ × ℕ)) : Type 0 where
  pub distinct : distinct_values map ≡ true
  pub held : (v : ℤ) → has (box_of boxes x) v ≡ true → lacks_value v map ≡ false
  pub may : All (λ p. P p.1) map

-- the variable exists, and whatever the choice may be is a candidate
abbrev pub IsChoiceOf : Boxes → (ℕ → Type 0) → Choice → Type 0
IsChoiceOf boxes P (choice.Fixed n) = P n
IsChoiceOf boxes P (choice.Cell x) = (x < length boxes) × MayBe boxes P x
IsChoiceOf boxes P (choice.Mapped x map) = (x < length boxes) × IsMap boxes P x map.items

-- what an object is chosen from: where it is a cell's value, from the extent of class d
abbrev pub IsFrom : Outline → Boxes → ℕ → Choice → Type 0
IsFrom o boxes d (choice.Fixed n) = Unit {0}
IsFrom o boxes d (choice.Cell x) = (d < length o.classes) × MayBe boxes (Contains (extent o d)) x
IsFrom o boxes d (choice.Mapped x map) = Unit {0}

-- ---- lists

-- the object may be a member of a list of class c, and whether it is asks for a variable that
-- exists
pub record IsMember (o : Outline) (boxes : Boxes) (c : ℕ) (m : Member) : Type 0 where
  pub may : Contains (extent o c) m.object
  pub is : HasVariable (length boxes) m.is

-- the owner has a cell among these
abbrev pub has_cell : ℕ → List (ℕ × ℕ) → Bool
has_cell owner [] = false
has_cell owner (p ∷ ps) = nat_eq p.0 owner || has_cell owner ps

-- the object may be a member of a list of class c; the owners' cells exist, and each owner that the
-- map may give for the value of x has one
pub record IsSlot (o : Outline) (boxes : Boxes) (c x : ℕ) (map : List (ℤ × ℕ)) (s : Slot) : Type 0 where
  pub may : Contains (extent o c) s.object
  pub exist : All (λ p. p.1 < length boxes) s.cells.items
  pub owners : IsMap boxes (λ n. has_cell n s.cells.items ≡ true) x map

abbrev pub IsListing : Outline → Boxes → ℕ → Listing → Type 0
IsListing o boxes c (listing.All xs) = All (Contains (extent o c)) xs.items
IsListing o boxes c (listing.Some ms) = All (IsMember o boxes c) ms.items
IsListing o boxes c (listing.Owned x map ss) =
    (x < length boxes) × All (IsSlot o boxes c x map.items) ss.items

-- how many objects may be members
abbrev pub slot_count : Listing → ℕ
slot_count (listing.All xs) = length xs.items
slot_count (listing.Some ms) = length ms.items
slot_count (listing.Owned x map ss) = length ss.items

-- ---- forms

-- the form is of the type, and what it may choose or list is of the type too
abbrev pub IsFormOf : Outline → Boxes → ExprType → Form → Type 0
IsFormOf o boxes type.Int (form.Number f) = Unit {0}
IsFormOf o boxes type.Truth (form.Truth t) = Unit {0}
IsFormOf o boxes (type.Choice e) (form.Choice d c) =
    (d ≡ e) × IsChoiceOf boxes (λ n. n < value_count o e) c
IsFormOf o boxes (type.Object c) (form.Object d x) =
    IsChoiceOf boxes (Contains (extent o c)) x × IsFrom o boxes d x
IsFormOf o boxes (type.Objects c) (form.List l) = IsListing o boxes c l
IsFormOf o boxes (type.Class c) (form.List l) = IsListing o boxes c l
IsFormOf o boxes t f = ⊥

-- how many objects a choice tells apart: where it is a cell, all of the extent of class d
abbrev pub candidate_count : Outline → ℕ → Choice → ℕ
candidate_count o d (choice.Fixed n) = 1
candidate_count o d (choice.Cell x) = length (extent o d)
candidate_count o d (choice.Mapped x map) = length map.items

-- how many objects a form may be or list; 0 of what is none
abbrev pub target_count : Outline → Form → ℕ
target_count o (form.Object d c) = candidate_count o d c
target_count o (form.List l) = slot_count l
target_count o (form.Number f) = 0
target_count o (form.Truth t) = 0
target_count o (form.Choice e c) = 0

-- the form of an expression that stands there
pub record IsForm (o : Outline) (boxes : Boxes) (t : Tree) (this : Option ℕ) (vars : List ℕ) (f : Form) : Type 0 where
  pub number : IsSum boxes (interval o t).low (interval o t).high (number_part f)
  pub truth : HasVariable (length boxes) (truth_part f)
  pub typed : (p : Place) (ty : ExprType) → Fits o [] p (bare_setting o this vars) → tree_type o t p
      ≡ Some ty → IsFormOf o boxes ty f
  pub reached : target_count o f ≤ reach o t

-- the form stands for the expression, and keeps to its bounds
pub record IsGroundForm (o : Outline) (g : Ground) (known : List (ℕ × ℤ)) (t : Tree) (this : Option ℕ) (vars : List ℕ) (f : Form) : Type 0 where
  pub stands : Stands o g known t this vars f
  pub form : IsForm o g.domains t this vars f
