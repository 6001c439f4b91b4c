-- What a form is and means stays so when the problem grows.
use Rattle.std.proofs.Common.{◌≡◌, ℕ, ◌<◌, true, List, ℤ, Option, length, take, ap, ◌∙◌, subst, arith}
use Rattle.std.specs.Prelude.{Contains}
use Rattle.std.proofs.lemmas.List.Elements.{All-weaker}
use Rattle.class_table.specs.Outline.{Outline}
use Rattle.conf_types.specs.declared.types.ExprType.{ExprType}
use Rattle.conf_types.specs.declared.types.ExprType.TheVariants as type
use Rattle.conf_types.specs.Trees.{Tree}
use Rattle.object_alloc.specs.Cells.{extent, value_count}
use Rattle.conf_eval.specs.Meaning.{value}
use Rattle.signed_clause.specs.Ranges.{Ranges, has}
use Rattle.signed_clause.specs.Clauses.{Boxes}
use Rattle.ground_form.specs.declared.ground.Ground.{Ground}
use Rattle.form_build.specs.declared.form.Truth.{Truth}
use Rattle.form_build.specs.declared.form.Truth.TheVariants as truth
use Rattle.form_build.specs.Forms.{HasVariable}
use Rattle.form_build.specs.Worlds.{Grows}
use Rattle.form_build.proofs.Growth.{world_before, no_less, box_kept}
use Rattle.expr_forms.specs.declared.form.Choice.{Choice}
use Rattle.expr_forms.specs.declared.form.Choice.TheVariants as choice
use Rattle.expr_forms.specs.declared.form.Member.{Member}
use Rattle.expr_forms.specs.declared.form.Slot.{Slot}
use Rattle.expr_forms.specs.declared.form.Listing.{Listing}
use Rattle.expr_forms.specs.declared.form.Listing.TheVariants as listing
use Rattle.expr_forms.specs.declared.form.Form.{Form}
use Rattle.expr_forms.specs.declared.form.Form.TheVariants as form
use Rattle.expr_forms.specs.FormBounds.{MayBe, IsMap, IsChoiceOf, IsFrom, IsMember, has_cell, IsSlot, IsListing, IsFormOf, IsForm, IsGroundForm}
use Rattle.expr_forms.specs.FormValues.{number_part, truth_part}
use Rattle.expr_forms.specs.Standing.{Stands}
use Rattle.expr_forms.proofs.SumsKept.{AreKept, sum_kept}

-- a form that stands for an expression stands for it still
pub stands_still : (o : Outline) (old new : Ground) (known : List (ℕ × ℤ)) (t : Tree) (this : Option ℕ) (vars : List ℕ) (f : Form) → Grows old new → Stands o old known t this vars f → Stands o new known t this vars f
stands_still o old new known t this vars f g h a w k =
    ap (λ (n : ℕ). value t (record { outline = o; values = take n a; this = this; vars = vars })) g.search ∙ h a (world_before old new a g w) k

pub boxes_kept : (old new : Ground) → Grows old new → AreKept old.domains new.domains
boxes_kept old new g = record { count = no_less old new g; same = λ x lt. box_kept old new x g lt }

module _ (old new : Boxes) (k : AreKept old new) where
  pub variable_kept : (t : Truth) → HasVariable (length old) t → HasVariable (length new) t
  variable_kept (truth.Fixed b) h = tt
  variable_kept (truth.In x s) h = omega (arith, h, k.count)

  may_be_kept : (P : ℕ → Type 0) (x : ℕ) → x < length old → MayBe old P x → MayBe new P x
  may_be_kept P x lt h v has_it = h v (subst (λ (z : Ranges). has z v ≡ true) (k.same x lt) has_it)

  pub map_kept : (P : ℕ → Type 0) (x : ℕ) (map : List (ℤ × ℕ)) → x < length old → IsMap old P x map → IsMap new P x map
  map_kept P x map lt h = record { distinct = h.distinct; held = λ v has_it. h.held v (subst (λ (z : Ranges). has z v ≡ true) (k.same x lt) has_it); may = h.may }

  pub choice_kept : (P : ℕ → Type 0) (c : Choice) → IsChoiceOf old P c → IsChoiceOf new P c
  choice_kept P (choice.Fixed n) h = h
  choice_kept P (choice.Cell x) h = (omega (arith, h.0, k.count), may_be_kept P x h.0 h.1)
  choice_kept P (choice.Mapped x map) h =
      (omega (arith, h.0, k.count), map_kept P x map.items h.0 h.1)

  from_kept : (o : Outline) (d : ℕ) (P : ℕ → Type 0) (c : Choice) → IsChoiceOf old P c → IsFrom o old d c → IsFrom o new d c
  from_kept o d P (choice.Fixed n) h f = tt
  from_kept o d P (choice.Cell x) h f = (f.0, may_be_kept (Contains (extent o d)) x h.0 f.1)
  from_kept o d P (choice.Mapped x map) h f = tt

  member_kept : (o : Outline) (c : ℕ) (m : Member) → IsMember o old c m → IsMember o new c m
  member_kept o c m h = record { may = h.may; is = variable_kept m.is h.is }

  slot_kept : (o : Outline) (c x : ℕ) (map : List (ℤ × ℕ)) (s : Slot) → x < length old → IsSlot o old c x map s → IsSlot o new c x map s
  slot_kept o c x map s lt h = record {
    may = h.may;
    exist = All-weaker (λ (p : ℕ × ℕ). p.1 < length old) (λ (p : ℕ × ℕ). p.1 < length new) (λ p less. omega (arith, less, k.count)) s.cells.items h.exist;
    owners = map_kept (λ n. has_cell n s.cells.items ≡ true) x map lt h.owners;
  }

  pub listing_kept : (o : Outline) (c : ℕ) (l : Listing) → IsListing o old c l → IsListing o new c l
  listing_kept o c (listing.All xs) h = h
  listing_kept o c (listing.Some ms) h = All-weaker (IsMember o old c) (IsMember o new c) (λ m i. member_kept o c m i) ms.items h
  listing_kept o c (listing.Owned x map ss) h =
      (omega (arith, h.0, k.count), All-weaker (IsSlot o old c x map.items) (IsSlot o new c x map.items) (λ s i. slot_kept o c x map.items s h.0 i) ss.items h.1)

  form_of_kept : (o : Outline) (ty : ExprType) (f : Form) → IsFormOf o old ty f → IsFormOf o new ty f
  form_of_kept o type.Int (form.Number f) h = tt
  form_of_kept o type.Truth (form.Truth t) h = tt
  form_of_kept o (type.Choice e) (form.Choice d c) h = (h.0, choice_kept (λ n. n < value_count o e) c h.1)
  form_of_kept o (type.Object c) (form.Object d x) h = (choice_kept (Contains (extent o c)) x h.0, from_kept o d (Contains (extent o c)) x h.0 h.1)
  form_of_kept o (type.Objects c) (form.List l) h = listing_kept o c l h
  form_of_kept o (type.Class c) (form.List l) h = listing_kept o c l h
  form_of_kept o ty f h = absurd h

  pub form_kept : (o : Outline) (t : Tree) (this : Option ℕ) (vars : List ℕ) (f : Form) → IsForm o old t this vars f → IsForm o new t this vars f
  form_kept o t this vars f h = record {
    number = sum_kept old new k _ _ (number_part f) h.number;
    truth = variable_kept (truth_part f) h.truth;
    typed = λ p ty fits is. form_of_kept o ty f (h.typed p ty fits is);
    reached = h.reached;
  }

pub form_still : (o : Outline) (old new : Ground) (t : Tree) (this : Option ℕ) (vars : List ℕ) (f : Form) → Grows old new → IsForm o old.domains t this vars f → IsForm o new.domains t this vars f
form_still o old new t this vars f g h = form_kept old.domains new.domains (boxes_kept old new g) o t this vars f h

-- what stands for an expression stands for it still, within its bounds
pub ground_still : (o : Outline) (old new : Ground) (known : List (ℕ × ℤ)) (t : Tree) (this : Option ℕ) (vars : List ℕ) (f : Form) → Grows old new → IsGroundForm o old known t this vars f → IsGroundForm o new known t this vars f
ground_still o old new known t this vars f g h = record {
  stands = stands_still o old new known t this vars f g h.stands;
  form = form_still o old new t this vars f g h.form;
}
