-- Attributes of an object that is chosen, by the kind of the choice.
use Rattle.std.proofs.Common.{◌≡◌, ℕ, ◌<◌, List, [], ℤ, Some, length, take, Global, sym, ap, ◌∙◌, subst, arith}
use Rattle.std.specs.Prelude.{Contains}
use Rattle.std.specs.declared.vec.Vec.{Vec}
use Rattle.std.specs.List.{All}
use Rattle.std.proofs.lemmas.List.Elements.{All-weaker}
use Rattle.class_table.specs.declared.table.Resolved.{Resolved}
use Rattle.class_table.specs.Outline.{Outline}
use Rattle.class_table.specs.Sound.{IsSound}
use Rattle.class_table.specs.Tables.{IsShapeOf}
use Rattle.object_alloc.specs.Cells.{extent}
use Rattle.conf_eval.specs.Meaning.{attribute_value}
use Rattle.signed_clause.specs.Clauses.{Boxes, box_of}
use Rattle.ground_form.specs.declared.ground.Ground.{Ground}
use Rattle.ground_form.specs.Meaning.{value_of}
use Rattle.ground_form.specs.WellMade.{IsWellMade}
use Rattle.form_build.specs.Worlds.{Grows, Defines, AreSome}
use Rattle.form_build.proofs.Growth.{world_before, adds_nothing}
use Rattle.expr_forms.specs.declared.form.Choice.{Choice}
use Rattle.expr_forms.specs.declared.form.Choice.TheVariants as choice
use Rattle.expr_forms.specs.declared.form.Form.{Form}
use Rattle.expr_forms.specs.FormBounds.{MayBe, IsMap, IsChoiceOf}
use Rattle.expr_forms.specs.FormValues.{number_for}
use Rattle.reference_forms.specs.Attributes.{IsAttributeForm}
use Rattle.reference_forms.proofs.CellLaws.{shape_there}
use Rattle.reference_forms.specs.Candidates.{held, HaveShape}
use Rattle.reference_forms.specs.Dots.{IsMappedForm, IsDotForm}
use Rattle.reference_forms.specs.Picks.{IsFirst}
use Rattle.reference_forms.proofs.MapLaws.{number_all, some_number, some_pairs}
use Rattle.reference_forms.proofs.CandidateLaws.{candidates_map, own_number, held_count}

-- what a choice may be, by a weaker word
pub choice_weaker : (boxes : Boxes) (P Q : ℕ → Type 0) → ((n : ℕ) → P n → Q n) → (c : Choice) → IsChoiceOf boxes P c → IsChoiceOf boxes Q c
choice_weaker boxes P Q w (choice.Fixed n) h = w n h
choice_weaker boxes P Q w (choice.Cell x) h = (h.0, λ v m. let i = h.1 v m in record { number = i.number; is = i.is; may = w i.number i.may })
choice_weaker boxes P Q w (choice.Mapped x map) h =
    (h.0, record { distinct = h.1.distinct; held = h.1.held; may = All-weaker (λ (p : ℤ × ℕ). P p.1) (λ (p : ℤ × ℕ). Q p.1) (λ p m. w p.1 m) map.items h.1.may })

-- the form of a shape is that of an equal one
pub at_shape : (o : Outline) (g : Ground) (x : ℕ) (pairs : List (ℤ × ℕ)) (k : ℕ) (s t : Resolved) (f : Form) → t ≡ s → IsMappedForm o g x pairs k s f → IsMappedForm o g x pairs k t f
at_shape o g x pairs k s t f e h = subst (λ (z : Resolved). IsMappedForm o g x pairs k z f) (sym e) h

pub nothing_made : (g : Ground) → Defines g g
nothing_made g = adds_nothing [] g

-- the shape of an attribute that objects have is one of the outline's
pub some_shape : (o : Outline) (g : Ground) (x : ℕ) (pairs : List (ℤ × ℕ)) (k : ℕ) (s : Resolved) → IsSound o → IsWellMade g → AreSome g.domains → x < length g.domains → IsMap g.domains (HaveShape o k s) x pairs → IsShapeOf (length o.classes) (length o.enumerations) s
some_shape o g x pairs k s sound made some there m =
    let n = some_number g (HaveShape o k s) x pairs made some there m in
    shape_there o (Some n.0) k s sound n.1

-- the form of the object that the map gives for every value
pub same_form : (o : Outline) (g : Ground) (x : ℕ) (pairs : List (ℤ × ℕ)) (k : ℕ) (s : Resolved) (n : ℕ) (f : Form) → x < length g.domains → IsMap g.domains (HaveShape o k s) x pairs → IsFirst n pairs → All (λ p. p.1 ≡ n) pairs → IsAttributeForm o g (Some n) k s f → IsMappedForm o g x pairs k s f
same_form o g x pairs k s n f there m first same h = record {
  stands = λ a w. ap (λ (j : ℕ). attribute_value o (take g.search a) (Some j) k s) (number_all (λ j. j ≡ n) (value_of a x) pairs same (m.held _ (w.within x there))) ∙ h.stands a w;
  number = h.number;
  truth = h.truth;
  typed = h.typed;
  reached = λ r lt.
      let some = some_pairs n pairs first in
      h.reached r (omega (arith, some, lt));
}

module _ (o : Outline) (g : Ground) (d k : ℕ) (s : Resolved) where
  pub fixed_dot : (n : ℕ) (f : Form) → IsAttributeForm o g (Some n) k s f → IsDotForm o g d (choice.Fixed n) k s f
  fixed_dot n f h = record { stands = h.stands; number = h.number; truth = h.truth; typed = h.typed; reached = h.reached }

  pub mapped_dot : (x : ℕ) (pairs : Vec (ℤ × ℕ) Global) (f : Form) → IsMappedForm o g x pairs.items k s f → IsDotForm o g d (choice.Mapped x pairs) k s f
  mapped_dot x pairs f h = record { stands = h.stands; number = h.number; truth = h.truth; typed = h.typed; reached = h.reached }

  pub cell_dot : (old : Ground) (x : ℕ) (pairs : List (ℤ × ℕ)) (f : Form) → Grows old g → x < length old.domains → MayBe old.domains (Contains (extent o d)) x → pairs ≡ held (box_of old.domains x) (extent o d) → IsMappedForm o g x pairs k s f → IsDotForm o g d (choice.Cell x) k s f
  cell_dot old x pairs f grows there may e h = record {
    stands = λ a w.
        let before = world_before old g a grows w in
        let map = candidates_map o old.domains d x (Contains (extent o d)) may may in
        let own = own_number (box_of old.domains x) (extent o d) (value_of a x) (map.held _ (before.within x there)) in
        ap (λ (n : ℕ). attribute_value o (take g.search a) (Some n) k s) (sym (ap (λ (z : List (ℤ × ℕ)). number_for (value_of a x) z) e ∙ own)) ∙ h.stands a w;
    number = h.number;
    truth = h.truth;
    typed = h.typed;
    reached = λ r lt.
        let size = ap length e in
        let few = held_count (box_of old.domains x) (extent o d) in
        h.reached r (omega (arith, size, few, lt));
  }
