-- Attributes of an object that is chosen, as forms. What a reader believes after this file: in
-- every world the form has the value of the attribute of the object that is chosen there, and it
-- lies within what the attribute's shape allows.
use Rattle.std.specs.Prelude.{◌≡◌, ℕ, ◌≤◌, List, ℤ, Some, length, map, take}
use Rattle.std.specs.List.{All}
use Rattle.class_table.specs.declared.table.Resolved.{Resolved}
use Rattle.class_table.specs.Outline.{Outline}
use Rattle.conf_types.specs.Types.{shape_type}
use Rattle.object_alloc.specs.Groups.{parts_of}
use Rattle.conf_eval.specs.Meaning.{attribute_value, first_object}
use Rattle.conf_limits.specs.Measures.{shape_interval, shape_reach}
use Rattle.ground_form.specs.declared.ground.Ground.{Ground}
use Rattle.ground_form.specs.Meaning.{value_of}
use Rattle.form_build.specs.Forms.{HasVariable}
use Rattle.form_build.specs.Sums.{IsSum}
use Rattle.form_build.specs.Worlds.{IsWorld}
use Rattle.expr_forms.specs.declared.form.Choice.{Choice}
use Rattle.expr_forms.specs.declared.form.Choice.TheVariants as choice
use Rattle.expr_forms.specs.declared.form.Form.{Form}
use Rattle.expr_forms.specs.FormBounds.{IsFormOf, candidate_count, target_count}
use Rattle.expr_forms.specs.FormValues.{choice_at, form_value, number_for, number_part, truth_part}
use Rattle.reference_forms.specs.Picks.{IsFirst}

-- for each value the part that attribute k of the object holds which goes with it
abbrev pub part_items : Outline → ℕ → List (ℤ × ℕ) → List (ℤ × ℕ)
part_items o k pairs = map (λ p. (p.0, first_object (parts_of o (Some p.1) k))) pairs

-- the choice is what the map gives for the value of x, or the one number that it gives for all
abbrev pub IsMappedChoice : ℕ → List (ℤ × ℕ) → Choice → Type 0
IsMappedChoice x map (choice.Fixed n) = IsFirst n map × All (λ p. p.1 ≡ n) map
IsMappedChoice x map (choice.Cell y) = ⊥
IsMappedChoice x map (choice.Mapped y ps) = (y ≡ x) × (ps.items ≡ map)

-- the form of attribute k, of this shape, of the object that the pairs give for the value of x
pub record IsMappedForm (o : Outline) (g : Ground) (x : ℕ) (pairs : List (ℤ × ℕ)) (k : ℕ) (s : Resolved) (f : Form) : Type 0 where
  pub stands : (a : List ℤ) → IsWorld g a → attribute_value o (take g.search a)
      (Some (number_for (value_of a x) pairs)) k s ≡ form_value f a
  pub number : IsSum g.domains (shape_interval s).low (shape_interval s).high (number_part f)
  pub truth : HasVariable (length g.domains) (truth_part f)
  pub typed : IsFormOf o g.domains (shape_type s) f
  pub reached : (r : ℕ) → length pairs ≤ r → target_count o f ≤ shape_reach o r s

-- the form of attribute k, of this shape, of the chosen object, where a cell's object is of class d
pub record IsDotForm (o : Outline) (g : Ground) (d : ℕ) (c : Choice) (k : ℕ) (s : Resolved) (f : Form) : Type 0 where
  pub stands : (a : List ℤ) → IsWorld g a → attribute_value o (take g.search a)
      (Some (choice_at c a)) k s ≡ form_value f a
  pub number : IsSum g.domains (shape_interval s).low (shape_interval s).high (number_part f)
  pub truth : HasVariable (length g.domains) (truth_part f)
  pub typed : IsFormOf o g.domains (shape_type s) f
  pub reached : (r : ℕ) → candidate_count o d c ≤ r → target_count o f ≤ shape_reach o r s
