-- Parts whose members can be compared. What a reader believes after this file: what is asked of the
-- bodies of `alldifferent` and of `pack`.
use Rattle.std.specs.Prelude.{◌≡◌, true, false, List, [], ◌∷◌, length}
use Rattle.std.specs.List.{All}
use Rattle.class_table.specs.Outline.{Outline}
use Rattle.conf_types.specs.declared.types.ExprType.{ExprType}
use Rattle.conf_types.specs.Types.{is_list}
use Rattle.conf_limits.specs.declared.interval.Interval.{Interval}
use Rattle.conf_limits.specs.Measures.{many, is_narrow}
use Rattle.signed_clause.specs.Clauses.{Boxes}
use Rattle.form_build.specs.declared.form.Linear.{Linear}
use Rattle.form_build.specs.declared.form.Truth.TheVariants as truth
use Rattle.form_build.specs.Sums.{IsSum}
use Rattle.expr_forms.specs.declared.form.Form.{Form}
use Rattle.expr_forms.specs.declared.form.Form.TheVariants as form
use Rattle.expr_forms.specs.FormBounds.{IsFormOf}
use Rattle.expr_forms.specs.FormValues.{number_part, nought}
use Rattle.quantifier_forms.specs.declared.part.Part.{Part}

-- the first body: what is to differ, or the place of an item; a false truth where there is none
abbrev pub first_form : List Form → Form
first_form [] = form.Truth (truth.Fixed false)
first_form (f ∷ fs) = f

-- the number that the second body is, an item's size; 0 where it is none
abbrev pub second_number : List Form → Linear
second_number [] = nought
second_number (f ∷ []) = nought
second_number (f ∷ g ∷ fs) = number_part g

-- the number that the third body is, an item's room; 0 where it is none
abbrev pub third_number : List Form → Linear
third_number [] = nought
third_number (f ∷ []) = nought
third_number (f ∷ g ∷ []) = nought
third_number (f ∷ g ∷ h ∷ fs) = number_part h

-- the first bodies are of one type, whose values can be compared
pub record AreAlike (boxes : Boxes) (ps : List Part) : Type 0 where
  pub outline : Outline
  pub type : ExprType
  pub comparable : is_list type ≡ false
  pub typed : All (λ p. IsFormOf outline boxes type (first_form p.bodies.items)) ps

-- the second bodies lie in one interval, and so many times the interval is narrow
pub record AreSizes (boxes : Boxes) (ps : List Part) : Type 0 where
  pub second : Interval
  pub sizes : All (λ p. IsSum boxes second.low second.high (second_number p.bodies.items)) ps
  pub narrow : is_narrow (many (length ps) second) ≡ true
