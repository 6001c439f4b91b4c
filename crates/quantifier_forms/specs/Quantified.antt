-- Parts that a quantifier's form is made of, and what that form comes to. What a reader believes
-- after this file: over which boxes the parts may stand, and that the form is the quantifier over
-- what they give, within the interval of the language's definition.
use Rattle.std.specs.Prelude.{◌≡◌, ℕ, ◌^◌, ◌≤◌, Bool, true, false, List, [], ◌∷◌, ℤ, pos, neg_ℤ, length}
use Rattle.std.specs.List.{All}
use Rattle.std.specs.Int.{int_max, int_min}
use Rattle.model_limits.specs.Limits.{most_width}
use Rattle.class_table.specs.Outline.{Outline}
use Rattle.conf_syntax.specs.declared.tree.QuantKind.{QuantKind}
use Rattle.conf_syntax.specs.declared.tree.QuantKind.TheVariants as kind
use Rattle.conf_types.specs.Types.{quant_result}
use Rattle.conf_limits.specs.declared.interval.Interval.{Interval}
use Rattle.conf_limits.specs.Measures.{between, none, quantifier_interval, is_narrow}
use Rattle.signed_clause.specs.Clauses.{Boxes}
use Rattle.ground_form.specs.declared.ground.Ground.{Ground}
use Rattle.form_build.specs.declared.form.Linear.{Linear}
use Rattle.form_build.specs.declared.form.Truth.TheVariants as truth
use Rattle.form_build.specs.Forms.{HasVariable}
use Rattle.form_build.specs.Sums.{IsLinear, IsSum}
use Rattle.form_build.specs.Worlds.{IsWorld}
use Rattle.expr_forms.specs.declared.form.Form.{Form}
use Rattle.expr_forms.specs.FormBounds.{IsFormOf}
use Rattle.expr_forms.specs.FormValues.{form_value, number_part, truth_part}
use Rattle.quantifier_forms.specs.declared.part.Part.{Part}
use Rattle.quantifier_forms.specs.PartValues.{kept_values, over_values, first_number}

-- the variables of its truths are among the first n
pub record HasTruths (n : ℕ) (p : Part) : Type 0 where
  pub kept : HasVariable n p.kept
  pub bodies : All (λ f. HasVariable n (truth_part f)) p.bodies.items

-- it is kept in any case, and this is its one body
pub record IsOnlyBody (f : Form) (p : Part) : Type 0 where
  pub kept : p.kept ≡ truth.Fixed true
  pub body : p.bodies.items ≡ f ∷ []

-- its variables exist, the sums of its bodies are in good order, and the first body is a number of
-- the interval
pub record IsPart (boxes : Boxes) (first : Interval) (p : Part) : Type 0 where
  pub truths : HasTruths (length boxes) p
  pub numbers : All (λ f. IsLinear (2 ^ 58) boxes (number_part f)) p.bodies.items
  pub first_is : IsSum boxes first.low first.high (first_number p.bodies.items)

-- a sum whose values over the boxes lie within 2^50
abbrev pub IsNarrow : Boxes → Linear → Type 0
IsNarrow boxes f = IsSum boxes (neg_ℤ (pos most_width)) (pos most_width) f

-- the intervals of the first two bodies make one of the quantifier that is narrow
pub record AreParts (boxes : Boxes) (kind : QuantKind) (ps : List Part) : Type 0 where
  pub first : Interval
  pub second : Interval
  pub parts : All (IsPart boxes first) ps
  pub narrow : is_narrow (quantifier_interval kind (length ps) first second) ≡ true

-- it adds up what its members give
abbrev pub adds_up : QuantKind → Bool
adds_up kind.Sum = true
adds_up kind.Count = true
adds_up kind.Forall = false
adds_up kind.Exists = false
adds_up kind.AllDifferent = false
adds_up kind.Pack = false

-- it compares its members with one another
abbrev pub compares_members : QuantKind → Bool
compares_members kind.AllDifferent = true
compares_members kind.Pack = true
compares_members kind.Forall = false
compares_members kind.Exists = false
compares_members kind.Sum = false
compares_members kind.Count = false

-- the interval of what one part adds
abbrev pub share_interval : QuantKind → Interval → Interval
share_interval kind.Sum first = between (int_min first.low (pos 0)) (int_max first.high (pos 0))
share_interval kind.Count first = between (pos 0) (pos 1)
share_interval kind.Forall first = none
share_interval kind.Exists first = none
share_interval kind.AllDifferent first = none
share_interval kind.Pack first = none

-- the form is the quantifier over what the parts give in each world, and over at most n parts it
-- keeps to the interval of the language
pub record IsQuantified (old new : Ground) (kind : QuantKind) (ps : List Part) (f : Form) : Type 0 where
  pub value : (a : List ℤ) → IsWorld new a → form_value f a ≡ over_values kind (kept_values ps a)
  pub number : (first second : Interval) (n : ℕ) → All (IsPart old.domains first) ps → length ps ≤ n
      → IsSum new.domains (quantifier_interval kind n first second).low
      (quantifier_interval kind n first second).high (number_part f)
  pub truth : HasVariable (length new.domains) (truth_part f)
  pub typed : (o : Outline) → IsFormOf o new.domains (quant_result kind) f
