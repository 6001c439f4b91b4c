-- Operators over forms. What a reader believes after this file: what an operator asks of the forms
-- of its two sides, what the form is that it makes of them, and which truths of the two sides make
-- a truth of the whole.
use Rattle.std.specs.Prelude.{◌≡◌, Bool, true, false, not, ◌&&◌, ◌||◌, List, ℤ, length}
use Rattle.std.specs.Ordering.{int_eq}
use Rattle.class_table.specs.Outline.{Outline}
use Rattle.conf_syntax.specs.declared.tree.Op.{Op}
use Rattle.conf_syntax.specs.declared.tree.Op.TheVariants as op
use Rattle.conf_types.specs.declared.operators.OpClass.{OpClass}
use Rattle.conf_types.specs.declared.operators.OpClass.TheVariants.{Logic, Equality, Order, Member}
use Rattle.conf_types.specs.Operators.{class_of, makes_numbers, made_by}
use Rattle.conf_limits.specs.declared.interval.Interval.{Interval}
use Rattle.conf_limits.specs.Measures.{operator_interval, is_narrow}
use Rattle.conf_eval.specs.declared.value.Value.{Value}
use Rattle.conf_eval.specs.declared.value.Value.TheVariants.{Int, Truth}
use Rattle.conf_eval.specs.Meaning.{operate, int_of, truth_of}
use Rattle.signed_clause.specs.Clauses.{Boxes}
use Rattle.ground_form.specs.declared.ground.Ground.{Ground}
use Rattle.form_build.specs.declared.form.Linear.{Linear}
use Rattle.form_build.specs.Forms.{HasVariable}
use Rattle.form_build.specs.Sums.{IsSum}
use Rattle.form_build.specs.Worlds.{IsWorld}
use Rattle.form_truths.specs.Tests.{wanted}
use Rattle.expr_forms.specs.declared.form.Form.{Form}
use Rattle.expr_forms.specs.declared.form.Form.TheVariants as form
use Rattle.expr_forms.specs.FormBounds.{IsFormOf}
use Rattle.expr_forms.specs.FormValues.{form_value, number_part, truth_part}

-- ---- kinds of forms and of operators

abbrev pub is_number : Form → Bool
is_number (form.Number f) = true
is_number (form.Truth t) = false
is_number (form.Choice e c) = false
is_number (form.Object d c) = false
is_number (form.List l) = false

abbrev pub is_truth : Form → Bool
is_truth (form.Truth t) = true
is_truth (form.Number f) = false
is_truth (form.Choice e c) = false
is_truth (form.Object d c) = false
is_truth (form.List l) = false

abbrev pub are_numbers : Form → Form → Bool
are_numbers l r = is_number l && is_number r

abbrev pub are_truths : Form → Form → Bool
are_truths l r = is_truth l && is_truth r

-- the operator makes a number of two numbers
abbrev pub is_arithmetic : Op → Bool
is_arithmetic op = makes_numbers (class_of op)

-- the class makes a truth of two truths
abbrev pub takes_truths_by : OpClass → Bool
takes_truths_by Logic = true
takes_truths_by Equality = true
takes_truths_by c = false

abbrev pub takes_truths : Op → Bool
takes_truths op = takes_truths_by (class_of op)

-- the class joins two truths here, or asks whether they are the same
abbrev pub joins_truths_by : OpClass → Form → Form → Bool
joins_truths_by Logic l r = true
joins_truths_by Equality l r = are_truths l r
joins_truths_by c l r = false

abbrev pub joins_truths : Op → Form → Form → Bool
joins_truths op l r = joins_truths_by (class_of op) l r

-- the class compares two numbers, whatever else it may compare
abbrev pub compares_by : OpClass → Bool
compares_by Equality = true
compares_by Order = true
compares_by c = false

abbrev pub is_comparison : Op → Bool
is_comparison op = compares_by (class_of op)

-- the class compares numbers here
abbrev pub compares_numbers_by : OpClass → Form → Form → Bool
compares_numbers_by Equality l r = are_numbers l r
compares_numbers_by Order l r = true
compares_numbers_by c l r = false

abbrev pub compares_numbers : Op → Form → Form → Bool
compares_numbers op l r = compares_numbers_by (class_of op) l r

-- the class compares no objects and no values of enumerations
abbrev pub is_plain_by : OpClass → Form → Form → Bool
is_plain_by Equality l r = are_numbers l r || are_truths l r
is_plain_by Member l r = false
is_plain_by c l r = true

abbrev pub is_plain : Op → Form → Form → Bool
is_plain op l r = is_plain_by (class_of op) l r

-- ---- operators between numbers and between truths

-- the number that an operator makes of two numbers
abbrev pub number_between : Op → ℤ → ℤ → ℤ
number_between op v w = int_of (operate op (Int v) (Int w))

-- whether a comparison of two numbers holds
abbrev pub compared_numbers : Op → ℤ → ℤ → Bool
compared_numbers op v w = truth_of (operate op (Int v) (Int w))

-- the truth that an operator makes of two truths
abbrev pub truth_between : Op → Bool → Bool → Bool
truth_between op p q = truth_of (operate op (Truth p) (Truth q))

-- whatever intervals two numbers lie in, what the operator makes of them lies in what it makes of
-- the intervals
abbrev pub LiesBetween : Boxes → Boxes → Op → Linear → Linear → Linear → Type 0
LiesBetween old new op f g r =
    (i j : Interval) → IsSum old i.low i.high f → IsSum old j.low j.high g
    → IsSum new (operator_interval op i j).low (operator_interval op i j).high r

-- ---- what an operator asks of its sides

-- one side: its numbers lie in the interval, and the variable of its truth exists
pub record IsSide (boxes : Boxes) (i : Interval) (f : Form) : Type 0 where
  pub number : IsSum boxes i.low i.high (number_part f)
  pub truth : HasVariable (length boxes) (truth_part f)

-- of two intervals that are multiplied one has a single number
abbrev pub has_factor : Op → Interval → Interval → Bool
has_factor op.Mul i j = int_eq i.low i.high || int_eq j.low j.high
has_factor op i j = true

-- two numbers that an operator joins: what it makes of their intervals is narrow, and where it
-- multiplies, one of them is a single number
pub record AreNumbers (boxes : Boxes) (op : Op) (f g : Linear) : Type 0 where
  pub left : Interval
  pub right : Interval
  pub left_is : IsSum boxes left.low left.high f
  pub right_is : IsSum boxes right.low right.high g
  pub narrow : is_narrow (operator_interval op left right) ≡ true
  pub factor : has_factor op left right ≡ true

-- two sides that an operator joins, in the same way
pub record AreOperands (boxes : Boxes) (op : Op) (l r : Form) : Type 0 where
  pub left : Interval
  pub right : Interval
  pub left_is : IsSide boxes left l
  pub right_is : IsSide boxes right r
  pub narrow : is_narrow (operator_interval op left right) ≡ true
  pub factor : has_factor op left right ≡ true

-- ---- what an operator makes of its sides

-- the form is what the operator makes of the forms of two sides, whose numbers lie in i and j
pub record IsOperated (o : Outline) (g : Ground) (op : Op) (i j : Interval) (l r f : Form) : Type 0 where
  pub value : (a : List ℤ) → IsWorld g a → form_value f a ≡ operate op (form_value l a)
      (form_value r a)
  pub number : IsSum g.domains (operator_interval op i j).low (operator_interval op i j).high
      (number_part f)
  pub truth : HasVariable (length g.domains) (truth_part f)
  pub typed : IsFormOf o g.domains (made_by (class_of op)) f

-- ---- which truths of the sides make a truth of the whole

-- one pair of truths, and it alone, makes the wanted truth
abbrev pub needs_both : Op → Bool → Bool
needs_both op.And want = want
needs_both op.Or want = not want
needs_both op.Implies want = not want
needs_both op want = false

-- one side with the right truth makes the wanted truth, whatever the other one is
abbrev pub needs_either : Op → Bool → Bool
needs_either op.And want = not want
needs_either op.Or want = want
needs_either op.Implies want = want
needs_either op want = false

-- these truths of both sides together make the wanted truth, and no others
abbrev pub AreBoth : Op → Bool → Bool × Bool → Type 0
AreBoth op want p =
    (v w : Value) → wanted want (truth_of (operate op v w))
    ≡ (wanted p.0 (truth_of v) && wanted p.1 (truth_of w))

-- each of these truths of its side alone makes the wanted truth, and nothing else does
abbrev pub AreEither : Op → Bool → Bool × Bool → Type 0
AreEither op want p =
    (v w : Value) → wanted want (truth_of (operate op v w))
    ≡ (wanted p.0 (truth_of v) || wanted p.1 (truth_of w))
