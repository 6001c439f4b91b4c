-- Products have a side that is a single number.
use Rattle.std.proofs.Common.{◌≡◌, ℕ, Bool, true, false, ◌&&◌, ◌||◌, ℤ, neg_ℤ, ◌+ℤ◌, ◌-ℤ◌, ◌*ℤ◌, Some, refl, sym, ap, ◌∙◌, subst, arith}
use Rattle.std.specs.Int.{int_min, int_max}
use Rattle.std.specs.Ordering.{int_eq}
use Rattle.std.proofs.lemmas.Bool.{and_parts}
use Rattle.std.proofs.lemmas.Int.{ints}
use Rattle.class_table.specs.Outline.{Outline}
use Rattle.conf_syntax.specs.declared.tree.Op.{Op}
use Rattle.conf_syntax.specs.declared.tree.Op.TheVariants as op
use Rattle.conf_types.specs.declared.types.ExprType.{ExprType}
use Rattle.conf_types.specs.Readings.{has}
use Rattle.conf_types.specs.Trees.{Tree}
use Rattle.conf_types.specs.Trees as tree
use Rattle.conf_types.specs.Operators.{is_linear, class_of, left_by, right_by, makes_numbers}
use Rattle.conf_types.specs.Typing.{Place, tree_type, is_literal}
use Rattle.conf_limits.specs.declared.interval.Interval.{Interval}
use Rattle.conf_limits.specs.Measures.{interval, operator_interval, times}
use Rattle.conf_eval.proofs.LawsValues.{if_typed}
use Rattle.operator_forms.specs.Operating.{has_factor}

-- ---- single numbers

abbrev IsPoint : Interval → Type 0
IsPoint i = i.low ≡ i.high

times_point : (i j : Interval) → IsPoint i → IsPoint j → IsPoint (times i j)
times_point i j e f = by i.low j.low i.high j.high e f
  where
    same : (v : ℤ) → int_min (int_min v v) (int_min v v) ≡ int_max (int_max v v) (int_max v v)
    same v = grind (arith, ints)

    by : (a c b d : ℤ) → a ≡ b → c ≡ d → int_min (int_min (a *ℤ c) (a *ℤ d)) (int_min (b *ℤ c) (b *ℤ d)) ≡ int_max (int_max (a *ℤ c) (a *ℤ d)) (int_max (b *ℤ c) (b *ℤ d))
    by a c b d e f =
        subst (λ (x : ℤ). int_min (int_min (a *ℤ c) (a *ℤ d)) (int_min (x *ℤ c) (x *ℤ d)) ≡ int_max (int_max (a *ℤ c) (a *ℤ d)) (int_max (x *ℤ c) (x *ℤ d))) e
        (subst (λ (y : ℤ). int_min (int_min (a *ℤ c) (a *ℤ y)) (int_min (a *ℤ c) (a *ℤ y)) ≡ int_max (int_max (a *ℤ c) (a *ℤ y)) (int_max (a *ℤ c) (a *ℤ y))) f (same (a *ℤ c)))

pair_point : (q : Op) (i j : Interval) → makes_numbers (class_of q) ≡ true → IsPoint i → IsPoint j → IsPoint (operator_interval q i j)
pair_point op.Add i j k e f = ap (λ (v : ℤ). v +ℤ j.low) e ∙ ap (λ (v : ℤ). i.high +ℤ v) f
pair_point op.Sub i j k e f = ap (λ (v : ℤ). v -ℤ j.high) e ∙ ap (λ (v : ℤ). i.high -ℤ v) (sym f)
pair_point op.Mul i j k e f = times_point i j e f
pair_point op.Implies i j k e f = refl
pair_point op.Or i j k e f = refl
pair_point op.And i j k e f = refl
pair_point op.Eq i j k e f = refl
pair_point op.Ne i j k e f = refl
pair_point op.Lt i j k e f = refl
pair_point op.Le i j k e f = refl
pair_point op.Gt i j k e f = refl
pair_point op.Ge i j k e f = refl
pair_point op.In i j k e f = refl

-- what is built of literals is a single number
literal_point : (o : Outline) (t : Tree) → is_literal t ≡ true → IsPoint (interval o t)
literal_point o (tree.Number i n) h = refl
literal_point o (tree.Paren i t) h = literal_point o t h
literal_point o (tree.Minus i t) h = sym (ap neg_ℤ (literal_point o t h))
literal_point o (tree.Pair i q l r) h =
    let k = and_parts (makes_numbers (class_of q)) (is_literal l && is_literal r) h in
    let b = and_parts (is_literal l) (is_literal r) k.1 in
    pair_point q (interval o l) (interval o r) k.0 (literal_point o l b.0) (literal_point o r b.1)
literal_point o (tree.Truth i b) h = refl
literal_point o (tree.This i) h = refl
literal_point o (tree.Not i t) h = refl
literal_point o (tree.Local i k) h = refl
literal_point o (tree.Own i k s) h = cc
literal_point o (tree.Root i k s) h = cc
literal_point o (tree.Value i d k) h = refl
literal_point o (tree.Class i c) h = refl
literal_point o (tree.Dot i t k s) h = cc
literal_point o (tree.Quant i q over f bs) h = cc
literal_point o (tree.Missing i) h = refl

is_same : (v w : ℤ) → v ≡ w → int_eq v w ≡ true
is_same v w e = grind (arith, ints)

factor_of : (o : Outline) (q : Op) (l r : Tree) → is_linear q (is_literal l) (is_literal r) ≡ true → has_factor q (interval o l) (interval o r) ≡ true
factor_of o op.Mul l r h = by (is_literal l) (is_literal r) refl refl h
  where
    left_true : (b d : Bool) → b ≡ true → (b || d) ≡ true
    left_true b d e = ap (λ (z : Bool). z || d) e

    right_true : (b d : Bool) → d ≡ true → (b || d) ≡ true
    right_true true d e = refl
    right_true false d e = e

    by : (b d : Bool) → is_literal l ≡ b → is_literal r ≡ d → (b || d) ≡ true → has_factor op.Mul (interval o l) (interval o r) ≡ true
    by true d e f g = left_true _ _ (is_same _ _ (literal_point o l e))
    by false true e f g = right_true _ _ (is_same _ _ (literal_point o r f))
    by false false e f g = cc
factor_of o op.Add l r h = refl
factor_of o op.Sub l r h = refl
factor_of o op.Eq l r h = refl
factor_of o op.Ne l r h = refl
factor_of o op.Lt l r h = refl
factor_of o op.Le l r h = refl
factor_of o op.Gt l r h = refl
factor_of o op.Ge l r h = refl
factor_of o op.Implies l r h = refl
factor_of o op.Or l r h = refl
factor_of o op.And l r h = refl
factor_of o op.In l r h = refl

pub pair_factor : (o : Outline) (i : ℕ) (q : Op) (l r : Tree) (p : Place) (ty : ExprType) → tree_type o (tree.Pair i q l r) p ≡ Some ty → has_factor q (interval o l) (interval o r) ≡ true
pair_factor o i q l r p ty e =
    let f = if_typed _ _ ty e in
    let m = and_parts (has (left_by (class_of q)) (tree_type o l p)) _ f.test in
    let k = and_parts (has (right_by (class_of q)) (tree_type o r p)) _ m.1 in
    factor_of o q l r (and_parts _ (is_linear q (is_literal l) (is_literal r)) k.1).1
