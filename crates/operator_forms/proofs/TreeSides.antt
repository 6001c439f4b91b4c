-- The forms of two typed expressions are sides that an operator may join.
use Rattle.std.proofs.Common.{◌≡◌, ℕ, Bool, true, false, ◌&&◌, ◌||◌, List, ℤ, neg_ℤ, ◌*ℤ◌, Option, Some, refl, sym, ap, arith}
use Rattle.std.specs.Ordering.{int_eq}
use Rattle.std.proofs.lemmas.Bool.{and_parts}
use Rattle.std.proofs.lemmas.Int.{ints, clamps}
use Rattle.class_table.specs.Outline.{Outline}
use Rattle.conf_syntax.specs.declared.tree.Op.{Op}
use Rattle.conf_syntax.specs.declared.tree.Op.TheVariants as op
use Rattle.conf_types.specs.declared.types.ExprType.{ExprType}
use Rattle.conf_types.specs.Readings.{has, takes_both}
use Rattle.conf_types.specs.Trees.{Tree}
use Rattle.conf_types.specs.Trees as tree
use Rattle.conf_types.specs.Operators.{is_linear, class_of, left_by, right_by, made_by, makes_numbers}
use Rattle.conf_types.specs.Typing.{Place, is_literal, tree_type}
use Rattle.conf_limits.specs.declared.interval.Interval.{Interval}
use Rattle.conf_limits.specs.Measures.{interval, operator_interval, narrow}
use Rattle.conf_eval.proofs.LawsNarrow.{narrow_interval}
use Rattle.conf_eval.proofs.LawsValues.{if_typed}
use Rattle.signed_clause.specs.Clauses.{Boxes}
use Rattle.expr_forms.specs.declared.form.Form.{Form}
use Rattle.expr_forms.specs.FormBounds.{IsForm}
use Rattle.operator_forms.specs.Operating.{IsSide, has_factor, AreOperands}

-- ---- what is built of literals is a single number

point_between : (q : Op) (i j : Interval) → makes_numbers (class_of q) ≡ true → i.low ≡ i.high → j.low ≡ j.high → (operator_interval q i j).low ≡ (operator_interval q i j).high
point_between op.Add i j h e f = omega (arith, ints, e, f)
point_between op.Sub i j h e f = omega (arith, ints, e, f)
point_between op.Mul i j h e f =
    let b = ap (λ (z : ℤ). i.low *ℤ z) f in
    let c = ap (λ (z : ℤ). z *ℤ j.low) e in
    let d = ap (λ (z : ℤ). i.high *ℤ z) f in
    omega (arith, ints, clamps, b, c, d)
point_between q i j h e f = absurd cc

literal_point : (o : Outline) (t : Tree) → is_literal t ≡ true → (interval o t).low ≡ (interval o t).high
literal_point o (tree.Number at n) h = omega (arith, ints)
literal_point o (tree.Paren at e) h = literal_point o e h
literal_point o (tree.Minus at e) h = ap neg_ℤ (sym (literal_point o e h))
literal_point o (tree.Pair at q l r) h =
    let p = and_parts (makes_numbers (class_of q)) (is_literal l && is_literal r) h in
    let b = and_parts (is_literal l) (is_literal r) p.1 in
    point_between q (interval o l) (interval o r) p.0 (literal_point o l b.0) (literal_point o r b.1)
literal_point o t h = absurd cc

same : (v w : ℤ) → v ≡ w → int_eq v w ≡ true
same v w e = grind (arith, ints)

either : (m n p q : Bool) → (m || n) ≡ true → (m ≡ true → p ≡ true) → (n ≡ true → q ≡ true) → (p || q) ≡ true
either true n p q h f g = let e = f refl in grind arith
either false true p q h f g = let e = g refl in grind arith
either false false p q h f g = absurd cc

factor : (o : Outline) (q : Op) (l r : Tree) → is_linear q (is_literal l) (is_literal r) ≡ true → has_factor q (interval o l) (interval o r) ≡ true
factor o op.Mul l r h =
    either (is_literal l) (is_literal r) _ _ h (λ e. same (interval o l).low (interval o l).high (literal_point o l e)) (λ e. same (interval o r).low (interval o r).high (literal_point o r e))
factor o q l r h = cc

-- ---- two expressions

pub side_is : (o : Outline) (boxes : Boxes) (t : Tree) (this : Option ℕ) (vars : List ℕ) (f : Form) → IsForm o boxes t this vars f → IsSide boxes (interval o t) f
side_is o boxes t this vars f h = record { number = h.number; truth = h.truth }

pub operands_are : (o : Outline) (boxes : Boxes) (at : ℕ) (q : Op) (l r : Tree) (this : Option ℕ) (vars : List ℕ) (f h : Form) (p : Place) (ty : ExprType) →
    narrow o (tree.Pair at q l r) ≡ true → tree_type o (tree.Pair at q l r) p ≡ Some ty → IsForm o boxes l this vars f → IsForm o boxes r this vars h → AreOperands boxes q f h
operands_are o boxes at q l r this vars f h p ty n e left right =
    let typed = if_typed _ (made_by (class_of q)) ty e in
    let one = and_parts (has (left_by (class_of q)) (tree_type o l p)) _ typed.test in
    let two = and_parts (has (right_by (class_of q)) (tree_type o r p)) _ one.1 in
    let three = and_parts (takes_both q (tree_type o l p) (tree_type o r p)) _ two.1 in
    record {
      left = interval o l;
      right = interval o r;
      left_is = side_is o boxes l this vars f left;
      right_is = side_is o boxes r this vars h right;
      narrow = narrow_interval o (tree.Pair at q l r) n;
      factor = factor o q l r three.1;
    }
