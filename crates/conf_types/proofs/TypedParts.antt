-- Constraints and objectives that were read have the types that they need.
use Rattle.std.proofs.Common.{◌≡◌, ℕ, ◌<◌, true, Option, None, Some, IfSome, List, [], ◌∷◌, ◌++◌, All, map, nat_lt, refl, ap, sym, subst, ◌∙◌, arith}
use Rattle.std.specs.Option.{option_map_or}
use Rattle.std.proofs.lemmas.Bool.{lt-ltb}
use Rattle.std.proofs.lemmas.List.Elements.{All-push}
use Rattle.class_table.specs.Outline.{Outline}
use Rattle.class_table.specs.Tables.{IsClosed}
use Rattle.conf_syntax.specs.declared.tree.Expr.{Expr}
use Rattle.conf_types.specs.declared.rules.Checked.{Checked}
use Rattle.conf_types.specs.declared.types.ExprType.{ExprType}
use Rattle.conf_types.specs.declared.types.ExprType.TheVariants.{Int, Truth, Choice, Object, Objects, Class}
use Rattle.conf_types.specs.declared.types.Need.TheVariants as need
use Rattle.conf_types.specs.Checked.{IsRead}
use Rattle.conf_types.specs.Programs.{outside, ResolvedConstraint, ResolvedGoal}
use Rattle.conf_types.specs.Readings.{read}
use Rattle.conf_types.specs.TreeOf.{tree_of}
use Rattle.conf_types.specs.Types.{meets, is_truth, is_int}
use Rattle.conf_types.specs.Typing.{tree_type, outermost, IsTypedConstraint, IsTypedGoal, IsTypedModel}
use Rattle.conf_types.proofs.TypingTrees.{node_typed}

pub truth_is : (t : ExprType) → is_truth t ≡ true → t ≡ Truth
truth_is Truth e = refl
truth_is Int e = absurd cc
truth_is (Choice d) e = absurd cc
truth_is (Object c) e = absurd cc
truth_is (Objects c) e = absurd cc
truth_is (Class c) e = absurd cc

pub int_is : (t : ExprType) → is_int t ≡ true → t ≡ Int
int_is Int e = refl
int_is Truth e = absurd cc
int_is (Choice d) e = absurd cc
int_is (Object c) e = absurd cc
int_is (Objects c) e = absurd cc
int_is (Class c) e = absurd cc

-- what was read outside of quantifiers has its type
pub read_typed : (o : Outline) (closed : IsClosed o) (c : Option ℕ) (e : Expr) (x : Checked) → IsRead x (read o (outside c) e) → tree_type o (tree_of x.expr) (outermost c) ≡ Some x.kind
read_typed o closed c e x h =
    ap (λ t. tree_type o t (outermost c)) h.tree_is
    ∙ (node_typed o closed e.node e.at (outside c) (outermost c) (record { class = refl; locals = tt })).type
    ∙ h.typed

pub truth_typed : (o : Outline) (closed : IsClosed o) (c : Option ℕ) (e : Expr) (x : Checked) → IsRead x (read o (outside c) e) → meets need.Truth x.kind ≡ true → tree_type o (tree_of x.expr) (outermost c) ≡ Some Truth
truth_typed o closed c e x h m = read_typed o closed c e x h ∙ ap (λ t. Some t) (truth_is x.kind m)

pub int_typed : (o : Outline) (closed : IsClosed o) (c : Option ℕ) (e : Expr) (x : Checked) → IsRead x (read o (outside c) e) → meets need.Int x.kind ≡ true → tree_type o (tree_of x.expr) (outermost c) ≡ Some Int
int_typed o closed c e x h m = read_typed o closed c e x h ∙ ap (λ t. Some t) (int_is x.kind m)

pub class_there : (n : ℕ) (c : Option ℕ) → IfSome c (λ d. d < n) → option_map_or (λ d. nat_lt d n) c true ≡ true
class_there n None h = refl
class_there n (Some d) h = lt-ltb d n h

-- Lists of them

pub constraints_typed : (o : Outline) (xs ys : List ResolvedConstraint) (k : ResolvedConstraint) → ys ≡ xs ++ k ∷ [] → IsTypedConstraint o k → All (IsTypedConstraint o) xs → All (IsTypedConstraint o) ys
constraints_typed o xs ys k grown h a = subst (All (IsTypedConstraint o)) (sym grown) (All-push (IsTypedConstraint o) xs k a h)

pub goals_typed : (o : Outline) (xs ys : List ResolvedGoal) (k : ResolvedGoal) → ys ≡ xs ++ k ∷ [] → IsTypedGoal o k → All (IsTypedGoal o) xs → All (IsTypedGoal o) ys
goals_typed o xs ys k grown h a = subst (All (IsTypedGoal o)) (sym grown) (All-push (IsTypedGoal o) xs k a h)

pub none_typed : (o : Outline) → IsTypedModel o [] []
none_typed o = record { constraints = λ k d h. absurd (omega (arith, h)); goals = λ k d h. absurd (omega (arith, h)) }
