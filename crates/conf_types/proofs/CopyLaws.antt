-- Copies of quantifiers and of rows of bodies have the same trees.
use Rattle.std.proofs.Common.{◌≡◌, ℕ, ◌+◌, ◌<◌, ◌≤◌, Option, List, [], ◌∷◌, ◌++◌, All, map, length, get_or, drop, refl, ap, sym, subst, ◌∙◌}
use Rattle.std.proofs.lemmas.List.{drop_all}
use Rattle.std.proofs.lemmas.List.Elements.{All-map, All-nil}
use Rattle.class_table.specs.Outline.{Outline}
use Rattle.conf_types.specs.declared.tree.RExpr.{RExpr}
use Rattle.conf_types.specs.declared.tree.RQuant as rquant
use Rattle.conf_types.specs.Checked.{trees_onto}
use Rattle.conf_types.specs.Programs.{ResolvedConstraint, ResolvedGoal, constraint_at}
use Rattle.conf_types.specs.Trees.{Bodies, NoBody, Body}
use Rattle.conf_types.specs.TreeOf.{tree_of, trees_of, optional_tree, quant_tree}
use Rattle.conf_types.specs.Trees as tree
use Rattle.conf_types.specs.Typing.{IsTypedConstraint, IsTypedGoal, IsTypedModel}
use Rattle.conf_types.proofs.CheckLaws.{rquant_is}
use Rattle.conf_types.proofs.ProgramLaws.{next}

pub quant_copied : (q : rquant.RQuant) (at : ℕ) (over : RExpr) (filter : Option RExpr) (body : List RExpr) → tree_of over ≡ tree_of (rquant.out-RQuant q).over → optional_tree filter ≡ optional_tree (rquant.out-RQuant q).filter → trees_of body ≡ trees_of (rquant.out-RQuant q).body.items → tree.Quant at (rquant.out-RQuant q).kind (tree_of over) (optional_tree filter) (trees_of body) ≡ quant_tree q at
quant_copied q at over filter body o f b =
    let c = rquant.out-RQuant q in
    ap (λ x. tree.Quant at c.kind x (optional_tree filter) (trees_of body)) o
    ∙ ap (λ x. tree.Quant at c.kind (tree_of c.over) x (trees_of body)) f
    ∙ ap (λ x. tree.Quant at c.kind (tree_of c.over) (optional_tree c.filter) x) b
    ∙ sym (rquant_is q at)

onto_push : (xs : List RExpr) (x : RExpr) (bs : Bodies) → trees_onto (xs ++ x ∷ []) bs ≡ trees_onto xs (Body (tree_of x) bs)
onto_push [] x bs = refl
onto_push (y ∷ ys) x bs = ap (λ z. Body (tree_of y) z) (onto_push ys x bs)

-- one body more was copied
pub body_copied : (body : List RExpr) (i : ℕ) (e x : RExpr) (xs ys : List RExpr) → i < length body → e ≡ get_or body i e → tree_of x ≡ tree_of e → ys ≡ xs ++ x ∷ [] → trees_onto ys (trees_of (drop (i + 1) body)) ≡ trees_onto xs (trees_of (drop i body))
body_copied body i e x xs ys on is same grown =
    let rest = trees_of (drop (i + 1) body) in
    ap (λ zs. trees_onto zs rest) grown
    ∙ onto_push xs x rest
    ∙ ap (λ t. trees_onto xs (Body t rest)) same
    ∙ sym (ap (λ es. trees_onto xs (trees_of es)) (next body i e on is))

onto_none : (xs : List RExpr) → trees_onto xs NoBody ≡ trees_of xs
onto_none [] = refl
onto_none (y ∷ ys) = ap (λ z. Body (tree_of y) z) (onto_none ys)

pub bodies_copied : (body xs : List RExpr) (i : ℕ) → length body ≤ i → trees_onto xs (trees_of (drop i body)) ≡ trees_of body → trees_of xs ≡ trees_of body
bodies_copied body xs i end h = sym (onto_none xs) ∙ sym (ap (λ es. trees_onto xs (trees_of es)) (drop_all i body end)) ∙ h

-- Constraints by their numbers

constraint_typed : (o : Outline) (xs : List ResolvedConstraint) (k : ℕ) → k < length xs → All (IsTypedConstraint o) xs → IsTypedConstraint o (constraint_at xs k)
constraint_typed o xs k h a = a k _ h

-- constraints of a typed model make a typed model
pub only_typed : (o : Outline) (xs ys : List ResolvedConstraint) (gs : List ResolvedGoal) (hs : List ResolvedGoal) (keep : List ℕ) → All (λ k. k < length xs) keep → ys ≡ map (constraint_at xs) keep → hs ≡ [] → IsTypedModel o xs gs → IsTypedModel o ys hs
only_typed o xs ys gs hs keep there is none t =
    record {
      constraints = subst (All (IsTypedConstraint o)) (sym is) (All-map (IsTypedConstraint o) (constraint_at xs) keep (λ i d h. constraint_typed o xs (get_or keep i d) (there i d h) t.constraints));
      goals = subst (All (IsTypedGoal o)) (sym none) (All-nil (IsTypedGoal o));
    }
