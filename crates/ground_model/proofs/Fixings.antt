-- Quantifiers and their bodies, looked at for quantifiers within.
use Rattle.std.proofs.Common.{◌≡◌, ℕ, ◌+◌, ◌<◌, ◌≤◌, Bool, true, false, ◌&&◌, List, drop, length, get_or, refl, sym, ap, ◌∙◌}
use Rattle.std.proofs.lemmas.List.{drop_more, drop_all}
use Rattle.conf_types.specs.declared.tree.RExpr.{RExpr}
use Rattle.conf_types.specs.declared.tree.RQuant as quant
use Rattle.conf_types.specs.Trees.{Body, NoBody}
use Rattle.conf_types.specs.TreeOf.{tree_of, trees_of, optional_tree, quant_tree}
use Rattle.conf_eval.proofs.EvalLaws.{quant_is}
use Rattle.ground_model.specs.Fixing.{joins_truths, is_simple, is_simple_filter, are_simple, fixes}

pub no_simple : (q : quant.RQuant) (at : ℕ) → is_simple (quant_tree q at) ≡ false
no_simple (quant.RQuant' k i over filter shape body) at = refl

pub joins : (q : quant.RQuant) (at : ℕ) → fixes (quant_tree q at)
    ≡ (joins_truths (quant.out-RQuant q).kind && (is_simple (tree_of (quant.out-RQuant q).over) && (is_simple_filter (optional_tree (quant.out-RQuant q).filter) && are_simple (trees_of (quant.out-RQuant q).body.items))))
joins q at = ap fixes (quant_is q at)

next_trees : (es : List RExpr) (i : ℕ) (e : RExpr) → i < length es → e ≡ get_or es i e → trees_of (drop i es) ≡ Body (tree_of e) (trees_of (drop (i + 1) es))
next_trees es i e lt is = ap trees_of (drop_more es i e lt) ∙ ap (λ (z : RExpr). Body (tree_of z) (trees_of (drop (i + 1) es))) (sym is)

no_more : (es : List RExpr) (i : ℕ) → length es ≤ i → trees_of (drop i es) ≡ NoBody
no_more es i past = ap trees_of (drop_all i es past)

-- one body more
pub next_simple : (es : List RExpr) (i : ℕ) (e : RExpr) → i < length es → e ≡ get_or es i e → is_simple (tree_of e) ≡ true → are_simple (trees_of (drop i es)) ≡ are_simple (trees_of es) → are_simple (trees_of (drop (i + 1) es)) ≡ are_simple (trees_of es)
next_simple es i e lt is one rest = sym (ap are_simple (next_trees es i e lt is) ∙ ap (λ (b : Bool). b && are_simple (trees_of (drop (i + 1) es))) one) ∙ rest

pub one_is_not : (es : List RExpr) (i : ℕ) (e : RExpr) → i < length es → e ≡ get_or es i e → is_simple (tree_of e) ≡ false → are_simple (trees_of (drop i es)) ≡ are_simple (trees_of es) → false ≡ are_simple (trees_of es)
one_is_not es i e lt is one rest = sym (ap are_simple (next_trees es i e lt is) ∙ ap (λ (b : Bool). b && are_simple (trees_of (drop (i + 1) es))) one) ∙ rest

pub all_simple : (es : List RExpr) (i : ℕ) → length es ≤ i → are_simple (trees_of (drop i es)) ≡ are_simple (trees_of es) → true ≡ are_simple (trees_of es)
all_simple es i h rest = sym (ap are_simple (no_more es i h)) ∙ rest
