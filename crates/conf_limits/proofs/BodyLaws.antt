-- Quantifiers and their bodies, one by one.
use Rattle.std.proofs.Common.{◌≡◌, ℕ, zero, suc, ◌+◌, ◌<◌, ◌≤◌, ◌-◌, Bool, true, false, cond, List, [], ◌∷◌, length, get_or, drop, refl, ap, sym, ◌∙◌, subst, arith, rules}
use Rattle.std.specs.Prelude.{Some, nat_eq, ◌&&◌}
use Rattle.class_table.specs.Outline.{Outline}
use Rattle.conf_types.specs.declared.tree.RExpr.{RExpr}
use Rattle.conf_types.specs.declared.tree.RQuant as quant
use Rattle.conf_types.specs.Trees.{Tree, Bodies, NoBody, Body}
use Rattle.conf_types.specs.TreeOf.{tree_of, trees_of, optional_tree, quant_tree, body_trees, node_tree}
use Rattle.conf_types.specs.Trees as tree
use Rattle.conf_limits.specs.declared.measure.Bodies.{Bodies as BodiesMeasure}
use Rattle.conf_limits.specs.declared.measure.Measure.{Measure}
use Rattle.conf_limits.specs.Counting.{joined, IsMeasuring}
use Rattle.conf_limits.specs.Limits.{capped, kept, chosen, size, filter_size, bodies_size, IsThere, IsFilterThere, AreBodiesThere, IsMeasure, IsBodiesMeasure}
use Rattle.conf_limits.specs.Measures.{Interval, none, narrow, interval, bodies_narrow, body_interval, bodies_weight, weight}

-- A quantifier without pointers

rows_are : (m : _) (row : quant.Row_of-RExpr m) → body_trees row ≡ trees_of (quant.items-the_row-RExpr m row)
rows_are m quant.end_of-RExpr = refl
rows_are m (quant.more_of-RExpr i e rest) = ap (Body (node_tree e i)) (rows_are _ rest)

pub quant_is : (q : quant.RQuant) (at : ℕ) → quant_tree q at ≡ tree.Quant at (quant.out-RQuant q).kind (tree_of (quant.out-RQuant q).over) (optional_tree (quant.out-RQuant q).filter) (trees_of (quant.out-RQuant q).body.items)
quant_is (quant.RQuant' k i over quant.None' shape body) at = search (rules, quant.the_lemmas, rows_are)
quant_is (quant.RQuant' k i over (quant.Some' j e) shape body) at = search (rules, quant.the_lemmas, rows_are)

pub quant_size : (q : quant.RQuant) (at : ℕ) → size (quant_tree q at) ≡ 1 + (size (tree_of (quant.out-RQuant q).over) + (filter_size (optional_tree (quant.out-RQuant q).filter) + bodies_size (trees_of (quant.out-RQuant q).body.items)))
quant_size q at = ap size (quant_is q at)

pub quant_there : (o : Outline) (q : quant.RQuant) (at : ℕ) → IsThere o (quant_tree q at) → IsThere o (tree_of (quant.out-RQuant q).over) × (IsFilterThere o (optional_tree (quant.out-RQuant q).filter) × AreBodiesThere o (trees_of (quant.out-RQuant q).body.items))
quant_there o q at h = subst (IsThere o) (quant_is q at) h

pub there_quant : (o : Outline) (q : quant.RQuant) (a b : ℕ) → IsThere o (quant_tree q a) → IsThere o (quant_tree q b)
there_quant o q a b h = subst (IsThere o) (sym (quant_is q b)) (quant_there o q a h)

-- Bodies

pub next : {X : Type 0} (es : List X) (i : ℕ) (e : X) → i < length es → e ≡ get_or es i e → drop i es ≡ e ∷ drop (i + 1) es
next [] i e h is = absurd (omega (arith, h))
next (y ∷ ys) zero e h is = ap (λ z. z ∷ ys) (sym is)
next (y ∷ ys) (suc i) e h is =
    let same : suc (i + 1) ≡ suc i + 1 = omega arith in
    subst (λ n. drop i ys ≡ e ∷ drop n (y ∷ ys)) same (next ys i e (omega (arith, h)) is)

pub next_trees : (es : List RExpr) (i : ℕ) (e : RExpr) → i < length es → e ≡ get_or es i e → trees_of (drop i es) ≡ Body (tree_of e) (trees_of (drop (i + 1) es))
next_trees es i e h is = ap trees_of (next es i e h is)

pub no_more : (es : List RExpr) (i : ℕ) → length es ≤ i → trees_of (drop i es) ≡ NoBody
no_more [] zero h = refl
no_more [] (suc i) h = refl
no_more (e ∷ es) zero h = absurd (omega (arith, h))
no_more (e ∷ es) (suc i) h = no_more es i (omega (arith, h))

chosen_kept : (w a b : Bool) (i j : Interval) → chosen w (kept a i) (kept b j) ≡ kept (a && b) (cond w j i)
chosen_kept w true true i j = refl
chosen_kept w true false i j = refl
chosen_kept w false b i j = refl

assoc : (a b c : Bool) → (a && b) && c ≡ a && (b && c)
assoc true b c = refl
assoc false b c = refl

and_true : (b : Bool) (i : Interval) → kept b i ≡ kept (b && true) i
and_true true i = refl
and_true false i = refl

here : (k : ℕ) → nat_eq k (k + 0) ≡ true
here k = grind arith

before : (k d : ℕ) → nat_eq k (k + suc d) ≡ false
before k d = grind arith

behind : (k w : ℕ) → w < k → nat_eq k w ≡ false
behind k w h = grind arith

module _ (o : Outline) where
  one : (e : Tree) (bs : Bodies) (k wanted : ℕ) (w b : Bool) (i : Interval) → nat_eq k wanted ≡ w → joined o (kept b i) (Body e bs) k wanted ≡ joined o (kept (b && narrow o e) (cond w (interval o e) i)) bs (k + 1) wanted
  one e bs k wanted w b i h =
      ap (λ v. joined o (chosen v (kept b i) (kept (narrow o e) (interval o e))) bs (k + 1) wanted) h
      ∙ ap (λ f. joined o f bs (k + 1) wanted) (chosen_kept w b (narrow o e) i (interval o e))

  -- the wanted body stands before
  passed : (bs : Bodies) (k wanted : ℕ) (b : Bool) (i : Interval) → wanted < k → joined o (kept b i) bs k wanted ≡ kept (b && bodies_narrow o bs) i
  passed NoBody k wanted b i h = and_true b i
  passed (Body e bs) k wanted b i h =
      one e bs k wanted false b i (behind k wanted h)
      ∙ passed bs (k + 1) wanted (b && narrow o e) i (omega (arith, h))
      ∙ ap (λ c. kept c i) (assoc b (narrow o e) (bodies_narrow o bs))

  -- it is number d of these
  ahead : (bs : Bodies) (k d : ℕ) (b : Bool) → joined o (kept b none) bs k (k + d) ≡ kept (b && bodies_narrow o bs) (body_interval o bs d)
  ahead NoBody k d b = and_true b none
  ahead (Body e bs) k zero b =
      one e bs k (k + 0) true b none (here k)
      ∙ passed bs (k + 1) (k + 0) (b && narrow o e) (interval o e) (omega arith)
      ∙ ap (λ c. kept c (interval o e)) (assoc b (narrow o e) (bodies_narrow o bs))
  ahead (Body e bs) k (suc d) b =
      let more : k + suc d ≡ k + 1 + d = omega arith in
      one e bs k (k + suc d) false b none (before k d)
      ∙ ap (λ w. joined o (kept (b && narrow o e) none) bs (k + 1) w) more
      ∙ ahead bs (k + 1) d (b && narrow o e)
      ∙ ap (λ c. kept c (body_interval o bs d)) (assoc b (narrow o e) (bodies_narrow o bs))

  pub step : (wanted k : ℕ) (m n : BodiesMeasure) (x : Measure) (t : Tree) (left rest all : Bodies) → left ≡ Body t rest → IsMeasuring o wanted m k left all → IsMeasure x o t → ((p q : ℕ) → m.weight ≡ capped p → x.weight ≡ capped q → n.weight ≡ capped (p + q)) → n.interval ≡ chosen (nat_eq k wanted) m.interval x.interval → IsMeasuring o wanted n (k + 1) rest all
  step wanted k m n x t left rest all is h y w i =
      let sizes : bodies_size left ≡ size t + bodies_size rest = ap bodies_size is in
      let weights : bodies_weight o left ≡ weight o t + bodies_weight o rest = ap (bodies_weight o) is in
      let small = h.small in
      let light = h.light in
      let there : IsThere o t × AreBodiesThere o rest = subst (AreBodiesThere o) is h.there in
      let added : (bodies_weight o all - bodies_weight o left) + weight o t ≡ bodies_weight o all - bodies_weight o rest = omega (arith, weights, light) in
      record {
        there = there.1;
        small = omega (arith, sizes, small);
        light = omega (arith, weights, light);
        weight_is = w (bodies_weight o all - bodies_weight o left) (weight o t) h.weight_is y.weight_is ∙ ap capped added;
        interval_is = ap (λ f. joined o f rest (k + 1) wanted) i
            ∙ ap (λ f. joined o (chosen (nat_eq k wanted) m.interval f) rest (k + 1) wanted) y.interval_is
            ∙ sym (ap (λ bs. joined o m.interval bs k wanted) is) ∙ h.interval_is;
      }

  pub done : (wanted k : ℕ) (m : BodiesMeasure) (left all : Bodies) → left ≡ NoBody → IsMeasuring o wanted m k left all → IsBodiesMeasure m o wanted all
  done wanted k m left all is h =
      let weights : bodies_weight o left ≡ 0 = ap (bodies_weight o) is in
      let whole : bodies_weight o all - bodies_weight o left ≡ bodies_weight o all = omega (arith, weights) in
      let start : wanted ≡ 0 + wanted = omega arith in
      record {
        weight_is = h.weight_is ∙ ap capped whole;
        interval_is = sym (ap (λ bs. joined o m.interval bs k wanted) is) ∙ h.interval_is ∙ ap (λ w. joined o (Some none) all 0 w) start ∙ ahead all 0 wanted true;
      }
