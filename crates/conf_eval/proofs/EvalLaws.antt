-- What stands in an expression that is evaluated.
use Rattle.std.proofs.Common.{rules, ◌≡◌, ℕ, zero, suc, ◌+◌, ◌-◌, ◌*◌, ◌<◌, ◌≤◌, max, Bool, true, false, List, [], ◌∷◌, ◌++◌, Option, None, Some, ℤ, refl, ap, sym, ◌∙◌, subst, arith, drop, get_or, length, map, cond, not, ◌&&◌, ◌||◌, pos, append_assoc, ◌⊎◌, inl, inr, Box, Global}
use Rattle.std.specs.Prelude.{All, Contains, slice_get, count_by}
use Rattle.std.specs.List.{cons_option, list_all, list_any}
use Rattle.std.proofs.lemmas.List.Elements.{All-head, All-tail, All-weaker, All-contains_itself}
use Rattle.std.proofs.lemmas.List.Sums.{sum_by-cons}
use Rattle.class_table.specs.declared.table.Resolved.{Resolved}
use Rattle.class_table.specs.Outline.{Outline}
use Rattle.conf_syntax.specs.declared.tree.Op.{Op}
use Rattle.conf_syntax.specs.declared.tree.Op.TheVariants as op
use Rattle.conf_syntax.specs.declared.tree.QuantKind.{QuantKind}
use Rattle.conf_syntax.specs.declared.tree.QuantKind.TheVariants as kind
use Rattle.conf_types.specs.declared.tree.RExpr.{RExpr}
use Rattle.conf_types.specs.declared.tree.RNode as node
use Rattle.conf_types.specs.declared.tree.RQuant as quant
use Rattle.conf_types.specs.Trees.{Tree, Filter, Bodies, NoBody, Body}
use Rattle.conf_types.specs.TreeOf.{tree_of, quant_tree, body_trees, optional_tree, trees_of, node_tree}
use Rattle.conf_types.specs.Trees as tree
use Rattle.conf_eval.specs.Evaluating.{IsGiven, IsRoom, AllEvaluable, IsInner, AreInner, height, filter_height, bodies_height, number_of, term_of, holds}
use Rattle.conf_eval.specs.declared.value.Value.{Value}
use Rattle.conf_eval.specs.Fitting.{HasShape, IsEvaluable, IsEvaluableFilter, AreEvaluable, IsNarrow}
use Rattle.conf_eval.specs.Listing.{held}
use Rattle.conf_eval.specs.Memory.{takes_memory}
use Rattle.conf_eval.specs.Meaning.{Setting, bind, keeps, all_true, value, values_of, int_of, object_of, objects_of, operate, quantified, Item, item_of, load, total}
use Rattle.conf_eval.proofs.LawsNarrow.{value_narrow, in_left, in_right, in_dot, in_over, dot_shape, own_shape, first_body, later_bodies, AreInner as IsInside, inner, sum_narrow, load_back_narrow}
use Rattle.conf_eval.proofs.LawsValues.{some_is}
use Rattle.conf_eval.proofs.ListingLaws.{held_next, held_rest, held_fewer}

module _ (o : Outline) (vs : List ℤ) (g : IsGiven o vs) (s : Setting) (t : Tree) (e : IsEvaluable o vs t s) where
  at_tree : (x : Tree) → t ≡ x → IsEvaluable o vs x s
  at_tree x is = subst (λ y. IsEvaluable o vs y s) is e

  pub record IsPair (q : Op) (l r : Tree) : Type 0 where
    pub left : IsEvaluable o vs l s
    pub right : IsEvaluable o vs r s
    pub number : IsNarrow (int_of (operate q (value l s) (value r s)))
    pub low : height t ≡ suc (max (height l) (height r))

  pub pair : (i : ℕ) (q : Op) (l r : Tree) → t ≡ tree.Pair i q l r → IsPair q l r
  pair i q l r is =
      let p = at_tree (tree.Pair i q l r) is in
      record {
        left = in_left o vs g.sound g.config i q l r s p;
        right = in_right o vs g.sound g.config i q l r s p;
        number = value_narrow o vs g.sound g.config (tree.Pair i q l r) s p;
        low = ap height is;
      }

  pub record IsDot (inner : Tree) (k : ℕ) (sh : Resolved) : Type 0 where
    pub inner_is : IsEvaluable o vs inner s
    pub shape : HasShape o (Some (object_of (value inner s))) k sh
    pub low : height t ≡ suc (height inner)

  pub dot : (i : ℕ) (inner : Tree) (k : ℕ) (sh : Resolved) → t ≡ tree.Dot i inner k sh → IsDot inner k sh
  dot i inner k sh is =
      let p = at_tree (tree.Dot i inner k sh) is in
      record {
        inner_is = in_dot o vs g.sound g.config i inner k sh s p;
        shape = dot_shape o vs g.sound g.config i inner k sh s p;
        low = ap height is;
      }

  pub own : (i k : ℕ) (sh : Resolved) → t ≡ tree.Own i k sh → HasShape o s.this k sh
  own i k sh is = own_shape o vs g.sound g.config i k sh s (at_tree (tree.Own i k sh) is)

-- Quantifiers, by their parts

rows_are : (m : _) (row : quant.Row_of-RExpr m) → body_trees row ≡ trees_of (quant.items-the_row-RExpr m row)
rows_are m quant.end_of-RExpr = refl
rows_are m (quant.more_of-RExpr at e rest) = ap (λ bs. Body (node_tree e at) bs) (rows_are _ rest)

abbrev pub quant_of : quant.RQuant → ℕ → Tree
quant_of q at = tree.Quant at (quant.out-RQuant q).kind (tree_of (quant.out-RQuant q).over) (optional_tree (quant.out-RQuant q).filter) (trees_of (quant.out-RQuant q).body.items)

pub quant_is : (q : quant.RQuant) (at : ℕ) → quant_tree q at ≡ quant_of q at
quant_is (quant.RQuant' k i over quant.None' shape body) at = search (rules, quant.the_lemmas, rows_are)
quant_is (quant.RQuant' k i over (quant.Some' j e) shape body) at = search (rules, quant.the_lemmas, rows_are)

anywhere : (o : Outline) (vs : List ℤ) (s : Setting) (i j : ℕ) (q : QuantKind) (over : Tree) (f : Filter) (bs : Bodies) → IsEvaluable o vs (tree.Quant i q over f bs) s → IsEvaluable o vs (tree.Quant j q over f bs) s
anywhere o vs s i j q over f bs e = record { place = e.place; type = e.type; setting = e.setting; typed = e.typed; numbers = e.numbers }

-- the place of a quantifier is none of its meaning
pub quant_moved : (o : Outline) (vs : List ℤ) (s : Setting) (q : quant.RQuant) (i j : ℕ) → IsEvaluable o vs (quant_tree q i) s → IsEvaluable o vs (quant_tree q j) s
quant_moved o vs s q i j e =
    let r = quant.out-RQuant q in
    subst (λ t. IsEvaluable o vs t s) (sym (quant_is q j))
    (anywhere o vs s i j r.kind (tree_of r.over) (optional_tree r.filter) (trees_of r.body.items) (subst (λ t. IsEvaluable o vs t s) (quant_is q i) e))

pub quant_value : (s : Setting) (q : quant.RQuant) (i j : ℕ) → value (quant_tree q i) s ≡ value (quant_tree q j) s
quant_value s q i j = ap (λ t. value t s) (quant_is q i) ∙ sym (ap (λ t. value t s) (quant_is q j))

pub quant_height : (q : quant.RQuant) (i j : ℕ) → height (quant_tree q i) ≡ height (quant_tree q j)
quant_height q i j = ap height (quant_is q i) ∙ sym (ap height (quant_is q j))

pub all_evaluable : (o : Outline) (vs : List ℤ) → IsGiven o vs → (q : QuantKind) (n : ℕ) (bs : Bodies) (s : Setting) → AreEvaluable o vs q n bs s → AllEvaluable o vs bs s
all_evaluable o vs g q n NoBody s e = tt
all_evaluable o vs g q n (Body t bs) s e = (first_body o vs g.sound g.config q n t bs s e, all_evaluable o vs g q (suc n) bs s (later_bodies o vs g.sound g.config q n t bs s e))

-- Members, slot by slot

module _ (ss : List (Option ℕ)) (i : ℕ) (within : i < length ss) where
  pub member_here : (x : ℕ) → get_or ss i None ≡ Some x → held (drop i ss) ≡ x ∷ held (drop (i + 1) ss)
  member_here x is = held_next ss i within ∙ ap (λ r. cons_option r (held (drop (i + 1) ss))) is

  pub inner_here : (P : ℕ → Type 0) (x : ℕ) → get_or ss i None ≡ Some x → All P (held (drop i ss)) → P x
  inner_here P x is h = All-head P x (held (drop (i + 1) ss)) (subst (All P) (member_here x is) h)

  pub inner_next : (P : ℕ → Type 0) (x : ℕ) → get_or ss i None ≡ Some x → All P (held (drop i ss)) → All P (held (drop (i + 1) ss))
  inner_next P x is h = All-tail P x (held (drop (i + 1) ss)) (subst (All P) (member_here x is) h)

  pub none_here : get_or ss i None ≡ None → held (drop i ss) ≡ held (drop (i + 1) ss)
  none_here is = held_next ss i within ∙ ap (λ r. cons_option r (held (drop (i + 1) ss))) is

-- A quantifier's members

module _ (o : Outline) (vs : List ℤ) (g : IsGiven o vs) (s : Setting) (i : ℕ) (q : QuantKind) (over : Tree) (f : Filter) (bs : Bodies) (e : IsEvaluable o vs (tree.Quant i q over f bs) s) (xs : List ℕ) (is : xs ≡ objects_of (value over s)) where
  pub over_is : IsEvaluable o vs over s
  over_is = in_over o vs g.sound g.config i q over f bs s e

  pub quant_inner : AreInner o vs f bs s xs
  quant_inner =
      subst (AreInner o vs f bs s) (sym is)
      (All-weaker (IsInside o vs g.sound g.config i q over f bs s e) (λ x. IsInner o vs f bs (bind s x)) (λ x h. record { filter = h.filter; bodies = all_evaluable o vs g q 0 bs (bind s x) h.bodies }) (objects_of (value over s)) (inner o vs g.sound g.config i q over f bs s e))

  pub quant_bodies : All (λ x. AllEvaluable o vs bs (bind s x)) xs
  quant_bodies = All-weaker (λ x. IsInner o vs f bs (bind s x)) (λ x. AllEvaluable o vs bs (bind s x)) (λ x h. h.bodies) xs quant_inner

-- the sum over the members from a slot on is narrow
pub rest_narrow : (o : Outline) (vs : List ℤ) (g : IsGiven o vs) (s : Setting) (i : ℕ) (over : Tree) (f : Filter) (bs : Bodies) → IsEvaluable o vs (tree.Quant i kind.Sum over f bs) s → (ss : List (Option ℕ)) → held ss ≡ objects_of (value over s) → (n : ℕ) → IsNarrow (total (map (λ x. term_of f bs (bind s x)) (held (drop n ss))))
rest_narrow o vs g s i over f bs e ss is n =
    let fewer = held_fewer ss n in
    let all = subst (λ xs. All (Contains xs) (held ss)) is (All-contains_itself (held ss)) in
    sum_narrow o vs g.sound g.config i over f bs s e (held (drop n ss)) (omega (arith, fewer, ap length is)) (held_rest (Contains (objects_of (value over s))) ss n all)

pub items_narrow : (o : Outline) (vs : List ℤ) (g : IsGiven o vs) (s : Setting) (i : ℕ) (over : Tree) (f : Filter) (bs : Bodies) → IsEvaluable o vs (tree.Quant i kind.Pack over f bs) s → (xs : List ℕ) → xs ≡ objects_of (value over s) → (ys : List Item) → ys ≡ map (λ x. item_of (values_of bs (bind s x))) xs → (bin : Value) (n : ℕ) → IsNarrow (load bin (drop n ys))
items_narrow o vs g s i over f bs e xs is ys made bin n =
    subst (λ zs. IsNarrow (load bin (drop n zs))) (sym (made ∙ ap (map (λ x. item_of (values_of bs (bind s x)))) is)) (load_back_narrow o vs g.sound g.config i over f bs s e bin n)

-- Bodies by their numbers

module _ (o : Outline) (vs : List ℤ) (s : Setting) where
  pub nth_evaluable : (bs : List RExpr) (n : ℕ) (e : RExpr) → n < length bs → e ≡ get_or bs n e → AllEvaluable o vs (trees_of bs) s → IsEvaluable o vs (tree_of e) s
  nth_evaluable [] n e lt is h = absurd (omega (arith, lt))
  nth_evaluable (b ∷ bs) zero e lt is h = subst (λ x. IsEvaluable o vs (tree_of x) s) (sym is) h.0
  nth_evaluable (b ∷ bs) (suc n) e lt is h = nth_evaluable bs n e (omega (arith, lt)) is h.1

pub nth_low : (bs : List RExpr) (n : ℕ) (e : RExpr) → n < length bs → e ≡ get_or bs n e → height (tree_of e) ≤ bodies_height (trees_of bs)
nth_low [] n e lt is = absurd (omega (arith, lt))
nth_low (b ∷ bs) zero e lt is = let same = ap (λ x. height (tree_of x)) is in omega (arith, same)
nth_low (b ∷ bs) (suc n) e lt is = let r = nth_low bs n e (omega (arith, lt)) is in omega (arith, r)

pub nth_number : (s : Setting) (bs : List RExpr) (n : ℕ) (e : RExpr) → n < length bs → e ≡ get_or bs n e → int_of (value (tree_of e) s) ≡ number_of (trees_of bs) n s
nth_number s [] n e lt is = absurd (omega (arith, lt))
nth_number s (b ∷ bs) zero e lt is = ap (λ x. int_of (value (tree_of x) s)) is
nth_number s (b ∷ bs) (suc n) e lt is = nth_number s bs n e (omega (arith, lt)) is

pub no_number : (s : Setting) (bs : List RExpr) (n : ℕ) → length bs ≤ n → pos 0 ≡ number_of (trees_of bs) n s
no_number s [] n le = refl
no_number s (b ∷ bs) zero le = absurd (omega (arith, le))
no_number s (b ∷ bs) (suc n) le = no_number s bs n (omega (arith, le))

pub at_most_one : (b : Bool) → cond {A = ℕ} b 1 0 ≤ 1
at_most_one true = omega arith
at_most_one false = omega arith

pub mapped_push : {X Y : Type 0} (f : X → Y) (xs : List X) (y : X) → map f (xs ++ y ∷ []) ≡ map f xs ++ f y ∷ []
mapped_push f [] y = refl
mapped_push f (x ∷ xs) y = ap (λ zs. f x ∷ zs) (mapped_push f xs y)

and_is : (b c : Bool) → cond b c false ≡ (b && c)
and_is true c = refl
and_is false c = refl

pub counts_are : (f : Filter) (bs : Bodies) (s : Setting) (xs : List ℕ) → count_by (λ x. holds f bs false (bind s x)) xs ≡ count_by (λ x. keeps f (bind s x) && all_true (values_of bs (bind s x))) xs
counts_are f bs s xs = λ j. count_by (λ x. and_is (keeps f (bind s x)) (all_true (values_of bs (bind s x))) j) xs

-- One member further

pub all_step : (test : ℕ → Bool) (x : ℕ) (left rest : List ℕ) (b : Bool) → left ≡ x ∷ rest → test x ≡ true → list_all test left ≡ b → list_all test rest ≡ b
all_step test x left rest b split t h = sym (ap (λ c. c && list_all test rest) t) ∙ sym (ap (list_all test) split) ∙ h

pub any_step : (test : ℕ → Bool) (x : ℕ) (left rest : List ℕ) (b : Bool) → left ≡ x ∷ rest → test x ≡ false → list_any test left ≡ b → list_any test rest ≡ b
any_step test x left rest b split t h = sym (ap (λ c. c || list_any test rest) t) ∙ sym (ap (list_any test) split) ∙ h

pub count_step : (test : ℕ → Bool) (x : ℕ) (left rest : List ℕ) (done next all : ℕ) (b : Bool) → left ≡ x ∷ rest → b ≡ test x → next ≡ done + cond b 1 0 → done + count_by test left ≡ all → next + count_by test rest ≡ all
count_step test x left rest done next all b split t is h =
    let more = sum_by-cons (λ y. cond (test y) 1 0) x rest in
    let same = ap (count_by test) split in
    let c : cond {A = ℕ} b 1 0 ≡ cond (test x) 1 0 = ap (λ d. cond {A = ℕ} d 1 0) t in
    omega (arith, more, same, c, is, h)

pub push_step : {X : Type 0} (f : ℕ → X) (x : ℕ) (left rest : List ℕ) (done next all : List X) (y : X) → left ≡ x ∷ rest → y ≡ f x → next ≡ done ++ y ∷ [] → done ++ map f left ≡ all → next ++ map f rest ≡ all
push_step f x left rest done next all y split is made h =
    ap (λ ys. ys ++ map f rest) made ∙ append_assoc done (y ∷ []) (map f rest) ∙ ap (λ z. done ++ z ∷ map f rest) is ∙ sym (ap (λ xs. done ++ map f xs) split) ∙ h

-- What is no list

no_pair : (q : Op) (v w : Value) → [] ≡ objects_of (operate q v w)
no_pair op.Implies v w = refl
no_pair op.Or v w = refl
no_pair op.And v w = refl
no_pair op.Eq v w = refl
no_pair op.Ne v w = refl
no_pair op.Lt v w = refl
no_pair op.Le v w = refl
no_pair op.Gt v w = refl
no_pair op.Ge v w = refl
no_pair op.In v w = refl
no_pair op.Add v w = refl
no_pair op.Sub v w = refl
no_pair op.Mul v w = refl

no_quantified : (q : QuantKind) (xs : List ℕ) (k : ℕ → Bool) (b : ℕ → List Value) → [] ≡ objects_of (quantified q xs k b)
no_quantified kind.Forall xs k b = refl
no_quantified kind.Exists xs k b = refl
no_quantified kind.Sum xs k b = refl
no_quantified kind.Count xs k b = refl
no_quantified kind.AllDifferent xs k b = refl
no_quantified kind.Pack xs k b = refl

module _ (n : node.RNode) (at : ℕ) (s : Setting) where
  pub no_list :
      ((x : ℕ) × (n ≡ node.Number x)) ⊎ (((x : Bool) × (n ≡ node.Truth x)) ⊎ ((n ≡ node.This) ⊎ (((x : Box RExpr Global) × (n ≡ node.Minus x)) ⊎ (((x : Box RExpr Global) × (n ≡ node.Not x)) ⊎ (((o : Op) × (x : Box RExpr Global) × (y : Box RExpr Global) × (n ≡ node.Pair o x y)) ⊎ (((x : ℕ) × (n ≡ node.Local x)) ⊎ (((x : ℕ) × (y : ℕ) × (n ≡ node.Value x y)) ⊎ ((x : Box quant.RQuant Global) × (n ≡ node.Quant x)))))))))
      → [] ≡ objects_of (value (node_tree n at) s)
  no_list (inl (x, e)) = sym (ap (λ m. objects_of (value (node_tree m at) s)) e)
  no_list (inr (inl (x, e))) = sym (ap (λ m. objects_of (value (node_tree m at) s)) e)
  no_list (inr (inr (inl e))) = sym (ap (λ m. objects_of (value (node_tree m at) s)) e)
  no_list (inr (inr (inr (inl (x, e))))) = sym (ap (λ m. objects_of (value (node_tree m at) s)) e)
  no_list (inr (inr (inr (inr (inl (x, e)))))) = sym (ap (λ m. objects_of (value (node_tree m at) s)) e)
  no_list (inr (inr (inr (inr (inr (inl (o, x, y, e))))))) = no_pair o (value (tree_of x.value) s) (value (tree_of y.value) s) ∙ sym (ap (λ m. objects_of (value (node_tree m at) s)) e)
  no_list (inr (inr (inr (inr (inr (inr (inl (x, e)))))))) = sym (ap (λ m. objects_of (value (node_tree m at) s)) e)
  no_list (inr (inr (inr (inr (inr (inr (inr (inl (x, y, e))))))))) = sym (ap (λ m. objects_of (value (node_tree m at) s)) e)
  no_list (inr (inr (inr (inr (inr (inr (inr (inr (x, e))))))))) =
      let q = quant.out-RQuant x.value in
      no_quantified q.kind (objects_of (value (tree_of q.over) s)) (λ y. keeps (optional_tree q.filter) (bind s y)) (λ y. values_of (trees_of q.body.items) (bind s y))
      ∙ sym (ap (λ t. objects_of (value t s)) (quant_is x.value at))
      ∙ sym (ap (λ m. objects_of (value (node_tree m at) s)) e)

-- ---- memory

-- a quantifier takes memory
pub quant_takes : (t : Tree) (q : quant.RQuant) (at : ℕ) → t ≡ quant_tree q at →
    takes_memory t ≡ true
quant_takes t q at is = ap takes_memory (is ∙ quant_is q at)
