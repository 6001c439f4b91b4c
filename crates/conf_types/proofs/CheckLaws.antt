-- Faults of parts are faults of the whole, and parts without fault make a whole without fault.
use Rattle.std.proofs.Common.{◌≡◌, ℕ, zero, suc, ◌+◌, ◌<◌, ◌≤◌, true, false, not, ◌&&◌, List, [], ◌∷◌, ◌++◌, Option, None, Some, length, get_or, drop, refl, ap, sym, ◌∙◌, subst, arith, rules}
use Rattle.std.specs.Prelude.{Contains}
use Rattle.std.proofs.lemmas.List.Elements.{Contains-append_left, Contains-append_right}
use Rattle.class_table.specs.Outline.{Outline}
use Rattle.conf_syntax.specs.declared.token.Ident.{Ident}
use Rattle.conf_syntax.specs.declared.tree.Expr.{Expr}
use Rattle.conf_syntax.specs.declared.tree.Op.{Op}
use Rattle.conf_syntax.specs.declared.tree.Quant as quant
use Rattle.conf_syntax.specs.declared.tree.QuantKind.{QuantKind}
use Rattle.conf_syntax.specs.Trees.{depth, deepest, expr_depth}
use Rattle.conf_syntax.specs.OnlyIf.{some_if, only_if}
use Rattle.conf_types.specs.declared.fault.TypeFault.{TypeFault}
use Rattle.conf_types.specs.declared.fault.TypeFault.TheVariants.{Unknown, WrongType, NonLinear, Shadow, Memory}
use Rattle.conf_types.specs.declared.rules.Checked.{Checked}
use Rattle.conf_types.specs.declared.scope.Found.{Found}
use Rattle.conf_types.specs.declared.tree.RExpr.{RExpr}
use Rattle.conf_types.specs.declared.types.ExprType.{ExprType}
use Rattle.conf_types.specs.declared.types.ExprType.TheVariants.{Int, Truth, Choice, Object, Objects, Class}
use Rattle.conf_types.specs.declared.types.Need.{Need}
use Rattle.conf_types.specs.declared.types.Need.TheVariants as need
use Rattle.conf_types.specs.Checked.{IsRead, IsFilter, readings, optional_reading, scope_inside, quantifier_at, trees_onto, AreBodies}
use Rattle.conf_types.specs.Programs.{OnFault}
use Rattle.conf_types.specs.Readings.{Reading, read, alone, over_reading, pair_reading, quantifier_reading, shadow, filter_faults, filter_holds, filter_tree, mismatch, has, needs, needed, found_reading, attribute_reading, bodies_faults, bodies_hold, bodies_tree}
use Rattle.conf_types.specs.Scopes.{Scope, Sense, Nothing, attribute_named, sense}
use Rattle.conf_types.specs.declared.tree.RQuant as rquant
use Rattle.conf_types.specs.Trees.{Tree, Bodies, NoBody, Body}
use Rattle.conf_types.specs.TreeOf.{tree_of, trees_of, optional_tree, quant_tree, body_trees, node_tree}
use Rattle.conf_types.specs.Trees as tree
use Rattle.conf_types.specs.Types.{meets, body_need, quant_result}
use Rattle.conf_types.specs.Operators.{is_linear, class_of, left_by, right_by}

pub on_fault : (f : TypeFault) (P Q : TypeFault → Type 0) → ((g : TypeFault) → P g → Q g) → OnFault f P → OnFault f Q
on_fault (Unknown at) P Q each h = each (Unknown at) h
on_fault (WrongType at) P Q each h = each (WrongType at) h
on_fault (NonLinear at) P Q each h = each (NonLinear at) h
on_fault (Shadow at) P Q each h = each (Shadow at) h
on_fault Memory P Q each h = tt

-- a fault of the first, the second or the third of some lists
pub in_first : (f : TypeFault) (xs ys : List TypeFault) → OnFault f (λ g. Contains xs g) → OnFault f (λ g. Contains (xs ++ ys) g)
in_first f xs ys h = on_fault f (λ g. Contains xs g) (λ g. Contains (xs ++ ys) g) (λ g c. Contains-append_left xs ys g c) h

pub in_rest : (f : TypeFault) (xs ys : List TypeFault) → OnFault f (λ g. Contains ys g) → OnFault f (λ g. Contains (xs ++ ys) g)
in_rest f xs ys h = on_fault f (λ g. Contains ys g) (λ g. Contains (xs ++ ys) g) (λ g c. Contains-append_right xs ys g c) h

found_keeps : (at : ℕ) (r : Reading) (i : Ident) (x : Option Found) (g : TypeFault) → Contains r.faults g → Contains (found_reading at r i x).faults g
found_keeps at r i (Some f) g c = c
found_keeps at r i None g c = Contains-append_left r.faults (Unknown i.at ∷ []) g c

attribute_keeps : (o : Outline) (at : ℕ) (r : Reading) (i : Ident) (t : Option ExprType) (g : TypeFault) → Contains r.faults g → Contains (attribute_reading o at r i t).faults g
attribute_keeps o at r i (Some (Object c)) g h = found_keeps at r i (attribute_named o c i.name) g h
attribute_keeps o at r i (Some Int) g h = Contains-append_left r.faults (WrongType r.first ∷ Unknown i.at ∷ []) g h
attribute_keeps o at r i (Some Truth) g h = Contains-append_left r.faults (WrongType r.first ∷ Unknown i.at ∷ []) g h
attribute_keeps o at r i (Some (Choice e)) g h = Contains-append_left r.faults (WrongType r.first ∷ Unknown i.at ∷ []) g h
attribute_keeps o at r i (Some (Objects c)) g h = Contains-append_left r.faults (WrongType r.first ∷ Unknown i.at ∷ []) g h
attribute_keeps o at r i (Some (Class c)) g h = Contains-append_left r.faults (WrongType r.first ∷ Unknown i.at ∷ []) g h
attribute_keeps o at r i None g h = h

pub in_attribute : (f : TypeFault) (o : Outline) (at : ℕ) (r : Reading) (i : Ident) (t : Option ExprType) → OnFault f (λ g. Contains r.faults g) → OnFault f (λ g. Contains (attribute_reading o at r i t).faults g)
in_attribute f o at r i t h = on_fault f (λ g. Contains r.faults g) (λ g. Contains (attribute_reading o at r i t).faults g) (λ g c. attribute_keeps o at r i t g c) h

pub in_left : (f : TypeFault) (at : ℕ) (o : Op) (n : Need) (l r : Reading) → n ≡ left_by (class_of o) → OnFault f (λ g. Contains (needed n l) g) → OnFault f (λ g. Contains (pair_reading at o l r).faults g)
in_left f at o n l r e h =
    in_first f (needed (left_by (class_of o)) l) (needed (right_by (class_of o)) r ++ (mismatch o l.type r.type l.first ++ only_if (not (is_linear o l.literal r.literal)) (NonLinear at)))
    (subst (λ m. OnFault f (λ g. Contains (needed m l) g)) e h)

pub in_right : (f : TypeFault) (at : ℕ) (o : Op) (l r : Reading) → OnFault f (λ g. Contains (needed (right_by (class_of o)) r) g) → OnFault f (λ g. Contains (pair_reading at o l r).faults g)
in_right f at o l r h =
    in_rest f (needed (left_by (class_of o)) l) (needed (right_by (class_of o)) r ++ (mismatch o l.type r.type l.first ++ only_if (not (is_linear o l.literal r.literal)) (NonLinear at)))
    (in_first f (needed (right_by (class_of o)) r) (mismatch o l.type r.type l.first ++ only_if (not (is_linear o l.literal r.literal)) (NonLinear at)) h)

pub in_over : (f : TypeFault) (at : ℕ) (k : QuantKind) (name_at : ℕ) (x : Sense) (r : Reading) (a : Option Reading) (b : List Reading) → OnFault f (λ g. Contains (needed need.List r) g) → OnFault f (λ g. Contains (quantifier_reading at k name_at x r a b).faults g)
in_over f at k name_at x r a b h = in_rest f (shadow name_at x) (needed need.List r ++ (filter_faults a ++ bodies_faults k b 0)) (in_first f (needed need.List r) (filter_faults a ++ bodies_faults k b 0) h)

pub in_filter : (f : TypeFault) (at : ℕ) (k : QuantKind) (name_at : ℕ) (x : Sense) (r : Reading) (a : Option Reading) (b : List Reading) → OnFault f (λ g. Contains (filter_faults a) g) → OnFault f (λ g. Contains (quantifier_reading at k name_at x r a b).faults g)
in_filter f at k name_at x r a b h = in_rest f (shadow name_at x) (needed need.List r ++ (filter_faults a ++ bodies_faults k b 0)) (in_rest f (needed need.List r) (filter_faults a ++ bodies_faults k b 0) (in_first f (filter_faults a) (bodies_faults k b 0) h))

pub in_bodies : (f : TypeFault) (at : ℕ) (k : QuantKind) (name_at : ℕ) (x : Sense) (r : Reading) (a : Option Reading) (b : List Reading) → OnFault f (λ g. Contains (bodies_faults k b 0) g) → OnFault f (λ g. Contains (quantifier_reading at k name_at x r a b).faults g)
in_bodies f at k name_at x r a b h = in_rest f (shadow name_at x) (needed need.List r ++ (filter_faults a ++ bodies_faults k b 0)) (in_rest f (needed need.List r) (filter_faults a ++ bodies_faults k b 0) (in_rest f (filter_faults a) (bodies_faults k b 0) h))

-- a quantifier, by what was read of its parts in a scope that is the one inside of it
module _ (o : Outline) (at : ℕ) (s inner : Scope) (q : quant.Quant) (same : inner ≡ scope_inside o s (quant.out-Quant q).var (quant.out-Quant q).over) where
  abbrev over : Reading
  over = over_reading (quant.out-Quant q).over.at (alone o (quant.out-Quant q).over.node s) (read o s (quant.out-Quant q).over)

  pub parts_are : (x : Sense) (body : List Expr) → x ≡ sense o s (quant.out-Quant q).var.name → body ≡ (quant.out-Quant q).body.items → quantifier_reading at (quant.out-Quant q).kind (quant.out-Quant q).var.at x over (optional_reading o inner (quant.out-Quant q).filter) (readings o inner body) ≡ quantifier_at o at s q
  parts_are x body e b =
      ap (λ y. quantifier_reading at (quant.out-Quant q).kind (quant.out-Quant q).var.at y over (optional_reading o inner (quant.out-Quant q).filter) (readings o inner body)) e
      ∙ ap (λ es. quantifier_reading at (quant.out-Quant q).kind (quant.out-Quant q).var.at (sense o s (quant.out-Quant q).var.name) over (optional_reading o inner (quant.out-Quant q).filter) (readings o inner es)) b
      ∙ ap (λ i. quantifier_reading at (quant.out-Quant q).kind (quant.out-Quant q).var.at (sense o s (quant.out-Quant q).var.name) over (optional_reading o i (quant.out-Quant q).filter) (readings o i (quant.out-Quant q).body.items)) same

  pub in_quant_filter : (f : TypeFault) → OnFault f (λ g. Contains (filter_faults (optional_reading o inner (quant.out-Quant q).filter)) g) → OnFault f (λ g. Contains (quantifier_at o at s q).faults g)
  in_quant_filter f h =
      subst (λ (r : Reading). OnFault f (λ g. Contains r.faults g)) (parts_are (sense o s (quant.out-Quant q).var.name) (quant.out-Quant q).body.items refl refl)
      (in_filter f at (quant.out-Quant q).kind (quant.out-Quant q).var.at (sense o s (quant.out-Quant q).var.name) over (optional_reading o inner (quant.out-Quant q).filter) (readings o inner (quant.out-Quant q).body.items) h)

  pub in_quant_bodies : (f : TypeFault) (body : List Expr) → body ≡ (quant.out-Quant q).body.items → OnFault f (λ g. Contains (bodies_faults (quant.out-Quant q).kind (readings o inner body) 0) g) → OnFault f (λ g. Contains (quantifier_at o at s q).faults g)
  in_quant_bodies f body b h =
      subst (λ (r : Reading). OnFault f (λ g. Contains r.faults g)) (parts_are (sense o s (quant.out-Quant q).var.name) body refl b)
      (in_bodies f at (quant.out-Quant q).kind (quant.out-Quant q).var.at (sense o s (quant.out-Quant q).var.name) over (optional_reading o inner (quant.out-Quant q).filter) (readings o inner body) h)

pub in_quant_over : (f : TypeFault) (o : Outline) (at : ℕ) (s : Scope) (q : quant.Quant) → OnFault f (λ g. Contains (needed need.List (over_reading (quant.out-Quant q).over.at (alone o (quant.out-Quant q).over.node s) (read o s (quant.out-Quant q).over))) g) → OnFault f (λ g. Contains (quantifier_at o at s q).faults g)
in_quant_over f o at s q h =
    in_over f at (quant.out-Quant q).kind (quant.out-Quant q).var.at (sense o s (quant.out-Quant q).var.name) (over_reading (quant.out-Quant q).over.at (alone o (quant.out-Quant q).over.node s) (read o s (quant.out-Quant q).over))
    (optional_reading o (scope_inside o s (quant.out-Quant q).var (quant.out-Quant q).over) (quant.out-Quant q).filter) (readings o (scope_inside o s (quant.out-Quant q).var (quant.out-Quant q).over) (quant.out-Quant q).body.items) h

-- What is needed is met

pub needed_none : (n : Need) (x : Checked) (r : Reading) → IsRead x r → meets n x.kind ≡ true → needed n r ≡ []
needed_none n x r h m = ap (λ fs. fs ++ needs n r.type r.first) h.right ∙ ap (λ t. needs n t r.first) h.typed ∙ ap (λ b. only_if (not b) (WrongType r.first)) m

pub has_met : (n : Need) (x : Checked) (r : Reading) → IsRead x r → meets n x.kind ≡ true → has n r.type ≡ true
has_met n x r h m = ap (has n) h.typed ∙ m

-- Bodies, one by one

module _ (o : Outline) (s : Scope) (k : QuantKind) (body : List Expr) where
  next : (es : List Expr) (i : ℕ) (e : Expr) → i < length es → e ≡ get_or es i e → drop i es ≡ e ∷ drop (i + 1) es
  next [] i e h is = absurd (omega (arith, h))
  next (y ∷ ys) zero e h is = ap (λ z. z ∷ ys) (sym is)
  next (y ∷ ys) (suc i) e h is =
      let same : suc (i + 1) ≡ suc i + 1 = omega arith in
      subst (λ n. drop i ys ≡ e ∷ drop n (y ∷ ys)) same (next ys i e (omega (arith, h)) is)

  pub depth_at : (es : List Expr) (i : ℕ) (e : Expr) → i < length es → e ≡ get_or es i e → depth e.node ≤ deepest expr_depth (drop i es)
  depth_at es i e h is = let d = ap (deepest expr_depth) (next es i e h is) in omega (arith, d)

  pub depth_left : (es : List Expr) (i : ℕ) (e : Expr) → i < length es → e ≡ get_or es i e → deepest expr_depth (drop (i + 1) es) ≤ deepest expr_depth (drop i es)
  depth_left es i e h is = let d = ap (deepest expr_depth) (next es i e h is) in omega (arith, d)

  pub depth_drop : (es : List Expr) (i : ℕ) → deepest expr_depth (drop i es) ≤ deepest expr_depth es
  depth_drop [] i = by i
    where
      by : (i : ℕ) → deepest expr_depth (drop i []) ≤ 0
      by zero = omega arith
      by (suc i) = omega arith
  depth_drop (e ∷ es) zero = omega arith
  depth_drop (e ∷ es) (suc i) = let d = depth_drop es i in omega (arith, d)

  module _ (i : ℕ) (e : Expr) (x : Checked) (on : i < length body) (is : e ≡ get_or body i e) (h : IsRead x (read o s e)) (m : meets (body_need k i) x.kind ≡ true) where
    left : readings o s (drop i body) ≡ read o s e ∷ readings o s (drop (i + 1) body)
    left = ap (readings o s) (next body i e on is)

    pub faults_left : bodies_faults k (readings o s (drop (i + 1) body)) (i + 1) ≡ bodies_faults k (readings o s (drop i body)) i
    faults_left = sym (ap (λ rs. bodies_faults k rs i) left ∙ ap (λ fs. fs ++ bodies_faults k (readings o s (drop (i + 1) body)) (i + 1)) (needed_none (body_need k i) x (read o s e) h m))

    pub holds_left : bodies_hold k (readings o s (drop (i + 1) body)) (i + 1) ≡ bodies_hold k (readings o s (drop i body)) i
    holds_left = sym (ap (λ rs. bodies_hold k rs i) left ∙ ap (λ b. b && bodies_hold k (readings o s (drop (i + 1) body)) (i + 1)) (has_met (body_need k i) x (read o s e) h m))

    onto : (xs : List RExpr) (bs : Bodies) → trees_onto (xs ++ x.expr ∷ []) bs ≡ trees_onto xs (Body (tree_of x.expr) bs)
    onto [] bs = refl
    onto (y ∷ ys) bs = ap (λ z. Body (tree_of y) z) (onto ys bs)

    pub trees_left : (xs ys : List RExpr) → ys ≡ xs ++ x.expr ∷ [] → trees_onto ys (bodies_tree (readings o s (drop (i + 1) body))) ≡ trees_onto xs (bodies_tree (readings o s (drop i body)))
    trees_left xs ys grown =
        ap (λ zs. trees_onto zs (bodies_tree (readings o s (drop (i + 1) body)))) grown
        ∙ onto xs (bodies_tree (readings o s (drop (i + 1) body)))
        ∙ ap (λ t. trees_onto xs (Body t (bodies_tree (readings o s (drop (i + 1) body))))) h.tree_is
        ∙ sym (ap (λ rs. trees_onto xs (bodies_tree rs)) left)

  pub in_body : (f : TypeFault) (i : ℕ) (e : Expr) → i < length body → e ≡ get_or body i e → bodies_faults k (readings o s (drop i body)) i ≡ bodies_faults k (readings o s body) 0 → OnFault f (λ g. Contains (needed (body_need k i) (read o s e)) g) → OnFault f (λ g. Contains (bodies_faults k (readings o s body) 0) g)
  in_body f i e on is all h =
      let split = ap (λ es. bodies_faults k (readings o s es) i) (next body i e on is) in
      subst (λ fs. OnFault f (λ g. Contains fs g)) (sym split ∙ all)
      (in_first f (needed (body_need k i) (read o s e)) (bodies_faults k (readings o s (drop (i + 1) body)) (i + 1)) h)

  onto_none : (xs : List RExpr) → trees_onto xs NoBody ≡ trees_of xs
  onto_none [] = refl
  onto_none (y ∷ ys) = ap (λ z. Body (tree_of y) z) (onto_none ys)

  none_left : (es : List Expr) (i : ℕ) → length es ≤ i → drop i es ≡ []
  none_left [] zero h = refl
  none_left [] (suc i) h = refl
  none_left (e ∷ es) zero h = absurd (omega (arith, h))
  none_left (e ∷ es) (suc i) h = none_left es i (omega (arith, h))

  pub all_bodies : (xs : List RExpr) (i : ℕ) → length body ≤ i → bodies_faults k (readings o s (drop i body)) i ≡ bodies_faults k (readings o s body) 0 → bodies_hold k (readings o s (drop i body)) i ≡ bodies_hold k (readings o s body) 0 → trees_onto xs (bodies_tree (readings o s (drop i body))) ≡ bodies_tree (readings o s body) → AreBodies k xs (readings o s body) 0
  all_bodies xs i end a b d =
      let none = none_left body i end in
      record {
        right = sym a ∙ ap (λ es. bodies_faults k (readings o s es) i) none;
        hold = sym b ∙ ap (λ es. bodies_hold k (readings o s es) i) none;
        trees_are = sym (onto_none xs) ∙ sym (ap (λ es. trees_onto xs (bodies_tree (readings o s es))) none) ∙ d;
      }

-- Resolved quantifiers

rows_are : (m : _) (row : rquant.Row_of-RExpr m) → body_trees row ≡ trees_of (rquant.items-the_row-RExpr m row)
rows_are m rquant.end_of-RExpr = refl
rows_are m (rquant.more_of-RExpr at e rest) = ap (λ bs. Body (node_tree e at) bs) (rows_are _ rest)

pub rquant_is : (q : rquant.RQuant) (at : ℕ) → quant_tree q at ≡ tree.Quant at (rquant.out-RQuant q).kind (tree_of (rquant.out-RQuant q).over) (optional_tree (rquant.out-RQuant q).filter) (trees_of (rquant.out-RQuant q).body.items)
rquant_is (rquant.RQuant' k at over rquant.None' shape body) place = search (rules, rquant.the_lemmas, rows_are)
rquant_is (rquant.RQuant' k at over (rquant.Some' at' e) shape body) place = search (rules, rquant.the_lemmas, rows_are)

pub quantifier_read : (x y : Checked) (k : QuantKind) (at name_at : ℕ) (r : Reading) (f : Option Reading) (b : List Reading) (filter : Option RExpr) (xs : List RExpr) → IsRead x r → meets need.List x.kind ≡ true → IsFilter filter f → AreBodies k xs b 0 → tree_of y.expr ≡ tree.Quant at k (tree_of x.expr) (optional_tree filter) (trees_of xs) → y.kind ≡ quant_result k → y.first ≡ at → y.literal ≡ false → IsRead y (quantifier_reading at k name_at Nothing r f b)
quantifier_read x y k at name_at r f b filter xs h m hf hb t kind_is first_is literal_is =
    record {
      typed =
          ap (λ z. some_if (z && (filter_holds f && bodies_hold k b 0)) (quant_result k)) (has_met need.List x r h m)
          ∙ ap (λ z. some_if (z && bodies_hold k b 0) (quant_result k)) hf.holds
          ∙ ap (λ z. some_if z (quant_result k)) hb.hold
          ∙ ap (λ z. Some z) (sym kind_is);
      right =
          ap (λ fs. fs ++ (filter_faults f ++ bodies_faults k b 0)) (needed_none need.List x r h m)
          ∙ ap (λ fs. fs ++ bodies_faults k b 0) hf.right
          ∙ hb.right;
      tree_is =
          t ∙ ap (λ z. tree.Quant at k z (optional_tree filter) (trees_of xs)) h.tree_is
          ∙ ap (λ z. tree.Quant at k r.tree z (trees_of xs)) hf.tree_is
          ∙ ap (λ z. tree.Quant at k r.tree (filter_tree f) z) hb.trees_are;
      first_is = first_is;
      literal_is = literal_is;
    }
