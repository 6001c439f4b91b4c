-- Faults of some constraints and objectives are faults of the model.
use Rattle.std.proofs.Common.{◌≡◌, ℕ, zero, suc, ◌+◌, ◌<◌, List, [], ◌∷◌, ◌++◌, Option, length, map, get_or, drop, refl, ap, sym, ◌∙◌, subst, arith, append_assoc, ◌⊎◌, inl, inr}
use Rattle.std.specs.Prelude.{Contains}
use Rattle.std.specs.List.{flat_map}
use Rattle.std.proofs.lemmas.List.Elements.{Contains-append_left, Contains-append_right, Contains-append_cases}
use Rattle.class_table.specs.Outline.{Outline}
use Rattle.conf_syntax.specs.declared.tree.Expr.{Expr}
use Rattle.conf_syntax.specs.declared.tree.Item.{Item}
use Rattle.conf_syntax.specs.declared.tree.Member.{Member}
use Rattle.conf_types.specs.declared.fault.TypeFault.{TypeFault}
use Rattle.conf_types.specs.Programs.{OnFault, stated, member_exprs, item_constraints, item_goal, next_class, constraints_from, goals, constraint_faults, goal_faults, faults, constraints}
use Rattle.conf_types.proofs.CheckLaws.{on_fault, in_first}

pub next : {X : Type 0} (xs : List X) (i : ℕ) (x : X) → i < length xs → x ≡ get_or xs i x → drop i xs ≡ x ∷ drop (i + 1) xs
next [] i x h e = absurd (omega (arith, h))
next (y ∷ ys) zero x h e = ap (λ z. z ∷ ys) (sym e)
next (y ∷ ys) (suc i) x h e =
    let same : suc (i + 1) ≡ suc i + 1 = omega arith in
    subst (λ k. drop i ys ≡ x ∷ drop k (y ∷ ys)) same (next ys i x (omega (arith, h)) e)

flat_append : {X Y : Type 0} (f : X → List Y) (xs ys : List X) → flat_map f (xs ++ ys) ≡ flat_map f xs ++ flat_map f ys
flat_append f [] ys = refl
flat_append f (x ∷ xs) ys = ap (λ zs. f x ++ zs) (flat_append f xs ys) ∙ sym (append_assoc (f x) (flat_map f xs) (flat_map f ys))

map_append : {X Y : Type 0} (f : X → Y) (xs ys : List X) → map f (xs ++ ys) ≡ map f xs ++ map f ys
map_append f [] ys = refl
map_append f (x ∷ xs) ys = ap (λ zs. f x ∷ zs) (map_append f xs ys)

module _ (o : Outline) (f : TypeFault) where
  pub in_list : (c : Option ℕ) (list : List Expr) (i : ℕ) (e : Expr) → i < length list → e ≡ get_or list i e → flat_map (constraint_faults o) (map (stated c) (drop i list)) ≡ flat_map (constraint_faults o) (map (stated c) list) → OnFault f (λ g. Contains (constraint_faults o (stated c e)) g) → OnFault f (λ g. Contains (flat_map (constraint_faults o) (map (stated c) list)) g)
  in_list c list i e on is all h =
      let split = ap (λ es. flat_map (constraint_faults o) (map (stated c) es)) (next list i e on is) in
      subst (λ fs. OnFault f (λ g. Contains fs g)) (sym split ∙ all)
      (in_first f (constraint_faults o (stated c e)) (flat_map (constraint_faults o) (map (stated c) (drop (i + 1) list))) h)

  pub in_members : (c : Option ℕ) (members : List Member) (i : ℕ) (m : Member) (list : List Expr) → i < length members → m ≡ get_or members i m → member_exprs m ≡ list → flat_map (constraint_faults o) (map (stated c) (flat_map member_exprs (drop i members))) ≡ flat_map (constraint_faults o) (map (stated c) (flat_map member_exprs members)) → OnFault f (λ g. Contains (flat_map (constraint_faults o) (map (stated c) list)) g) → OnFault f (λ g. Contains (flat_map (constraint_faults o) (map (stated c) (flat_map member_exprs members))) g)
  in_members c members i m list on is same all h =
      let rest = flat_map member_exprs (drop (i + 1) members) in
      let split =
      ap (λ ms. flat_map (constraint_faults o) (map (stated c) (flat_map member_exprs ms))) (next members i m on is)
      ∙ ap (flat_map (constraint_faults o)) (map_append (stated c) (member_exprs m) rest)
      ∙ flat_append (constraint_faults o) (map (stated c) (member_exprs m)) (map (stated c) rest)
      ∙ ap (λ es. flat_map (constraint_faults o) (map (stated c) es) ++ flat_map (constraint_faults o) (map (stated c) rest)) same in
      subst (λ fs. OnFault f (λ g. Contains fs g)) (sym split ∙ all)
      (in_first f (flat_map (constraint_faults o) (map (stated c) list)) (flat_map (constraint_faults o) (map (stated c) rest)) h)

  either : (cs1 gs1 cs2 gs2 : List TypeFault) (g : TypeFault) → Contains (cs1 ++ gs1) g → Contains ((cs1 ++ cs2) ++ (gs1 ++ gs2)) g
  either cs1 gs1 cs2 gs2 g h = by (Contains-append_cases cs1 gs1 g h)
    where
      by : Contains cs1 g ⊎ Contains gs1 g → Contains ((cs1 ++ cs2) ++ (gs1 ++ gs2)) g
      by (inl a) = Contains-append_left (cs1 ++ cs2) (gs1 ++ gs2) g (Contains-append_left cs1 cs2 g a)
      by (inr b) = Contains-append_right (cs1 ++ cs2) (gs1 ++ gs2) g (Contains-append_left gs1 gs2 g b)

  pub in_items : (items : List Item) (i c : ℕ) (x : Item) → i < length items → x ≡ get_or items i x → flat_map (constraint_faults o) (constraints_from (drop i items) c) ≡ flat_map (constraint_faults o) (constraints items) → flat_map (goal_faults o) (goals (drop i items)) ≡ flat_map (goal_faults o) (goals items) → OnFault f (λ g. Contains (flat_map (constraint_faults o) (item_constraints x c) ++ flat_map (goal_faults o) (item_goal x)) g) → OnFault f (λ g. Contains (faults o items) g)
  in_items items i c x on is all_constraints all_goals h =
      let rest = drop (i + 1) items in
      let split = ap (λ xs. flat_map (constraint_faults o) (constraints_from xs c)) (next items i x on is) ∙ flat_append (constraint_faults o) (item_constraints x c) (constraints_from rest (next_class x c)) in
      let split_goals = ap (λ xs. flat_map (goal_faults o) (goals xs)) (next items i x on is) ∙ flat_append (goal_faults o) (item_goal x) (goals rest) in
      let cs1 = flat_map (constraint_faults o) (item_constraints x c) in
      let gs1 = flat_map (goal_faults o) (item_goal x) in
      let cs2 = flat_map (constraint_faults o) (constraints_from rest (next_class x c)) in
      let gs2 = flat_map (goal_faults o) (goals rest) in
      subst (λ fs. OnFault f (λ g. Contains (fs ++ flat_map (goal_faults o) (goals items)) g)) (sym split ∙ all_constraints)
      (subst (λ fs. OnFault f (λ g. Contains ((cs1 ++ cs2) ++ fs) g)) (sym split_goals ∙ all_goals)
      (on_fault f (λ g. Contains (cs1 ++ gs1) g) (λ g. Contains ((cs1 ++ cs2) ++ (gs1 ++ gs2)) g) (λ g a. either cs1 gs1 cs2 gs2 g a) h))
