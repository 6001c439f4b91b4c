-- Lists of numbers by place, as a map keeps them.
use Rattle.std.proofs.Common.{◌≡◌, ℕ, Bool, true, false, cond, ◌&&◌, List, [], ◌∷◌, ◌++◌, Option, None, Some, refl, ap, sym, ◌∙◌, Vec, nat_eq, append-nil, append_assoc, true≢false, drop, get_or, length, zero, suc, ◌+◌, ◌<◌, arith}
use Rattle.class_table.proofs.ListLaws.{drop_next}
use Rattle.std.proofs.lemmas.Bool.{eq-eqb, eqb-true}
use Rattle.std.specs.Map.{lookup}
use Rattle.std.specs.Option.{option_eq}
use Rattle.object_alloc.specs.declared.groups.Place.{Place}
use Rattle.object_alloc.specs.Groups.{is_at_place, same_owner, numbers_from}
use Rattle.object_alloc.specs.Grouping.{group}

abbrev pub items_of : {A : Type 0} → Option (Vec ℕ A) → List ℕ
items_of None = []
items_of (Some v) = v.items

-- equality of places, as a map tests it
abbrev pub same_place : Place → Place → Bool
same_place p q = option_eq nat_eq p.owner q.owner && nat_eq p.attribute q.attribute

abbrev pub place : Option ℕ → ℕ → Place
place owner k = record { owner = owner; attribute = k }

pub same_is : (p q : Place) → same_place p q ≡ is_at_place p.owner p.attribute q.owner q.attribute
same_is p q = ap (λ b. b && nat_eq p.attribute q.attribute) (owners p.owner q.owner)
  where
    owners : (m n : Option ℕ) → option_eq nat_eq m n ≡ same_owner m n
    owners None None = refl
    owners None (Some n) = refl
    owners (Some m) None = refl
    owners (Some m) (Some n) = refl

-- what a look-up finds is the group
pub group_found : {A : Type 0} (p : Place) (es : List (Place × Vec ℕ A)) → group es p.owner p.attribute ≡ items_of (lookup (same_place p) es)
group_found p [] = refl
group_found p (e ∷ es) = by (is_at_place p.owner p.attribute e.0.owner e.0.attribute) (same_place p e.0) (same_is p e.0) (group_found p es)
  where
    by : (b c : Bool) → c ≡ b → group es p.owner p.attribute ≡ items_of (lookup (same_place p) es) → cond b e.1.items (group es p.owner p.attribute) ≡ items_of (cond c (Some e.1) (lookup (same_place p) es))
    by true true h r = refl
    by false false h r = r
    by true false h r = absurd cc
    by false true h r = absurd cc

-- a change at one place
module _ {A : Type 0} (p : Place) (old new : List (Place × Vec ℕ A)) (w : Option (Vec ℕ A)) (updates : (q : Place) → lookup (same_place q) new ≡ cond (same_place p q) w (lookup (same_place q) old)) where
  pub group_changed : (owner : Option ℕ) (k : ℕ) → group new owner k ≡ cond (is_at_place p.owner p.attribute owner k) (items_of w) (group old owner k)
  group_changed owner k =
      let q = place owner k in
      group_found q new ∙ ap items_of (updates q) ∙ by (same_place p q) (is_at_place p.owner p.attribute owner k) (same_is p q)
    where
      by : (b c : Bool) → b ≡ c → items_of (cond b w (lookup (same_place (place owner k)) old)) ≡ cond c (items_of w) (group old owner k)
      by true true h = refl
      by false false h = sym (group_found (place owner k) old)
      by true false h = absurd cc
      by false true h = absurd cc

nat_eq_sym : (a b : ℕ) → nat_eq a b ≡ nat_eq b a
nat_eq_sym a b = by (nat_eq a b) (nat_eq b a) refl refl
  where
    by : (x y : Bool) → nat_eq a b ≡ x → nat_eq b a ≡ y → x ≡ y
    by true true h g = refl
    by false false h g = refl
    by true false h g = absurd (true≢false (sym (eq-eqb b a (sym (eqb-true a b h))) ∙ g))
    by false true h g = absurd (true≢false (sym (eq-eqb a b (sym (eqb-true b a g))) ∙ h))

-- two places are one
same_places : (owner other : Option ℕ) (k j : ℕ) → is_at_place owner k other j ≡ true → (owner ≡ other) × (k ≡ j)
same_places None None k j h = (refl, eqb-true k j h)
same_places None (Some n) k j h = absurd cc
same_places (Some m) None k j h = absurd cc
same_places (Some m) (Some n) k j h = by (nat_eq m n) refl h
  where
    by : (b : Bool) → nat_eq m n ≡ b → (b && nat_eq k j) ≡ true → (Some m ≡ Some n) × (k ≡ j)
    by true e g = (ap Some (eqb-true m n e), eqb-true k j g)
    by false e g = absurd cc

at_place_sym : (owner other : Option ℕ) (k j : ℕ) → is_at_place owner k other j ≡ is_at_place other j owner k
at_place_sym None None k j = nat_eq_sym k j
at_place_sym None (Some n) k j = refl
at_place_sym (Some m) None k j = refl
at_place_sym (Some m) (Some n) k j = ap (λ b. b && nat_eq k j) (nat_eq_sym m n) ∙ ap (λ b. nat_eq n m && b) (nat_eq_sym k j)

-- a number is added to one group: the group is taken out, and put back with the number
module _ {A : Type 0} (p : Place) (n : ℕ) (old mid new : List (Place × Vec ℕ A)) (w : Vec ℕ A) (updates : (q : Place) → lookup (same_place q) new ≡ cond (same_place p q) (Some w) (lookup (same_place q) mid)) where
  pub group_added : w.items ≡ group old p.owner p.attribute ++ n ∷ [] → ((owner : Option ℕ) → (k : ℕ) → group mid owner k ≡ cond (is_at_place p.owner p.attribute owner k) [] (group old owner k)) → (owner : Option ℕ) (k : ℕ) → group new owner k ≡ group old owner k ++ cond (is_at_place owner k p.owner p.attribute) (n ∷ []) []
  group_added items left owner k = group_changed p mid new (Some w) updates owner k ∙ by (is_at_place p.owner p.attribute owner k) (is_at_place owner k p.owner p.attribute) (at_place_sym p.owner owner p.attribute k) (λ h. same_places p.owner owner p.attribute k h) (left owner k) refl
    where
      by : (b c : Bool) → b ≡ c → (b ≡ true → (p.owner ≡ owner) × (p.attribute ≡ k)) → group mid owner k ≡ cond b [] (group old owner k) → b ≡ b → cond b w.items (group mid owner k) ≡ group old owner k ++ cond c (n ∷ []) []
      by true true h same l r = let s = same refl in items ∙ ap (λ xs. xs ++ n ∷ []) (ap (λ o. group old o p.attribute) s.0 ∙ ap (group old owner) s.1)
      by false false h same l r = l ∙ sym (append-nil (group old owner k))
      by true false h same l r = absurd cc
      by false true h same l r = absurd cc

-- the value for a missing item doesn't matter where the item is there
pub any_item : {X : Type 0} (xs : List X) (n : ℕ) (d e : X) → n < length xs → get_or xs n d ≡ get_or xs n e
any_item [] n d e h = absurd (omega (arith, h))
any_item (x ∷ xs) zero d e h = refl
any_item (x ∷ xs) (suc n) d e h = any_item xs n d e (omega (arith, h))

-- one item further
pub group_grown : {X : Type 0} (test : X → Bool) (xs : List X) (n : ℕ) (d : X) (old new all : List ℕ) → n < length xs → old ++ numbers_from test n (drop n xs) ≡ all → new ≡ old ++ cond (test (get_or xs n d)) (n ∷ []) [] → new ++ numbers_from test (n + 1) (drop (n + 1) xs) ≡ all
group_grown {X} test xs n d old new all within before added =
    ap (λ ys. ys ++ numbers_from test (n + 1) (drop (n + 1) xs)) added
    ∙ append_assoc old (cond (test (get_or xs n d)) (n ∷ []) []) (numbers_from test (n + 1) (drop (n + 1) xs))
    ∙ ap (λ ys. old ++ ys) (by (test (get_or xs n d)) ∙ ap (numbers_from test n) (sym (drop_next xs n (get_or xs n d) within (any_item xs n d (get_or xs n d) within))))
    ∙ before
  where
    next : suc n ≡ n + 1
    next = omega arith

    by : (b : Bool) → cond b (n ∷ []) [] ++ numbers_from test (n + 1) (drop (n + 1) xs) ≡ cond b (n ∷ numbers_from test (suc n) (drop (n + 1) xs)) (numbers_from test (suc n) (drop (n + 1) xs))
    by true = ap (λ m. n ∷ numbers_from test m (drop (n + 1) xs)) (sym next)
    by false = ap (λ m. numbers_from test m (drop (n + 1) xs)) (sym next)
