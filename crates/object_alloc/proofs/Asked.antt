-- What is asked of the objects of a model, by their numbers.
use Rattle.std.proofs.Common.{◌≡◌, ℕ, zero, suc, ◌<◌, List, [], ◌∷◌, Option, None, Some, length, get_or, refl, ap, sym, ◌∙◌, arith}
use Rattle.std.specs.Prelude.{Contains, IfSome, slice_get}
use Rattle.std.specs.Option.{option_map, option_map_or}
use Rattle.class_table.specs.Outline.{Outline}
use Rattle.object_alloc.specs.declared.object.Object.{Object}
use Rattle.object_alloc.specs.Variables.{class_in, variables_of, variables}
use Rattle.object_alloc.specs.Paths.{owner_in}
use Rattle.object_alloc.specs.Held.{IsBefore}
use Rattle.object_alloc.specs.Walk.{objects}
use Rattle.object_alloc.proofs.HeldLaws.{object_held}

pub class_there : (m : ℕ) (xs : List Object) (owner : Option ℕ) → ((x : Object) → Contains xs x → x.class < m) → IfSome owner (λ n. n < length xs) → IfSome (class_in xs owner) (λ c. c < m)
class_there m xs None all h = tt
class_there m xs (Some n) all h = by xs n all h
  where
    by : (xs : List Object) (n : ℕ) → ((x : Object) → Contains xs x → x.class < m) → n < length xs → IfSome (option_map (λ (x : Object). x.class) (slice_get xs n)) (λ c. c < m)
    by [] n all h = absurd (omega (arith, h))
    by (x ∷ xs) zero all h = all x (0, omega arith, refl)
    by (x ∷ xs) (suc n) all h = by xs n (λ y has. all y (suc has.0, omega (arith, has.1), has.2)) (omega (arith, h))

-- an object's variables, read from the list of objects
pub variables_are : (o o' : Outline) (xs : List Object) (owner c : Option ℕ) → o ≡ o' → xs ≡ objects o → c ≡ class_in xs owner → variables o c ≡ variables_of o' owner
variables_are o o' xs owner c e1 e2 e3 = ap (variables o) (e3 ∙ ap (λ ys. class_in ys owner) e2) ∙ ap (λ z. variables_of z owner) e1

pub owner_there : (o o' : Outline) (xs : List Object) (owner : Option ℕ) → o ≡ o' → xs ≡ objects o → IfSome owner (λ n. n < length (objects o')) → IfSome owner (λ n. n < length xs)
owner_there o o' xs None e1 e2 h = tt
owner_there o o' xs (Some n) e1 e2 h = omega (arith, h, ap length e2, ap (λ z. length (objects z)) e1)

pub owner_read : (xs : List Object) (n : ℕ) (x : Object) → n < length xs → x ≡ get_or xs n x → owner_in xs n ≡ x.owner
owner_read [] n x h e = absurd (omega (arith, h))
owner_read (y ∷ ys) zero x h e = ap (λ (z : Object). z.owner) (sym e)
owner_read (y ∷ ys) (suc n) x h e = owner_read ys n x (omega (arith, h)) e

pub get_is : (xs : List Object) (n : ℕ) (x : Object) → n < length xs → x ≡ get_or xs n x → slice_get xs n ≡ Some x
get_is [] n x h e = absurd (omega (arith, h))
get_is (y ∷ ys) zero x h e = ap (λ (z : Object). Some z) (sym e)
get_is (y ∷ ys) (suc n) x h e = get_is ys n x (omega (arith, h)) e

get_within : (xs : List Object) (n : ℕ) (x : Object) → slice_get xs n ≡ Some x → n < length xs
get_within [] n x e = cc
get_within (y ∷ ys) zero x e = omega arith
get_within (y ∷ ys) (suc n) x e = let r = get_within ys n x e in omega arith

before : (owner : Option ℕ) (n p : ℕ) → IsBefore owner n → owner ≡ Some p → p < n
before None n p h e = cc
before (Some q) n p h e = let same : q ≡ p = cc in omega (arith, h, same)

-- what holds an object is an object
pub owners_there : (o : Outline) (xs : List Object) → xs ≡ objects o → (n p : ℕ) → owner_in xs n ≡ Some p → p < length xs
owners_there o xs e n p up = by (slice_get xs n) refl up
  where
    by : (x : Option Object) → slice_get xs n ≡ x → option_map_or (λ (y : Object). y.owner) x None ≡ Some p → p < length xs
    by None g h = cc
    by (Some x) g h =
        let held = object_held o n x (ap (λ ys. slice_get ys n) (sym e) ∙ g) in
        let lt = before x.owner n p held.owner h in
        let on = get_within xs n x g in
        omega (arith, lt, on)
