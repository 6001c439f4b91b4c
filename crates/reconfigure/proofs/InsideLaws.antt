-- An object is in some of a list where it is one of them, or the object that holds it is in some.
use Rattle.std.proofs.Common.{◌≡◌, ℕ, zero, suc, ◌<◌, ◌≤◌, Bool, true, false, ◌||◌, nat_eq, List, [], ◌∷◌, Option, None, Some, length, refl, sym, ap, ◌∙◌, arith}
use Rattle.std.specs.Prelude.{slice_get}
use Rattle.std.specs.List.{list_any}
use Rattle.std.specs.Option.{option_map_or}
use Rattle.class_table.specs.Ancestry.{derives}
use Rattle.class_table.specs.Outline.{Outline}
use Rattle.object_alloc.specs.declared.object.Object.{Object}
use Rattle.object_alloc.specs.Paths.{owner_in, is_inside}
use Rattle.object_alloc.specs.Held.{IsBefore}
use Rattle.object_alloc.specs.Walk.{objects}
use Rattle.object_alloc.proofs.HeldLaws.{object_held}
use Rattle.reconfigure.specs.Marking.{is_in_some}

before : (owner : Option ℕ) (n q : ℕ) → IsBefore owner n → owner ≡ Some q → q < n
before None n q h e = cc
before (Some p) n q h e = let same : p ≡ q = cc in omega (arith, h, same)

-- an object is held by one with a lesser number
pub falls : (o : Outline) (n q : ℕ) → owner_in (objects o) n ≡ Some q → q < n
falls o n q e = by (slice_get (objects o) n) refl e
  where
    by : (x : Option Object) → slice_get (objects o) n ≡ x → option_map_or (λ (y : Object). y.owner) x None ≡ Some q → q < n
    by None g h = cc
    by (Some x) g h = before x.owner n q (object_held o n x g).owner h

or_none : (b : Bool) → (b || false) ≡ b
or_none true = refl
or_none false = refl

module _ (up : ℕ → Option ℕ) (down : (n q : ℕ) → up n ≡ Some q → q < n) (w : ℕ) where
  none_left : (g n : ℕ) → n ≤ 0 → nat_eq n w ≡ (nat_eq n w || option_map_or (λ p. derives up g p w) (up n) false)
  none_left g n h = by (up n) refl
    where
      by : (x : Option ℕ) → up n ≡ x → nat_eq n w ≡ (nat_eq n w || option_map_or (λ p. derives up g p w) x false)
      by None e = sym (or_none (nat_eq n w))
      by (Some q) e = let lt = down n q e in absurd (omega (arith, lt, h))

  -- further steps change nothing
  same_steps : (f g n : ℕ) → n ≤ f → n ≤ g → derives up f n w ≡ derives up g n w
  same_steps zero zero n h k = refl
  same_steps zero (suc g) n h k = none_left g n h
  same_steps (suc f) zero n h k = sym (none_left f n k)
  same_steps (suc f) (suc g) n h k = by (λ q a b. same_steps f g q a b) (up n) refl
    where
      by : ((q : ℕ) → q ≤ f → q ≤ g → derives up f q w ≡ derives up g q w) → (x : Option ℕ) → up n ≡ x →
          (nat_eq n w || option_map_or (λ p. derives up f p w) x false) ≡ (nat_eq n w || option_map_or (λ p. derives up g p w) x false)
      by rest None e = refl
      by rest (Some q) e = let lt = down n q e in ap (λ b. nat_eq n w || b) (rest q (omega (arith, lt, h)) (omega (arith, lt, k)))

  top : (m n : ℕ) → up n ≡ None → derives up m n w ≡ nat_eq n w
  top zero n e = refl
  top (suc m) n e = ap (λ o. nat_eq n w || option_map_or (λ p. derives up m p w) o false) e ∙ or_none (nat_eq n w)

  held : (m n q : ℕ) → n < m → up n ≡ Some q → derives up m n w ≡ (nat_eq n w || derives up m q w)
  held zero n q lt e = absurd (omega (arith, lt))
  held (suc m) n q lt e =
      let less = down n q e in
      ap (λ o. nat_eq n w || option_map_or (λ p. derives up m p w) o false) e
      ∙ ap (λ b. nat_eq n w || b) (same_steps m (suc m) q (omega (arith, lt, less)) (omega (arith, lt, less)))

-- ---- of a list

any_same : (p q : ℕ → Bool) → ((w : ℕ) → p w ≡ q w) → (ws : List ℕ) → list_any p ws ≡ list_any q ws
any_same p q e [] = refl
any_same p q e (w ∷ ws) = ap (λ b. b || list_any p ws) (e w) ∙ ap (λ b. q w || b) (any_same p q e ws)

or_swap : (a b c d : Bool) → ((a || b) || (c || d)) ≡ ((a || c) || (b || d))
or_swap true b c d = refl
or_swap false true true d = refl
or_swap false true false d = refl
or_swap false false true d = refl
or_swap false false false d = refl

any_or : (p q : ℕ → Bool) (ws : List ℕ) → list_any (λ w. p w || q w) ws ≡ (list_any p ws || list_any q ws)
any_or p q [] = refl
any_or p q (w ∷ ws) = ap (λ b. (p w || q w) || b) (any_or p q ws) ∙ or_swap (p w) (q w) (list_any p ws) (list_any q ws)

module _ (o : Outline) (ws : List ℕ) where
  -- at the top level: it is one of them
  pub inside_top : (n : ℕ) → owner_in (objects o) n ≡ None → is_in_some o ws n ≡ list_any (nat_eq n) ws
  inside_top n e = any_same (is_inside o n) (nat_eq n) (λ w. top (owner_in (objects o)) (falls o) w (length (objects o)) n e) ws

  -- it is one of them, or what holds it is in one of them
  pub inside_held : (n q : ℕ) → n < length (objects o) → owner_in (objects o) n ≡ Some q → is_in_some o ws n ≡ (list_any (nat_eq n) ws || is_in_some o ws q)
  inside_held n q lt e =
      any_same (is_inside o n) (λ w. nat_eq n w || is_inside o q w) (λ w. held (owner_in (objects o)) (falls o) w (length (objects o)) n q lt e) ws
      ∙ any_or (nat_eq n) (is_inside o q) ws
