-- Paths, from the path of the object that holds an object.
use Rattle.std.proofs.Common.{◌≡◌, ℕ, zero, suc, ◌+◌, ◌*◌, ◌<◌, List, [], ◌∷◌, ◌++◌, Option, None, Some, length, get_or, refl, ap, sym, ◌∙◌, subst, arith, append_assoc}
use Rattle.std.specs.Prelude.{slice_get, slice_index_or, codes, IfSome}
use Rattle.std.specs.Option.{option_map_or}
use Rattle.class_table.specs.declared.table.Resolved.{Resolved}
use Rattle.class_table.specs.declared.table.Variable.{Variable}
use Rattle.class_table.specs.Outline.{Outline}
use Rattle.object_alloc.specs.declared.object.Object.{Object}
use Rattle.object_alloc.specs.Variables.{class_in, variables}
use Rattle.object_alloc.specs.Paths.{index_text, step_text, last_step, owner_path, path_within}
use Rattle.object_alloc.specs.Held.{IsBefore}
use Rattle.object_alloc.specs.Walk.{objects}
use Rattle.object_alloc.proofs.HeldLaws.{object_held}
use Rattle.object_alloc.proofs.Asked.{get_is}

module _ (o : Outline) where
  -- further steps change nothing
  pub path_same : (f g n : ℕ) → n < f → n < g → path_within o (objects o) f n ≡ path_within o (objects o) g n
  path_same zero g n hf hg = absurd (omega (arith, hf))
  path_same (suc f) zero n hf hg = absurd (omega (arith, hg))
  path_same (suc f) (suc g) n hf hg = by (λ p lt. path_same f g p (omega (arith, lt, hf)) (omega (arith, lt, hg))) (slice_get (objects o) n) refl
    where
      owner : ((p : ℕ) → p < n → path_within o (objects o) f p ≡ path_within o (objects o) g p) → (p : Option ℕ) → IsBefore p n → owner_path (path_within o (objects o) f) p ≡ owner_path (path_within o (objects o) g) p
      owner each None h = refl
      owner each (Some p) h = ap (λ xs. xs ++ codes ".") (each p h)

      by : ((p : ℕ) → p < n → path_within o (objects o) f p ≡ path_within o (objects o) g p) → (x : Option Object) → slice_get (objects o) n ≡ x → option_map_or (λ (x : Object). owner_path (path_within o (objects o) f) x.owner ++ last_step (variables o (class_in (objects o) x.owner)) x) x [] ≡ option_map_or (λ (x : Object). owner_path (path_within o (objects o) g) x.owner ++ last_step (variables o (class_in (objects o) x.owner)) x) x []
      by each None e = refl
      by each (Some x) e = ap (λ xs. xs ++ last_step (variables o (class_in (objects o) x.owner)) x) (owner each x.owner (object_held o n x e).owner)

-- the last name of a path, from the variable's name
pub step_made : (vs : List Variable) (x : Object) (name mid old new : List ℕ) (s : Resolved) → x.attribute < length vs → ((d : Variable) → name ≡ (slice_index_or vs x.attribute d).name) → ((d : Variable) → s ≡ (slice_index_or vs x.attribute d).shape) → mid ≡ old ++ name → new ≡ mid ++ index_text s x.element → new ≡ old ++ last_step vs x
step_made vs x name mid old new s h n e m w =
    w ∙ ap (λ xs. xs ++ index_text s x.element) m ∙ append_assoc old name (index_text s x.element) ∙ ap (λ xs. old ++ xs) (at vs x.attribute h n e)
  where
    at : (vs : List Variable) (k : ℕ) → k < length vs → ((d : Variable) → name ≡ (slice_index_or vs k d).name) → ((d : Variable) → s ≡ (slice_index_or vs k d).shape) → name ++ index_text s x.element ≡ option_map_or (λ (v : Variable). step_text v x.element) (slice_get vs k) []
    at [] k h n e = absurd (omega (arith, h))
    at (v ∷ vs) zero h n e = ap (λ xs. xs ++ index_text s x.element) (n v) ∙ ap (λ t. v.name ++ index_text t x.element) (e v)
    at (v ∷ vs) (suc k) h n e = at vs k (omega (arith, h)) n e

module _ (o : Outline) (xs : List Object) (is : xs ≡ objects o) (n : ℕ) (x : Object) (there : n < length xs) (read : x ≡ get_or xs n x) where
  found : slice_get (objects o) n ≡ Some x
  found = ap (λ ys. slice_get ys n) (sym is) ∙ get_is xs n x there read

  pub attribute_there : x.attribute < length (variables o (class_in xs x.owner))
  attribute_there =
      let h = object_held o n x found in
      subst (λ ys. x.attribute < length (variables o (class_in ys x.owner))) (sym is) (within (variables o (class_in (objects o) x.owner)) x.attribute h.variable h.has)
    where
      within : (vs : List Variable) (k : ℕ) (v : Variable) → slice_get vs k ≡ Some v → k < length vs
      within [] k v e = cc
      within (u ∷ us) zero v e = omega arith
      within (u ∷ us) (suc k) v e = let r = within us k v e in omega arith

  pub owner_before : IfSome x.owner (λ p. p < n)
  owner_before = by x.owner (object_held o n x found).owner
    where
      by : (p : Option ℕ) → IsBefore p n → IfSome p (λ q. q < n)
      by None h = tt
      by (Some q) h = h

  pub owner_is_there : IfSome x.owner (λ p. p < length xs)
  owner_is_there = by x.owner (object_held o n x found).owner
    where
      by : (p : Option ℕ) → IsBefore p n → IfSome p (λ q. q < length xs)
      by None h = tt
      by (Some q) h = omega (arith, h, there)

  -- the path, from what stands before its last name and from that name
  pub path_made : (old mid new : List ℕ) (class : Option ℕ) → class ≡ class_in xs x.owner → mid ≡ old ++ owner_path (path_within o xs n) x.owner → new ≡ mid ++ last_step (variables o class) x → new ≡ old ++ path_within o xs (suc n) n
  path_made old mid new class c m w =
      w ∙ ap (λ ys. ys ++ last_step (variables o class) x) m
      ∙ append_assoc old (owner_path (path_within o xs n) x.owner) (last_step (variables o class) x)
      ∙ ap (λ k. old ++ (owner_path (path_within o xs n) x.owner ++ last_step (variables o k) x)) c
      ∙ ap (λ y. old ++ option_map_or (λ (z : Object). owner_path (path_within o xs n) z.owner ++ last_step (variables o (class_in xs z.owner)) z) y []) (sym (get_is xs n x there read))

-- the path of the object that holds another
pub owner_made : (o : Outline) (xs : List Object) (steps p : ℕ) (old mid new : List ℕ) → xs ≡ objects o → p < steps → mid ≡ old ++ path_within o xs (suc p) p → new ≡ mid ++ codes "." → new ≡ old ++ owner_path (path_within o xs steps) (Some p)
owner_made o xs steps p old mid new is h m w =
    let same : path_within o xs (suc p) p ≡ path_within o xs steps p = ap (λ ys. path_within o ys (suc p) p) is ∙ path_same o (suc p) steps p (omega arith) h ∙ ap (λ ys. path_within o ys steps p) (sym is) in
    w ∙ ap (λ ys. ys ++ codes ".") m ∙ append_assoc old (path_within o xs (suc p) p) (codes ".") ∙ ap (λ ys. old ++ (ys ++ codes ".")) same

pub read_again : (xs : List Object) (n : ℕ) (d : Object) → n < length xs → get_or xs n d ≡ get_or xs n (get_or xs n d)
read_again [] n d h = absurd (omega (arith, h))
read_again (x ∷ xs) zero d h = refl
read_again (x ∷ xs) (suc n) d h = read_again xs n d (omega (arith, h))

pub owner_measure : (owner : Option ℕ) (n : ℕ) → IfSome owner (λ p. p < n) → option_map_or (λ p. 2 * p + 2) owner 0 < 2 * n + 1
owner_measure None n h = omega arith
owner_measure (Some p) n h = omega (arith, h)
