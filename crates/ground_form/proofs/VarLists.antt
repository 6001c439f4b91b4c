-- The variables of a list exist where those that it names do.
use Rattle.std.proofs.Common.{ℕ, zero, suc, ◌<◌, Bool, List, [], ◌∷◌, ℤ, All, arith}
use Rattle.signed_clause.specs.Clauses.{Literals}
use Rattle.ground_form.specs.Meaning.{term_vars, part_vars, clause_vars, item_vars}

pub all_terms : (ts : List (ℤ × ℕ)) (n : ℕ) → All (λ x. x < n) (term_vars ts) → All (λ t. t.1 < n) ts
all_terms [] n h k d lt = absurd (omega arith)
all_terms (t ∷ ts) n h zero d lt = h 0 0 (omega arith)
all_terms (t ∷ ts) n h (suc k) d lt = all_terms ts n (λ j e less. h (suc j) e (omega arith)) k d (omega arith)

pub all_parts : (ps : List (ℕ × Bool)) (n : ℕ) → All (λ x. x < n) (part_vars ps) → All (λ p. p.0 < n) ps
all_parts [] n h k d lt = absurd (omega arith)
all_parts (p ∷ ps) n h zero d lt = h 0 0 (omega arith)
all_parts (p ∷ ps) n h (suc k) d lt = all_parts ps n (λ j e less. h (suc j) e (omega arith)) k d (omega arith)

pub all_literals : (c : Literals) (n : ℕ) → All (λ x. x < n) (clause_vars c) → All (λ l. l.0 < n) c
all_literals [] n h k d lt = absurd (omega arith)
all_literals (l ∷ c) n h zero d lt = h 0 0 (omega arith)
all_literals (l ∷ c) n h (suc k) d lt = all_literals c n (λ j e less. h (suc j) e (omega arith)) k d (omega arith)

-- of items all three
pub all_places : (is : List (ℕ × ℕ × ℕ)) (n : ℕ) → All (λ x. x < n) (item_vars is) → All (λ i. i.0 < n) is
all_places [] n h k d lt = absurd (omega arith)
all_places (i ∷ is) n h zero d lt = h 0 0 (omega arith)
all_places (i ∷ is) n h (suc k) d lt = all_places is n (λ j e less. h (suc (suc (suc j))) e (omega arith)) k d (omega arith)

pub all_sizes : (is : List (ℕ × ℕ × ℕ)) (n : ℕ) → All (λ x. x < n) (item_vars is) → All (λ i. i.1 < n) is
all_sizes [] n h k d lt = absurd (omega arith)
all_sizes (i ∷ is) n h zero d lt = h 1 0 (omega arith)
all_sizes (i ∷ is) n h (suc k) d lt = all_sizes is n (λ j e less. h (suc (suc (suc j))) e (omega arith)) k d (omega arith)

pub all_rooms : (is : List (ℕ × ℕ × ℕ)) (n : ℕ) → All (λ x. x < n) (item_vars is) → All (λ i. i.2 < n) is
all_rooms [] n h k d lt = absurd (omega arith)
all_rooms (i ∷ is) n h zero d lt = h 2 0 (omega arith)
all_rooms (i ∷ is) n h (suc k) d lt = all_rooms is n (λ j e less. h (suc (suc (suc j))) e (omega arith)) k d (omega arith)

-- behind the first, or the first two
pub all_tail : (x : ℕ) (xs : List ℕ) (n : ℕ) → All (λ y. y < n) (x ∷ xs) → All (λ y. y < n) xs
all_tail x xs n h j e less = h (suc j) e (omega arith)
