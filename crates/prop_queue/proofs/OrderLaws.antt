-- Numbers in order: one that comes to those of its urgency.
use Rattle.std.proofs.Common.{◌≡◌, ℕ, suc, ◌==◌, ◌+◌, Bool, true, false, cond, List, [], ◌∷◌, ◌++◌, length, refl, ap, sym, ◌∙◌, arith}
use Rattle.std.proofs.lemmas.Grind.{common_steps}
use Rattle.prop_queue.specs.declared.urgency.Urgency.{Urgency}
use Rattle.prop_queue.specs.declared.urgency.Urgency.TheVariants as urgency
use Rattle.prop_queue.specs.Lists.{occurs}
use Rattle.prop_queue.specs.Urgencies.{Sweep, sweep_order, added, Waiting, order_of, queued}

count_cases : (a b : Bool) (n m : ℕ) → m ≡ cond b (suc n) n →
    cond a (suc m) m ≡ cond b (suc (cond a (suc n) n)) (cond a (suc n) n)
count_cases true true n m e = ap (λ (z : ℕ). suc z) e
count_cases true false n m e = ap (λ (z : ℕ). suc z) e
count_cases false true n m e = e
count_cases false false n m e = e

-- the first list has k once more than the second, and each other number as often
abbrev pub HasMore : ℕ → List ℕ → List ℕ → Type 0
HasMore k more xs = (j : ℕ) → occurs j more ≡ cond (k == j) (suc (occurs j xs)) (occurs j xs)

behind : (a more xs : List ℕ) (k : ℕ) → HasMore k more xs → HasMore k (a ++ more) (a ++ xs)
behind [] more xs k h j = h j
behind (x ∷ a) more xs k h j =
    count_cases (x == j) (k == j) (occurs j (a ++ xs)) (occurs j (a ++ more))
    (behind a more xs k h j)

last : (a : List ℕ) (k : ℕ) → HasMore k (a ++ k ∷ []) a
last [] k j = refl
last (x ∷ a) k j = count_cases (x == j) (k == j) (occurs j a) (occurs j (a ++ k ∷ [])) (last a k j)

-- how often it stands in both lists together
occurs_both : (j : ℕ) (a b : List ℕ) → occurs j (a ++ b) ≡ occurs j a + occurs j b
occurs_both j [] b = omega arith
occurs_both j (x ∷ a) b =
    let more = occurs_both j a b in
    let P : Bool → Type 0 = λ c. cond c (suc (occurs j (a ++ b))) (occurs j (a ++ b))
    ≡ cond c (suc (occurs j a)) (occurs j a) + occurs j b in
    elim (x == j) as P [ true ↦ omega (arith, more) | false ↦ more ]

add_cases : (b : Bool) (m n r : ℕ) → m ≡ cond b (suc n) n →
    m + r ≡ cond b (suc (n + r)) (n + r)
add_cases true m n r e = omega (arith, e)
add_cases false m n r e = ap (λ (z : ℕ). z + r) e

before : (more xs b : List ℕ) (k : ℕ) → HasMore k more xs → HasMore k (more ++ b) (xs ++ b)
before more xs b k h j =
    let one = occurs_both j more b in
    let two = occurs_both j xs b in
    one ∙ add_cases (k == j) (occurs j more) (occurs j xs) (occurs j b) (h j)
    ∙ ap (λ (z : ℕ). cond (k == j) (suc z) z) (sym two)

-- ---- one more number

added_more : (k : ℕ) (s : Sweep) → HasMore k (sweep_order (added k s)) (sweep_order s)
added_more k s =
    let P : Bool → Type 0 = λ c. HasMore k (s.current ++ cond c (k ∷ s.later) (s.later ++ k ∷ [])) (s.current ++ s.later) in
    elim s.turned as P [
      | true ↦ behind s.current (k ∷ s.later) s.later k (λ j. refl)
      | false ↦ behind s.current (s.later ++ k ∷ []) s.later k (last s.later k)
    ]

pub queued_more : (u : Urgency) (k : ℕ) (w : Waiting) →
    HasMore k (order_of (queued u k w)) (order_of w)
queued_more urgency.Cheap k w =
    before (sweep_order (added k w.cheap)) (sweep_order w.cheap)
    (sweep_order w.sums ++ sweep_order w.packings) k (added_more k w.cheap)
queued_more urgency.Sum k w =
    behind (sweep_order w.cheap) (sweep_order (added k w.sums) ++ sweep_order w.packings)
    (sweep_order w.sums ++ sweep_order w.packings) k
    (before (sweep_order (added k w.sums)) (sweep_order w.sums) (sweep_order w.packings) k
    (added_more k w.sums))
queued_more urgency.Packing k w =
    behind (sweep_order w.cheap) (sweep_order w.sums ++ sweep_order (added k w.packings))
    (sweep_order w.sums ++ sweep_order w.packings) k
    (behind (sweep_order w.sums) (sweep_order (added k w.packings)) (sweep_order w.packings) k
    (added_more k w.packings))

added_length : (k : ℕ) (s : Sweep) →
    length (sweep_order (added k s)) ≡ suc (length (sweep_order s))
added_length k s =
    let P : Bool → Type 0 = λ c. length (s.current ++ cond c (k ∷ s.later) (s.later ++ k ∷ []))
    ≡ suc (length (s.current ++ s.later)) in
    elim s.turned as P [
      | true ↦ grind (arith, common_steps)
      | false ↦ grind (arith, common_steps)
    ]

pub queued_length : (u : Urgency) (k : ℕ) (w : Waiting) →
    length (order_of (queued u k w)) ≡ suc (length (order_of w))
queued_length urgency.Cheap k w = let one = added_length k w.cheap in grind (arith, common_steps)
queued_length urgency.Sum k w = let one = added_length k w.sums in grind (arith, common_steps)
queued_length urgency.Packing k w =
    let one = added_length k w.packings in grind (arith, common_steps)

room_cases : (u : Urgency) (k : ℕ) (w : Waiting) → (queued u k w).room ≡ w.room
room_cases urgency.Cheap k w = refl
room_cases urgency.Sum k w = refl
room_cases urgency.Packing k w = refl

pub queued_room : (u : Urgency) (k : ℕ) (w new : Waiting) → new ≡ queued u k w → new.room ≡ w.room
queued_room u k w new e = ap (λ (z : Waiting). z.room) e ∙ room_cases u k w
