-- Walks over the variables of a constraint by their indexes.
use Rattle.std.proofs.Common.{◌≡◌, ℕ, zero, suc, ◌+◌, ◌<◌, Bool, ◌&&◌, ◌||◌, Some, List, [], ◌∷◌, ℤ, All, drop, length, slice_get, add-one, arith, refl}
use Rattle.std.specs.Prelude.{IfSome}
use Rattle.signed_clause.specs.Ranges.{is_nil}
use Rattle.signed_clause.specs.Clauses.{Boxes, Literals, box_of}
use Rattle.ground_form.specs.declared.con.Con.{Con}
use Rattle.ground_form.specs.declared.con.Con.TheVariants.{LinLe, LinDef, ReifLe, AndDef, MemberDef, EqDef, ElementDef, CondDef, ClauseCon, AllDiff, Pack}
use Rattle.ground_form.specs.Meaning.{vars_of, term_vars, part_vars, clause_vars, item_vars}
use Rattle.box_rules.specs.Named.{IsNamed, AreItemsNamed}
use Rattle.box_rules.specs.Refuted.{some_empty}
use Rattle.box_rules.specs.Quiet.{probed, none_refutes, quiet_at}

-- ---- each variable has a box

nobody : (n : ℕ) → All (λ x. x < n) []
nobody n k d lt = absurd (omega arith)

behind : (x : ℕ) (xs : List ℕ) (n : ℕ) → x < n → All (λ y. y < n) xs → All (λ y. y < n) (x ∷ xs)
behind x xs n h t zero d lt = h
behind x xs n h t (suc k) d lt = t k d (omega arith)

of_terms : (ts : List (ℤ × ℕ)) (n : ℕ) → All (λ t. t.1 < n) ts → All (λ x. x < n) (term_vars ts)
of_terms [] n h = nobody n
of_terms (t ∷ ts) n h = behind t.1 (term_vars ts) n (h 0 t (omega arith)) (of_terms ts n (λ j e less. h (suc j) e (omega arith)))

of_parts : (ps : List (ℕ × Bool)) (n : ℕ) → All (λ p. p.0 < n) ps → All (λ x. x < n) (part_vars ps)
of_parts [] n h = nobody n
of_parts (p ∷ ps) n h = behind p.0 (part_vars ps) n (h 0 p (omega arith)) (of_parts ps n (λ j e less. h (suc j) e (omega arith)))

of_literals : (ls : Literals) (n : ℕ) → All (λ l. l.0 < n) ls → All (λ x. x < n) (clause_vars ls)
of_literals [] n h = nobody n
of_literals (l ∷ ls) n h = behind l.0 (clause_vars ls) n (h 0 l (omega arith)) (of_literals ls n (λ j e less. h (suc j) e (omega arith)))

of_items : (is : List (ℕ × ℕ × ℕ)) (boxes : Boxes) → AreItemsNamed is boxes → All (λ x. x < length boxes) (item_vars is)
of_items [] boxes h = nobody (length boxes)
of_items (i ∷ is) boxes h =
    let here = h 0 i (omega arith) in
    behind i.0 (i.1 ∷ i.2 ∷ item_vars is) (length boxes) here.bin
    (behind i.1 (i.2 ∷ item_vars is) (length boxes) here.size
    (behind i.2 (item_vars is) (length boxes) here.room (of_items is boxes (λ j e less. h (suc j) e (omega arith)))))

two_of : (x y n : ℕ) → x < n → y < n → All (λ z. z < n) (x ∷ y ∷ [])
two_of x y n h k = behind x (y ∷ []) n h (behind y [] n k (nobody n))

three_of : (x y z n : ℕ) → x < n → y < n → z < n → All (λ u. u < n) (x ∷ y ∷ z ∷ [])
three_of x y z n h k l = behind x (y ∷ z ∷ []) n h (two_of y z n k l)

of_con : (con : Con) (boxes : Boxes) → IsNamed con boxes → All (λ x. x < length boxes) (vars_of con)
of_con (LinLe terms bound) boxes h = of_terms terms (length boxes) h
of_con (LinDef out terms offset) boxes h = behind out (term_vars terms) (length boxes) h.0 (of_terms terms (length boxes) h.1)
of_con (ReifLe flag terms bound) boxes h = behind flag (term_vars terms) (length boxes) h.0 (of_terms terms (length boxes) h.1)
of_con (AndDef flag parts) boxes h = behind flag (part_vars parts) (length boxes) h.0 (of_parts parts (length boxes) h.1)
of_con (MemberDef flag var set) boxes h = two_of flag var (length boxes) h.0 h.1
of_con (EqDef flag left right) boxes h = three_of flag left right (length boxes) h.0 h.1 h.2
of_con (ElementDef out index items) boxes h =
    behind out (index ∷ term_vars items) (length boxes) h.0 (behind index (term_vars items) (length boxes) h.1 (of_terms items (length boxes) h.2))
of_con (CondDef out flag item) boxes h = three_of out flag item (length boxes) h.0 h.1 h.2
of_con (ClauseCon clause) boxes h = of_literals clause (length boxes) h
of_con (AllDiff vars) boxes h = h
of_con (Pack items) boxes h = of_items items boxes h

below_at : (xs : List ℕ) (n i x : ℕ) → All (λ y. y < n) xs → slice_get xs i ≡ Some x → x < n
below_at [] n i x h e = absurd cc
below_at (y ∷ xs) n zero x h e = let first = h 0 y (omega arith) in let same : y ≡ x = cc in omega (arith, first, same)
below_at (y ∷ xs) n (suc i) x h e = below_at xs n i x (λ j d lt. h (suc j) d (omega arith)) e

-- said of the variable at an index
pub variable_named : (con : Con) (boxes : Boxes) (i x : ℕ) → IsNamed con boxes → slice_get (vars_of con) i ≡ Some x → x < length boxes
variable_named con boxes i x h e = below_at (vars_of con) (length boxes) i x (of_con con boxes h) e

-- ---- one variable more is looked at

empty_step : (xs : List ℕ) (boxes : Boxes) (i : ℕ) (test : Bool) → i < length xs → IfSome (slice_get xs i) (λ x. test ≡ is_nil (box_of boxes x)) →
    some_empty (drop i xs) boxes ≡ (test || some_empty (drop (suc i) xs) boxes)
empty_step [] boxes i test lt is = absurd (omega arith)
empty_step (x ∷ xs) boxes zero test lt is = rw is refl
empty_step (x ∷ xs) boxes (suc i) test lt is = empty_step xs boxes i test (omega arith) is

pub empty_next : (xs : List ℕ) (boxes : Boxes) (i : ℕ) (test : Bool) → i < length xs → IfSome (slice_get xs i) (λ x. test ≡ is_nil (box_of boxes x)) →
    some_empty (drop i xs) boxes ≡ (test || some_empty (drop (i + 1) xs) boxes)
empty_next xs boxes i test lt is = rw add-one (empty_step xs boxes i test lt is)

quiet_step : (con : Con) (boxes : Boxes) (xs : List ℕ) (i : ℕ) (test : Bool) → i < length xs → IfSome (slice_get xs i) (λ x. test ≡ none_refutes con boxes x (probed (box_of boxes x))) →
    quiet_at con boxes (drop i xs) ≡ (test && quiet_at con boxes (drop (suc i) xs))
quiet_step con boxes [] i test lt is = absurd (omega arith)
quiet_step con boxes (x ∷ xs) zero test lt is = rw is refl
quiet_step con boxes (x ∷ xs) (suc i) test lt is = quiet_step con boxes xs i test (omega arith) is

pub quiet_next : (con : Con) (boxes : Boxes) (xs : List ℕ) (i : ℕ) (test : Bool) → i < length xs → IfSome (slice_get xs i) (λ x. test ≡ none_refutes con boxes x (probed (box_of boxes x))) →
    quiet_at con boxes (drop i xs) ≡ (test && quiet_at con boxes (drop (i + 1) xs))
quiet_next con boxes xs i test lt is = rw add-one (quiet_step con boxes xs i test lt is)

pub nothing_left : (xs : List ℕ) → drop (length xs) xs ≡ []
nothing_left [] = refl
nothing_left (x ∷ xs) = nothing_left xs
