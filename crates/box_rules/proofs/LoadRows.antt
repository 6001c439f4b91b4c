-- A row of the items whose bins are fixed tells the loads of all items.
use Rattle.std.proofs.Common.{◌≡◌, ℕ, ◌+◌, ◌<◌, Bool, true, false, not, ◌&&◌, ◌||◌, cond, List, [], ◌∷◌, ◌++◌, ℤ, pos, ◌+ℤ◌, length, take, drop, get_or, slice_set, add-one, append_assoc, append-nil, refl, arith, subst, sym, ap, ◌∙◌}
use Rattle.std.specs.Prelude.{int_lt}
use Rattle.std.specs.Ordering.{int_eq}
use Rattle.std.proofs.Math.Seq.{take-suc-set}
use Rattle.std.proofs.lemmas.Int.{ints}
use Rattle.std.proofs.lemmas.Bool.Decides.{Decides-int_eq}
use Rattle.signed_clause.specs.Ranges.{Ranges, is_nil}
use Rattle.signed_clause.specs.Clauses.{Boxes, box_of}
use Rattle.signed_clause.proofs.RangeSteps.{left_at}
use Rattle.ground_form.specs.Bounds.{low_of, high_of}
use Rattle.box_rules.specs.Refuted.{fixed_at, fixed_load, some_overfull}
use Rattle.box_rules.specs.FixedItems.{read_of, is_put, fixed_of, load_of, some_over}

-- ---- what is in the row

one_then : (i : ℕ × ℕ × ℕ) (is : List (ℕ × ℕ × ℕ)) (boxes : Boxes) →
    fixed_of (i ∷ []) boxes ++ fixed_of is boxes ≡ fixed_of (i ∷ is) boxes
one_then i is boxes =
    elim (is_put i boxes) as
    (λ t. cond t (read_of i boxes ∷ []) [] ++ fixed_of is boxes ≡ cond t
    (read_of i boxes ∷ fixed_of is boxes) (fixed_of is boxes)) [ true ↦ refl | false ↦ refl ]

pub fixed_step : (now later whole : List (ℤ × ℤ × ℤ)) (is : List (ℕ × ℕ × ℕ)) (boxes : Boxes)
    (k : ℕ) (i : ℕ × ℕ × ℕ) →
    k < length is → i ≡ get_or is k (0, 0, 0) →
    later ≡ now ++ fixed_of (i ∷ []) boxes → now ++ fixed_of (drop k is) boxes ≡ whole →
    later ++ fixed_of (drop (k + 1) is) boxes ≡ whole
fixed_step now later whole is boxes k i h d e w =
    let rest = drop (k + 1) is in
    let left : fixed_of (drop k is) boxes ≡ fixed_of (i ∷ rest) boxes =
    ap (λ (z : List (ℕ × ℕ × ℕ)). fixed_of z boxes) (left_at is k i (0, 0, 0) h d) in
    ap (λ (z : List (ℤ × ℤ × ℤ)). z ++ fixed_of rest boxes) e
    ∙ append_assoc now (fixed_of (i ∷ []) boxes) (fixed_of rest boxes)
    ∙ ap (λ (z : List (ℤ × ℤ × ℤ)). now ++ z) (one_then i rest boxes ∙ sym left)
    ∙ w

pub put_here : (row : List (ℤ × ℤ × ℤ)) (count : ℕ) (p : ℤ × ℤ × ℤ) (i : ℕ × ℕ × ℕ)
    (boxes : Boxes) →
    count < length row → p ≡ read_of i boxes → is_put i boxes ≡ true →
    take (count + 1) (slice_set row count p) ≡ take count row ++ fixed_of (i ∷ []) boxes
put_here row count p i boxes h e t =
    let one : fixed_of (i ∷ []) boxes ≡ p ∷ [] = rw t (ap (λ (q : ℤ × ℤ × ℤ). q ∷ []) (sym e)) in
    let front : take (count + 1) (slice_set row count p) ≡ take count row ++ (p ∷ []) =
    rw add-one (take-suc-set row count p h) in
    front ∙ ap (λ (z : List (ℤ × ℤ × ℤ)). take count row ++ z) (sym one)

pub put_nowhere : (row : List (ℤ × ℤ × ℤ)) (count : ℕ) (i : ℕ × ℕ × ℕ) (boxes : Boxes) →
    is_put i boxes ≡ false → take count row ≡ take count row ++ fixed_of (i ∷ []) boxes
put_nowhere row count i boxes t =
    let none : fixed_of (i ∷ []) boxes ≡ [] = rw t refl in
    sym (ap (λ (z : List (ℤ × ℤ × ℤ)). take count row ++ z) none ∙ append-nil (take count row))

-- ---- loads

and_true : (b : Bool) → b ≡ (b && true)
and_true true = refl
and_true false = refl

none : (a c f : Bool) → (a && (false && c)) ≡ (f && false)
none true c true = refl
none true c false = refl
none false c true = refl
none false c false = refl

one_load : (f b : Bool) (v : ℤ) (p : ℤ × ℤ × ℤ) (row : List (ℤ × ℤ × ℤ)) → int_eq p.0 v ≡ b →
    load_of v (cond f (p ∷ row) row) ≡ cond (f && b) (p.1 +ℤ load_of v row) (load_of v row)
one_load true b v p row e = rw e refl
one_load false b v p row e = refl

one_over : (f : Bool) (p : ℤ × ℤ × ℤ) (ps row : List (ℤ × ℤ × ℤ)) →
    some_over (cond f (p ∷ ps) ps) row ≡ ((f && int_lt p.2 (load_of p.0 row)) || some_over ps row)
one_over true p ps row = refl
one_over false p ps row = refl

same_bin : (s : Ranges) (v : ℤ) (b : Bool) → int_eq (low_of s) v ≡ b →
    fixed_at s v ≡ (fixed_at s (low_of s) && b)
same_bin s v true e =
    let is : low_of s ≡ v = (Decides-int_eq (low_of s) v).0 e in
    subst (λ (z : ℤ). fixed_at s z ≡ (fixed_at s (low_of s) && true)) is
    (and_true (fixed_at s (low_of s)))
same_bin s v false e = rw e (none (not (is_nil s)) (int_eq (high_of s) v) (fixed_at s (low_of s)))

pub row_load : (v : ℤ) (is : List (ℕ × ℕ × ℕ)) (boxes : Boxes) →
    load_of v (fixed_of is boxes) ≡ fixed_load v is boxes
row_load v [] boxes = refl
row_load v (i ∷ is) boxes =
    let more = row_load v is boxes in
    let at = same_bin (box_of boxes i.0) v (int_eq (low_of (box_of boxes i.0)) v) refl in
    rw (at, ← more)
    (one_load (is_put i boxes) (int_eq (low_of (box_of boxes i.0)) v) v (read_of i boxes)
    (fixed_of is boxes) refl)

pub row_over : (is items : List (ℕ × ℕ × ℕ)) (boxes : Boxes) →
    some_over (fixed_of is boxes) (fixed_of items boxes) ≡ some_overfull is items boxes
row_over [] items boxes = refl
row_over (i ∷ is) items boxes =
    let more = row_over is items boxes in
    let load = row_load (low_of (box_of boxes i.0)) items boxes in
    rw (← more, ← load)
    (one_over (is_put i boxes) (read_of i boxes) (fixed_of is boxes) (fixed_of items boxes))

pub few_over : (r : Bool) (row : List (ℤ × ℤ × ℤ)) (items : List (ℕ × ℕ × ℕ)) (boxes : Boxes) →
    r ≡ some_over row row → row ≡ fixed_of items boxes → r ≡ some_overfull items items boxes
few_over r row items boxes e is = e ∙ ap (λ (z : List (ℤ × ℤ × ℤ)). some_over z z) is
    ∙ row_over items items boxes

-- ---- one step of the sum

added : (f : Bool) (size load sum next total : ℤ) → next ≡ cond f (sum +ℤ size) sum →
    sum +ℤ cond f (size +ℤ load) load ≡ total → next +ℤ load ≡ total
added true size load sum next total e h = omega (arith, ints)
added false size load sum next total e h = omega (arith, ints)

pub size_step : (v : ℤ) (row : List (ℤ × ℤ × ℤ)) (k : ℕ) (p : ℤ × ℤ × ℤ) (sum next total : ℤ) →
    k < length row → p ≡ get_or row k (pos 0, pos 0, pos 0) →
    next ≡ cond (int_eq p.0 v) (sum +ℤ p.1) sum → sum +ℤ load_of v (drop k row) ≡ total →
    next +ℤ load_of v (drop (k + 1) row) ≡ total
size_step v row k p sum next total h d e t =
    let left : load_of v (drop k row) ≡ load_of v (p ∷ drop (k + 1) row) =
    ap (λ (z : List (ℤ × ℤ × ℤ)). load_of v z) (left_at row k p (pos 0, pos 0, pos 0) h d) in
    added (int_eq p.0 v) p.1 (load_of v (drop (k + 1) row)) sum next total e (rw left at t)
