-- What one more in a slot does to the sums, and which interval is crowded where a sum is too great.
use Rattle.std.proofs.Common.{◌≡◌, ℕ, zero, suc, ◌+◌, ◌<◌, ◌≤◌, Bool, true, false, ◌||◌, cond, List, [], ◌∷◌, ◌++◌, ℤ, pos, ◌+ℤ◌, ◌-ℤ◌, ◌≤ℤ◌, ◌<ℤ◌, unsigned_abs, length, take, drop, get_or, slice_set, add-one, append_assoc, refl, arith, subst, sym, ap, ◌∙◌}
use Rattle.std.specs.Prelude.{nat_le, int_le, int_lt, slice_index_or}
use Rattle.std.proofs.Math.ListN.{replicate}
use Rattle.std.proofs.Math.Seq.{take-suc-set}
use Rattle.std.proofs.lemmas.Int.{ints}
use Rattle.std.proofs.lemmas.Bool.{and_parts, and_from, false_from_ne_true}
use Rattle.std.proofs.lemmas.Bool.Decides.{nat_tests}
use Rattle.signed_clause.specs.Clauses.{Boxes, box_of}
use Rattle.signed_clause.proofs.RangeSteps.{left_at, left_none}
use Rattle.ground_form.specs.Bounds.{low_of, high_of}
use Rattle.box_rules.specs.Refuted.{count_in, crowded, crowded_from, some_crowded}
use Rattle.box_rules.specs.Crowding.{ends_of, AreInOrder, count_ends, total}
use Rattle.box_rules.proofs.CrowdLaws.{find_end, end_keeps, from_end, narrowed, some_within}

-- ---- sums of slots

pub total_step : (d : ℕ) (ns : List ℕ) → d < length ns →
    total d ns + slice_index_or ns d 0 ≡ total (suc d) ns
total_step d [] h = absurd (omega arith)
total_step zero (m ∷ ns) h = omega arith
total_step (suc d) (m ∷ ns) h = let more = total_step d ns (omega arith) in omega arith

pub slot_le : (d : ℕ) (ns : List ℕ) → d < length ns → slice_index_or ns d 0 ≤ total (suc d) ns
slot_le d ns h = let e = total_step d ns h in omega arith

pub total_set : (e d : ℕ) (ns : List ℕ) → d < length ns →
    total (suc e) (slice_set ns d (slice_index_or ns d 0 + 1)) ≡ cond (nat_le d e)
    (suc (total (suc e) ns)) (total (suc e) ns)
total_set e d [] h = absurd (omega arith)
total_set e zero (m ∷ ns) h = let t : nat_le 0 e ≡ true = grind (arith, nat_tests) in
    rw t (omega arith)
total_set zero (suc d) (m ∷ ns) h = let t : nat_le (suc d) 0 ≡ false = grind (arith, nat_tests) in
    rw t (omega arith)
total_set (suc e) (suc d) (m ∷ ns) h =
    let more = total_set e d ns (omega arith) in
    let later : nat_le (suc d) (suc e) ≡ nat_le d e = grind (arith, nat_tests) in
    let P : Bool → Type 0 = λ t. total (suc e) (slice_set ns d (slice_index_or ns d 0 + 1)) ≡ cond
    t (suc (total (suc e) ns)) (total (suc e) ns) →
    m + total (suc e) (slice_set ns d (slice_index_or ns d 0 + 1)) ≡ cond t
    (suc (m + total (suc e) ns)) (m + total (suc e) ns) in
    rw later ((elim (nat_le d e) as P [ true ↦ λ q. omega arith | false ↦ λ q. omega arith ]) more)

pub none_total : (e n : ℕ) → total e (replicate n 0) ≡ 0
none_total zero n = refl
none_total (suc e) zero = refl
none_total (suc e) (suc n) = let more = none_total e n in omega arith

pub none_few : (e n : ℕ) → total e (replicate n 0) ≤ 0
none_few e n = let none = none_total e n in omega arith

pub none_more : (e n m : ℕ) → total e (replicate n 0) + m ≡ m
none_more e n m = let none = none_total e n in omega arith

pub ends_at_most : (a b : ℤ) (ps : List (ℤ × ℤ)) → count_ends a b ps ≤ length ps
ends_at_most a b [] = omega arith
ends_at_most a b (p ∷ ps) = let more = ends_at_most a b ps in grind arith

-- ---- the ends of boxes

pub counted : (a b : ℤ) (xs : List ℕ) (boxes : Boxes) →
    count_ends a b (ends_of xs boxes) ≡ count_in a b xs boxes
counted a b [] boxes = refl
counted a b (x ∷ xs) boxes = let more = counted a b xs boxes in rw more refl

pub ends_length : (xs : List ℕ) (boxes : Boxes) → length (ends_of xs boxes) ≡ length xs
ends_length [] boxes = refl
ends_length (x ∷ xs) boxes = let more = ends_length xs boxes in omega arith

pub ends_first : (xs : List ℕ) (boxes : Boxes) (k : ℕ) (d : ℤ × ℤ) → k < length xs →
    (get_or (ends_of xs boxes) k d).0 ≡ low_of (box_of boxes (get_or xs k 0))
ends_first [] boxes k d h = absurd (omega arith)
ends_first (x ∷ xs) boxes zero d h = refl
ends_first (x ∷ xs) boxes (suc k) d h = ends_first xs boxes k d (omega arith)

pub row_step : (row : List (ℤ × ℤ)) (i x : ℕ) (p : ℤ × ℤ) (xs : List ℕ) (boxes : Boxes)
    (whole : List (ℤ × ℤ)) →
    i < length row → i < length xs → x ≡ get_or xs i 0 →
    p ≡ (low_of (box_of boxes x), high_of (box_of boxes x)) →
    take i row ++ ends_of (drop i xs) boxes ≡ whole →
    take (i + 1) (slice_set row i p) ++ ends_of (drop (i + 1) xs) boxes ≡ whole
row_step row i x p xs boxes whole h k e is w =
    let rest = ends_of (drop (i + 1) xs) boxes in
    let left : ends_of (drop i xs) boxes ≡ p ∷ rest =
    ap (λ (z : List ℕ). ends_of z boxes) (left_at xs i x 0 k e)
    ∙ ap (λ (q : ℤ × ℤ). q ∷ rest) (sym is) in
    let front : take (i + 1) (slice_set row i p) ≡ take i row ++ (p ∷ []) =
    rw add-one (take-suc-set row i p h) in
    ap (λ (z : List (ℤ × ℤ)). z ++ rest) front
    ∙ append_assoc (take i row) (p ∷ []) rest
    ∙ ap (λ (z : List (ℤ × ℤ)). take i row ++ z) (sym left)
    ∙ w

pub order_step : (i x : ℕ) (xs : List ℕ) (boxes : Boxes) → i < length xs → x ≡ get_or xs i 0 →
    low_of (box_of boxes x) ≤ℤ high_of (box_of boxes x) →
    AreInOrder (drop (i + 1) xs) boxes → AreInOrder (drop i xs) boxes
order_step i x xs boxes h e o rest =
    subst (λ (z : List ℕ). AreInOrder z boxes) (sym (left_at xs i x 0 h e)) (o, rest)

-- ---- one pass

-- a..a + d is crowded where more than d + 1 ends lie within it
too_many : (a : ℤ) (d : ℕ) (xs : List ℕ) (boxes : Boxes) →
    suc d < count_in a (a +ℤ pos d) xs boxes → crowded a (a +ℤ pos d) xs boxes ≡ true
too_many a d xs boxes h =
    and_from (int_le a (a +ℤ pos d))
    (int_lt (((a +ℤ pos d) -ℤ a) +ℤ pos 1) (pos (count_in a (a +ℤ pos d) xs boxes)))
    (grind (arith, ints)) (grind (arith, ints))

-- so some interval to where a box ends is
crowd_there : (a b : ℤ) (xs : List ℕ) (boxes : Boxes) → AreInOrder xs boxes →
    crowded a b xs boxes ≡ true → crowded_from a xs xs boxes ≡ true
crowd_there a b xs boxes o c =
    let some = some_within a b (count_in a b xs boxes) c in
    let end = find_end a b xs boxes o some in
    let more = end_keeps end.value a b xs boxes end.keeps in
    let narrow : crowded a end.value xs boxes ≡ true =
    narrowed a b a end.value _ _ _ (omega (arith, ints)) end.from end.upto (omega arith) more
    c in
    from_end a end.value xs xs boxes end.there narrow

pub crowd_found : (a : ℤ) (d : ℕ) (ends : List (ℤ × ℤ)) (xs : List ℕ) (boxes : Boxes) →
    suc d < count_ends a (a +ℤ pos d) ends → ends ≡ ends_of xs boxes → AreInOrder xs boxes →
    true ≡ crowded_from a xs xs boxes
crowd_found a d ends xs boxes h e o =
    let is : count_ends a (a +ℤ pos d) ends ≡ count_in a (a +ℤ pos d) xs boxes =
    ap (λ (z : List (ℤ × ℤ)). count_ends a (a +ℤ pos d) z) e
    ∙ counted a (a +ℤ pos d) xs boxes in
    sym (crowd_there a (a +ℤ pos d) xs boxes o (too_many a d xs boxes (omega arith)))

-- and where no sum is too great, none is
few_within : (a b : ℤ) (n : ℕ) (xs : List ℕ) (boxes : Boxes) → count_in a b xs boxes ≤ n →
    ((e : ℕ) → e < n → count_in a (a +ℤ pos e) xs boxes ≤ suc e) → crowded a b xs boxes ≡ false
few_within a b n xs boxes m h =
    false_from_ne_true (crowded a b xs boxes) (λ c.
    let parts = and_parts (int_le a b) (int_lt ((b -ℤ a) +ℤ pos 1) (pos (count_in a b xs boxes)))
    c in
    let order : a ≤ℤ b = grind (arith, ints) in
    let more : ((b -ℤ a) +ℤ pos 1) <ℤ pos (count_in a b xs boxes) = grind (arith, ints) in
    let d = unsigned_abs (b -ℤ a) in
    let at : a +ℤ pos d ≡ b = omega (arith, ints) in
    let few = subst (λ (z : ℤ). d < n → count_in a z xs boxes ≤ suc d) at (h d) in
    let less : d < n = omega (arith, ints) in
    let most = few less in omega (arith, ints))

none_from : (a : ℤ) (ys xs : List ℕ) (boxes : Boxes) → ((b : ℤ) → crowded a b xs boxes ≡ false) →
    crowded_from a ys xs boxes ≡ false
none_from a [] xs boxes h = refl
none_from a (y ∷ ys) xs boxes h = rw (h (high_of (box_of boxes y))) (none_from a ys xs boxes h)

pub crowd_missing : (a : ℤ) (ends : List (ℤ × ℤ)) (xs : List ℕ) (boxes : Boxes) →
    ((e : ℕ) → e < length ends → count_ends a (a +ℤ pos e) ends ≤ suc e) →
    ends ≡ ends_of xs boxes → false ≡ crowded_from a xs xs boxes
crowd_missing a ends xs boxes h e =
    let same : length ends ≡ length xs = ap (λ (z : List (ℤ × ℤ)). length z) e
    ∙ ends_length xs boxes in
    let is : (b : ℤ) → count_ends a b ends ≡ count_in a b xs boxes =
    λ b. ap (λ (z : List (ℤ × ℤ)). count_ends a b z) e ∙ counted a b xs boxes in
    sym (none_from a xs xs boxes (λ b. few_within a b (length ends) xs boxes
    (let one = is b in let most = ends_at_most a b ends in omega arith)
    (λ d lt. let one = is (a +ℤ pos d) in let few = h d lt in omega arith)))

-- ---- all passes

pub crowd_step : (ends : List (ℤ × ℤ)) (k : ℕ) (p : ℤ × ℤ) (xs : List ℕ) (boxes : Boxes) →
    ends ≡ ends_of xs boxes → k < length ends → p ≡ get_or ends k (pos 0, pos 0) →
    some_crowded (drop k xs) xs boxes ≡
    (crowded_from p.0 xs xs boxes || some_crowded (drop (k + 1) xs) xs boxes)
crowd_step ends k p xs boxes e lt is =
    let same : length ends ≡ length xs = ap (λ (z : List (ℤ × ℤ)). length z) e
    ∙ ends_length xs boxes in
    let here : k < length xs = omega arith in
    let y = get_or xs k 0 in
    let low : p.0 ≡ low_of (box_of boxes y) = ap (λ (q : ℤ × ℤ). q.0) is
    ∙ ap (λ (z : List (ℤ × ℤ)). (get_or z k (pos 0, pos 0)).0) e
    ∙ ends_first xs boxes k (pos 0, pos 0) here in
    ap (λ (z : List ℕ). some_crowded z xs boxes) (left_at xs k y 0 here refl)
    ∙ ap (λ (v : ℤ). crowded_from v xs xs boxes || some_crowded (drop (k + 1) xs) xs boxes)
    (sym low)

pub crowd_hit : (ends : List (ℤ × ℤ)) (k : ℕ) (p : ℤ × ℤ) (v : ℤ) (found : Bool) (xs : List ℕ)
    (boxes : Boxes) →
    ends ≡ ends_of xs boxes → k < length ends → p ≡ get_or ends k (pos 0, pos 0) →
    v ≡ p.0 → found ≡ crowded_from v xs xs boxes → found ≡ true →
    some_crowded (drop k xs) xs boxes ≡ some_crowded xs xs boxes →
    true ≡ some_crowded xs xs boxes
crowd_hit ends k p v found xs boxes e lt is low f t inv =
    let here : crowded_from p.0 xs xs boxes ≡ true =
    ap (λ (z : ℤ). crowded_from z xs xs boxes) (sym low) ∙ sym f ∙ t in
    sym (sym inv ∙ crowd_step ends k p xs boxes e lt is ∙ rw here refl)

pub crowd_miss : (ends : List (ℤ × ℤ)) (k : ℕ) (p : ℤ × ℤ) (v : ℤ) (found : Bool) (xs : List ℕ)
    (boxes : Boxes) →
    ends ≡ ends_of xs boxes → k < length ends → p ≡ get_or ends k (pos 0, pos 0) →
    v ≡ p.0 → found ≡ crowded_from v xs xs boxes → found ≡ false →
    some_crowded (drop k xs) xs boxes ≡ some_crowded xs xs boxes →
    some_crowded (drop (k + 1) xs) xs boxes ≡ some_crowded xs xs boxes
crowd_miss ends k p v found xs boxes e lt is low f t inv =
    let here : crowded_from p.0 xs xs boxes ≡ false =
    ap (λ (z : ℤ). crowded_from z xs xs boxes) (sym low) ∙ sym f ∙ t in
    sym (crowd_step ends k p xs boxes e lt is ∙ rw here refl) ∙ inv

pub crowd_end : (ends : List (ℤ × ℤ)) (k : ℕ) (xs : List ℕ) (boxes : Boxes) →
    ends ≡ ends_of xs boxes → length ends ≤ k →
    some_crowded (drop k xs) xs boxes ≡ some_crowded xs xs boxes →
    false ≡ some_crowded xs xs boxes
crowd_end ends k xs boxes e le inv =
    let same : length ends ≡ length xs = ap (λ (z : List (ℤ × ℤ)). length z) e
    ∙ ends_length xs boxes in
    ap (λ (z : List ℕ). some_crowded z xs boxes) (sym (left_none xs k (omega arith))) ∙ inv
