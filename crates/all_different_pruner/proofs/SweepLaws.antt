-- Values that variables have alone, and sweeps from where the other narrow boxes begin, are enough:
-- an interval that begins with such a value is no more crowded or full than the one behind it.
use Rattle.std.proofs.Common.{◌≡◌, ℕ, zero, suc, ◌<◌, ◌≤◌, ◌+◌, Bool, true, false, ◌||◌, cond, List, [], ◌∷◌, ℤ, pos, ◌+ℤ◌, ◌≤ℤ◌, ◌<ℤ◌, All, length, refl, arith, inl, inr, ◌⊎◌, subst, sym}
use Rattle.std.specs.Prelude.{int_lt}
use Rattle.std.proofs.lemmas.Int.{ints}
use Rattle.std.proofs.lemmas.Bool.Decides.{nat_tests}
use Rattle.std.proofs.lemmas.Bool.{or_cases, and_from, cases_lt}
use Rattle.signed_clause.specs.Ranges.{Ranges, has, is_nil, IsValid}
use Rattle.signed_clause.specs.SetAlgebra.{is_disjoint}
use Rattle.signed_clause.specs.Clauses.{Boxes, box_of}
use Rattle.ground_form.specs.Bounds.{low_of, high_of}
use Rattle.box_rules.specs.Refuted.{width, lies_in, count_in}
use Rattle.box_rules.proofs.CrowdLaws.{in_parts, in_from, at_least}
use Rattle.box_view.proofs.EndLaws.{are_sets, ends_in_order, has_low}
use Rattle.rule_law.specs.Reasons.{has_number}
use Rattle.all_different_pruner.specs.Intervals.{is_outside, AreOutside, IsFixpointAt, IsFixpointFrom, is_narrow, begins_sweep, AreSwept, IsAlone, AreAlone, AreAtFixpoint}
use Rattle.all_different_pruner.proofs.Fixpoint.{all_at, stands_at, count_at_most}
use Rattle.all_different_pruner.proofs.FixpointQuiet.{disjoint_none}
use Rattle.all_different_pruner.proofs.Behind.{disjoint_from}
use Rattle.all_different_pruner.proofs.SingleLaws.{AreSome, some_tail}

right_or : (x y : Bool) → y ≡ true → (x || y) ≡ true
right_or x y h = grind arith

pub record Given (xs : List ℕ) (boxes : Boxes) : Type 0 where
  pub some : AreSome xs boxes
  pub alone : AreAlone xs xs boxes
  pub swept : AreSwept xs xs boxes

-- ---- one box

-- a box within a..b is the first number alone, or lies behind it
split_box : (a b : ℤ) (s : Ranges) → IsValid s → is_nil s ≡ false → is_outside a a s ≡ true → lies_in a b s ≡ true → (lies_in a a s ≡ true) ⊎ (lies_in (a +ℤ pos 1) b s ≡ true)
split_box a b s f n o h =
    let parts = in_parts a b s h in
    elim (or_cases (lies_in a a s) (is_disjoint s ((a, a) ∷ [])) o) [
      | inl e ↦ inl e
      | inr e ↦
          let P : Bool → Type 0 = λ t. int_lt a (low_of s) ≡ t → (lies_in a a s ≡ true) ⊎ (lies_in (a +ℤ pos 1) b s ≡ true) in
          (elim (int_lt a (low_of s)) as P [
            | true ↦ λ q. inr (let less : a <ℤ low_of s = grind (arith, ints) in in_from (a +ℤ pos 1) b s (omega (arith, ints)) parts.1)
            | false ↦ λ q.
                let same : low_of s ≡ a = grind (arith, ints) in
                let here : has s a ≡ true = subst (λ (v : ℤ). has s v ≡ true) same (has_low s f n) in
                let none = disjoint_none _ _ a a a s f e (grind (arith, ints)) in absurd cc
          ]) refl
    ]

join_box : (a b : ℤ) (s : Ranges) → IsValid s → a ≤ℤ b → is_outside a a s ≡ true → is_outside (a +ℤ pos 1) b s ≡ true → is_outside a b s ≡ true
join_box a b s f le o h =
    let P : Type 0 = is_outside a b s ≡ true in
    let lie : lies_in a b s ≡ true → P = λ q. rw q refl in
    elim (or_cases (lies_in a a s) (is_disjoint s ((a, a) ∷ [])) o) [
      | inl e ↦ let parts = in_parts a a s e in lie (in_from a b s parts.0 (omega (arith, ints)))
      | inr e ↦ elim (or_cases (lies_in (a +ℤ pos 1) b s) (is_disjoint s ((a +ℤ pos 1, b) ∷ [])) h) [
        | inl g ↦ let parts = in_parts (a +ℤ pos 1) b s g in lie (in_from a b s (omega (arith, ints)) parts.1)
        | inr g ↦ right_or (lies_in a b s) (is_disjoint s ((a, b) ∷ []))
            (disjoint_from _ _ a b s f (λ v k.
            let Q : Bool → Type 0 = λ t. int_lt a v ≡ t → has s v ≡ false in
            (elim (int_lt a v) as Q [
              | true ↦ λ q. disjoint_none _ _ (a +ℤ pos 1) b v s f g (grind (arith, ints))
              | false ↦ λ q. disjoint_none _ _ a a v s f e (grind (arith, ints))
            ]) refl))
      ]
    ]

-- ---- counts

split_step : (f g h : Bool) (m n k : ℕ) → (f ≡ true → (g ≡ true) ⊎ (h ≡ true)) → m ≤ n + k → cond f (suc m) m ≤ cond g (suc n) n + cond h (suc k) k
split_step false g h m n k p q = elim g as (λ t. m ≤ cond t (suc n) n + cond h (suc k) k) [
  | true ↦ elim h as (λ t. m ≤ suc n + cond t (suc k) k) [ true ↦ omega arith | false ↦ omega arith ]
  | false ↦ elim h as (λ t. m ≤ n + cond t (suc k) k) [ true ↦ omega arith | false ↦ omega arith ]
]
split_step true true true m n k p q = omega arith
split_step true true false m n k p q = omega arith
split_step true false true m n k p q = omega arith
split_step true false false m n k p q = absurd (elim (p refl) [ inl e ↦ (let t : false ≡ true = e in cc) | inr e ↦ (let t : false ≡ true = e in cc) ])

count_split : (a b : ℤ) (xs : List ℕ) (boxes : Boxes) → AreSome xs boxes → AreOutside a a xs boxes → count_in a b xs boxes ≤ count_in a a xs boxes + count_in (a +ℤ pos 1) b xs boxes
count_split a b [] boxes t o = omega arith
count_split a b (x ∷ xs) boxes t o =
    let s = box_of boxes x in
    split_step (lies_in a b s) (lies_in a a s) (lies_in (a +ℤ pos 1) b s) _ _ _
    (split_box a b s (are_sets boxes t.sets x) (t.some x (t.named 0 0 (omega arith))) (o 0 0 (omega arith)))
    (count_split a b xs boxes (some_tail x xs boxes t) (λ j d lt. o (suc j) d (omega arith)))

-- no box lies within an interval without numbers
none_between : (a b : ℤ) (xs : List ℕ) (boxes : Boxes) → AreSome xs boxes → b <ℤ a → count_in a b xs boxes ≡ 0
none_between a b [] boxes t l = refl
none_between a b (x ∷ xs) boxes t l =
    let s = box_of boxes x in
    let more = none_between a b xs boxes (some_tail x xs boxes t) l in
    let order = ends_in_order s (are_sets boxes t.sets x) in
    (elim (lies_in a b s) as (λ f. lies_in a b s ≡ f → cond f (suc (count_in a b xs boxes)) (count_in a b xs boxes) ≡ 0) [
      | true ↦ λ h. let parts = in_parts a b s h in absurd (omega (arith, ints))
      | false ↦ λ h. more
    ]) refl

-- where as many boxes lie within as there are, all do
all_lie : (a b : ℤ) (xs : List ℕ) (boxes : Boxes) → length xs ≤ count_in a b xs boxes → AreOutside a b xs boxes
all_lie a b [] boxes h = λ k d lt. absurd (omega arith)
all_lie a b (x ∷ xs) boxes h =
    let s = box_of boxes x in
    let most = count_at_most a b xs boxes in
    let P : Bool → Type 0 = λ f. lies_in a b s ≡ f → suc (length xs) ≤ cond f (suc (count_in a b xs boxes)) (count_in a b xs boxes) → AreOutside a b (x ∷ xs) boxes in
    (elim (lies_in a b s) as P [
      | true ↦ λ e q. both (rw e refl) (all_lie a b xs boxes (omega arith))
      | false ↦ λ e q. absurd (omega arith)
    ]) refl h
  where
    both : is_outside a b (box_of boxes x) ≡ true → AreOutside a b xs boxes → AreOutside a b (x ∷ xs) boxes
    both here rest zero d lt = here
    both here rest (suc j) d lt = rest j d (omega arith)

-- ---- where an interval begins

record BeginsAt (a b : ℤ) (xs : List ℕ) (boxes : Boxes) : Type 0 where
  variable : ℕ
  there : has_number variable xs ≡ true
  lies : lies_in a b (box_of boxes variable) ≡ true
  low : low_of (box_of boxes variable) ≡ a

begins_later : (a b : ℤ) (x : ℕ) (xs : List ℕ) (boxes : Boxes) → BeginsAt a b xs boxes → BeginsAt a b (x ∷ xs) boxes
begins_later a b x xs boxes t = record { variable = t.variable; there = right_or _ _ t.there; lies = t.lies; low = t.low }

begins_step : (a b : ℤ) (x : ℕ) (xs : List ℕ) (boxes : Boxes) → (lies_in a b (box_of boxes x) ≡ true → lies_in (a +ℤ pos 1) b (box_of boxes x) ≡ true) →
    BeginsAt a b xs boxes ⊎ (count_in a b xs boxes ≤ count_in (a +ℤ pos 1) b xs boxes) → BeginsAt a b (x ∷ xs) boxes ⊎ (count_in a b (x ∷ xs) boxes ≤ count_in (a +ℤ pos 1) b (x ∷ xs) boxes)
begins_step a b x xs boxes h r = elim r [
  | inl t ↦ inl (begins_later a b x xs boxes t)
  | inr le ↦ inr (at_least (lies_in a b (box_of boxes x)) (lies_in (a +ℤ pos 1) b (box_of boxes x)) _ _ h le)
]

begins_at : (a b : ℤ) (xs : List ℕ) (boxes : Boxes) → BeginsAt a b xs boxes ⊎ (count_in a b xs boxes ≤ count_in (a +ℤ pos 1) b xs boxes)
begins_at a b [] boxes = inr (omega arith)
begins_at a b (x ∷ xs) boxes =
    let s = box_of boxes x in
    let rest = begins_at a b xs boxes in
    let R : Type 0 = BeginsAt a b (x ∷ xs) boxes ⊎ (count_in a b (x ∷ xs) boxes ≤ count_in (a +ℤ pos 1) b (x ∷ xs) boxes) in
    (elim (lies_in a b s) as (λ f. lies_in a b s ≡ f → R) [
      | false ↦ λ e. begins_step a b x xs boxes (λ q. absurd cc) rest
      | true ↦ λ e.
          let parts = in_parts a b s e in
          (elim (int_lt a (low_of s)) as (λ f. int_lt a (low_of s) ≡ f → R) [
            | true ↦ λ l. begins_step a b x xs boxes (λ q. let less : a <ℤ low_of s = grind (arith, ints) in in_from (a +ℤ pos 1) b s (omega (arith, ints)) parts.1) rest
            | false ↦ λ l. inl (record { variable = x; there = stands_at x xs; lies = e; low = grind (arith, ints) })
          ]) refl
    ]) refl

-- ---- all intervals

-- what is known of the interval behind the first number
record IsBehind (a : ℤ) (d : ℕ) (xs : List ℕ) (boxes : Boxes) : Type 0 where
  few : count_in (a +ℤ pos 1) (a +ℤ pos d) xs boxes ≤ d
  outside : 1 ≤ d → count_in (a +ℤ pos 1) (a +ℤ pos d) xs boxes ≡ d → AreOutside (a +ℤ pos 1) (a +ℤ pos d) xs boxes

nothing_behind : (a : ℤ) (xs : List ℕ) (boxes : Boxes) → AreSome xs boxes → IsBehind a 0 xs boxes
nothing_behind a xs boxes t = record {
  few = let none = none_between (a +ℤ pos 1) (a +ℤ pos 0) xs boxes t (omega (arith, ints)) in omega (arith, none);
  outside = λ k q. absurd (omega arith);
}

one_behind : (a : ℤ) (d : ℕ) (xs : List ℕ) (boxes : Boxes) → IsFixpointAt (a +ℤ pos 1) d xs boxes → IsBehind a (suc d) xs boxes
one_behind a d xs boxes t =
    let same : (a +ℤ pos 1) +ℤ pos d ≡ a +ℤ pos (suc d) = omega (arith, ints) in
    record {
      few = subst (λ (b : ℤ). count_in (a +ℤ pos 1) b xs boxes ≤ suc d) same t.few;
      outside = λ k q.
          let here : count_in (a +ℤ pos 1) ((a +ℤ pos 1) +ℤ pos d) xs boxes ≡ suc d = subst (λ (b : ℤ). count_in (a +ℤ pos 1) b xs boxes ≡ suc d) (sym same) q in
          subst (λ (b : ℤ). AreOutside (a +ℤ pos 1) b xs boxes) same (t.outside here);
    }

-- no box begins with the first number
at_later : (a : ℤ) (d : ℕ) (xs : List ℕ) (boxes : Boxes) → IsBehind a d xs boxes → count_in a (a +ℤ pos d) xs boxes ≤ count_in (a +ℤ pos 1) (a +ℤ pos d) xs boxes → IsFixpointAt a d xs boxes
at_later a d xs boxes t le =
    let few = t.few in record { few = omega (arith, few, le); outside = λ q. absurd (omega (arith, few, le, q)) }

-- a box is the first number alone
outside_alone : (a : ℤ) (d : ℕ) (xs : List ℕ) (boxes : Boxes) → AreSome xs boxes → IsAlone a xs boxes → IsBehind a d xs boxes → suc d ≤ count_in a (a +ℤ pos d) xs boxes → AreOutside a (a +ℤ pos d) xs boxes
outside_alone a zero xs boxes s t r q = let same : a ≡ a +ℤ pos 0 = omega (arith, ints) in subst (λ (b : ℤ). AreOutside a b xs boxes) same t.outside
outside_alone a (suc e) xs boxes s t r q =
    let split = count_split a (a +ℤ pos (suc e)) xs boxes s t.outside in
    let one = t.few in let few = r.few in
    let behind = r.outside (omega arith) (omega (arith, split, one, few, q)) in
    λ j d lt. join_box a (a +ℤ pos (suc e)) _ (are_sets boxes s.sets _) (omega (arith, ints)) (t.outside j d lt) (behind j d lt)

at_alone : (a : ℤ) (d : ℕ) (xs : List ℕ) (boxes : Boxes) → AreSome xs boxes → IsAlone a xs boxes → IsBehind a d xs boxes → IsFixpointAt a d xs boxes
at_alone a d xs boxes s t r =
    let split = count_split a (a +ℤ pos d) xs boxes s t.outside in
    let one = t.few in let few = r.few in
    record { few = omega (arith, split, one, few); outside = λ q. outside_alone a d xs boxes s t r (omega (arith, q)) }

-- a box begins with the first number, and has others
at_open : (a : ℤ) (d y : ℕ) (xs : List ℕ) (boxes : Boxes) → AreSwept xs xs boxes → d < length xs → has_number y xs ≡ true → lies_in a (a +ℤ pos d) (box_of boxes y) ≡ true → low_of (box_of boxes y) ≡ a →
    int_lt (low_of (box_of boxes y)) (high_of (box_of boxes y)) ≡ true → IsFixpointAt a d xs boxes
at_open a d y xs boxes swept lt there lies low more =
    let s = box_of boxes y in
    let most = count_at_most a (a +ℤ pos d) xs boxes in
    let parts = in_parts a (a +ℤ pos d) s lies in
    let less : low_of s <ℤ high_of s = grind (arith, ints) in
    elim (cases_lt (suc d) (length xs)) [
      | inl fits ↦
          let few : width (low_of s) (high_of s) < length xs = omega (arith, ints, parts, less, low) in
          let narrow : is_narrow (length xs) s ≡ true = grind (arith, nat_tests) in
          let from = all_at (λ z. begins_sweep (length xs) (box_of boxes z) ≡ true → IsFixpointFrom (low_of (box_of boxes z)) xs boxes) y xs swept there (and_from _ _ more narrow) in
          subst (λ (v : ℤ). IsFixpointAt v d xs boxes) low (from d lt)
      | inr whole ↦ record { few = omega (arith, most, lt, whole); outside = λ q. all_lie a (a +ℤ pos d) xs boxes (omega (arith, q, whole)) }
    ]

at_step : (a : ℤ) (d : ℕ) (xs : List ℕ) (boxes : Boxes) → Given xs boxes → d < length xs → IsBehind a d xs boxes → IsFixpointAt a d xs boxes
at_step a d xs boxes g lt r = elim (begins_at a (a +ℤ pos d) xs boxes) [
  | inr le ↦ at_later a d xs boxes r le
  | inl t ↦
      let s = box_of boxes t.variable in
      (elim (int_lt (low_of s) (high_of s)) as (λ f. int_lt (low_of s) (high_of s) ≡ f → IsFixpointAt a d xs boxes) [
        | true ↦ λ e. at_open a d t.variable xs boxes g.swept lt t.there t.lies t.low e
        | false ↦ λ e.
            let alone = all_at (λ z. int_lt (low_of (box_of boxes z)) (high_of (box_of boxes z)) ≡ false → IsAlone (low_of (box_of boxes z)) xs boxes) t.variable xs g.alone t.there e in
            at_alone a d xs boxes g.some (subst (λ (v : ℤ). IsAlone v xs boxes) t.low alone) r
      ]) refl
]

at_all : (a : ℤ) (d : ℕ) (xs : List ℕ) (boxes : Boxes) → Given xs boxes → d < length xs → IsFixpointAt a d xs boxes
at_all a zero xs boxes g lt = at_step a 0 xs boxes g lt (nothing_behind a xs boxes g.some)
at_all a (suc d) xs boxes g lt = at_step a (suc d) xs boxes g lt (one_behind a d xs boxes (at_all (a +ℤ pos 1) d xs boxes g (omega arith)))

pub at_fixpoint : (xs : List ℕ) (boxes : Boxes) → All (λ s. IsValid s) boxes → ((x : ℕ) → x < length boxes → is_nil (box_of boxes x) ≡ false) → All (λ x. x < length boxes) xs → AreAlone xs xs boxes → AreSwept xs xs boxes → AreAtFixpoint xs xs boxes
at_fixpoint xs boxes sets some named alone swept k d lt narrow e less =
    at_all _ e xs boxes (record { some = record { sets = sets; some = some; named = named }; alone = alone; swept = swept }) less
