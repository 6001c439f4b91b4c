-- Where an open variable that stands once stands.
use Rattle.std.proofs.Common.{◌≡◌, ℕ, true, false, not, ◌&&◌, cond, List, [], ◌∷◌, ◌++◌, refl, arith, inl, inr, subst, sym, ap}
use Rattle.std.specs.Prelude.{◌==◌}
use Rattle.std.proofs.lemmas.Bool.{and_parts, or_cases, false_from_ne_true}
use Rattle.std.proofs.lemmas.Bool.Decides.{nat_tests}
use Rattle.signed_clause.specs.Clauses.{Boxes, box_of}
use Rattle.ground_form.specs.Meaning.{item_vars}
use Rattle.rule_law.specs.Reasons.{has_number, no_repeat}
use Rattle.rule_law.specs.Repeats.{is_one, open_one}
use Rattle.pack_fit.specs.Packing.{opens}

-- which of the item's variables it is
pub data Role (x : ℕ) (i : ℕ × ℕ × ℕ) : Type 0 where
  Bin : i.0 ≡ x → (i.1 == x) ≡ false → (i.2 == x) ≡ false → Role x i
  Size : (i.0 == x) ≡ false → i.1 ≡ x → (i.2 == x) ≡ false → Role x i
  Room : (i.0 == x) ≡ false → (i.1 == x) ≡ false → i.2 ≡ x → Role x i

-- in one role of one item, and nowhere else
pub record Spot (x : ℕ) (items : List (ℕ × ℕ × ℕ)) : Type 0 where
  pub front : List (ℕ × ℕ × ℕ)
  pub item : ℕ × ℕ × ℕ
  pub back : List (ℕ × ℕ × ℕ)
  pub is : items ≡ front ++ item ∷ back
  pub role : Role x item
  pub not_front : has_number x (item_vars front) ≡ false
  pub not_back : has_number x (item_vars back) ≡ false

-- ---- open variables

one_has : (x y : ℕ) (boxes : Boxes) (rest : List ℕ) → has_number x rest ≡ true → has_number x (open_one y boxes rest) ≡ true
one_has x y boxes rest h = elim (is_one (box_of boxes y)) as (λ t. has_number x (cond t rest (y ∷ rest)) ≡ true) [ true ↦ h | false ↦ grind arith ]

one_here : (x y : ℕ) (boxes : Boxes) (rest : List ℕ) → is_one (box_of boxes x) ≡ false → (y == x) ≡ true → has_number x (open_one y boxes rest) ≡ true
one_here x y boxes rest o e =
    let same : y ≡ x = grind (arith, nat_tests) in
    let open_y : is_one (box_of boxes y) ≡ false = subst (λ (z : ℕ). is_one (box_of boxes z) ≡ false) (sym same) o in rw (open_y, e) refl

opens_has : (x : ℕ) (is : List (ℕ × ℕ × ℕ)) (boxes : Boxes) → is_one (box_of boxes x) ≡ false → has_number x (item_vars is) ≡ true → has_number x (opens is boxes) ≡ true
opens_has x [] boxes o h = absurd (grind arith)
opens_has x (i ∷ is) boxes o h =
    let two = open_one i.2 boxes (opens is boxes) in let one = open_one i.1 boxes two in
    elim (or_cases (i.0 == x) (has_number x (i.1 ∷ i.2 ∷ item_vars is)) h) [
      | inl e ↦ one_here x i.0 boxes one o e
      | inr k ↦ one_has x i.0 boxes one (elim (or_cases (i.1 == x) (has_number x (i.2 ∷ item_vars is)) k) [
        | inl e ↦ one_here x i.1 boxes two o e
        | inr l ↦ one_has x i.1 boxes two (elim (or_cases (i.2 == x) (has_number x (item_vars is)) l) [
          | inl e ↦ one_here x i.2 boxes (opens is boxes) o e
          | inr m ↦ one_has x i.2 boxes (opens is boxes) (opens_has x is boxes o m)
        ])
      ])
    ]

-- what stands before an open variable isn't behind it
once_here : (x : ℕ) (boxes : Boxes) (rest : List ℕ) → is_one (box_of boxes x) ≡ false → no_repeat (open_one x boxes rest) ≡ true → (has_number x rest ≡ false) × (no_repeat rest ≡ true)
once_here x boxes rest o h =
    let k : (not (has_number x rest) && no_repeat rest) ≡ true = rw o at h in
    let p = and_parts (not (has_number x rest)) (no_repeat rest) k in (grind arith, p.1)

once_rest : (y : ℕ) (boxes : Boxes) (rest : List ℕ) → no_repeat (open_one y boxes rest) ≡ true → no_repeat rest ≡ true
once_rest y boxes rest = elim (is_one (box_of boxes y)) as (λ t. no_repeat (cond t rest (y ∷ rest)) ≡ true → no_repeat rest ≡ true) [ true ↦ λ h. h | false ↦ λ h. (and_parts (not (has_number y rest)) (no_repeat rest) h).1 ]

-- a variable that isn't among the open ones is none of them
not_one : (x y : ℕ) (boxes : Boxes) (rest : List ℕ) → is_one (box_of boxes x) ≡ false → has_number x (open_one y boxes rest) ≡ false → ((y == x) ≡ false) × (has_number x rest ≡ false)
not_one x y boxes rest o h =
    (false_from_ne_true (y == x) (λ q. let there = one_here x y boxes rest o q in absurd cc), false_from_ne_true (has_number x rest) (λ q. let there = one_has x y boxes rest q in absurd cc))

not_opens : (x : ℕ) (is : List (ℕ × ℕ × ℕ)) (boxes : Boxes) → is_one (box_of boxes x) ≡ false → has_number x (opens is boxes) ≡ false → has_number x (item_vars is) ≡ false
not_opens x is boxes o h = false_from_ne_true (has_number x (item_vars is)) (λ q. let there = opens_has x is boxes o q in absurd cc)

-- ---- the spot

here : (x : ℕ) (i : ℕ × ℕ × ℕ) (is : List (ℕ × ℕ × ℕ)) → Role x i → has_number x (item_vars is) ≡ false → Spot x (i ∷ is)
here x i is r n = record { front = []; item = i; back = is; is = refl; role = r; not_front = refl; not_back = n }

later : (x : ℕ) (i : ℕ × ℕ × ℕ) (is : List (ℕ × ℕ × ℕ)) → (i.0 == x) ≡ false → (i.1 == x) ≡ false → (i.2 == x) ≡ false → Spot x is → Spot x (i ∷ is)
later x i is a b c s = record { front = i ∷ s.front; item = s.item; back = s.back; is = ap (λ (z : List (ℕ × ℕ × ℕ)). i ∷ z) s.is; role = s.role; not_front = let n = s.not_front in grind arith; not_back = s.not_back }

pub spot : (x : ℕ) (items : List (ℕ × ℕ × ℕ)) (boxes : Boxes) → is_one (box_of boxes x) ≡ false → no_repeat (opens items boxes) ≡ true → has_number x (item_vars items) ≡ true → Spot x items
spot x [] boxes o n h = absurd (grind arith)
spot x (i ∷ is) boxes o n h =
    let two = open_one i.2 boxes (opens is boxes) in let one = open_one i.1 boxes two in
    (elim (i.0 == x) as (λ t. (i.0 == x) ≡ t → Spot x (i ∷ is)) [
      | true ↦ λ e.
          let same : i.0 ≡ x = grind (arith, nat_tests) in
          let at : no_repeat (open_one x boxes one) ≡ true = subst (λ (z : ℕ). no_repeat (open_one z boxes one) ≡ true) same n in
          let none = not_one x i.1 boxes two o (once_here x boxes one o at).0 in
          let more = not_one x i.2 boxes (opens is boxes) o none.1 in
          here x i is (Bin same none.0 more.0) (not_opens x is boxes o more.1)
      | false ↦ λ e.
          let n1 = once_rest i.0 boxes one n in
          (elim (i.1 == x) as (λ t. (i.1 == x) ≡ t → Spot x (i ∷ is)) [
            | true ↦ λ f.
                let same : i.1 ≡ x = grind (arith, nat_tests) in
                let at : no_repeat (open_one x boxes two) ≡ true = subst (λ (z : ℕ). no_repeat (open_one z boxes two) ≡ true) same n1 in
                let more = not_one x i.2 boxes (opens is boxes) o (once_here x boxes two o at).0 in
                here x i is (Size e same more.0) (not_opens x is boxes o more.1)
            | false ↦ λ f.
                let n2 = once_rest i.1 boxes two n1 in
                (elim (i.2 == x) as (λ t. (i.2 == x) ≡ t → Spot x (i ∷ is)) [
                  | true ↦ λ g.
                      let same : i.2 ≡ x = grind (arith, nat_tests) in
                      let at : no_repeat (open_one x boxes (opens is boxes)) ≡ true = subst (λ (z : ℕ). no_repeat (open_one z boxes (opens is boxes)) ≡ true) same n2 in
                      here x i is (Room e f same) (not_opens x is boxes o (once_here x boxes (opens is boxes) o at).0)
                  | false ↦ λ g. later x i is e f g (spot x is boxes o (once_rest i.2 boxes (opens is boxes) n2) (let k = h in grind arith))
                ]) refl
          ]) refl
    ]) refl
