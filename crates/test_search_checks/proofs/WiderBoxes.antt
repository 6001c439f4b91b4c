-- Boxes that are changed at one variable, and boxes that have become wider.
use Rattle.std.proofs.Common.{◌≡◌, true, false, ℕ, zero, suc, ◌-◌, ◌<◌, ◌≤◌, List, [], ◌∷◌, ◌++◌, length, refl, sym, ap, ◌∙◌, arith, inl, inr, subst, slice_set, map}
use Rattle.std.proofs.lemmas.List.{length-map, length-set, length_push, get_or_past, get_or-set_other, get_or-set_same, get_or_append_left, get_or-append_right}
use Rattle.std.proofs.lemmas.Int.{ints}
use Rattle.std.proofs.lemmas.List.Elements.{All-get_or}
use Rattle.std.proofs.lemmas.Bool.{cases_lt, cases_eq}
use Rattle.std.specs.List.{All}
use Rattle.signed_clause.specs.Ranges.{Ranges, IsValid, IsSubset, is_nil}
use Rattle.signed_clause.specs.SetAlgebra.{is_within}
use Rattle.signed_clause.proofs.SetFacts.{within_law}
use Rattle.signed_clause.specs.Clauses.{Boxes, Literals, box_of}
use Rattle.clause_watches.specs.declared.rest.Rest.{Rest}
use Rattle.clause_watches.specs.declared.rest.Rest.TheVariants.{Listed}
use Rattle.clause_watches.specs.Watching.{clause_of, rest_of, IsKnown, DifferAt, NarrowsAt, WidensAt}
use Rattle.fd_store.specs.Undo.{AreWider}

valid_boxes : (boxes : Boxes) → All (λ s. IsValid s) boxes → (x : ℕ) → IsValid (box_of boxes x)
valid_boxes boxes a x =
    elim (cases_lt x (length boxes)) [
      | inl lt ↦ All-get_or (λ s. IsValid s) boxes x [] lt a
      | inr le ↦
          let none : IsValid [] = omega (arith, ints) in
          subst IsValid (sym (get_or_past boxes x [] le)) none
    ]

pub other_set : (boxes : Boxes) (x : ℕ) (set : Ranges) → DifferAt x boxes (slice_set boxes x set)
other_set boxes x set y h = sym (get_or-set_other boxes x y set [] h)

own_set : (boxes : Boxes) (x : ℕ) (set : Ranges) → x < length boxes →
    box_of (slice_set boxes x set) x ≡ set
own_set boxes x set lt = get_or-set_same boxes x set [] lt

-- a part of the box comes in its place
pub narrows_set : (boxes news : Boxes) (x : ℕ) (set at : Ranges) → news ≡ slice_set boxes x set →
    x < length boxes → at ≡ box_of boxes x → is_nil set ≡ false → is_within set at ≡ true →
    IsValid at → IsValid set → NarrowsAt x boxes news
narrows_set boxes news x set at e lt is some within f g =
    let own = own_set boxes x set lt in
    subst (λ (n : Boxes). NarrowsAt x boxes n) (sym e) (record {
      others = other_set boxes x set;
      before_valid = subst IsValid is f;
      after_valid = subst IsValid (sym own) g;
      some = subst (λ (s : Ranges). is_nil s ≡ false) (sym own) some;
      within = subst (λ (s : Ranges). IsSubset s (box_of boxes x)) (sym own)
          (subst (λ (b : Ranges). IsSubset set b) is ((within_law set at g f).0 within));
    })

-- a set with all of its values does
pub widens_set : (boxes news : Boxes) (x : ℕ) (set at : Ranges) → news ≡ slice_set boxes x set →
    x < length boxes → at ≡ box_of boxes x → IsSubset at set → IsValid at → IsValid set →
    WidensAt x boxes news
widens_set boxes news x set at e lt is within f g =
    let own = own_set boxes x set lt in
    subst (λ (n : Boxes). WidensAt x boxes n) (sym e) (record {
      others = other_set boxes x set;
      before_valid = subst IsValid is f;
      after_valid = subst IsValid (sym own) g;
      within = subst (λ (s : Ranges). IsSubset (box_of boxes x) s) (sym own)
          (subst (λ (b : Ranges). IsSubset b set) is within);
    })

pub wider_made : (small large : Boxes) → length small ≡ length large →
    All (λ s. IsValid s) small → All (λ s. IsValid s) large →
    ((y : ℕ) → y < length small → IsSubset (box_of small y) (box_of large y)) →
    AreWider small large
wider_made small large e a b h = record {
  small_valid = valid_boxes small a;
  large_valid = valid_boxes large b;
  within = λ x.
      elim (cases_lt x (length small)) [
        | inl lt ↦ h x lt
        | inr le ↦
            let none : IsSubset [] (box_of large x) = λ v t. absurd (cc) in
            subst (λ (s : Ranges). IsSubset s (box_of large x)) (sym (get_or_past small x [] le)) none
      ];
}

listed_alone : (k : ℕ) → rest_of (Listed ∷ []) k ≡ Listed
listed_alone zero = refl
listed_alone (suc k) = refl

-- with one clause more, which is listed
pub fits_added : (boxes : Boxes) (added news : List (ℕ × Literals)) (rests more : List Rest)
    (a : ℕ × Literals) → length added ≡ length rests →
    ((i : ℕ) → IsKnown boxes (clause_of added i) (rest_of rests i)) →
    news ≡ added ++ a ∷ [] → more ≡ rests ++ Listed ∷ [] →
    (i : ℕ) → IsKnown boxes (clause_of news i) (rest_of more i)
fits_added boxes added news rests more a e h p q i =
    elim (cases_lt i (length rests)) [
      | inl lt ↦
          let clause : clause_of news i ≡ clause_of added i =
          ap (λ (xs : List (ℕ × Literals)). clause_of xs i) p
          ∙ ap (λ (z : ℕ × Literals). z.1)
          (get_or_append_left added (a ∷ []) (0, []) i (omega (arith, e))) in
          let rest : rest_of more i ≡ rest_of rests i =
          ap (λ (rs : List Rest). rest_of rs i) q
          ∙ get_or_append_left rests (Listed ∷ []) Listed i lt in
          subst (λ (c : Literals). IsKnown boxes c (rest_of more i)) (sym clause)
          (subst (λ (r : Rest). IsKnown boxes (clause_of added i) r) (sym rest) (h i))
      | inr le ↦
          let here : rest_of more i ≡ Listed =
          ap (λ (r : List Rest). rest_of r i) q
          ∙ get_or-append_right rests (Listed ∷ []) (length rests) i Listed refl le
          ∙ listed_alone (i - length rests) in
          subst (λ (r : Rest). IsKnown boxes (clause_of news i) r) (sym here) tt
    ]

-- a rest for each clause, where each rest is made another
pub count_mapped : (added news : List (ℕ × Literals)) (rests more : List Rest)
    (f : Rest → Rest) → length added ≡ length rests → news ≡ added → more ≡ map f rests →
    length news ≡ length more
count_mapped added news rests more f e p q =
    ap (λ (xs : List (ℕ × Literals)). length xs) p ∙ e ∙ sym (length-map rests f)
    ∙ ap (λ (rs : List Rest). length rs) (sym q)

pub count_kept : (added news : List (ℕ × Literals)) (rests more : List Rest) →
    length added ≡ length rests → news ≡ added → length more ≡ length rests →
    length news ≡ length more
count_kept added news rests more e p q =
    ap (λ (xs : List (ℕ × Literals)). length xs) p ∙ e ∙ sym q

pub widens_within : (boxes news : Boxes) (x : ℕ) (set at : Ranges) → news ≡ slice_set boxes x set →
    x < length boxes → at ≡ box_of boxes x → is_within at set ≡ true → IsValid at → IsValid set →
    WidensAt x boxes news
widens_within boxes news x set at e lt is within f g =
    widens_set boxes news x set at e lt is ((within_law at set f g).0 within) f g

-- ---- boxes that are taken over from the last one on

-- those from k on are the wider ones, and k of the wider ones are left
pub record AreTaken (before boxes wider left : Boxes) : Type 0 where
  pub size : length boxes ≡ length before
  pub shorter : length left ≤ length wider
  pub front : (y : ℕ) → y < length left → box_of left y ≡ box_of wider y
  pub kept : (y : ℕ) → y < length left → box_of boxes y ≡ box_of before y
  pub taken : (y : ℕ) → length left ≤ y → box_of boxes y ≡ box_of wider y

pub none_taken : (before wider : Boxes) → length before ≡ length wider →
    AreTaken before before wider wider
none_taken before wider e = record {
  size = refl;
  shorter = omega arith;
  front = λ y h. refl;
  kept = λ y h. refl;
  taken = λ y h. get_or_past before y [] (omega (arith, e)) ∙ sym (get_or_past wider y [] h);
}

last_own : (left : Boxes) (set : Ranges) → box_of (left ++ set ∷ []) (length left) ≡ set
last_own [] set = refl
last_own (b ∷ bs) set = last_own bs set

pub last_is : (left more wider : Boxes) (set : Ranges) → more ≡ left ++ set ∷ [] →
    ((y : ℕ) → y < length more → box_of more y ≡ box_of wider y) →
    set ≡ box_of wider (length left)
last_is left more wider set e front =
    let size = length_push left set in
    let long = ap (λ (l : Boxes). length l) e in
    sym (last_own left set) ∙ ap (λ (l : Boxes). box_of l (length left)) (sym e)
    ∙ front (length left) (omega (arith, size, long))

pub one_taken : (before boxes news wider left more : Boxes) (set : Ranges) →
    more ≡ left ++ set ∷ [] → length before ≡ length wider →
    news ≡ slice_set boxes (length left) set → AreTaken before boxes wider more →
    AreTaken before news wider left
one_taken before boxes news wider left more set e same is t =
    let size = length_push left set in
    let long = ap (λ (l : Boxes). length l) e in
    let short = t.shorter in
    let all = t.size in
    let one = ap (λ (l : Boxes). length l) is in
    let kept_size = length-set boxes (length left) set in
    let last = last_is left more wider set e t.front in
    record {
      size = one ∙ kept_size ∙ all;
      shorter = omega (arith, size, long, short);
      front = λ y h. sym (get_or_append_left left (set ∷ []) [] y h)
          ∙ ap (λ (l : Boxes). box_of l y) (sym e) ∙ t.front y (omega (arith, size, long, h));
      kept = λ y h. ap (λ (b : Boxes). box_of b y) is
          ∙ get_or-set_other boxes (length left) y set [] (omega (arith, h))
          ∙ t.kept y (omega (arith, size, long, h));
      taken = λ y h. elim (cases_eq y (length left)) [
        | inl at ↦ ap (λ (b : Boxes). box_of b y) is
            ∙ ap (λ (z : ℕ). box_of (slice_set boxes (length left) set) z) at
            ∙ own_set boxes (length left) set (omega (arith, size, long, short, all, same))
            ∙ last ∙ ap (λ (z : ℕ). box_of wider z) (sym at)
        | inr other ↦ ap (λ (b : Boxes). box_of b y) is
            ∙ get_or-set_other boxes (length left) y set [] other
            ∙ t.taken y (omega (arith, size, long, h, other))
      ];
    }

same_boxes : (a b : Boxes) → length a ≡ length b → ((y : ℕ) → box_of a y ≡ box_of b y) → a ≡ b
same_boxes [] [] e h = refl
same_boxes [] (b ∷ bs) e h = absurd (omega arith)
same_boxes (c ∷ cs) [] e h = absurd (omega arith)
same_boxes (c ∷ cs) (b ∷ bs) e h =
    let first : c ≡ b = h 0 in
    let more = same_boxes cs bs (omega (arith, e)) (λ y. h (suc y)) in rw (first, more) refl

pub all_taken : (before boxes wider : Boxes) → length before ≡ length wider →
    AreTaken before boxes wider [] → boxes ≡ wider
all_taken before boxes wider e t =
    same_boxes boxes wider (t.size ∙ e) (λ y. t.taken y (omega arith))

-- the box that is taken over is a wider one
pub taken_wider : (before boxes news wider left more : Boxes) (set : Ranges) →
    more ≡ left ++ set ∷ [] → length before ≡ length wider →
    news ≡ slice_set boxes (length left) set → AreTaken before boxes wider more →
    AreWider before wider → WidensAt (length left) boxes news
taken_wider before boxes news wider left more set e same is t wide =
    let size = length_push left set in
    let long = ap (λ (l : Boxes). length l) e in
    let short = t.shorter in
    let all = t.size in
    let x = length left in
    let last = last_is left more wider set e t.front in
    let was = t.kept x (omega (arith, size, long)) in
    widens_set boxes news x set (box_of boxes x) is
    (omega (arith, size, long, short, all, same)) refl
    (subst (λ (s : Ranges). IsSubset s set) (sym was)
    (subst (λ (s : Ranges). IsSubset (box_of before x) s) (sym last) (wide.within x)))
    (subst IsValid (sym was) (wide.small_valid x))
    (subst IsValid (sym last) (wide.large_valid x))
