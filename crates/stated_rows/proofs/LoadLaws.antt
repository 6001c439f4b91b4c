-- Loads that are put among others, and loads that are fewer.
use Rattle.std.proofs.Common.{Bool, Option, None, Some, IfSome, ◌≡◌, ℕ, ◌+◌, ◌<◌, ◌≤◌, true, false, cond, List, [], ◌∷◌, ◌++◌, ℤ, pos, ◌+ℤ◌, ◌-ℤ◌, ◌*ℤ◌, ◌≤ℤ◌, length, take, drop, get_or, refl, sym, ap, ◌∙◌, subst, arith}
use Rattle.std.specs.Ordering.{int_eq}
use Rattle.std.proofs.lemmas.Int.{ints}
use Rattle.std.proofs.lemmas.List.{take-append-drop, take_more, take_all}
use Rattle.ground_form.specs.Meaning.{value_of, sum_at}
use Rattle.form_build.specs.Worlds.{AllHold}
use Rattle.packed_rows.specs.Loads.{load_of}
use Rattle.packed_rows.proofs.PackedLaws.{items_behind}
use Rattle.stated_rows.specs.declared.shares.Share.{Share}
use Rattle.stated_rows.specs.declared.shares.Share.TheVariants.{Load}
use Rattle.ground_form.specs.declared.ground.Ground.{Ground}
use Rattle.ground_form.specs.declared.sums.Number.{Number}
use Rattle.stated_rows.specs.Following.{share_at, IsShareOf, IsBelow}

-- what one load adds
abbrev own : ℤ → ℕ × ℤ → List ℤ → ℤ
own bin l a = cond (int_eq (value_of a l.0) bin) l.1 (pos 0)

first_load : (bin : ℤ) (l : ℕ × ℤ) (ls : List (ℕ × ℤ)) (a : List ℤ) → load_of bin (l ∷ ls) a ≡ (own bin l a +ℤ load_of bin ls a)
first_load bin l ls a = elim (int_eq (value_of a l.0) bin) as (λ b. cond b (l.1 +ℤ load_of bin ls a) (load_of bin ls a) ≡ (cond b l.1 (pos 0) +ℤ load_of bin ls a)) [
  | true ↦ refl
  | false ↦ omega (arith, ints)
]

-- a load that is put somewhere counts as in front
pub put_anywhere : (bin : ℤ) (l : ℕ × ℤ) (ls next : List (ℕ × ℤ)) (i : ℕ) (a : List ℤ) → next ≡ take i ls ++ l ∷ drop i ls → load_of bin next a ≡ load_of bin (l ∷ ls) a
put_anywhere bin l ls next i a is =
    let front = load_of bin (take i ls) a in
    let back = load_of bin (drop i ls) a in
    let whole : load_of bin ls a ≡ (front +ℤ back) = ap (λ (z : List (ℕ × ℤ)). load_of bin z a) (sym (take-append-drop i ls)) ∙ items_behind bin (take i ls) (drop i ls) a in
    let parts : load_of bin next a ≡ (front +ℤ load_of bin (l ∷ drop i ls) a) = ap (λ (z : List (ℕ × ℤ)). load_of bin z a) is ∙ items_behind bin (take i ls) (l ∷ drop i ls) a in
    let here = first_load bin l (drop i ls) a in
    let there = first_load bin l ls a in
    omega (arith, ints, whole, parts, here, there)

-- ---- fewer loads

pub fewer_behind : (bin : ℤ) (first load : ℕ × ℤ) (rest : List (ℕ × ℤ)) (a : List ℤ) → first.0 ≡ load.0 → first.1 ≤ℤ load.1 → load_of bin (first ∷ rest) a ≤ℤ load_of bin (load ∷ rest) a
fewer_behind bin first load rest a same le =
    let one = first_load bin first rest a in
    let other = first_load bin load rest a in
    let less : own bin first a ≤ℤ own bin load a = subst (λ (x : ℕ). cond (int_eq (value_of a x) bin) first.1 (pos 0) ≤ℤ own bin load a) (sym same)
    (elim (int_eq (value_of a load.0) bin) as (λ b. cond b first.1 (pos 0) ≤ℤ cond b load.1 (pos 0)) [
      | true ↦ le
      | false ↦ omega (arith, ints)
    ]) in
    omega (arith, ints, one, other, less)

own_some : (bin : ℤ) (l : ℕ × ℤ) (a : List ℤ) → pos 0 ≤ℤ l.1 → pos 0 ≤ℤ own bin l a
own_some bin l a h = elim (int_eq (value_of a l.0) bin) as (λ b. pos 0 ≤ℤ cond b l.1 (pos 0)) [
  | true ↦ h
  | false ↦ omega (arith, ints)
]

-- the fewer loads are at most the first ones and what is left of the fewer
abbrev pub AreWithin : List (ℕ × ℤ) → List (ℕ × ℤ) → ℕ → List (ℕ × ℤ) → Type 0
AreWithin loads fewer i rest =
    (bin : ℤ) (a : List ℤ) → load_of bin fewer a ≤ℤ (load_of bin (take i loads) a +ℤ load_of bin rest a)

one_more : (bin : ℤ) (loads : List (ℕ × ℤ)) (i : ℕ) (d l : ℕ × ℤ) (a : List ℤ) → i < length loads → l ≡ get_or loads i d → load_of bin (take (i + 1) loads) a ≡ (load_of bin (take i loads) a +ℤ own bin l a)
one_more bin loads i d l a lt is =
    let split = take_more loads i d lt in
    let at : take (i + 1) loads ≡ take i loads ++ l ∷ [] = split ∙ ap (λ (z : ℕ × ℤ). take i loads ++ z ∷ []) (sym is) in
    let parts = ap (λ (z : List (ℕ × ℤ)). load_of bin z a) at ∙ items_behind bin (take i loads) (l ∷ []) a in
    let here = first_load bin l [] a in
    omega (arith, ints, parts, here)

pub within_start : (loads fewer : List (ℕ × ℤ)) → AreWithin loads fewer 0 fewer
within_start loads fewer bin a = omega (arith, ints)

pub within_both : (loads fewer rest more : List (ℕ × ℤ)) (i : ℕ) (d l : ℕ × ℤ) → i < length loads → l ≡ get_or loads i d → ((bin : ℤ) (a : List ℤ) → load_of bin rest a ≤ℤ load_of bin (l ∷ more) a) → AreWithin loads fewer i rest → AreWithin loads fewer (i + 1) more
within_both loads fewer rest more i d l lt is le before bin a =
    let next = one_more bin loads i d l a lt is in
    let here = first_load bin l more a in
    let step = le bin a in
    let h = before bin a in
    omega (arith, ints, next, here, step, h)

pub within_one : (loads fewer rest : List (ℕ × ℤ)) (i : ℕ) (d l : ℕ × ℤ) → i < length loads → l ≡ get_or loads i d → pos 0 ≤ℤ l.1 → AreWithin loads fewer i rest → AreWithin loads fewer (i + 1) rest
within_one loads fewer rest i d l lt is some before bin a =
    let next = one_more bin loads i d l a lt is in
    let more = own_some bin l a some in
    let h = before bin a in
    omega (arith, ints, next, more, h)

pub within_end : (loads fewer rest : List (ℕ × ℤ)) (i : ℕ) → length loads ≤ i → rest ≡ [] → AreWithin loads fewer i rest → (bin : ℤ) (a : List ℤ) → load_of bin fewer a ≤ℤ load_of bin loads a
within_end loads fewer rest i past none before bin a =
    let all = ap (λ (z : List (ℕ × ℤ)). load_of bin z a) (take_all i loads past) in
    let empty = ap (λ (z : List (ℕ × ℤ)). load_of bin z a) none in
    let h = before bin a in
    omega (arith, ints, all, empty, h)

-- ---- room for all

-- the first loads and what is left are at most the room
abbrev pub HasLeft : List (ℕ × ℤ) → ℤ → ℕ → ℤ → Type 0
HasLeft loads room i left = (bin : ℤ) (a : List ℤ) → (load_of bin (take i loads) a +ℤ left) ≤ℤ room

pub left_start : (loads : List (ℕ × ℤ)) (room : ℤ) → HasLeft loads room 0 room
left_start loads room bin a = omega (arith, ints)

pub left_next : (loads : List (ℕ × ℤ)) (room left rest : ℤ) (i : ℕ) (d l : ℕ × ℤ) → i < length loads → l ≡ get_or loads i d → pos 0 ≤ℤ l.1 → rest ≡ (left -ℤ l.1) → HasLeft loads room i left → HasLeft loads room (i + 1) rest
left_next loads room left rest i d l lt is some less before bin a =
    let next = one_more bin loads i d l a lt is in
    let most : own bin l a ≤ℤ l.1 = elim (int_eq (value_of a l.0) bin) as (λ b. cond b l.1 (pos 0) ≤ℤ l.1) [
      | true ↦ omega (arith, ints)
      | false ↦ some
    ] in
    let h = before bin a in
    omega (arith, ints, next, most, less, h)

pub left_end : (loads : List (ℕ × ℤ)) (room left : ℤ) (i : ℕ) → length loads ≤ i → pos 0 ≤ℤ left → HasLeft loads room i left → (bin : ℤ) (a : List ℤ) → load_of bin loads a ≤ℤ room
left_end loads room left i past some before bin a =
    let all = ap (λ (z : List (ℕ × ℤ)). load_of bin z a) (take_all i loads past) in
    let h = before bin a in
    omega (arith, ints, all, some, h)

-- ---- loads that are elsewhere

-- of the first loads none is in the bin
abbrev pub AreElsewhere : Ground → ℤ → List (ℕ × ℤ) → ℕ → Type 0
AreElsewhere g bin loads i = (a : List ℤ) → AllHold g a → load_of bin (take i loads) a ≡ pos 0

pub elsewhere_next : (g : Ground) (bin : ℤ) (loads : List (ℕ × ℤ)) (i : ℕ) (d l : ℕ × ℤ) → i < length loads → l ≡ get_or loads i d → ((a : List ℤ) → AllHold g a → int_eq (value_of a l.0) bin ≡ false) → AreElsewhere g bin loads i → AreElsewhere g bin loads (i + 1)
elsewhere_next g bin loads i d l lt is other before a all =
    let next = one_more bin loads i d l a lt is in
    let none : own bin l a ≡ pos 0 = ap (λ (b : Bool). cond b l.1 (pos 0)) (other a all) in
    let h = before a all in
    omega (arith, ints, next, none, h)

pub elsewhere_end : (g : Ground) (bin : ℤ) (loads : List (ℕ × ℤ)) (i : ℕ) → length loads ≤ i → AreElsewhere g bin loads i → (a : List ℤ) → AllHold g a → load_of bin loads a ≡ pos 0
elsewhere_end g bin loads i past before a all = ap (λ (z : List (ℕ × ℤ)). load_of bin z a) (sym (take_all i loads past)) ∙ before a all

-- of one load more none is in the bin
pub told_next : (bin : ℤ) (loads : List (ℕ × ℤ)) (i : ℕ) (d l : ℕ × ℤ) (a : List ℤ) → i < length loads → l ≡ get_or loads i d → int_eq (value_of a l.0) bin ≡ false → load_of bin (take i loads) a ≡ pos 0 → load_of bin (take (i + 1) loads) a ≡ pos 0
told_next bin loads i d l a lt is other h =
    let next = one_more bin loads i d l a lt is in
    let none : own bin l a ≡ pos 0 = ap (λ (b : Bool). cond b l.1 (pos 0)) other in
    omega (arith, ints, next, none, h)

-- ---- terms

-- with one load more
pub share_more : (bin : ℤ) (s : Share) (x : ℕ) (size : Number) (old next : List (ℕ × ℤ)) (least : ℤ) (a : List ℤ) → s ≡ Load x size → load_of bin next a ≡ load_of bin ((x, size.value) ∷ old) a → (load_of bin next a +ℤ least) ≡ ((load_of bin old a +ℤ least) +ℤ share_at bin s a)
share_more bin s x size old next least a is e =
    let here = first_load bin (x, size.value) old a in
    let adds : share_at bin s a ≡ own bin (x, size.value) a = ap (λ (z : Share). share_at bin z a) is in
    omega (arith, ints, e, here, adds)

sum_behind : (terms : List (ℤ × ℕ)) (t : ℤ × ℕ) (a : List ℤ) → sum_at (terms ++ t ∷ []) a ≡ (sum_at terms a +ℤ (t.0 *ℤ value_of a t.1))
sum_behind [] t a = omega (arith, ints)
sum_behind (u ∷ terms) t a =
    let rest = sum_behind terms t a in
    omega (arith, ints, rest)

-- with one term more
pub term_more : (g : Ground) (bin : ℤ) (s : Share) (t : ℤ × ℕ) (old next : List (ℕ × ℤ)) (least more : ℤ) → IsShareOf g bin t s → ((a : List ℤ) → (load_of bin next a +ℤ more) ≡ ((load_of bin old a +ℤ least) +ℤ share_at bin s a)) →
    (terms : List (ℤ × ℕ)) → IsBelow g bin old least terms → IsBelow g bin next more (terms ++ t ∷ [])
term_more g bin s t old next least more share sum terms below a w all =
    let one = share a w all in
    let both = sum a in
    let before = below a w all in
    let whole = sum_behind terms t a in
    omega (arith, ints, one, both, before, whole)

pub if_some : {X : Type 0} (P Q : X → Type 0) (o : Option X) → ((x : X) → P x → Q x) → IfSome o P → IfSome o Q
if_some P Q None f h = h
if_some P Q (Some x) f h = f x h
