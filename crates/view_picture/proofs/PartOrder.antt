-- Parts ascend where the leaves' paths do, so none stands twice, and so do holders.
use Rattle.std.proofs.Common.{◌≡◌, ℕ, zero, suc, List, [], ◌∷◌, ◌++◌, Bool, true, false, drop, map, Ordering, Less, Equal, Greater, refl, sym, ap, ◌∙◌, subst}
use Rattle.std.specs.Cmp.{tied_itself}
use Rattle.std.specs.List.{AllByRecursion, flat_map}
use Rattle.std.specs.List.Sorted.{IsStrictlySortedBy}
use Rattle.std.specs.Ordering.{ordering_then, is_eq}
use Rattle.serde_json.specs.Data.{Data}
use Rattle.view_leaves.specs.Ascending.{IsAscending, paths}
use Rattle.view_leaves.specs.Leaves.{PathLeaf}
use Rattle.view_leaves.specs.Paths.{PathStep, Path, step_cmp, path_cmp}
use Rattle.view_leaves.proofs.PathOrder.{step_total, path_total}
use Rattle.view_picture.specs.Parts.{shared, ways, parts_behind, parts}
use Rattle.view_picture.specs.Picture.{PictureHolding, PictureSize, if_held, guests_at, holdings_among, holders}

abbrev AllBehind : Path → List Path → Type 0
AllBehind p qs = AllByRecursion (λ q. path_cmp p q ≡ Less) qs

-- whatever stands behind p stands behind x
abbrev AtMost : Path → Path → Type 0
AtMost p x = (y : Path) → path_cmp p y ≡ Less → path_cmp x y ≡ Less

-- ---- lists

all_both : (P : Path → Type 0) (ps qs : List Path) → AllByRecursion P ps → AllByRecursion P qs
    → AllByRecursion P (ps ++ qs)
all_both P [] qs h g = g
all_both P (p ∷ ps) qs h g = (h.0, all_both P ps qs h.1 g)

all_drop : (P : Path → Type 0) (k : ℕ) (ps : List Path) → AllByRecursion P ps
    → AllByRecursion P (drop k ps)
all_drop P zero ps h = h
all_drop P (suc k) [] h = h
all_drop P (suc k) (p ∷ ps) h = all_drop P k ps h.1

all_of : (P Q : Path → Type 0) → ((p : Path) → P p → Q p) → (ps : List Path) → AllByRecursion P ps
    → AllByRecursion Q ps
all_of P Q f [] h = tt
all_of P Q f (p ∷ ps) h = (f p h.0, all_of P Q f ps h.1)

all_mapped : (P Q : Path → Type 0) (g : Path → Path) → ((p : Path) → P p → Q (g p))
    → (ps : List Path) → AllByRecursion P ps → AllByRecursion Q (map g ps)
all_mapped P Q g f [] h = tt
all_mapped P Q g f (p ∷ ps) h = (f p h.0, all_mapped P Q g f ps h.1)

drop_mapped : (g : Path → Path) (k : ℕ) (ps : List Path) → drop k (map g ps) ≡ map g (drop k ps)
drop_mapped g zero ps = refl
drop_mapped g (suc k) [] = refl
drop_mapped g (suc k) (p ∷ ps) = drop_mapped g k ps

ascending_drop : (k : ℕ) (ps : List Path) → IsAscending ps → IsAscending (drop k ps)
unfolding IsStrictlySortedBy
ascending_drop zero ps h = h
ascending_drop (suc k) [] h = h
ascending_drop (suc k) (p ∷ ps) h = ascending_drop k ps h.1

-- a list whose elements are at most p, and one behind p
ascending_both : (p : Path) (xs ys : List Path) → IsAscending xs → IsAscending ys
    → AllByRecursion (AtMost p) xs → AllBehind p ys → IsAscending (xs ++ ys)
unfolding IsStrictlySortedBy
ascending_both p [] ys h g few more = g
ascending_both p (x ∷ xs) ys h g few more = (
  all_both (λ y. path_cmp x y ≡ Less) xs ys h.0 (all_of (λ y. path_cmp p y ≡ Less) (λ y. path_cmp x y ≡ Less) few.0 ys more),
  ascending_both p xs ys h.1 g few.1 more,
)

-- ---- the parts on one way

same_first : (s : PathStep) (p q : Path) → path_cmp (s ∷ p) (s ∷ q) ≡ path_cmp p q
same_first s p q = rw (tied_itself step_total s) refl

none_first : (s : PathStep) (qs : List Path) → AllByRecursion (λ q. path_cmp [] q ≡ Less) (map (λ q. s ∷ q) qs)
none_first s [] = tt
none_first s (q ∷ qs) = (refl, none_first s qs)

ways_behind_none : (p : Path) → AllBehind [] (ways p)
ways_behind_none [] = tt
ways_behind_none (s ∷ p) = (refl, none_first s (ways p))

mapped_ascend : (s : PathStep) (ps : List Path) → IsAscending ps
    → IsAscending (map (λ q. s ∷ q) ps)
unfolding IsStrictlySortedBy
mapped_ascend s [] h = tt
mapped_ascend s (p ∷ ps) h = (
  all_mapped (λ q. path_cmp p q ≡ Less) (λ q. path_cmp (s ∷ p) q ≡ Less) (λ q. s ∷ q)
      (λ q less. same_first s p q ∙ less) ps h.0,
  mapped_ascend s ps h.1,
)

ways_ascend : (p : Path) → IsAscending (ways p)
unfolding IsStrictlySortedBy
ways_ascend [] = tt
ways_ascend (s ∷ p) = (
  all_mapped (λ q. path_cmp [] q ≡ Less) (λ q. path_cmp (s ∷ []) q ≡ Less) (λ q. s ∷ q)
      (λ q less. same_first s [] q ∙ less) (ways p) (ways_behind_none p),
  mapped_ascend s (ways p) (ways_ascend p),
)

not_less : {A : Type 0} → Greater ≡ Less → A
not_less e = absurd cc

some_behind : (p y : Path) → path_cmp p y ≡ Less → path_cmp [] y ≡ Less
some_behind [] y h = h
some_behind (s ∷ p) [] h = not_less h
some_behind (s ∷ p) (t ∷ y) h = refl

then_less : (o : Ordering) (a b : Ordering) → (a ≡ Less → b ≡ Less) → ordering_then o a ≡ Less
    → ordering_then o b ≡ Less
then_less Less a b f h = refl
then_less Equal a b f h = f h
then_less Greater a b f h = not_less h

one_at_most : (s : PathStep) (p : Path) → AtMost (s ∷ p) (s ∷ [])
one_at_most s p [] h = not_less h
one_at_most s p (t ∷ y) h =
    then_less (step_cmp s t) (path_cmp p y) (path_cmp [] y) (some_behind p y) h

longer_at_most : (s : PathStep) (p x : Path) → AtMost p x → AtMost (s ∷ p) (s ∷ x)
longer_at_most s p x f [] h = not_less h
longer_at_most s p x f (t ∷ y) h = then_less (step_cmp s t) (path_cmp p y) (path_cmp x y) (f y) h

ways_at_most : (p : Path) → AllByRecursion (AtMost p) (ways p)
ways_at_most [] = tt
ways_at_most (s ∷ p) = (
  one_at_most s p,
  all_mapped (AtMost p) (AtMost (s ∷ p)) (λ q. s ∷ q) (longer_at_most s p) (ways p) (ways_at_most p),
)

-- ---- the parts of the next way

all_first : (s t : PathStep) (p : Path) (qs : List Path) → step_cmp s t ≡ Less
    → AllBehind (s ∷ p) (map (λ q. t ∷ q) qs)
all_first s t p [] h = tt
all_first s t p (q ∷ qs) h = (rw h refl, all_first s t p qs h)

less_rest : (o a : Ordering) → o ≡ Equal → ordering_then o a ≡ Less → a ≡ Less
less_rest Less a e h = absurd cc
less_rest Equal a e h = h
less_rest Greater a e h = absurd cc

first_greater : {A : Type 0} (o a : Ordering) → o ≡ Greater → ordering_then o a ≡ Less → A
first_greater Less a e h = absurd cc
first_greater Equal a e h = absurd cc
first_greater Greater a e h = not_less h

then_equal : (o a b : Ordering) → o ≡ Equal → a ≡ b → ordering_then o a ≡ b
then_equal Less a b e h = absurd cc
then_equal Equal a b e h = h
then_equal Greater a b e h = absurd cc

then_first : (o a : Ordering) → o ≡ Less → ordering_then o a ≡ Less
then_first Less a e = refl
then_first Equal a e = absurd cc
then_first Greater a e = absurd cc

new_by : (o : Ordering) (s t : PathStep) (p q : Path) → step_cmp s t ≡ o
    → (path_cmp p q ≡ Less → AllBehind p (drop (shared p q) (ways q)))
    → path_cmp (s ∷ p) (t ∷ q) ≡ Less
    → AllBehind (s ∷ p) (drop (shared (s ∷ p) (t ∷ q)) (ways (t ∷ q)))
new_by Less s t p q e more h =
    let none : shared (s ∷ p) (t ∷ q) ≡ 0 = rw e refl in
    rw none (then_first (step_cmp s t) (path_cmp p []) e, all_first s t p (ways q) e)
new_by Equal s t p q e more h =
    let one : shared (s ∷ p) (t ∷ q) ≡ suc (shared p q) = rw e refl in
    rw one (rw (drop_mapped (λ r. t ∷ r) (shared p q) (ways q))
    (all_mapped (λ r. path_cmp p r ≡ Less) (λ r. path_cmp (s ∷ p) r ≡ Less) (λ r. t ∷ r)
    (λ r less. then_equal (step_cmp s t) (path_cmp p r) Less e less) (drop (shared p q) (ways q))
    (more (less_rest (step_cmp s t) (path_cmp p q) e h))))
new_by Greater s t p q e more h = first_greater (step_cmp s t) (path_cmp p q) e h

new_behind : (p q : Path) → path_cmp p q ≡ Less → AllBehind p (drop (shared p q) (ways q))
new_behind [] q h = ways_behind_none q
new_behind (s ∷ p) [] h = tt
new_behind (s ∷ p) (t ∷ q) h = new_by (step_cmp s t) s t p q refl (new_behind p q) h

-- ---- all parts

further : (p q : Path) → path_cmp p q ≡ Less → (ys : List Path) → AllBehind q ys → AllBehind p ys
further p q less ys more =
    all_of (λ y. path_cmp q y ≡ Less) (λ y. path_cmp p y ≡ Less)
    (λ y h. path_total.trans p q y less h) ys more

behind_ascend : (p : Path) (ls : List PathLeaf) → AllBehind p (paths ls) → IsAscending (paths ls)
    → IsAscending (parts_behind p ls) × AllBehind p (parts_behind p ls)
unfolding IsStrictlySortedBy
behind_ascend p [] first h = (tt, tt)
behind_ascend p (l ∷ ls) first h =
    let q = l.0 in
    let rest = behind_ascend q ls h.0 h.1 in
    let front = drop (shared p q) (ways q) in (
      ascending_both q front (parts_behind q ls) (ascending_drop (shared p q) (ways q) (ways_ascend q))
          rest.0 (all_drop (AtMost q) (shared p q) (ways q) (ways_at_most q)) rest.1,
      all_both (λ y. path_cmp p y ≡ Less) front (parts_behind q ls) (new_behind p q first.0)
          (further p q first.0 (parts_behind q ls) rest.1),
    )

pub parts_ascend : (ls : List PathLeaf) → IsAscending (paths ls) → IsAscending (parts ls)
unfolding IsStrictlySortedBy
parts_ascend [] h = tt
parts_ascend (l ∷ ls) h =
    let q = l.0 in
    let rest = behind_ascend q ls h.0 h.1 in
    ascending_both q (ways q) (parts_behind q ls) (ways_ascend q) rest.0 (ways_at_most q) rest.1

-- ---- holders

held_all : (P : Path → Type 0) (d : Data) (sizes : List PictureSize) (p : Path) (gs : List Path)
    (hs : List PictureHolding) → P p → AllByRecursion P (holders hs)
    → AllByRecursion P (holders (if_held d sizes p gs ++ hs))
held_all P d sizes p [] hs h more = more
held_all P d sizes p (g ∷ gs) hs h more = (h, more)

held_ascends : (d : Data) (sizes : List PictureSize) (p : Path) (gs : List Path)
    (hs : List PictureHolding) → AllBehind p (holders hs) → IsAscending (holders hs)
    → IsAscending (holders (if_held d sizes p gs ++ hs))
unfolding IsStrictlySortedBy
held_ascends d sizes p [] hs first more = more
held_ascends d sizes p (g ∷ gs) hs first more = (first, more)

all_held : (P : Path → Type 0) (d : Data) (a : List ℕ) (sizes : List PictureSize)
    (ls : List PathLeaf) (ps : List Path) → AllByRecursion P ps
    → AllByRecursion P (holders (holdings_among d a sizes ls ps))
all_held P d a sizes ls [] h = tt
all_held P d a sizes ls (p ∷ ps) h =
    held_all P d sizes p (guests_at a ls p) (holdings_among d a sizes ls ps) h.0
    (all_held P d a sizes ls ps h.1)

-- holders stand in the order of parts
pub holders_ascend : (d : Data) (a : List ℕ) (sizes : List PictureSize) (ls : List PathLeaf)
    (ps : List Path) → IsAscending ps → IsAscending (holders (holdings_among d a sizes ls ps))
unfolding IsStrictlySortedBy
holders_ascend d a sizes ls [] h = tt
holders_ascend d a sizes ls (p ∷ ps) h =
    held_ascends d sizes p (guests_at a ls p) (holdings_among d a sizes ls ps)
    (all_held (λ q. path_cmp p q ≡ Less) d a sizes ls ps h.0) (holders_ascend d a sizes ls ps h.1)
