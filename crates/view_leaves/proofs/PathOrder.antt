-- Paths are in a total order, and a step decides between paths that begin alike.
use Rattle.std.proofs.Common.{◌≡◌, ℕ, zero, suc, ◌<◌, ◌≤◌, List, [], ◌∷◌, ◌++◌, length, drop, map, Ordering, Less, Equal, Greater, nat_cmp, refl, sym, ap, ◌∙◌, subst, arith, true≢false}
use Rattle.std.specs.Cmp.{IsTotalOrder, nat_cmp_total, tied_itself}
use Rattle.std.specs.Cmp.Lexicographic.{slice_cmp, lists_total, nat_list_cmp_total}
use Rattle.std.specs.Ordering.{ordering_then, ordering_reverse}
use Rattle.std.proofs.lemmas.List.{drop_all}
use Rattle.view_leaves.specs.declared.path.Step.{Step}
use Rattle.view_leaves.specs.Paths.{PathStep, Path, index, key, step_cmp, path_cmp}
use Rattle.view_leaves.specs.Views.{step_seen}

step_antisymm : (x y : PathStep) → step_cmp x y ≡ ordering_reverse (step_cmp y x)
step_antisymm (index m) (index n) = nat_cmp_total.antisymm m n
step_antisymm (index m) (key l) = refl
step_antisymm (key k) (index n) = refl
step_antisymm (key k) (key l) = nat_list_cmp_total.antisymm k l

less_greater : {A : Type 0} → Greater ≡ Less → A
less_greater e = absurd cc

step_trans : (x y z : PathStep) → step_cmp x y ≡ Less → step_cmp y z ≡ Less → step_cmp x z ≡ Less
step_trans (index m) (index n) (index o) h g = nat_cmp_total.trans m n o h g
step_trans (index m) (index n) (key l) h g = refl
step_trans (index m) (key k) (index o) h g = less_greater g
step_trans (index m) (key k) (key l) h g = refl
step_trans (key j) (index n) z h g = less_greater h
step_trans (key j) (key k) (index o) h g = less_greater g
step_trans (key j) (key k) (key l) h g = nat_list_cmp_total.trans j k l h g

less_equal : {A : Type 0} → Less ≡ Equal → A
less_equal e = absurd cc

greater_equal : {A : Type 0} → Greater ≡ Equal → A
greater_equal e = absurd cc

step_congr : (x y z : PathStep) → step_cmp x y ≡ Equal → step_cmp x z ≡ step_cmp y z
step_congr (index m) (index n) (index o) h = nat_cmp_total.congr m n o h
step_congr (index m) (index n) (key l) h = refl
step_congr (index m) (key k) z h = less_equal h
step_congr (key j) (index n) z h = greater_equal h
step_congr (key j) (key k) (index o) h = refl
step_congr (key j) (key k) (key l) h = nat_list_cmp_total.congr j k l h

pub step_total : IsTotalOrder step_cmp
step_total = record { antisymm = step_antisymm; trans = step_trans; congr = step_congr }

pub path_total : IsTotalOrder path_cmp
path_total = lists_total step_total

-- what stands behind the same steps decides
pub same_front : (p q r : Path) → path_cmp (p ++ q) (p ++ r) ≡ path_cmp q r
same_front [] q r = refl
same_front (s ∷ p) q r = rw (tied_itself step_total s) (same_front p q r)

first_decides : (o : Ordering) (more : Ordering) → o ≡ Less → ordering_then o more ≡ Less
first_decides Less more h = refl
first_decides Equal more h = absurd cc
first_decides Greater more h = absurd cc

-- paths that go apart at a step
pub apart_at : (p q r : Path) (s t : PathStep) → step_cmp s t ≡ Less
    → path_cmp (p ++ s ∷ q) (p ++ t ∷ r) ≡ Less
apart_at p q r s t h = same_front p (s ∷ q) (t ∷ r) ∙ first_decides (step_cmp s t) (path_cmp q r) h

-- a path that goes on where the other has ended
more_left : (ls : List Step) (i : ℕ) → i < length ls
    → path_cmp (map step_seen (drop i ls)) [] ≡ Greater
more_left [] i h = absurd (omega arith)
more_left (l ∷ ls) zero h = refl
more_left (l ∷ ls) (suc i) h = more_left ls i (omega arith)

more_right : (rs : List Step) (i : ℕ) → i < length rs
    → path_cmp [] (map step_seen (drop i rs)) ≡ Less
more_right [] i h = absurd (omega arith)
more_right (r ∷ rs) zero h = refl
more_right (r ∷ rs) (suc i) h = more_right rs i (omega arith)

pub goes_on_left : (ls rs : List Step) (i : ℕ) → i < length ls → length rs ≤ i
    → path_cmp (map step_seen (drop i ls)) (map step_seen (drop i rs)) ≡ Greater
goes_on_left ls rs i h g = rw (drop_all i rs g) (more_left ls i h)

pub goes_on_right : (ls rs : List Step) (i : ℕ) → length ls ≤ i → i < length rs
    → path_cmp (map step_seen (drop i ls)) (map step_seen (drop i rs)) ≡ Less
goes_on_right ls rs i h g = rw (drop_all i ls h) (more_right rs i g)
