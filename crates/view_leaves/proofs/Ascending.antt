-- The leaves of a configuration whose keys ascend stand in order of path, each path once.
use Rattle.std.proofs.Common.{if◌then◌else◌, Some, None, ◌≡◌, ℕ, suc, ◌+◌, ◌<◌, ◌≤◌, List, [], ◌∷◌, ◌++◌, Bool, true, false, Less, nat_cmp, refl, sym, ap, ◌∙◌, subst, append_assoc, append-nil, arith, rules}
use mathlib.Core.List.{map-append}
use Rattle.std.specs.List.{AllByRecursion}
use Rattle.std.specs.List.Sorted.{IsStrictlySortedBy}
use Rattle.serde_json.specs.Data.{Data, null, boolean, number, string, array, object, Items, no_items, item, Members, no_members, member}
use Rattle.std.specs.Option.{option_map_or}
use Rattle.serde_json.specs.Find.{as_object}
use Rattle.view_leaves.specs.Ascending.{IsAscending, leaf_path, paths}
use Rattle.view_leaves.specs.Leaves.{PathLeaf, all_words, has_parts, is_class, leaves_from, item_leaves, member_leaves, leaves, AreBehind, IsInOrder, AreInOrder, MembersInOrder}
use Rattle.view_leaves.specs.Paths.{PathStep, Path, index, key, step_cmp, path_cmp}
use Rattle.view_leaves.proofs.PathOrder.{apart_at}

-- Lists of paths

abbrev pub AllPaths : (Path → Type 0) → List PathLeaf → Type 0
AllPaths P ls = AllByRecursion P (paths ls)

all_both : (P : Path → Type 0) (ps qs : List Path) → AllByRecursion P ps → AllByRecursion P qs
    → AllByRecursion P (ps ++ qs)
all_both P [] qs h g = g
all_both P (p ∷ ps) qs h g = (h.0, all_both P ps qs h.1 g)

all_of : (P Q : Path → Type 0) → ((p : Path) → P p → Q p) → (ps : List Path) → AllByRecursion P ps
    → AllByRecursion Q ps
all_of P Q f [] h = tt
all_of P Q f (p ∷ ps) h = (f p h.0, all_of P Q f ps h.1)

-- each of these paths stands before each of those
abbrev AllBefore : List Path → List Path → Type 0
AllBefore ps qs = AllByRecursion (λ p. AllByRecursion (λ q. path_cmp p q ≡ Less) qs) ps

ascending_both : (ps qs : List Path) → IsAscending ps → IsAscending qs → AllBefore ps qs
    → IsAscending (ps ++ qs)
unfolding IsStrictlySortedBy
ascending_both [] qs h g before = g
ascending_both (p ∷ ps) qs h g before = (
  all_both (λ q. path_cmp p q ≡ Less) ps qs h.0 before.0,
  ascending_both ps qs h.1 g before.1,
)

one_ascends : (p : Path) → IsAscending (p ∷ [])
unfolding IsStrictlySortedBy
one_ascends p = (tt, tt)

none_ascends : IsAscending []
unfolding IsStrictlySortedBy
none_ascends = tt

nat_before : (m n : ℕ) → m < n → nat_cmp m n ≡ Less
nat_before m n h = search rules

-- Paths that go on from others

abbrev GoesOn : Path → Path → Type 0
GoesOn p q = (r : Path) × (q ≡ p ++ r)

-- a path that goes on from p with a step behind s
abbrev GoesBehind : Path → PathStep → Path → Type 0
GoesBehind p s q = (t : PathStep) × (r : Path) × (step_cmp s t ≡ Less) × (q ≡ p ++ t ∷ r)

one_before : (p : Path) (s : PathStep) (x q : Path) → GoesOn (p ++ s ∷ []) x → GoesBehind p s q
    → path_cmp x q ≡ Less
one_before p s x q on behind =
    ap (λ y. path_cmp y q) (on.1 ∙ append_assoc p (s ∷ []) on.0)
    ∙ ap (λ y. path_cmp (p ++ s ∷ on.0) y) behind.3
    ∙ apart_at p on.0 behind.1 s behind.0 behind.2

before_rest : (p : Path) (s : PathStep) (x : Path) (qs : List Path) → GoesOn (p ++ s ∷ []) x
    → AllByRecursion (GoesBehind p s) qs → AllByRecursion (λ q. path_cmp x q ≡ Less) qs
before_rest p s x [] on h = tt
before_rest p s x (q ∷ qs) on h = (one_before p s x q on h.0, before_rest p s x qs on h.1)

before_all : (p : Path) (s : PathStep) (ps qs : List Path)
    → AllByRecursion (GoesOn (p ++ s ∷ [])) ps → AllByRecursion (GoesBehind p s) qs
    → AllBefore ps qs
before_all p s [] qs h g = tt
before_all p s (x ∷ ps) qs h g = (before_rest p s x qs h.0 g, before_all p s ps qs h.1 g)

deeper : (p : Path) (s : PathStep) (q : Path) → GoesOn (p ++ s ∷ []) q → GoesOn p q
deeper p s q on = (s ∷ on.0, on.1 ∙ append_assoc p (s ∷ []) on.0)

behind_step : (p : Path) (s t : PathStep) → step_cmp s t ≡ Less → (q : Path)
    → GoesOn (p ++ t ∷ []) q → GoesBehind p s q
behind_step p s t h q on = (t, on.0, h, on.1 ∙ append_assoc p (t ∷ []) on.0)

-- Lists of leaves

all_append : (P : Path → Type 0) (xs ys : List PathLeaf) → AllPaths P xs → AllPaths P ys
    → AllPaths P (xs ++ ys)
all_append P [] ys h g = g
all_append P (x ∷ xs) ys h g = (h.0, all_append P xs ys h.1 g)

all_if : (b : Bool) (P : Path → Type 0) (xs ys : List PathLeaf) → AllPaths P xs → AllPaths P ys
    → AllPaths P (if b then xs else ys)
all_if true P xs ys h g = h
all_if false P xs ys h g = g

ascending_if : (b : Bool) (xs ys : List PathLeaf) → (b ≡ true → IsAscending (paths xs))
    → (b ≡ false → IsAscending (paths ys)) → IsAscending (paths (if b then xs else ys))
ascending_if true xs ys h g = h refl
ascending_if false xs ys h g = g refl

ascending_append : (xs ys : List PathLeaf) → IsAscending (paths xs) → IsAscending (paths ys)
    → AllBefore (paths xs) (paths ys) → IsAscending (paths (xs ++ ys))
ascending_append xs ys h g before =
    subst IsAscending (sym (map-append leaf_path xs ys))
    (ascending_both (paths xs) (paths ys) h g before)

here : (p : Path) → GoesOn p p
here p = ([], sym (append-nil p))

-- every leaf's path goes on from where the walk began
mutual
  on_from : (p : Path) (d : Data) → AllPaths (GoesOn p) (leaves_from p d)
  on_from p null = (here p, tt)
  on_from p (boolean b) = (here p, tt)
  on_from p (number n) = (here p, tt)
  on_from p (string s) = (here p, tt)
  on_from p (array ds) =
      all_if (all_words ds) (GoesOn p) ((p, array ds) ∷ []) (item_leaves p 0 ds) (here p, tt)
      (on_items p 0 ds)
  on_from p (object ms) =
      all_if (has_parts ms) (GoesOn p) (member_leaves p ms) ((p, object ms) ∷ [])
      (on_members p ms) (here p, tt)

  on_items : (p : Path) (n : ℕ) (ds : Items) → AllPaths (GoesOn p) (item_leaves p n ds)
  on_items p n no_items = tt
  on_items p n (item d ds) =
      all_append (GoesOn p) (leaves_from (p ++ index n ∷ []) d) (item_leaves p (suc n) ds)
      (all_of (GoesOn (p ++ index n ∷ [])) (GoesOn p) (deeper p (index n))
      (paths (leaves_from (p ++ index n ∷ []) d)) (on_from (p ++ index n ∷ []) d))
      (on_items p (suc n) ds)

  on_members : (p : Path) (ms : Members) → AllPaths (GoesOn p) (member_leaves p ms)
  on_members p no_members = tt
  on_members p (member k d ms) =
      let part = leaves_from (p ++ key k ∷ []) d in
      all_append (GoesOn p) (if is_class k then [] else part) (member_leaves p ms)
      (all_if (is_class k) (GoesOn p) [] part tt
      (all_of (GoesOn (p ++ key k ∷ [])) (GoesOn p) (deeper p (key k)) (paths part)
      (on_from (p ++ key k ∷ []) d)))
      (on_members p ms)

behind_items : (p : Path) (s n : ℕ) (ds : Items) → s < n
    → AllPaths (GoesBehind p (index s)) (item_leaves p n ds)
behind_items p s n no_items h = tt
behind_items p s n (item d ds) h =
    let part = leaves_from (p ++ index n ∷ []) d in
    all_append (GoesBehind p (index s)) part (item_leaves p (suc n) ds)
    (all_of (GoesOn (p ++ index n ∷ [])) (GoesBehind p (index s))
    (behind_step p (index s) (index n) (nat_before s n h)) (paths part)
    (on_from (p ++ index n ∷ []) d))
    (behind_items p s (suc n) ds (omega arith))

behind_members : (p : Path) (k : List ℕ) (ms : Members) → AreBehind k ms
    → AllPaths (GoesBehind p (key k)) (member_leaves p ms)
behind_members p k no_members h = tt
behind_members p k (member l d ms) h =
    let part = leaves_from (p ++ key l ∷ []) d in
    all_append (GoesBehind p (key k)) (if is_class l then [] else part) (member_leaves p ms)
    (all_if (is_class l) (GoesBehind p (key k)) [] part tt
    (all_of (GoesOn (p ++ key l ∷ [])) (GoesBehind p (key k))
    (behind_step p (key k) (key l) h.0) (paths part) (on_from (p ++ key l ∷ []) d)))
    (behind_members p k ms h.1)

mutual
  ascends_from : (p : Path) (d : Data) → IsInOrder d → IsAscending (paths (leaves_from p d))
  ascends_from p null h = one_ascends p
  ascends_from p (boolean b) h = one_ascends p
  ascends_from p (number n) h = one_ascends p
  ascends_from p (string s) h = one_ascends p
  ascends_from p (array ds) h =
      ascending_if (all_words ds) ((p, array ds) ∷ []) (item_leaves p 0 ds) (λ e. one_ascends p)
      (λ e. items_ascend p 0 ds (h e))
  ascends_from p (object ms) h =
      ascending_if (has_parts ms) (member_leaves p ms) ((p, object ms) ∷ [])
      (λ e. members_ascend p ms (h e)) (λ e. one_ascends p)

  items_ascend : (p : Path) (n : ℕ) (ds : Items) → AreInOrder ds
      → IsAscending (paths (item_leaves p n ds))
  items_ascend p n no_items h = none_ascends
  items_ascend p n (item d ds) h =
      let part = leaves_from (p ++ index n ∷ []) d in
      ascending_append part (item_leaves p (suc n) ds) (ascends_from (p ++ index n ∷ []) d h.0)
      (items_ascend p (suc n) ds h.1)
      (before_all p (index n) (paths part) (paths (item_leaves p (suc n) ds))
      (on_from (p ++ index n ∷ []) d) (behind_items p n (suc n) ds (omega arith)))

  pub members_ascend : (p : Path) (ms : Members) → MembersInOrder ms
      → IsAscending (paths (member_leaves p ms))
  members_ascend p no_members h = none_ascends
  members_ascend p (member k d ms) h =
      let part = leaves_from (p ++ key k ∷ []) d in
      ascending_append (if is_class k then [] else part) (member_leaves p ms)
      (ascending_if (is_class k) [] part (λ e. none_ascends)
      (λ e. ascends_from (p ++ key k ∷ []) d (h.1 e)))
      (members_ascend p ms h.2)
      (before_all p (key k) (paths (if is_class k then [] else part)) (paths (member_leaves p ms))
      (all_if (is_class k) (GoesOn (p ++ key k ∷ [])) [] part tt (on_from (p ++ key k ∷ []) d))
      (behind_members p k ms h.0))

-- the leaves of the whole
pub leaves_ascend : (d : Data) (ms : Members) → Some ms ≡ as_object d → MembersInOrder ms
    → IsAscending (paths (leaves d))
leaves_ascend d ms is h =
    subst (λ o. IsAscending (paths (option_map_or (member_leaves []) o []))) is
    (members_ascend [] ms h)

pub no_leaves_ascend : (d : Data) → None ≡ as_object d → IsAscending (paths (leaves d))
no_leaves_ascend d is =
    subst (λ o. IsAscending (paths (option_map_or (member_leaves []) o []))) is none_ascends
