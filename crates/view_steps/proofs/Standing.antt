-- What one move changes of a load.
use Rattle.std.proofs.Common.{◌≡◌, ℕ, ℤ, pos, ◌+ℤ◌, Bool, true, false, cond, List, [], ◌∷◌, ◌++◌, Option, Some, None, filter, Ordering, Less, Equal, Greater, is_eq, nat_cmp, refl, sym, ap, ◌∙◌, subst, arith}
use Rattle.std.proofs.Math.IntN.{+ℤ_assoc, +ℤ_idl}
use Rattle.std.proofs.lemmas.Int.{ints}
use Rattle.std.proofs.lemmas.Map.Text.{is_eq-slice_cmp}
use Rattle.std.proofs.lemmas.Slice.Eq.{bytes_eq-Decides}
use Rattle.std.specs.Cmp.{tied_itself}
use Rattle.std.specs.Cmp.Lexicographic.{slice_cmp}
use Rattle.std.specs.Ordering.{ordering_then}
use Rattle.std.specs.List.{AllByRecursion}
use Rattle.std.specs.List.Sorted.{IsStrictlySortedBy}
use Rattle.serde_json.specs.Data.{Data}
use Rattle.view_leaves.specs.Ascending.{IsAscending, paths}
use Rattle.view_leaves.specs.Leaves.{PathLeaf}
use Rattle.view_leaves.specs.Paths.{PathStep, Path, index, key, step_cmp, path_cmp}
use Rattle.view_leaves.proofs.PathOrder.{path_total}
use Rattle.view_picture.specs.Mentions.{is_named, owner, refers, guests}
use Rattle.view_picture.specs.Picture.{amount, total}
use Rattle.view_plan.specs.Plan.{found_at}
use Rattle.view_steps.specs.Moves.{refers_to}

-- ---- paths that are the same

nat_same : (m n : ℕ) → nat_cmp m n ≡ Equal → m ≡ n
nat_same m n h = grind arith

eq_of : (o : Ordering) → o ≡ Equal → is_eq o ≡ true
eq_of o h = ap is_eq h

same_bytes : (k l : List ℕ) → slice_cmp nat_cmp k l ≡ Equal → k ≡ l
same_bytes k l h =
    (bytes_eq-Decides k l).0 (sym (is_eq-slice_cmp k l) ∙ eq_of (slice_cmp nat_cmp k l) h)

step_same : (s t : PathStep) → step_cmp s t ≡ Equal → s ≡ t
step_same (index m) (index n) h = ap index (nat_same m n h)
step_same (index m) (key l) h = absurd cc
step_same (key k) (index n) h = absurd cc
step_same (key k) (key l) h = ap key (same_bytes k l h)

then_equal : (o r : Ordering) → ordering_then o r ≡ Equal → (o ≡ Equal) × (r ≡ Equal)
then_equal Less r h = absurd cc
then_equal Equal r h = (refl, h)
then_equal Greater r h = absurd cc

pub path_same : (p q : Path) → path_cmp p q ≡ Equal → p ≡ q
path_same [] [] h = refl
path_same [] (t ∷ q) h = absurd cc
path_same (s ∷ p) [] h = absurd cc
path_same (s ∷ p) (t ∷ q) h =
    let both = then_equal (step_cmp s t) (path_cmp p q) h in
    ap (λ x. x ∷ p) (step_same s t both.0) ∙ ap (λ y. t ∷ y) (path_same p q both.1)

pub equal_of : (o : Ordering) → is_eq o ≡ true → o ≡ Equal
equal_of Less h = absurd cc
equal_of Equal h = refl
equal_of Greater h = absurd cc

pub is_itself : (p : Path) → is_eq (path_cmp p p) ≡ true
is_itself p = eq_of (path_cmp p p) (tied_itself path_total p)

-- ---- sums over leaves

module _ (d : Data) (name a w : List ℕ) where
  abbrev pub sum_of : List PathLeaf → ℤ
  sum_of ls = total d name (guests a w ls)

  abbrev pub weight : PathLeaf → ℤ
  weight l = cond (refers a w l) (amount d name (owner l.0)) (pos 0)

  sum_by_case : (b : Bool) (l : PathLeaf) (ls : List PathLeaf) → refers a w l ≡ b
      → sum_of (l ∷ ls) ≡ weight l +ℤ sum_of ls
  sum_by_case true l ls h = rw h refl
  sum_by_case false l ls h = rw h (sym (+ℤ_idl (sum_of ls)))

  sum_cons : (l : PathLeaf) (ls : List PathLeaf) → sum_of (l ∷ ls) ≡ weight l +ℤ sum_of ls
  sum_cons l ls = sum_by_case (refers a w l) l ls refl

  pub sum_append : (xs ys : List PathLeaf) → sum_of (xs ++ ys) ≡ sum_of xs +ℤ sum_of ys
  sum_append [] ys = sym (+ℤ_idl (sum_of ys))
  sum_append (x ∷ xs) ys =
      sum_cons x (xs ++ ys) ∙ ap (λ n. weight x +ℤ n) (sum_append xs ys)
      ∙ sym (+ℤ_assoc (weight x) (sum_of xs) (sum_of ys))
      ∙ ap (λ n. n +ℤ sum_of ys) (sym (sum_cons x xs))

  abbrev pub sum_where : (Path → Bool) → List PathLeaf → ℤ
  sum_where t ls = sum_of (filter (λ (l : PathLeaf). t l.0) ls)

  where_by_case : (t : Path → Bool) (b : Bool) (l : PathLeaf) (ls : List PathLeaf) → t l.0 ≡ b
      → sum_where t (l ∷ ls) ≡ cond b (weight l) (pos 0) +ℤ sum_where t ls
  where_by_case t true l ls h =
      rw h (sum_cons l (filter (λ (x : PathLeaf). t x.0) ls))
  where_by_case t false l ls h = rw h (sym (+ℤ_idl (sum_where t ls)))

  -- tests that agree at each of these
  where_same : (t u : Path → Bool) (ls : List PathLeaf)
      → AllByRecursion (λ p. t p ≡ u p) (paths ls) → sum_where t ls ≡ sum_where u ls
  where_same t u [] h = refl
  where_same t u (l ∷ ls) h =
      where_by_case t (u l.0) l ls h.0
      ∙ ap (λ n. cond (u l.0) (weight l) (pos 0) +ℤ n) (where_same t u ls h.1)
      ∙ sym (where_by_case u (u l.0) l ls refl)

  abbrev pub weight_at : Path → Option Data → ℤ
  weight_at p None = pos 0
  weight_at p (Some v) = weight (p, v)

  behind : (t u : Path → Bool) (p : Path) (ps : List Path)
      → ((q : Path) → is_eq (path_cmp p q) ≡ false → t q ≡ u q)
      → AllByRecursion (λ q. path_cmp p q ≡ Less) ps → AllByRecursion (λ q. t q ≡ u q) ps
  behind t u p [] agree h = tt
  behind t u p (q ∷ ps) agree h = (agree q (ap is_eq h.0), behind t u p ps agree h.1)

  -- a leaf more passes the test
  here : (t u : Path → Bool) (p : Path) (l : PathLeaf) (ls : List PathLeaf) → p ≡ l.0
      → t p ≡ true → u p ≡ false → ((q : Path) → is_eq (path_cmp p q) ≡ false → t q ≡ u q)
      → AllByRecursion (λ q. path_cmp l.0 q ≡ Less) (paths ls)
      → sum_where t (l ∷ ls) ≡ weight l +ℤ sum_where u (l ∷ ls)
  here t u p l ls same passes fails agree h =
      let ahead = subst (λ q. AllByRecursion (λ x. path_cmp q x ≡ Less) (paths ls)) (sym same) h in
      where_by_case t true l ls (ap t (sym same) ∙ passes)
      ∙ ap (λ n. weight l +ℤ n) (where_same t u ls (behind t u p (paths ls) agree ahead)
      ∙ sym (where_by_case u false l ls (ap u (sym same) ∙ fails) ∙ +ℤ_idl (sum_where u ls)))

  swapped : (x y z : ℤ) → x +ℤ (y +ℤ z) ≡ y +ℤ (x +ℤ z)
  swapped x y z = omega (arith, ints)

  found_by : (b : Bool) (t u : Path → Bool) (p : Path) (l : PathLeaf) (ls : List PathLeaf)
      → is_eq (path_cmp p l.0) ≡ b → t p ≡ true → u p ≡ false
      → ((q : Path) → is_eq (path_cmp p q) ≡ false → t q ≡ u q)
      → AllByRecursion (λ q. path_cmp l.0 q ≡ Less) (paths ls)
      → sum_where t ls ≡ weight_at p (found_at p ls) +ℤ sum_where u ls
      → sum_where t (l ∷ ls) ≡ weight_at p (found_at p (l ∷ ls)) +ℤ sum_where u (l ∷ ls)
  found_by true t u p l ls e passes fails agree h more =
      let same = path_same p l.0 (equal_of (path_cmp p l.0) e) in
      rw e (here t u p l ls same passes fails agree h
      ∙ ap (λ q. weight (q, l.1) +ℤ sum_where u (l ∷ ls)) (sym same))
  found_by false t u p l ls e passes fails agree h more =
      let one = λ (n : ℤ). cond (u l.0) (weight l) (pos 0) +ℤ n in
      rw e (where_by_case t (u l.0) l ls (agree l.0 e) ∙ ap one more
      ∙ swapped (cond (u l.0) (weight l) (pos 0)) (weight_at p (found_at p ls)) (sum_where u ls)
      ∙ ap (λ n. weight_at p (found_at p ls) +ℤ n) (sym (where_by_case u (u l.0) l ls refl)))

  pub where_more : (t u : Path → Bool) (p : Path) (ls : List PathLeaf) → IsAscending (paths ls)
      → t p ≡ true → u p ≡ false
      → ((q : Path) → is_eq (path_cmp p q) ≡ false → t q ≡ u q)
      → sum_where t ls ≡ weight_at p (found_at p ls) +ℤ sum_where u ls
  unfolding IsStrictlySortedBy
  where_more t u p [] h passes fails agree = refl
  where_more t u p (l ∷ ls) h passes fails agree =
      found_by (is_eq (path_cmp p l.0)) t u p l ls refl passes fails agree h.0
      (where_more t u p ls h.1 passes fails agree)

  -- the weight of a leaf by where it refers
  pub weight_named : (p : Path) (o : Option Data) → is_named a p ≡ true
      → weight_at p o ≡ cond (refers_to w o) (amount d name (owner p)) (pos 0)
  weight_named p None h = refl
  weight_named p (Some v) h = rw h refl
