-- Marks made in the objects' order, and the set of the marked ones.
use Rattle.std.proofs.Common.{◌≡◌, ℕ, zero, suc, ◌+◌, ◌-◌, ◌<◌, ◌≤◌, Bool, true, false, ◌&&◌, ◌||◌, nat_eq, List, [], ◌∷◌, ◌++◌, ℤ, pos, Option, None, Some, All, length, length-append, length-drop, take, drop, inl, inr, refl, sym, ap, ◌∙◌, subst, arith}
use Rattle.std.specs.Prelude.{slice_index_or}
use Rattle.std.specs.List.{list_any}
use Rattle.std.specs.Ordering.{int_eq}
use Rattle.std.proofs.Math.ListN.{get_or-append}
use Rattle.std.proofs.Math.Seq.{get_or-append_seam}
use Rattle.std.proofs.lemmas.Bool.{cases_lt}
use Rattle.std.proofs.lemmas.Bool.Decides.{nat_tests}
use Rattle.std.proofs.lemmas.Int.{ints}
use Rattle.std.proofs.lemmas.List.{take_all}
use Rattle.std.proofs.lemmas.List.Elements.{All-head, All-tail}
use Rattle.class_table.specs.Outline.{Outline}
use Rattle.object_alloc.specs.declared.object.Object.{Object}
use Rattle.object_alloc.specs.Paths.{owner_in}
use Rattle.object_alloc.specs.Walk.{objects}
use Rattle.signed_clause.specs.Ranges.{Ranges, has}
use Rattle.reconfigure.specs.Marking.{is_in_some, is_owner_marked, is_marked, AreMarks}
use Rattle.reconfigure.proofs.InsideLaws.{falls, inside_top, inside_held}

or_none : (b : Bool) → (b || false) ≡ b
or_none true = refl
or_none false = refl

-- ---- one mark more

-- the mark of an object, told from that of what holds it
pub mark_is : (o : Outline) (ws : List ℕ) (marks : List Bool) (own : Bool) (owner : Option ℕ) (n : ℕ) → n < length (objects o) → length marks ≡ n → owner ≡ owner_in (objects o) n → own ≡ list_any (nat_eq n) ws → AreMarks o ws marks → (own || is_owner_marked marks owner) ≡ is_in_some o ws n
mark_is o ws marks own None n lt size up e m =
    or_none own ∙ e ∙ sym (inside_top o ws n (sym up))
mark_is o ws marks own (Some q) n lt size up e m =
    let less = falls o n q (sym up) in
    ap (λ b. b || slice_index_or marks q false) e
    ∙ ap (λ b. list_any (nat_eq n) ws || b) (m.each q (omega (arith, less, size)))
    ∙ sym (inside_held o ws n q lt (sym up))

pub no_marks : (o : Outline) (ws : List ℕ) → AreMarks o ws []
no_marks o ws = record { each = λ k lt. absurd (omega (arith, lt)) }

pub marks_more : (o : Outline) (ws : List ℕ) (marks : List Bool) (m : Bool) (n : ℕ) → length marks ≡ n → m ≡ is_in_some o ws n → AreMarks o ws marks → AreMarks o ws (marks ++ m ∷ [])
marks_more o ws marks m n size e h = record {
  each = λ k lt. elim (cases_lt k (length marks)) [
    | inl less ↦ get_or-append marks (m ∷ []) false k less ∙ h.each k less
    | inr more ↦
        let at : length marks ≡ k = omega (arith, lt, more, length-append marks (m ∷ [])) in
        subst (λ (j : ℕ). slice_index_or (marks ++ m ∷ []) j false ≡ is_in_some o ws j) at
        (get_or-append_seam marks m [] false ∙ e ∙ ap (is_in_some o ws) (sym size))
  ];
}

-- ---- the set of the marked ones

same_start : (n : ℕ) (ms : List Bool) (v : ℤ) → is_marked (n + 0) ms v ≡ is_marked n ms v
same_start n ms v = let e : n + 0 ≡ n = omega arith in ap (λ k. is_marked k ms v) e

or_group : (p q r : Bool) → (p || (q || r)) ≡ ((p || q) || r)
or_group true q r = refl
or_group false q r = refl

-- by halves
pub marked_halves : (h n : ℕ) (ms : List Bool) (v : ℤ) → h ≤ length ms → (is_marked n (take h ms) v || is_marked (n + h) (drop h ms) v) ≡ is_marked n ms v
marked_halves zero n ms v le = same_start n ms v
marked_halves (suc h) n [] v le = absurd (omega (arith, le))
marked_halves (suc h) n (m ∷ ms) v le =
    let here = m && int_eq v (pos n) in
    let at : n + suc h ≡ (n + 1) + h = omega arith in
    sym (or_group here (is_marked (n + 1) (take h ms) v) (is_marked (n + suc h) (drop h ms) v))
    ∙ ap (λ k. here || (is_marked (n + 1) (take h ms) v || is_marked k (drop h ms) v)) at
    ∙ ap (λ b. here || b) (marked_halves h (n + 1) ms v (omega (arith, le)))

not_same : (k n : ℕ) → k < n → int_eq (pos k) (pos n) ≡ false
not_same k n lt = grind (arith, ints)

same_number : (k n : ℕ) → k ≡ n → int_eq (pos k) (pos n) ≡ true
same_number k n e = grind (arith, ints)

and_none : (b : Bool) → (b && false) ≡ false
and_none true = refl
and_none false = refl

and_one : (b : Bool) → (b && true) ≡ b
and_one true = refl
and_one false = refl

-- the numbers before the first one aren't marked
not_before : (k n : ℕ) (ms : List Bool) → k < n → is_marked n ms (pos k) ≡ false
not_before k n [] lt = refl
not_before k n (m ∷ ms) lt =
    ap (λ b. (m && b) || is_marked (n + 1) ms (pos k)) (not_same k n lt)
    ∙ ap (λ b. b || is_marked (n + 1) ms (pos k)) (and_none m)
    ∙ not_before k (n + 1) ms (omega (arith, lt))

more_differs : (n k : ℕ) → int_eq (pos (n + suc k)) (pos n) ≡ false
more_differs n k = grind (arith, ints)

pub marked_read : (n k : ℕ) (ms : List Bool) → is_marked n ms (pos (n + k)) ≡ slice_index_or ms k false
marked_read n k [] = refl
marked_read n zero (m ∷ ms) =
    let at : n + 0 ≡ n = omega arith in
    ap (λ b. (m && b) || is_marked (n + 1) ms (pos (n + 0))) (same_number (n + 0) n at)
    ∙ ap (λ b. b || is_marked (n + 1) ms (pos (n + 0))) (and_one m)
    ∙ ap (λ b. m || b) (not_before (n + 0) (n + 1) ms (omega (arith, at)))
    ∙ or_none m
marked_read n (suc k) (m ∷ ms) =
    let at : n + suc k ≡ (n + 1) + k = omega arith in
    ap (λ b. (m && b) || is_marked (n + 1) ms (pos (n + suc k))) (more_differs n k)
    ∙ ap (λ b. b || is_marked (n + 1) ms (pos (n + suc k))) (and_none m)
    ∙ ap (λ j. is_marked (n + 1) ms (pos j)) at
    ∙ marked_read (n + 1) k ms

-- ---- behind the last object

read_behind : (ms : List Bool) (n : ℕ) → length ms ≤ n → slice_index_or ms n false ≡ false
read_behind [] n le = refl
read_behind (m ∷ ms) zero le = absurd (omega (arith, le))
read_behind (m ∷ ms) (suc n) le = read_behind ms n (omega (arith, le))

get_behind : (xs : List Object) (n : ℕ) → length xs ≤ n → owner_in xs n ≡ None
get_behind [] n le = refl
get_behind (x ∷ xs) zero le = absurd (omega (arith, le))
get_behind (x ∷ xs) (suc n) le = get_behind xs n (omega (arith, le))

differs_from : (n w m : ℕ) → m ≤ n → w < m → nat_eq n w ≡ false
differs_from n w m le lt = grind (arith, nat_tests)

none_there : (n m : ℕ) (ws : List ℕ) → m ≤ n → All (λ w. w < m) ws → list_any (nat_eq n) ws ≡ false
none_there n m [] le all = refl
none_there n m (w ∷ ws) le all =
    ap (λ b. b || list_any (nat_eq n) ws) (differs_from n w m le (All-head (λ x. x < m) w ws all))
    ∙ none_there n m ws le (All-tail (λ x. x < m) w ws all)

pub none_behind : (o : Outline) (ws : List ℕ) (n : ℕ) → All (λ w. w < length (objects o)) ws → length (objects o) ≤ n → is_in_some o ws n ≡ false
none_behind o ws n all le = inside_top o ws n (get_behind (objects o) n le) ∙ none_there n (length (objects o)) ws le all

-- the set has the numbers of the objects that are in some of the list
pub failed_inside : (o : Outline) (ws : List ℕ) (marks : List Bool) (s : Ranges) → All (λ w. w < length (objects o)) ws → length marks ≡ length (objects o) → AreMarks o ws marks → ((v : ℤ) → has s v ≡ is_marked 0 marks v) → (n : ℕ) → has s (pos n) ≡ is_in_some o ws n
failed_inside o ws marks s all size m h n =
    let at : 0 + n ≡ n = omega arith in
    h (pos n) ∙ ap (λ j. is_marked 0 marks (pos j)) (sym at) ∙ marked_read 0 n marks ∙ by
  where
    by : slice_index_or marks n false ≡ is_in_some o ws n
    by = elim (cases_lt n (length marks)) [
      | inl less ↦ m.each n less
      | inr more ↦ read_behind marks n more ∙ sym (none_behind o ws n all (omega (arith, more, size)))
    ]

rest_is : (n : ℕ) (ms : List Bool) → take (length ms - n) (drop n ms) ≡ drop n ms
rest_is n ms = take_all (length ms - n) (drop n ms) (omega (arith, length-drop n ms))

-- two sets joined, each of one half
pub marked_both : (h n : ℕ) (ms : List Bool) (v : ℤ) (front back all : Ranges) → h ≤ length ms → has front v ≡ is_marked n (take h ms) v → has back v ≡ is_marked (n + h) (take (length ms - h) (drop h ms)) v → has all v ≡ (has front v || has back v) → has all v ≡ is_marked n ms v
marked_both h n ms v front back all le a b e =
    e ∙ ap (λ p. p || has back v) a
    ∙ ap (λ p. is_marked n (take h ms) v || p) (b ∙ ap (λ (xs : List Bool). is_marked (n + h) xs v) (rest_is h ms))
    ∙ marked_halves h n ms v le
