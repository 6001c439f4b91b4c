-- The walk over two lists of leaves in order of path: what is listed and what is left give the
-- plan of both.
use Rattle.std.proofs.Common.{if◌then◌else◌, ◌≡◌, ℕ, ◌+◌, ◌<◌, ◌≤◌, length, drop, get_or, List, [], ◌∷◌, ◌++◌, Bool, true, false, Option, Some, None, map, Ordering, Less, Equal, Greater, is_eq, refl, sym, ap, ◌∙◌, subst, append_assoc, append-nil}
use mathlib.Core.List.{map-append}
use Rattle.std.specs.List.{AllByRecursion}
use Rattle.std.specs.List.Sorted.{IsStrictlySortedBy}
use Rattle.std.specs.Ordering.{ordering_reverse}
use Rattle.serde_json.specs.Data.{Data}
use Rattle.view_leaves.specs.Ascending.{IsAscending, leaf_path, paths}
use Rattle.view_leaves.specs.Leaves.{PathLeaf}
use Rattle.view_leaves.specs.Paths.{Path, path_cmp}
use Rattle.std.proofs.lemmas.List.{at_drop_more, at_drop_all}
use Rattle.view_leaves.specs.Views.{leaf_seen, leaves_seen}
use Rattle.view_leaves.specs.declared.leaf.Leaf.{Leaf}
use Rattle.view_leaves.proofs.PathOrder.{path_total}
use Rattle.view_plan.specs.Changes.{PlanChange, Added, Removed, change_between}
use Rattle.view_plan.specs.Merging.{removal, addition, removals, additions, change_line, turn_lines}
use Rattle.view_plan.specs.Plan.{PlanLine, found_at, change_at, line_path, IsPlan}

-- the first change, where there is one
abbrev pub first_change : Option PlanChange → Option PlanChange → Option PlanChange
first_change None o = o
first_change (Some c) o = Some c

first_assoc : (a b c : Option PlanChange)
    → first_change (first_change a b) c ≡ first_change a (first_change b c)
first_assoc None b c = refl
first_assoc (Some x) b c = refl

first_none : (a : Option PlanChange) → first_change a None ≡ a
first_none None = refl
first_none (Some x) = refl

-- ---- what stands at a path

first_if : (b : Bool) (c : PlanChange) (o r : Option PlanChange)
    → (if b then Some c else first_change o r) ≡ first_change (if b then Some c else o) r
first_if true c o r = refl
first_if false c o r = refl

found_at-append : (p : Path) (xs ys : List PlanLine)
    → found_at p (xs ++ ys) ≡ first_change (found_at p xs) (found_at p ys)
found_at-append p [] ys = refl
found_at-append p (x ∷ xs) ys =
    ap (λ o. if is_eq (path_cmp p x.0) then Some x.1 else o) (found_at-append p xs ys)
    ∙ first_if (is_eq (path_cmp p x.0)) x.1 (found_at p xs) (found_at p ys)

-- a path that stands before all of these
abbrev pub IsBefore : Path → List Path → Type 0
IsBefore p ps = AllByRecursion (λ q. path_cmp p q ≡ Less) ps

equal_of : (o : Ordering) → is_eq o ≡ true → o ≡ Equal
equal_of Less h = absurd cc
equal_of Equal h = refl
equal_of Greater h = absurd cc

not_found : (p : Path) (ys : List PathLeaf) → IsBefore p (paths ys) → found_at p ys ≡ None
not_found p [] h = refl
not_found p (y ∷ ys) h =
    ap (λ o. if is_eq o then Some y.1 else found_at p ys) h.0 ∙ not_found p ys h.1

before_alike : (p a : Path) (ps : List Path) → path_cmp p a ≡ Equal → IsBefore a ps → IsBefore p ps
before_alike p a [] e h = tt
before_alike p a (q ∷ ps) e h = (path_total.congr p a q e ∙ h.0, before_alike p a ps e h.1)

pub before_less : (a b : Path) (ps : List Path) → path_cmp a b ≡ Less → IsBefore b ps
    → IsBefore a ps
before_less a b [] e h = tt
before_less a b (q ∷ ps) e h = (path_total.trans a b q e h.0, before_less a b ps e h.1)

missing_at : (p a : Path) (ys : List PathLeaf) → IsBefore a (paths ys)
    → is_eq (path_cmp p a) ≡ true → found_at p ys ≡ None
missing_at p a ys before e =
    not_found p ys (before_alike p a (paths ys) (equal_of (path_cmp p a) e) before)

gone_by : (b : Bool) (d : Data) (f g : Option Data) → (b ≡ true → g ≡ None)
    → first_change (if b then Some (Removed d) else None) (change_at f g)
    ≡ change_at (if b then Some d else f) g
gone_by true d f g h = sym (ap (change_at (Some d)) (h refl))
gone_by false d f g h = refl

come_by : (b : Bool) (e : Data) (f g : Option Data) → (b ≡ true → f ≡ None)
    → first_change (if b then Some (Added e) else None) (change_at f g)
    ≡ change_at f (if b then Some e else g)
come_by true e f g h = sym (ap (λ o. change_at o (Some e)) (h refl))
come_by false e f g h = refl

both_by : (b : Bool) (d e : Data) (f g : Option Data) → (b ≡ true → f ≡ None)
    → (b ≡ true → g ≡ None)
    → first_change (if b then change_between d e else None) (change_at f g)
    ≡ change_at (if b then Some d else f) (if b then Some e else g)
both_by true d e f g h k =
    ap (λ o. first_change (change_between d e) (change_at o g)) (h refl)
    ∙ ap (λ o. first_change (change_between d e) (change_at None o)) (k refl)
    ∙ first_none (change_between d e)
both_by false d e f g h k = refl

none_either : (b : Bool) → ◌≡◌ {A = Option PlanChange} (if b then None else None) None
none_either true = refl
none_either false = refl

found_change : (p q : Path) (c : Option PlanChange)
    → found_at p (change_line q c) ≡ (if is_eq (path_cmp p q) then c else None)
found_change p q None = sym (none_either (is_eq (path_cmp p q)))
found_change p q (Some c) = refl

alike_behind : (p a b : Path) → path_cmp a b ≡ Equal → path_cmp p a ≡ path_cmp p b
alike_behind p a b e =
    path_total.antisymm p a ∙ ap ordering_reverse (path_total.congr a b p e)
    ∙ sym (path_total.antisymm p b)

-- ---- lists of paths that ascend

all_without : (P : Path → Type 0) (ls : List Path) (a : Path) (xs : List Path)
    → AllByRecursion P (ls ++ a ∷ xs) → AllByRecursion P (ls ++ xs)
all_without P [] a xs h = h.1
all_without P (l ∷ ls) a xs h = (h.0, all_without P ls a xs h.1)

all_with : (P : Path → Type 0) (ls : List Path) (a : Path) (xs ys : List Path)
    → AllByRecursion P (ls ++ a ∷ xs) → AllByRecursion P (ls ++ ys)
    → AllByRecursion P (ls ++ a ∷ ys)
all_with P [] a xs ys h g = (h.0, g)
all_with P (l ∷ ls) a xs ys h g = (h.0, all_with P ls a xs ys h.1 g.1)

middle_out : (ls : List Path) (a : Path) (xs : List Path) → IsAscending (ls ++ a ∷ xs)
    → IsAscending (ls ++ xs)
unfolding IsStrictlySortedBy
middle_out [] a xs h = h.1
middle_out (l ∷ ls) a xs h =
    (all_without (λ q. path_cmp l q ≡ Less) ls a xs h.0, middle_out ls a xs h.1)

middle_in : (ls : List Path) (a : Path) (xs ys : List Path) → IsAscending (ls ++ a ∷ xs)
    → IsAscending (ls ++ ys) → IsBefore a ys → IsAscending (ls ++ a ∷ ys)
unfolding IsStrictlySortedBy
middle_in [] a xs ys h g before = (before, g)
middle_in (l ∷ ls) a xs ys h g before = (
  all_with (λ q. path_cmp l q ≡ Less) ls a xs ys h.0 g.0,
  middle_in ls a xs ys h.1 g.1 before,
)

before_of : (ls : List Path) (a : Path) (xs : List Path) → IsAscending (ls ++ a ∷ xs)
    → IsBefore a xs
unfolding IsStrictlySortedBy
before_of [] a xs h = h.0
before_of (l ∷ ls) a xs h = before_of ls a xs h.1

one_more : (lines : List PlanLine) (l : PlanLine) (ps : List Path)
    → map line_path (lines ++ l ∷ []) ++ ps ≡ map line_path lines ++ l.0 ∷ ps
one_more lines l ps =
    ap (λ qs. qs ++ ps) (map-append line_path lines (l ∷ []))
    ∙ append_assoc (map line_path lines) (l.0 ∷ []) ps

-- ---- the walk

-- how far the walk has come: the lines so far and what is left give the plan, and the paths of both
-- ascend
pub record HasCome (old new : List PathLeaf) (lines : List PlanLine) (xs ys : List PathLeaf) : Type 0 where
  pub each : (p : Path) → first_change (found_at p lines) (change_at (found_at p xs) (found_at p ys))
      ≡ change_at (found_at p old) (found_at p new)
  pub old_ascends : IsAscending (map line_path lines ++ paths xs)
  pub new_ascends : IsAscending (map line_path lines ++ paths ys)

pub begun : (old new : List PathLeaf) → IsAscending (paths old) → IsAscending (paths new)
    → HasCome old new [] old new
begun old new h g = record { each = λ p. refl; old_ascends = h; new_ascends = g }

with_lines : (p : Path) (lines more : List PlanLine) (r s : Option PlanChange)
    → first_change (found_at p more) r ≡ s
    → first_change (found_at p (lines ++ more)) r ≡ first_change (found_at p lines) s
with_lines p lines more r s h =
    ap (λ o. first_change o r) (found_at-append p lines more)
    ∙ first_assoc (found_at p lines) (found_at p more) r ∙ ap (first_change (found_at p lines)) h

-- the first of the old leaves stands before all of the new ones
pub gone : (old new : List PathLeaf) (lines : List PlanLine) (a : PathLeaf) (xs ys : List PathLeaf)
    → HasCome old new lines (a ∷ xs) ys → IsBefore a.0 (paths ys)
    → HasCome old new (lines ++ removal a ∷ []) xs ys
gone old new lines a xs ys h before = record {
  each = λ p.
      with_lines p lines (removal a ∷ []) _ _
      (gone_by (is_eq (path_cmp p a.0)) a.1 (found_at p xs) (found_at p ys)
      (missing_at p a.0 ys before))
      ∙ h.each p;
  old_ascends = subst IsAscending (sym (one_more lines (removal a) (paths xs))) h.old_ascends;
  new_ascends = subst IsAscending (sym (one_more lines (removal a) (paths ys)))
      (middle_in (map line_path lines) a.0 (paths xs) (paths ys) h.old_ascends h.new_ascends before);
}

-- the first of the new leaves stands before all of the old ones
pub come : (old new : List PathLeaf) (lines : List PlanLine) (b : PathLeaf) (xs ys : List PathLeaf)
    → HasCome old new lines xs (b ∷ ys) → IsBefore b.0 (paths xs)
    → HasCome old new (lines ++ addition b ∷ []) xs ys
come old new lines b xs ys h before = record {
  each = λ p.
      with_lines p lines (addition b ∷ []) _ _
      (come_by (is_eq (path_cmp p b.0)) b.1 (found_at p xs) (found_at p ys)
      (missing_at p b.0 xs before))
      ∙ h.each p;
  old_ascends = subst IsAscending (sym (one_more lines (addition b) (paths xs)))
      (middle_in (map line_path lines) b.0 (paths ys) (paths xs) h.new_ascends h.old_ascends before);
  new_ascends = subst IsAscending (sym (one_more lines (addition b) (paths ys))) h.new_ascends;
}

both_ascend : (lines : List PlanLine) (q : Path) (c : Option PlanChange) (ps : List Path)
    → IsAscending (map line_path lines ++ ps) → IsAscending (map line_path lines ++ q ∷ ps)
    → IsAscending (map line_path (lines ++ change_line q c) ++ ps)
both_ascend lines q None ps h g =
    subst (λ ls. IsAscending (map line_path ls ++ ps)) (sym (append-nil lines)) h
both_ascend lines q (Some c) ps h g = subst IsAscending (sym (one_more lines (q, c) ps)) g

both_at : (p : Path) (a b : PathLeaf) (xs ys : List PathLeaf) → path_cmp a.0 b.0 ≡ Equal
    → IsBefore a.0 (paths xs) → IsBefore a.0 (paths ys)
    → first_change (found_at p (change_line a.0 (change_between a.1 b.1)))
    (change_at (found_at p xs) (found_at p ys))
    ≡ change_at (found_at p (a ∷ xs)) (found_at p (b ∷ ys))
both_at p a b xs ys e before_xs before_ys =
    ap (λ o. first_change o (change_at (found_at p xs) (found_at p ys)))
    (found_change p a.0 (change_between a.1 b.1))
    ∙ both_by (is_eq (path_cmp p a.0)) a.1 b.1 (found_at p xs) (found_at p ys)
    (missing_at p a.0 xs before_xs) (missing_at p a.0 ys before_ys)
    ∙ ap (λ o. change_at (found_at p (a ∷ xs)) (if is_eq o then Some b.1 else found_at p ys))
    (alike_behind p a.0 b.0 e)

-- the first leaves stand at one path
pub both : (old new : List PathLeaf) (lines : List PlanLine) (a b : PathLeaf)
    (xs ys : List PathLeaf) → HasCome old new lines (a ∷ xs) (b ∷ ys) → path_cmp a.0 b.0 ≡ Equal
    → HasCome old new (lines ++ change_line a.0 (change_between a.1 b.1)) xs ys
both old new lines a b xs ys h e =
    let ls = map line_path lines in
    let before_xs = before_of ls a.0 (paths xs) h.old_ascends in
    let before_ys = before_alike a.0 b.0 (paths ys) e (before_of ls b.0 (paths ys) h.new_ascends) in
    let less = middle_out ls b.0 (paths ys) h.new_ascends in
    record {
      each = λ p.
          with_lines p lines (change_line a.0 (change_between a.1 b.1)) _ _
          (both_at p a b xs ys e before_xs before_ys)
          ∙ h.each p;
      old_ascends = both_ascend lines a.0 (change_between a.1 b.1) (paths xs)
          (middle_out ls a.0 (paths xs) h.old_ascends) h.old_ascends;
      new_ascends = both_ascend lines a.0 (change_between a.1 b.1) (paths ys) less
          (middle_in ls a.0 (paths xs) (paths ys) h.old_ascends less before_ys);
    }

-- the first old leaf stands before the first new one, and so before all
pub gone_first : (old new : List PathLeaf) (lines : List PlanLine) (a b : PathLeaf)
    (xs ys : List PathLeaf) → HasCome old new lines (a ∷ xs) (b ∷ ys) → path_cmp a.0 b.0 ≡ Less
    → HasCome old new (lines ++ removal a ∷ []) xs (b ∷ ys)
gone_first old new lines a b xs ys h e =
    gone old new lines a xs (b ∷ ys) h (
      e,
      before_less a.0 b.0 (paths ys) e
          (before_of (map line_path lines) b.0 (paths ys) h.new_ascends),
    )

-- the first new leaf stands before the first old one, and so before all
pub come_first : (old new : List PathLeaf) (lines : List PlanLine) (a b : PathLeaf)
    (xs ys : List PathLeaf) → HasCome old new lines (a ∷ xs) (b ∷ ys)
    → path_cmp a.0 b.0 ≡ Greater → HasCome old new (lines ++ addition b ∷ []) (a ∷ xs) ys
come_first old new lines a b xs ys h e =
    let turned = path_total.antisymm b.0 a.0 ∙ ap ordering_reverse e in
    come old new lines b (a ∷ xs) ys h (
      turned,
      before_less b.0 a.0 (paths xs) turned
          (before_of (map line_path lines) a.0 (paths xs) h.old_ascends),
    )

all_gone : (old new : List PathLeaf) (lines : List PlanLine) (xs : List PathLeaf)
    → HasCome old new lines xs [] → HasCome old new (lines ++ removals xs) [] []
all_gone old new lines [] h =
    subst (λ ls. HasCome old new ls [] []) (sym (append-nil lines)) h
all_gone old new lines (a ∷ xs) h =
    subst (λ ls. HasCome old new ls [] []) (append_assoc lines (removal a ∷ []) (removals xs))
    (all_gone old new (lines ++ removal a ∷ []) xs (gone old new lines a xs [] h tt))

all_come : (old new : List PathLeaf) (lines : List PlanLine) (ys : List PathLeaf)
    → HasCome old new lines [] ys → HasCome old new (lines ++ additions ys) [] []
all_come old new lines [] h =
    subst (λ ls. HasCome old new ls [] []) (sym (append-nil lines)) h
all_come old new lines (b ∷ ys) h =
    subst (λ ls. HasCome old new ls [] []) (append_assoc lines (addition b ∷ []) (additions ys))
    (all_come old new (lines ++ addition b ∷ []) ys (come old new lines b [] ys h tt))

nothing_left : (old new : List PathLeaf) (lines : List PlanLine) → HasCome old new lines [] []
    → IsPlan old new lines
nothing_left old new lines h = record {
  ascending = subst IsAscending (append-nil (map line_path lines)) h.old_ascends;
  each = λ p. sym (first_none (found_at p lines)) ∙ h.each p;
}

-- where no old leaf is left
pub old_ended : (old new : List PathLeaf) (lines : List PlanLine) (xs ys : List PathLeaf)
    → xs ≡ [] → HasCome old new lines xs ys
    → IsPlan old new (lines ++ removals xs ++ additions ys)
old_ended old new lines xs ys is h =
    nothing_left old new (lines ++ removals xs ++ additions ys)
    (all_come old new (lines ++ removals xs) ys
    (subst (λ zs. HasCome old new (lines ++ removals zs) [] ys) (sym is)
    (subst (λ ls. HasCome old new ls [] ys) (sym (append-nil lines))
    (subst (λ zs. HasCome old new lines zs ys) is h))))

-- where no new leaf is left
pub new_ended : (old new : List PathLeaf) (lines : List PlanLine) (xs ys : List PathLeaf)
    → ys ≡ [] → HasCome old new lines xs ys
    → IsPlan old new (lines ++ removals xs ++ additions ys)
new_ended old new lines xs ys is h =
    nothing_left old new (lines ++ removals xs ++ additions ys)
    (subst (λ zs. HasCome old new (lines ++ removals xs ++ additions zs) [] []) (sym is)
    (subst (λ ls. HasCome old new ls [] []) (sym (append-nil (lines ++ removals xs)))
    (all_gone old new lines xs (subst (λ zs. HasCome old new lines xs zs) is h))))

-- ---- a turn, and the end, as the program's lists have them

-- the leaf at an index, and those behind it
pub leaf_first : (ls : List Leaf) (i : ℕ) (a : Leaf) → i < length ls → a ≡ get_or ls i a
    → leaves_seen (drop i ls) ≡ leaf_seen a ∷ leaves_seen (drop (i + 1) ls)
leaf_first ls i a h is =
    at_drop_more leaves_seen ls i a h
    ∙ ap (λ x. leaf_seen x ∷ leaves_seen (drop (i + 1) ls)) (sym is)

pub no_leaf_left : (ls : List Leaf) (i : ℕ) → length ls ≤ i → leaves_seen (drop i ls) ≡ []
no_leaf_left ls i h = at_drop_all leaves_seen ls i h

module _ (old new : List PathLeaf) (lines now : List PlanLine) (o : Ordering) (a b : PathLeaf) (xs ys more_xs more_ys : List PathLeaf) where
  at_first : xs ≡ a ∷ more_xs → ys ≡ b ∷ more_ys → HasCome old new lines xs ys
      → HasCome old new lines (a ∷ more_xs) (b ∷ more_ys)
  at_first is_xs is_ys h =
      subst (HasCome old new lines (a ∷ more_xs)) is_ys
      (subst (λ zs. HasCome old new lines zs ys) is_xs h)

  pub turn_less : o ≡ Less → o ≡ path_cmp a.0 b.0 → now ≡ lines ++ turn_lines o a b
      → xs ≡ a ∷ more_xs → ys ≡ b ∷ more_ys → HasCome old new lines xs ys
      → HasCome old new now more_xs ys
  turn_less less order is is_xs is_ys h =
      subst (λ ls. HasCome old new ls more_xs ys)
      (sym (is ∙ ap (λ q. lines ++ turn_lines q a b) less))
      (subst (HasCome old new (lines ++ removal a ∷ []) more_xs) (sym is_ys)
      (gone_first old new lines a b more_xs more_ys (at_first is_xs is_ys h) (sym order ∙ less)))

  pub turn_greater : o ≡ Greater → o ≡ path_cmp a.0 b.0 → now ≡ lines ++ turn_lines o a b
      → xs ≡ a ∷ more_xs → ys ≡ b ∷ more_ys → HasCome old new lines xs ys
      → HasCome old new now xs more_ys
  turn_greater greater order is is_xs is_ys h =
      subst (λ ls. HasCome old new ls xs more_ys)
      (sym (is ∙ ap (λ q. lines ++ turn_lines q a b) greater))
      (subst (λ zs. HasCome old new (lines ++ addition b ∷ []) zs more_ys) (sym is_xs)
      (come_first old new lines a b more_xs more_ys (at_first is_xs is_ys h) (sym order ∙ greater)))

  pub turn_equal : o ≡ Equal → o ≡ path_cmp a.0 b.0 → now ≡ lines ++ turn_lines o a b
      → xs ≡ a ∷ more_xs → ys ≡ b ∷ more_ys → HasCome old new lines xs ys
      → HasCome old new now more_xs more_ys
  turn_equal equal order is is_xs is_ys h =
      subst (λ ls. HasCome old new ls more_xs more_ys)
      (sym (is ∙ ap (λ q. lines ++ turn_lines q a b) equal))
      (both old new lines a b more_xs more_ys (at_first is_xs is_ys h) (sym order ∙ equal))

module _ (old new : List PathLeaf) (lines mid last : List PlanLine) (gone_now come_now xs ys : List Leaf) where
  at_last : gone_now ≡ xs → come_now ≡ ys → mid ≡ lines ++ removals (leaves_seen gone_now)
      → last ≡ mid ++ additions (leaves_seen come_now)
      → last ≡ lines ++ removals (leaves_seen xs) ++ additions (leaves_seen ys)
  at_last is_gone is_come is_mid is_last =
      is_last ∙ ap (λ ls. ls ++ additions (leaves_seen come_now)) is_mid
      ∙ ap (λ zs. lines ++ removals (leaves_seen zs) ++ additions (leaves_seen come_now)) is_gone
      ∙ ap (λ zs. lines ++ removals (leaves_seen xs) ++ additions (leaves_seen zs)) is_come

  pub ends_with_new : gone_now ≡ xs → come_now ≡ ys
      → mid ≡ lines ++ removals (leaves_seen gone_now)
      → last ≡ mid ++ additions (leaves_seen come_now) → leaves_seen xs ≡ []
      → HasCome old new lines (leaves_seen xs) (leaves_seen ys) → IsPlan old new last
  ends_with_new is_gone is_come is_mid is_last none h =
      subst (IsPlan old new) (sym (at_last is_gone is_come is_mid is_last))
      (old_ended old new lines (leaves_seen xs) (leaves_seen ys) none h)

  pub ends_with_old : gone_now ≡ xs → come_now ≡ ys
      → mid ≡ lines ++ removals (leaves_seen gone_now)
      → last ≡ mid ++ additions (leaves_seen come_now) → leaves_seen ys ≡ []
      → HasCome old new lines (leaves_seen xs) (leaves_seen ys) → IsPlan old new last
  ends_with_old is_gone is_come is_mid is_last none h =
      subst (IsPlan old new) (sym (at_last is_gone is_come is_mid is_last))
      (new_ended old new lines (leaves_seen xs) (leaves_seen ys) none h)
