-- The cells of a reference set: each is 0 or 1, and they ascend.
use Rattle.std.proofs.Common.{◌≡◌, ℕ, zero, suc, ◌<◌, ◌≤◌, Bool, true, false, cond, List, [], ◌∷◌, Option, Some, All, length, map, ap, ◌∙◌, arith}
use Rattle.std.specs.Prelude.{slice_get, Contains}
use Rattle.std.proofs.lemmas.List.Elements.{All-nil, All-cons}
use Rattle.class_table.specs.declared.table.Resolved.TheVariants.{RefSet}
use Rattle.class_table.specs.Outline.{Outline}
use Rattle.class_table.specs.Sound.{IsSound}
use Rattle.object_alloc.specs.declared.object.Cell.{Cell}
use Rattle.object_alloc.specs.declared.object.Leaf.{Leaf}
use Rattle.object_alloc.specs.Cells.{cells}
use Rattle.object_alloc.specs.Groups.{numbers_from, is_cell_of, own_cells}
use Rattle.object_alloc.specs.Own.{HasMemberCells, member_cell}
use Rattle.object_alloc.specs.Walk.{walk, leaves_in}
use Rattle.object_alloc.proofs.HeldLeaves.{leaf_held}
use Rattle.object_alloc.proofs.OwnParts.{member_cells_are}
use Rattle.signed_clause.specs.Clauses.{box_of}
use Rattle.ground_form.specs.declared.ground.Ground.{Ground}
use Rattle.ground_cells.specs.CellBoxes.{AscendFrom, domain_box}
use Rattle.expr_forms.specs.Standing.{HasCells}
use Rattle.expr_forms.proofs.Configured.{cell_box, cells_exist}
use Rattle.std.proofs.lemmas.List.{length-map}
use Rattle.ground_model.specs.Sizes.{IsMemberCell}

-- ---- their numbers

ascend_less : (m n : ℕ) (xs : List ℕ) → m ≤ n → AscendFrom n xs → AscendFrom m xs
ascend_less m n [] h s = tt
ascend_less m n (x ∷ xs) h s = (omega (arith, h, s.0), s.1)

numbers_ascend : {X : Type 0} (test : X → Bool) (n : ℕ) (xs : List X) → AscendFrom n (numbers_from test n xs)
numbers_ascend test n [] = tt
numbers_ascend test n (x ∷ xs) = by (test x) (numbers_ascend test (suc n) xs)
  where
    by : (b : Bool) → AscendFrom (suc n) (numbers_from test (suc n) xs) → AscendFrom n (cond b (n ∷ numbers_from test (suc n) xs) (numbers_from test (suc n) xs))
    by true h = (omega arith, h)
    by false h = ascend_less n (suc n) (numbers_from test (suc n) xs) (omega arith) h

numbers_few : {X : Type 0} (test : X → Bool) (n : ℕ) (xs : List X) → length (numbers_from test n xs) ≤ length xs
numbers_few test n [] = omega arith
numbers_few test n (x ∷ xs) = by (test x) (numbers_few test (suc n) xs)
  where
    by : (b : Bool) → length (numbers_from test (suc n) xs) ≤ length xs → length (cond b (n ∷ numbers_from test (suc n) xs) (numbers_from test (suc n) xs)) ≤ suc (length xs)
    by true h = omega (arith, h)
    by false h = omega (arith, h)

pub own_ascend : (o : Outline) (owner : Option ℕ) (k : ℕ) → AscendFrom 0 (own_cells o owner k)
own_ascend o owner k = numbers_ascend (is_cell_of owner k) 0 (cells o)

pub own_few : (o : Outline) (owner : Option ℕ) (k : ℕ) → length (own_cells o owner k) ≤ length (cells o)
own_few o owner k = numbers_few (is_cell_of owner k) 0 (cells o)

-- ---- their boxes

first_same : {X : Type 0} {a b : X} {rest more : List X} → a ∷ rest ≡ b ∷ more → a ≡ b
first_same g = cc

rest_same : {X : Type 0} {a b : X} {rest more : List X} → a ∷ rest ≡ b ∷ more → rest ≡ more
rest_same g = cc

some_is : {X : Type 0} {a b : X} → Some a ≡ Some b → a ≡ b
some_is g = cc

get_low : (cs : List Cell) (i : ℕ) (c : Cell) → slice_get cs i ≡ Some c → i < length cs
get_low [] i c e = cc
get_low (x ∷ cs) zero c e = omega arith
get_low (x ∷ cs) (suc i) c e = let h = get_low cs i c e in omega (arith, h)

mapped_box : (o : Outline) (cs : List Cell) (i : ℕ) (c : Cell) → slice_get cs i ≡ Some c → box_of (map (λ (x : Cell). domain_box o x.domain) cs) i ≡ domain_box o c.domain
mapped_box o [] i c e = cc
mapped_box o (x ∷ xs) zero c e = ap (λ (y : Cell). domain_box o y.domain) (some_is e)
mapped_box o (x ∷ xs) (suc i) c e = mapped_box o xs i c e

module _ (o : Outline) (g : Ground) (there : HasCells o g) (owner : Option ℕ) (k : ℕ) where
  member_is : (i n : ℕ) → slice_get (cells o) i ≡ Some (member_cell owner k n) → IsMemberCell g i
  member_is i n e =
      let low = get_low (cells o) i (member_cell owner k n) e in
      let count = length-map (cells o) (λ (c : Cell). domain_box o c.domain) in
      let found : i < g.search = omega (arith, count, there.searched, low) in
      record { searched = found; exists = cells_exist o g i there found; box = cell_box o g i there found ∙ mapped_box o (cells o) i (member_cell owner k n) e }

  pub members_are : (xs ns : List ℕ) → map (λ i. slice_get (cells o) i) xs ≡ map Some (map (member_cell owner k) ns) → All (IsMemberCell g) xs
  members_are [] ns e = All-nil (IsMemberCell g)
  members_are (x ∷ xs) [] e = cc
  members_are (x ∷ xs) (n ∷ ns) e = All-cons (IsMemberCell g) x xs (member_is x n (first_same e)) (members_are xs ns (rest_same e))

-- ---- those of a leaf

contained_at : (ls : List Leaf) (l : Leaf) → Contains ls l → (i : ℕ) × (slice_get ls i ≡ Some l)
contained_at [] l c = absurd (omega (arith, c.1))
contained_at (m ∷ ls) l (zero, lt, e) = (0, ap (λ (x : Leaf). Some x) e)
contained_at (m ∷ ls) l (suc i, lt, e) =
    let r = contained_at ls l (i, omega (arith, lt), e) in
    (suc r.0, r.1)

pub leaf_cells_are : (o : Outline) → IsSound o → (l : Leaf) (c n : ℕ) → Contains (leaves_in (walk o)) l → l.shape ≡ RefSet c n → HasMemberCells o l.owner l.attribute c
leaf_cells_are o sound l c n has e =
    let at = contained_at (leaves_in (walk o)) l has in
    let h = leaf_held o at.0 l at.1 in
    member_cells_are o sound l.owner l.attribute h.variable h.owner h.has c n (h.shape ∙ e)
