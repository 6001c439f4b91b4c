-- The numbers of the items that pass a test, and what those items are.
use Rattle.std.proofs.Common.{◌≡◌, ℕ, zero, suc, ◌+◌, Bool, true, false, cond, List, [], ◌∷◌, ◌++◌, Option, Some, length, map, refl, ap, sym, ◌∙◌, subst, arith, length-append, append_assoc, append-nil}
use Rattle.std.specs.Prelude.{slice_get, pos}
use Rattle.std.specs.List.{filter, flat_map}
use Rattle.std.proofs.lemmas.List.Elements.{filter-append}
use Rattle.class_table.specs.declared.table.Resolved.{Resolved}
use Rattle.class_table.specs.declared.table.Resolved.TheVariants.{Span, Truth, Choice, One, Many, Ref, RefSet}
use Rattle.class_table.specs.Outline.{Outline}
use Rattle.object_alloc.specs.declared.object.Cell.{Cell}
use Rattle.object_alloc.specs.declared.object.Domain.TheVariants as domain
use Rattle.object_alloc.specs.declared.object.Leaf.{Leaf}
use Rattle.object_alloc.specs.Cells.{cell, extent, member_cells, shape_cells, leaf_cells}
use Rattle.object_alloc.specs.Groups.{numbers_from, is_part_of, is_cell_of}
use Rattle.object_alloc.specs.Own.{held, held_from}
use Rattle.object_alloc.specs.Walk.{Met, Made, Passed, Inside, object, leaf, objects_in, leaves_in}
use Rattle.object_alloc.proofs.OwnWalk.{is_leaf_of, kept, first_elements, first_met}

module _ {X : Type 0} (test : X → Bool) where
  at_end : (pre xs : List X) (x : X) (n : ℕ) → n ≡ length pre → slice_get (pre ++ x ∷ xs) n ≡ Some x
  at_end [] xs x n e = ap (slice_get (x ∷ xs)) e
  at_end (p ∷ ps) xs x zero e = absurd (omega (arith, e))
  at_end (p ∷ ps) xs x (suc n) e = at_end ps xs x n (omega (arith, e))

  -- the numbers are those of the items that the filter keeps
  numbers_are : (pre xs : List X) (n : ℕ) → n ≡ length pre → map (λ i. slice_get (pre ++ xs) i) (numbers_from test n xs) ≡ map Some (filter test xs)
  numbers_are pre [] n at = refl
  numbers_are pre (x ∷ xs) n at =
      let whole : (pre ++ x ∷ []) ++ xs ≡ pre ++ x ∷ xs = append_assoc pre (x ∷ []) xs in
      let rest = numbers_are (pre ++ x ∷ []) xs (suc n) (omega (arith, at, length-append pre (x ∷ []))) in
      by (test x) (subst (λ ys. map (λ i. slice_get ys i) (numbers_from test (suc n) xs) ≡ map Some (filter test xs)) whole rest)
    where
      by : (b : Bool) → map (λ i. slice_get (pre ++ x ∷ xs) i) (numbers_from test (suc n) xs) ≡ map Some (filter test xs) → map (λ i. slice_get (pre ++ x ∷ xs) i) (cond b (n ∷ numbers_from test (suc n) xs) (numbers_from test (suc n) xs)) ≡ map Some (cond b (x ∷ filter test xs) (filter test xs))
      by true rest = ap (λ (y : Option X). y ∷ map (λ i. slice_get (pre ++ x ∷ xs) i) (numbers_from test (suc n) xs)) (at_end pre xs x n at) ∙ ap (λ (ys : List (Option X)). Some x ∷ ys) rest
      by false rest = rest

  pub filtered : (xs : List X) → map (λ i. slice_get xs i) (numbers_from test 0 xs) ≡ map Some (filter test xs)
  filtered xs = numbers_are [] xs 0 refl

module _ (owner : Option ℕ) (k : ℕ) where
  pub kept_objects : (ms : List Met) → objects_in (kept owner k ms) ≡ filter (is_part_of owner k) (objects_in ms)
  kept_objects [] = refl
  kept_objects (Made x ∷ ms) = by (is_part_of owner k x) (kept_objects ms)
    where
      by : (b : Bool) → objects_in (kept owner k ms) ≡ filter (is_part_of owner k) (objects_in ms) → objects_in (cond b (Made x ∷ kept owner k ms) (kept owner k ms)) ≡ cond b (x ∷ filter (is_part_of owner k) (objects_in ms)) (filter (is_part_of owner k) (objects_in ms))
      by true rest = ap (λ xs. x ∷ xs) rest
      by false rest = rest
  kept_objects (Passed l ∷ ms) = by (is_leaf_of owner k l) (kept_objects ms)
    where
      by : (b : Bool) → objects_in (kept owner k ms) ≡ filter (is_part_of owner k) (objects_in ms) → objects_in (cond b (Passed l ∷ kept owner k ms) (kept owner k ms)) ≡ filter (is_part_of owner k) (objects_in ms)
      by true rest = rest
      by false rest = rest

  module _ (o : Outline) where
    members_kept : (l : Leaf) (b : Bool) → is_leaf_of owner k l ≡ b → (numbers : List ℕ) → filter (is_cell_of owner k) (member_cells l numbers) ≡ cond b (member_cells l numbers) []
    members_kept l true e [] = refl
    members_kept l false e [] = refl
    members_kept l true e (n ∷ ns) = rw e (ap (λ cs. cell l (Some n) (domain.Span (pos 0) (pos 1)) ∷ cs) (members_kept l true e ns))
    members_kept l false e (n ∷ ns) = rw e (members_kept l false e ns)

    none_kept : (b : Bool) → ◌≡◌ {A = List Cell} [] (cond b [] [])
    none_kept true = refl
    none_kept false = refl

    -- a leaf's cells have its owner and its attribute
    shape_kept : (l : Leaf) (s : Resolved) → filter (is_cell_of owner k) (shape_cells o l s) ≡ cond (is_leaf_of owner k l) (shape_cells o l s) []
    shape_kept l (Span low high) = refl
    shape_kept l Truth = refl
    shape_kept l (Choice e) = refl
    shape_kept l (Ref c) = refl
    shape_kept l (RefSet c m) = members_kept l (is_leaf_of owner k l) refl (extent o c)
    shape_kept l (One c) = none_kept (is_leaf_of owner k l)
    shape_kept l (Many c m) = none_kept (is_leaf_of owner k l)

    pub kept_cells : (ms : List Met) → flat_map (leaf_cells o) (leaves_in (kept owner k ms)) ≡ filter (is_cell_of owner k) (flat_map (leaf_cells o) (leaves_in ms))
    kept_cells [] = refl
    kept_cells (Made x ∷ ms) = by (is_part_of owner k x) (kept_cells ms)
      where
        by : (b : Bool) → flat_map (leaf_cells o) (leaves_in (kept owner k ms)) ≡ filter (is_cell_of owner k) (flat_map (leaf_cells o) (leaves_in ms)) → flat_map (leaf_cells o) (leaves_in (cond b (Made x ∷ kept owner k ms) (kept owner k ms))) ≡ filter (is_cell_of owner k) (flat_map (leaf_cells o) (leaves_in ms))
        by true rest = rest
        by false rest = rest
    kept_cells (Passed l ∷ ms) = by (is_leaf_of owner k l) (shape_kept l l.shape) (kept_cells ms)
      where
        by : (b : Bool) → filter (is_cell_of owner k) (leaf_cells o l) ≡ cond b (leaf_cells o l) [] → flat_map (leaf_cells o) (leaves_in (kept owner k ms)) ≡ filter (is_cell_of owner k) (flat_map (leaf_cells o) (leaves_in ms)) → flat_map (leaf_cells o) (leaves_in (cond b (Passed l ∷ kept owner k ms) (kept owner k ms))) ≡ filter (is_cell_of owner k) (leaf_cells o l ++ flat_map (leaf_cells o) (leaves_in ms))
        by true here rest = ap (λ cs. leaf_cells o l ++ cs) rest ∙ ap (λ cs. cs ++ filter (is_cell_of owner k) (flat_map (leaf_cells o) (leaves_in ms))) (sym here) ∙ sym (filter-append (is_cell_of owner k) (leaf_cells o l) (flat_map (leaf_cells o) (leaves_in ms)))
        by false here rest = rest ∙ ap (λ cs. cs ++ filter (is_cell_of owner k) (flat_map (leaf_cells o) (leaves_in ms))) (sym here) ∙ sym (filter-append (is_cell_of owner k) (leaf_cells o l) (flat_map (leaf_cells o) (leaves_in ms)))

-- What stands first

elements_objects : (w : Inside) (k c m i : ℕ) → objects_in (first_elements w k c m i) ≡ held_from w k c m i
elements_objects w k c zero i = refl
elements_objects w k c (suc m) i = ap (λ xs. object w k c i ∷ xs) (elements_objects w k c m (i + 1))

pub first_objects : (w : Inside) (k : ℕ) (s : Resolved) → objects_in (first_met w k s) ≡ held w k s
first_objects w k (One c) = refl
first_objects w k (Many c m) = elements_objects w k c m 0
first_objects w k (Span low high) = refl
first_objects w k Truth = refl
first_objects w k (Choice e) = refl
first_objects w k (Ref c) = refl
first_objects w k (RefSet c m) = refl

elements_leaves : (w : Inside) (k c m i : ℕ) → leaves_in (first_elements w k c m i) ≡ []
elements_leaves w k c zero i = refl
elements_leaves w k c (suc m) i = elements_leaves w k c m (i + 1)

pub first_cells : (o : Outline) (w : Inside) (k : ℕ) (s : Resolved) → flat_map (leaf_cells o) (leaves_in (first_met w k s)) ≡ leaf_cells o (leaf w k s)
first_cells o w k (One c) = refl
first_cells o w k (Many c m) = ap (flat_map (leaf_cells o)) (elements_leaves w k c m 0)
first_cells o w k (Span low high) = refl
first_cells o w k Truth = refl
first_cells o w k (Choice e) = refl
first_cells o w k (Ref c) = refl
first_cells o w k (RefSet c m) = append-nil (member_cells (leaf w k (RefSet c m)) (extent o c))
