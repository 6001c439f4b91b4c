-- A leaf has as many cells as it gives.
use Rattle.std.proofs.Common.{◌≡◌, ℕ, suc, List, [], ◌∷◌, Some, length, refl, ap, ◌∙◌}
use Rattle.std.specs.Prelude.{slice_get, All, Contains}
use Rattle.std.proofs.lemmas.List.Elements.{All-nil, All-cons, All-contains}
use Rattle.class_table.specs.Outline.{Outline}
use Rattle.class_table.specs.Sound.{IsSound}
use Rattle.object_alloc.specs.declared.object.Leaf.{Leaf}
use Rattle.object_alloc.specs.Cells.{cells, leaf_cells}
use Rattle.object_alloc.specs.Groups.{own_cells}
use Rattle.object_alloc.specs.Leaves.{IsHeldLeaf}
use Rattle.object_alloc.specs.Own.{inside_of}
use Rattle.object_alloc.specs.Walk.{leaf, leaves_in, walk}
use Rattle.object_alloc.proofs.HeldLeaves.{leaf_held}
use Rattle.object_alloc.proofs.OwnLaws.{owned}
use Rattle.object_alloc.proofs.OwnParts.{read_length}

module _ (o : Outline) (sound : IsSound o) where
  held_cells : (l : Leaf) → IsHeldLeaf o l → length (own_cells o l.owner l.attribute) ≡ length (leaf_cells o l)
  held_cells l h =
      let own = owned o sound l.owner l.attribute h.variable h.owner h.has in
      read_length (slice_get (cells o)) (own_cells o l.owner l.attribute) (leaf_cells o (leaf (inside_of o l.owner) l.attribute h.variable.shape)) own.cells
      ∙ ap (λ s. length (leaf_cells o (leaf (inside_of o l.owner) l.attribute s))) h.shape

  counts : (xs : List Leaf) (P : Leaf → Type 0) → ((i : ℕ) (x : Leaf) → slice_get xs i ≡ Some x → P x) → All P xs
  counts [] P h = All-nil P
  counts (x ∷ xs) P h = All-cons P x xs (h 0 x refl) (counts xs P (λ i y e. h (suc i) y e))

  pub own_cells_count : (l : Leaf) → Contains (leaves_in (walk o)) l → length (own_cells o l.owner l.attribute) ≡ length (leaf_cells o l)
  own_cells_count l has =
      All-contains (λ (x : Leaf). length (own_cells o x.owner x.attribute) ≡ length (leaf_cells o x)) (leaves_in (walk o)) l
      (counts (leaves_in (walk o)) (λ (x : Leaf). length (own_cells o x.owner x.attribute) ≡ length (leaf_cells o x)) (λ i x e. held_cells x (leaf_held o i x e))) has
