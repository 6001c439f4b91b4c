-- The domains of cells name classes that are there.
use Rattle.std.proofs.Common.{◌≡◌, ℕ, zero, suc, ◌+◌, ◌<◌, List, [], ◌∷◌, ◌++◌, length, refl, sym, subst, arith}
use Rattle.std.specs.Prelude.{All, Contains}
use Rattle.std.proofs.lemmas.Grind.{flat_map-append}
use Rattle.std.proofs.lemmas.List.Elements.{All-nil, All-cons, All-append, All-head, All-tail, All-map, All-same, All-contains_itself, All-weaker}
use Rattle.class_table.specs.declared.table.Resolved.{Resolved}
use Rattle.class_table.specs.declared.table.Resolved.TheVariants.{Span, Truth, Choice, One, Many, Ref, RefSet}
use Rattle.class_table.specs.declared.table.Variable.{Variable}
use Rattle.class_table.specs.Outline.{Outline, attributes}
use Rattle.class_table.specs.Sound.{IsSound}
use Rattle.class_table.specs.Tables.{IsShapeOf}
use Rattle.object_alloc.specs.declared.object.Cell.{Cell}
use Rattle.object_alloc.specs.declared.object.Leaf.{Leaf}
use Rattle.object_alloc.specs.declared.object.Object.{Object}
use Rattle.object_alloc.specs.Cells.{extent, leaf_cells, shape_cells, cell, cells, IsDomainOf}
use Rattle.object_alloc.specs.Laying.{cells_of}
use Rattle.object_alloc.specs.Walk.{Met, Made, Passed, Visit, Inside, leaf_met, leaves_in, object, leaf, elements, attribute, members, within, top, visit_to, visit, walk, made}
use Rattle.object_alloc.proofs.ShapeLaws.{shapes, root_shapes}

module _ (o : Outline) where
  abbrev HasShape : Resolved → Type 0
  HasShape s = IsShapeOf (length o.classes) (length o.enumerations) s

  abbrev HasLeaves : List Met → Type 0
  HasLeaves ms = All (λ (l : Leaf). HasShape l.shape) (leaves_in ms)

  both : (xs ys : List Met) → HasLeaves xs → HasLeaves ys → HasLeaves (xs ++ ys)
  both xs ys a b = All-same (λ (l : Leaf). HasShape l.shape) (leaves_in (xs ++ ys)) (leaves_in xs ++ leaves_in ys) (flat_map-append leaf_met xs ys) (All-append (λ (l : Leaf). HasShape l.shape) (leaves_in xs) (leaves_in ys) a b)

  passed : (l : Leaf) → HasShape l.shape → HasLeaves (Passed l ∷ [])
  passed l h = All-cons (λ (m : Leaf). HasShape m.shape) l [] h (All-nil (λ (m : Leaf). HasShape m.shape))

  module _ (go : Visit) (each : (n : ℕ) (x : Object) → HasLeaves (go n x)) where
    of_elements : (w : Inside) (k c m i n : ℕ) → HasLeaves (elements go w k c m i n)
    of_elements w k c zero i n = All-nil (λ (l : Leaf). HasShape l.shape)
    of_elements w k c (suc m) i n =
        let here = go n (object w k c i) in
        both here (elements go w k c m (i + 1) (n + made here)) (each n (object w k c i)) (of_elements w k c m (i + 1) (n + made here))

    of_attribute : (w : Inside) (k : ℕ) (s : Resolved) (n : ℕ) → HasShape s → HasLeaves (attribute go w k s n)
    of_attribute w k (One c) n h = each n (object w k c 0)
    of_attribute w k (Many c m) n h = of_elements w k c m 0 n
    of_attribute w k (Span low high) n h = passed (leaf w k (Span low high)) h
    of_attribute w k Truth n h = passed (leaf w k Truth) h
    of_attribute w k (Choice e) n h = passed (leaf w k (Choice e)) h
    of_attribute w k (Ref c) n h = passed (leaf w k (Ref c)) h
    of_attribute w k (RefSet c m) n h = passed (leaf w k (RefSet c m)) h

    of_members : (w : Inside) (k : ℕ) (vs : List Variable) (n : ℕ) → All (λ (v : Variable). HasShape v.shape) vs → HasLeaves (members go w k vs n)
    of_members w k [] n all = All-nil (λ (l : Leaf). HasShape l.shape)
    of_members w k (v ∷ vs) n all =
        let here = attribute go w k v.shape n in
        both here (members go w (k + 1) vs (n + made here))
        (of_attribute w k v.shape n (All-head (λ (u : Variable). HasShape u.shape) v vs all))
        (of_members w (k + 1) vs (n + made here) (All-tail (λ (u : Variable). HasShape u.shape) v vs all))

  module _ (sound : IsSound o) where
    of_class : (c : ℕ) → All (λ (v : Variable). HasShape v.shape) (attributes o.classes c)
    of_class c = All-weaker (Contains (attributes o.classes c)) (λ (v : Variable). HasShape v.shape) (λ v has. shapes o sound c v has) (attributes o.classes c) (All-contains_itself (attributes o.classes c))

    of_roots : All (λ (v : Variable). HasShape v.shape) o.roots
    of_roots = All-weaker (Contains o.roots) (λ (v : Variable). HasShape v.shape) (λ v has. root_shapes o sound v has) o.roots (All-contains_itself o.roots)

    of_visit : (levels n : ℕ) (x : Object) → HasLeaves (visit_to o levels n x)
    of_visit zero n x = All-nil (λ (l : Leaf). HasShape l.shape)
    of_visit (suc levels) n x = of_members (visit_to o levels) (of_visit levels) (within n x) 0 (attributes o.classes x.class) (n + 1) (of_class x.class)

    of_walk : HasLeaves (walk o)
    of_walk = of_members (visit o) (of_visit (length o.classes)) top 0 o.roots 0 of_roots

  abbrev HasDomain : Cell → Type 0
  HasDomain c = IsDomainOf (length o.classes) c.domain

  single : (c : Cell) → HasDomain c → All HasDomain (c ∷ [])
  single c h = All-cons HasDomain c [] h (All-nil HasDomain)

  of_leaf : (l : Leaf) (s : Resolved) → HasShape s → All HasDomain (shape_cells o l s)
  of_leaf l (Span low high) h = single _ tt
  of_leaf l Truth h = single _ tt
  of_leaf l (Choice e) h = single _ tt
  of_leaf l (Ref c) h = single _ h
  of_leaf l (RefSet c m) h = All-map HasDomain _ (extent o c) (λ k d lt. tt)
  of_leaf l (One c) h = All-nil HasDomain
  of_leaf l (Many c m) h = All-nil HasDomain

  of_leaves : (ls : List Leaf) → All (λ (l : Leaf). HasShape l.shape) ls → All HasDomain (cells_of o ls)
  of_leaves [] all = All-nil HasDomain
  of_leaves (l ∷ ls) all = All-append HasDomain (leaf_cells o l) (cells_of o ls) (of_leaf l l.shape (All-head (λ (m : Leaf). HasShape m.shape) l ls all)) (of_leaves ls (All-tail (λ (m : Leaf). HasShape m.shape) l ls all))

pub domains_there : (o : Outline) → IsSound o → All (λ (c : Cell). IsDomainOf (length o.classes) c.domain) (cells o)
domains_there o sound = of_leaves o (leaves_in (walk o)) (of_walk o sound)
