-- Laying out parts one after the other.
use Rattle.std.proofs.Common.{◌≡◌, ℕ, zero, suc, ◌+◌, ◌-◌, ◌<◌, ◌≤◌, nat_lt, Bool, true, false, cond, List, [], ◌∷◌, ◌++◌, length, drop, refl, ap, sym, ◌∙◌, subst, arith, length-append, append_assoc, append-nil, ◌⊎◌, inl, inr}
use Rattle.std.specs.Prelude.{Contains, replicate}
use Rattle.std.proofs.lemmas.Grind.{flat_map-append}
use Rattle.std.proofs.lemmas.List.Elements.{Contains-append_cases}
use Rattle.class_table.proofs.ListLaws.{contains_one}
use Rattle.std.proofs.lemmas.List.Sums.{sum_by-append, sum_by-cons}
use Rattle.model_limits.specs.Limits.{most_cells, most_names}
use Rattle.class_table.specs.declared.table.Resolved.{Resolved}
use Rattle.class_table.specs.declared.table.Variable.{Variable}
use Rattle.class_table.specs.Outline.{Outline, attributes}
use Rattle.class_table.specs.Sound.{IsSound}
use Rattle.class_table.specs.Tables.{IsShapeOf}
use Rattle.object_alloc.specs.declared.fault.AllocFault.{AllocFault}
use Rattle.object_alloc.specs.declared.fault.AllocFault.TheVariants.{TooManyObjects, TooDeep, TooManyCells, Memory}
use Rattle.object_alloc.specs.declared.layout.Layout.{Layout}
use Rattle.object_alloc.specs.declared.object.Leaf.{Leaf}
use Rattle.object_alloc.specs.declared.object.Object.{Object}
use Rattle.object_alloc.specs.declared.queue.Kind.{Kind}
use Rattle.object_alloc.specs.Cells.{leaf_cells}
use Rattle.object_alloc.specs.Laying.{Part, AreThere, cells_of, met_cells, IsReady, HasLaid, IsLaying, IsCellExcess, IsRefusedPart}
use Rattle.object_alloc.specs.Sums.{kind, held_kinds, kinds_of, kinds_weight, weight, deep}
use Rattle.object_alloc.specs.Walk.{Met, Made, Passed, Visit, Inside, made, object_met, leaf_met, objects_in, leaves_in, elements, attribute, members, within, visit}
use Rattle.object_alloc.proofs.VisitLaws.{visit_next}
use Rattle.object_alloc.proofs.Weights.{weight_next}
use Rattle.object_alloc.proofs.Members.{IsAt}

objects_append : (xs ys : List Met) → objects_in (xs ++ ys) ≡ objects_in xs ++ objects_in ys
objects_append xs ys = flat_map-append object_met xs ys

leaves_append : (xs ys : List Met) → leaves_in (xs ++ ys) ≡ leaves_in xs ++ leaves_in ys
leaves_append xs ys = flat_map-append leaf_met xs ys

cells_append : (o : Outline) (xs ys : List Met) → met_cells o (xs ++ ys) ≡ met_cells o xs ++ met_cells o ys
cells_append o xs ys = ap (cells_of o) (flat_map-append leaf_met xs ys) ∙ flat_map-append (leaf_cells o) (leaves_in xs) (leaves_in ys)

excess_more : (n m : ℕ) (f : AllocFault) → n ≤ m → IsCellExcess n f → IsCellExcess m f
excess_more n m TooManyObjects le h = h
excess_more n m TooDeep le h = h
excess_more n m TooManyCells le h = omega arith
excess_more n m Memory le h = h

-- a part is one part and then another
abbrev pub Splits : Part → Part → Part → Type 0
Splits left here rest = (n : ℕ) → left n ≡ here n ++ rest (n + made (here n))

module _ (o : Outline) (sizes : List ℕ) (before : Layout) (whole : Part) where
  pub started : IsReady o sizes before whole → IsLaying o before before whole whole
  started r = record { objects_are = refl; leaves_are = refl; count = r.count; few_cells = r.few_cells; shapes = r.shapes }

  pub ended : (now : Layout) (left : Part) → IsLaying o before now whole left → ((n : ℕ) → left n ≡ []) → HasLaid o before now whole
  ended now left l e =
      let none = e (length now.objects.items) in
      record {
        objects_are = sym (append-nil now.objects.items) ∙ ap (λ ms. now.objects.items ++ objects_in ms) (sym none) ∙ l.objects_are;
        leaves_are = sym (append-nil now.leaves.items) ∙ ap (λ ms. now.leaves.items ++ leaves_in ms) (sym none) ∙ l.leaves_are;
        count = l.count;
        few_cells = l.few_cells;
        shapes = l.shapes;
      }

  module _ (now : Layout) (left here rest : Part) (l : IsLaying o before now whole left) (s : Splits left here rest) where
    n : ℕ
    n = length now.objects.items

    objects_split : objects_in (left (length now.objects.items)) ≡ objects_in (here (length now.objects.items)) ++ objects_in (rest (length now.objects.items + made (here (length now.objects.items))))
    objects_split = ap objects_in (s (length now.objects.items)) ∙ objects_append (here (length now.objects.items)) (rest (length now.objects.items + made (here (length now.objects.items))))

    leaves_split : leaves_in (left (length now.objects.items)) ≡ leaves_in (here (length now.objects.items)) ++ leaves_in (rest (length now.objects.items + made (here (length now.objects.items))))
    leaves_split = ap leaves_in (s (length now.objects.items)) ∙ leaves_append (here (length now.objects.items)) (rest (length now.objects.items + made (here (length now.objects.items))))

    cells_kept : cells_of o now.leaves.items ++ met_cells o (left (length now.objects.items)) ≡ cells_of o before.leaves.items ++ met_cells o (whole (length before.objects.items))
    cells_kept = sym (flat_map-append (leaf_cells o) now.leaves.items (leaves_in (left (length now.objects.items)))) ∙ ap (cells_of o) l.leaves_are ∙ flat_map-append (leaf_cells o) before.leaves.items (leaves_in (whole (length before.objects.items)))

    cells_split : met_cells o (left (length now.objects.items)) ≡ met_cells o (here (length now.objects.items)) ++ met_cells o (rest (length now.objects.items + made (here (length now.objects.items))))
    cells_split = ap (met_cells o) (s (length now.objects.items)) ∙ cells_append o (here (length now.objects.items)) (rest (length now.objects.items + made (here (length now.objects.items))))

    pub ready_next : IsReady o sizes before whole → IsReady o sizes now here
    ready_next r =
        record {
          sound = r.sound;
          sizes_are = r.sizes_are;
          count = l.count;
          few_cells = l.few_cells;
          shapes = l.shapes;
          few =
              omega (
                arith,
                r.few,
                ap length l.objects_are,
                ap length objects_split,
                length-append now.objects.items (objects_in (left (length now.objects.items))),
                length-append before.objects.items (objects_in (whole (length before.objects.items))),
                length-append (objects_in (here (length now.objects.items))) (objects_in (rest (length now.objects.items + made (here (length now.objects.items))))),
              );
        }

    pub refused_next : (f : AllocFault) → IsRefusedPart o now here f → IsRefusedPart o before whole f
    refused_next f h =
        excess_more (length (cells_of o now.leaves.items) + length (met_cells o (here (length now.objects.items)))) (length (cells_of o before.leaves.items) + length (met_cells o (whole (length before.objects.items)))) f
        (omega (
          arith,
          ap length cells_kept,
          ap length cells_split,
          length-append (cells_of o now.leaves.items) (met_cells o (left (length now.objects.items))),
          length-append (cells_of o before.leaves.items) (met_cells o (whole (length before.objects.items))),
          length-append (met_cells o (here (length now.objects.items))) (met_cells o (rest (length now.objects.items + made (here (length now.objects.items))))),
        )) h

    pub laid_next : (new : Layout) → HasLaid o now new here → IsLaying o before new whole rest
    laid_next new h =
        let number : length now.objects.items + made (here (length now.objects.items)) ≡ length new.objects.items = sym (ap length h.objects_are ∙ length-append now.objects.items (objects_in (here (length now.objects.items)))) in
        record {
          objects_are =
              ap (λ xs. xs ++ objects_in (rest (length new.objects.items))) h.objects_are
              ∙ append_assoc now.objects.items (objects_in (here (length now.objects.items))) (objects_in (rest (length new.objects.items)))
              ∙ ap (λ i. now.objects.items ++ (objects_in (here (length now.objects.items)) ++ objects_in (rest i))) (sym number)
              ∙ ap (λ xs. now.objects.items ++ xs) (sym objects_split)
              ∙ l.objects_are;
          leaves_are =
              ap (λ xs. xs ++ leaves_in (rest (length new.objects.items))) h.leaves_are
              ∙ append_assoc now.leaves.items (leaves_in (here (length now.objects.items))) (leaves_in (rest (length new.objects.items)))
              ∙ ap (λ i. now.leaves.items ++ (leaves_in (here (length now.objects.items)) ++ leaves_in (rest i))) (sym number)
              ∙ ap (λ xs. now.leaves.items ++ xs) (sym leaves_split)
              ∙ l.leaves_are;
          count = h.count;
          few_cells = h.few_cells;
          shapes = h.shapes;
        }

-- The parts of the walk

pub members_split : (f : Visit) (w : Inside) (vs : List Variable) (k : ℕ) (s : Resolved) → IsAt vs k s → Splits (members f w k (drop k vs)) (attribute f w k s) (members f w (k + 1) (drop (k + 1) vs))
members_split f w vs k s a n =
    ap (λ xs. members f w k xs n) a.left
    ∙ ap (λ x. attribute f w k x n ++ members f w (k + 1) (drop (k + 1) vs) (n + made (attribute f w k x n))) (sym a.shape)

pub members_end : (f : Visit) (w : Inside) (vs : List Variable) (k : ℕ) → length vs ≤ k → (n : ℕ) → members f w k (drop k vs) n ≡ []
members_end f w vs k h n = ap (λ xs. members f w k xs n) (none vs k h)
  where
    none : (vs : List Variable) (k : ℕ) → length vs ≤ k → drop k vs ≡ []
    none [] zero h = refl
    none [] (suc k) h = refl
    none (v ∷ vs) zero h = absurd (omega (arith, h))
    none (v ∷ vs) (suc k) h = none vs k (omega (arith, h))

pub elements_split : (f : Visit) (w : Inside) (k c count i : ℕ) → i < count → Splits (elements f w k c (count - i) i) (λ n. f n (record { class = c; depth = w.depth + 1; owner = w.owner; attribute = k; element = i })) (elements f w k c (count - (i + 1)) (i + 1))
elements_split f w k c count i h n =
    let next : count - i ≡ suc (count - (i + 1)) = omega arith in
    ap (λ m. elements f w k c m i n) next

pub elements_end : (f : Visit) (w : Inside) (k c count i : ℕ) → count ≤ i → (n : ℕ) → elements f w k c (count - i) i n ≡ []
elements_end f w k c count i h n =
    let none : count - i ≡ 0 = omega arith in
    ap (λ m. elements f w k c m i n) none

-- Depths

held_least : (v : ℕ → ℕ → ℕ) (d : ℕ) (vs : List Variable) (x : Variable) → Contains vs x → kinds_weight v (held_kinds d x.shape) ≤ kinds_weight v (kinds_of d vs)
held_least v d [] x c = absurd (omega (arith, c.1))
held_least v d (y ∷ ys) x (zero, lt, e) =
    let all = sum_by-append (λ (q : Kind). v q.depth q.class) (held_kinds d y.shape) (kinds_of d ys) in
    let same = ap (λ (z : Variable). kinds_weight v (held_kinds d z.shape)) e in
    omega (arith, all, same)
held_least v d (y ∷ ys) x (suc k, lt, e) =
    let all = sum_by-append (λ (q : Kind). v q.depth q.class) (held_kinds d y.shape) (kinds_of d ys) in
    let rest = held_least v d ys x (k, omega (arith, lt), e) in
    omega (arith, all, rest)

pub held_shallow : (v : ℕ → ℕ → ℕ) (d : ℕ) (vs : List Variable) (k : ℕ) (s : Resolved) → IsAt vs k s → kinds_weight v (kinds_of d vs) ≡ 0 → kinds_weight v (held_kinds d s) ≡ 0
held_shallow v d vs k s a z =
    let le = held_least v d vs a.variable a.has in
    let same = ap (λ x. kinds_weight v (held_kinds d x)) a.shape in
    omega (arith, le, same, z)

pub single_shallow : (v : ℕ → ℕ → ℕ) (c d : ℕ) → kinds_weight v (replicate 1 (kind c d)) ≡ 0 → v d c ≡ 0
single_shallow v c d z = let one = sum_by-cons (λ (q : Kind). v q.depth q.class) (kind c d) [] in omega (arith, one, z)

pub element_shallow : (v : ℕ → ℕ → ℕ) (c d count i : ℕ) → i < count → kinds_weight v (replicate count (kind c d)) ≡ 0 → v d c ≡ 0
element_shallow v c d zero i h z = absurd (omega (arith, h))
element_shallow v c d (suc m) i h z = let one = sum_by-cons (λ (q : Kind). v q.depth q.class) (kind c d) (replicate m (kind c d)) in omega (arith, one, z)

shallow : (c d : ℕ) → deep c d ≡ 0 → d ≤ most_names
shallow c d z = by (nat_lt most_names d) refl z
  where
    by : (b : Bool) → nat_lt most_names d ≡ b → ◌≡◌ {A = ℕ} (cond b 1 0) 0 → d ≤ most_names
    by true e h = absurd (omega (arith, h))
    by false e h = grind (arith, e)

module _ (o : Outline) (sound : IsSound o) (d c : ℕ) (there : c < length o.classes) (z : weight o deep d c ≡ 0) where
  pub object_depth : d ≤ most_names
  object_depth = let next = weight_next o sound.nesting deep d c there in shallow c d (omega (arith, next, z))

  pub object_shallow : kinds_weight (weight o deep) (kinds_of (d + 1) (attributes o.classes c)) ≡ 0
  object_shallow = let next = weight_next o sound.nesting deep d c there in omega (arith, next, z)

-- Objects and leaves

module _ (o : Outline) (before mid : Layout) (x : Object) (m : ℕ) (m_is : m ≡ length before.objects.items) (sound : IsSound o) (there : x.class < length o.classes) (objects_are : mid.objects.items ≡ before.objects.items ++ x ∷ []) (leaves_are : mid.leaves.items ≡ before.leaves.items) (cells_are : mid.cells ≡ before.cells) where
  abbrev inside : Part
  inside = members (visit o) (within m x) 0 (attributes o.classes x.class)

  next : visit o (length before.objects.items) x ≡ Made x ∷ inside (length before.objects.items + 1)
  next = visit_next o sound.nesting (length before.objects.items) x there ∙ ap (λ i. Made x ∷ members (visit o) (within i x) 0 (attributes o.classes x.class) (length before.objects.items + 1)) (sym m_is)

  number : length mid.objects.items ≡ length before.objects.items + 1
  number = ap length objects_are ∙ length-append before.objects.items (x ∷ [])

  pub object_ready : (sizes : List ℕ) → IsReady o sizes before (λ n. visit o n x) → IsReady o sizes mid inside
  object_ready sizes r =
      record {
        sound = r.sound;
        sizes_are = r.sizes_are;
        count = cells_are ∙ r.count ∙ ap (λ ls. length (cells_of o ls)) (sym leaves_are);
        few_cells = subst (λ i. i ≤ most_cells) (sym cells_are) r.few_cells;
        shapes = subst (AreThere o) (sym leaves_are) r.shapes;
        few =
            let whole : made (visit o (length before.objects.items) x) ≡ suc (made (inside (length before.objects.items + 1))) = ap made next in
            let same : made (inside (length mid.objects.items)) ≡ made (inside (length before.objects.items + 1)) = ap (λ i. made (inside i)) number in
            omega (arith, r.few, whole, same, number);
      }

  pub object_refused : (f : AllocFault) → IsRefusedPart o mid inside f → IsRefusedPart o before (λ n. visit o n x) f
  object_refused f h =
      let whole : met_cells o (visit o (length before.objects.items) x) ≡ met_cells o (inside (length before.objects.items + 1)) = ap (met_cells o) next in
      let same : met_cells o (inside (length mid.objects.items)) ≡ met_cells o (inside (length before.objects.items + 1)) = ap (λ i. met_cells o (inside i)) number in
      excess_more (length (cells_of o mid.leaves.items) + length (met_cells o (inside (length mid.objects.items)))) (length (cells_of o before.leaves.items) + length (met_cells o (visit o (length before.objects.items) x))) f
      (omega (arith, ap length whole, ap length same, ap (λ ls. length (cells_of o ls)) leaves_are)) h

  pub object_laid : (after : Layout) → HasLaid o mid after inside → HasLaid o before after (λ n. visit o n x)
  object_laid after h =
      record {
        objects_are =
            h.objects_are
            ∙ ap (λ xs. xs ++ objects_in (inside (length mid.objects.items))) objects_are
            ∙ append_assoc before.objects.items (x ∷ []) (objects_in (inside (length mid.objects.items)))
            ∙ ap (λ i. before.objects.items ++ x ∷ objects_in (inside i)) number
            ∙ ap (λ ms. before.objects.items ++ objects_in ms) (sym next);
        leaves_are =
            h.leaves_are
            ∙ ap (λ ls. ls ++ leaves_in (inside (length mid.objects.items))) leaves_are
            ∙ ap (λ i. before.leaves.items ++ leaves_in (inside i)) number
            ∙ ap (λ ms. before.leaves.items ++ leaves_in ms) (sym next);
        count = h.count;
        few_cells = h.few_cells;
        shapes = h.shapes;
      }

-- a leaf behind the others
pub leaf_laid : (o : Outline) (before after : Layout) (l : Leaf) (n : ℕ) → n ≡ length (leaf_cells o l) → before.cells ≡ length (cells_of o before.leaves.items) → n ≤ most_cells - before.cells → before.cells ≤ most_cells → after.objects.items ≡ before.objects.items → after.leaves.items ≡ before.leaves.items ++ l ∷ [] → after.cells ≡ before.cells + n → AreThere o before.leaves.items → IsShapeOf (length o.classes) (length o.enumerations) l.shape → HasLaid o before after (λ m. Passed l ∷ [])
leaf_laid o before after l n size count few most objects_are leaves_are cells_are shapes shape =
    let single : cells_of o (l ∷ []) ≡ leaf_cells o l = append-nil (leaf_cells o l) in
    let all : cells_of o after.leaves.items ≡ cells_of o before.leaves.items ++ cells_of o (l ∷ []) = ap (cells_of o) leaves_are ∙ flat_map-append (leaf_cells o) before.leaves.items (l ∷ []) in
    record {
      objects_are = objects_are ∙ sym (append-nil before.objects.items);
      leaves_are = leaves_are;
      count = omega (arith, cells_are, count, size, ap length all, ap length single, length-append (cells_of o before.leaves.items) (cells_of o (l ∷ [])));
      few_cells = omega (arith, few, most, cells_are);
      shapes = λ x has. by x (Contains-append_cases before.leaves.items (l ∷ []) x (subst (λ ls. Contains ls x) leaves_are has));
    }
  where
    by : (x : Leaf) → Contains before.leaves.items x ⊎ Contains (l ∷ []) x → IsShapeOf (length o.classes) (length o.enumerations) x.shape
    by x (inl a) = shapes x a
    by x (inr a) = subst (λ (y : Leaf). IsShapeOf (length o.classes) (length o.enumerations) y.shape) (contains_one l x a) shape

pub leaf_refused : (o : Outline) (before : Layout) (l : Leaf) (n : ℕ) → n ≡ length (leaf_cells o l) → before.cells ≡ length (cells_of o before.leaves.items) → before.cells ≤ most_cells → most_cells - before.cells < n → IsRefusedPart o before (λ m. Passed l ∷ []) TooManyCells
leaf_refused o before l n size count most h =
    omega (arith, size, count, most, h, ap length (append-nil (leaf_cells o l)))
