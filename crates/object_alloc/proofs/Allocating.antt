-- From the queue of objects to the objects themselves.
use Rattle.std.proofs.Common.{◌≡◌, ℕ, zero, suc, ◌+◌, ◌<◌, ◌≤◌, nat_lt, Bool, true, false, cond, List, [], ◌∷◌, ◌++◌, Option, length, refl, ap, sym, ◌∙◌, subst, arith}
use Rattle.std.specs.Prelude.{All, Contains, slice_index}
use Rattle.std.specs.List.{sum_by}
use Rattle.std.proofs.lemmas.List.Elements.{All-nil, All-cons}
use Rattle.std.proofs.lemmas.List.Sums.{sum_by-cons}
use Rattle.model_limits.specs.Limits.{most_names, most_objects}
use Rattle.class_table.specs.Outline.{Outline}
use Rattle.class_table.specs.Sound.{IsSound}
use Rattle.class_table.specs.Tables.{IsFew}
use Rattle.object_alloc.specs.declared.fault.AllocFault.{AllocFault}
use Rattle.object_alloc.specs.declared.fault.AllocFault.TheVariants.{TooManyObjects, TooDeep, TooManyCells, Memory}
use Rattle.object_alloc.specs.declared.layout.Layout.{Layout}
use Rattle.object_alloc.specs.declared.object.Cell.{Cell}
use Rattle.object_alloc.specs.declared.object.Leaf.{Leaf}
use Rattle.object_alloc.specs.declared.object.Object.{Object}
use Rattle.object_alloc.specs.declared.queue.Kind.{Kind}
use Rattle.object_alloc.specs.Cells.{cells}
use Rattle.object_alloc.specs.Laid.{IsLaidOut}
use Rattle.object_alloc.specs.Laying.{AreSizes, AreClassed, IsReady, HasLaid, IsRefusedPart, cells_of, met_cells}
use Rattle.object_alloc.specs.Limits.{HasDeepObject, HasFewObjects, IsShallow, IsRefused}
use Rattle.object_alloc.specs.Sums.{Weigh, of_object, of_kind, kin, deep, kinds_of, kinds_weight, weight, IsExcess, IsLawful}
use Rattle.object_alloc.specs.Walk.{objects, objects_in, leaves_in, members, visit, top, walk}
use Rattle.object_alloc.specs.Groups.{numbers_from, is_part_of, is_cell_of}
use Rattle.object_alloc.proofs.ExtentLaws.{extent_size}
use Rattle.object_alloc.proofs.QueueSteps.{one, length_is}
use Rattle.object_alloc.proofs.Weights.{objects_weight}

length_kinds : (ks : List Kind) → sum_by (of_kind one) ks ≡ length ks
length_kinds [] = refl
length_kinds (k ∷ ks) = let r = length_kinds ks in let s = sum_by-cons (of_kind one) k ks in omega (arith, r, s)

-- what weighs nothing in all weighs nothing in each
nothing : (g : Weigh) (xs : List Object) (x : Object) → sum_by (of_object g) xs ≡ 0 → Contains xs x → of_object g x ≡ 0
nothing g [] x z c = absurd (omega (arith, c.1))
nothing g (y ∷ ys) x z (zero, lt, e) = let s = sum_by-cons (of_object g) y ys in let same = ap (of_object g) e in omega (arith, s, z, same)
nothing g (y ∷ ys) x z (suc k, lt, e) = let s = sum_by-cons (of_object g) y ys in nothing g ys x (omega (arith, s, z)) (k, omega (arith, lt), e)

-- an object of a class that is not there counts 1
abbrev pub outside : ℕ → Weigh
outside n c d = cond (nat_lt c n) 0 1

module _ (o : Outline) (queue : List Kind) (kinds : (g : Weigh) → sum_by (of_kind g) queue ≡ sum_by (of_object g) (objects o)) where
  pub objects_count : length (objects o) ≡ length queue
  objects_count = sym (length_is (objects o)) ∙ sym (kinds one) ∙ length_kinds queue

  pub few_objects : length queue ≤ most_objects → HasFewObjects o
  few_objects h = omega (arith, h, objects_count)

  pub no_weight : 0 ≡ sum_by (of_kind deep) queue → kinds_weight (weight o deep) (kinds_of 1 o.roots) ≡ 0
  no_weight z = sym (objects_weight o deep) ∙ sym (kinds deep) ∙ sym z

  pub no_deep : 0 ≡ sum_by (of_kind deep) queue → IsShallow o
  no_deep z = each (objects o) (sym (kinds deep) ∙ sym z)
    where
      shallow : (d : ℕ) (b : Bool) → nat_lt most_names d ≡ b → ◌≡◌ {A = ℕ} (cond b 1 0) 0 → d ≤ most_names
      shallow d true e h = absurd (omega (arith, h))
      shallow d false e h = grind (arith, e)

      each : (xs : List Object) → sum_by (of_object deep) xs ≡ 0 → All (λ (x : Object). x.depth ≤ most_names) xs
      each [] h = All-nil (λ (x : Object). x.depth ≤ most_names)
      each (x ∷ xs) h =
          let s = sum_by-cons (of_object deep) x xs in
          All-cons (λ (x : Object). x.depth ≤ most_names) x xs (shallow x.depth (nat_lt most_names x.depth) refl (omega (arith, s, h))) (each xs (omega (arith, s, h)))

  pub some_deep : 0 < sum_by (of_kind deep) queue → HasDeepObject o
  some_deep p = let f = find (objects o) (omega (arith, p, kinds deep)) in record { deep = f.0; has = f.1; depth = f.2 }
    where
      find : (xs : List Object) → 0 < sum_by (of_object deep) xs → (x : Object) × Contains xs x × (most_names < x.depth)
      find [] h = absurd (omega (arith, h))
      find (x ∷ xs) h = by (nat_lt most_names x.depth) refl (sum_by-cons (of_object deep) x xs) (λ l. find xs l)
        where
          by : (b : Bool) → nat_lt most_names x.depth ≡ b → sum_by (of_object deep) (x ∷ xs) ≡ cond b 1 0 + sum_by (of_object deep) xs → (0 < sum_by (of_object deep) xs → (y : Object) × Contains xs y × (most_names < y.depth)) → (y : Object) × Contains (x ∷ xs) y × (most_names < y.depth)
          by true e s more = (x, (0, omega arith, refl), grind (arith, e))
          by false e s more = let m = more (omega (arith, s, h)) in (m.0, (suc m.1.0, omega (arith, m.1.1), m.1.2), m.2)

  pub sizes_are : (sizes : List ℕ) → length sizes ≡ length o.classes → ((c : ℕ) → c < length o.classes → slice_index sizes c ≡ sum_by (of_kind (kin o c)) queue) → AreSizes o sizes
  sizes_are sizes count each = record { count = count; each = λ c on. each c on ∙ kinds (kin o c) ∙ sym (extent_size o c) }

  pub classed : IsLawful (length o.classes) 1 queue → AreClassed o (objects o)
  classed lawful x has = by (nat_lt x.class (length o.classes)) refl (nothing (outside (length o.classes)) (objects o) x (sym (kinds (outside (length o.classes))) ∙ none 1 queue lawful) has)
    where
      none : (n : ℕ) (ks : List Kind) → IsLawful (length o.classes) n ks → sum_by (of_kind (outside (length o.classes))) ks ≡ 0
      none n [] l = refl
      none n (k ∷ ks) (there, le, l) =
          let s = sum_by-cons (of_kind (outside (length o.classes))) k ks in
          let rest = none (suc n) ks l in
          let inside : nat_lt k.class (length o.classes) ≡ true = grind (arith, there) in
          let mine : of_kind (outside (length o.classes)) k ≡ 0 = ap (λ (b : Bool). cond b 0 1) inside in
          omega (arith, s, rest, mine)

      by : (b : Bool) → nat_lt x.class (length o.classes) ≡ b → ◌≡◌ {A = ℕ} (cond b 0 1) 0 → x.class < length o.classes
      by true e h = grind (arith, e)
      by false e h = absurd (omega (arith, h))

pub many_refused : (o : Outline) (f : AllocFault) → IsExcess (length (objects o)) f → IsRefused o f
many_refused o TooManyObjects h = h
many_refused o TooDeep h = absurd h
many_refused o TooManyCells h = absurd h
many_refused o Memory h = tt

pub cells_refused : (o : Outline) (before : Layout) (f : AllocFault) → before.leaves.items ≡ [] → before.objects.items ≡ [] → HasFewObjects o → IsShallow o → IsRefusedPart o before (λ n. members (visit o) top 0 o.roots n) f → IsRefused o f
cells_refused o before TooManyObjects e1 e2 few shallow h = absurd h
cells_refused o before TooDeep e1 e2 few shallow h = absurd h
cells_refused o before TooManyCells e1 e2 few shallow h =
    let none = ap (λ ls. length (cells_of o ls)) e1 in
    let all = ap (λ xs. length (met_cells o (members (visit o) top 0 o.roots (length xs)))) e2 in
    (few, shallow, omega (arith, h, none, all))
cells_refused o before Memory e1 e2 few shallow h = tt

pub start_ready : (o : Outline) (sizes : List ℕ) (before : Layout) → IsSound o → AreSizes o sizes → before.leaves.items ≡ [] → before.objects.items ≡ [] → before.cells ≡ 0 → HasFewObjects o → IsReady o sizes before (λ n. members (visit o) top 0 o.roots n)
start_ready o sizes before sound are e1 e2 e3 few =
    record {
      sound = sound;
      sizes_are = are;
      count = e3 ∙ ap (λ ls. length (cells_of o ls)) (sym e1);
      few_cells = omega (arith, e3);
      shapes = λ l has. absurd (none l (subst (λ ls. Contains ls l) e1 has));
      few =
          let none = ap length e2 in
          let all = ap (λ xs. length (objects_in' (length xs))) e2 in
          omega (arith, few, none, all);
    }
  where
    none : (l : Leaf) → Contains [] l → ⊥
    none l c = omega (arith, c.1)

    objects_in' : ℕ → List Object
    objects_in' n = objects_in (members (visit o) top 0 o.roots n)

pub laid_objects : (o : Outline) (before after : Layout) → before.leaves.items ≡ [] → before.objects.items ≡ [] → HasLaid o before after (λ n. members (visit o) top 0 o.roots n) → (after.objects.items ≡ objects o) × (after.leaves.items ≡ leaves_in (walk o))
laid_objects o before after e1 e2 h = (
  h.objects_are ∙ ap (λ xs. xs ++ objects_in (members (visit o) top 0 o.roots (length xs))) e2,
  h.leaves_are ∙ ap (λ ls. ls ++ leaves_in (members (visit o) top 0 o.roots (length before.objects.items))) e1 ∙ ap (λ xs. leaves_in (members (visit o) top 0 o.roots (length xs))) e2,
)

module _ (o : Outline) (queue : List Kind) (kinds : (g : Weigh) → sum_by (of_kind g) queue ≡ sum_by (of_object g) (objects o)) (q : List Kind) (b : Bool) (e : q ≡ queue) (h : b ≡ nat_lt 0 (sum_by (of_kind deep) q)) where
  pub deep_found : b ≡ true → HasDeepObject o
  deep_found t =
      let same = ap (sum_by (of_kind deep)) e in
      let some : nat_lt 0 (sum_by (of_kind deep) q) ≡ true = sym h ∙ t in
      let more : 0 < sum_by (of_kind deep) q = grind (arith, some) in
      some_deep o queue kinds (omega (arith, more, same))

  pub deep_none : b ≡ false → 0 ≡ sum_by (of_kind deep) queue
  deep_none f =
      let same = ap (sum_by (of_kind deep)) e in
      let none : nat_lt 0 (sum_by (of_kind deep) q) ≡ false = sym h ∙ f in
      let least : sum_by (of_kind deep) q ≤ 0 = grind (arith, none) in
      omega (arith, least, same)

pub kept_sizes : (o : Outline) (queue q : List Kind) (sizes : List ℕ) → ((g : Weigh) → sum_by (of_kind g) queue ≡ sum_by (of_object g) (objects o)) → q ≡ queue → length sizes ≡ length o.classes → ((c : ℕ) → c < length o.classes → slice_index sizes c ≡ sum_by (of_kind (kin o c)) q) → AreSizes o sizes
kept_sizes o queue q sizes kinds e count each = sizes_are o queue kinds sizes count (λ c on. each c on ∙ ap (sum_by (of_kind (kin o c))) e)

-- the lists by place are those of the objects and of the cells
abbrev pub AreGrouped : {X : Type 0} → (Option ℕ → ℕ → X → Bool) → (Option ℕ → ℕ → List ℕ) → List X → Type 0
AreGrouped test groups xs = (owner : Option ℕ) → (k : ℕ) → groups owner k ≡ numbers_from (test owner k) 0 xs

pub laid_out : (o : Outline) (queue : List Kind) (before after : Layout) (sizes : List ℕ) (cs : List Cell) (parts own : Option ℕ → ℕ → List ℕ) → ((g : Weigh) → sum_by (of_kind g) queue ≡ sum_by (of_object g) (objects o)) → IsLawful (length o.classes) 1 queue → length queue ≤ most_objects → 0 ≡ sum_by (of_kind deep) queue → IsSound o → All IsFew o.enumerations → AreSizes o sizes → before.leaves.items ≡ [] → before.objects.items ≡ [] → HasLaid o before after (λ n. members (visit o) top 0 o.roots n) → cs ≡ cells_of o after.leaves.items → AreGrouped is_part_of parts after.objects.items → AreGrouped is_cell_of own cs → IsLaidOut o after.objects.items after.leaves.items cs sizes parts own
laid_out o queue before after sizes cs parts own kinds lawful few none sound few_values are e1 e2 h made by_owner by_place =
    let laid = laid_objects o before after e1 e2 h in
    let cells_are : cs ≡ cells o = made ∙ ap (cells_of o) laid.1 in
    record {
      sound = sound;
      few_values = few_values;
      objects_are = laid.0;
      leaves_are = laid.1;
      cells_are = cells_are;
      sizes_are = are;
      parts_are = λ owner k. by_owner owner k ∙ ap (numbers_from (is_part_of owner k) 0) laid.0;
      own_are = λ owner k. by_place owner k ∙ ap (numbers_from (is_cell_of owner k) 0) cells_are;
      limits = record { objects = few_objects o queue kinds few; depths = no_deep o queue kinds none; cells = omega (arith, h.count, h.few_cells, ap length (ap (cells_of o) laid.1)) };
      classes = subst (AreClassed o) (sym laid.0) (classed o queue kinds lawful);
    }
