-- Sums over the objects of a walk, by their classes and depths.
use Rattle.std.proofs.Common.{◌≡◌, ℕ, zero, suc, ◌+◌, ◌<◌, List, [], ◌∷◌, ◌++◌, None, length, refl, ap, sym, ◌∙◌, arith}
use Rattle.std.specs.Prelude.{replicate}
use Rattle.std.specs.List.{sum_by}
use Rattle.std.proofs.lemmas.Grind.{flat_map-append}
use Rattle.std.proofs.lemmas.List.Sums.{sum_by-append, sum_by-cons}
use Rattle.class_table.specs.declared.table.Resolved.{Resolved}
use Rattle.class_table.specs.declared.table.Resolved.TheVariants.{Span, Truth, Choice, One, Many, Ref, RefSet}
use Rattle.class_table.specs.declared.table.Variable.{Variable}
use Rattle.class_table.specs.Outline.{Outline, attributes}
use Rattle.class_table.specs.Sound.{HasNesting}
use Rattle.object_alloc.specs.declared.object.Object.{Object}
use Rattle.object_alloc.specs.declared.queue.Kind.{Kind}
pub use Rattle.object_alloc.specs.Sums.{kinds_weight, weight_to, weight}
use Rattle.object_alloc.specs.Sums.{Weigh, of_object, kind, held_kinds, kinds_of}
use Rattle.object_alloc.specs.Walk.{Met, Visit, Inside, made, object, object_met, objects_in, elements, attribute, members, within, top, visit_to, visit, objects}
use Rattle.object_alloc.proofs.VisitLaws.{visit_same}

-- the sum over the objects that were met
abbrev pub weigh : Weigh → List Met → ℕ
weigh g ms = sum_by (of_object g) (objects_in ms)

pub weigh_append : (g : Weigh) (xs ys : List Met) → weigh g (xs ++ ys) ≡ weigh g xs + weigh g ys
weigh_append g xs ys = ap (sum_by (of_object g)) (flat_map-append object_met xs ys) ∙ sum_by-append (of_object g) (objects_in xs) (objects_in ys)

-- a visit has this weight at each object
abbrev pub Weighs : Weigh → Visit → (ℕ → ℕ → ℕ) → Type 0
Weighs g f v = (n : ℕ) (x : Object) → weigh g (f n x) ≡ v x.depth x.class

module _ (g : Weigh) (f : Visit) (v : ℕ → ℕ → ℕ) (h : Weighs g f v) (w : Inside) where
  elements_weight : (k c m i n : ℕ) → weigh g (elements f w k c m i n) ≡ kinds_weight v (replicate m (kind c (w.depth + 1)))
  elements_weight k c zero i n = refl
  elements_weight k c (suc m) i n =
      let x = object w k c i in
      let rest = elements f w k c m (i + 1) (n + made (f n x)) in
      let here = h n x in
      let more = elements_weight k c m (i + 1) (n + made (f n x)) in
      let cons = sum_by-cons (λ (q : Kind). v q.depth q.class) (kind c (w.depth + 1)) (replicate m (kind c (w.depth + 1))) in
      weigh_append g (f n x) rest ∙ ap (λ a. a + weigh g rest) here ∙ ap (λ a. v (w.depth + 1) c + a) more ∙ sym cons

  attribute_weight : (k : ℕ) (s : Resolved) (n : ℕ) → weigh g (attribute f w k s n) ≡ kinds_weight v (held_kinds (w.depth + 1) s)
  attribute_weight k (One c) n =
      let here = h n (object w k c 0) in
      let single = sum_by-cons (λ (q : Kind). v q.depth q.class) (kind c (w.depth + 1)) [] in
      omega (arith, here, single)
  attribute_weight k (Many c m) n = elements_weight k c m 0 n
  attribute_weight k (Span low high) n = refl
  attribute_weight k Truth n = refl
  attribute_weight k (Choice e) n = refl
  attribute_weight k (Ref c) n = refl
  attribute_weight k (RefSet c m) n = refl

  pub members_weight : (k : ℕ) (vs : List Variable) (n : ℕ) → weigh g (members f w k vs n) ≡ kinds_weight v (kinds_of (w.depth + 1) vs)
  members_weight k [] n = refl
  members_weight k (u ∷ us) n =
      let here = attribute f w k u.shape n in
      let rest = members f w (k + 1) us (n + made here) in
      weigh_append g here rest
      ∙ ap (λ a. a + weigh g rest) (attribute_weight k u.shape n)
      ∙ ap (λ a. kinds_weight v (held_kinds (w.depth + 1) u.shape) + a) (members_weight (k + 1) us (n + made here))
      ∙ sym (sum_by-append (λ (q : Kind). v q.depth q.class) (held_kinds (w.depth + 1) u.shape) (kinds_of (w.depth + 1) us))

pub visit_weight : (o : Outline) (g : Weigh) (l : ℕ) → Weighs g (visit_to o l) (weight_to o g l)
visit_weight o g zero n x = let single = sum_by-cons (of_object g) x [] in omega (arith, single)
visit_weight o g (suc l) n x =
    sum_by-cons (of_object g) x (objects_in (members (visit_to o l) (within n x) 0 (attributes o.classes x.class) (n + 1)))
    ∙ ap (λ a. g x.class x.depth + a) (members_weight g (visit_to o l) (weight_to o g l) (visit_weight o g l) (within n x) 0 (attributes o.classes x.class) (n + 1))

pub objects_weight : (o : Outline) (g : Weigh) → sum_by (of_object g) (objects o) ≡ kinds_weight (weight o g) (kinds_of 1 o.roots)
objects_weight o g = members_weight g (visit o) (weight o g) (visit_weight o g (length o.classes)) top 0 o.roots 0

-- an object weighs as much as itself and what its attributes hold
pub weight_next : (o : Outline) (r : HasNesting o.classes) (g : Weigh) (d c : ℕ) → c < length o.classes → weight o g d c ≡ g c d + kinds_weight (weight o g) (kinds_of (d + 1) (attributes o.classes c))
weight_next o r g d c h =
    let x : Object = record { class = c; depth = d; owner = None; attribute = 0; element = 0 } in
    let b = r.below c h in
    sym (visit_weight o g (length o.classes) 0 x)
    ∙ ap (weigh g) (visit_same o r (length o.classes) (suc (length o.classes)) 0 x b (omega (arith, b)))
    ∙ visit_weight o g (suc (length o.classes)) 0 x
