-- The queue of objects: what its first part and the subtrees of its second part add up to stays the same.
use Rattle.std.proofs.Common.{◌≡◌, ℕ, zero, suc, ◌+◌, ◌<◌, ◌≤◌, List, [], ◌∷◌, ◌++◌, length, get_or, take, drop, refl, ap, sym, ◌∙◌, subst, arith, length-append}
use Rattle.std.specs.Prelude.{Contains, replicate}
use Rattle.std.specs.List.{sum_by}
use Rattle.std.proofs.lemmas.List.Sums.{sum_by-append, sum_by-cons}
use Rattle.class_table.specs.declared.table.Resolved.{Resolved}
use Rattle.class_table.specs.declared.table.Resolved.TheVariants.{Span, Truth, Choice, One, Many, Ref, RefSet}
use Rattle.class_table.specs.declared.table.Variable.{Variable}
use Rattle.class_table.specs.Outline.{Outline, attributes}
use Rattle.class_table.specs.Sound.{HasNesting}
use Rattle.class_table.specs.Tables.{IsShapeOf}
use Rattle.object_alloc.specs.declared.fault.AllocFault.{AllocFault}
use Rattle.object_alloc.specs.declared.fault.AllocFault.TheVariants.{TooManyObjects, TooDeep, TooManyCells, Memory}
use Rattle.object_alloc.specs.declared.object.Object.{Object}
use Rattle.object_alloc.specs.declared.queue.Kind.{Kind}
use Rattle.object_alloc.specs.Sums.{Weigh, of_object, of_kind, kind, held_kinds, kinds_of, IsExcess, IsLawful, kinds_weight, weight_to, weight}
use Rattle.object_alloc.specs.Walk.{objects}
use Rattle.object_alloc.proofs.Weights.{objects_weight, weight_next}

-- What the queue holds

pub lawful_append : (m n : ℕ) (xs ys : List Kind) → IsLawful m n xs → IsLawful m (n + length xs) ys → IsLawful m n (xs ++ ys)
lawful_append m n [] ys a b = subst (λ i. IsLawful m i ys) (omega arith) b
lawful_append m n (x ∷ xs) ys (c, d, a) b = (c, d, lawful_append m (suc n) xs ys a (subst (λ i. IsLawful m i ys) (omega arith) b))

lawful_replicate : (m n c d i : ℕ) → c < m → d ≤ n → IsLawful m n (replicate i (kind c d))
lawful_replicate m n c d zero h le = tt
lawful_replicate m n c d (suc i) h le = (h, le, lawful_replicate m (suc n) c d i h (omega arith))

lawful_held : (m e n d : ℕ) (s : Resolved) → IsShapeOf m e s → d ≤ n → IsLawful m n (held_kinds d s)
lawful_held m e n d (One c) h le = lawful_replicate m n c d 1 h le
lawful_held m e n d (Many c i) h le = lawful_replicate m n c d i h le
lawful_held m e n d (Span low high) h le = tt
lawful_held m e n d Truth h le = tt
lawful_held m e n d (Choice k) h le = tt
lawful_held m e n d (Ref c) h le = tt
lawful_held m e n d (RefSet c i) h le = tt

pub lawful_kinds : (m e n d : ℕ) (vs : List Variable) → ((v : Variable) → Contains vs v → IsShapeOf m e v.shape) → d ≤ n → IsLawful m n (kinds_of d vs)
lawful_kinds m e n d [] h le = tt
lawful_kinds m e n d (v ∷ vs) h le =
    lawful_append m n (held_kinds d v.shape) (kinds_of d vs)
    (lawful_held m e n d v.shape (h v (0, omega arith, refl)) le)
    (lawful_kinds m e (n + length (held_kinds d v.shape)) d vs (λ u has. h u (suc has.0, omega (arith, has.1), has.2)) (omega arith))

pub lawful_at : (m n : ℕ) (ks : List Kind) (i : ℕ) (k : Kind) → IsLawful m n ks → i < length ks → k ≡ get_or ks i k → (k.class < m) × (k.depth ≤ n + i)
lawful_at m n [] i k l h e = absurd (omega (arith, h))
lawful_at m n (x ∷ xs) zero k (c, d, l) h e = (subst (λ (y : Kind). y.class < m) (sym e) c, subst (λ (y : Kind). y.depth ≤ n + 0) (sym e) (omega arith))
lawful_at m n (x ∷ xs) (suc i) k (c, d, l) h e = let r = lawful_at m (suc n) xs i k l (omega (arith, h)) e in (r.0, omega (arith, r.1))

-- Sums

-- the kinds that were looked at by themselves, and the others with all that is in them
abbrev pub balance : Outline → Weigh → ℕ → List Kind → ℕ
balance o g head queue = sum_by (of_kind g) (take head queue) + kinds_weight (weight o g) (drop head queue)

module _ (o : Outline) (r : HasNesting o.classes) (g : Weigh) where
  moved : (queue xs : List Kind) (head : ℕ) (k : Kind) → head < length queue → k ≡ get_or queue head k → weight o g k.depth k.class ≡ of_kind g k + kinds_weight (weight o g) xs → balance o g (suc head) (queue ++ xs) ≡ balance o g head queue
  moved [] xs head k h e w = absurd (omega (arith, h))
  moved (q ∷ qs) xs zero k h e w =
      let w' : weight o g q.depth q.class ≡ of_kind g q + kinds_weight (weight o g) xs = subst (λ (y : Kind). weight o g y.depth y.class ≡ of_kind g y + kinds_weight (weight o g) xs) e w in
      let one = sum_by-cons (of_kind g) q [] in
      let more = sum_by-append (λ (y : Kind). weight o g y.depth y.class) qs xs in
      let all = sum_by-cons (λ (y : Kind). weight o g y.depth y.class) q qs in
      omega (arith, w', one, more, all)
  moved (q ∷ qs) xs (suc head) k h e w =
      let rest = moved qs xs head k (omega (arith, h)) e w in
      let a = sum_by-cons (of_kind g) q (take (suc head) (qs ++ xs)) in
      let b = sum_by-cons (of_kind g) q (take head qs) in
      omega (arith, rest, a, b)

  pub balance_next : (queue new : List Kind) (head : ℕ) (k : Kind) → head < length queue → k ≡ get_or queue head k → k.class < length o.classes → new ≡ queue ++ kinds_of (k.depth + 1) (attributes o.classes k.class) → balance o g (head + 1) new ≡ balance o g head queue
  balance_next queue new head k h e c n =
      let next : head + 1 ≡ suc head = omega arith in
      ap (λ i. balance o g i new) next ∙ ap (balance o g (suc head)) n
      ∙ moved queue (kinds_of (k.depth + 1) (attributes o.classes k.class)) head k h e (weight_next o r g k.depth k.class c)

-- each object counts 1
abbrev pub one : Weigh
one c d = 1

one_each : (o : Outline) (l d c : ℕ) → 1 ≤ weight_to o one l d c
one_each o zero d c = omega arith
one_each o (suc l) d c = omega arith

least_kinds : (o : Outline) (ks : List Kind) → length ks ≤ kinds_weight (weight o one) ks
least_kinds o [] = omega arith
least_kinds o (k ∷ ks) =
    let a = one_each o (length o.classes) k.depth k.class in
    let b = least_kinds o ks in
    let s = sum_by-cons (λ (y : Kind). weight o one y.depth y.class) k ks in
    omega (arith, a, b, s)

least_balance : (o : Outline) (head : ℕ) (ks : List Kind) → length ks ≤ balance o one head ks
least_balance o zero ks = let l = least_kinds o ks in omega arith
least_balance o (suc head) [] = omega arith
least_balance o (suc head) (k ∷ ks) =
    let l = least_balance o head ks in
    let s = sum_by-cons (of_kind one) k (take head ks) in
    omega (arith, l, s)

pub length_is : (xs : List Object) → sum_by (of_object one) xs ≡ length xs
length_is [] = refl
length_is (x ∷ xs) = let r = length_is xs in let s = sum_by-cons (of_object one) x xs in omega (arith, r, s)

pub excess_more : (n m : ℕ) (f : AllocFault) → n ≤ m → IsExcess n f → IsExcess m f
excess_more n m TooManyObjects le h = omega arith
excess_more n m TooDeep le h = h
excess_more n m TooManyCells le h = h
excess_more n m Memory le h = h

-- the objects of the top level are some of all objects
pub first_excess : (o : Outline) (n : ℕ) (f : AllocFault) → n ≡ length (kinds_of 1 o.roots) → IsExcess n f → IsExcess (length (objects o)) f
first_excess o n f e h =
    let a = objects_weight o one in
    let b = least_kinds o (kinds_of 1 o.roots) in
    excess_more n (length (objects o)) f (omega (arith, a, b, e, length_is (objects o))) h

-- the objects that are in the queue, and those that its head holds, are some of all objects
pub next_excess : (o : Outline) (r : HasNesting o.classes) (queue : List Kind) (head : ℕ) (k : Kind) (f : AllocFault) → head < length queue → k ≡ get_or queue head k → k.class < length o.classes → balance o one head queue ≡ sum_by (of_object one) (objects o) → IsExcess (length queue + length (kinds_of (k.depth + 1) (attributes o.classes k.class))) f → IsExcess (length (objects o)) f
next_excess o r queue head k f h e c b x =
    let xs = kinds_of (k.depth + 1) (attributes o.classes k.class) in
    let same = balance_next o r one queue (queue ++ xs) head k h e c refl in
    let least = least_balance o (head + 1) (queue ++ xs) in
    excess_more (length queue + length xs) (length (objects o)) f (omega (arith, same, least, b, length_is (objects o), length-append queue xs)) x

pub balance_start : (o : Outline) (g : Weigh) (queue : List Kind) → queue ≡ kinds_of 1 o.roots → balance o g 0 queue ≡ sum_by (of_object g) (objects o)
balance_start o g queue e = let a = ap (kinds_weight (weight o g)) e in let b = objects_weight o g in omega (arith, a, b)

pub balance_end : (o : Outline) (g : Weigh) (head : ℕ) (queue : List Kind) → length queue ≤ head → balance o g head queue ≡ sum_by (of_kind g) queue
balance_end o g zero [] h = refl
balance_end o g (suc head) [] h = refl
balance_end o g zero (k ∷ ks) h = absurd (omega (arith, h))
balance_end o g (suc head) (k ∷ ks) h =
    let r = balance_end o g head ks (omega (arith, h)) in
    omega (arith, r, sum_by-cons (of_kind g) k (take head ks), sum_by-cons (of_kind g) k ks)
