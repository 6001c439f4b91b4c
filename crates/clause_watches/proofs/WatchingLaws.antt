-- What contracts see of a table, and when boxes change.
use Rattle.std.proofs.Common.{◌≡◌, ◌≢◌, ℕ, zero, suc, ◌==◌, Bool, true, false, cond, List, [], ◌∷◌, ◌||◌, inl, inr, length, map, arith, refl, sym, ap, ◌∙◌, subst}
use Rattle.std.specs.List.{All}
use Rattle.std.proofs.lemmas.Bool.{cases_eq, false_from_ne_true}
use Rattle.signed_clause.specs.Ranges.{Ranges, has, IsValid, IsSubset, is_nil}
use Rattle.signed_clause.specs.SetAlgebra.{is_disjoint, is_within}
use Rattle.signed_clause.specs.Clauses.{Boxes, Literals, box_of, set_of, IsClause}
use Rattle.signed_clause.proofs.SetFacts.{nil_law, within_law, disjoint_law}
use Rattle.signed_clause.proofs.ClauseLaws.{has_from_disjoint}
use Rattle.signed_clause.proofs.ResolventLaws.{set_valid}
use Rattle.clause_watches.specs.declared.rest.Rest.{Rest}
use Rattle.clause_watches.specs.declared.rest.Rest.TheVariants.{Listed, Half, On, Held}
use Rattle.clause_watches.specs.Watching.{acts, clause_of, rest_of, is_listed, Fits, holds, without, touched, Meets, IsHeld, IsKnown, DifferAt, NarrowsAt, WidensAt}
use Rattle.clause_watches.specs.Marks.{is_marked}
use Rattle.clause_watches.specs.declared.table.Table.{Table}
use Rattle.clause_watches.specs.Rows.{seen, freed}
use Rattle.clause_watches.specs.Sound.{AreKnown, watching_of}
use Rattle.clause_watches.specs.Looking.{AreKnownNow}
use Rattle.clause_watches.proofs.ActLaws.{known_rests}
use Rattle.clause_watches.proofs.VisitLaws.{clause_form}

pub rest_map : (f : Rest → Rest) (rests : List Rest) (i : ℕ) → f Listed ≡ Listed →
    rest_of (map f rests) i ≡ f (rest_of rests i)
rest_map f [] i e = sym e
rest_map f (r ∷ rs) zero e = refl
rest_map f (r ∷ rs) (suc i) e = rest_map f rs i e

-- ---- one variable more may have changed

half_or : (q : ℕ → Bool) (a : ℕ) (m : Bool) →
    cond (m || q a) Listed (Half a) ≡ without q (cond m Listed (Half a))
half_or q a true = refl
half_or q a false = refl

on_or : (q : ℕ → Bool) (a b : ℕ) (m n : Bool) →
    cond (m || q a) (cond (n || q b) Listed (Half b)) (cond (n || q b) (Half a) (On a b))
    ≡ without q (cond m (cond n Listed (Half b)) (cond n (Half a) (On a b)))
on_or q a b true true = refl
on_or q a b true false = refl
on_or q a b false true = refl
on_or q a b false false = refl

pub seen_more : (x : ℕ) (before after : List Bool) (r : Rest) →
    ((y : ℕ) → is_marked after y ≡ (is_marked before y || x == y)) →
    seen after r ≡ touched x (seen before r)
seen_more x before after Listed h = refl
seen_more x before after (Half a) h = ap (λ (m : Bool). cond m Listed (Half a)) (h a)
    ∙ half_or (λ y. x == y) a (is_marked before a)
seen_more x before after (Held a) h = refl
seen_more x before after (On a b) h =
    ap (λ (m : Bool). cond m (cond (is_marked after b) Listed (Half b))
    (cond (is_marked after b) (Half a) (On a b))) (h a)
    ∙ ap (λ (n : Bool). cond (is_marked before a || x == a) (cond n Listed (Half b))
    (cond n (Half a) (On a b))) (h b)
    ∙ on_or (λ y. x == y) a b (is_marked before a) (is_marked before b)

pub map_touched : (x : ℕ) (before after : List Bool) (rests : List Rest) →
    ((y : ℕ) → is_marked after y ≡ (is_marked before y || x == y)) →
    map (seen after) rests ≡ map (touched x) (map (seen before) rests)
map_touched x before after [] h = refl
map_touched x before after (r ∷ rs) h = let one = seen_more x before after r h in
    let more = map_touched x before after rs h in rw (one, more) refl

other_from : (x y : ℕ) → (x == y) ≡ false → y ≢ x
other_from x y n e = let yes : (x == y) ≡ true = grind arith in absurd (cc)

meets_same : (a b : Boxes) (c : Literals) (x y : ℕ) → DifferAt x a b → (x == y) ≡ false →
    Meets a c y → Meets b c y
meets_same a b c x y d n m =
    subst (λ (s : Ranges). is_disjoint (set_of c y) s ≡ false) (d y (other_from x y n)) m

held_same : (a b : Boxes) (c : Literals) (x y : ℕ) → DifferAt x a b → (x == y) ≡ false →
    IsHeld a c y → IsHeld b c y
held_same a b c x y d n k = record {
  meets = meets_same a b c x y d n k.meets;
  within =
      subst (λ (s : Ranges). is_within s (set_of c y) ≡ true) (d y (other_from x y n)) k.within;
}

-- a narrower box that has values still lies within the set
narrower_held : (s large small : Ranges) → IsValid s → IsValid large → IsValid small →
    IsSubset small large → is_nil small ≡ false → is_within large s ≡ true →
    (is_disjoint s small ≡ false) × (is_within small s ≡ true)
narrower_held s large small f g h i some w =
    let all : IsSubset small s = λ v p. (within_law large s g f).0 w v (i v p) in (
      false_from_ne_true _ (λ none. let empty : is_nil small ≡ true =
          (nil_law small h).1 (λ v. false_from_ne_true (has small v) (λ p.
          let in_set = all v p in let out = has_from_disjoint s small v f h none p in cc)) in
          cc),
      (within_law small s h f).1 all,
    )

held_narrows : (a b : Boxes) (c : Literals) (x : ℕ) → IsClause c → NarrowsAt x a b →
    IsHeld a c x → IsHeld b c x
held_narrows a b c x f d k =
    let both = narrower_held (set_of c x) (box_of a x) (box_of b x) (set_valid 0 c x f)
    d.before_valid d.after_valid d.within d.some k.within in
    record { meets = both.0; within = both.1 }

known_half : (a b : Boxes) (c : Literals) (x y : ℕ) (m : Bool) → (x == y) ≡ m → DifferAt x a b →
    Meets a c y → IsKnown b c (cond m Listed (Half y))
known_half a b c x y true e d k = tt
known_half a b c x y false e d k = meets_same a b c x y d e k

known_held : (a b : Boxes) (c : Literals) (x y : ℕ) → IsClause c → NarrowsAt x a b →
    IsHeld a c y → IsHeld b c y
known_held a b c x y f d k = elim (cases_eq y x) [
  | inl same ↦ subst (λ (z : ℕ). IsHeld b c z) (sym same)
      (held_narrows a b c x f d (subst (λ (z : ℕ). IsHeld a c z) same k))
  | inr other ↦ held_same a b c x y d.others (grind arith) k
]

known_on : (a b : Boxes) (c : Literals) (x y z : ℕ) (m n : Bool) → (x == y) ≡ m → (x == z) ≡ n →
    DifferAt x a b → IsKnown a c (On y z) →
    IsKnown b c (cond m (cond n Listed (Half z)) (cond n (Half y) (On y z)))
known_on a b c x y z true true e f d k = tt
known_on a b c x y z true false e f d k = meets_same a b c x z d f k.other
known_on a b c x y z false true e f d k = meets_same a b c x y d e k.one
known_on a b c x y z false false e f d k =
    record {
      differ = k.differ;
      one = meets_same a b c x y d e k.one;
      other =
          meets_same a b c x z d f k.other;
    }

-- what is known in the boxes a, less x, is known in others where that of x is narrower
pub known_touched : (a b : Boxes) (c : Literals) (x : ℕ) (r : Rest) → IsClause c →
    NarrowsAt x a b → IsKnown a c r → IsKnown b c (touched x r)
known_touched a b c x Listed f d k = tt
known_touched a b c x (Half y) f d k = known_half a b c x y (x == y) refl d.others k
known_touched a b c x (On y z) f d k = known_on a b c x y z (x == y) (x == z) refl refl d.others k
known_touched a b c x (Held y) f d k = known_held a b c x y f d k

-- ---- a box becomes wider

wider_meets : (s small large : Ranges) → IsValid s → IsValid small → IsValid large →
    IsSubset small large → is_disjoint s small ≡ false → is_disjoint s large ≡ false
wider_meets s small large f g h i m =
    false_from_ne_true _
    (λ all. let none : is_disjoint s small ≡ true =
    (disjoint_law s small f g).1 (λ v p. false_from_ne_true (has small v) (λ q.
    let up = i v q in let no = has_from_disjoint s large v f h all up in cc)) in cc)

meets_wider : (a b : Boxes) (c : Literals) (x y : ℕ) → IsClause c → WidensAt x a b →
    Meets a c y → Meets b c y
meets_wider a b c x y f wide m = elim (cases_eq y x) [
  | inl same ↦ subst (λ (z : ℕ). Meets b c z) (sym same)
      (wider_meets (set_of c x) (box_of a x) (box_of b x) (set_valid 0 c x f) wide.before_valid
      wide.after_valid wide.within (subst (λ (z : ℕ). Meets a c z) same m))
  | inr other ↦ meets_same a b c x y wide.others (grind arith) m
]

half_wider : (a b : Boxes) (c : Literals) (x y : ℕ) (m : Bool) → IsClause c → WidensAt x a b →
    IsKnown a c (cond m Listed (Half y)) → IsKnown b c (cond m Listed (Half y))
half_wider a b c x y true f wide k = tt
half_wider a b c x y false f wide k = meets_wider a b c x y f wide k

on_wider : (a b : Boxes) (c : Literals) (x y z : ℕ) (m n : Bool) → IsClause c → WidensAt x a b →
    IsKnown a c (cond m (cond n Listed (Half z)) (cond n (Half y) (On y z))) →
    IsKnown b c (cond m (cond n Listed (Half z)) (cond n (Half y) (On y z)))
on_wider a b c x y z true true f wide k = tt
on_wider a b c x y z true false f wide k = meets_wider a b c x z f wide k
on_wider a b c x y z false true f wide k = meets_wider a b c x y f wide k
on_wider a b c x y z false false f wide k =
    record {
      differ = k.differ;
      one = meets_wider a b c x y f wide k.one;
      other = meets_wider a b c x z f wide k.other;
    }

half_when : (b : Boxes) (c : Literals) (y : ℕ) (m : Bool) → Meets b c y →
    IsKnown b c (cond m Listed (Half y))
half_when b c y true k = tt
half_when b c y false k = k

held_wider : (a b : Boxes) (c : Literals) (x y : ℕ) (changed : List Bool) (m : Bool) →
    (y == x) ≡ m → IsClause c → WidensAt x a b → IsHeld a c y →
    IsKnown b c (seen changed (cond m (Half x) (Held y)))
held_wider a b c x y changed true e f wide k =
    let same : y ≡ x = grind arith in
    half_when b c x (is_marked changed x)
    (meets_wider a b c x x f wide (subst (λ (z : ℕ). Meets a c z) same k.meets))
held_wider a b c x y changed false e f wide k = held_same a b c x y wide.others (grind arith) k

-- what is seen of the clause in the boxes a is known in wider ones, once it is freed of x
pub known_freed : (a b : Boxes) (c : Literals) (x : ℕ) (changed : List Bool) (r : Rest) →
    IsClause c → WidensAt x a b → IsKnown a c (seen changed r) →
    IsKnown b c (seen changed (freed x r))
known_freed a b c x changed Listed f wide k = tt
known_freed a b c x changed (Half y) f wide k = half_wider a b c x y (is_marked changed y) f wide k
known_freed a b c x changed (On y z) f wide k =
    on_wider a b c x y z (is_marked changed y) (is_marked changed z) f wide k
known_freed a b c x changed (Held y) f wide k =
    held_wider a b c x y changed (y == x) refl f wide k

half_holds : (a x : ℕ) (m : Bool) → holds (cond m Listed (Half a)) x ≡ false
half_holds a x true = refl
half_holds a x false = refl

on_holds : (a b x : ℕ) (m n : Bool) →
    holds (cond m (cond n Listed (Half b)) (cond n (Half a) (On a b))) x ≡ false
on_holds a b x true true = refl
on_holds a b x true false = refl
on_holds a b x false true = refl
on_holds a b x false false = refl

half_listed : (a : ℕ) (m : Bool) → is_listed (cond m Listed (Half a)) ≡ true
half_listed a true = refl
half_listed a false = refl

seen_holds : (changed : List Bool) (r : Rest) (x : ℕ) → holds (seen changed r) x ≡ holds r x
seen_holds changed Listed x = refl
seen_holds changed (Half a) x = half_holds a x (is_marked changed a)
seen_holds changed (On a b) x = on_holds a b x (is_marked changed a) (is_marked changed b)
seen_holds changed (Held a) x = refl

freed_kept : (r : Rest) (x : ℕ) → holds r x ≡ false → freed x r ≡ r
freed_kept r x h = ap (λ (m : Bool). cond m (Half x) r) h

freed_listed : (changed : List Bool) (r : Rest) (x : ℕ) → holds r x ≡ true →
    is_listed (seen changed (freed x r)) ≡ true
freed_listed changed r x h =
    subst (λ (q : Rest). is_listed (seen changed q) ≡ true)
    (sym (ap (λ (m : Bool). cond m (Half x) r) h)) (half_listed x (is_marked changed x))

-- what contracts see of one clause, where the literal of x didn't hold it and where it did
pub seen_kept : (changed : List Bool) (rests news : List Rest) (i x : ℕ) →
    rest_of news i ≡ freed x (rest_of rests i) →
    holds (rest_of (map (seen changed) rests) i) x ≡ false →
    rest_of (map (seen changed) news) i ≡ rest_of (map (seen changed) rests) i
seen_kept changed rests news i x e h =
    let at : holds (rest_of rests i) x ≡ false = sym (seen_holds changed (rest_of rests i) x)
    ∙ ap (λ (r : Rest). holds r x) (sym (rest_map (seen changed) rests i refl)) ∙ h in
    rest_map (seen changed) news i refl
    ∙ ap (seen changed) (e ∙ freed_kept (rest_of rests i) x at)
    ∙ sym (rest_map (seen changed) rests i refl)

pub seen_freed : (changed : List Bool) (rests news : List Rest) (i x : ℕ) →
    rest_of news i ≡ freed x (rest_of rests i) →
    holds (rest_of (map (seen changed) rests) i) x ≡ true →
    is_listed (rest_of (map (seen changed) news) i) ≡ true
seen_freed changed rests news i x e h =
    let at : holds (rest_of rests i) x ≡ true = sym (seen_holds changed (rest_of rests i) x)
    ∙ ap (λ (r : Rest). holds r x) (sym (rest_map (seen changed) rests i refl)) ∙ h in
    ap is_listed (rest_map (seen changed) news i refl ∙ ap (seen changed) e)
    ∙ freed_listed changed (rest_of rests i) x at

pub map_size : (f : Rest → Rest) (rests : List Rest) → length (map f rests) ≡ length rests
map_size f [] = refl
map_size f (r ∷ rs) = ap suc (map_size f rs)

-- ---- tables as contracts see them

known_seen : (boxes : Boxes) (c : Literals) (rests : List Rest) (changed : List Bool) (i : ℕ) →
    IsKnown boxes c (rest_of (map (seen changed) rests) i) →
    IsKnown boxes c (seen changed (rest_of rests i))
known_seen boxes c rests changed i k =
    subst (λ (r : Rest). IsKnown boxes c r) (rest_map (seen changed) rests i refl) k

pub known_fits : (boxes : Boxes) (t : Table) → Fits boxes (watching_of t) →
    AreKnown boxes t.added.items t.rests t.changed
known_fits boxes t fits i = known_seen boxes (clause_of t.added.items i) t.rests t.changed i
    (fits i)

seen_none : (changed : List Bool) (r : Rest) → ((x : ℕ) → is_marked changed x ≡ false) →
    seen changed r ≡ r
seen_none changed Listed h = refl
seen_none changed (Half a) h = let off = h a in rw off refl
seen_none changed (On a b) h = let off = h a in let out = h b in rw (off, out) refl
seen_none changed (Held a) h = refl

pub rest_none : (changed : List Bool) (rests : List Rest) (i : ℕ) →
    ((x : ℕ) → is_marked changed x ≡ false) → rest_of (map (seen changed) rests) i ≡ rest_of rests i
rest_none changed rests i h = rest_map (seen changed) rests i refl
    ∙ seen_none changed (rest_of rests i) h

pub fits_now : (boxes : Boxes) (added : List (ℕ × Literals)) (rests : List Rest)
    (changed : List Bool) → ((x : ℕ) → is_marked changed x ≡ false) →
    AreKnownNow boxes added rests →
    (i : ℕ) → IsKnown boxes (clause_of added i) (rest_of (map (seen changed) rests) i)
fits_now boxes added rests changed h known i =
    subst (λ (r : Rest). IsKnown boxes (clause_of added i) r) (sym (rest_none changed rests i h))
    (known i)

-- nothing is listed, so all rest
pub none_acts_now : (boxes : Boxes) (added : List (ℕ × Literals)) (rests : List Rest) (i : ℕ) →
    AreKnownNow boxes added rests → is_listed (rest_of rests i) ≡ false →
    acts boxes (clause_of added i) ≡ false
none_acts_now boxes added rests i known n =
    known_rests boxes (clause_of added i) (rest_of rests i) (known i) n

pub unmarked_still : (before after : List Bool) (x : ℕ) → after ≡ before →
    is_marked before x ≡ false → is_marked after x ≡ false
unmarked_still before after x e h = ap (λ (l : List Bool). is_marked l x) e ∙ h

-- fits where a box became narrower, and where one became wider
pub fits_touched : (a b : Boxes) (added : List (ℕ × Literals)) (rests news : List Rest) (x : ℕ) →
    All (λ p. IsClause p.1) added → news ≡ map (touched x) rests → NarrowsAt x a b →
    ((i : ℕ) → IsKnown a (clause_of added i) (rest_of rests i)) → (i : ℕ) →
    IsKnown b (clause_of added i) (rest_of news i)
fits_touched a b added rests news x f e d known i =
    let is : rest_of news i ≡ touched x (rest_of rests i) = ap (λ (l : List Rest). rest_of l i) e
    ∙ rest_map (touched x) rests i refl in
    subst (λ (r : Rest). IsKnown b (clause_of added i) r) (sym is)
    (known_touched a b (clause_of added i) x (rest_of rests i) (clause_form added i f) d (known i))

pub fits_freed : (a b : Boxes) (added : List (ℕ × Literals)) (rests news : List Rest)
    (changed : List Bool) (x : ℕ) → All (λ p. IsClause p.1) added →
    ((i : ℕ) → rest_of news i ≡ freed x (rest_of rests i)) → WidensAt x a b →
    ((i : ℕ) → IsKnown a (clause_of added i) (rest_of (map (seen changed) rests) i)) → (i : ℕ) →
    IsKnown b (clause_of added i) (rest_of (map (seen changed) news) i)
fits_freed a b added rests news changed x f e wide known i =
    let was : IsKnown a (clause_of added i) (seen changed (rest_of rests i)) =
    subst (λ (r : Rest). IsKnown a (clause_of added i) r) (rest_map (seen changed) rests i refl)
    (known i) in
    subst (λ (r : Rest). IsKnown b (clause_of added i) r)
    (sym (rest_map (seen changed) news i refl ∙ ap (seen changed) (e i)))
    (known_freed a b (clause_of added i) x changed (rest_of rests i) (clause_form added i f) wide
    was)
