-- The parts of a chosen object.
use Rattle.std.proofs.Common.{◌≡◌, ℕ, zero, suc, ◌*◌, ◌<◌, ◌≤◌, Bool, true, false, ◌&&◌, cond, List, [], ◌∷◌, ◌++◌, ℤ, Option, Some, length, length-append, append-nil, Global, refl, sym, ap, ◌∙◌, subst, arith}
use Rattle.std.specs.Prelude.{Contains, slice_get, slice_index_or}
use Rattle.std.specs.declared.vec.Vec.{Vec}
use Rattle.std.specs.List.{All}
use Rattle.std.specs.Ordering.{int_eq}
use Rattle.std.proofs.lemmas.Bool.{and_parts}
use Rattle.std.proofs.lemmas.Int.{ints}
use Rattle.std.proofs.lemmas.List.{length-map}
use Rattle.std.proofs.lemmas.List.Elements.{All-nil, All-cons, All-head, All-tail}
use Rattle.class_table.specs.declared.table.Resolved.{Resolved}
use Rattle.class_table.specs.declared.table.Resolved.TheVariants as shape
use Rattle.class_table.specs.Outline.{Outline}
use Rattle.class_table.specs.Sound.{IsSound, held_class}
use Rattle.object_alloc.specs.Cells.{extent}
use Rattle.object_alloc.specs.Groups.{parts_of}
use Rattle.object_alloc.specs.Own.{held_count}
use Rattle.object_alloc.proofs.OwnParts.{parts_count, part_is}
use Rattle.signed_clause.specs.Ranges.{has}
use Rattle.ground_form.specs.declared.ground.Ground.{Ground}
use Rattle.ground_form.specs.Meaning.{value_of}
use Rattle.ground_form.specs.WellMade.{lacks_value, distinct_values}
use Rattle.form_build.specs.declared.form.Truth.TheVariants as truth
use Rattle.form_build.specs.Worlds.{IsWorld}
use Rattle.conf_eval.specs.declared.value.Value.TheVariants.{Object, Objects}
use Rattle.conf_eval.specs.Fitting.{HasShape}
use Rattle.conf_eval.specs.Meaning.{first_object}
use Rattle.conf_eval.proofs.LawsClasses.{in_own_extent}
use Rattle.expr_forms.specs.declared.form.Choice.{Choice}
use Rattle.expr_forms.specs.declared.form.Choice.TheVariants as choice
use Rattle.expr_forms.specs.declared.form.Form.TheVariants as form
use Rattle.expr_forms.specs.declared.form.Listing.TheVariants as listing
use Rattle.expr_forms.specs.declared.form.Member.{Member}
use Rattle.expr_forms.specs.FormBounds.{IsMap, IsMember}
use Rattle.expr_forms.specs.FormValues.{number_for, members_at}
use Rattle.expr_forms.proofs.Trees.{no_number}
use Rattle.reference_forms.specs.Candidates.{HaveShape}
use Rattle.reference_forms.specs.Dots.{part_items, IsMappedChoice, IsMappedForm}
use Rattle.reference_forms.specs.Lists.{those_parts, chosen_parts}
use Rattle.reference_forms.specs.Picks.{IsFirst}
use Rattle.reference_forms.proofs.MapLaws.{number_all, first_there, some_pairs}

get_there : (xs : List ℕ) (i d : ℕ) → i < length xs → slice_get xs i ≡ Some (slice_index_or xs i d)
get_there [] i d h = absurd (omega (arith, h))
get_there (x ∷ xs) zero d h = refl
get_there (x ∷ xs) (suc i) d h = get_there xs i d (omega (arith, h))

first_in : (P : ℕ → Type 0) (xs : List ℕ) → length xs ≡ 1 → All P xs → P (first_object xs)
first_in P [] e all = absurd (omega (arith, e))
first_in P (x ∷ xs) e all = all 0 x (omega arith)

module _ (o : Outline) (k : ℕ) (sound : IsSound o) (s : Resolved) (owner : Option ℕ) (h : HasShape o owner k s) where
  count : length (parts_of o owner k) ≡ held_count s
  count = parts_count o sound owner k h.variable h.there h.is ∙ ap held_count h.shape

  parts_in : (c : ℕ) → held_class s ≡ Some c → All (Contains (extent o c)) (parts_of o owner k)
  parts_in c e i d lt =
      let p = part_is o sound owner k h.variable h.there h.is c i (slice_index_or (parts_of o owner k) i d) (ap held_class h.shape ∙ e) (get_there (parts_of o owner k) i d lt) in
      in_own_extent o c (slice_index_or (parts_of o owner k) i d) p.object p.has p.class_is

-- ---- the one part

lacks_parts : (o : Outline) (k : ℕ) (v : ℤ) (pairs : List (ℤ × ℕ)) → lacks_value v (part_items o k pairs) ≡ lacks_value v pairs
lacks_parts o k v [] = refl
lacks_parts o k v (p ∷ ps) = ap (λ (b : Bool). cond (int_eq p.0 v) false b) (lacks_parts o k v ps)

distinct_parts : (o : Outline) (k : ℕ) (pairs : List (ℤ × ℕ)) → distinct_values (part_items o k pairs) ≡ distinct_values pairs
distinct_parts o k [] = refl
distinct_parts o k (p ∷ ps) =
    ap (λ (b : Bool). b && distinct_values (part_items o k ps)) (lacks_parts o k p.0 ps) ∙ ap (λ (b : Bool). lacks_value p.0 ps && b) (distinct_parts o k ps)

part_number : (o : Outline) (k : ℕ) (v : ℤ) (pairs : List (ℤ × ℕ)) → lacks_value v pairs ≡ false → number_for v (part_items o k pairs) ≡ first_object (parts_of o (Some (number_for v pairs)) k)
part_number o k v [] e = cc
part_number o k v (p ∷ ps) e = by (int_eq p.0 v) (λ l. part_number o k v ps l) e
  where
    by : (b : Bool) → (lacks_value v ps ≡ false → number_for v (part_items o k ps) ≡ first_object (parts_of o (Some (number_for v ps)) k)) → cond b false (lacks_value v ps) ≡ false →
        cond b (first_object (parts_of o (Some p.1) k)) (number_for v (part_items o k ps)) ≡ first_object (parts_of o (Some (cond b p.1 (number_for v ps))) k)
    by true more l = refl
    by false more l = more l

items_all : (o : Outline) (k : ℕ) (P : ℕ → Type 0) (pairs : List (ℤ × ℕ)) → All (λ (p : ℤ × ℕ). P (first_object (parts_of o (Some p.1) k))) pairs → All (λ (p : ℤ × ℕ). P p.1) (part_items o k pairs)
items_all o k P [] h = All-nil (λ (p : ℤ × ℕ). P p.1)
items_all o k P (p ∷ ps) h =
    All-cons (λ (q : ℤ × ℕ). P q.1) (p.0, first_object (parts_of o (Some p.1) k)) (part_items o k ps) (All-head (λ (q : ℤ × ℕ). P (first_object (parts_of o (Some q.1) k))) p ps h)
    (items_all o k P ps (All-tail (λ (q : ℤ × ℕ). P (first_object (parts_of o (Some q.1) k))) p ps h))

-- ---- several parts

has_one : (v w : ℤ) → has ((v, v) ∷ []) w ≡ int_eq v w
has_one v w = grind (arith, ints)

those_value : (x : ℕ) (v : ℤ) (ns : List ℕ) (rest : List Member) (a : List ℤ) → members_at (those_parts x v ns ++ rest) a ≡ cond (int_eq v (value_of a x)) (ns ++ members_at rest a) (members_at rest a)
those_value x v [] rest a = by (int_eq v (value_of a x))
  where
    by : (b : Bool) → members_at rest a ≡ cond b (members_at rest a) (members_at rest a)
    by true = refl
    by false = refl
those_value x v (n ∷ ns) rest a =
    ap (λ (b : Bool). cond b (n ∷ members_at (those_parts x v ns ++ rest) a) (members_at (those_parts x v ns ++ rest) a)) (has_one v (value_of a x))
    ∙ by (int_eq v (value_of a x)) (those_value x v ns rest a)
  where
    by : (b : Bool) → members_at (those_parts x v ns ++ rest) a ≡ cond b (ns ++ members_at rest a) (members_at rest a) → cond b (n ∷ members_at (those_parts x v ns ++ rest) a) (members_at (those_parts x v ns ++ rest) a) ≡ cond b (n ∷ (ns ++ members_at rest a)) (members_at rest a)
    by true h = ap (λ (ms : List ℕ). n ∷ ms) h
    by false h = h

same_value : (v w : ℤ) → int_eq v w ≡ true → v ≡ w
same_value v w e = grind (arith, ints)

-- no part is a member where no owner's value is that of x
nobody : (o : Outline) (x k : ℕ) (pairs : List (ℤ × ℕ)) (a : List ℤ) → lacks_value (value_of a x) pairs ≡ true → members_at (chosen_parts o x k pairs) a ≡ []
nobody o x k [] a e = refl
nobody o x k (p ∷ ps) a e =
    those_value x p.0 (parts_of o (Some p.1) k) (chosen_parts o x k ps) a ∙ by (int_eq p.0 (value_of a x)) e (λ l. nobody o x k ps a l)
  where
    by : (b : Bool) → cond b false (lacks_value (value_of a x) ps) ≡ true → (lacks_value (value_of a x) ps ≡ true → members_at (chosen_parts o x k ps) a ≡ []) → cond b (parts_of o (Some p.1) k ++ members_at (chosen_parts o x k ps) a) (members_at (chosen_parts o x k ps) a) ≡ []
    by true l more = cc
    by false l more = more l

chosen_value : (o : Outline) (x k : ℕ) (pairs : List (ℤ × ℕ)) (a : List ℤ) → distinct_values pairs ≡ true → lacks_value (value_of a x) pairs ≡ false → members_at (chosen_parts o x k pairs) a ≡ parts_of o (Some (number_for (value_of a x) pairs)) k
chosen_value o x k [] a d e = cc
chosen_value o x k (p ∷ ps) a d e =
    let both = and_parts (lacks_value p.0 ps) (distinct_values ps) d in
    those_value x p.0 (parts_of o (Some p.1) k) (chosen_parts o x k ps) a
    ∙ by both.0 (int_eq p.0 (value_of a x)) refl e (λ l. chosen_value o x k ps a both.1 l)
  where
    by : lacks_value p.0 ps ≡ true → (b : Bool) → int_eq p.0 (value_of a x) ≡ b → cond b false (lacks_value (value_of a x) ps) ≡ false → (lacks_value (value_of a x) ps ≡ false → members_at (chosen_parts o x k ps) a ≡ parts_of o (Some (number_for (value_of a x) ps)) k) →
        cond b (parts_of o (Some p.1) k ++ members_at (chosen_parts o x k ps) a) (members_at (chosen_parts o x k ps) a) ≡ parts_of o (Some (cond b p.1 (number_for (value_of a x) ps))) k
    by lacks true q l more =
        ap (λ (ms : List ℕ). parts_of o (Some p.1) k ++ ms) (nobody o x k ps a (subst (λ (w : ℤ). lacks_value w ps ≡ true) (same_value p.0 (value_of a x) q) lacks))
        ∙ append-nil (parts_of o (Some p.1) k)
    by lacks false q l more = more l

-- ---- the forms

module _ (o : Outline) (g : Ground) (x : ℕ) (pairs : List (ℤ × ℕ)) (k : ℕ) (sound : IsSound o) (there : x < length g.domains) where
  -- the parts of the objects, as a map
  parts_map : (c : ℕ) → IsMap g.domains (HaveShape o k (shape.One c)) x pairs → IsMap g.domains (Contains (extent o c)) x (part_items o k pairs)
  parts_map c m = record {
    distinct = distinct_parts o k pairs ∙ m.distinct;
    held = λ v h. lacks_parts o k v pairs ∙ m.held v h;
    may = items_all o k (Contains (extent o c)) pairs
        (λ i d lt. first_in (Contains (extent o c)) _ (count o k sound (shape.One c) _ (m.may i d lt)) (parts_in o k sound (shape.One c) _ (m.may i d lt) c refl));
  }

  part_value : (c : ℕ) (a : List ℤ) → IsMap g.domains (HaveShape o k (shape.One c)) x pairs → IsWorld g a → number_for (value_of a x) (part_items o k pairs) ≡ first_object (parts_of o (Some (number_for (value_of a x) pairs)) k)
  part_value c a m w = part_number o k (value_of a x) pairs (m.held _ (w.within x there))

  fixed_part : (c n : ℕ) → IsMap g.domains (HaveShape o k (shape.One c)) x pairs → IsFirst n (part_items o k pairs) → All (λ p. p.1 ≡ n) (part_items o k pairs) → IsMappedForm o g x pairs k (shape.One c) (form.Object c (choice.Fixed n))
  fixed_part c n m first same = record {
    stands = λ a w. ap (λ (j : ℕ). Object j)
        (sym (part_value c a m w) ∙ number_all (λ j. j ≡ n) (value_of a x) (part_items o k pairs) same ((parts_map c m).held _ (w.within x there)));
    number = no_number g.domains _ _ refl refl;
    truth = tt;
    typed = ((first_there (λ (p : ℤ × ℕ). Contains (extent o c) p.1) n (part_items o k pairs) first (parts_map c m).may).1, tt);
    reached = λ r h.
        let some = some_pairs n (part_items o k pairs) first in
        let long = length-map {B = ℤ × ℕ} pairs (λ (p : ℤ × ℕ). (p.0, first_object (parts_of o (Some p.1) k))) in
        omega (arith, h, some, long);
  }

  mapped_part : (c : ℕ) (ps : Vec (ℤ × ℕ) Global) → IsMap g.domains (HaveShape o k (shape.One c)) x pairs → ps.items ≡ part_items o k pairs → IsMappedForm o g x pairs k (shape.One c) (form.Object c (choice.Mapped x ps))
  mapped_part c ps m e = record {
    stands = λ a w. ap (λ (n : ℕ). Object n) (sym (ap (number_for (value_of a x)) e ∙ part_value c a m w));
    number = no_number g.domains _ _ refl refl;
    truth = tt;
    typed = ((there, subst (λ (z : List (ℤ × ℕ)). IsMap g.domains (Contains (extent o c)) x z) (sym e) (parts_map c m)), tt);
    reached = λ r h.
        let size = ap length e in
        let long = length-map {B = ℤ × ℕ} pairs (λ (p : ℤ × ℕ). (p.0, first_object (parts_of o (Some p.1) k))) in
        omega (arith, h, size, long);
  }

  pub one_form : (c : ℕ) (q : Choice) → IsMap g.domains (HaveShape o k (shape.One c)) x pairs → IsMappedChoice x (part_items o k pairs) q → IsMappedForm o g x pairs k (shape.One c) (form.Object c q)
  one_form c (choice.Fixed n) m is = fixed_part c n m is.0 is.1
  one_form c (choice.Cell y) m is = absurd is
  one_form c (choice.Mapped y ps) m is = subst (λ (z : ℕ). IsMappedForm o g x pairs k (shape.One c) (form.Object c (choice.Mapped z ps))) (sym is.0) (mapped_part c ps m is.1)

  those_members : (c : ℕ) (v : ℤ) (ns : List ℕ) (rest : List Member) → All (Contains (extent o c)) ns → All (IsMember o g.domains c) rest → All (IsMember o g.domains c) (those_parts x v ns ++ rest)
  those_members c v [] rest h more = more
  those_members c v (n ∷ ns) rest h more =
      All-cons (IsMember o g.domains c) (record { object = n; is = truth.In x ((v, v) ∷ []) }) (those_parts x v ns ++ rest)
      (record { may = All-head (Contains (extent o c)) n ns h; is = there })
      (those_members c v ns rest (All-tail (Contains (extent o c)) n ns h) more)

  chosen_members : (c m : ℕ) (ps : List (ℤ × ℕ)) → All (λ p. HaveShape o k (shape.Many c m) p.1) ps → All (IsMember o g.domains c) (chosen_parts o x k ps)
  chosen_members c m [] h = All-nil (IsMember o g.domains c)
  chosen_members c m (p ∷ ps) h =
      those_members c p.0 (parts_of o (Some p.1) k) (chosen_parts o x k ps)
      (parts_in o k sound (shape.Many c m) (Some p.1) (All-head (λ q. HaveShape o k (shape.Many c m) q.1) p ps h) c refl)
      (chosen_members c m ps (All-tail (λ q. HaveShape o k (shape.Many c m) q.1) p ps h))

  chosen_count : (c m : ℕ) (ps : List (ℤ × ℕ)) → All (λ p. HaveShape o k (shape.Many c m) p.1) ps → length (chosen_parts o x k ps) ≡ length ps * m
  chosen_count c m [] h = omega arith
  chosen_count c m (p ∷ ps) h =
      let here = count o k sound (shape.Many c m) (Some p.1) (All-head (λ q. HaveShape o k (shape.Many c m) q.1) p ps h) in
      let rest = chosen_count c m ps (All-tail (λ q. HaveShape o k (shape.Many c m) q.1) p ps h) in
      let both = length-append (those_parts x p.0 (parts_of o (Some p.1) k)) (chosen_parts o x k ps) in
      let long = length-map {B = Member} (parts_of o (Some p.1) k) (λ (n : ℕ). record { object = n; is = truth.In x ((p.0, p.0) ∷ []) }) in
      omega (arith, here, rest, both, long)

  times_more : (a r n : ℕ) → a ≤ r → a * n ≤ r * n
  times_more zero r n h = omega arith
  times_more (suc a) zero n h = absurd (omega (arith, h))
  times_more (suc a) (suc r) n h = let rest = times_more a r n (omega (arith, h)) in omega (arith, rest)

  pub many_form : (c m : ℕ) (ms : Vec Member Global) → IsMap g.domains (HaveShape o k (shape.Many c m)) x pairs → ms.items ≡ chosen_parts o x k pairs → IsMappedForm o g x pairs k (shape.Many c m) (form.List (listing.Some ms))
  many_form c m ms h e = record {
    stands = λ a w. ap (λ (ns : List ℕ). Objects ns) (sym (ap (λ (z : List Member). members_at z a) e ∙ chosen_value o x k pairs a h.distinct (h.held _ (w.within x there))));
    number = no_number g.domains _ _ refl refl;
    truth = tt;
    typed = subst (All (IsMember o g.domains c)) (sym e) (chosen_members c m pairs h.may);
    reached = λ r lt.
        let size = ap length e in
        let long = chosen_count c m pairs h.may in
        let more = times_more (length pairs) r m lt in
        omega (arith, size, long, more);
  }
