-- The members of a chosen object's reference set.
use Rattle.std.proofs.Common.{◌≡◌, ℕ, zero, suc, ◌+◌, ◌<◌, ◌≤◌, Bool, true, false, ◌||◌, cond, get_or, List, [], ◌∷◌, ℤ, pos, Option, None, Some, length, map, take, Global, refl, sym, ap, ◌∙◌, subst, arith}
use Rattle.std.specs.Prelude.{Contains, slice_get, slice_index_or, filter_map, option_and_then, nat_eq}
use Rattle.std.specs.declared.vec.Vec.{Vec}
use Rattle.std.specs.List.{All, cons_option}
use Rattle.std.specs.Ordering.{int_eq}
use Rattle.std.proofs.lemmas.Bool.Decides.{nat_tests}
use Rattle.std.proofs.lemmas.Int.{ints}
use Rattle.std.proofs.lemmas.List.Elements.{All-nil, All-cons, All-head, All-tail, All-contains_itself}
use Rattle.class_table.specs.declared.table.Resolved.TheVariants as shape
use Rattle.class_table.specs.Outline.{Outline}
use Rattle.class_table.specs.Sound.{IsSound}
use Rattle.object_alloc.specs.declared.object.Cell.{Cell}
use Rattle.object_alloc.specs.Cells.{cells, extent}
use Rattle.object_alloc.specs.Groups.{own_cells}
use Rattle.object_alloc.specs.Own.{member_cell}
use Rattle.object_alloc.proofs.OwnParts.{member_cells_are}
use Rattle.object_alloc.specs.Members.{member_at}
use Rattle.signed_clause.specs.Clauses.{Boxes}
use Rattle.ground_form.specs.declared.ground.Ground.{Ground}
use Rattle.ground_form.specs.Meaning.{value_of}
use Rattle.ground_form.specs.WellMade.{lacks_value}
use Rattle.conf_eval.specs.declared.value.Value.TheVariants.{Objects}
use Rattle.conf_eval.specs.Meaning.{int_same}
use Rattle.expr_forms.specs.declared.form.Form.TheVariants as form
use Rattle.expr_forms.specs.declared.form.Listing.TheVariants as listing
use Rattle.expr_forms.specs.declared.form.Slot.{Slot}
use Rattle.expr_forms.specs.FormBounds.{IsMap, has_cell, IsSlot}
use Rattle.expr_forms.specs.FormValues.{number_for, cell_for, owned_at}
use Rattle.expr_forms.specs.Standing.{HasCells}
use Rattle.expr_forms.proofs.Configured.{front_value}
use Rattle.expr_forms.proofs.Trees.{no_number}
use Rattle.reference_forms.proofs.CellLaws.{get_low, cell_searched, cell_there}
use Rattle.reference_forms.specs.Candidates.{HaveShape}
use Rattle.reference_forms.specs.Dots.{IsMappedForm}
use Rattle.reference_forms.proofs.MapLaws.{number_all}
use Rattle.reference_forms.specs.Lists.{slot_cells, slots_from, slot_view}

-- ---- the cell of the chosen owner

same_number : (m n : ℕ) → nat_eq m n ≡ true → m ≡ n
same_number m n e = grind (arith, nat_tests)

-- one of the pairs names the owner
abbrev Names : ℕ → List (ℤ × ℕ) → Type 0
Names owner pairs = Contains (map (λ (p : ℤ × ℕ). p.1) pairs) owner

named : (v : ℤ) (pairs : List (ℤ × ℕ)) → lacks_value v pairs ≡ false → Names (number_for v pairs) pairs
named v [] e = cc
named v (p ∷ ps) e = by (int_eq p.0 v) (λ l. named v ps l) e
  where
    later : (n : ℕ) → Names n ps → Names n (p ∷ ps)
    later n h = (suc h.0, omega (arith, h.1), h.2)

    by : (b : Bool) → (lacks_value v ps ≡ false → Names (number_for v ps) ps) → cond b false (lacks_value v ps) ≡ false → Names (cond b p.1 (number_for v ps)) (p ∷ ps)
    by true more l = (0, omega arith, refl)
    by false more l = later (number_for v ps) (more l)

apart : (m n : ℕ) → nat_eq m n ≡ false → m ≡ n → ⊥
apart m n f g = absurd (grind (arith, nat_tests))

names_rest : (owner : ℕ) (p : ℤ × ℕ) (ps : List (ℤ × ℕ)) → nat_eq p.1 owner ≡ false → Names owner (p ∷ ps) → Names owner ps
names_rest owner p ps e (zero, lt, is) = absurd (apart p.1 owner e is)
names_rest owner p ps e (suc j, lt, is) = (j, omega (arith, lt), is)

owner_cell : (o : Outline) (k i owner : ℕ) (pairs : List (ℤ × ℕ)) (a : List ℤ) → Names owner pairs → cell_for owner (slot_cells o k i pairs) a ≡ value_of a (slice_index_or (own_cells o (Some owner) k) i 0)
owner_cell o k i owner [] a h = absurd (omega (arith, h.1))
owner_cell o k i owner (p ∷ ps) a h = by (nat_eq p.1 owner) refl (λ e. owner_cell o k i owner ps a (names_rest owner p ps e h))
  where
    by : (b : Bool) → nat_eq p.1 owner ≡ b → (nat_eq p.1 owner ≡ false → cell_for owner (slot_cells o k i ps) a ≡ value_of a (slice_index_or (own_cells o (Some owner) k) i 0)) →
        cond b (value_of a (slice_index_or (own_cells o (Some p.1) k) i 0)) (cell_for owner (slot_cells o k i ps) a) ≡ value_of a (slice_index_or (own_cells o (Some owner) k) i 0)
    by true e more = ap (λ (n : ℕ). value_of a (slice_index_or (own_cells o (Some n) k) i 0)) (same_number p.1 owner e)
    by false e more = more e

has_first : (b : Bool) (n : ℕ) → (nat_eq n n || b) ≡ true
has_first b n = grind (arith, nat_tests)

has_later : (b c : Bool) → c ≡ true → (b || c) ≡ true
has_later b c e = grind arith

-- each owner of the pairs has a cell
have_cells : (o : Outline) (k i : ℕ) (pairs : List (ℤ × ℕ)) → All (λ p. has_cell p.1 (slot_cells o k i pairs) ≡ true) pairs
have_cells o k i [] j d lt = absurd (omega (arith, lt))
have_cells o k i (p ∷ ps) zero d lt = has_first (has_cell p.1 (slot_cells o k i ps)) p.1
have_cells o k i (p ∷ ps) (suc j) d lt =
    has_later (nat_eq p.1 (get_or ps j d).1) (has_cell (get_or ps j d).1 (slot_cells o k i ps)) (have_cells o k i ps j d (omega (arith, lt)))

-- ---- the members of the chosen owner's set

-- the members by what slots say
abbrev owned_view : ℕ → List (ℕ × List (ℕ × ℕ)) → List ℤ → List ℕ
owned_view owner [] a = []
owned_view owner (s ∷ ss) a = cond (int_eq (cell_for owner s.1 a) (pos 1)) (s.0 ∷ owned_view owner ss a) (owned_view owner ss a)

viewed : (owner : ℕ) (ss : List Slot) (a : List ℤ) → owned_at owner ss a ≡ owned_view owner (map slot_view ss) a
viewed owner [] a = refl
viewed owner (s ∷ ss) a = ap (λ (ns : List ℕ). cond (int_eq (cell_for owner s.cells.items a) (pos 1)) (s.object ∷ ns) ns) (viewed owner ss a)

same_test : (v : ℤ) → int_same v (pos 1) ≡ int_eq v (pos 1)
same_test v = grind (arith, ints)

first_same : {X : Type 0} {p q : X} {rest more : List X} → p ∷ rest ≡ q ∷ more → p ≡ q
first_same g = cc

rest_same : {X : Type 0} {p q : X} {rest more : List X} → p ∷ rest ≡ q ∷ more → rest ≡ more
rest_same g = cc

module _ (o : Outline) (g : Ground) (k : ℕ) (cs : HasCells o g) where
  chosen_is : (owner : Option ℕ) (a : List ℤ) (j n : ℕ) → slice_get (cells o) j ≡ Some (member_cell owner k n) → member_at (cells o) (take g.search a) j ≡ cond (int_eq (value_of a j) (pos 1)) (Some n) None
  chosen_is owner a j n e =
      let low = cell_searched o g j cs (get_low (cells o) j _ e) in
      ap (λ r. cond (int_same (slice_index_or (take g.search a) j (pos 0)) (pos 1)) (option_and_then (λ (c : Cell). c.element) r) None) e
      ∙ ap (λ (v : ℤ). cond (int_same v (pos 1)) (Some n) None) (front_value g.search j a low)
      ∙ ap (λ (b : Bool). cond b (Some n) None) (same_test (value_of a j))

  set_value : (owner : ℕ) (pairs : List (ℤ × ℕ)) (a : List ℤ) → Names owner pairs → (i : ℕ) (is xs : List ℕ) → map (λ j. slice_get (cells o) j) is ≡ map Some (map (member_cell (Some owner) k) xs) →
      ((j : ℕ) → slice_index_or (own_cells o (Some owner) k) (i + j) 0 ≡ slice_index_or is j 0) →
      filter_map (member_at (cells o) (take g.search a)) is ≡ owned_view owner (slots_from o k pairs i xs) a
  set_value owner pairs a names i [] [] e at = refl
  set_value owner pairs a names i [] (x ∷ xs) e at = cc
  set_value owner pairs a names i (j ∷ is) [] e at = cc
  set_value owner pairs a names i (j ∷ is) (x ∷ xs) e at =
      let here : slice_index_or (own_cells o (Some owner) k) i 0 ≡ j = ap (λ (m : ℕ). slice_index_or (own_cells o (Some owner) k) m 0) (none_more i) ∙ at 0 in
      let cell = owner_cell o k i owner pairs a names ∙ ap (value_of a) here in
      ap (λ r. cons_option r (filter_map (member_at (cells o) (take g.search a)) is)) (chosen_is (Some owner) a j x (first_same e))
      ∙ by (int_eq (value_of a j) (pos 1)) (set_value owner pairs a names (suc i) is xs (rest_same e) (λ m. ap (λ (q : ℕ). slice_index_or (own_cells o (Some owner) k) q 0) (next i m) ∙ at (suc m)))
      ∙ ap (λ (v : ℤ). cond (int_eq v (pos 1)) (x ∷ owned_view owner (slots_from o k pairs (suc i) xs) a) (owned_view owner (slots_from o k pairs (suc i) xs) a)) (sym cell)
    where
      none_more : (m : ℕ) → m ≡ m + 0
      none_more m = omega arith

      next : (m n : ℕ) → suc m + n ≡ m + suc n
      next m n = omega arith

      by : (b : Bool) → filter_map (member_at (cells o) (take g.search a)) is ≡ owned_view owner (slots_from o k pairs (suc i) xs) a →
          cons_option (cond b (Some x) None) (filter_map (member_at (cells o) (take g.search a)) is) ≡ cond b (x ∷ owned_view owner (slots_from o k pairs (suc i) xs) a) (owned_view owner (slots_from o k pairs (suc i) xs) a)
      by true h = ap (λ (ns : List ℕ). x ∷ ns) h
      by false h = h

  all_low : (owner : Option ℕ) (is xs : List ℕ) → map (λ j. slice_get (cells o) j) is ≡ map Some (map (member_cell owner k) xs) → All (λ j. j < length g.domains) is × (length is ≡ length xs)
  all_low owner [] [] e = (All-nil (λ j. j < length g.domains), refl)
  all_low owner [] (x ∷ xs) e = cc
  all_low owner (j ∷ is) [] e = cc
  all_low owner (j ∷ is) (x ∷ xs) e =
      let rest = all_low owner is xs (rest_same e) in
      (All-cons (λ m. m < length g.domains) j is (cell_there o g j cs (get_low (cells o) j _ (first_same e))) rest.0, ap suc rest.1)

  module _ (sound : IsSound o) (c m : ℕ) where
    slot_cells_low : (i : ℕ) (pairs : List (ℤ × ℕ)) → i < length (extent o c) → All (λ p. HaveShape o k (shape.RefSet c m) p.1) pairs → All (λ (p : ℕ × ℕ). p.1 < length g.domains) (slot_cells o k i pairs)
    slot_cells_low i [] lt h = All-nil (λ (p : ℕ × ℕ). p.1 < length g.domains)
    slot_cells_low i (p ∷ ps) lt h =
        let s = All-head (λ q. HaveShape o k (shape.RefSet c m) q.1) p ps h in
        let low = all_low (Some p.1) (own_cells o (Some p.1) k) (extent o c) (member_cells_are o sound (Some p.1) k s.variable s.there s.is c m s.shape) in
        let count = low.1 in
        All-cons (λ (q : ℕ × ℕ). q.1 < length g.domains) (p.1, slice_index_or (own_cells o (Some p.1) k) i 0) (slot_cells o k i ps) (low.0 i 0 (omega (arith, lt, count)))
        (slot_cells_low i ps lt (All-tail (λ q. HaveShape o k (shape.RefSet c m) q.1) p ps h))

    -- the owners, each with its cell for member number i
    owners_are : (boxes : Boxes) (x i : ℕ) (pairs : List (ℤ × ℕ)) → IsMap boxes (HaveShape o k (shape.RefSet c m)) x pairs → IsMap boxes (λ n. has_cell n (slot_cells o k i pairs) ≡ true) x pairs
    owners_are boxes x i pairs h = record { distinct = h.distinct; held = h.held; may = have_cells o k i pairs }

    slots_are : (x : ℕ) (pairs : List (ℤ × ℕ)) → IsMap g.domains (HaveShape o k (shape.RefSet c m)) x pairs → (i : ℕ) (xs : List ℕ) → i + length xs ≤ length (extent o c) → All (Contains (extent o c)) xs → (ss : List Slot) → map slot_view ss ≡ slots_from o k pairs i xs → All (IsSlot o g.domains c x pairs) ss × (length ss ≡ length xs)
    slots_are x pairs h i [] few all [] e = (All-nil (IsSlot o g.domains c x pairs), refl)
    slots_are x pairs h i [] few all (s ∷ ss) e = cc
    slots_are x pairs h i (n ∷ ns) few all [] e = cc
    slots_are x pairs h i (n ∷ ns) few all (s ∷ ss) e =
        let rest = slots_are x pairs h (suc i) ns (omega (arith, few)) (All-tail (Contains (extent o c)) n ns all) ss (rest_same e) in
        let here : slot_view s ≡ (n, slot_cells o k i pairs) = first_same e in
        let cells_here : s.cells.items ≡ slot_cells o k i pairs = ap (λ (v : ℕ × List (ℕ × ℕ)). v.1) here in (
          All-cons (IsSlot o g.domains c x pairs) s ss (record {
            may = subst (Contains (extent o c)) (sym (ap (λ (v : ℕ × List (ℕ × ℕ)). v.0) here)) (All-head (Contains (extent o c)) n ns all);
            exist = subst (All (λ (p : ℕ × ℕ). p.1 < length g.domains)) (sym cells_here) (slot_cells_low i pairs (omega (arith, few)) h.may);
            owners = subst (λ (z : List (ℕ × ℕ)). IsMap g.domains (λ q. has_cell q z ≡ true) x pairs) (sym cells_here) (owners_are g.domains x i pairs h);
          }) rest.0,
          ap suc rest.1,
        )

    -- the set of the chosen object as slots
    pub set_form : (x : ℕ) (pairs : List (ℤ × ℕ)) (ps : Vec (ℤ × ℕ) Global) (ss : Vec Slot Global) → x < length g.domains → ps.items ≡ pairs → IsMap g.domains (HaveShape o k (shape.RefSet c m)) x pairs → map slot_view ss.items ≡ slots_from o k pairs 0 (extent o c) → IsMappedForm o g x pairs k (shape.RefSet c m) (form.List (listing.Owned x ps ss))
    set_form x pairs ps ss there same h e =
        let are = slots_are x pairs h 0 (extent o c) (omega arith) (All-contains_itself (extent o c)) ss.items e in
        record {
          stands = λ a w. ap (λ (ns : List ℕ). Objects ns) (members a (value_of a x) (h.held _ (w.within x there)) ∙ sym (viewed _ ss.items a ∙ ap (λ z. owned_view (number_for (value_of a x) ps.items) z a) e));
          number = no_number g.domains _ _ refl refl;
          truth = tt;
          typed = (there, subst (λ (z : List (ℤ × ℕ)). All (IsSlot o g.domains c x z) ss.items) (sym same) are.0);
          reached = λ r lt. let count = are.1 in omega (arith, count);
        }
      where
        members : (a : List ℤ) (v : ℤ) → lacks_value v pairs ≡ false → filter_map (member_at (cells o) (take g.search a)) (own_cells o (Some (number_for v pairs)) k) ≡ owned_view (number_for v ps.items) (slots_from o k pairs 0 (extent o c)) a
        members a v lacks =
            let owner = number_for v pairs in
            let s = number_all (HaveShape o k (shape.RefSet c m)) v pairs h.may lacks in
            set_value owner pairs a (named v pairs lacks) 0 (own_cells o (Some owner) k) (extent o c) (member_cells_are o sound (Some owner) k s.variable s.there s.is c m s.shape) (λ j. ap (λ (q : ℕ). slice_index_or (own_cells o (Some owner) k) q 0) (omega arith))
            ∙ ap (λ (z : List (ℤ × ℕ)). owned_view (number_for v z) (slots_from o k pairs 0 (extent o c)) a) (sym same)
