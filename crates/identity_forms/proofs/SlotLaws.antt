-- The cell of a chosen owner.
use Rattle.std.proofs.Common.{◌≡◌, ℕ, ◌+◌, ◌<◌, Bool, true, false, cond, ◌||◌, ◌&&◌, List, [], ◌∷◌, ◌++◌, ℤ, pos, Option, None, Some, length, drop, get_or, nat_eq, Bor, Vec, Global, refl, sym, ap, ◌∙◌, subst, arith, append_assoc}
use Rattle.std.specs.Prelude.{is_some}
use Rattle.std.specs.List.{All}
use Rattle.std.specs.Map.{lookup}
use Rattle.std.specs.Option.{unwrap_or, option_copied}
use Rattle.std.specs.Ordering.{int_eq}
use Rattle.std.proofs.lemmas.Bool.{eqb-true}
use Rattle.std.proofs.lemmas.Bool.Decides.{nat_tests}
use Rattle.std.proofs.lemmas.Int.{ints}
use Rattle.std.proofs.lemmas.List.Elements.{All-nil, All-cons, All-head, All-tail, All-weaker}
use Rattle.class_table.proofs.ListLaws.{drop_next}
use Rattle.object_alloc.proofs.GroupLaws.{any_item}
use Rattle.signed_clause.specs.Ranges.{in_range}
use Rattle.signed_clause.specs.Clauses.{Boxes}
use Rattle.ground_form.specs.Meaning.{value_of}
use Rattle.ground_form.specs.WellMade.{distinct_values, lacks_value}
use Rattle.expr_forms.specs.declared.form.Slot.{Slot}
use Rattle.expr_forms.specs.declared.form.Listing.{Listing}
use Rattle.expr_forms.specs.declared.form.Listing.TheVariants as listing
use Rattle.expr_forms.specs.FormBounds.{has_cell}
use Rattle.expr_forms.specs.FormValues.{number_for, cell_for}
use Rattle.expr_forms.proofs.Growing.{map_kept}
use Rattle.expr_forms.proofs.SumsKept.{AreKept}
use Rattle.identity_forms.specs.Lists.{IsOwnedSlot, HasMembers, AreAll, cell_items}

-- the slots of a list
pub owned_slots : (boxes : Boxes) (l : Listing) (x : ℕ) (pairs : Vec (ℤ × ℕ) Global) (slots : Vec Slot Global) (ps : List (ℤ × ℕ)) (ss : List Slot) → l ≡ listing.Owned x pairs slots → HasMembers boxes l → ps ≡ pairs.items → ss ≡ slots.items → All (IsOwnedSlot boxes x ps) ss
owned_slots boxes l x pairs slots ps ss e h p s =
    let i : HasMembers boxes (listing.Owned x pairs slots) = subst (HasMembers boxes) e h in
    subst (λ (z : List (ℤ × ℕ)). All (IsOwnedSlot boxes x z) ss) (sym p) (subst (λ (z : List Slot). All (IsOwnedSlot boxes x pairs.items) z) (sym s) i.1)

-- ---- the cells by their owners

first : {X : Type 0} → Option X → Option X → Option X
first (Some x) o = Some x
first None o = o

lookup_push : (n : ℕ) (es : List (ℕ × ℕ)) (e : ℕ × ℕ) → lookup (nat_eq n) (es ++ e ∷ []) ≡ first (lookup (nat_eq n) es) (cond (nat_eq n e.0) (Some e.1) None)
unfolding first
lookup_push n [] e = refl
lookup_push n (f ∷ es) e = by (nat_eq n f.0) (lookup_push n es e)
  where
    by : (b : Bool) → lookup (nat_eq n) (es ++ e ∷ []) ≡ first (lookup (nat_eq n) es) (cond (nat_eq n e.0) (Some e.1) None) → cond b (Some f.1) (lookup (nat_eq n) (es ++ e ∷ [])) ≡ first (cond b (Some f.1) (lookup (nat_eq n) es)) (cond (nat_eq n e.0) (Some e.1) None)
    by true h = refl
    by false h = h

turned : (m n : ℕ) → nat_eq m n ≡ nat_eq n m
turned m n = grind (arith, nat_tests)

-- an owner that is noted is noted still
pub noted_still : (owner cell there : ℕ) (es : List (ℕ × ℕ)) → lookup (nat_eq owner) es ≡ Some there → (n : ℕ) → lookup (nat_eq n) es ≡ lookup (nat_eq n) (es ++ (owner, cell) ∷ [])
unfolding first
noted_still owner cell there es h n =
    by (lookup (nat_eq n) es) (nat_eq n owner) refl refl ∙ sym (lookup_push n es (owner, cell))
  where
    by : (o : Option ℕ) (b : Bool) → lookup (nat_eq n) es ≡ o → nat_eq n owner ≡ b → o ≡ first o (cond b (Some cell) None)
    by (Some x) b e f = refl
    by None false e f = refl
    by None true e f =
        let same : n ≡ owner = eqb-true n owner f in
        let none : lookup (nat_eq owner) es ≡ None = subst (λ (m : ℕ). lookup (nat_eq m) es ≡ None) same e in
        absurd cc

-- an owner is noted that wasn't
pub noted_more : (owner cell : ℕ) (es new : List (ℕ × ℕ)) → lookup (nat_eq owner) es ≡ None → ((n : ℕ) → lookup (nat_eq n) new ≡ cond (nat_eq owner n) (Some cell) (lookup (nat_eq n) es)) → (n : ℕ) → lookup (nat_eq n) new ≡ lookup (nat_eq n) (es ++ (owner, cell) ∷ [])
unfolding first
noted_more owner cell es new none updates n =
    updates n ∙ ap (λ (b : Bool). cond b (Some cell) (lookup (nat_eq n) es)) (turned owner n)
    ∙ by (lookup (nat_eq n) es) (nat_eq n owner) refl refl ∙ sym (lookup_push n es (owner, cell))
  where
    by : (o : Option ℕ) (b : Bool) → lookup (nat_eq n) es ≡ o → nat_eq n owner ≡ b → cond b (Some cell) o ≡ first o (cond b (Some cell) None)
    by None true e f = refl
    by None false e f = refl
    by (Some x) false e f = refl
    by (Some x) true e f =
        let same : n ≡ owner = eqb-true n owner f in
        let some : lookup (nat_eq owner) es ≡ Some x = subst (λ (m : ℕ). lookup (nat_eq m) es ≡ Some x) same e in
        absurd cc

-- one cell further
pub noted_step : (n : ℕ) (old new done next : List (ℕ × ℕ)) (e : ℕ × ℕ) → lookup (nat_eq n) old ≡ lookup (nat_eq n) done → lookup (nat_eq n) new ≡ lookup (nat_eq n) (old ++ e ∷ []) → next ≡ done ++ e ∷ [] → lookup (nat_eq n) new ≡ lookup (nat_eq n) next
noted_step n old new done next e h added is =
    added ∙ lookup_push n old e ∙ ap (λ (o : Option ℕ). first o (cond (nat_eq n e.0) (Some e.1) None)) h ∙ sym (lookup_push n done e)
    ∙ ap (lookup (nat_eq n)) (sym is)

-- one pair further
pub items_step : (cells : List (ℕ × ℕ)) (ps : List (ℤ × ℕ)) (k : ℕ) (d t : ℤ × ℕ) (old new : List (ℤ × ℕ)) → k < length ps → new ≡ old ++ t ∷ [] → t ≡ ((get_or ps k d).0, unwrap_or (lookup (nat_eq (get_or ps k d).1) cells) 0) → old ++ cell_items cells (drop k ps) ≡ cell_items cells ps → new ++ cell_items cells (drop (k + 1) ps) ≡ cell_items cells ps
items_step cells ps k d t old new lt e is h =
    ap (λ (z : List (ℤ × ℕ)). z ++ cell_items cells (drop (k + 1) ps)) e
    ∙ append_assoc old (t ∷ []) (cell_items cells (drop (k + 1) ps))
    ∙ ap (λ (u : ℤ × ℕ). old ++ (u ∷ cell_items cells (drop (k + 1) ps))) is
    ∙ ap (λ (z : List (ℤ × ℕ)). old ++ cell_items cells z) (sym (drop_next ps k (get_or ps k d) lt (any_item ps k d (get_or ps k d) lt)))
    ∙ h

-- ---- what a look-up found

pub none_found : (o : Option (Bor ℕ)) (r : Option ℕ) → option_copied o ≡ r → is_some o ≡ false → r ≡ None
none_found None r e f = sym e
none_found (Some x) r e f = absurd cc

pub some_found : (o : Option (Bor ℕ)) (r : Option ℕ) → option_copied o ≡ r → is_some o ≡ true → (x : ℕ) × (r ≡ Some x)
some_found None r e f = absurd cc
some_found (Some x) r e f = (x.now, sym e)

-- ---- the items of a slot

pub items_lack : (cells : List (ℕ × ℕ)) (v : ℤ) (ps : List (ℤ × ℕ)) → lacks_value v (cell_items cells ps) ≡ lacks_value v ps
items_lack cells v [] = refl
items_lack cells v (p ∷ ps) = ap (λ (b : Bool). cond (int_eq p.0 v) false b) (items_lack cells v ps)

pub items_distinct : (cells : List (ℕ × ℕ)) (ps : List (ℤ × ℕ)) → distinct_values (cell_items cells ps) ≡ distinct_values ps
items_distinct cells [] = refl
items_distinct cells (p ∷ ps) =
    ap (λ (b : Bool). b && distinct_values (cell_items cells ps)) (items_lack cells p.0 ps) ∙ ap (λ (b : Bool). lacks_value p.0 ps && b) (items_distinct cells ps)

-- the cell of an owner that has one
cell_low : (n owner : ℕ) (cells : List (ℕ × ℕ)) → All (λ (p : ℕ × ℕ). p.1 < n) cells → has_cell owner cells ≡ true → unwrap_or (lookup (nat_eq owner) cells) 0 < n
cell_low n owner [] all h = absurd cc
cell_low n owner (p ∷ cells) all h =
    by (nat_eq p.0 owner) (nat_eq owner p.0) (turned owner p.0) h (λ g. cell_low n owner cells (All-tail (λ (q : ℕ × ℕ). q.1 < n) p cells all) g)
  where
    by : (b c : Bool) → c ≡ b → (b || has_cell owner cells) ≡ true → (has_cell owner cells ≡ true → unwrap_or (lookup (nat_eq owner) cells) 0 < n) → unwrap_or (cond c (Some p.1) (lookup (nat_eq owner) cells)) 0 < n
    by true true e g more = All-head (λ (q : ℕ × ℕ). q.1 < n) p cells all
    by false false e g more = more g
    by true false e g more = absurd cc
    by false true e g more = absurd cc

owner_cell : (owner : ℕ) (cells : List (ℕ × ℕ)) (a : List ℤ) → has_cell owner cells ≡ true → value_of a (unwrap_or (lookup (nat_eq owner) cells) 0) ≡ cell_for owner cells a
owner_cell owner [] a h = absurd cc
owner_cell owner (p ∷ cells) a h = by (nat_eq p.0 owner) (nat_eq owner p.0) (turned owner p.0) h (λ g. owner_cell owner cells a g)
  where
    by : (b c : Bool) → c ≡ b → (b || has_cell owner cells) ≡ true → (has_cell owner cells ≡ true → value_of a (unwrap_or (lookup (nat_eq owner) cells) 0) ≡ cell_for owner cells a) → value_of a (unwrap_or (cond c (Some p.1) (lookup (nat_eq owner) cells)) 0) ≡ cond b (value_of a p.1) (cell_for owner cells a)
    by true true e g more = refl
    by false false e g more = more g
    by true false e g more = absurd cc
    by false true e g more = absurd cc

pub items_low : (n : ℕ) (cells : List (ℕ × ℕ)) (ps : List (ℤ × ℕ)) → All (λ (p : ℕ × ℕ). p.1 < n) cells → All (λ (p : ℤ × ℕ). has_cell p.1 cells ≡ true) ps → All (λ (t : ℤ × ℕ). t.1 < n) (cell_items cells ps)
items_low n cells [] all h = All-nil (λ (t : ℤ × ℕ). t.1 < n)
items_low n cells (p ∷ ps) all h =
    All-cons (λ (t : ℤ × ℕ). t.1 < n) (p.0, unwrap_or (lookup (nat_eq p.1) cells) 0) (cell_items cells ps) (cell_low n p.1 cells all (All-head (λ (q : ℤ × ℕ). has_cell q.1 cells ≡ true) p ps h))
    (items_low n cells ps all (All-tail (λ (q : ℤ × ℕ). has_cell q.1 cells ≡ true) p ps h))

same_value : (p v : ℤ) → int_eq p v ≡ true → v ≡ p
same_value p v e = grind (arith, ints)

-- a variable that is the item's whose value is v is the cell of the owner that goes with v
pub picked_cell : (cells : List (ℕ × ℕ)) (ps : List (ℤ × ℕ)) (v : ℤ) (y : ℕ) (a : List ℤ) → lacks_value v ps ≡ false → All (λ (p : ℤ × ℕ). has_cell p.1 cells ≡ true) ps → All (λ (t : ℤ × ℕ). v ≡ t.0 → value_of a y ≡ value_of a t.1) (cell_items cells ps) → value_of a y ≡ cell_for (number_for v ps) cells a
picked_cell cells [] v y a l h all = absurd cc
picked_cell cells (p ∷ ps) v y a l h all =
    by (int_eq p.0 v) refl l
    (λ m. picked_cell cells ps v y a m (All-tail (λ (q : ℤ × ℕ). has_cell q.1 cells ≡ true) p ps h) (All-tail (λ (t : ℤ × ℕ). v ≡ t.0 → value_of a y ≡ value_of a t.1) (p.0, unwrap_or (lookup (nat_eq p.1) cells) 0) (cell_items cells ps) all))
  where
    by : (b : Bool) → int_eq p.0 v ≡ b → cond b false (lacks_value v ps) ≡ false → (lacks_value v ps ≡ false → value_of a y ≡ cell_for (number_for v ps) cells a) → value_of a y ≡ cell_for (cond b p.1 (number_for v ps)) cells a
    by true e m more =
        All-head (λ (t : ℤ × ℕ). v ≡ t.0 → value_of a y ≡ value_of a t.1) (p.0, unwrap_or (lookup (nat_eq p.1) cells) 0) (cell_items cells ps) all (same_value p.0 v e)
        ∙ owner_cell p.1 cells a (All-head (λ (q : ℤ × ℕ). has_cell q.1 cells ≡ true) p ps h)
    by false e m more = more m

-- ---- one variable for all

pub all_exist : (n y : ℕ) (items : List (ℤ × ℕ)) → AreAll y items → All (λ (t : ℤ × ℕ). t.1 < n) items → y < n
all_exist n y [] h low = absurd (omega (arith, h.some))
all_exist n y (t ∷ items) h low = subst (λ (z : ℕ). z < n) (All-head (λ (u : ℤ × ℕ). u.1 ≡ y) t items h.all) (All-head (λ (u : ℤ × ℕ). u.1 < n) t items low)

pub all_values : (y : ℕ) (items : List (ℤ × ℕ)) (v : ℤ) (a : List ℤ) → AreAll y items → All (λ (t : ℤ × ℕ). v ≡ t.0 → value_of a y ≡ value_of a t.1) items
all_values y items v a h =
    All-weaker (λ (t : ℤ × ℕ). t.1 ≡ y) (λ (t : ℤ × ℕ). v ≡ t.0 → value_of a y ≡ value_of a t.1) (λ t e. λ f. ap (value_of a) (sym e)) items h.all

pub flag_test : (v : ℤ) → in_range (pos 1, pos 1) v ≡ int_eq v (pos 1)
flag_test v = grind (arith, ints)

-- ---- growth

pub slots_kept : (old new : Boxes) → AreKept old new → (x : ℕ) (pairs : List (ℤ × ℕ)) (ss : List Slot) → x < length old → All (IsOwnedSlot old x pairs) ss → All (IsOwnedSlot new x pairs) ss
slots_kept old new k x pairs ss lt h =
    All-weaker (IsOwnedSlot old x pairs) (IsOwnedSlot new x pairs)
    (λ s i. record {
      exist = All-weaker (λ (p : ℕ × ℕ). p.1 < length old) (λ (p : ℕ × ℕ). p.1 < length new) (λ p less. omega (arith, less, k.count)) s.cells.items i.exist;
      owners = map_kept old new k (λ n. has_cell n s.cells.items ≡ true) x pairs lt i.owners;
    }) ss h
