-- Members of lists, one more.
use Rattle.std.proofs.Common.{◌≡◌, ℕ, ◌+◌, ◌<◌, Bool, true, false, cond, ◌||◌, ◌&&◌, List, [], ◌∷◌, ◌++◌, ℤ, pos, length, map, drop, get_or, nat_eq, refl, sym, ap, ◌∙◌, subst, append_assoc}
use Rattle.std.specs.List.{All, list_any}
use Rattle.std.specs.Ordering.{int_eq}
use Rattle.std.proofs.lemmas.List.Elements.{All-push, All-weaker}
use Rattle.class_table.proofs.ListLaws.{drop_next}
use Rattle.object_alloc.proofs.GroupLaws.{any_item}
use Rattle.signed_clause.specs.Clauses.{Boxes}
use Rattle.form_build.specs.declared.form.Truth.TheVariants as truth
use Rattle.form_build.specs.Forms.{truth_at, HasVariable}
use Rattle.expr_forms.specs.declared.form.Member.{Member}
use Rattle.expr_forms.specs.declared.form.Slot.{Slot}
use Rattle.expr_forms.specs.FormValues.{members_at, cell_for, owned_at}
use Rattle.expr_forms.proofs.Growing.{variable_kept}
use Rattle.expr_forms.proofs.SumsKept.{AreKept}

-- ---- members of a list

one_more : (n k : ℕ) (b : Bool) (xs : List ℕ) → ((nat_eq n k && b) || list_any (nat_eq n) xs) ≡ list_any (nat_eq n) (cond b (k ∷ xs) xs)
one_more n k true xs = ap (λ (b : Bool). b || list_any (nat_eq n) xs) (kept (nat_eq n k))
  where
    kept : (b : Bool) → (b && true) ≡ b
    kept true = refl
    kept false = refl
one_more n k false xs = ap (λ (b : Bool). b || list_any (nat_eq n) xs) (gone (nat_eq n k))
  where
    gone : (b : Bool) → (b && false) ≡ false
    gone true = refl
    gone false = refl

pub any_members : (n : ℕ) (ms : List Member) (a : List ℤ) → list_any (λ (m : Member). nat_eq n m.object && truth_at m.is a) ms ≡ list_any (nat_eq n) (members_at ms a)
any_members n [] a = refl
any_members n (m ∷ ms) a =
    ap (λ (b : Bool). (nat_eq n m.object && truth_at m.is a) || b) (any_members n ms a) ∙ one_more n m.object (truth_at m.is a) (members_at ms a)

-- ---- members of a chosen owner's set

-- whether the object is in the set, by its cell
abbrev pub is_owned : ℕ → List ℤ → Slot → Bool
is_owned owner a s = int_eq (cell_for owner s.cells.items a) (pos 1)

pub any_owned : (n owner : ℕ) (ss : List Slot) (a : List ℤ) → list_any (λ (s : Slot). nat_eq n s.object && is_owned owner a s) ss ≡ list_any (nat_eq n) (owned_at owner ss a)
any_owned n owner [] a = refl
any_owned n owner (s ∷ ss) a =
    ap (λ (b : Bool). (nat_eq n s.object && is_owned owner a s) || b) (any_owned n owner ss a) ∙ one_more n s.object (is_owned owner a s) (owned_at owner ss a)

-- ---- lists of members, one further

members_push : (ms : List Member) (m : Member) (a : List ℤ) → members_at (ms ++ m ∷ []) a ≡ members_at ms a ++ cond (truth_at m.is a) (m.object ∷ []) []
members_push [] m a = refl
members_push (x ∷ xs) m a = by (truth_at x.is a) (members_push xs m a)
  where
    by : (b : Bool) → members_at (xs ++ m ∷ []) a ≡ members_at xs a ++ cond (truth_at m.is a) (m.object ∷ []) [] → cond b (x.object ∷ members_at (xs ++ m ∷ []) a) (members_at (xs ++ m ∷ []) a) ≡ cond b (x.object ∷ members_at xs a) (members_at xs a) ++ cond (truth_at m.is a) (m.object ∷ []) []
    by true h = ap (λ (z : List ℕ). x.object ∷ z) h
    by false h = h

objects_push : (ms : List Member) (m : Member) → map (λ (x : Member). x.object) (ms ++ m ∷ []) ≡ map (λ (x : Member). x.object) ms ++ m.object ∷ []
objects_push [] m = refl
objects_push (x ∷ xs) m = ap (λ (z : List ℕ). x.object ∷ z) (objects_push xs m)

-- a member in any case
abbrev pub sure : ℕ → Member
sure n = record { object = n; is = truth.Fixed true }

pub sure_step : (xs : List ℕ) (k : ℕ) (old new : List Member) (a : List ℤ) → k < length xs → new ≡ old ++ sure (get_or xs k 0) ∷ [] → members_at old a ++ drop k xs ≡ xs → members_at new a ++ drop (k + 1) xs ≡ xs
sure_step xs k old new a lt e h =
    let x : ℕ = get_or xs k 0 in
    ap (λ (z : List Member). members_at z a ++ drop (k + 1) xs) e ∙ ap (λ (z : List ℕ). z ++ drop (k + 1) xs) (members_push old (sure x) a)
    ∙ append_assoc (members_at old a) (x ∷ []) (drop (k + 1) xs)
    ∙ ap (λ (z : List ℕ). members_at old a ++ z) (sym (drop_next xs k x lt (any_item xs k 0 x lt)))
    ∙ h

pub sure_objects_step : (xs : List ℕ) (k : ℕ) (old new : List Member) → k < length xs → new ≡ old ++ sure (get_or xs k 0) ∷ [] → map (λ (m : Member). m.object) old ++ drop k xs ≡ xs → map (λ (m : Member). m.object) new ++ drop (k + 1) xs ≡ xs
sure_objects_step xs k old new lt e h =
    let x : ℕ = get_or xs k 0 in
    ap (λ (z : List Member). map (λ (m : Member). m.object) z ++ drop (k + 1) xs) e ∙ ap (λ (z : List ℕ). z ++ drop (k + 1) xs) (objects_push old (sure x))
    ∙ append_assoc (map (λ (m : Member). m.object) old) (x ∷ []) (drop (k + 1) xs)
    ∙ ap (λ (z : List ℕ). map (λ (m : Member). m.object) old ++ z) (sym (drop_next xs k x lt (any_item xs k 0 x lt)))
    ∙ h

-- the truths' variables exist still, and that of one more
pub variables_kept : (old new : Boxes) → AreKept old new → (ms : List Member) → All (λ (m : Member). HasVariable (length old) m.is) ms → All (λ (m : Member). HasVariable (length new) m.is) ms
variables_kept old new k ms h = All-weaker (λ (m : Member). HasVariable (length old) m.is) (λ (m : Member). HasVariable (length new) m.is) (λ m i. variable_kept old new k m.is i) ms h

pub variables_push : (n : ℕ) (old new : List Member) (m : Member) → new ≡ old ++ m ∷ [] → HasVariable n m.is → All (λ (x : Member). HasVariable n x.is) old → All (λ (x : Member). HasVariable n x.is) new
variables_push n old new m e i h = subst (λ (z : List Member). All (λ (x : Member). HasVariable n x.is) z) (sym e) (All-push (λ (x : Member). HasVariable n x.is) old m h i)

pub sure_push : (old new : List Member) (m : Member) → new ≡ old ++ m ∷ [] → m.is ≡ truth.Fixed true → All (λ (x : Member). x.is ≡ truth.Fixed true) old → All (λ (x : Member). x.is ≡ truth.Fixed true) new
sure_push old new m e i h = subst (λ (z : List Member). All (λ (x : Member). x.is ≡ truth.Fixed true) z) (sym e) (All-push (λ (x : Member). x.is ≡ truth.Fixed true) old m h i)

-- with one slot more
pub owned_step : (owner : ℕ) (ss : List Slot) (a : List ℤ) (k : ℕ) (s : Slot) (old new : List Member) (m : Member) → k < length ss → s ≡ get_or ss k s → new ≡ old ++ m ∷ [] → m.object ≡ s.object → truth_at m.is a ≡ is_owned owner a s → members_at old a ++ owned_at owner (drop k ss) a ≡ owned_at owner ss a → members_at new a ++ owned_at owner (drop (k + 1) ss) a ≡ owned_at owner ss a
owned_step owner ss a k s old new m lt is e object there h =
    ap (λ (z : List Member). members_at z a ++ owned_at owner (drop (k + 1) ss) a) e
    ∙ ap (λ (z : List ℕ). z ++ owned_at owner (drop (k + 1) ss) a) (members_push old m a)
    ∙ append_assoc (members_at old a) (cond (truth_at m.is a) (m.object ∷ []) []) (owned_at owner (drop (k + 1) ss) a)
    ∙ ap (λ (z : List ℕ). members_at old a ++ z)
    (ap (λ (b : Bool). cond b (m.object ∷ []) [] ++ owned_at owner (drop (k + 1) ss) a) there
    ∙ ap (λ (n : ℕ). cond (is_owned owner a s) (n ∷ []) [] ++ owned_at owner (drop (k + 1) ss) a) object
    ∙ by (is_owned owner a s)
    ∙ ap (λ (z : List Slot). owned_at owner z a) (sym (drop_next ss k s lt is)))
    ∙ h
  where
    by : (b : Bool) → cond b (s.object ∷ []) [] ++ owned_at owner (drop (k + 1) ss) a ≡ cond b (s.object ∷ owned_at owner (drop (k + 1) ss) a) (owned_at owner (drop (k + 1) ss) a)
    by true = refl
    by false = refl

pub slots_step : (ss : List Slot) (k : ℕ) (s : Slot) (old new : List Member) (m : Member) → k < length ss → s ≡ get_or ss k s → new ≡ old ++ m ∷ [] → m.object ≡ s.object → map (λ (x : Member). x.object) old ++ map (λ (x : Slot). x.object) (drop k ss) ≡ map (λ (x : Slot). x.object) ss → map (λ (x : Member). x.object) new ++ map (λ (x : Slot). x.object) (drop (k + 1) ss) ≡ map (λ (x : Slot). x.object) ss
slots_step ss k s old new m lt is e object h =
    ap (λ (z : List Member). map (λ (x : Member). x.object) z ++ map (λ (x : Slot). x.object) (drop (k + 1) ss)) e
    ∙ ap (λ (z : List ℕ). z ++ map (λ (x : Slot). x.object) (drop (k + 1) ss)) (objects_push old m)
    ∙ append_assoc (map (λ (x : Member). x.object) old) (m.object ∷ []) (map (λ (x : Slot). x.object) (drop (k + 1) ss))
    ∙ ap (λ (z : List ℕ). map (λ (x : Member). x.object) old ++ z)
    (ap (λ (n : ℕ). n ∷ map (λ (x : Slot). x.object) (drop (k + 1) ss)) object
    ∙ ap (λ (z : List Slot). map (λ (x : Slot). x.object) z) (sym (drop_next ss k s lt is)))
    ∙ h
