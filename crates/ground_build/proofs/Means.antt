-- What a definition says of its variable where all constraints are true.
use Rattle.std.proofs.Common.{◌≡◌, ℕ, zero, suc, ◌<◌, Bool, true, false, ◌&&◌, ◌||◌, cond, List, [], ◌∷◌, ℤ, pos, ◌+ℤ◌, All, arith, length, refl, sym, ◌∙◌, subst, get_or, Some}
use Rattle.std.specs.Prelude.{int_le}
use Rattle.std.specs.Ordering.{int_eq}
use Rattle.std.proofs.lemmas.Int.{ints}
use Rattle.std.proofs.lemmas.Bool.{and_parts}
use Rattle.std.proofs.lemmas.Bool.Decides.{Decides-int_eq}
use Rattle.signed_clause.specs.Ranges.{Ranges, has}
use Rattle.ground_form.specs.declared.con.Con.{Con}
use Rattle.ground_form.specs.declared.con.Con.TheVariants.{LinDef, ReifLe, AndDef, MemberDef, EqDef, ElementDef, CondDef}
use Rattle.ground_form.specs.declared.ground.Ground.{Ground}
use Rattle.ground_form.specs.Meaning.{value_of, bit, sum_at, parts_true, picks, con_true}
use Rattle.ground_form.specs.WellMade.{defined_by, lacks_value, distinct_values}
use Rattle.ground_form.specs.StandsFor.{IsDefinition}
use Rattle.ground_build.specs.Growing.{AreDefined, IsDefined}
use Rattle.ground_build.proofs.Extended.{last_part}
use Rattle.ground_build.proofs.Determined.{picks_none}

-- the new constraint is one of those that are true
new_holds : (old new : Ground) (x : ℕ) (domain : Ranges) (con : Con) (a : List ℤ) → IsDefined old new x domain con → defined_by con ≡ Some x → AreDefined new a → con_true con a ≡ true
new_holds old new x domain con a d e h = last_part (λ c. IsDefinition old.search c → con_true c a ≡ true) old.cons con (subst (λ (g : Ground). AreDefined g a) d.grown h) (x, e, d.later)

pub linear_means : (old new : Ground) (x : ℕ) (domain : Ranges) (ts : List (ℤ × ℕ)) (offset : ℤ) → IsDefined old new x domain (LinDef x ts offset) → (a : List ℤ) → AreDefined new a → value_of a x ≡ (sum_at ts a +ℤ offset)
linear_means old new x domain ts offset d a h = (Decides-int_eq _ _).0 (new_holds old new x domain (LinDef x ts offset) a d refl h)

pub at_most_means : (old new : Ground) (x : ℕ) (domain : Ranges) (ts : List (ℤ × ℕ)) (bound : ℤ) → IsDefined old new x domain (ReifLe x ts bound) → (a : List ℤ) → AreDefined new a → value_of a x ≡ bit (int_le (sum_at ts a) bound)
at_most_means old new x domain ts bound d a h = (Decides-int_eq _ _).0 (new_holds old new x domain (ReifLe x ts bound) a d refl h)

pub all_of_means : (old new : Ground) (x : ℕ) (domain : Ranges) (ps : List (ℕ × Bool)) → IsDefined old new x domain (AndDef x ps) → (a : List ℤ) → AreDefined new a → value_of a x ≡ bit (parts_true ps a)
all_of_means old new x domain ps d a h = (Decides-int_eq _ _).0 (new_holds old new x domain (AndDef x ps) a d refl h)

pub member_means : (old new : Ground) (x y : ℕ) (domain set : Ranges) → IsDefined old new x domain (MemberDef x y set) → (a : List ℤ) → AreDefined new a → value_of a x ≡ bit (has set (value_of a y))
member_means old new x y domain set d a h = (Decides-int_eq _ _).0 (new_holds old new x domain (MemberDef x y set) a d refl h)

pub same_means : (old new : Ground) (x l r : ℕ) (domain : Ranges) → IsDefined old new x domain (EqDef x l r) → (a : List ℤ) → AreDefined new a → value_of a x ≡ bit (int_eq (value_of a l) (value_of a r))
same_means old new x l r domain d a h = (Decides-int_eq _ _).0 (new_holds old new x domain (EqDef x l r) a d refl h)

lacking : (v : ℤ) (t : ℤ × ℕ) (ts : List (ℤ × ℕ)) → int_eq t.0 v ≡ true → lacks_value v (t ∷ ts) ≡ true → ⊥
lacking v t ts e h = (elim (int_eq t.0 v) as (λ b. b ≡ true → cond b false (lacks_value v ts) ≡ true → ⊥) [ true ↦ λ f g. cc | false ↦ λ f g. cc ]) e h

lacks_tail : (v : ℤ) (t : ℤ × ℕ) (ts : List (ℤ × ℕ)) → lacks_value v (t ∷ ts) ≡ true → lacks_value v ts ≡ true
lacks_tail v t ts h = (elim (int_eq t.0 v) as (λ b. cond b false (lacks_value v ts) ≡ true → lacks_value v ts ≡ true) [ true ↦ λ g. absurd cc | false ↦ λ g. g ]) h

or_first : (p q : Bool) → q ≡ false → (p || q) ≡ true → p ≡ true
or_first true q e h = refl
or_first false q e h = absurd cc

or_second : (p q r : Bool) → p ≡ false → ((p && r) || q) ≡ true → q ≡ true
or_second true q r e h = absurd cc
or_second false q r e h = h

not_equal : (x y : ℤ) → (x ≡ y → ⊥) → int_eq x y ≡ false
not_equal x y h = grind (arith, ints)

-- no item behind has the value of this one
lacks_at : (v : ℤ) (ts : List (ℤ × ℕ)) (k : ℕ) (d : ℤ × ℕ) → lacks_value v ts ≡ true → k < length ts → (get_or ts k d).0 ≡ v → ⊥
lacks_at v [] k d h lt e = absurd (omega arith)
lacks_at v (t ∷ ts) zero d h lt e = let test = (Decides-int_eq t.0 v).1 e in lacking v t ts test h
lacks_at v (t ∷ ts) (suc k) d h lt e = lacks_at v ts k d (lacks_tail v t ts h) (omega arith) e

-- an item that has the index's value is the one that is picked
picked_at : (out index : ℤ) (ts : List (ℤ × ℕ)) (a : List ℤ) (k : ℕ) (d : ℤ × ℕ) → distinct_values ts ≡ true → picks out index ts a ≡ true → k < length ts → index ≡ (get_or ts k d).0 → out ≡ value_of a (get_or ts k d).1
picked_at out index [] a k d h p lt e = absurd (omega arith)
picked_at out index (t ∷ ts) a zero d h p lt e =
    let parts = and_parts (lacks_value t.0 ts) (distinct_values ts) h in
    let none = picks_none out index ts a (subst (λ (z : ℤ). lacks_value z ts ≡ true) (sym e) parts.0) in
    sym ((Decides-int_eq (value_of a t.1) out).0 (and_parts (int_eq t.0 index) (int_eq (value_of a t.1) out) (or_first (int_eq t.0 index && int_eq (value_of a t.1) out) (picks out index ts a) none p)).1)
picked_at out index (t ∷ ts) a (suc k) d h p lt e =
    let parts = and_parts (lacks_value t.0 ts) (distinct_values ts) h in
    let other : int_eq t.0 index ≡ false = not_equal t.0 index (λ f. lacks_at t.0 ts k d parts.0 (omega arith) (sym e ∙ sym f)) in
    picked_at out index ts a k d parts.1 (or_second (int_eq t.0 index) (picks out index ts a) (int_eq (value_of a t.1) out) other p) (omega arith) e

pub pick_means : (old new : Ground) (x index : ℕ) (domain : Ranges) (items : List (ℤ × ℕ)) → distinct_values items ≡ true → IsDefined old new x domain (ElementDef x index items) → (a : List ℤ) → AreDefined new a →
    All (λ t. value_of a index ≡ t.0 → value_of a x ≡ value_of a t.1) items
pick_means old new x index domain items distinct d a h k e lt is =
    picked_at (value_of a x) (value_of a index) items a k e distinct (new_holds old new x domain (ElementDef x index items) a d refl h) lt is

when_true : (f o i : ℤ) → ((int_eq f (pos 1) && int_eq o i) || (int_eq f (pos 0) && int_eq o (pos 0))) ≡ true → (f ≡ pos 1 → o ≡ i) × (f ≡ pos 0 → o ≡ pos 0)
when_true f o i h = ((λ e. grind (arith, ints)), (λ e. grind (arith, ints)))

pub when_means : (old new : Ground) (x flag item : ℕ) (domain : Ranges) → IsDefined old new x domain (CondDef x flag item) → (a : List ℤ) → AreDefined new a →
    (value_of a flag ≡ pos 1 → value_of a x ≡ value_of a item) × (value_of a flag ≡ pos 0 → value_of a x ≡ pos 0)
when_means old new x flag item domain d a h = when_true (value_of a flag) (value_of a x) (value_of a item) (new_holds old new x domain (CondDef x flag item) a d refl h)
