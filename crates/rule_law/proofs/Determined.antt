-- A definition leaves its variable one value, whatever its kind: where it is true at two lists of
-- values that agree on its other variables, they agree on the variable that it defines.
use Rattle.std.proofs.Common.{◌≡◌, ℕ, Bool, true, false, inl, inr, ◌&&◌, ◌||◌, List, [], ◌∷◌, ℤ}
use Rattle.std.proofs.Common.{pos, ◌+ℤ◌, Some, refl, sym, ap, subst, ◌∙◌, arith}
use Rattle.std.specs.Prelude.{int_le}
use Rattle.std.specs.Ordering.{int_eq}
use Rattle.std.proofs.lemmas.Int.{ints}
use Rattle.std.proofs.lemmas.Bool.{and_parts, or_cases}
use Rattle.std.proofs.lemmas.Bool.Decides.{Decides-int_eq}
use Rattle.std.proofs.lemmas.Option.{same_Some, none-some}
use Rattle.signed_clause.specs.Ranges.{has}
use Rattle.ground_form.specs.declared.con.Con.{Con}
use Rattle.ground_form.specs.declared.con.Con.TheVariants.{LinLe, LinDef, ReifLe, AndDef, MemberDef}
use Rattle.ground_form.specs.declared.con.Con.TheVariants.{EqDef, ElementDef, CondDef, ClauseCon}
use Rattle.ground_form.specs.declared.con.Con.TheVariants.{AllDiff, Pack}
use Rattle.ground_form.specs.Meaning.{value_of, bit, sum_at, parts_true, picks, con_true, vars_of}
use Rattle.ground_form.specs.Meaning.{term_vars, part_vars}
use Rattle.ground_form.specs.WellMade.{defined_by, inputs_of, lacks_value, distinct_values}
use Rattle.ground_form.specs.WellMade.{HasDistinctItems}

-- the variables of the list have the same values in both
abbrev pub HaveSame : List ℤ → List ℤ → List ℕ → Type 0
HaveSame a b [] = Unit {0}
HaveSame a b (x ∷ xs) = (value_of a x ≡ value_of b x) × HaveSame a b xs

-- ---- a defining constraint names the variable that it defines first, then its others

first_var : (x y : ℕ) (xs : List ℕ) → Some x ≡ Some y → x ∷ xs ≡ y ∷ xs
first_var x y xs e = ap (λ (z : ℕ). z ∷ xs) (same_Some x y e)

pub vars_defined : (con : Con) (x : ℕ) → defined_by con ≡ Some x → vars_of con ≡ x ∷ inputs_of con
vars_defined (LinLe terms bound) x e = absurd (none-some x e)
vars_defined (LinDef out terms offset) x e = first_var out x (term_vars terms) e
vars_defined (ReifLe flag terms bound) x e = first_var flag x (term_vars terms) e
vars_defined (AndDef flag parts) x e = first_var flag x (part_vars parts) e
vars_defined (MemberDef flag var set) x e = first_var flag x (var ∷ []) e
vars_defined (EqDef flag left right) x e = first_var flag x (left ∷ right ∷ []) e
vars_defined (ElementDef out index items) x e = first_var out x (index ∷ term_vars items) e
vars_defined (CondDef out flag item) x e = first_var out x (flag ∷ item ∷ []) e
vars_defined (ClauseCon clause) x e = absurd (none-some x e)
vars_defined (AllDiff vars) x e = absurd (none-some x e)
vars_defined (Pack items) x e = absurd (none-some x e)

-- ---- sums and parts over the same values

same_sum : (ts : List (ℤ × ℕ)) (a b : List ℤ) → HaveSame a b (term_vars ts) →
    sum_at ts a ≡ sum_at ts b
same_sum [] a b h = refl
same_sum (t ∷ ts) a b h = let more = same_sum ts a b h.1 in rw (h.0, more) refl

same_parts : (ps : List (ℕ × Bool)) (a b : List ℤ) → HaveSame a b (part_vars ps) →
    parts_true ps a ≡ parts_true ps b
same_parts [] a b h = refl
same_parts (p ∷ ps) a b h = let more = same_parts ps a b h.1 in rw (h.0, more) refl

-- ---- the item that is picked is the only one with its value

none_picks : (out index : ℤ) (ts : List (ℤ × ℕ)) (a : List ℤ) → lacks_value index ts ≡ true →
    picks out index ts a ≡ false
none_picks out index [] a h = refl
none_picks out index (t ∷ ts) a h = let more = none_picks out index ts a in grind arith

-- behind an item that has the index's value none is picked
not_behind : (out index key : ℤ) (ts : List (ℤ × ℕ)) (a : List ℤ) (test : Bool) →
    lacks_value key ts ≡ true → (int_eq key index && test) ≡ true →
    picks out index ts a ≡ true → ⊥
not_behind out index key ts a test h e k =
    let same = (Decides-int_eq key index).0 (and_parts (int_eq key index) test e).0 in
    let lacks = subst (λ (z : ℤ). lacks_value z ts ≡ true) same h in
    let none = none_picks out index ts a lacks in
    absurd cc

picked_here : (out index key v : ℤ) → (int_eq key index && int_eq v out) ≡ true → v ≡ out
picked_here out index key v h =
    let parts = and_parts (int_eq key index) (int_eq v out) h in (Decides-int_eq v out).0 parts.1

same_pick : (v w index : ℤ) (ts : List (ℤ × ℕ)) (a b : List ℤ) → distinct_values ts ≡ true →
    HaveSame a b (term_vars ts) → picks v index ts a ≡ true → picks w index ts b ≡ true → v ≡ w
same_pick v w index [] a b d h k l = absurd cc
same_pick v w index (t ∷ ts) a b d h k l =
    let parts = and_parts (lacks_value t.0 ts) (distinct_values ts) d in
    let x = value_of a t.1 in
    let y = value_of b t.1 in
    elim (or_cases (int_eq t.0 index && int_eq x v) (picks v index ts a) k) [
      | inl p ↦ elim (or_cases (int_eq t.0 index && int_eq y w) (picks w index ts b) l) [
        | inl q ↦ sym (picked_here v index t.0 x p) ∙ h.0 ∙ picked_here w index t.0 y q
        | inr q ↦ absurd (not_behind w index t.0 ts b (int_eq x v) parts.0 p q)
      ]
      | inr p ↦ elim (or_cases (int_eq t.0 index && int_eq y w) (picks w index ts b) l) [
        | inl q ↦ absurd (not_behind v index t.0 ts a (int_eq y w) parts.0 q p)
        | inr q ↦ same_pick v w index ts a b parts.1 h.1 p q
      ]
    ]

-- ---- a value that a test asks for

same_out : (v w m n : ℤ) → int_eq v m ≡ true → int_eq w n ≡ true → m ≡ n → v ≡ w
same_out v w m n h k e = (Decides-int_eq v m).0 h ∙ e ∙ sym ((Decides-int_eq w n).0 k)

same_flag : (v w : ℤ) (p q : Bool) → int_eq v (bit p) ≡ true → int_eq w (bit q) ≡ true →
    p ≡ q → v ≡ w
same_flag v w p q h k e = same_out v w (bit p) (bit q) h k (ap bit e)

-- what a conditional asks of its values
abbrev conditional : ℤ → ℤ → ℤ → Bool
conditional out flag item =
    (int_eq flag (pos 1) && int_eq out item) || (int_eq flag (pos 0) && int_eq out (pos 0))

same_conditional : (v w flag item : ℤ) → conditional v flag item ≡ true →
    conditional w flag item ≡ true → v ≡ w
same_conditional v w flag item h k =
    let one = Decides-int_eq flag (pos 1) in
    let none = Decides-int_eq flag (pos 0) in
    let vi = Decides-int_eq v item in
    let wi = Decides-int_eq w item in
    let vz = Decides-int_eq v (pos 0) in
    let wz = Decides-int_eq w (pos 0) in
    grind (arith, ints)

-- ---- each kind

same_at : (a b : List ℤ) (x y : ℕ) → Some x ≡ Some y → value_of a x ≡ value_of b x →
    value_of a y ≡ value_of b y
same_at a b x y e h = subst (λ (z : ℕ). value_of a z ≡ value_of b z) (same_Some x y e) h

pub same_defined : (con : Con) (x : ℕ) (a b : List ℤ) → HasDistinctItems con →
    defined_by con ≡ Some x → HaveSame a b (inputs_of con) →
    con_true con a ≡ true → con_true con b ≡ true → value_of a x ≡ value_of b x
same_defined (LinLe terms bound) x a b d e h k l = absurd (none-some x e)
same_defined (LinDef out terms offset) x a b d e h k l =
    let sums = ap (λ (s : ℤ). s +ℤ offset) (same_sum terms a b h) in
    same_at a b out x e (same_out _ _ _ _ k l sums)
same_defined (ReifLe flag terms bound) x a b d e h k l =
    let tests = ap (λ (s : ℤ). int_le s bound) (same_sum terms a b h) in
    same_at a b flag x e (same_flag _ _ _ _ k l tests)
same_defined (AndDef flag parts) x a b d e h k l =
    same_at a b flag x e (same_flag _ _ _ _ k l (same_parts parts a b h))
same_defined (MemberDef flag var set) x a b d e h k l =
    same_at a b flag x e (same_flag _ _ _ _ k l (ap (λ (v : ℤ). has set v) h.0))
same_defined (EqDef flag left right) x a b d e h k l =
    let lefts = ap (λ (v : ℤ). int_eq v (value_of a right)) h.0 in
    let rights = ap (λ (v : ℤ). int_eq (value_of b left) v) h.1.0 in
    same_at a b flag x e (same_flag _ _ _ _ k l (lefts ∙ rights))
same_defined (ElementDef out index items) x a b d e h k l =
    let v = value_of a out in
    let w = value_of b out in
    let there = subst (λ (i : ℤ). picks v i items a ≡ true) h.0 k in
    same_at a b out x e (same_pick v w (value_of b index) items a b d h.1 there l)
same_defined (CondDef out flag item) x a b d e h k l =
    let v = value_of a out in
    let w = value_of b out in
    let first = subst (λ (f : ℤ). conditional v f (value_of a item) ≡ true) h.0 k in
    let there = subst (λ (i : ℤ). conditional v (value_of b flag) i ≡ true) h.1.0 first in
    same_at a b out x e (same_conditional v w (value_of b flag) (value_of b item) there l)
same_defined (ClauseCon clause) x a b d e h k l = absurd (none-some x e)
same_defined (AllDiff vars) x a b d e h k l = absurd (none-some x e)
same_defined (Pack items) x a b d e h k l = absurd (none-some x e)
