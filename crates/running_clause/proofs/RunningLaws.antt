-- A table of sets and the literals that it lists: what becomes of them in each step.
use Rattle.std.proofs.Common.{◌≡◌, ◌≢◌, ℕ, zero, suc, ◌+◌, ◌-◌, ◌<◌, ◌≤◌, Bool, ◌||◌, true, false, not, cond, List, [], ◌∷◌, ◌++◌, refl, sym, ap, ◌∙◌, arith, inl, inr, subst, IsTrue, length, get_or, drop, All}
use Rattle.std.specs.List.{Contains}
use Rattle.std.specs.List.Sorted.{IsNonDecreasing, IsPermutation}
use Rattle.std.proofs.Math.ListN.{set}
use Rattle.std.proofs.lemmas.List.{get_or-set_same, get_or-set_other, length-set, append_assoc}
use Rattle.std.proofs.lemmas.List.{set-get_or}
use Rattle.std.proofs.lemmas.List.Elements.{All-push, All-cons, All-nil, Contains-append_left}
use Rattle.std.proofs.lemmas.List.Sorted.{All-permutation, Contains-permutation, IsNonDecreasingBy-drop}
use Rattle.std.proofs.lemmas.Bool.{cases_order, ne_eqb, eq-eqb, cases_eq}
use Rattle.std.proofs.lemmas.Int.{ints}
use Rattle.signed_clause.specs.Ranges.{Ranges, is_nil, has, IsValid, IsSubset}
use Rattle.signed_clause.specs.SetAlgebra.{meet, join}
use Rattle.signed_clause.specs.Clauses.{Boxes, Literal, Literals, IsClauseFrom, IsClause, IsWithinBoxes, set_of, has_var, resolvent, IsResolvent, AreValid}
use Rattle.running_clause.specs.Running.{listed, literal_of, AreEmpty, AreNoted, IsTable, loaded, both_sets, taken_in}
use Rattle.signed_clause.proofs.RangeLaws.{same_ranges}
use Rattle.signed_clause.proofs.RangeSteps.{IsValid-join, has-join_valid, left_at}
use Rattle.signed_clause.proofs.ClauseLaws.{IsClauseFrom-weaken, IsClauseFrom-resolvent}
use Rattle.signed_clause.proofs.ResolventLaws.{set_here, set_later, set_below, var_below, pivot_is, other_is, resolvent_law}

join-none : (a : Ranges) → IsValid a → join a [] ≡ a
join-none a s = same_ranges (join a []) a _ _ _ _ (IsValid-join a [] s (omega (arith, ints))) s (λ v. has-join_valid a [] s (omega (arith, ints)) v ∙ grind arith)

or_within : (p q : Bool) → (q ≡ true → p ≡ true) → p ≡ (p || q)
or_within true q h = refl
or_within false true h = let wrong = h refl in cc
or_within false false h = refl

-- the join with a set that lies within is the set itself
pub join_within : (s t : Ranges) → IsValid s → IsValid t → IsSubset t s → s ≡ join s t
join_within s t a b h =
    same_ranges s (join s t) _ _ _ _ a (IsValid-join s t a b)
    (λ v. or_within (has s v) (has t v) (h v) ∙ sym (has-join_valid s t a b v))

-- the same set put into a table again
pub set_again : (ss : Boxes) (y : ℕ) (s : Ranges) → get_or ss y [] ≡ s → ss ≡ set ss y s
set_again ss y s e = sym (set-get_or ss y []) ∙ ap (λ (t : Ranges). set ss y t) e

nil_is : (m : Ranges) → is_nil m ≡ true → m ≡ []
nil_is [] h = refl
nil_is (r ∷ m) h = absurd cc

var_later : (l : Literal) (c : Literals) (y : ℕ) → (l.0 ≡ y → ⊥) → has_var (l ∷ c) y ≡ has_var c y
var_later l c y e = rw (ne_eqb l.0 y e) refl

var_here : (l : Literal) (c : Literals) (y : ℕ) → l.0 ≡ y → has_var (l ∷ c) y ≡ true
var_here l c y e = rw (eq-eqb l.0 y e) refl

-- ---- the literals of a table

set_under : (n : ℕ) (ss : Boxes) (y : ℕ) → y < n → set_of (listed n ss) y ≡ []
set_under n [] y h = refl
set_under n (s ∷ ss) y h =
    elim (is_nil s) as (λ b. set_of (cond b (listed (suc n) ss) ((n, s) ∷ listed (suc n) ss)) y ≡ []) [
      | true ↦ set_under (suc n) ss y (omega arith)
      | false ↦ set_later (n, s) (listed (suc n) ss) y (λ e. omega arith) ∙ set_under (suc n) ss y (omega arith)
    ]

set_at : (n : ℕ) (ss : Boxes) (k y : ℕ) → y ≡ n + k → set_of (listed n ss) y ≡ get_or ss k []
set_at n [] k y e = refl
set_at n (s ∷ ss) zero y e =
    elim (is_nil s) as (λ b. is_nil s ≡ b → set_of (cond b (listed (suc n) ss) ((n, s) ∷ listed (suc n) ss)) y ≡ s) [
      | true ↦ λ f. set_under (suc n) ss y (omega arith) ∙ sym (nil_is s f)
      | false ↦ λ f. set_here (n, s) (listed (suc n) ss) y (omega arith)
    ] refl
set_at n (s ∷ ss) (suc k) y e =
    elim (is_nil s) as (λ b. set_of (cond b (listed (suc n) ss) ((n, s) ∷ listed (suc n) ss)) y ≡ get_or ss k []) [
      | true ↦ set_at (suc n) ss k y (omega arith)
      | false ↦ set_later (n, s) (listed (suc n) ss) y (λ f. omega arith) ∙ set_at (suc n) ss k y (omega arith)
    ]

pub set_listed : (ss : Boxes) (y : ℕ) → set_of (listed 0 ss) y ≡ get_or ss y []
set_listed ss y = set_at 0 ss y y (omega arith)

var_under : (n : ℕ) (ss : Boxes) (y : ℕ) → y < n → has_var (listed n ss) y ≡ false
var_under n [] y h = refl
var_under n (s ∷ ss) y h =
    elim (is_nil s) as (λ b. has_var (cond b (listed (suc n) ss) ((n, s) ∷ listed (suc n) ss)) y ≡ false) [
      | true ↦ var_under (suc n) ss y (omega arith)
      | false ↦ var_later (n, s) (listed (suc n) ss) y (λ e. omega arith) ∙ var_under (suc n) ss y (omega arith)
    ]

var_at : (n : ℕ) (ss : Boxes) (k y : ℕ) → y ≡ n + k → has_var (listed n ss) y ≡ not (is_nil (get_or ss k []))
var_at n [] k y e = refl
var_at n (s ∷ ss) zero y e =
    elim (is_nil s) as (λ b. has_var (cond b (listed (suc n) ss) ((n, s) ∷ listed (suc n) ss)) y ≡ not b) [
      | true ↦ var_under (suc n) ss y (omega arith)
      | false ↦ var_here (n, s) (listed (suc n) ss) y (omega arith)
    ]
var_at n (s ∷ ss) (suc k) y e =
    elim (is_nil s) as (λ b. has_var (cond b (listed (suc n) ss) ((n, s) ∷ listed (suc n) ss)) y ≡ not (is_nil (get_or ss k []))) [
      | true ↦ var_at (suc n) ss k y (omega arith)
      | false ↦ var_later (n, s) (listed (suc n) ss) y (λ f. omega arith) ∙ var_at (suc n) ss k y (omega arith)
    ]

-- there is a literal exactly where the set isn't empty
pub has_listed : (ss : Boxes) (y : ℕ) → has_var (listed 0 ss) y ≡ not (is_nil (get_or ss y []))
has_listed ss y = var_at 0 ss y y (omega arith)

form_from : (n : ℕ) (ss : Boxes) → AreValid ss → IsClauseFrom n (listed n ss)
form_from n [] v = tt
form_from n (s ∷ ss) v =
    elim (is_nil s) as (λ b. is_nil s ≡ b → IsClauseFrom n (cond b (listed (suc n) ss) ((n, s) ∷ listed (suc n) ss))) [
      | true ↦ λ f. IsClauseFrom-weaken n (suc n) (listed (suc n) ss) (omega arith) (form_from (suc n) ss (λ k. v (suc k)))
      | false ↦ λ f. (omega arith, f, v 0, form_from (suc n) ss (λ k. v (suc k)))
    ] refl

pub listed_form : (ss : Boxes) → AreValid ss → IsClause (listed 0 ss)
listed_form ss v = form_from 0 ss v

none_from : (n : ℕ) (ss : Boxes) → AreEmpty ss → listed n ss ≡ []
none_from n [] h = refl
none_from n (s ∷ ss) h = ap (λ (z : Ranges). cond (is_nil z) (listed (suc n) ss) ((n, z) ∷ listed (suc n) ss)) (h 0) ∙ none_from (suc n) ss (λ k. h (suc k))

pub listed_none : (ss : Boxes) → AreEmpty ss → listed 0 ss ≡ []
listed_none ss h = none_from 0 ss h

-- ---- clauses with the same sets are the same

head_none : (m : Literal) (n : ℕ) (d : Literals) → IsClauseFrom n (m ∷ d) → set_of (m ∷ d) m.0 ≡ [] → ⊥
head_none m n d s h = let here = set_here m d m.0 refl in let not_nil = s.1 in let e : is_nil m.1 ≡ true = ap is_nil (sym here ∙ h) in absurd cc

cons_same : (i j : ℕ) (s t : Ranges) (c d : Literals) → i ≡ j → s ≡ t → c ≡ d → (i, s) ∷ c ≡ (j, t) ∷ d
cons_same i j s t c d e f g = cc

same_clause : (n n' : ℕ) (c d : Literals) → IsClauseFrom n c → IsClauseFrom n' d → ((y : ℕ) → set_of c y ≡ set_of d y) → c ≡ d
same_clause n n' [] [] s t h = refl
same_clause n n' [] (m ∷ d) s t h = absurd (head_none m n' d t (sym (h m.0)))
same_clause n n' (l ∷ c) [] s t h = absurd (head_none l n c s (h l.0))
same_clause n n' (l ∷ c) (m ∷ d) s t h =
    elim (cases_order l.0 m.0) [
      | inl e ↦
          let sets : l.1 ≡ m.1 = sym (set_here l c l.0 refl) ∙ h l.0 ∙ set_here m d l.0 (sym e) in
          let rest : c ≡ d = same_clause (suc l.0) (suc m.0) c d s.3 t.3 (λ y. elim (cases_eq l.0 y) [
            | inl f ↦ set_below (suc l.0) c y s.3 (omega arith) ∙ sym (set_below (suc m.0) d y t.3 (omega arith))
            | inr f ↦ sym (set_later l c y f) ∙ h y ∙ set_later m d y (λ g. f (e ∙ g))
          ]) in
          cons_same l.0 m.0 l.1 m.1 c d e sets rest
      | inr o ↦ elim o [
        | inl e ↦ absurd (head_none l n c s (h l.0 ∙ set_below m.0 (m ∷ d) l.0 (omega arith, t.1, t.2, t.3) e))
        | inr e ↦ absurd (head_none m n' d t (sym (h m.0) ∙ set_below l.0 (l ∷ c) m.0 (omega arith, s.1, s.2, s.3) e))
      ]
    ]

-- ---- the table of a clause

-- the last variable is the greatest
below_last : (n count : ℕ) (c : Literals) (i : ℕ) (d : Literal) → IsClauseFrom n c → length c ≡ suc i → (get_or c i d).0 < count → All (λ l. l.0 < count) c
below_last n count [] i d s e h = absurd (omega arith)
below_last n count (l ∷ []) zero d s e h = All-cons (λ m. m.0 < count) l [] h (All-nil (λ m. m.0 < count))
below_last n count (l ∷ []) (suc i) d s e h = absurd (omega arith)
below_last n count (l ∷ m ∷ c) zero d s e h = absurd (omega arith)
below_last n count (l ∷ m ∷ c) (suc i) d s e h =
    let rest = below_last (suc l.0) count (m ∷ c) i d s.3 (omega arith) h in
    let next = rest 0 m (omega arith) in let above = s.3.0 in
    All-cons (λ k. k.0 < count) l (m ∷ c) (omega arith) rest

pub last_decides : (count : ℕ) (b : Literals) (l : Literal) → IsClause b → 0 < length b → l ≡ get_or b (length b - 1) l → l.0 < count → All (λ m. m.0 < count) b
last_decides count b l s h e lt = below_last 0 count b (length b - 1) l s (omega arith) (subst (λ (m : Literal). m.0 < count) e lt)

pub within_same : (b : Literals) (ss ss' : Boxes) → length ss' ≡ length ss → IsWithinBoxes b ss → IsWithinBoxes b ss'
within_same b ss ss' e w = λ k d lt. rw e (w k d lt)

within_rest : (ss : Boxes) (m : Literal) (b : Literals) (v : Ranges) → IsWithinBoxes (m ∷ b) ss → IsWithinBoxes b (set ss m.0 v)
within_rest ss m b v w = λ k d lt. (let at = w (suc k) d (omega arith) in rw (length-set ss m.0 v) at)

within_head : (ss : Boxes) (m : Literal) (b : Literals) → IsWithinBoxes (m ∷ b) ss → m.0 < length ss
within_head ss m b w = w 0 m (omega arith)

loaded_out : (ss : Boxes) (n : ℕ) (a : Literals) (y : ℕ) → IsClauseFrom n a → y < n → get_or (loaded ss a) y [] ≡ get_or ss y []
loaded_out ss n [] y s h = refl
loaded_out ss n (m ∷ a) y s h = loaded_out (set ss m.0 m.1) (suc m.0) a y s.3 (omega arith) ∙ get_or-set_other ss m.0 y m.1 [] (λ e. omega arith)

loaded_is : (ss : Boxes) (n : ℕ) (a : Literals) (y : ℕ) → get_or ss y [] ≡ [] → IsClauseFrom n a → IsWithinBoxes a ss → get_or (loaded ss a) y [] ≡ set_of a y
loaded_is ss n [] y h s w = h
loaded_is ss n (m ∷ a) y h s w =
    elim (cases_eq m.0 y) [
      | inl e ↦
          ap (λ k. get_or (loaded ss (m ∷ a)) k []) (sym e) ∙ loaded_out (set ss m.0 m.1) (suc m.0) a m.0 s.3 (omega arith)
          ∙ get_or-set_same ss m.0 m.1 [] (within_head ss m a w) ∙ sym (set_here m a y e)
      | inr e ↦
          loaded_is (set ss m.0 m.1) (suc m.0) a y (get_or-set_other ss m.0 y m.1 [] (λ k. e (sym k)) ∙ h) s.3 (within_rest ss m a m.1 w)
          ∙ sym (set_later m a y e)
    ]

pub listed_loaded : (ss ss' : Boxes) (a : Literals) → AreEmpty ss → AreValid ss' → IsClause a → IsWithinBoxes a ss → ss' ≡ loaded ss a → listed 0 ss' ≡ a
listed_loaded ss ss' a h v s w e =
    same_clause 0 0 (listed 0 ss') a (listed_form ss' v) s (λ y. set_listed ss' y ∙ ap (λ (z : Boxes). get_or z y []) e ∙ loaded_is ss 0 a y (h y) s w)

-- ---- what a variable's set is once literals are taken in

both_pivot : (x y : ℕ) (s t : Ranges) → y ≡ x → both_sets x y s t ≡ meet s t
both_pivot x y s t e = rw (eq-eqb y x e) refl

both_other : (x y : ℕ) (s t : Ranges) → (y ≡ x → ⊥) → both_sets x y s t ≡ join s t
both_other x y s t e = rw (ne_eqb y x e) refl

taken_out : (x : ℕ) (ss : Boxes) (n : ℕ) (b : Literals) (y : ℕ) → IsClauseFrom n b → has_var b y ≡ false → get_or (taken_in x ss b) y [] ≡ get_or ss y []
taken_out x ss n [] y s h = refl
taken_out x ss n (m ∷ b) y s h =
    let no : m.0 ≡ y → ⊥ = λ e. (let t = var_here m b y e in absurd cc) in
    let v = both_sets x m.0 (get_or ss m.0 []) m.1 in
    taken_out x (set ss m.0 v) (suc m.0) b y s.3 (sym (var_later m b y no) ∙ h) ∙ get_or-set_other ss m.0 y v [] (λ e. no (sym e))

taken_here : (x : ℕ) (ss : Boxes) (n : ℕ) (m : Literal) (b : Literals) → IsClauseFrom n (m ∷ b) → m.0 < length ss → get_or (taken_in x ss (m ∷ b)) m.0 [] ≡ both_sets x m.0 (get_or ss m.0 []) m.1
taken_here x ss n m b s h =
    let v = both_sets x m.0 (get_or ss m.0 []) m.1 in
    taken_out x (set ss m.0 v) (suc m.0) b m.0 s.3 (var_below (suc m.0) b m.0 s.3 (omega arith)) ∙ get_or-set_same ss m.0 v [] h

taken_pivot : (x : ℕ) (ss : Boxes) (n : ℕ) (b : Literals) → IsClauseFrom n b → IsWithinBoxes b ss → has_var b x ≡ true → get_or (taken_in x ss b) x [] ≡ meet (get_or ss x []) (set_of b x)
taken_pivot x ss n [] s w h = absurd cc
taken_pivot x ss n (m ∷ b) s w h =
    let v = both_sets x m.0 (get_or ss m.0 []) m.1 in
    elim (cases_eq m.0 x) [
      | inl e ↦
          ap (λ k. get_or (taken_in x ss (m ∷ b)) k []) (sym e) ∙ taken_here x ss n m b s (within_head ss m b w) ∙ both_pivot x m.0 (get_or ss m.0 []) m.1 e
          ∙ ap (λ k. meet (get_or ss k []) m.1) e ∙ ap (λ (z : Ranges). meet (get_or ss x []) z) (sym (set_here m b x e))
      | inr e ↦
          taken_pivot x (set ss m.0 v) (suc m.0) b s.3 (within_rest ss m b v w) (sym (var_later m b x e) ∙ h)
          ∙ ap (λ (z : Ranges). meet z (set_of b x)) (get_or-set_other ss m.0 x v [] (λ k. e (sym k))) ∙ ap (λ (z : Ranges). meet (get_or ss x []) z) (sym (set_later m b x e))
    ]

taken_other : (x : ℕ) (ss : Boxes) (n : ℕ) (b : Literals) (y : ℕ) → y ≢ x → IsValid (get_or ss y []) → IsClauseFrom n b → IsWithinBoxes b ss → get_or (taken_in x ss b) y [] ≡ join (get_or ss y []) (set_of b y)
taken_other x ss n [] y o v s w = sym (join-none (get_or ss y []) v)
taken_other x ss n (m ∷ b) y o q s w =
    let v = both_sets x m.0 (get_or ss m.0 []) m.1 in
    elim (cases_eq m.0 y) [
      | inl e ↦
          ap (λ k. get_or (taken_in x ss (m ∷ b)) k []) (sym e) ∙ taken_here x ss n m b s (within_head ss m b w) ∙ both_other x m.0 (get_or ss m.0 []) m.1 (λ f. o (sym e ∙ f))
          ∙ ap (λ k. join (get_or ss k []) m.1) e ∙ ap (λ (z : Ranges). join (get_or ss y []) z) (sym (set_here m b y e))
      | inr e ↦
          let same = get_or-set_other ss m.0 y v [] (λ k. e (sym k)) in
          taken_other x (set ss m.0 v) (suc m.0) b y o (subst IsValid (sym same) q) s.3 (within_rest ss m b v w)
          ∙ ap (λ (z : Ranges). join z (set_of b y)) same ∙ ap (λ (z : Ranges). join (get_or ss y []) z) (sym (set_later m b y e))
    ]

-- ---- the theorem of a step

pub listed_resolvent : (x : ℕ) (ss ss' : Boxes) (b : Literals) → AreValid ss → AreValid ss' → IsClause b → IsWithinBoxes b ss → IsTrue (has_var (listed 0 ss) x) → IsTrue (has_var b x) → ss' ≡ taken_in x ss b →
    listed 0 ss' ≡ resolvent x (listed 0 ss) b
listed_resolvent x ss ss' b v v' s w p q e =
    let a = listed 0 ss in let form = listed_form ss v in
    same_clause 0 0 (listed 0 ss') (resolvent x a b) (listed_form ss' v') (IsClauseFrom-resolvent x a b 0 form s) (λ y.
    set_listed ss' y ∙ ap (λ (z : Boxes). get_or z y []) e ∙ (elim (cases_eq y x) [
      | inl f ↦
          ap (λ k. get_or (taken_in x ss b) k []) f ∙ taken_pivot x ss 0 b s w q ∙ ap (λ (z : Ranges). meet z (set_of b x)) (sym (set_listed ss x))
          ∙ sym (pivot_is x a b 0 0 form s p q) ∙ ap (λ k. set_of (resolvent x a b) k) (sym f)
      | inr f ↦ taken_other x ss 0 b y f (v y) s w ∙ ap (λ (z : Ranges). join z (set_of b y)) (sym (set_listed ss y)) ∙ sym (other_is x y a b 0 0 f form s)
    ]))

pub resolvent_law_of : (x : ℕ) (ss ss' : Boxes) (b : Literals) → AreValid ss → AreValid ss' → IsClause b → IsWithinBoxes b ss → IsTrue (has_var (listed 0 ss) x) → IsTrue (has_var b x) → ss' ≡ taken_in x ss b →
    IsResolvent x (listed 0 ss) b (listed 0 ss')
resolvent_law_of x ss ss' b v v' s w p q e = resolvent_law x (listed 0 ss) b (listed 0 ss') (listed_form ss v) s p q (listed_resolvent x ss ss' b v v' s w p q e)

-- ---- what a table keeps

pub empty_push : (ss : Boxes) → AreEmpty ss → AreEmpty (ss ++ [] ∷ [])
empty_push [] h zero = refl
empty_push [] h (suc k) = refl
empty_push (s ∷ ss) h zero = h 0
empty_push (s ∷ ss) h (suc k) = empty_push ss (λ j. h (suc j)) k

empty_valid : (ss : Boxes) → AreEmpty ss → AreValid ss
empty_valid ss h = λ k. subst IsValid (sym (h k)) (omega (arith, ints))

empty_noted : (ss : Boxes) (us : List ℕ) → AreEmpty ss → AreNoted ss us
empty_noted ss us h = λ k f. absurd (let e : is_nil (get_or ss k []) ≡ true = ap is_nil (h k) in absurd cc)

pub empty_table : (ss : Boxes) → AreEmpty ss → IsTable ss []
empty_table ss h = record {
  valid = empty_valid ss h;
  within = λ k d lt. absurd (omega arith);
  noted = empty_noted ss [] h;
}

valid_set : (ss : Boxes) (i : ℕ) (v : Ranges) → i < length ss → IsValid v → AreValid ss → AreValid (set ss i v)
valid_set ss i v h q s = λ k. elim (cases_eq k i) [
  | inl f ↦ subst IsValid (sym (ap (λ j. get_or (set ss i v) j []) f ∙ get_or-set_same ss i v [] h)) q
  | inr f ↦ subst IsValid (sym (get_or-set_other ss i k v [] f)) (s k)
]

-- one more variable is noted
pub table_note : (ss : Boxes) (us : List ℕ) (x : ℕ) → x < length ss → IsTable ss us → IsTable ss (us ++ x ∷ [])
table_note ss us x h t = record {
  valid = t.valid;
  within = All-push (λ y. y < length ss) us x t.within h;
  noted = λ k f. Contains-append_left us (x ∷ []) k (t.noted k f);
}

-- a variable that is noted gets a set
pub table_set : (ss : Boxes) (us : List ℕ) (x : ℕ) (s : Ranges) → x < length ss → IsValid s → Contains us x → IsTable ss us → IsTable (set ss x s) us
table_set ss us x s h q u t = record {
  valid = valid_set ss x s h q t.valid;
  within = rw (length-set ss x s) t.within;
  noted = λ k f. elim (cases_eq k x) [
    | inl e ↦ subst (Contains us) (sym e) u
    | inr e ↦ t.noted k (ap is_nil (sym (get_or-set_other ss x k s [] e)) ∙ f)
  ];
}

-- ---- taking literals out

Contains-rest : (x : ℕ) (us : List ℕ) (y : ℕ) → (y ≡ x → ⊥) → Contains (x ∷ us) y → Contains us y
Contains-rest x us y o (zero, h, e) = absurd (o (sym e))
Contains-rest x us y o (suc k, h, e) = (k, omega arith, e)

-- the set of the next used variable is emptied
pub noted_rest : (ss : Boxes) (x : ℕ) (us : List ℕ) → x < length ss → AreNoted ss (x ∷ us) → AreNoted (set ss x []) us
noted_rest ss x us h n = λ k f. elim (cases_eq k x) [
  | inl e ↦ absurd (let g : is_nil (get_or (set ss x []) k []) ≡ true = ap (λ j. is_nil (get_or (set ss x []) j [])) e ∙ ap is_nil (get_or-set_same ss x [] [] h) in absurd cc)
  | inr e ↦ Contains-rest x us k e (n k (ap is_nil (sym (get_or-set_other ss x k [] [] e)) ∙ f))
]

-- where no used variable is left all sets are empty
pub noted_none : (ss : Boxes) → AreNoted ss [] → AreEmpty ss
noted_none ss n = λ k. elim (is_nil (get_or ss k [])) as (λ b. is_nil (get_or ss k []) ≡ b → get_or ss k [] ≡ []) [
  | true ↦ λ f. nil_is (get_or ss k []) f
  | false ↦ λ f. absurd (let c = n k f in omega arith)
] refl

first_from : (n : ℕ) (ss : Boxes) (k y : ℕ) → y ≡ n + k → ((j : ℕ) → j < k → get_or ss j [] ≡ []) → listed n ss ≡ literal_of y (get_or ss k []) ++ listed n (set ss k [])
first_from n [] k y e h = refl
first_from n (s ∷ ss) zero y e h =
    elim (is_nil s) as (λ b. cond b (listed (suc n) ss) ((n, s) ∷ listed (suc n) ss) ≡ cond b [] ((y, s) ∷ []) ++ listed (suc n) ss) [
      | true ↦ refl
      | false ↦ cons_same n y s s (listed (suc n) ss) (listed (suc n) ss) (omega arith) refl refl
    ]
first_from n (s ∷ ss) (suc k) y e h =
    let nil = h 0 (omega arith) in
    ap (λ (z : Ranges). cond (is_nil z) (listed (suc n) ss) ((n, z) ∷ listed (suc n) ss)) nil
    ∙ first_from (suc n) ss k y (omega arith) (λ j lt. h (suc j) (omega arith))
    ∙ ap (λ (z : Ranges). literal_of y (get_or ss k []) ++ cond (is_nil z) (listed (suc n) (set ss k [])) ((n, z) ∷ listed (suc n) (set ss k []))) (sym nil)

least_first : (x : ℕ) (us : List ℕ) (y : ℕ) → IsNonDecreasing (x ∷ us) → Contains (x ∷ us) y → x ≤ y
least_first x us y s c = let le = s 0 c.0 y (omega arith) c.1 in rw c.2 at le

-- the next used variable's literal stands first
pub listed_first : (ss : Boxes) (x : ℕ) (us : List ℕ) → IsNonDecreasing (x ∷ us) → AreNoted ss (x ∷ us) → listed 0 ss ≡ literal_of x (get_or ss x []) ++ listed 0 (set ss x [])
listed_first ss x us s n =
    first_from 0 ss x x (omega arith) (λ j lt.
    elim (is_nil (get_or ss j [])) as (λ b. is_nil (get_or ss j []) ≡ b → get_or ss j [] ≡ []) [
      | true ↦ λ f. nil_is (get_or ss j []) f
      | false ↦ λ f. absurd (let le = least_first x us j s (n j f) in omega arith)
    ] refl)

-- a step of the walk over the used variables: a literal moves from the table to the list
pub move_step : (ss ss' : Boxes) (us : List ℕ) (i x : ℕ) (out out' start : Literals) → i < length us → x ≡ get_or us i 0 → IsNonDecreasing us → AreNoted ss (drop i us) →
    ss' ≡ set ss x [] → out' ≡ out ++ literal_of x (get_or ss x []) → out ++ listed 0 ss ≡ start → out' ++ listed 0 ss' ≡ start
move_step ss ss' us i x out out' start h e s n f g inv =
    let left = left_at us i x 0 h e in
    let rest = drop (i + 1) us in
    let rising : IsNonDecreasing (x ∷ rest) = subst IsNonDecreasing left (IsNonDecreasingBy-drop (λ y. y) i us s) in
    let first = listed_first ss x rest rising (subst (AreNoted ss) left n) in
    ap (λ (z : Literals). z ++ listed 0 ss') g ∙ ap (λ (z : Boxes). (out ++ literal_of x (get_or ss x [])) ++ listed 0 z) f
    ∙ append_assoc out (literal_of x (get_or ss x [])) (listed 0 (set ss x [])) ∙ ap (λ (z : Literals). out ++ z) (sym first) ∙ inv

-- and the variable is done with
pub noted_step : (ss ss' : Boxes) (us : List ℕ) (i x : ℕ) → i < length us → x ≡ get_or us i 0 → x < length ss → AreNoted ss (drop i us) → ss' ≡ set ss x [] → AreNoted ss' (drop (i + 1) us)
noted_step ss ss' us i x h e lt n f =
    subst (λ (z : Boxes). AreNoted z (drop (i + 1) us)) (sym f) (noted_rest ss x (drop (i + 1) us) lt (subst (AreNoted ss) (left_at us i x 0 h e) n))

-- ---- the list of used variables in another order

pub within_sorted : (count : ℕ) (us us' : List ℕ) → IsPermutation us us' → All (λ x. x < count) us → All (λ x. x < count) us'
within_sorted count us us' p w = All-permutation (λ x. x < count) us us' p w

pub noted_sorted : (ss : Boxes) (us us' : List ℕ) → IsPermutation us us' → AreNoted ss us → AreNoted ss us'
noted_sorted ss us us' p n = λ k f. Contains-permutation us us' k p (n k f)
