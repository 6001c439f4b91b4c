-- The resolvent, variable by variable: of the pivot the meet, of every other variable the join.
use Rattle.std.proofs.Common.{◌≡◌, ◌≢◌, ℕ, suc, ◌<◌, ◌≤◌, true, false, cond, [], ◌∷◌, refl, sym, ap, ◌∙◌, arith, inl, inr, subst, ◌==◌, IsTrue, ◌⊎◌, ◌++◌, length, drop}
use Rattle.std.proofs.lemmas.List.{append-nil}
use Rattle.std.proofs.lemmas.Bool.{cases_order, ne_eqb, eq-eqb, cases_eq}
use Rattle.std.proofs.lemmas.Int.{ints}
use Rattle.signed_clause.specs.Ranges.{Ranges, is_nil, IsValid}
use Rattle.signed_clause.specs.SetAlgebra.{meet, join}
use Rattle.signed_clause.specs.Clauses.{Literals, IsClauseFrom, IsClause, set_of, has_var, both_literals, resolve_from, resolvent, IsResolvent}
use Rattle.signed_clause.proofs.RangeLaws.{same_ranges}
use Rattle.signed_clause.proofs.RangeSteps.{left_none, IsValid-join, has-join_valid}
use Rattle.signed_clause.proofs.ClauseLaws.{step_first, step_second, step_both, IsClauseFrom-weaken, IsClauseFrom-resolvent, resolvent_true}

-- a set joined with the empty one
join-none : (a : Ranges) → IsValid a → join a [] ≡ a
join-none a s = same_ranges (join a []) a _ _ _ _ (IsValid-join a [] s (omega (arith, ints))) s (λ v. has-join_valid a [] s (omega (arith, ints)) v ∙ grind arith)

-- the literal at the head
pub set_here : (l : ℕ × Ranges) (c : Literals) (y : ℕ) → l.0 ≡ y → set_of (l ∷ c) y ≡ l.1
set_here l c y e = rw (eq-eqb l.0 y e) refl

pub set_later : (l : ℕ × Ranges) (c : Literals) (y : ℕ) → (l.0 ≡ y → ⊥) → set_of (l ∷ c) y ≡ set_of c y
set_later l c y e = rw (ne_eqb l.0 y e) refl

-- below the variables of a clause there is no literal
pub set_below : (n : ℕ) (c : Literals) (y : ℕ) → IsClauseFrom n c → y < n → set_of c y ≡ []
set_below n [] y s h = refl
set_below n (l ∷ c) y s h = set_later l c y (λ e. omega arith) ∙ set_below (suc l.0) c y s.3 (omega arith)

pub var_below : (n : ℕ) (c : Literals) (y : ℕ) → IsClauseFrom n c → y < n → has_var c y ≡ false
var_below n [] y s h = refl
var_below n (l ∷ c) y s h = rw (ne_eqb l.0 y (λ e. omega arith)) (var_below (suc l.0) c y s.3 (omega arith))

-- a clause's sets are valid
pub set_valid : (n : ℕ) (c : Literals) (y : ℕ) → IsClauseFrom n c → IsValid (set_of c y)
set_valid n [] y s = omega (arith, ints)
set_valid n (l ∷ c) y s = elim (l.0 == y) as (λ b. IsValid (cond b l.1 (set_of c y))) [ true ↦ s.2 | false ↦ set_valid (suc l.0) c y s.3 ]

-- ---- variables other than the pivot

both_here : (x y : ℕ) (l : ℕ × Ranges) (s : Ranges) (rest : Literals) → l.0 ≡ y → y ≢ x → set_of (both_literals x l s rest) y ≡ join l.1 s
both_here x y l s rest e h = rw (ne_eqb l.0 x (λ f. h (sym e ∙ f)), eq-eqb l.0 y e) refl

both_later : (x y : ℕ) (l : ℕ × Ranges) (s : Ranges) (rest : Literals) → (l.0 ≡ y → ⊥) → set_of (both_literals x l s rest) y ≡ set_of rest y
both_later x y l s rest h =
    elim (l.0 == x) as (λ b. set_of (cond b (cond (is_nil (meet l.1 s)) rest ((l.0, meet l.1 s) ∷ rest)) ((l.0, join l.1 s) ∷ rest)) y ≡ set_of rest y) [
      | true ↦ elim (is_nil (meet l.1 s)) as (λ b. set_of (cond b rest ((l.0, meet l.1 s) ∷ rest)) y ≡ set_of rest y) [ true ↦ refl | false ↦ set_later (l.0, meet l.1 s) rest y h ]
      | false ↦ set_later (l.0, join l.1 s) rest y h
    ]

other_from : (x y : ℕ) (rest : Literals → Literals) (l : ℕ × Ranges) (c : Literals) (n n' : ℕ) (d : Literals) → y ≢ x →
    ((d : Literals) (n' : ℕ) → IsClauseFrom n' d → set_of (rest d) y ≡ join (set_of c y) (set_of d y)) →
    IsClauseFrom n (l ∷ c) → IsClauseFrom n' d → set_of (resolve_from x rest l d) y ≡ join (set_of (l ∷ c) y) (set_of d y)
other_from x y rest l c n n' [] h rests s t =
    elim (cases_eq l.0 y) [
      | inl e ↦ set_here l (rest []) y e ∙ sym (join-none l.1 s.2) ∙ ap (λ (z : Ranges). join z []) (sym (set_here l c y e))
      | inr e ↦ set_later l (rest []) y e ∙ rests [] n' t ∙ ap (λ (z : Ranges). join z []) (sym (set_later l c y e))
    ]
other_from x y rest l c n n' (m ∷ d) h rests s t =
    let P : Literals → Type 0 = λ z. set_of z y ≡ join (set_of (l ∷ c) y) (set_of (m ∷ d) y) in
    elim (cases_order l.0 m.0) [
      | inl e ↦ subst P (sym (step_both x rest l m d e)) (elim (cases_eq l.0 y) [
        | inl f ↦ both_here x y l m.1 (rest d) f h ∙ rw (eq-eqb l.0 y f, eq-eqb m.0 y (sym e ∙ f)) refl
        | inr f ↦ both_later x y l m.1 (rest d) f ∙ rests d (suc m.0) t.3 ∙ rw (ne_eqb l.0 y f, ne_eqb m.0 y (λ k. f (e ∙ k))) refl
      ])
      | inr o ↦ elim o [
        | inl e ↦ subst P (sym (step_first x rest l m d e)) (elim (cases_eq l.0 y) [
          | inl f ↦ set_here l (rest (m ∷ d)) y f ∙ sym (join-none l.1 s.2) ∙ ap (λ (z : Ranges). join l.1 z) (sym (set_below m.0 (m ∷ d) y (omega arith, t.1, t.2, t.3) (omega arith))) ∙ ap (λ (z : Ranges). join z (set_of (m ∷ d) y)) (sym (set_here l c y f))
          | inr f ↦ set_later l (rest (m ∷ d)) y f ∙ rests (m ∷ d) n' t ∙ ap (λ (z : Ranges). join z (set_of (m ∷ d) y)) (sym (set_later l c y f))
        ])
        | inr e ↦ subst P (sym (step_second x rest l m d e)) (elim (cases_eq m.0 y) [
          | inl f ↦ set_here m (resolve_from x rest l d) y f ∙ ap (λ (z : Ranges). join z m.1) (sym (set_below l.0 (l ∷ c) y (omega arith, s.1, s.2, s.3) (omega arith))) ∙ ap (λ (z : Ranges). join (set_of (l ∷ c) y) z) (sym (set_here m d y f))
          | inr f ↦ set_later m (resolve_from x rest l d) y f ∙ other_from x y rest l c n (suc m.0) d h rests s t.3 ∙ ap (λ (z : Ranges). join (set_of (l ∷ c) y) z) (sym (set_later m d y f))
        ])
      ]
    ]

pub other_is : (x y : ℕ) (c d : Literals) (n n' : ℕ) → y ≢ x → IsClauseFrom n c → IsClauseFrom n' d → set_of (resolvent x c d) y ≡ join (set_of c y) (set_of d y)
other_is x y [] d n n' h s t = refl
other_is x y (l ∷ c) d n n' h s t = other_from x y (resolvent x c) l c n n' d h (λ d n' t. other_is x y c d (suc l.0) n' h s.3 t) s t

-- ---- the pivot

nil_is : (m : Ranges) → is_nil m ≡ true → m ≡ []
nil_is [] h = refl
nil_is (r ∷ m) h = absurd cc

both_pivot : (x : ℕ) (l : ℕ × Ranges) (s : Ranges) (rest : Literals) → l.0 ≡ x → set_of rest x ≡ [] → set_of (both_literals x l s rest) x ≡ meet l.1 s
both_pivot x l s rest e none =
    rw (eq-eqb l.0 x e) (elim (is_nil (meet l.1 s)) as (λ b. is_nil (meet l.1 s) ≡ b → set_of (cond b rest ((l.0, meet l.1 s) ∷ rest)) x ≡ meet l.1 s) [
      | true ↦ λ f. none ∙ sym (nil_is (meet l.1 s) f)
      | false ↦ λ f. set_here (l.0, meet l.1 s) rest x e
    ] refl)

var_later : (l : ℕ × Ranges) (c : Literals) (y : ℕ) → (l.0 ≡ y → ⊥) → has_var (l ∷ c) y ≡ true → has_var c y ≡ true
var_later l c y e h = let no = ne_eqb l.0 y e in grind arith

pivot_from : (x : ℕ) (rest : Literals → Literals) (l : ℕ × Ranges) (c : Literals) (n n' : ℕ) (d : Literals) →
    ((d : Literals) (n' : ℕ) → IsClauseFrom n' d → has_var c x ≡ true → has_var d x ≡ true → set_of (rest d) x ≡ meet (set_of c x) (set_of d x)) →
    ((d : Literals) → IsClauseFrom (suc l.0) d → IsClauseFrom (suc l.0) (rest d)) →
    IsClauseFrom n (l ∷ c) → IsClauseFrom n' d → has_var (l ∷ c) x ≡ true → has_var d x ≡ true → set_of (resolve_from x rest l d) x ≡ meet (set_of (l ∷ c) x) (set_of d x)
pivot_from x rest l c n n' [] rests forms s t p q = absurd cc
pivot_from x rest l c n n' (m ∷ d) rests forms s t p q =
    let P : Literals → Type 0 = λ z. set_of z x ≡ meet (set_of (l ∷ c) x) (set_of (m ∷ d) x) in
    elim (cases_order l.0 m.0) [
      | inl e ↦ subst P (sym (step_both x rest l m d e)) (elim (cases_eq l.0 x) [
        | inl f ↦
            let none = set_below (suc l.0) (rest d) x (forms d (IsClauseFrom-weaken (suc l.0) (suc m.0) d (omega arith) t.3)) (omega arith) in
            both_pivot x l m.1 (rest d) f none ∙ rw (eq-eqb l.0 x f, eq-eqb m.0 x (sym e ∙ f)) refl
        | inr f ↦
            let g : m.0 ≡ x → ⊥ = λ k. f (e ∙ k) in
            both_later x x l m.1 (rest d) f ∙ rests d (suc m.0) t.3 (var_later l c x f p) (var_later m d x g q) ∙ rw (ne_eqb l.0 x f, ne_eqb m.0 x g) refl
      ])
      | inr o ↦ elim o [
        | inl e ↦ subst P (sym (step_first x rest l m d e)) (elim (cases_eq l.0 x) [
          | inl f ↦ let none = var_below m.0 (m ∷ d) x (omega arith, t.1, t.2, t.3) (omega arith) in absurd cc
          | inr f ↦ set_later l (rest (m ∷ d)) x f ∙ rests (m ∷ d) n' t (var_later l c x f p) q ∙ ap (λ (z : Ranges). meet z (set_of (m ∷ d) x)) (sym (set_later l c x f))
        ])
        | inr e ↦ subst P (sym (step_second x rest l m d e)) (elim (cases_eq m.0 x) [
          | inl f ↦ let none = var_below l.0 (l ∷ c) x (omega arith, s.1, s.2, s.3) (omega arith) in absurd cc
          | inr f ↦ set_later m (resolve_from x rest l d) x f ∙ pivot_from x rest l c n (suc m.0) d rests forms s t.3 p (var_later m d x f q) ∙ ap (λ (z : Ranges). meet (set_of (l ∷ c) x) z) (sym (set_later m d x f))
        ])
      ]
    ]

pub pivot_is : (x : ℕ) (c d : Literals) (n n' : ℕ) → IsClauseFrom n c → IsClauseFrom n' d → has_var c x ≡ true → has_var d x ≡ true → set_of (resolvent x c d) x ≡ meet (set_of c x) (set_of d x)
pivot_is x [] d n n' s t p q = absurd cc
pivot_is x (l ∷ c) d n n' s t p q =
    pivot_from x (resolvent x c) l c n n' d (λ d n' t p q. pivot_is x c d (suc l.0) n' s.3 t p q) (λ d t. IsClauseFrom-resolvent x c d (suc l.0) s.3 t) s t p q

-- ---- where one of the two clauses has come to its end

resolvent-none : (x : ℕ) (a : Literals) → resolvent x a [] ≡ a
resolvent-none x [] = refl
resolvent-none x (l ∷ a) = ap (λ (z : Literals). l ∷ z) (resolvent-none x a)

pub resolvent-done : (x : ℕ) (a b : Literals) (i j : ℕ) → (length a ≤ i) ⊎ (length b ≤ j) → resolvent x (drop i a) (drop j b) ≡ drop i a ++ drop j b
resolvent-done x a b i j (inl h) = rw (left_none a i h) refl
resolvent-done x a b i j (inr h) = rw (left_none b j h, append-nil (drop i a)) (resolvent-none x (drop i a))

-- ---- the law as calls state it

pub resolvent_form : (x : ℕ) (a b c : Literals) → IsClause a → IsClause b → c ≡ resolvent x a b → IsClause c
resolvent_form x a b c s t e = subst IsClause (sym e) (IsClauseFrom-resolvent x a b 0 s t)

pub resolvent_law : (x : ℕ) (a b c : Literals) → IsClause a → IsClause b → IsTrue (has_var a x) → IsTrue (has_var b x) → c ≡ resolvent x a b → IsResolvent x a b c
resolvent_law x a b c s t p q e = subst (λ (z : Literals). IsResolvent x a b z) (sym e) (record {
  pivot = pivot_is x a b 0 0 s t p q;
  others = λ y h. other_is x y a b 0 0 h s t;
  follows = λ values f g. resolvent_true x a b 0 0 values s t f g;
})
