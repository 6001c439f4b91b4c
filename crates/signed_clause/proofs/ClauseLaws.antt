-- What follows from clauses, and that a resolvent is a clause.
use Rattle.std.proofs.Common.{◌≡◌, ℕ, suc, ◌<◌, ◌≤◌, Bool, true, false, not, ◌&&◌, ◌||◌, cond, List, [], ◌∷◌, ℤ, pos, ◌+ℤ◌, int_lt, refl, sym, ap, ◌∙◌, arith, inl, inr, subst, ◌==◌, slice_index_or}
use Rattle.std.specs.Int.{int_max, int_min}
use Rattle.std.proofs.lemmas.Bool.Decides.{nat_tests}
use Rattle.std.proofs.lemmas.Bool.{cases_order, lt-ltb, le-ltb, ne_eqb, eq-eqb, cases_eq}
use Rattle.signed_clause.specs.Ranges.{Ranges, has, IsValid, is_nil}
use Rattle.signed_clause.specs.SetAlgebra.{meet, less, with_range, join, is_disjoint, is_within}
use Rattle.signed_clause.specs.Clauses.{Literal, Literals, IsClauseFrom, clause_true, set_of, both_literals, resolve_from, resolvent}
use Rattle.signed_clause.proofs.RangeLaws.{has-join, Ascends-join}
use Rattle.signed_clause.proofs.RangeSteps.{has-meet_valid, has-less_valid, IsValid-meet}

-- a set that misses another has no value of it
pub has_from_disjoint : (a b : Ranges) (v : ℤ) → IsValid a → IsValid b → is_disjoint a b ≡ true → has b v ≡ true → has a v ≡ false
has_from_disjoint a b v s t h k =
    let e = has-meet_valid a b s t v in
    let P : Ranges → Type 0 = λ m. is_nil m ≡ true → has m v ≡ (has a v && has b v) → has a v ≡ false in
    let by_list : (m : Ranges) → P m = λ m. elim m as P [ [] ↦ λ n d. grind arith | x ∷ xs ↦ λ n d. cc ] in
    by_list (meet a b) h e

pub has_from_within : (a b : Ranges) (v : ℤ) → IsValid a → IsValid b → is_within a b ≡ true → has a v ≡ true → has b v ≡ true
has_from_within a b v s t h k =
    let e = has-less_valid a b s t v in
    let P : Ranges → Type 0 = λ m. is_nil m ≡ true → has m v ≡ (has a v && not (has b v)) → has b v ≡ true in
    let by_list : (m : Ranges) → P m = λ m. elim m as P [ [] ↦ λ n d. grind arith | x ∷ xs ↦ λ n d. cc ] in
    by_list (less a b) h e

pub has-set_of : (c : Literals) (a : List ℤ) (x : ℕ) → clause_true c a ≡ false → has (set_of c x) (slice_index_or a x (pos 0)) ≡ false
has-set_of [] a x h = refl
has-set_of (l ∷ c) a x h =
    let rest : clause_true c a ≡ false → has (set_of c x) (slice_index_or a x (pos 0)) ≡ false = has-set_of c a x in
    grind (arith, nat_tests)

-- ---- the resolvent

module _ (x : ℕ) (rest : Literals → Literals) (l m : Literal) (d : Literals) where
  pub step_first : l.0 < m.0 → resolve_from x rest l (m ∷ d) ≡ l ∷ rest (m ∷ d)
  step_first h = rw (lt-ltb l.0 m.0 h) refl

  pub step_second : m.0 < l.0 → resolve_from x rest l (m ∷ d) ≡ m ∷ resolve_from x rest l d
  step_second h = rw (le-ltb l.0 m.0 (omega arith), lt-ltb m.0 l.0 h) refl

  pub step_both : l.0 ≡ m.0 → resolve_from x rest l (m ∷ d) ≡ both_literals x l m.1 (rest d)
  step_both h = rw (le-ltb l.0 m.0 (omega arith), le-ltb m.0 l.0 (omega arith)) refl

-- a literal of a variable other than x is joined
both-other : (x : ℕ) (l : Literal) (s : Ranges) (rest : Literals) → x < l.0 → both_literals x l s rest ≡ (l.0, join l.1 s) ∷ rest
both-other x l s rest h = rw (ne_eqb l.0 x (λ e. omega arith)) refl

both-apart : (x : ℕ) (l : Literal) (s : Ranges) (rest : Literals) → (l.0 ≡ x → ⊥) → both_literals x l s rest ≡ (l.0, join l.1 s) ∷ rest
both-apart x l s rest h = rw (ne_eqb l.0 x h) refl

-- behind x both clauses are joined
join_from : (x : ℕ) (rest : Literals → Literals) (l : Literal) (c : Literals) (n n' : ℕ) (d : Literals) (a : List ℤ) →
    ((d : Literals) (n' : ℕ) → IsClauseFrom n' d → x < n' → clause_true (rest d) a ≡ (clause_true c a || clause_true d a)) →
    IsClauseFrom n (l ∷ c) → x < n → IsClauseFrom n' d → x < n' → clause_true (resolve_from x rest l d) a ≡ (clause_true (l ∷ c) a || clause_true d a)
join_from x rest l c n n' [] a rests s h t k = let r = rests [] n' t k in grind arith
join_from x rest l c n n' (m ∷ d) a rests s h t k =
    let P : Literals → Type 0 = λ z. clause_true z a ≡ (clause_true (l ∷ c) a || clause_true (m ∷ d) a) in
    elim (cases_order l.0 m.0) [
      | inl e ↦
          let behind = rests d (suc m.0) t.3 (omega arith) in
          let joined = has-join l.1 m.1 _ _ (slice_index_or a l.0 (pos 0)) s.2 t.2 in
          let v : slice_index_or a m.0 (pos 0) ≡ slice_index_or a l.0 (pos 0) = ap (λ y. slice_index_or a y (pos 0)) (sym e) in
          subst P (sym (step_both x rest l m d e ∙ both-other x l m.1 (rest d) (omega arith))) (rw v (grind arith))
      | inr o ↦ elim o [
        | inl e ↦ let all = rests (m ∷ d) n' t k in subst P (sym (step_first x rest l m d e)) (grind arith)
        | inr e ↦ let more = join_from x rest l c n (suc m.0) d a rests s h t.3 (omega arith) in subst P (sym (step_second x rest l m d e)) (grind arith)
      ]
    ]

join_all : (x : ℕ) (c d : Literals) (n n' : ℕ) (a : List ℤ) → IsClauseFrom n c → x < n → IsClauseFrom n' d → x < n' → clause_true (resolvent x c d) a ≡ (clause_true c a || clause_true d a)
join_all x [] d n n' a s h t k = refl
join_all x (l ∷ c) d n n' a s h t k =
    join_from x (resolvent x c) l c n n' d a (λ d n' t k. join_all x c d (suc l.0) n' a s.3 (omega arith) t k) s h t k

-- of x the meet is left
both-same : (x : ℕ) (l : Literal) (s : Ranges) (rest : Literals) (a : List ℤ) → l.0 ≡ x → IsValid l.1 → IsValid s →
    clause_true (both_literals x l s rest) a ≡ ((has l.1 (slice_index_or a l.0 (pos 0)) && has s (slice_index_or a l.0 (pos 0))) || clause_true rest a)
both-same x l s rest a e f g =
    let v = slice_index_or a l.0 (pos 0) in
    let law = has-meet_valid l.1 s f g v in
    let P : Ranges → Type 0 = λ m. has m v ≡ (has l.1 v && has s v) → clause_true (cond (is_nil m) rest ((l.0, m) ∷ rest)) a ≡ ((has l.1 v && has s v) || clause_true rest a) in
    let by_list : (m : Ranges) → P m = λ m. elim m as P [ [] ↦ λ h. grind arith | y ∷ ys ↦ λ h. grind arith ] in
    let Q : Bool → Type 0 = λ b. clause_true (cond b (cond (is_nil (meet l.1 s)) rest ((l.0, meet l.1 s) ∷ rest)) ((l.0, join l.1 s) ∷ rest)) a ≡ ((has l.1 v && has s v) || clause_true rest a) in
    subst Q (sym (eq-eqb l.0 x e)) (by_list (meet l.1 s) law)

resolve_true : (x : ℕ) (rest : Literals → Literals) (l : Literal) (c : Literals) (n n' : ℕ) (d : Literals) (a : List ℤ) →
    ((d : Literals) (n' : ℕ) → IsClauseFrom n' d → clause_true c a ≡ true → clause_true d a ≡ true → clause_true (rest d) a ≡ true) →
    ((d : Literals) (n' : ℕ) → IsClauseFrom n' d → x < suc l.0 → x < n' → clause_true (rest d) a ≡ (clause_true c a || clause_true d a)) →
    IsClauseFrom n (l ∷ c) → IsClauseFrom n' d → clause_true (l ∷ c) a ≡ true → clause_true d a ≡ true → clause_true (resolve_from x rest l d) a ≡ true
resolve_true x rest l c n n' [] a rests later s t p q = absurd (grind arith)
resolve_true x rest l c n n' (m ∷ d) a rests later s t p q =
    let P : Literals → Type 0 = λ z. clause_true z a ≡ true in
    elim (cases_order l.0 m.0) [
      | inl e ↦
          let v : slice_index_or a m.0 (pos 0) ≡ slice_index_or a l.0 (pos 0) = ap (λ y. slice_index_or a y (pos 0)) (sym e) in
          let q' = rw v at q in
          let behind = rests d (suc m.0) t.3 in
          elim (cases_eq l.0 x) [
            | inl f ↦
                let law = both-same x l m.1 (rest d) a f s.2 t.2 in
                let after = later d (suc m.0) t.3 (omega arith) (omega arith) in
                subst P (sym (step_both x rest l m d e)) (law ∙ grind arith)
            | inr f ↦
                let joined = has-join l.1 m.1 _ _ (slice_index_or a l.0 (pos 0)) s.2 t.2 in
                subst P (sym (step_both x rest l m d e ∙ both-apart x l m.1 (rest d) f)) (grind arith)
          ]
      | inr o ↦ elim o [
        | inl e ↦ let all = rests (m ∷ d) n' t in subst P (sym (step_first x rest l m d e)) (grind arith)
        | inr e ↦ let more = resolve_true x rest l c n (suc m.0) d a rests later s t.3 p in subst P (sym (step_second x rest l m d e)) (grind arith)
      ]
    ]

-- where both clauses are true, so is their resolvent
pub resolvent_true : (x : ℕ) (c d : Literals) (n n' : ℕ) (a : List ℤ) → IsClauseFrom n c → IsClauseFrom n' d → clause_true c a ≡ true → clause_true d a ≡ true → clause_true (resolvent x c d) a ≡ true
resolvent_true x [] d n n' a s t p q = q
resolvent_true x (l ∷ c) d n n' a s t p q =
    resolve_true x (resolvent x c) l c n n' d a (λ d n' t p q. resolvent_true x c d (suc l.0) n' a s.3 t p q) (λ d n' t h k. join_all x c d (suc l.0) n' a s.3 h t k) s t p q

-- ---- its form

with_range-some : (low high : ℤ) (b : Ranges) → is_nil (with_range low high b) ≡ false
with_range-some low high [] = refl
with_range-some low high (s ∷ b) =
    elim (int_lt (s.1 +ℤ pos 1) low) as (λ x. is_nil (cond x (s ∷ with_range low high b) (cond (int_lt (high +ℤ pos 1) s.0) ((low, high) ∷ s ∷ b) (with_range (int_min low s.0) (int_max high s.1) b))) ≡ false) [
      | true ↦ refl
      | false ↦ elim (int_lt (high +ℤ pos 1) s.0) as (λ x. is_nil (cond x ((low, high) ∷ s ∷ b) (with_range (int_min low s.0) (int_max high s.1) b)) ≡ false) [
        | true ↦ refl
        | false ↦ with_range-some (int_min low s.0) (int_max high s.1) b
      ]
    ]

-- a join with a set that isn't empty isn't
pub join-some : (a b : Ranges) → is_nil a ≡ false → is_nil (join a b) ≡ false
join-some [] b h = absurd cc
join-some (r ∷ a) b h = with_range-some r.0 r.1 (join a b)

pub IsClauseFrom-weaken : (n n' : ℕ) (c : Literals) → n ≤ n' → IsClauseFrom n' c → IsClauseFrom n c
IsClauseFrom-weaken n n' [] h s = tt
IsClauseFrom-weaken n n' (l ∷ c) h s = (omega arith, s.1, s.2, s.3)

both-form : (x n : ℕ) (l : ℕ × Ranges) (s : Ranges) (rest : Literals) → n ≤ l.0 → is_nil l.1 ≡ false → IsValid l.1 → IsValid s → IsClauseFrom (suc l.0) rest → IsClauseFrom n (both_literals x l s rest)
both-form x n l s rest h some f g r =
    let weak = IsClauseFrom-weaken n (suc l.0) rest (omega arith) r in
    elim (l.0 == x) as (λ b. IsClauseFrom n (cond b (cond (is_nil (meet l.1 s)) rest ((l.0, meet l.1 s) ∷ rest)) ((l.0, join l.1 s) ∷ rest))) [
      | true ↦ elim (is_nil (meet l.1 s)) as (λ b. is_nil (meet l.1 s) ≡ b → IsClauseFrom n (cond b rest ((l.0, meet l.1 s) ∷ rest))) [ true ↦ λ e. weak | false ↦ λ e. (h, e, IsValid-meet l.1 s f g, r) ] refl
      | false ↦ (h, join-some l.1 s some, Ascends-join l.1 s _ _ f g, r)
    ]

resolve_form : (x : ℕ) (rest : Literals → Literals) (l : ℕ × Ranges) (c : Literals) (n : ℕ) (d : Literals) →
    ((d : Literals) (n : ℕ) → IsClauseFrom n c → IsClauseFrom n d → IsClauseFrom n (rest d)) → IsClauseFrom n (l ∷ c) → IsClauseFrom n d → IsClauseFrom n (resolve_from x rest l d)
resolve_form x rest l c n [] rests s t = (s.0, s.1, s.2, rests [] (suc l.0) s.3 tt)
resolve_form x rest l c n (m ∷ d) rests s t =
    elim (cases_order l.0 m.0) [
      | inl e ↦ subst (IsClauseFrom n) (sym (step_both x rest l m d e)) (both-form x n l m.1 (rest d) s.0 s.1 s.2 t.2 (rests d (suc l.0) s.3 (IsClauseFrom-weaken (suc l.0) (suc m.0) d (omega arith) t.3)))
      | inr o ↦ elim o [
        | inl e ↦ subst (IsClauseFrom n) (sym (step_first x rest l m d e)) (s.0, s.1, s.2, rests (m ∷ d) (suc l.0) s.3 (omega arith, t.1, t.2, t.3))
        | inr e ↦ subst (IsClauseFrom n) (sym (step_second x rest l m d e)) (t.0, t.1, t.2, resolve_form x rest l c (suc m.0) d rests (omega arith, s.1, s.2, s.3) t.3)
      ]
    ]

pub IsClauseFrom-resolvent : (x : ℕ) (c d : Literals) (n : ℕ) → IsClauseFrom n c → IsClauseFrom n d → IsClauseFrom n (resolvent x c d)
IsClauseFrom-resolvent x [] d n s t = t
IsClauseFrom-resolvent x (l ∷ c) d n s t = resolve_form x (resolvent x c) l c n d (λ d n s t. IsClauseFrom-resolvent x c d n s t) s t
