-- From the test of a clause's form.
use Rattle.std.proofs.Common.{◌≡◌, ℕ, zero, suc, ◌+◌, ◌<◌, ◌≤◌, true, false, not, nat_lt, ◌&&◌, [], ◌∷◌, length, All, arith, nat_le, get_or, drop, take, refl, sym, ap, ◌∙◌, subst, add-one, inl, inr}
use Rattle.std.proofs.lemmas.List.Elements.{All-more, All-same}
use Rattle.std.proofs.lemmas.List.{take_all}
use Rattle.std.proofs.lemmas.Bool.{cases_lt, ltb-false, and_parts, leb-true, ltb-true, not-true, ne_eqb}
use Rattle.signed_clause.proofs.RangeSteps.{left_at, left_none}
use Rattle.signed_clause.proofs.ResolventLaws.{set_later, var_below}
use Rattle.signed_clause.specs.Ranges.{Ranges, IsValid, is_nil}
use Rattle.signed_clause.specs.Clauses.{Literal, Literals, clause_from, IsClause, is_clause, IsClauseFrom, set_of, has_var}

form_at : (n : ℕ) (c : Literals) → clause_from n c ≡ true → All (λ l. IsValid l.1) c → IsClauseFrom n c
form_at n [] h s = tt
form_at n (l ∷ c) h s =
    let p = and_parts (nat_le n l.0) (not (is_nil l.1) && clause_from (suc l.0) c) h in
    let q = and_parts (not (is_nil l.1)) (clause_from (suc l.0) c) p.1 in
    (leb-true n l.0 p.0, not-true (is_nil l.1) q.0, s 0 l (omega arith), form_at (suc l.0) c q.1 (λ k d lt. s (suc k) d (omega arith)))

pub form_from : (c : Literals) → is_clause c ≡ true → All (λ l. IsValid l.1) c → IsClauseFrom 0 c
form_from c h s = form_at 0 c h s

pub form_step : (c : Literals) (i n : ℕ) (x : Literal) → i < length c → x ≡ get_or c i x → (nat_le n x.0 && not (is_nil x.1)) ≡ true → clause_from (x.0 + 1) (drop (i + 1) c) ≡ clause_from n (drop i c)
form_step c i n x h e t =
    let p = and_parts (nat_le n x.0) (not (is_nil x.1)) t in
    let q : is_nil x.1 ≡ false = not-true (is_nil x.1) p.1 in
    let left = left_at c i x x h e in
    let whole : clause_from n (x ∷ drop (i + 1) c) ≡ clause_from (suc x.0) (drop (i + 1) c) = rw (p.0, q) refl in
    ap (λ m. clause_from m (drop (i + 1) c)) (add-one x.0) ∙ sym whole ∙ sym (ap (clause_from n) left)

pub sets_step : (c : Literals) (i : ℕ) (x : Literal) → i < length c → x ≡ get_or c i x → IsValid x.1 → All (λ l. IsValid l.1) (take i c) → All (λ l. IsValid l.1) (take (i + 1) c)
sets_step c i x h e v s = All-more (λ l. IsValid l.1) c i x h s (subst (λ (l : Literal). IsValid l.1) e v)

pub sets_all : (c : Literals) (i : ℕ) → length c ≤ i → All (λ l. IsValid l.1) (take i c) → All (λ l. IsValid l.1) c
sets_all c i h s = All-same (λ l. IsValid l.1) c (take i c) (sym (take_all i c h)) s

-- ---- the search for a variable

-- the literals are of variables from n on
var_from : (n : ℕ) (c : Literals) (i : ℕ) → IsClauseFrom n c → i < length c → n ≤ (get_or c i (0, [])).0
var_from n [] i s h = absurd (omega arith)
var_from n (l ∷ c) zero s h = s.0
var_from n (l ∷ c) (suc i) s h = let rest = var_from (suc l.0) c i s.3 (omega arith) in omega arith

var_at_later : (l : ℕ × Ranges) (c : Literals) (y : ℕ) → (l.0 ≡ y → ⊥) → has_var (l ∷ c) y ≡ has_var c y
var_at_later l c y e = rw (ne_eqb l.0 y e) refl

-- what is left of a clause from a place on, by its first variable
form_left : (n : ℕ) (c : Literals) (i : ℕ) → IsClauseFrom n c → i < length c → IsClauseFrom (get_or c i (0, [])).0 (get_or c i (0, []) ∷ drop (i + 1) c)
form_left n [] i s h = absurd (omega arith)
form_left n (l ∷ c) zero s h = (omega arith, s.1, s.2, s.3)
form_left n (l ∷ c) (suc i) s h = rw add-one (subst (λ (k : ℕ). IsClauseFrom (get_or c i (0, [])).0 (get_or c i (0, []) ∷ drop k c)) (add-one i) (form_left (suc l.0) c i s.3 (omega arith)))

ne-lt : (m x : ℕ) → x ≤ m → (m ≡ x → ⊥) → x < suc m
ne-lt m x h k = omega arith

-- past a literal of a lesser variable
set_past : (n : ℕ) (c : Literals) (i x : ℕ) → IsClauseFrom n c → i < length c → (get_or c i (0, [])).0 < x → set_of (drop (suc i) c) x ≡ set_of c x
set_past n [] i x s h lt = absurd (omega arith)
set_past n (l ∷ c) zero x s h lt = sym (set_later l c x (λ e. omega arith))
set_past n (l ∷ c) (suc i) x s h lt =
    let at = var_from (suc l.0) c i s.3 (omega arith) in
    set_past (suc l.0) c i x s.3 (omega arith) lt ∙ sym (set_later l c x (λ e. omega arith))

var_past : (n : ℕ) (c : Literals) (i x : ℕ) → IsClauseFrom n c → i < length c → (get_or c i (0, [])).0 < x → has_var (drop (suc i) c) x ≡ has_var c x
var_past n [] i x s h lt = absurd (omega arith)
var_past n (l ∷ c) zero x s h lt = sym (var_at_later l c x (λ e. omega arith))
var_past n (l ∷ c) (suc i) x s h lt =
    let at = var_from (suc l.0) c i s.3 (omega arith) in
    var_past (suc l.0) c i x s.3 (omega arith) lt ∙ sym (var_at_later l c x (λ e. omega arith))

pub look_upper : (self xs : Literals) (i x : ℕ) → IsClause self → xs ≡ self → i < length xs → nat_lt (get_or xs i (0, [])).0 x ≡ true →
    (set_of (drop (i + 1) xs) x ≡ set_of self x) × (has_var (drop (i + 1) xs) x ≡ has_var self x)
look_upper self xs i x s e h t =
    let form = subst IsClause (sym e) s in
    let lt = ltb-true (get_or xs i (0, [])).0 x t in
    (rw add-one (set_past 0 xs i x form h lt ∙ ap (λ (z : Literals). set_of z x) e), rw add-one (var_past 0 xs i x form h lt ∙ ap (λ (z : Literals). has_var z x) e))

-- where the search ends, low and high are one place, and the literal there decides
pub look_none : (self xs : Literals) (low high x : ℕ) → IsClause self → xs ≡ self → has_var (drop low xs) x ≡ has_var self x → low ≤ high → high ≤ low →
    (high < length xs → nat_lt (get_or xs high (0, [])).0 x ≡ false) → (low < length xs → (get_or xs low (0, [])).0 ≡ x → ⊥) → has_var self x ≡ false
look_none self xs low high x s e inv le ge reached other =
    sym inv ∙ (elim (cases_lt low (length xs)) [
      | inl h ↦
          let same : low ≡ high = omega arith in
          let l = get_or xs low (0, []) in
          let le = ltb-false l.0 x (subst (λ (i : ℕ). i < length xs → nat_lt (get_or xs i (0, [])).0 x ≡ false) (sym same) reached h) in
          let form = subst IsClause (sym e) s in
          let left = left_at xs low l (0, []) h refl in
          let rest : IsClauseFrom l.0 (l ∷ drop (low + 1) xs) = form_left 0 xs low form h in
          ap (λ (z : Literals). has_var z x) left ∙ var_at_later l (drop (low + 1) xs) x (other h) ∙ var_below (suc l.0) (drop (low + 1) xs) x rest.3 (let no = other h in ne-lt l.0 x le no)
      | inr h ↦ ap (λ (z : Literals). has_var z x) (left_none xs low h)
    ])

-- each literal's set is valid
set_at : (n : ℕ) (c : Literals) (i : ℕ) (d : Literal) → IsClauseFrom n c → i < length c → IsValid (get_or c i d).1
set_at n [] i d s h = absurd (omega arith)
set_at n (l ∷ c) zero d s h = s.2
set_at n (l ∷ c) (suc i) d s h = set_at (suc l.0) c i d s.3 (omega arith)

pub literal_valid : (self xs : Literals) (i : ℕ) (d : Literal) → IsClause self → xs ≡ self → i < length xs → IsValid (get_or xs i d).1
literal_valid self xs i d s e h = set_at 0 xs i d (subst IsClause (sym e) s) h
