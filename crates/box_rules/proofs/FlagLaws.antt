-- The rules of the kinds that define a flag, an element or a conditional, and of clauses, are
-- right.
use Rattle.std.proofs.Common.{◌≡◌, ℕ, suc, Bool, true, false, not, ◌&&◌, ◌||◌, List, [], ◌∷◌, ℤ, pos, refl, arith, subst, ap, ◌∙◌, sym}
use Rattle.std.specs.Ordering.{int_eq}
use Rattle.std.proofs.lemmas.Int.{ints}
use Rattle.std.proofs.lemmas.Bool.Decides.{Decides-int_eq}
use Rattle.std.proofs.lemmas.Bool.{and_parts, false_from_ne_true}
use Rattle.signed_clause.specs.Ranges.{Ranges, has, IsValid}
use Rattle.signed_clause.specs.SetAlgebra.{is_disjoint, is_within}
use Rattle.signed_clause.specs.Clauses.{Boxes, Literals, box_of, false_in, clause_true, IsClauseFrom}
use Rattle.signed_clause.proofs.ClauseLaws.{has_from_disjoint, has_from_within}
use Rattle.ground_form.specs.Meaning.{value_of, bit, part_vars, term_vars, clause_vars, parts_true, picks}
use Rattle.ground_form.specs.Bounds.{low_of}
use Rattle.box_rules.specs.Refuted.{fixed_at, some_barred, all_fixed, same_single, none_picked}
use Rattle.box_rules.proofs.FixedLaws.{fixed_value, single_fixed}
use Rattle.box_view.proofs.SetLaws.{is_disjoint-single, single-is_disjoint}
use Rattle.box_view.proofs.EndLaws.{AreSets, AreSingle, values_in, single_head, single_tail, single_has}

-- ---- flags in general

-- a flag whose value is in its box isn't the bit of the truth, where 1 is barred or the truth
-- denied, and 0 is barred or it holds
pub flag-false : (flags : Ranges) (f : ℤ) (truth denied held : Bool) → has flags f ≡ true →
    (denied ≡ true → truth ≡ false) → (held ≡ true → truth ≡ true) →
    ((not (has flags (pos 1)) || denied) && (not (has flags (pos 0)) || held)) ≡ true → int_eq f (bit truth) ≡ false
flag-false flags f true denied held h d k e =
    let at = Decides-int_eq f (pos 1) in
    let here : int_eq f (pos 1) ≡ true → has flags (pos 1) ≡ true = λ q. subst (λ (z : ℤ). has flags z ≡ true) (at.0 q) h in
    grind arith
flag-false flags f false denied held h d k e =
    let at = Decides-int_eq f (pos 0) in
    let here : int_eq f (pos 0) ≡ true → has flags (pos 0) ≡ true = λ q. subst (λ (z : ℤ). has flags z ≡ true) (at.0 q) h in
    grind arith

-- of single values the rule is exact
pub flag-single : (f : ℤ) (truth : Bool) →
    ((not (int_eq f (pos 1)) || not truth) && (not (int_eq f (pos 0)) || truth)) ≡ not (int_eq f (bit truth))
flag-single f true = let one = Decides-int_eq f (pos 1) in let zero = Decides-int_eq f (pos 0) in grind (arith, ints)
flag-single f false = let one = Decides-int_eq f (pos 1) in let zero = Decides-int_eq f (pos 0) in grind (arith, ints)

-- ---- conjunctions

pub barred-false : (ps : List (ℕ × Bool)) (boxes : Boxes) (a : List ℤ) → values_in (part_vars ps) boxes a ≡ true → some_barred ps boxes ≡ true → parts_true ps a ≡ false
barred-false [] boxes a h k = absurd cc
barred-false (p ∷ ps) boxes a h k =
    let parts = and_parts (has (box_of boxes p.0) (value_of a p.0)) (values_in (part_vars ps) boxes a) h in
    let more = barred-false ps boxes a parts.1 in
    let at = Decides-int_eq (value_of a p.0) (bit p.1) in
    let here : int_eq (value_of a p.0) (bit p.1) ≡ true → has (box_of boxes p.0) (bit p.1) ≡ true =
    λ q. subst (λ (z : ℤ). has (box_of boxes p.0) z ≡ true) (at.0 q) parts.0 in
    grind arith

pub fixed-true : (ps : List (ℕ × Bool)) (boxes : Boxes) (a : List ℤ) → AreSets boxes → values_in (part_vars ps) boxes a ≡ true → all_fixed ps boxes ≡ true → parts_true ps a ≡ true
fixed-true [] boxes a s h k = refl
fixed-true (p ∷ ps) boxes a s h k =
    let parts = and_parts (has (box_of boxes p.0) (value_of a p.0)) (values_in (part_vars ps) boxes a) h in
    let fixed = and_parts (fixed_at (box_of boxes p.0) (bit p.1)) (all_fixed ps boxes) k in
    let more = fixed-true ps boxes a s parts.1 fixed.1 in
    let is = fixed_value (box_of boxes p.0) (bit p.1) (value_of a p.0) (s p.0) fixed.0 parts.0 in
    let at = (Decides-int_eq (value_of a p.0) (bit p.1)).1 is in
    grind arith

pub barred-single : (ps : List (ℕ × Bool)) (boxes : Boxes) (a : List ℤ) → AreSingle (part_vars ps) boxes a → some_barred ps boxes ≡ not (parts_true ps a)
barred-single [] boxes a h = refl
barred-single (p ∷ ps) boxes a h =
    let more = barred-single ps boxes a (single_tail p.0 (part_vars ps) boxes a h) in
    let this : has (box_of boxes p.0) (bit p.1) ≡ int_eq (value_of a p.0) (bit p.1) =
    ap (λ (s : Ranges). has s (bit p.1)) (single_head p.0 (part_vars ps) boxes a h) ∙ single_has (value_of a p.0) (bit p.1) in
    grind arith

pub fixed-single : (ps : List (ℕ × Bool)) (boxes : Boxes) (a : List ℤ) → AreSingle (part_vars ps) boxes a → all_fixed ps boxes ≡ parts_true ps a
fixed-single [] boxes a h = refl
fixed-single (p ∷ ps) boxes a h =
    let more = fixed-single ps boxes a (single_tail p.0 (part_vars ps) boxes a h) in
    let this : fixed_at (box_of boxes p.0) (bit p.1) ≡ int_eq (value_of a p.0) (bit p.1) =
    ap (λ (s : Ranges). fixed_at s (bit p.1)) (single_head p.0 (part_vars ps) boxes a h) ∙ single_fixed (value_of a p.0) (bit p.1) in
    grind arith

-- ---- membership and equality

pub disjoint-false : (box set : Ranges) (v : ℤ) → IsValid box → IsValid set → has box v ≡ true → is_disjoint box set ≡ true → has set v ≡ false
disjoint-false box set v s t h k =
    false_from_ne_true (has set v) (λ q. let n = has_from_disjoint box set v s t k q in grind arith)

pub within-true : (box set : Ranges) (v : ℤ) → IsValid box → IsValid set → has box v ≡ true → is_within box set ≡ true → has set v ≡ true
within-true box set v s t h k = has_from_within box set v s t k h

pub apart-false : (left right : Ranges) (v w : ℤ) → IsValid left → IsValid right → has left v ≡ true → has right w ≡ true → is_disjoint left right ≡ true → int_eq v w ≡ false
apart-false left right v w s t h k m =
    let at = Decides-int_eq v w in
    let none : v ≡ w → ⊥ = λ e. let here : has right v ≡ true = subst (λ (z : ℤ). has right z ≡ true) (sym e) k in
    let n = has_from_disjoint left right v s t m here in grind arith in
    false_from_ne_true (int_eq v w) (λ q. none (at.0 q))

pub same-true : (left right : Ranges) (v w : ℤ) → IsValid left → IsValid right → has left v ≡ true → has right w ≡ true → same_single left right ≡ true → int_eq v w ≡ true
same-true left right v w s t h k m =
    let parts = and_parts (fixed_at left (low_of left)) (fixed_at right (low_of left)) m in
    let a = fixed_value left (low_of left) v s parts.0 h in
    let b = fixed_value right (low_of left) w t parts.1 k in
    let e : v ≡ w = cc in
    (Decides-int_eq v w).1 e

int_eq-same : (v : ℤ) → int_eq v v ≡ true
int_eq-same v = (Decides-int_eq v v).1 refl

pub int_eq-sym : (v w : ℤ) → int_eq v w ≡ int_eq w v
int_eq-sym v w = let a = Decides-int_eq v w in let b = Decides-int_eq w v in grind (arith, ints)

pub same-single : (v w : ℤ) → same_single ((v, v) ∷ []) ((w, w) ∷ []) ≡ int_eq v w
same-single v w =
    rw (single_fixed v v, single_fixed w v, int_eq-same v) (int_eq-sym w v)

-- ---- elements

pub picked-false : (out index : Ranges) (v i : ℤ) (ts : List (ℤ × ℕ)) (boxes : Boxes) (a : List ℤ) → AreSets boxes → IsValid out → has out v ≡ true → has index i ≡ true →
    values_in (term_vars ts) boxes a ≡ true → none_picked out index ts boxes ≡ true → picks v i ts a ≡ false
picked-false out index v i [] boxes a s so h k l m = refl
picked-false out index v i (t ∷ ts) boxes a s so h k l m =
    let parts = and_parts (has (box_of boxes t.1) (value_of a t.1)) (values_in (term_vars ts) boxes a) l in
    let none = and_parts (not (has index t.0) || is_disjoint (box_of boxes t.1) out) (none_picked out index ts boxes) m in
    let more = picked-false out index v i ts boxes a s so h k parts.1 none.1 in
    let at = Decides-int_eq t.0 i in
    let here : int_eq t.0 i ≡ true → has index t.0 ≡ true = λ q. subst (λ (z : ℤ). has index z ≡ true) (sym (at.0 q)) k in
    let apart = apart-false (box_of boxes t.1) out (value_of a t.1) v (s t.1) so parts.0 h in
    grind arith

pub picked-single : (v i : ℤ) (ts : List (ℤ × ℕ)) (boxes : Boxes) (a : List ℤ) → AreSets boxes → IsValid ((v, v) ∷ []) → AreSingle (term_vars ts) boxes a →
    none_picked ((v, v) ∷ []) ((i, i) ∷ []) ts boxes ≡ not (picks v i ts a)
picked-single v i [] boxes a s so h = refl
picked-single v i (t ∷ ts) boxes a s so h =
    let w = value_of a t.1 in
    let is = single_head t.1 (term_vars ts) boxes a h in
    let sw : IsValid ((w, w) ∷ []) = subst (λ (z : Ranges). IsValid z) is (s t.1) in
    let more = picked-single v i ts boxes a s so (single_tail t.1 (term_vars ts) boxes a h) in
    let index : has ((i, i) ∷ []) t.0 ≡ int_eq t.0 i = single_has i t.0 ∙ int_eq-sym i t.0 in
    let var : is_disjoint (box_of boxes t.1) ((v, v) ∷ []) ≡ not (int_eq w v) =
    ap (λ (z : Ranges). is_disjoint z ((v, v) ∷ [])) is ∙ is_disjoint-single w ((v, v) ∷ []) sw so ∙ ap (λ (b : Bool). not b) (single_has v w ∙ int_eq-sym v w) in
    rw (index, var, more) (grind arith)

-- ---- conditionals

pub conditional-false : (out flags item : Ranges) (v f w : ℤ) → IsValid out → IsValid item → has out v ≡ true → has flags f ≡ true → has item w ≡ true →
    ((not (has flags (pos 1)) || is_disjoint out item) && (not (has flags (pos 0)) || not (has out (pos 0)))) ≡ true →
    ((int_eq f (pos 1) && int_eq v w) || (int_eq f (pos 0) && int_eq v (pos 0))) ≡ false
conditional-false out flags item v f w s t h k l e =
    let apart = apart-false out item v w s t h l in
    let one = Decides-int_eq f (pos 1) in
    let zero = Decides-int_eq f (pos 0) in
    let none = Decides-int_eq v (pos 0) in
    let at_one : int_eq f (pos 1) ≡ true → has flags (pos 1) ≡ true = λ q. subst (λ (z : ℤ). has flags z ≡ true) (one.0 q) k in
    let at_zero : int_eq f (pos 0) ≡ true → has flags (pos 0) ≡ true = λ q. subst (λ (z : ℤ). has flags z ≡ true) (zero.0 q) k in
    let out_zero : int_eq v (pos 0) ≡ true → has out (pos 0) ≡ true = λ q. subst (λ (z : ℤ). has out z ≡ true) (none.0 q) h in
    grind arith

pub conditional-single : (f g x y : Bool) → ((f && g) ≡ false) → ((not f || not x) && (not g || not y)) ≡ not ((f && x) || (g && y))
conditional-single f g x y h = grind arith

pub not_both : (f : ℤ) → (int_eq f (pos 1) && int_eq f (pos 0)) ≡ false
not_both f = let one = Decides-int_eq f (pos 1) in let zero = Decides-int_eq f (pos 0) in grind (arith, ints)

-- ---- clauses

pub clause-false : (c : Literals) (n : ℕ) (boxes : Boxes) (a : List ℤ) → AreSets boxes → IsClauseFrom n c → values_in (clause_vars c) boxes a ≡ true → false_in boxes c ≡ true → clause_true c a ≡ false
clause-false [] n boxes a s f h k = refl
clause-false (l ∷ c) n boxes a s f h k =
    let parts = and_parts (has (box_of boxes l.0) (value_of a l.0)) (values_in (clause_vars c) boxes a) h in
    let falses = and_parts (is_disjoint l.1 (box_of boxes l.0)) (false_in boxes c) k in
    let more = clause-false c (suc l.0) boxes a s f.3 parts.1 falses.1 in
    let this = has_from_disjoint l.1 (box_of boxes l.0) (value_of a l.0) f.2 (s l.0) falses.0 parts.0 in
    grind arith

pub clause-single : (c : Literals) (n : ℕ) (boxes : Boxes) (a : List ℤ) → AreSets boxes → IsClauseFrom n c → AreSingle (clause_vars c) boxes a → false_in boxes c ≡ not (clause_true c a)
clause-single [] n boxes a s f h = refl
clause-single (l ∷ c) n boxes a s f h =
    let v = value_of a l.0 in
    let is = single_head l.0 (clause_vars c) boxes a h in
    let sv : IsValid ((v, v) ∷ []) = subst (λ (z : Ranges). IsValid z) is (s l.0) in
    let more = clause-single c (suc l.0) boxes a s f.3 (single_tail l.0 (clause_vars c) boxes a h) in
    let this : is_disjoint l.1 (box_of boxes l.0) ≡ not (has l.1 v) = ap (λ (z : Ranges). is_disjoint l.1 z) is ∙ single-is_disjoint v l.1 sv f.2 in
    rw (this, more) (grind arith)
