-- What one more set does to collected literals.
use Rattle.std.proofs.Common.{◌≡◌, ℕ, suc, ◌<◌, ◌==◌, Bool, true, false, not, ◌&&◌, ◌||◌, cond, [], ◌∷◌, ℤ, All, length, refl, arith, subst, negsuc, pos, ◌≤ℤ◌, ◌++◌, ◌+◌, ◌≤◌, int_lt, take, get_or, slice_set, zero, ap, ◌∙◌, sym, List}
use Rattle.std.proofs.lemmas.Int.{ints}
use Rattle.std.proofs.lemmas.Bool.{and_parts, false_from_ne_true}
use Rattle.std.proofs.lemmas.Bool.Decides.{nat_tests}
use Rattle.std.proofs.lemmas.List.Elements.{All-cons}
use Rattle.signed_clause.specs.Ranges.{Ranges, has, is_nil, IsValid}
use Rattle.signed_clause.specs.SetAlgebra.{is_disjoint, join}
use Rattle.signed_clause.specs.Clauses.{Boxes, Literal, Literals, box_of, set_of}
use Rattle.signed_clause.proofs.RangeSteps.{IsValid-join, has-join_valid}
use Rattle.signed_clause.proofs.SetFacts.{disjoint_law}
use Rattle.ground_form.specs.Meaning.{clause_vars}
use Rattle.rule_law.specs.Reasons.{has_number, no_repeat}
use Rattle.box_view.proofs.CutLaws.{low_within, top_within}
use Rattle.box_view.proofs.EndLaws.{AreSets}
use Rattle.box_view.proofs.EndLaws.{has_low}
use Rattle.rule_law.proofs.Reasoning.{set_valid}
use Rattle.pack_prop.specs.Collected.{with_set, said, IsFalse, AreCollected, SaysMore}
use Rattle.ground_form.specs.Bounds.{low_of}

has_some : (s : Ranges) (v : ℤ) → has s v ≡ true → is_nil s ≡ false
has_some [] v h = absurd (grind arith)
has_some (r ∷ s) v h = refl

-- ---- each literal

join_some : (a b : Ranges) → IsValid a → IsValid b → is_nil b ≡ false → is_nil (join a b) ≡ false
join_some a b f g n =
    let low = has_low b g n in let e = has-join_valid a b f g (low_of b) in has_some (join a b) (low_of b) (grind arith)

join_disjoint : (a b box : Ranges) → IsValid a → IsValid b → IsValid box → is_disjoint a box ≡ true → is_disjoint b box ≡ true → is_disjoint (join a b) box ≡ true
join_disjoint a b box f g k h j =
    (disjoint_law (join a b) box (IsValid-join a b f g) k).1 (λ v q.
    let e = has-join_valid a b f g v in
    let one = (disjoint_law a box f k).0 h v in let two = (disjoint_law b box g k).0 j v in grind arith)

join_false : (boxes : Boxes) (l : Literal) (s : Ranges) → AreSets boxes → IsFalse boxes l → IsFalse boxes (l.0, s) → IsFalse boxes (l.0, join l.1 s)
join_false boxes l s b h k = record {
  named = h.named;
  some = join_some l.1 s h.valid k.valid k.some;
  valid = IsValid-join l.1 s h.valid k.valid;
  disjoint = join_disjoint l.1 s (box_of boxes l.0) h.valid k.valid (b l.0) h.disjoint k.disjoint;
}

with_each : (boxes : Boxes) (y : ℕ) (s : Ranges) (ls : Literals) → AreSets boxes → IsFalse boxes (y, s) → All (λ l. IsFalse boxes l) ls → All (λ l. IsFalse boxes l) (with_set y s ls)
with_each boxes y s [] b h a = All-cons (λ l. IsFalse boxes l) (y, s) [] h a
with_each boxes y s (l ∷ ls) b h a =
    let head = a 0 l (omega arith) in
    let tail : All (λ l. IsFalse boxes l) ls = λ k d lt. a (suc k) d (omega arith) in
    (elim (l.0 == y) as (λ t. (l.0 == y) ≡ t → All (λ l. IsFalse boxes l) (cond t ((l.0, join l.1 s) ∷ ls) (l ∷ with_set y s ls))) [
      | true ↦ λ e. let same : y ≡ l.0 = grind (arith, nat_tests) in
          All-cons (λ l. IsFalse boxes l) (l.0, join l.1 s) ls (join_false boxes l s b head (subst (λ (z : ℕ). IsFalse boxes (z, s)) same h)) tail
      | false ↦ λ e. All-cons (λ l. IsFalse boxes l) l (with_set y s ls) head (with_each boxes y s ls b h tail)
    ]) refl

-- ---- the variables

with_vars : (y z : ℕ) (s : Ranges) (ls : Literals) → has_number z (clause_vars (with_set y s ls)) ≡ (has_number z (clause_vars ls) || y == z)
with_vars y z s [] = grind arith
with_vars y z s (l ∷ ls) =
    let more = with_vars y z s ls in
    (elim (l.0 == y) as (λ t. (l.0 == y) ≡ t → has_number z (clause_vars (cond t ((l.0, join l.1 s) ∷ ls) (l ∷ with_set y s ls))) ≡ (has_number z (clause_vars (l ∷ ls)) || y == z)) [
      | true ↦ λ e. let same : l.0 ≡ y = grind (arith, nat_tests) in
          subst (λ (q : ℕ). has_number z (clause_vars ((l.0, join l.1 s) ∷ ls)) ≡ (has_number z (clause_vars (l ∷ ls)) || q == z)) same (grind arith)
      | false ↦ λ e. grind arith
    ]) refl

with_differ : (y : ℕ) (s : Ranges) (ls : Literals) → no_repeat (clause_vars ls) ≡ true → no_repeat (clause_vars (with_set y s ls)) ≡ true
with_differ y s [] h = refl
with_differ y s (l ∷ ls) h =
    let parts = and_parts (not (has_number l.0 (clause_vars ls))) (no_repeat (clause_vars ls)) h in
    let more = with_differ y s ls parts.1 in
    let is = with_vars y l.0 s ls in
    (elim (l.0 == y) as (λ t. (l.0 == y) ≡ t → no_repeat (clause_vars (cond t ((l.0, join l.1 s) ∷ ls) (l ∷ with_set y s ls))) ≡ true) [
      | true ↦ λ e. h
      | false ↦ λ e. let turned : (y == l.0) ≡ false = grind (arith, nat_tests) in grind arith
    ]) refl

-- ---- what they say

only : (b : Bool) (s : Ranges) (v : ℤ) → has (cond b s []) v ≡ (b && has s v)
only true s v = refl
only false s v = refl

with_says : (boxes : Boxes) (y z : ℕ) (s : Ranges) (v : ℤ) (ls : Literals) → IsValid s → All (λ l. IsFalse boxes l) ls → has (set_of (with_set y s ls) z) v ≡ (has (set_of ls z) v || ((y == z) && has s v))
with_says boxes y z s v [] f a = only (y == z) s v
with_says boxes y z s v (l ∷ ls) f a =
    let head = a 0 l (omega arith) in
    let more = with_says boxes y z s v ls f (λ k d lt. a (suc k) d (omega arith)) in
    let joined = has-join_valid l.1 s head.valid f v in
    (elim (l.0 == y) as (λ t. (l.0 == y) ≡ t → has (set_of (cond t ((l.0, join l.1 s) ∷ ls) (l ∷ with_set y s ls)) z) v ≡ (has (set_of (l ∷ ls) z) v || ((y == z) && has s v))) [
      | true ↦ λ e. let same : y ≡ l.0 = grind (arith, nat_tests) in
          (elim (l.0 == z) as (λ t. (l.0 == z) ≡ t → has (cond t (join l.1 s) (set_of ls z)) v ≡ (has (cond t l.1 (set_of ls z)) v || ((y == z) && has s v))) [
            | true ↦ λ d. let there : (y == z) ≡ true = grind (arith, nat_tests) in grind arith
            | false ↦ λ d. let other : (y == z) ≡ false = grind (arith, nat_tests) in grind arith
          ]) refl
      | false ↦ λ e.
          (elim (l.0 == z) as (λ t. (l.0 == z) ≡ t → has (cond t l.1 (set_of (with_set y s ls) z)) v ≡ (has (cond t l.1 (set_of ls z)) v || ((y == z) && has s v))) [
            | true ↦ λ d. let other : (y == z) ≡ false = grind (arith, nat_tests) in grind arith
            | false ↦ λ d. more
          ]) refl
    ]) refl

-- ---- one more set

-- the set may be said of the variable
pub record MaySay (boxes : Boxes) (y : ℕ) (s : Ranges) : Type 0 where
  pub named : y < length boxes
  pub valid : IsValid s
  pub disjoint : is_disjoint s (box_of boxes y) ≡ true

pub said_collected : (boxes : Boxes) (y : ℕ) (s : Ranges) (ls : Literals) → AreSets boxes → MaySay boxes y s → AreCollected boxes ls → AreCollected boxes (said y s ls)
said_collected boxes y s ls b m h =
    (elim (is_nil s) as (λ t. is_nil s ≡ t → AreCollected boxes (cond t ls (with_set y s ls))) [
      | true ↦ λ e. h
      | false ↦ λ e. record {
        each = with_each boxes y s ls b (record { named = m.named; some = e; valid = m.valid; disjoint = m.disjoint }) h.each;
        differ = with_differ y s ls h.differ;
      }
    ]) refl

nil_none : (s : Ranges) (v : ℤ) → is_nil s ≡ true → has s v ≡ false
nil_none [] v h = refl
nil_none (r ∷ s) v h = absurd cc

pub said_says : (boxes : Boxes) (y z : ℕ) (s : Ranges) (v : ℤ) (ls : Literals) → IsValid s → AreCollected boxes ls → has (set_of (said y s ls) z) v ≡ (has (set_of ls z) v || ((y == z) && has s v))
said_says boxes y z s v ls f h =
    (elim (is_nil s) as (λ t. is_nil s ≡ t → has (set_of (cond t ls (with_set y s ls)) z) v ≡ (has (set_of ls z) v || ((y == z) && has s v))) [
      | true ↦ λ e. let none = nil_none s v e in grind arith
      | false ↦ λ e. with_says boxes y z s v ls f h.each
    ]) refl

pub said_more : (boxes : Boxes) (y : ℕ) (s : Ranges) (ls : Literals) → IsValid s → AreCollected boxes ls → SaysMore ls (said y s ls)
said_more boxes y s ls f h z v k = let e = said_says boxes y z s v ls f h in grind arith

pub said_here : (boxes : Boxes) (y : ℕ) (s : Ranges) (v : ℤ) (ls : Literals) → IsValid s → AreCollected boxes ls → has s v ≡ true → has (set_of (said y s ls) y) v ≡ true
said_here boxes y s v ls f h k = let e = said_says boxes y y s v ls f h in let same : (y == y) ≡ true = grind (arith, nat_tests) in grind arith

pub collected_sets : (boxes : Boxes) (ls : Literals) → AreCollected boxes ls → (y : ℕ) → IsValid (set_of ls y)
collected_sets boxes ls h y = set_valid y ls (λ k d lt. (h.each k d lt).valid)

pub collected_none : (boxes : Boxes) → AreCollected boxes []
collected_none boxes = record { each = λ k d lt. absurd (omega arith); differ = refl }

-- ---- values above and below a number

cut_above : (one : Bool) (h v : ℤ) → (one ≡ true → negsuc 9223372036854775807 ≤ℤ v) → (one && not (has ((negsuc 9223372036854775807, h) ∷ []) v)) ≡ (one && int_lt h v)
cut_above true h v f = let low = f refl in grind (arith, ints)
cut_above false h v f = refl

cut_below : (one : Bool) (h v : ℤ) → (one ≡ true → v ≤ℤ pos 9223372036854775807) → (one && not (has ((h, pos 9223372036854775807) ∷ []) v)) ≡ (one && int_lt v h)
cut_below true h v f = let high = f refl in grind (arith, ints)
cut_below false h v f = refl

pub above_is : (a r s : Ranges) (h : ℤ) → IsValid a → r ≡ (negsuc 9223372036854775807, h) ∷ [] → ((v : ℤ) → has s v ≡ (has a v && not (has r v))) → (v : ℤ) → has s v ≡ (has a v && int_lt h v)
above_is a r s h f e w v = w v ∙ ap (λ (z : Ranges). has a v && not (has z v)) e ∙ cut_above (has a v) h v (λ q. low_within _ _ a v f q)

pub below_is : (a r s : Ranges) (h : ℤ) → IsValid a → r ≡ (h, pos 9223372036854775807) ∷ [] → ((v : ℤ) → has s v ≡ (has a v && not (has r v))) → (v : ℤ) → has s v ≡ (has a v && int_lt v h)
below_is a r s h f e w v = w v ∙ ap (λ (z : Ranges). has a v && not (has z v)) e ∙ cut_below (has a v) h v (λ q. top_within _ _ a v f q)

-- ---- looking for the variable

none_suc : (y : ℕ) (ls : Literals) (k : ℕ) (d : Literal) → has_number y (clause_vars (take k ls)) ≡ false → k < length ls → ((get_or ls k d).0 == y) ≡ false → has_number y (clause_vars (take (suc k) ls)) ≡ false
none_suc y [] k d h lt n = absurd (omega arith)
none_suc y (l ∷ ls) zero d h lt n = grind arith
none_suc y (l ∷ ls) (suc k) d h lt n =
    let here : (l.0 == y) ≡ false = grind arith in
    let more = none_suc y ls k d (grind arith) (omega arith) n in grind arith

pub none_next : (y : ℕ) (ls : Literals) (k : ℕ) (d : Literal) → has_number y (clause_vars (take k ls)) ≡ false → k < length ls → ((get_or ls k d).0 == y) ≡ false → has_number y (clause_vars (take (k + 1) ls)) ≡ false
none_next y ls k d h lt n =
    let e : suc k ≡ k + 1 = omega arith in subst (λ (m : ℕ). has_number y (clause_vars (take m ls)) ≡ false) e (none_suc y ls k d h lt n)

pub found_at : (y : ℕ) (s : Ranges) (ls : Literals) (k : ℕ) (d : Literal) → has_number y (clause_vars (take k ls)) ≡ false → k < length ls → ((get_or ls k d).0 == y) ≡ true →
    slice_set ls k ((get_or ls k d).0, join (get_or ls k d).1 s) ≡ with_set y s ls
found_at y s [] k d h lt e = absurd (omega arith)
found_at y s (l ∷ ls) zero d h lt e = rw e refl
found_at y s (l ∷ ls) (suc k) d h lt e =
    let here : (l.0 == y) ≡ false = grind arith in
    rw here (ap (λ (z : Literals). l ∷ z) (found_at y s ls k d (grind arith) (omega arith) e))

pub found_none : (y : ℕ) (s : Ranges) (ls : Literals) (k : ℕ) → has_number y (clause_vars (take k ls)) ≡ false → length ls ≤ k → ls ++ (y, s) ∷ [] ≡ with_set y s ls
found_none y s [] k h lt = refl
found_none y s (l ∷ ls) zero h lt = absurd (omega arith)
found_none y s (l ∷ ls) (suc k) h lt =
    let here : (l.0 == y) ≡ false = grind arith in
    rw here (ap (λ (z : Literals). l ∷ z) (found_none y s ls k (grind arith) (omega arith)))

pub any_default : {X : Type 0} (xs : List X) (k : ℕ) (d e : X) → k < length xs → get_or xs k d ≡ get_or xs k e
any_default [] k d e lt = absurd (omega arith)
any_default (x ∷ xs) zero d e lt = refl
any_default (x ∷ xs) (suc k) d e lt = any_default xs k d e (omega arith)

pub found_is : (y : ℕ) (s joined : Ranges) (ls old : Literals) (k : ℕ) (one two three : Literal) → has_number y (clause_vars (take k ls)) ≡ false → k < length ls → ls ≡ old →
    one ≡ get_or ls k one → one.0 ≡ y → two ≡ get_or ls k two → joined ≡ join two.1 s → three ≡ get_or ls k three → slice_set ls k (three.0, joined) ≡ with_set y s old
found_is y s joined ls old k one two three h lt e a v b j c =
    let two_is : two ≡ get_or ls k one = b ∙ any_default ls k two one lt in
    let three_is : three ≡ get_or ls k one = c ∙ any_default ls k three one lt in
    let var : ((get_or ls k one).0 == y) ≡ true = let q = ap (λ (l : Literal). l.0) (sym a) ∙ v in grind (arith, nat_tests) in
    ap (λ (r : Ranges). slice_set ls k (three.0, r)) (j ∙ ap (λ (l : Literal). join l.1 s) two_is)
    ∙ ap (λ (l : Literal). slice_set ls k (l.0, join (get_or ls k one).1 s)) three_is
    ∙ found_at y s ls k one h lt var ∙ ap (λ (z : Literals). with_set y s z) e

pub none_is : (y : ℕ) (ls : Literals) (k : ℕ) (one : Literal) → has_number y (clause_vars (take k ls)) ≡ false → k < length ls → one ≡ get_or ls k one → (one.0 ≡ y → ⊥) → has_number y (clause_vars (take (k + 1) ls)) ≡ false
none_is y ls k one h lt a n =
    none_next y ls k one h lt (false_from_ne_true ((get_or ls k one).0 == y) (λ q. let e : (get_or ls k one).0 ≡ y = grind (arith, nat_tests) in n (ap (λ (l : Literal). l.0) a ∙ e)))
