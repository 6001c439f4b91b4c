-- What is left of a domain where a literal is false, and which literals of that form a box meets.
use Rattle.std.proofs.Common.{◌≡◌, Bool, true, false, not, ◌&&◌, [], ◌∷◌, ℤ, pos, negsuc, ◌+ℤ◌, ◌≤ℤ◌, refl, arith, sym, subst, ◌∙◌}
use Rattle.std.proofs.lemmas.Int.{ints}
use Rattle.std.proofs.lemmas.Bool.{and_parts, false_from_ne_true}
use Rattle.signed_clause.specs.Ranges.{Ranges, has, IsValid, Ascends}
use Rattle.signed_clause.specs.SetAlgebra.{is_disjoint, is_within, less}
use Rattle.signed_clause.proofs.RangeLaws.{Ascends-ends}
use Rattle.signed_clause.proofs.RangeSteps.{has-less_valid, IsValid-less}
use Rattle.signed_clause.proofs.SetFacts.{disjoint_law, within_law, same_law}

-- what a set lacks of what another lacks
both_less : (d l : Ranges) (v : ℤ) → IsValid d → IsValid l → has (less d (less d l)) v ≡ (has d v && has l v)
both_less d l v f g =
    let outer = has-less_valid d (less d l) f (IsValid-less d l f g) v in
    let inner = has-less_valid d l f g v in grind arith

within_has : (a b : Ranges) (v : ℤ) → IsValid a → IsValid b → is_within a b ≡ true → has a v ≡ true → has b v ≡ true
within_has a b v f g h k = (within_law a b f g).0 h v k

left_value : (d l : Bool) → (l ≡ true → d ≡ true) → (d && l) ≡ l
left_value true l h = refl
left_value false true h = h refl
left_value false false h = refl

-- where the literal is false, what was planned is left
pub left_is : (d l : Ranges) → IsValid d → IsValid l → is_within l d ≡ true → less d (less d l) ≡ l
left_is d l f g h =
    (same_law (less d (less d l)) l (IsValid-less d (less d l) f (IsValid-less d l f g)) g).1
    (λ v. both_less d l v f g ∙ left_value (has d v) (has l v) (within_has l d v g f h))

-- a literal misses a box of which all is left
pub left_disjoint : (d l b : Ranges) → IsValid d → IsValid l → IsValid b → is_within b l ≡ true → is_disjoint (less d l) b ≡ true
left_disjoint d l b f g i h =
    (disjoint_law (less d l) b (IsValid-less d l f g) i).1
    (λ v k. false_from_ne_true (has b v) (λ q. let in_l = within_has b l v i g h q in let e = has-less_valid d l f g v in grind arith))

-- and doesn't hold a box of which a value is left
pub left_open : (d l b : Ranges) (v : ℤ) → IsValid d → IsValid l → IsValid b → has b v ≡ true → has l v ≡ true → is_within b (less d l) ≡ false
left_open d l b v f g i h k =
    false_from_ne_true (is_within b (less d l)) (λ q. let yes = within_has b (less d l) v i (IsValid-less d l f g) q h in let e = has-less_valid d l f g v in grind arith)

-- where a box isn't inside a set, and what isn't left of the domain is in the set
pub left_over : (d l b s : Ranges) → IsValid d → IsValid l → IsValid b → IsValid s → ((v : ℤ) → has (less d l) v ≡ true → has s v ≡ true) → is_within b s ≡ false → is_within b (less d l) ≡ false
left_over d l b s f g i j h k =
    false_from_ne_true (is_within b (less d l)) (λ q.
    let all : is_within b s ≡ true = (within_law b s i j).1 (λ v m. h v (within_has b (less d l) v i (IsValid-less d l f g) q m)) in grind arith)

-- ---- what is planned lies within

pub less_within : (d s : Ranges) → IsValid d → IsValid s → is_within (less d s) d ≡ true
less_within d s f g =
    (within_law (less d s) d (IsValid-less d s f g) f).1 (λ v h. (and_parts (has d v) (not (has s v)) (sym (has-less_valid d s f g v) ∙ h)).0)

-- a box that misses a set lies within what a domain has outside it
pub missing_within : (b d s : Ranges) → IsValid b → IsValid d → IsValid s → is_within b d ≡ true → is_disjoint b s ≡ true → is_within b (less d s) ≡ true
missing_within b d s i f g h k =
    (within_law b (less d s) i (IsValid-less d s f g)).1
    (λ v m. let in_d = within_has b d v i f h m in let out = (disjoint_law b s i g).0 k v m in let e = has-less_valid d s f g v in rw (e, in_d, out) refl)

-- and one within a set lies within what is left of the domain where the rest is taken away
pub within_within : (b d s : Ranges) → IsValid b → IsValid d → IsValid s → is_within b d ≡ true → is_within b s ≡ true → is_within b (less d (less d s)) ≡ true
within_within b d s i f g h k =
    (within_law b (less d (less d s)) i (IsValid-less d (less d s) f (IsValid-less d s f g))).1
    (λ v m. let in_d = within_has b d v i f h m in let in_s = within_has b s v i g k m in let e = both_less d s v f g in rw (e, in_d, in_s) refl)

gone : (d s : Bool) → s ≡ true → (d && not s) ≡ false
gone d s h = grind arith

pub less_disjoint : (d s : Ranges) → IsValid d → IsValid s → is_disjoint (less d s) s ≡ true
less_disjoint d s f g =
    (disjoint_law (less d s) s (IsValid-less d s f g) g).1 (λ v h. false_from_ne_true (has s v) (λ q. let e = has-less_valid d s f g v in grind arith))

-- the same the other way round
pub disjoint_rest : (d s : Ranges) → IsValid d → IsValid s → is_disjoint s (less d s) ≡ true
disjoint_rest d s f g =
    (disjoint_law s (less d s) g (IsValid-less d s f g)).1 (λ v h. has-less_valid d s f g v ∙ gone (has d v) (has s v) h)

pub twice_within : (d s : Ranges) → IsValid d → IsValid s → is_within (less d (less d s)) s ≡ true
twice_within d s f g =
    (within_law (less d (less d s)) s (IsValid-less d (less d s) f (IsValid-less d s f g)) g).1 (λ v h. (and_parts (has d v) (has s v) (sym (both_less d s v f g) ∙ h)).1)

-- ---- one value

pub one_valid : (d : Ranges) (v : ℤ) → IsValid d → negsuc 9223372036854775807 ≤ℤ v → v ≤ℤ pos 9223372036854775807 → IsValid ((v, v) ∷ [])
one_valid d v f h k = (h, omega (arith, ints), omega (arith, ints))

one_value : (v w : ℤ) → has ((v, v) ∷ []) w ≡ true → w ≡ v
one_value v w h = grind (arith, ints)

pub has_one : (v : ℤ) → has ((v, v) ∷ []) v ≡ true
has_one v = grind (arith, ints)

pub one_within : (d : Ranges) (v : ℤ) → IsValid d → IsValid ((v, v) ∷ []) → has d v ≡ true → is_within ((v, v) ∷ []) d ≡ true
one_within d v f g h = (within_law ((v, v) ∷ []) d g f).1 (λ w k. subst (λ (z : ℤ). has d z ≡ true) (sym (one_value v w k)) h)

low_within : (low top : ℤ) (rs : Ranges) (v : ℤ) → Ascends low top rs → has rs v ≡ true → low ≤ℤ v
low_within low top [] v s h = absurd (grind arith)
low_within low top (r ∷ rs) v s h =
    let more : has rs v ≡ true → (r.1 +ℤ pos 2) ≤ℤ v = low_within (r.1 +ℤ pos 2) top rs v s.2 in grind (arith, ints)

top_within : (low top : ℤ) (rs : Ranges) (v : ℤ) → Ascends low top rs → has rs v ≡ true → v ≤ℤ top
top_within low top [] v s h = absurd (grind arith)
top_within low top (r ∷ rs) v s h =
    let more : has rs v ≡ true → v ≤ℤ top = top_within (r.1 +ℤ pos 2) top rs v s.2 in
    let ends = Ascends-ends (r.1 +ℤ pos 2) top rs s.2 in grind (arith, ints)

-- a value of a set, alone, is a set
pub value_valid : (s : Ranges) (v : ℤ) → IsValid s → has s v ≡ true → IsValid ((v, v) ∷ [])
value_valid s v f h = one_valid [] v (omega (arith, ints)) (low_within _ _ s v f h) (top_within _ _ s v f h)
