-- What the tests of sets say of one another, and of one value; and boxes of which one is replaced.
use Rattle.std.proofs.Common.{◌≡◌, ℕ, suc, zero, ◌<◌, Bool, true, false, not, [], ◌∷◌, ℤ, length, arith, SFits, w64, refl, subst, sym}
use Rattle.std.proofs.lemmas.Int.{ints}
use Rattle.signed_clause.specs.Clauses.{Boxes, box_of}
use Rattle.box_view.specs.Views.{fixing}
use Rattle.signed_clause.specs.Ranges.{Ranges, has, IsValid}
use Rattle.signed_clause.specs.SetAlgebra.{is_disjoint, is_within}
use Rattle.signed_clause.proofs.SetFacts.{disjoint_law, within_law}
use Rattle.std.proofs.lemmas.Bool.{false_from_ne_true}

pub bool_same : (a b : Bool) → (a ≡ true → b ≡ true) → (b ≡ true → a ≡ true) → a ≡ b
bool_same a b h k = grind arith

only_value : (v w : ℤ) → has ((v, v) ∷ []) w ≡ true → w ≡ v
only_value v w h = grind (arith, ints)

has_only : (v : ℤ) → has ((v, v) ∷ []) v ≡ true
has_only v = grind (arith, ints)

-- one value misses a set where the set lacks it
pub is_disjoint-single : (v : ℤ) (set : Ranges) → IsValid ((v, v) ∷ []) → IsValid set → is_disjoint ((v, v) ∷ []) set ≡ not (has set v)
is_disjoint-single v set s t =
    let law = disjoint_law ((v, v) ∷ []) set s t in
    bool_same (is_disjoint ((v, v) ∷ []) set) (not (has set v))
    (λ h. let n = law.0 h v (has_only v) in rw n refl)
    (λ h. law.1 (λ w k. let e = only_value v w k in subst (λ (z : ℤ). has set z ≡ false) (sym e) (grind arith)))

pub single-is_disjoint : (v : ℤ) (set : Ranges) → IsValid ((v, v) ∷ []) → IsValid set → is_disjoint set ((v, v) ∷ []) ≡ not (has set v)
single-is_disjoint v set s t =
    let law = disjoint_law set ((v, v) ∷ []) t s in
    bool_same (is_disjoint set ((v, v) ∷ [])) (not (has set v))
    (λ h. let n : has set v ≡ true → ⊥ = λ k. let m = law.0 h v k in let o = has_only v in grind arith in grind arith)
    (λ h. law.1 (λ w k. false_from_ne_true (has ((v, v) ∷ []) w) (λ q. let e = only_value v w q in let n : has set v ≡ true = subst (λ (z : ℤ). has set z ≡ true) e k in grind arith)))

pub is_within-single : (v : ℤ) (set : Ranges) → IsValid ((v, v) ∷ []) → IsValid set → is_within ((v, v) ∷ []) set ≡ has set v
is_within-single v set s t =
    let law = within_law ((v, v) ∷ []) set s t in
    bool_same (is_within ((v, v) ∷ []) set) (has set v)
    (λ h. law.0 h v (has_only v))
    (λ h. law.1 (λ w k. let e = only_value v w k in subst (λ (z : ℤ). has set z ≡ true) (sym e) h))

disjoint_turned : (a b : Ranges) → IsValid a → IsValid b → is_disjoint a b ≡ true → is_disjoint b a ≡ true
disjoint_turned a b s t h =
    let law = (disjoint_law a b s t).0 h in
    (disjoint_law b a t s).1 (λ v k. false_from_ne_true (has a v) (λ q. let n = law v q in grind arith))

pub disjoint_sym : (a b : Ranges) → IsValid a → IsValid b → is_disjoint a b ≡ is_disjoint b a
disjoint_sym a b s t = bool_same (is_disjoint a b) (is_disjoint b a) (disjoint_turned a b s t) (disjoint_turned b a t s)

-- one value is a set
pub valid_alone : (v : ℤ) → SFits w64 v → IsValid ((v, v) ∷ [])
valid_alone v f = let h = f.sfits in grind (arith, ints)

pub alone_disjoint : (v : ℤ) (set : Ranges) → SFits w64 v → IsValid set → is_disjoint ((v, v) ∷ []) set ≡ not (has set v)
alone_disjoint v set f s = is_disjoint-single v set (valid_alone v f) s

pub disjoint_alone : (v : ℤ) (set : Ranges) → SFits w64 v → IsValid set → is_disjoint set ((v, v) ∷ []) ≡ not (has set v)
disjoint_alone v set f s = single-is_disjoint v set (valid_alone v f) s

pub alone_within : (v : ℤ) (set : Ranges) → SFits w64 v → IsValid set → is_within ((v, v) ∷ []) set ≡ has set v
alone_within v set f s = is_within-single v set (valid_alone v f) s

-- ---- boxes of which one is replaced

pub fixing_same : (boxes : Boxes) (x : ℕ) (v : ℤ) → x < length boxes → box_of (fixing boxes x v) x ≡ (v, v) ∷ []
fixing_same [] x v h = absurd (omega arith)
fixing_same (b ∷ boxes) zero v h = refl
fixing_same (b ∷ boxes) (suc x) v h = fixing_same boxes x v (omega arith)

pub fixing_other : (boxes : Boxes) (x y : ℕ) (v : ℤ) → (y ≡ x → ⊥) → box_of (fixing boxes x v) y ≡ box_of boxes y
fixing_other [] x y v n = refl
fixing_other (b ∷ boxes) zero zero v n = absurd (n refl)
fixing_other (b ∷ boxes) zero (suc y) v n = refl
fixing_other (b ∷ boxes) (suc x) zero v n = refl
fixing_other (b ∷ boxes) (suc x) (suc y) v n = fixing_other boxes x y v (λ e. n (omega arith))

pub fixing_length : (boxes : Boxes) (x : ℕ) (v : ℤ) → length (fixing boxes x v) ≡ length boxes
fixing_length [] x v = refl
fixing_length (b ∷ boxes) zero v = refl
fixing_length (b ∷ boxes) (suc x) v = let more = fixing_length boxes x v in omega arith
