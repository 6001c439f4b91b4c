-- Whether a constraint is quiet depends on the boxes of its variables alone.
use Rattle.std.proofs.Common.{◌≡◌, ℕ, suc, ◌<◌, List, [], ◌∷◌, ℤ, All, length, refl, sym, ap, ◌∙◌, arith, inl, inr, subst}
use Rattle.std.proofs.lemmas.Bool.{cases_eq}
use Rattle.signed_clause.specs.Ranges.{Ranges}
use Rattle.signed_clause.specs.Clauses.{Boxes, box_of}
use Rattle.ground_form.specs.declared.con.Con.{Con}
use Rattle.ground_form.specs.Meaning.{vars_of}
use Rattle.box_rules.specs.Named.{Agree}
use Rattle.box_view.specs.Views.{fixing}
use Rattle.box_rules.specs.Quiet.{probed, none_refutes, quiet_at, quiet}
use Rattle.box_view.proofs.SetLaws.{fixing_same, fixing_other}
use Rattle.box_rules.proofs.Agreeing.{agree_refuted}

agree_fixed_box : (x y : ℕ) (v : ℤ) (a b : Boxes) → x < length a → x < length b → box_of a y ≡ box_of b y → box_of (fixing a x v) y ≡ box_of (fixing b x v) y
agree_fixed_box x y v a b h k e =
    elim (cases_eq y x) [
      | inl same ↦ subst (λ (z : ℕ). box_of (fixing a x v) z ≡ box_of (fixing b x v) z) (sym same) (fixing_same a x v h ∙ sym (fixing_same b x v k))
      | inr other ↦ fixing_other a x y v other ∙ e ∙ sym (fixing_other b x y v other)
    ]

agree_fixing : (x : ℕ) (v : ℤ) (xs : List ℕ) (a b : Boxes) → x < length a → x < length b → Agree a b xs → Agree (fixing a x v) (fixing b x v) xs
agree_fixing x v [] a b h k l = tt
agree_fixing x v (y ∷ ys) a b h k l = (agree_fixed_box x y v a b h k l.0, agree_fixing x v ys a b h k l.1)

agree_none : (con : Con) (a b : Boxes) (x : ℕ) (vs : List ℤ) → x < length a → x < length b → Agree a b (vars_of con) → none_refutes con a x vs ≡ none_refutes con b x vs
agree_none con a b x [] h k l = refl
agree_none con a b x (v ∷ vs) h k l =
    let one = agree_refuted con (fixing a x v) (fixing b x v) (agree_fixing x v (vars_of con) a b h k l) in
    let more = agree_none con a b x vs h k l in rw (one, more) refl

agree_quiet_at : (con : Con) (a b : Boxes) (xs : List ℕ) → All (λ x. x < length a) xs → All (λ x. x < length b) xs → Agree a b (vars_of con) → Agree a b xs → quiet_at con a xs ≡ quiet_at con b xs
agree_quiet_at con a b [] h k l m = refl
agree_quiet_at con a b (x ∷ xs) h k l m =
    let one = agree_none con a b x (probed (box_of a x)) (h 0 0 (omega arith)) (k 0 0 (omega arith)) l in
    let box : none_refutes con b x (probed (box_of a x)) ≡ none_refutes con b x (probed (box_of b x)) = ap (λ (s : Ranges). none_refutes con b x (probed s)) m.0 in
    let more = agree_quiet_at con a b xs (λ j d lt. h (suc j) d (omega arith)) (λ j d lt. k (suc j) d (omega arith)) l m.1 in
    rw (one, box, more) refl

pub agree_quiet : (con : Con) (a b : Boxes) → All (λ x. x < length a) (vars_of con) → All (λ x. x < length b) (vars_of con) → Agree a b (vars_of con) → quiet con a ≡ quiet con b
unfolding quiet
agree_quiet con a b h k l =
    let one = agree_refuted con a b l in
    let more = agree_quiet_at con a b (vars_of con) h k l l in rw (one, more) refl
