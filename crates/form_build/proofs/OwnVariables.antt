-- Variables that sums are.
use Rattle.std.proofs.Common.{◌≡◌, ℕ, ◌<◌, List, [], ◌∷◌, ℤ, pos, ◌+ℤ◌, length, ap, ◌∙◌, subst, arith}
use Rattle.std.proofs.lemmas.Int.{ints}
use Rattle.signed_clause.specs.Clauses.{Boxes, box_of}
use Rattle.ground_form.specs.declared.con.Con.TheVariants.{LinDef}
use Rattle.ground_form.specs.declared.ground.Ground.{Ground}
use Rattle.ground_form.specs.Meaning.{value_of, sum_at}
use Rattle.ground_form.specs.Bounds.{low_of, high_of, least_sum, greatest_sum, LiesWithin}
use Rattle.ground_build.specs.Growing.{IsDefined, Means}
use Rattle.ground_build.specs.NewDomains.{linear_domain}
use Rattle.form_build.specs.declared.form.Linear.{Linear}
use Rattle.form_build.specs.Forms.{linear_at}
use Rattle.form_build.specs.Worlds.{IsWorld}
use Rattle.form_build.specs.Sums.{IsOpen, AreTerms, least_linear, greatest_linear, IsVariable}
use Rattle.form_build.proofs.Singles.{one_least, one_greatest}
use Rattle.form_build.proofs.Fitting.{box_made, there_made}

-- what is said of a sum that is a variable
variable_terms : (x : ℕ) (f : Linear) (boxes : Boxes) → IsVariable x f → AreTerms boxes 0 f.terms → AreTerms boxes 0 ((pos 1, x) ∷ [])
variable_terms x f boxes is h = subst (λ (z : List (ℤ × ℕ)). AreTerms boxes 0 z) is.terms h

pub variable_there : (x : ℕ) (f : Linear) (boxes : Boxes) → IsVariable x f → AreTerms boxes 0 f.terms → x < length boxes
variable_there x f boxes is h = (variable_terms x f boxes is h).1

pub variable_box : (x : ℕ) (f : Linear) (boxes : Boxes) → IsVariable x f → AreTerms boxes 0 f.terms → LiesWithin (least_linear f boxes) (greatest_linear f boxes) (box_of boxes x)
variable_box x f boxes is h =
    let wide : IsOpen (box_of boxes x) = (variable_terms x f boxes is h).3 in
    let least = ap (λ (z : List (ℤ × ℕ)). least_sum z boxes) is.terms in
    let greatest = ap (λ (z : List (ℤ × ℕ)). greatest_sum z boxes) is.terms in
    let low = one_least x boxes (omega (arith, ints, wide)) in
    let high = one_greatest x boxes (omega (arith, ints, wide)) in
    (omega (arith, ints, least, low, is.offset), omega (arith, ints, greatest, high, is.offset))
