-- Parts over a problem that grows, and what an interval of the first body says of them.
use Rattle.std.proofs.Common.{◌≡◌, ℕ, ◌<◌, ◌≤◌, ◌^◌, [], ◌∷◌, List, length, get_or, sym, subst, arith}
use Rattle.std.specs.List.{All}
use Rattle.std.proofs.lemmas.List.Elements.{All-weaker}
use Rattle.signed_clause.specs.Clauses.{Literals}
use Rattle.ground_form.specs.declared.ground.Ground.{Ground}
use Rattle.form_build.specs.declared.form.Truth.{Truth}
use Rattle.form_build.specs.declared.form.Truth.TheVariants as truth
use Rattle.form_build.specs.Forms.{HasVariable}
use Rattle.form_build.specs.Sums.{IsLinear}
use Rattle.form_build.specs.Worlds.{Grows}
use Rattle.form_build.proofs.Growth.{no_less}
use Rattle.form_build.proofs.Keeping.{linear_kept, sum_kept}
use Rattle.form_truths.specs.Disjunctions.{IsWithin}
use Rattle.conf_limits.specs.declared.interval.Interval.{Interval}
use Rattle.expr_forms.specs.declared.form.Form.{Form}
use Rattle.expr_forms.specs.FormValues.{number_part, truth_part}
use Rattle.quantifier_forms.specs.declared.part.Part.{Part}
use Rattle.quantifier_forms.specs.PartValues.{first_number}
use Rattle.quantifier_forms.specs.Quantified.{HasTruths, IsOnlyBody, IsPart}

pub variable_more : (m n : ℕ) (t : Truth) → m ≤ n → HasVariable m t → HasVariable n t
variable_more m n (truth.Fixed b) le h = tt
variable_more m n (truth.In x s) le h = omega (arith, le, h)

pub bodies_more : (m n : ℕ) (fs : List Form) → m ≤ n → All (λ f. HasVariable m (truth_part f)) fs → All (λ f. HasVariable n (truth_part f)) fs
bodies_more m n fs le h = All-weaker (λ f. HasVariable m (truth_part f)) (λ f. HasVariable n (truth_part f)) (λ f v. variable_more m n (truth_part f) le v) fs h

pub truths_more : (m n : ℕ) (p : Part) → m ≤ n → HasTruths m p → HasTruths n p
truths_more m n p le h = record { kept = variable_more m n p.kept le h.kept; bodies = bodies_more m n p.bodies.items le h.bodies }

module _ (old new : Ground) (g : Grows old new) where
  pub variable_kept : (t : Truth) → HasVariable (length old.domains) t → HasVariable (length new.domains) t
  variable_kept t h = variable_more (length old.domains) (length new.domains) t (no_less old new g) h

  pub bodies_kept : (fs : List Form) → All (λ f. HasVariable (length old.domains) (truth_part f)) fs → All (λ f. HasVariable (length new.domains) (truth_part f)) fs
  bodies_kept fs h = bodies_more (length old.domains) (length new.domains) fs (no_less old new g) h

  pub truths_kept : (p : Part) → HasTruths (length old.domains) p → HasTruths (length new.domains) p
  truths_kept p h = truths_more (length old.domains) (length new.domains) p (no_less old new g) h

  pub literals_kept : (ls : Literals) → IsWithin (length old.domains) ls → IsWithin (length new.domains) ls
  literals_kept ls h k d lt = let more = no_less old new g in let there = h k d lt in omega (arith, more, there)

  pub part_kept : (first : Interval) (p : Part) → IsPart old.domains first p → IsPart new.domains first p
  part_kept first p h = record {
    truths = truths_kept p h.truths;
    numbers = All-weaker (λ f. IsLinear (2 ^ 58) old.domains (number_part f)) (λ f. IsLinear (2 ^ 58) new.domains (number_part f)) (λ f l. linear_kept (2 ^ 58) old new (number_part f) g l) p.bodies.items h.numbers;
    first_is = sum_kept first.low first.high old new (first_number p.bodies.items) g h.first_is;
  }

  pub parts_kept : (first : Interval) (ps : List Part) → All (IsPart old.domains first) ps → All (IsPart new.domains first) ps
  parts_kept first ps h = All-weaker (IsPart old.domains first) (IsPart new.domains first) (λ p k. part_kept first p k) ps h

-- the one body of a part has a variable where the part's bodies have
pub only_variable : (n : ℕ) (f : Form) (p : Part) → IsOnlyBody f p → HasTruths n p → HasVariable n (truth_part f)
only_variable n f p h t = by (subst (All (λ o. HasVariable n (truth_part o))) h.body t.bodies)
  where
    by : All (λ o. HasVariable n (truth_part o)) (f ∷ []) → HasVariable n (truth_part f)
    by all = all 0 f (omega arith)

-- what holds of all parts holds of the one at an index
pub part_at : (P : Part → Type 0) (ps : List Part) (k : ℕ) (p : Part) → All P ps → k < length ps → p ≡ get_or ps k p → P p
part_at P ps k p h lt e = subst P (sym e) (h k p lt)
