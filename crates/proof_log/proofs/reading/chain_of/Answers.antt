use Rattle.std.proofs.Common.{◌∷◌, ◌++◌, ℕ, List, map, refl, sym, ap, ◌∙◌, subst}
use Rattle.std.specs.List.{AllByRecursion}
use Rattle.proof_log.specs.Spelling.{behind, step_text, IsStep}
use Rattle.std.proofs.lemmas.Result.{err_from_is_err_and}
use Rattle.proof_log.proofs.PieceReading.{same_error}
use Rattle.proof_log.proofs.LineReading.{chain_bad_steps, chain_bad_clause, chain_is}
use Rattle.proof_log.proofs.reading.chain_of.Goals as goal

pub returns-in_err-steps-clause-bad : goal.returns-in_err-steps-clause-bad
returns-in_err-steps-clause-bad c =
    let p = err_from_is_err_and c.from_residual.result c.from_residual.ensures.1 in
    rw (p.1, p.2) (λ b. chain_bad_steps c.args.texts.now c.in-Some.rest.now c.in-Some.first c.in-Some.ensures.some (c.in_err-steps.ensures.bad (same_error _ _ b)))

pub returns-in_err-clause-clause-bad : goal.returns-in_err-clause-clause-bad
returns-in_err-clause-clause-bad c =
    let p = err_from_is_err_and c.from_residual-in_err-clause.result c.from_residual-in_err-clause.ensures.1 in
    rw (p.1, p.2) (λ b. chain_bad_clause c.args.texts.now c.in-Some.rest.now c.in_ok-steps.rest.now c.in-Some.first c.in_ok-steps.steps.items c.in-Some.ensures.some c.in_ok-steps.ensures.right c.in_ok-steps.ensures.ok (c.in_err-clause.ensures.bad (same_error _ _ b)))

pub returns-clause-ok : goal.returns-clause-ok
returns-clause-ok c =
    let steps = c.of-steps.ensures in
    record {
      line = (c.in-Some.ensures.some.fits, subst (λ (z : List (ℕ × ℕ)). AllByRecursion IsStep z) (sym steps) c.in_ok-steps.ensures.right.0, c.in_ok-clause.ensures.right);
      begins = refl;
      pieces = chain_is c.args.texts.now c.in-Some.rest.now c.in_ok-steps.rest.now c.in-Some.first c.of-steps.result c.in_ok-clause.clause c.in-Some.ensures.some.whole
          (c.in_ok-steps.ensures.ok ∙ ap (λ (z : List (ℕ × ℕ)). behind 32 (map step_text z) ++ (32 ∷ 61 ∷ c.in_ok-steps.rest.now)) (sym steps)) c.in_ok-clause.ensures.ok;
    }
