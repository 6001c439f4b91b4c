use Rattle.std.proofs.Common.{sym, subst, List, ℕ, ℤ}
use Rattle.std.specs.List.{AllByRecursion}
use Rattle.std.proofs.lemmas.Result.{err_from_is_err_and}
use Rattle.proof_log.specs.Spelling.{literal_text, IsLiteral}
use Rattle.proof_log.proofs.Separated.{bad_part, good_part, all_more}
use Rattle.proof_log.proofs.PieceReading.{same_error}
use Rattle.proof_log.proofs.Spellings.{literal_spelling}
use Rattle.proof_log.proofs.pieces.literals_of.Goals as goal

pub returns-in_err-literal_of-clause-bad : goal.returns-in_err-literal_of-clause-bad
returns-in_err-literal_of-clause-bad c =
    let p = err_from_is_err_and c.from_residual.result c.from_residual.ensures.1 in
    rw (p.1, p.2) (λ b ls a e.
    bad_part 32 literal_text IsLiteral literal_spelling c.loop-text.out.items ls c.loop-text.left.now _ c.in-Some.text.now c.in-Some.rest.now
    c.loop-text.invariant.right a c.loop-text.invariant.text c.in-Some.ensures.some (c.in_err-literal_of.ensures.bad (same_error _ _ b)) e)

pub loop-text-preserved : goal.loop-text-preserved
loop-text-preserved c =
    let part = c.in-Some.ensures.some in
    let right = c.in_ok-literal_of.ensures.ok in
    let new = c.in_ok-push.ensures.items in
    record {
      heads = part.heads;
      right = subst (λ (z : List (ℕ × List (ℤ × ℤ))). AllByRecursion IsLiteral z) (sym new) (all_more IsLiteral c.loop-text.out.items c.in_ok-literal_of.field-0 c.loop-text.invariant.right right.0);
      text = good_part 32 literal_text c.loop-text.out.items c.push.new.self.items c.in_ok-literal_of.field-0 c.loop-text.left.now _ c.in-Some.text.now c.in-Some.rest.now c.loop-text.invariant.text part right.1 new;
    }
