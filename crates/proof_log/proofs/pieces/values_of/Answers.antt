use Rattle.std.proofs.Common.{sym, subst, List, ℤ, rules, SFits, w64}
use Rattle.std.proofs.lemmas.Int.{to_z-of_z}
use Rattle.std.specs.List.{AllByRecursion}
use Rattle.std.specs.Fmt.{signed_decimal}
use Rattle.proof_log.specs.Spelling.{IsSigned}
use Rattle.proof_log.proofs.Separated.{bad_part, good_part, all_more}
use Rattle.proof_log.proofs.Spellings.{value_pieces}
use Rattle.proof_log.proofs.pieces.values_of.Goals as goal

pub returns-in_default-value_of-clause-bad : goal.returns-in_default-value_of-clause-bad
returns-in_default-value_of-clause-bad c _ vs a e =
    bad_part 32 signed_decimal IsSigned value_pieces c.loop-text.out.items vs c.loop-text.left.now _ c.in-Some.text.now c.in-Some.rest.now
    c.loop-text.invariant.right a c.loop-text.invariant.text c.in-Some.ensures.some c.in_default-value_of.ensures.none e

pub loop-text-preserved : goal.loop-text-preserved
loop-text-preserved c =
    let part = c.in-Some.ensures.some in
    let right = c.in-Some-value_of.ensures.some in
    let fits : SFits w64 c.in-Some-value_of.v = search rules in
    let new = simp to_z-of_z at c.in_ok-push.ensures.items in
    record {
      heads = part.heads;
      right = subst (λ (z : List ℤ). AllByRecursion IsSigned z) (sym new) (all_more IsSigned c.loop-text.out.items c.in-Some-value_of.v c.loop-text.invariant.right right.0);
      text = good_part 32 signed_decimal c.loop-text.out.items c.push.new.self.items c.in-Some-value_of.v c.loop-text.left.now _ c.in-Some.text.now c.in-Some.rest.now c.loop-text.invariant.text part right.1 new;
    }
