use Rattle.std.proofs.Common.{sym, subst, List, ℤ}
use Rattle.std.specs.List.{AllByRecursion}
use Rattle.proof_log.specs.Spelling.{range_text, IsRange}
use Rattle.proof_log.proofs.Separated.{bad_part, good_part, all_more}
use Rattle.proof_log.proofs.Spellings.{commas}
use Rattle.proof_log.proofs.pieces.push_ranges.Goals as goal

pub returns-in_default-range_of-clause-bad : goal.returns-in_default-range_of-clause-bad
returns-in_default-range_of-clause-bad c _ rs a e =
    bad_part 44 range_text IsRange commas c.loop-text.out.items rs c.loop-text.left.now _ c.in-Some.text.now c.in-Some.rest.now
    c.loop-text.invariant.right a c.loop-text.invariant.text c.in-Some.ensures.some c.in_default-range_of.ensures.none e

pub loop-text-preserved : goal.loop-text-preserved
loop-text-preserved c =
    let part = c.in-Some.ensures.some in
    let right = c.in-Some-range_of.ensures.some in
    let new = c.in_ok-push.ensures.items in
    record {
      heads = part.heads;
      right = subst (λ (z : List (ℤ × ℤ)). AllByRecursion IsRange z) (sym new) (all_more IsRange c.loop-text.out.items c.in-Some-range_of.r c.loop-text.invariant.right right.0);
      text = good_part 44 range_text c.loop-text.out.items c.push.new.self.items c.in-Some-range_of.r c.loop-text.left.now _ c.in-Some.text.now c.in-Some.rest.now c.loop-text.invariant.text part right.1 new;
    }
