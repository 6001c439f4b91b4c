use Rattle.std.proofs.Common.{rules, w64, false, sym, ◌∙◌}
use Rattle.std.proofs.lemmas.Int.{to_z-of_z}
use Rattle.stated_facts.proofs.ClaimLaws.{parts_known}
use Rattle.stated_facts.proofs.claims.claim_parts.Goals as goal

pub loop-part-preserved : goal.loop-part-preserved
loop-part-preserved c a wants held =
    c.in_ok-claim_value.ensures a
    (parts_known c.args.parts.now a wants c.loop-part.part-index (0, false) c.loop-part-test.true ∙ sym (to_z-of_z w64 c.bit_of.result (search rules) ∙ c.bit_of.ensures))
    (c.loop-part.invariant a wants held)
