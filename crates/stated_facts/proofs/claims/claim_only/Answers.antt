use Rattle.std.proofs.Common.{rules, w64, sym, ◌∙◌}
use Rattle.std.proofs.lemmas.Int.{to_z-of_z}
use Rattle.stated_facts.proofs.ClaimLaws.{single_is}
use Rattle.stated_facts.proofs.claims.claim_only.Goals as goal

pub returns-in_ok-claim_value-in-Some : goal.returns-in_ok-claim_value-in-Some
returns-in_ok-claim_value-in-Some c e a there =
    c.in_ok-claim_value-in-Some.ensures a (single_is c.args.left.now c.in-Some.v _ c.in-Some.ensures there ∙ sym (to_z-of_z w64 c.in-Some.v (search rules)))
