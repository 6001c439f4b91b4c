use Rattle.std.proofs.Common.{All, refl, subst}
use Rattle.signed_clause.specs.Clauses.{Boxes}
use Rattle.stated_facts.specs.Claims.{IsLoad}
use Rattle.stated_facts.proofs.ClaimLaws.{are_zero}
use Rattle.stated_facts.proofs.claims.claim_nothing.Goals as goal

pub returns : goal.returns
returns c e a within up down held =
    c.in_ok-claim_zeros.ensures a
    (are_zero c.args.maker.now.domains a c.domains.ensures.well_made.domains within c.args.rises c.args.terms.now
    (subst (λ (z : Boxes). All (IsLoad z c.args.rises) c.args.terms.now) c.domains.ensures.items (c.if-not-are_loads.ensures refl)) up down)
    held
