use Rattle.std.proofs.Common.{ap, ◌∙◌}
use Rattle.signed_clause.specs.Clauses.{Boxes, box_of}
use Rattle.stated_sets.proofs.JoinedSets.{stated_domain}
use Rattle.stated_sets.proofs.joined.domain_of.Goals as goal

pub returns : goal.returns
returns c =
    stated_domain c.args.maker.now c.args.x c.in_ok-set.set c.requires
    (c.in_ok-set.ensures.list ∙ c.set_at.ensures ∙ ap (λ (z : Boxes). box_of z c.args.x) c.domains.ensures.items)
