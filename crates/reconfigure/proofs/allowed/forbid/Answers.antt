use Rattle.std.proofs.Common.{◌∙◌, ap, subst}
use Rattle.signed_clause.specs.Ranges.{Ranges, HaveNoCommonValue}
use Rattle.signed_clause.specs.Clauses.{Boxes, box_of}
use Rattle.reconfigure.proofs.NamedLaws.{none_forbidden, rest_forbids}
use Rattle.reconfigure.proofs.allowed.forbid.Goals as goal

pub returns-then-disjoint-clause-says : goal.returns-then-disjoint-clause-says
returns-then-disjoint-clause-says c =
    none_forbidden c.args.maker.now c.args.x c.args.values.now c.requires.exists
    (subst (λ (z : Ranges). HaveNoCommonValue z c.args.values.now) (c.box_at.ensures ∙ ap (λ (boxes : Boxes). box_of boxes c.args.x) c.domains.ensures.items)
    (c.disjoint.ensures.values.0 c.if-disjoint.true))

pub returns-clause-says : goal.returns-clause-says
returns-clause-says c =
    rest_forbids c.args.maker.now c.state_truth.new.m c.args.x c.args.values.now c.args.rest c.requires.exists c.requires.rest c.in_ok-state_truth.ensures.says
