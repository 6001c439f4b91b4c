use Rattle.std.proofs.Common.{subst}
use Rattle.signed_clause.specs.Clauses.{Boxes}
use Rattle.reference_forms.specs.Picks.{IsCommon}
use Rattle.reference_forms.proofs.DotLaws.{nothing_made}
use Rattle.reference_forms.proofs.PickLaws.{common_picked, pick_picked}
use Rattle.reference_forms.proofs.picks.picked.Goals as goal

pub returns-in-Some-clause-picked : goal.returns-in-Some-clause-picked
returns-in-Some-clause-picked c =
    common_picked c.args.maker.now c.args.x c.args.items.now c.in-Some.y (subst (λ (z : Boxes). IsCommon z c.args.items.now c.in-Some.y) c.domains.ensures.items c.in-Some.ensures)

pub returns-in-Some-clause-adds : goal.returns-in-Some-clause-adds
returns-in-Some-clause-adds c = nothing_made c.args.maker.now

pub returns-clause-picked : goal.returns-clause-picked
returns-clause-picked c = pick_picked c.args.maker.now c.pick.new.self c.args.x c.args.items.now c.in_ok-y.y c.domains.ensures.well_made.domains c.requires.exist c.in_ok-y.ensures.variable
