use Rattle.std.proofs.Common.{refl}
use Rattle.conf_session.proofs.RoundLaws.{repairs_by}
use Rattle.conf_session.proofs.round.repaired.Goals as goal

pub returns-in-Ok-clause-well_made : goal.returns-in-Ok-clause-well_made
returns-in-Ok-clause-well_made c =
    let over = c.requires.stands in
    let hs = c.args.former.now in
    let ws = c.args.failed.now in
    (repairs_by c.args.objects.now c.args.ground.now c.in_ok-g.g c.in-Ok.new hs hs ws ws c.in_ok-g.ensures refl refl c.in-Ok.ensures.stands over.0 over.1 over.2).well_made

pub returns-in-Ok-clause-repairs : goal.returns-in-Ok-clause-repairs
returns-in-Ok-clause-repairs c =
    let hs = c.args.former.now in
    let ws = c.args.failed.now in
    repairs_by c.args.objects.now c.args.ground.now c.in_ok-g.g c.in-Ok.new hs hs ws ws c.in_ok-g.ensures refl refl c.in-Ok.ensures.stands
