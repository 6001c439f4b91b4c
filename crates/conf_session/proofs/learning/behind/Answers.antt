use Rattle.std.proofs.Common.{◌∙◌, ap, sym}
use Rattle.conf_session.specs.Standing.{Standing}
use Rattle.conf_session.proofs.StepLaws.{found_long, standing_behind, behind_of}
use Rattle.conf_session.proofs.learning.behind.Goals as goal

pub former_behind-requires : goal.former_behind-requires
former_behind-requires c =
    found_long c.args.g.now c.state.inside.ground.search c.args.verdict.now.found
    c.requires.well_made c.requires.found
    (c.requires.extends.search ∙ sym (ap (λ (s : Standing). s.ground.search) c.state.view_is))

pub invariant_of-result : goal.invariant_of-result
invariant_of-result c =
    let s : Standing = record { ground = c.state.inside.ground; former = c.state.inside.former; failed = c.state.inside.failed.items; begun = c.state.inside.begun } in
    standing_behind s c.args.g.now c.in_ok-ground.ground c.args.lines.now c.args.verdict.now
    c.in_ok-former.former c.state.inside.failed.items c.state.invariant
    (found_long c.args.g.now c.state.inside.ground.search c.args.verdict.now.found
    c.requires.well_made c.requires.found
    (c.requires.extends.search ∙ sym (ap (λ (x : Standing). x.ground.search) c.state.view_is)))
    c.in_ok-former.ensures c.in_ok-ground.ensures

pub returns : goal.returns
returns c =
    let s : Standing = record { ground = c.state.inside.ground; former = c.state.inside.former; failed = c.state.inside.failed.items; begun = c.state.inside.begun } in
    record {
      behind = behind_of s c.args.state c.args.g.now c.in_ok-ground.ground c.args.lines.now
          c.args.verdict.now c.in_ok-former.former c.state.view_is c.in_ok-former.ensures
          c.in_ok-ground.ensures;
    }
