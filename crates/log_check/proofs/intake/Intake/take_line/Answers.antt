use Rattle.std.proofs.Common.{◌∷◌, ◌++◌, [], refl}
use Rattle.log_check.specs.Progress.{made_of}
use Rattle.log_check.proofs.Feeding.{fed_line}
use Rattle.log_check.proofs.intake.Intake.take_line.Goals as goal

pub returns-clause-taken : goal.returns-clause-taken
returns-clause-taken c bytes h =
    let said = c.if-not-branch.false in (
      h.0 ++ c.in-Ok.line ∷ [],
      fed_line c.args.g.now bytes h.0 (made_of c.args.self.now.progress) (made_of c.step_with.new.self) c.args.text.now c.args.self.now.rest.items c.args.self.now.count _ c.in-Ok.line c.in_ok-step_with.field-0 h.1
          c.in-Ok.ensures.ok c.in_ok-step_with.ensures.asked said (c.in_ok-step_with.ensures.made said) c.requires.rest refl,
    )
