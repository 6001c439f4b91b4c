use Rattle.std.proofs.Common.{[], length}
use Rattle.form_build.proofs.Growth.{adds_nothing}
use Rattle.form_truths.proofs.PartLaws.{exist_kept}
use Rattle.identity_forms.proofs.pairs.push_both.Goals as goal

pub returns-then-is_never-clause-adds : goal.returns-then-is_never-clause-adds
returns-then-is_never-clause-adds c = adds_nothing [] c.args.maker.now

pub returns-clause-exist : goal.returns-clause-exist
returns-clause-exist c h =
    c.in_ok-push.ensures.variables (length c.both.new.maker.domains) c.in_ok-u.ensures.variable (exist_kept c.args.maker.now c.both.new.maker c.args.some.now.1 c.in_ok-u.ensures.adds.grows h)
