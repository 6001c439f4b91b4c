use Rattle.std.proofs.Common.{sym, ◌∙◌}
use Rattle.reconfigure.proofs.NamedLaws.{any_adds, out_adds}
use Rattle.reconfigure.proofs.allowed.allow_member.Goals as goal

pub returns-then-is_failed-clause-says : goal.returns-then-is_failed-clause-says
returns-then-is_failed-clause-says c =
    out_adds c.args.objects.now c.args.failed.now c.requires.failed c.args.maker.now c.forbid.new.maker c.args.x c.args.n c.range-member.result c.range-member.ensures.list (sym c.is_failed.ensures ∙ c.if-is_failed.true) c.in_ok-forbid.ensures.says

pub returns-clause-says : goal.returns-clause-says
returns-clause-says c =
    any_adds c.args.objects.now c.args.failed.now c.requires.failed c.args.maker.now c.args.x c.args.n (sym c.is_failed.ensures ∙ c.if-is_failed.false)
