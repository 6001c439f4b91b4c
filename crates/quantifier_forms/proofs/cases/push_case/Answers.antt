use Rattle.std.proofs.Common.{[], length}
use Rattle.form_build.proofs.Growth.{adds_nothing}
use Rattle.quantifier_forms.proofs.PartsKept.{literals_kept}
use Rattle.quantifier_forms.proofs.cases.push_case.Goals as goal

pub returns-then-holds-clause-adds : goal.returns-then-holds-clause-adds
returns-then-holds-clause-adds c = adds_nothing [] c.args.maker.now

pub returns-then-want-clause-exist : goal.returns-then-want-clause-exist
returns-then-want-clause-exist c =
    c.in_ok-push.ensures.variables (length c.holds_at.new.maker.domains) c.in_ok-t.ensures.variable
    (literals_kept c.args.maker.now c.holds_at.new.maker c.in_ok-t.ensures.adds.grows c.args.d.now.1 c.requires.exist)
