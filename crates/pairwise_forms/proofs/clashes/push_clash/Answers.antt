use Rattle.std.proofs.Common.{[], length}
use Rattle.form_build.proofs.Growth.{adds_nothing}
use Rattle.quantifier_forms.proofs.PartsKept.{literals_kept}
use Rattle.pairwise_forms.proofs.clashes.push_clash.Goals as goal

pub returns-then-holds-clause-adds : goal.returns-then-holds-clause-adds
returns-then-holds-clause-adds c = adds_nothing [] c.args.maker.now

pub returns-clause-exist : goal.returns-clause-exist
returns-clause-exist c =
    c.in_ok-push.ensures.variables (length c.clash_of.new.maker.domains) c.in_ok-clash.ensures.variable
    (literals_kept c.args.maker.now c.clash_of.new.maker c.in_ok-clash.ensures.adds.grows c.args.d.now.1 c.requires.exist)
