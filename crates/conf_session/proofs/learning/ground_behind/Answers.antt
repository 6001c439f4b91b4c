use Rattle.std.proofs.Common.{◌∙◌, ap, refl, length}
use Rattle.conf_session.proofs.KeptLaws.{flags_long}
use Rattle.conf_session.proofs.RoundLaws.{ground_is}
use Rattle.conf_session.proofs.learning.ground_behind.Goals as goal

pub with_kept-requires : goal.with_kept-requires
with_kept-requires c = flags_long c.args.g.now _ _ c.args.lines.now c.deref.result.now (c.deref.ensures.value ∙ c.in_ok-flags.ensures.lines)

pub returns : goal.returns
returns c =
    ground_is c.args.begun c.args.ground c.args.g.now c.in_ok-new.new c.args.lines.now c.deref.result.now _ _ _ c.requires.old c.requires.few c.requires.grown c.requires.kept c.requires.extends
    (ap (λ ds. length ds) c.items-n.ensures) (ap (λ cons. length cons) c.items-b.ensures) refl (c.deref.ensures.value ∙ c.in_ok-flags.ensures.lines) c.in_ok-new.ensures
    c.in_ok-flags.ensures.form c.in_ok-flags.ensures.low c.in_ok-flags.ensures.truths
