use Rattle.std.proofs.Common.{arith, sym, ◌∙◌}
use Rattle.site_faults.specs.Known.{is_known}
use Rattle.site_faults.proofs.ListLaws.{all_ended, all_behind}
use Rattle.site_faults.proofs.known.are_known.Goals as goal

pub returns-then-not-yes : goal.returns-then-not-yes
returns-then-not-yes c =
    all_ended (is_known c.args.known.now c.args.column) c.args.texts.now c.loop-text.text-index _ _
    (omega arith) (sym c.in_ok-yes.ensures ∙ c.if-not-yes.true) c.loop-text.invariant

pub loop-text-preserved : goal.loop-text-preserved
loop-text-preserved c =
    all_behind (is_known c.args.known.now c.args.column) c.args.texts.now c.loop-text.text-index _ _
    (omega arith) (sym c.in_ok-yes.ensures ∙ c.if-not-yes.false) c.loop-text.invariant
