use Rattle.site_model.proofs.ListLaws.{word_listed}
use Rattle.site_model.proofs.classes.push_listed.Goals as goal

pub loop-number-preserved : goal.loop-number-preserved
loop-number-preserved c =
    rw (c.in_ok-push_word.ensures, c.as_slice-before-in-loop-number.ensures)
    (word_listed c.args.values.now c.loop-number.number c.get-value.result.now
    c.loop-number.before.now c.loop-number.text.items _ c.get-value.ensures c.loop-number.invariant)
