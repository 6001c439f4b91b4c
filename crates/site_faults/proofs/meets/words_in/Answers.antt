use Rattle.std.proofs.Common.{map}
use Rattle.std.proofs.lemmas.List.{map-append}
use Rattle.site_faults.proofs.ListLaws.{word_made}
use Rattle.site_faults.proofs.meets.words_in.Goals as goal

pub loop-number-preserved : goal.loop-number-preserved
loop-number-preserved c =
    rw (c.in_ok-push.ensures.items, map-append, c.in_ok-word.ensures)
    (word_made c.args.texts.now c.loop-number.number c.get-text.result.now
    (map (λ w. w.items) c.loop-number.words.items) _ c.get-text.ensures c.loop-number.invariant)
