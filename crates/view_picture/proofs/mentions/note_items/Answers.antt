use Rattle.view_picture.specs.Mentioned.{mention_seen, mentioned}
use Rattle.view_picture.proofs.MentionLaws.{item_noted}
use Rattle.view_picture.proofs.mentions.note_items.Goals as goal

pub loop-item-preserved : goal.loop-item-preserved
loop-item-preserved c = λ w.
    item_noted w.now c.args.items.now c.loop-item.item-index c.item-item.result
    (mentioned c.loop-item.mentions.entries w) _ _
    (mention_seen c.args.mention) c.loop-item-test.true c.item-item.is (c.in_ok-note_item.ensures w)
    (c.loop-item.invariant w)
