use Rattle.view_picture.specs.Mentioned.{mentioned}
use Rattle.view_picture.proofs.MentionLaws.{leaf_noted}
use Rattle.view_picture.proofs.mentions.mentions_of.Goals as goal

pub loop-number-preserved : goal.loop-number-preserved
loop-number-preserved c = λ w.
    leaf_noted c.args.attribute.now w.now c.args.leaves.now c.loop-number.number
    c.index-leaves-number.result
    (mentioned c.loop-number.mentions.entries w) _ _ c.loop-number-test.true c.index-leaves-number.is
    (c.in_ok-note_leaf.ensures w) (c.loop-number.invariant w)
