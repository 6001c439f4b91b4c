use Rattle.std.proofs.Common.{◌≡◌, ◌++◌, length, map}
use Rattle.site_model.specs.Pairs.{pairs, relation_seen, worded_seen}
use Rattle.site_model.proofs.relations.push_pairs.Given as goal

-- what is written and what is left to write are all
abbrev pub invariant-loop-left : goal.invariant-loop-left
invariant-loop-left l =
    l.text.items ++ pairs (relation_seen l.how) (map worded_seen l.left)
    ≡ l.initial.text.items ++ pairs (relation_seen l.how) (map worded_seen l.list)

abbrev pub decreases-loop-left : goal.decreases-loop-left
decreases-loop-left l = length l.left
