use Rattle.std.proofs.Common.{◌≡◌, ◌++◌, drop, map}
use Rattle.std.specs.List.{flat_map}
use Rattle.site_model.specs.Pairs.{pair_of, relation_seen, worded_seen}
use Rattle.site_model.proofs.relations.push_pairs_of.Given as goal

-- what is written and what is left to write are all
abbrev pub invariant-loop-second : goal.invariant-loop-second
invariant-loop-second l =
    l.text.items
    ++ flat_map (pair_of (relation_seen l.how) (worded_seen l.first)) (map worded_seen (drop l.second-index l.more))
    ≡ l.initial.text.items
    ++ flat_map (pair_of (relation_seen l.how) (worded_seen l.first)) (map worded_seen l.more)
