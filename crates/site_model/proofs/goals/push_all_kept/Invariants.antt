use Rattle.std.proofs.Common.{◌≡◌, ◌++◌, drop, map}
use Rattle.std.specs.List.{flat_map}
use Rattle.site_model.specs.Goals.{kept_line, kept_seen}
use Rattle.site_model.proofs.goals.push_all_kept.Given as goal

-- what is written and what is left to write are all
abbrev pub invariant-loop-kept : goal.invariant-loop-kept
invariant-loop-kept l =
    l.text.items ++ flat_map kept_line (map kept_seen (drop l.kept-index l.list))
    ≡ l.initial.text.items ++ flat_map kept_line (map kept_seen l.list)
