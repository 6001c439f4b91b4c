use Rattle.std.proofs.Common.{◌≡◌, ◌++◌, drop, map}
use Rattle.site_faults.specs.Meets.{entry_seen}
use Rattle.site_faults.proofs.meets.words_of.Given as goal

-- what is made and what is left to make are all
abbrev pub invariant-loop-entry : goal.invariant-loop-entry
invariant-loop-entry l =
    map (λ w. w.items) l.words.items ++ map (λ e. e.1) (map entry_seen (drop l.entry-index l.list))
    ≡ map (λ e. e.1) (map entry_seen l.list)
