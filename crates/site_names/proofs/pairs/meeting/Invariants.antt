use Rattle.std.proofs.Common.{◌≡◌, [], drop, map}
use Rattle.site_names.specs.Meeting.{meeting}
use Rattle.site_names.proofs.pairs.meeting.Given as goal

-- the words that are left decide
abbrev pub invariant-loop-word : goal.invariant-loop-word
invariant-loop-word l =
    meeting l.seen (map (λ w. w.items) (drop l.word-index l.words))
    ≡ meeting [] (map (λ w. w.items) l.words)
