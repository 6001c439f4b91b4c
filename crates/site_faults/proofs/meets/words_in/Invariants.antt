use Rattle.std.proofs.Common.{◌≡◌, ◌++◌, drop, map}
use Rattle.site_names.specs.Words.{word_of}
use Rattle.site_faults.proofs.meets.words_in.Given as goal

-- what is made and what is left to make are all
abbrev pub invariant-loop-number : goal.invariant-loop-number
invariant-loop-number l =
    map (λ w. w.items) l.words.items ++ map word_of (drop l.number l.texts)
    ≡ map word_of l.texts
