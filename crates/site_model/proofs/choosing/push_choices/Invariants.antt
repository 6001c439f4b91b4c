use Rattle.std.proofs.Common.{◌≡◌, ◌++◌, codes, drop, map}
use Rattle.site_model.specs.Choices.{choice_seen, choices}
use Rattle.site_model.proofs.choosing.push_choices.Given as goal

-- what is written and what is left to write are all
abbrev pub invariant-loop-value : goal.invariant-loop-value
invariant-loop-value l =
    l.text.items
    ++ choices (choice_seen l.how) l.before (map (λ v. v.now) (drop l.value-index l.values))
    ≡ l.initial.text.items
    ++ choices (choice_seen l.how) (codes "where ") (map (λ v. v.now) l.values)
