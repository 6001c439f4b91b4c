use Rattle.std.proofs.Common.{◌≡◌, ◌++◌, [], drop}
use Rattle.site_model.specs.Classes.{listed}
use Rattle.site_model.proofs.classes.push_listed.Given as goal

-- what is written and what is left to write are all
abbrev pub invariant-loop-number : goal.invariant-loop-number
invariant-loop-number l =
    l.text.items ++ listed l.before (drop l.number l.values)
    ≡ l.initial.text.items ++ listed [] l.values
