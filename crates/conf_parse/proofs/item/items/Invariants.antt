use Rattle.std.proofs.Common.{◌≡◌, ◌≤◌, length}
use Rattle.model_limits.specs.Limits.{most_nesting}
use Rattle.conf_syntax.specs.Places.{bare}
use Rattle.conf_syntax.specs.Plain.{nesting}
use Rattle.conf_syntax.specs.Views.{program_of}
use Rattle.conf_grammar.specs.Machine.{start, reading}
use Rattle.conf_parse.specs.Turnings.{program_at}
use Rattle.conf_parse.specs.Standing.{ItemsRead}
use Rattle.conf_parse.proofs.item.items.Given as goal

-- the items so far lead to the rest
abbrev pub invariant-loop-rest : goal.invariant-loop-rest
invariant-loop-rest l =
    record {
      leads : reading (bare l.tokens) most_nesting start ≡ reading (bare l.rest) most_nesting (program_at (program_of l.list.items));
      nested : nesting (program_of l.list.items) ≤ most_nesting;
      places : ItemsRead l.tokens l.list.items l.rest;
    }

abbrev pub decreases-loop-rest : goal.decreases-loop-rest
decreases-loop-rest l = length l.rest
