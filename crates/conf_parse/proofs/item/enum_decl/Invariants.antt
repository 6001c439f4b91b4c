use Rattle.std.proofs.Common.{◌≤◌, ◌<◌, length, drop}
use Rattle.conf_syntax.specs.Places.{bare}
use Rattle.conf_syntax.specs.Plain.{nesting}
use Rattle.conf_grammar.specs.Leads.{Turns}
use Rattle.conf_parse.specs.Turnings.{program_at}
use Rattle.conf_parse.specs.Standing.{ValuesRead}
use Rattle.conf_parse.proofs.Items.{values_at}
use Rattle.conf_parse.proofs.item.enum_decl.Given as goal

-- the values so far lead to the rest
abbrev pub invariant-values : goal.invariant-values
invariant-values l =
    record {
      some : 1 ≤ length l.values.items;
      leads : Turns nesting program_at (bare l.tokens) (values_at l.name.name l.values.items) (bare l.rest);
      shorter : length l.rest < length l.tokens;
      places : ValuesRead (drop 3 l.tokens) l.values.items (drop 1 l.rest);
    }

abbrev pub decreases-values : goal.decreases-values
decreases-values l = length l.rest
