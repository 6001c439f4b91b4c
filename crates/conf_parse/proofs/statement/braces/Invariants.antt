use Rattle.std.proofs.Common.{◌≤◌, ◌<◌, length}
use Rattle.model_limits.specs.Limits.{most_nesting}
use Rattle.conf_syntax.specs.Places.{bare}
use Rattle.conf_syntax.specs.Plain.{NoExpr, exprs_nest}
use Rattle.conf_syntax.specs.Views.{exprs_from}
use Rattle.conf_grammar.specs.Leads.{Turns, home_low}
use Rattle.conf_parse.specs.Turnings.{home_at, braces_at}
use Rattle.conf_parse.specs.Standing.{StatementsRead}
use Rattle.conf_parse.proofs.statement.braces.Given as goal

-- the constraints so far lead to the rest
abbrev pub invariant-constraints : goal.invariant-constraints
invariant-constraints l =
    record {
      leads : Turns home_low home_at (bare l.tokens) (braces_at (exprs_from NoExpr l.list.items)) (bare l.rest);
      nested : exprs_nest (exprs_from NoExpr l.list.items) ≤ most_nesting;
      shorter : length l.rest < length l.tokens;
      places : StatementsRead l.inside l.list.items l.rest;
    }

abbrev pub decreases-constraints : goal.decreases-constraints
decreases-constraints l = length l.rest
