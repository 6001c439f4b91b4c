use Rattle.std.proofs.Common.{arith}
use Rattle.conf_syntax.specs.Standing.{ExprStands, statement_size}
use Rattle.conf_parse.proofs.Standing.{row_goes_on}
use Rattle.conf_parse.proofs.StandingItems.{braces_stand}
use Rattle.conf_parse.proofs.Wheres.{braces_error, braces_more, braces_nest}
use Rattle.conf_parse.proofs.statement.braces.Goals as goal

pub constraints-preserved : goal.constraints-preserved
constraints-preserved c =
    record {
      leads = braces_more c.args.tokens.now c.constraints.rest.now c.constraints.list.items c.constraints.invariant.leads c.constraints.invariant.nested c.in-Ok.found.1.now c.push.new.self.items c.in-Ok.found.0.tree c.in_default.ensures c.in-Ok.ensures.read c.in_ok-push.ensures.items;
      nested = braces_nest c.constraints.list.items c.push.new.self.items c.in-Ok.found.0.tree c.in-Ok.found.0.nest c.constraints.invariant.nested c.in_ok-push.ensures.items c.in-Ok.ensures.nest c.in-Ok.ensures.nested;
      places = row_goes_on ExprStands statement_size c.args.inside.now c.constraints.list.items c.push.new.self.items c.in-Ok.found.0.tree c.constraints.rest.now c.in-Ok.found.1.now c.constraints.invariant.places c.in-Ok.ensures.places c.in_ok-push.ensures.items;
      shorter = (let a = c.constraints.invariant.shorter in let b = c.in-Ok.ensures.shorter in omega arith);
    }

pub returns-in-Some-clause-places : goal.returns-in-Some-clause-places
returns-in-Some-clause-places c = braces_stand c.first_at.result c.constraints.list.items c.of.result c.args.tokens.now c.args.after.now c.args.inside.now c.constraints.rest.now c.in-Some.behind.now c.requires.key c.requires.brace c.constraints.invariant.places c.in-Some.ensures c.first_at.ensures c.of.ensures.items

pub returns-in-Err-clause-read : goal.returns-in-Err-clause-read
returns-in-Err-clause-read c = braces_error c.args.tokens.now c.constraints.rest.now c.constraints.list.items c.constraints.invariant.leads c.constraints.invariant.nested c.in-Err.e c.in_default.ensures c.in-Err.ensures.read
