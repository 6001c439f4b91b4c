use Rattle.conf_parse.proofs.Ends.{placed_again, one_model}
use Rattle.conf_parse.proofs.OnePlace.{syntax_exact, deep_exact}
use Rattle.conf_parse.proofs.parser.parse.Goals as goal

pub returns-clause-places : goal.returns-clause-places
returns-clause-places c = placed_again c.args.tokens.now c.read.result c.read.ensures.ok c.read.ensures.again

pub returns-clause-syntax : goal.returns-clause-syntax
returns-clause-syntax c = syntax_exact c.args.tokens.now c.args.end c.read.result c.read.ensures.ok c.read.ensures.refusal

pub returns-clause-too_deep : goal.returns-clause-too_deep
returns-clause-too_deep c = deep_exact c.args.tokens.now c.args.end c.read.result c.read.ensures.ok c.read.ensures.refusal

pub returns-clause-one_model : goal.returns-clause-one_model
returns-clause-one_model c = one_model c.args.tokens.now
