use Rattle.std.proofs.Common.{◌∙◌, ap, sym, subst}
use Rattle.conf_syntax.specs.Standing.{InRow, ItemStands, item_size}
use Rattle.conf_syntax.specs.Views.{program_of}
use Rattle.conf_syntax.specs.Places.{bare}
use Rattle.conf_grammar.specs.Machine.{Whole}
use Rattle.conf_parse.proofs.Ends.{program_right, syntax_within, deep_within}
use Rattle.conf_parse.proofs.parser.read.Goals as goal

pub place-requires : goal.place-requires
place-requires c = syntax_within c.args.tokens.now c.in-Err-Syntax.left (rw c.in-Err-Syntax.field-0-is at c.in-Err-Syntax.ensures.read)

pub place-requires-in-Err-TooDeep : goal.place-requires-in-Err-TooDeep
place-requires-in-Err-TooDeep c = deep_within c.args.tokens.now c.in-Err-TooDeep.left (rw c.in-Err-TooDeep.field-0-is at c.in-Err-TooDeep.ensures.read)

pub returns-in-Ok-clause-ok : goal.returns-in-Ok-clause-ok
returns-in-Ok-clause-ok c = program_right c.args.tokens.now (record { items = c.of.result }) (c.in-Ok.ensures.read ∙ ap (λ x. Whole (program_of x)) (sym c.of.ensures.items)) (subst (InRow ItemStands item_size c.args.tokens.now) (sym c.of.ensures.items) c.in-Ok.ensures.places)
