use Rattle.std.proofs.Common.{arith}
use Rattle.conf_syntax.specs.Views.{tree_of}
use Rattle.conf_parse.proofs.Parts.{leaf_wrong, leaf_part}
use Rattle.conf_parse.proofs.Placing.{leaf_reads}
use Rattle.conf_parse.proofs.prefix.leaf.Goals as goal

pub returns-then-bounds-level-clause-read : goal.returns-then-bounds-level-clause-read
returns-then-bounds-level-clause-read c = leaf_wrong c.args.bounds.least c.args.bounds.room c.args.next.tokens.now c.args.next.token.now c.args.next.after.now c.args.level c.requires.tokens c.requires.begin c.requires.level (omega arith)

pub returns-clause-read : goal.returns-clause-read
returns-clause-read c = leaf_part c.args.bounds.least c.args.bounds.room c.args.next.tokens.now c.args.next.token.now c.args.next.after.now (tree_of c.args.node) c.args.level c.requires.tokens c.requires.begin c.requires.tree c.requires.level (omega arith) c.requires.room

pub returns-clause-places : goal.returns-clause-places
returns-clause-places c = leaf_reads c.args.next.tokens.now c.args.next.token.now c.args.next.after.now c.args.node c.args.next.token.now.token c.requires.tokens c.requires.tree
