use Rattle.std.proofs.Common.{◌≡◌, ◌+◌, ◌<◌, ◌≤◌, ◌*◌, length}
use Rattle.conf_syntax.specs.Places.{bare}
use Rattle.conf_syntax.specs.Plain.{part, quant, bodies, nest}
use Rattle.conf_syntax.specs.Views.{tree_of, chain}
use Rattle.conf_grammar.specs.Machine.{Need}
use Rattle.conf_grammar.specs.Leads.{Leads, at, next_at}
use Rattle.conf_parse.specs.Parts.{IsPart, opening_tree}
use Rattle.conf_parse.specs.Reads.{Reads}
use Rattle.conf_parse.proofs.Placing.{BodiesRead}
use Rattle.conf_parse.proofs.+read.Given as goal

abbrev pub decreases-prefix::first : goal.decreases-prefix::first
decreases-prefix::first l = 6 * l.bounds.room + 4

abbrev pub decreases-growth::grow : goal.decreases-growth::grow
decreases-growth::grow l = 6 * l.bounds.room + 2

abbrev pub decreases-operand::operand : goal.decreases-operand::operand
decreases-operand::operand l = 6 * l.room + 5

abbrev pub decreases-prefix::paren : goal.decreases-prefix::paren
decreases-prefix::paren l = 6 * l.bounds.room + 1

abbrev pub decreases-prefix::signed : goal.decreases-prefix::signed
decreases-prefix::signed l = 6 * l.bounds.room + 1

abbrev pub decreases-growth::pair : goal.decreases-growth::pair
decreases-growth::pair l = 6 * l.bounds.room + 1

abbrev pub decreases-quantifier::head : goal.decreases-quantifier::head
decreases-quantifier::head l = 6 * l.bounds.room + 1

abbrev pub decreases-quantifier::before_body : goal.decreases-quantifier::before_body
decreases-quantifier::before_body l = 6 * l.bounds.room + 2

abbrev pub decreases-quantifier::item : goal.decreases-quantifier::item
decreases-quantifier::item l = 6 * l.room + 1

abbrev pub decreases-quantifier::single : goal.decreases-quantifier::single
decreases-quantifier::single l = 6 * l.bounds.room + 1

abbrev pub decreases-quantifier::many : goal.decreases-quantifier::many
decreases-quantifier::many l = 6 * l.bounds.room + 2

abbrev pub decreases-quantifier::quant : goal.decreases-quantifier::quant
decreases-quantifier::quant l = 6 * l.bounds.room + 3

-- what was read so far leads to the rest
abbrev pub invariant-operand::operand-rows : goal.invariant-operand::operand-rows
invariant-operand::operand-rows l =
    record {
      part : IsPart l.room l.left;
      places : Reads l.tokens l.left.tree l.rest;
      leads : Leads l.least l.room Need (bare l.tokens) (at (tree_of l.left.tree.node)) (bare l.rest);
      shorter : length l.rest ≤ length l.tokens;
    }

abbrev pub decreases-operand::operand-rows : goal.decreases-operand::operand-rows
decreases-operand::operand-rows l = length l.rest

-- the bodies so far lead to the rest
abbrev pub invariant-quantifier::many-body : goal.invariant-quantifier::many-body
invariant-quantifier::many-body l =
    record {
      leads : Leads l.bounds.least l.bounds.room Need (bare l.next.tokens.now) (next_at (chain (opening_tree l.start) l.body.items)) (bare l.rest);
      whole : part (chain (opening_tree l.start) l.body.items) ≡ 3;
      kind : quant (chain (opening_tree l.start) l.body.items) ≡ l.kind;
      count : bodies (chain (opening_tree l.start) l.body.items) ≡ length l.body.items;
      nest_is : l.nest ≡ nest (chain (opening_tree l.start) l.body.items);
      nested : l.nest < l.bounds.room;
      least : l.bounds.least ≤ 10;
      places : BodiesRead l.inside l.start.kind l.body.items l.rest;
      shorter : length l.rest ≤ length l.next.tokens.now;
    }

abbrev pub decreases-quantifier::many-body : goal.decreases-quantifier::many-body
decreases-quantifier::many-body l = length l.rest
