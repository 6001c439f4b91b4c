use Rattle.std.proofs.Common.{◌≤◌, ◌<◌, length, drop}
use Rattle.model_limits.specs.Limits.{most_nesting}
use Rattle.conf_syntax.specs.Places.{bare}
use Rattle.conf_syntax.specs.Plain.{NoMember, members_nest, nesting}
use Rattle.conf_syntax.specs.Views.{members_from, parent_of}
use Rattle.conf_grammar.specs.Leads.{Turns}
use Rattle.conf_parse.specs.Turnings.{class_at, in_class}
use Rattle.conf_syntax.specs.Standing.{ParentStands}
use Rattle.conf_parse.specs.Standing.{MembersRead, parent_end}
use Rattle.conf_parse.proofs.item.class_body.Given as goal

-- the members so far lead to the rest
abbrev pub invariant-members : goal.invariant-members
invariant-members l =
    record {
      leads : Turns nesting (class_at l.is_abstract l.name.name) (bare l.tokens) (in_class l.is_abstract l.name.name (parent_of l.parent) (members_from NoMember l.list.items)) (bare l.rest);
      nested : members_nest (members_from NoMember l.list.items) ≤ most_nesting;
      shorter : length l.rest < length l.tokens;
      parent : ParentStands l.tokens l.parent;
      places : MembersRead (drop (parent_end l.parent) l.tokens) l.list.items l.rest;
    }

abbrev pub decreases-members : goal.decreases-members
decreases-members l = length l.rest
