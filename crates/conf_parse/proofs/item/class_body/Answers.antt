use Rattle.std.proofs.Common.{arith, ◌≤◌, ◌<◌, length, drop}
use Rattle.model_limits.specs.Limits.{most_nesting}
use Rattle.conf_syntax.specs.Places.{bare}
use Rattle.conf_syntax.specs.Plain.{member_nest}
use Rattle.conf_syntax.specs.Standing.{MemberStands, member_size}
use Rattle.conf_syntax.specs.Views.{member_of, parent_of}
use Rattle.conf_grammar.specs.Leads.{Turns, home_low}
use Rattle.conf_parse.specs.Standing.{MemberReads, parent_end}
use Rattle.conf_parse.specs.Turnings.{home_at, home_and}
use Rattle.conf_parse.proofs.Items.{member_part, member_nests}
use Rattle.conf_parse.proofs.Standing.{row_goes_on}
use Rattle.conf_parse.proofs.StandingItems.{class_stands}
use Rattle.conf_parse.proofs.item.class_body.Goals as goal

pub returns-in_default-clause-places : goal.returns-in_default-clause-places
returns-in_default-clause-places c = class_stands c.args.is_abstract c.args.name _ c.members.list.items c.of-members.result c.args.tokens.now c.members.rest.now c.in-Some-after_mark.behind.now c.members.invariant.parent c.members.invariant.places c.in-Some-after_mark.ensures c.of-members.ensures.items

pub members-preserved : goal.members-preserved
members-preserved c =
    let turns : Turns home_low home_at (bare c.members.rest.now) (home_and (member_of c.in-Some.next)) (bare c.in-Some.behind.now) = rw c.in-Some.is at c.in-Ok-member.ensures.read in
    let nest : member_nest (member_of c.in-Some.next) ≤ most_nesting = rw c.in-Some.is at c.in-Ok-member.ensures.nested in
    let short : length c.in-Some.behind.now < length c.members.rest.now = rw c.in-Some.is at c.in-Ok-member.ensures.shorter in
    let reads : MemberReads c.members.rest.now c.in-Some.next c.in-Some.behind.now = rw c.in-Some.is at c.in-Ok-member.ensures.places in
    record {
      leads = member_part c.args.is_abstract c.args.name.name (parent_of _) c.args.tokens.now c.members.rest.now c.members.list.items c.members.invariant.leads c.members.invariant.nested c.in-Some.behind.now c.push.new.self.items c.in-Some.next turns c.in_ok-push.ensures.items;
      nested = member_nests c.members.list.items c.push.new.self.items c.in-Some.next c.members.invariant.nested c.in_ok-push.ensures.items nest;
      shorter = (let a = c.members.invariant.shorter in omega arith);
      parent = c.members.invariant.parent;
      places = row_goes_on MemberStands member_size (drop (parent_end _) c.args.tokens.now) c.members.list.items c.push.new.self.items c.in-Some.next c.members.rest.now c.in-Some.behind.now c.members.invariant.places reads c.in_ok-push.ensures.items;
    }
