use Rattle.std.proofs.Common.{rules, ◌≡◌, None, Some, length, refl}
use Rattle.config_json.specs.declared.values.FormerValue.TheVariants as kept
use Rattle.config_json.proofs.HintLaws.{members_pushed, none_pushed}
use Rattle.config_json.proofs.leaves.push_hints.Goals as goal

pub returns-in_ok-push_members-in-Some-Members : goal.returns-in_ok-push_members-in-Some-Members
returns-in_ok-push_members-in-Some-Members c =
    let is : c.args.found ≡ Some (kept.Members c.in-Some-Members.marks) = search rules in
    let flags : c.deref.result.now ≡ c.in-Some-Members.marks.items = search rules in
    record { hints = members_pushed c.args.objects.now c.args.leaf c.requires.sound c.requires.leaf c.args.found c.in-Some-Members.marks c.own_cells-own.result.now c.deref.result.now c.args.hints.now.items c.push_members.new.hints.items is c.own_cells-own.ensures.cells flags c.in_ok-push_members-in-Some-Members.ensures.hints }

pub returns-in_ok-push_none-in-None : goal.returns-in_ok-push_none-in-None
returns-in_ok-push_none-in-None c =
    let is : c.args.found ≡ None = search rules in
    record { hints = none_pushed c.args.objects.now c.args.leaf c.requires.sound c.requires.leaf c.args.found c.own_cells-own.result.now (length c.own_cells-own.result.now) c.args.hints.now.items c.push_none.new.hints.items is c.own_cells-own.ensures.cells refl c.in_ok-push_none-in-None.ensures.hints }
