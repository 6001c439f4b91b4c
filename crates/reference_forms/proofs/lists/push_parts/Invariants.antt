use Rattle.std.proofs.Common.{◌≡◌, ◌++◌, drop}
use Rattle.reference_forms.specs.Lists.{those_parts}
use Rattle.reference_forms.proofs.lists.push_parts.Given as goal

-- with those of what is left they are all
abbrev pub invariant-loop-part : goal.invariant-loop-part
invariant-loop-part l = l.members.items ++ those_parts l.x l.value (drop l.part-index l.parts) ≡ l.fn.members.items ++ those_parts l.x l.value l.parts
