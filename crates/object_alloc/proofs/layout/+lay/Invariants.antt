use Rattle.std.proofs.Common.{◌+◌, ◌-◌, ◌*◌, drop}
use Rattle.object_alloc.specs.Laying.{IsLaying}
use Rattle.object_alloc.specs.Variables.{variables}
use Rattle.object_alloc.specs.Walk.{visit, members, elements}
use Rattle.object_alloc.proofs.layout.+lay.Given as goal

abbrev pub decreases-lay_object : goal.decreases-lay_object
decreases-lay_object l = 4 * (61 - l.object.depth) + 3

abbrev pub decreases-lay_members : goal.decreases-lay_members
decreases-lay_members l = 4 * (61 - l.inside.depth) + 2

abbrev pub decreases-lay_attribute : goal.decreases-lay_attribute
decreases-lay_attribute l = 4 * (61 - l.inside.depth) + 1

abbrev pub decreases-lay_elements : goal.decreases-lay_elements
decreases-lay_elements l = 4 * (61 - l.inside.depth)

abbrev pub invariant-lay_members-loop-k : goal.invariant-lay_members-loop-k
invariant-lay_members-loop-k l =
    IsLaying l.extents.table.now l.initial.layout l.layout (members (visit l.extents.table.now) l.inside 0 (variables l.extents.table.now l.class)) (members (visit l.extents.table.now) l.inside l.k (drop l.k (variables l.extents.table.now l.class)))

abbrev pub invariant-lay_elements-loop-i : goal.invariant-lay_elements-loop-i
invariant-lay_elements-loop-i l =
    IsLaying l.extents.table.now l.initial.layout l.layout (elements (visit l.extents.table.now) l.inside l.k l.class l.count 0) (elements (visit l.extents.table.now) l.inside l.k l.class (l.count - l.i) l.i)
