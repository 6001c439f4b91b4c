use Rattle.std.proofs.Common.{None}
use Rattle.object_alloc.specs.declared.object.Object.{Object}
use Rattle.object_alloc.specs.Groups.{is_part_of, numbers_from}
use Rattle.object_alloc.specs.Grouping.{group}
use Rattle.object_alloc.proofs.GroupLaws.{group_grown}
use Rattle.object_alloc.proofs.groups.parts_of_objects.Goals as goal

pub loop-n-preserved : goal.loop-n-preserved
loop-n-preserved c owner k =
    let d : Object = record { class = 0; depth = 0; owner = None; attribute = 0; element = 0 } in
    group_grown (is_part_of owner k) c.args.objects.now c.loop-n.n d (group c.loop-n.groups.entries owner k) (group c.add.new.groups.entries owner k) (numbers_from (is_part_of owner k) 0 c.args.objects.now) c.loop-n-test.true (c.loop-n.invariant owner k) (c.in_ok-add.ensures.group owner k)
