use Rattle.std.proofs.Common.{length, refl, sym, ap, ◌∙◌, subst, arith}
use Rattle.object_alloc.specs.declared.layout.Layout.{Layout}
use Rattle.object_alloc.specs.Laying.{AreSizes, AreThere, AreClassed, cells_of}
use Rattle.object_alloc.specs.Groups.{numbers_from, is_part_of, is_cell_of}
use Rattle.object_alloc.specs.Grouping.{group}
use Rattle.object_alloc.proofs.Allocating.{few_objects, no_weight, no_deep, deep_found, deep_none, kept_sizes, start_ready, cells_refused, laid_out, laid_objects, classed}
use Rattle.object_alloc.proofs.objects.allocate.Goals as goal

pub returns-then-has_deep-clause-fault : goal.returns-then-has_deep-clause-fault
returns-then-has_deep-clause-fault c =
    let o = c.args.table.now in
    let k = c.in-Ok.ensures.kinds in
    (few_objects o c.in-Ok.queue.items k c.in-Ok.ensures.few, deep_found o c.in-Ok.queue.items k c.deref.result.now c.has_deep.result c.deref.ensures.value c.has_deep.ensures.deep c.if-has_deep.true)

pub lay_members-requires-clause-ready : goal.lay_members-requires-clause-ready
lay_members-requires-clause-ready c =
    let o = c.args.table.now in
    let k = c.in-Ok.ensures.kinds in
    let before : Layout = record { objects = c.new.result; leaves = c.new-2.result; cells = 0 } in
    let sizes = kept_sizes o c.in-Ok.queue.items c.deref-2.result.now c.in_ok-sizes.sizes.items k c.deref-2.ensures.value c.in_ok-sizes.ensures.count c.in_ok-sizes.ensures.each in
    start_ready o c.deref-3.result.now before c.class_count-classes.ensures.sound (subst (AreSizes o) (sym c.deref-3.ensures.value) sizes) c.new-2.ensures.items c.new.ensures.items refl (few_objects o c.in-Ok.queue.items k c.in-Ok.ensures.few)

pub lay_members-requires-clause-shallow : goal.lay_members-requires-clause-shallow
lay_members-requires-clause-shallow c =
    let o = c.args.table.now in
    let k = c.in-Ok.ensures.kinds in
    no_weight o c.in-Ok.queue.items k (deep_none o c.in-Ok.queue.items k c.deref.result.now c.has_deep.result c.deref.ensures.value c.has_deep.ensures.deep c.if-has_deep.false)

pub returns-in-Err-lay_members-clause-fault : goal.returns-in-Err-lay_members-clause-fault
returns-in-Err-lay_members-clause-fault c =
    let o = c.args.table.now in
    let k = c.in-Ok.ensures.kinds in
    let before : Layout = record { objects = c.new.result; leaves = c.new-2.result; cells = 0 } in
    let none = deep_none o c.in-Ok.queue.items k c.deref.result.now c.has_deep.result c.deref.ensures.value c.has_deep.ensures.deep c.if-has_deep.false in
    cells_refused o before c.in-Err-lay_members.fault c.new-2.ensures.items c.new.ensures.items (few_objects o c.in-Ok.queue.items k c.in-Ok.ensures.few) (no_deep o c.in-Ok.queue.items k none) c.in-Err-lay_members.ensures.fault

pub cells_of_leaves-requires-clause-classes : goal.cells_of_leaves-requires-clause-classes
cells_of_leaves-requires-clause-classes c =
    let o = c.args.table.now in
    let before : Layout = record { objects = c.new.result; leaves = c.new-2.result; cells = 0 } in
    let laid = laid_objects o before c.lay_members.new.layout c.new-2.ensures.items c.new.ensures.items c.in_default.ensures.laid in
    subst (AreClassed o) (sym laid.0 ∙ sym c.deref-4.ensures.value) (classed o c.in-Ok.queue.items c.in-Ok.ensures.kinds c.in-Ok.ensures.lawful)

pub cells_of_leaves-requires-clause-few : goal.cells_of_leaves-requires-clause-few
cells_of_leaves-requires-clause-few c =
    let o = c.args.table.now in
    let before : Layout = record { objects = c.new.result; leaves = c.new-2.result; cells = 0 } in
    let laid = laid_objects o before c.lay_members.new.layout c.new-2.ensures.items c.new.ensures.items c.in_default.ensures.laid in
    let few = few_objects o c.in-Ok.queue.items c.in-Ok.ensures.kinds c.in-Ok.ensures.few in
    omega (arith, few, ap length laid.0, ap length c.deref-4.ensures.value)

pub cells_of_leaves-requires-clause-sizes : goal.cells_of_leaves-requires-clause-sizes
cells_of_leaves-requires-clause-sizes c =
    let o = c.args.table.now in
    let k = c.in-Ok.ensures.kinds in
    let sizes = kept_sizes o c.in-Ok.queue.items c.deref-2.result.now c.in_ok-sizes.sizes.items k c.deref-2.ensures.value c.in_ok-sizes.ensures.count c.in_ok-sizes.ensures.each in
    subst (AreSizes o) (sym c.deref-5.ensures.value) sizes

pub cells_of_leaves-requires-clause-shapes : goal.cells_of_leaves-requires-clause-shapes
cells_of_leaves-requires-clause-shapes c = subst (AreThere c.args.table.now) (sym c.deref-6.ensures.value) c.in_default.ensures.laid.shapes

pub invariant_of-result : goal.invariant_of-result
invariant_of-result c =
    let o = c.args.table.now in
    let k = c.in-Ok.ensures.kinds in
    let before : Layout = record { objects = c.new.result; leaves = c.new-2.result; cells = 0 } in
    let none = deep_none o c.in-Ok.queue.items k c.deref.result.now c.has_deep.result c.deref.ensures.value c.has_deep.ensures.deep c.if-has_deep.false in
    let sizes = kept_sizes o c.in-Ok.queue.items c.deref-2.result.now c.in_ok-sizes.sizes.items k c.deref-2.ensures.value c.in_ok-sizes.ensures.count c.in_ok-sizes.ensures.each in
    let made = c.in_ok-cells.ensures.cells ∙ ap (cells_of o) c.deref-6.ensures.value in
    laid_out o c.in-Ok.queue.items before c.lay_members.new.layout c.in_ok-sizes.sizes.items c.in_ok-cells.cells.items (group c.in_ok-parts.parts.entries) (group c.in_ok-own_cells.own_cells.entries) k c.in-Ok.ensures.lawful c.in-Ok.ensures.few none c.class_count-classes.ensures.sound c.class_count-classes.ensures.values sizes c.new-2.ensures.items c.new.ensures.items c.in_default.ensures.laid made
    (λ owner n. c.in_ok-parts.ensures.groups owner n ∙ ap (numbers_from (is_part_of owner n) 0) c.deref-8.ensures.value) (λ owner n. c.in_ok-own_cells.ensures.groups owner n ∙ ap (numbers_from (is_cell_of owner n) 0) c.deref-9.ensures.value)

pub returns-clause-limits : goal.returns-clause-limits
returns-clause-limits c =
    let o = c.args.table.now in
    let k = c.in-Ok.ensures.kinds in
    let before : Layout = record { objects = c.new.result; leaves = c.new-2.result; cells = 0 } in
    let none = deep_none o c.in-Ok.queue.items k c.deref.result.now c.has_deep.result c.deref.ensures.value c.has_deep.ensures.deep c.if-has_deep.false in
    let sizes = kept_sizes o c.in-Ok.queue.items c.deref-2.result.now c.in_ok-sizes.sizes.items k c.deref-2.ensures.value c.in_ok-sizes.ensures.count c.in_ok-sizes.ensures.each in
    let made = c.in_ok-cells.ensures.cells ∙ ap (cells_of o) c.deref-6.ensures.value in
    let all = laid_out o c.in-Ok.queue.items before c.lay_members.new.layout c.in_ok-sizes.sizes.items c.in_ok-cells.cells.items (group c.in_ok-parts.parts.entries) (group c.in_ok-own_cells.own_cells.entries) k c.in-Ok.ensures.lawful c.in-Ok.ensures.few none c.class_count-classes.ensures.sound c.class_count-classes.ensures.values sizes c.new-2.ensures.items c.new.ensures.items c.in_default.ensures.laid made
    (λ owner n. c.in_ok-parts.ensures.groups owner n ∙ ap (numbers_from (is_part_of owner n) 0) c.deref-8.ensures.value) (λ owner n. c.in_ok-own_cells.ensures.groups owner n ∙ ap (numbers_from (is_cell_of owner n) 0) c.deref-9.ensures.value) in
    all.limits

pub spots_of-requires : goal.spots_of-requires
spots_of-requires c =
    let o = c.args.table.now in
    let before : Layout = record { objects = c.new.result; leaves = c.new-2.result; cells = 0 } in
    let laid = laid_objects o before c.lay_members.new.layout c.new-2.ensures.items c.new.ensures.items c.in_default.ensures.laid in
    let few = few_objects o c.in-Ok.queue.items c.in-Ok.ensures.kinds c.in-Ok.ensures.few in
    record { few = omega (arith, few, ap length laid.0, ap length c.deref-7.ensures.value) }

pub parts_of_objects-requires : goal.parts_of_objects-requires
parts_of_objects-requires c =
    let o = c.args.table.now in
    let before : Layout = record { objects = c.new.result; leaves = c.new-2.result; cells = 0 } in
    let laid = laid_objects o before c.lay_members.new.layout c.new-2.ensures.items c.new.ensures.items c.in_default.ensures.laid in
    let few = few_objects o c.in-Ok.queue.items c.in-Ok.ensures.kinds c.in-Ok.ensures.few in
    record { few = omega (arith, few, ap length laid.0, ap length c.deref-8.ensures.value) }
