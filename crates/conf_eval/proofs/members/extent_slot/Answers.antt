use Rattle.std.proofs.Common.{None, sym, ◌∙◌, arith, true, false}
use Rattle.object_alloc.specs.declared.object.Object.{Object}
use Rattle.object_alloc.specs.Walk.{objects}
use Rattle.conf_eval.proofs.ListingLaws.{no_extent_slot, own_extent_slot}
use Rattle.conf_eval.proofs.members.extent_slot.Goals as goal

pub returns-then-i-count : goal.returns-then-i-count
returns-then-i-count c =
    let o = c.args.scene.now.objects.now in
    record { slot = sym (no_extent_slot o.classes c.args.class 0 (objects o) c.args.i (omega (arith, c.if-i-count.true, c.count.ensures.count))) }

none : Object
none = record { class = 0; depth = 0; owner = None; attribute = 0; element = 0 }

pub returns-then-is_of : goal.returns-then-is_of
returns-then-is_of c =
    let o = c.args.scene.now.objects.now in
    record { slot = own_extent_slot o.classes c.args.class (objects o) c.args.i none true (omega (arith, c.if-i-count.false, c.count.ensures.count)) (sym c.if-is_of.true ∙ c.is_of.ensures.is none) }

pub returns-else-is_of : goal.returns-else-is_of
returns-else-is_of c =
    let o = c.args.scene.now.objects.now in
    record { slot = own_extent_slot o.classes c.args.class (objects o) c.args.i none false (omega (arith, c.if-i-count.false, c.count.ensures.count)) (sym c.if-is_of.false ∙ c.is_of.ensures.is none) }
