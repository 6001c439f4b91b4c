use Rattle.std.proofs.lemmas.Result.{on_ok_weaker, IfErr-weaker}
use Rattle.std.proofs.Common.{rules, ◌≡◌, ◌+◌, ◌-◌, length, drop, arith, refl}
use Rattle.object_alloc.specs.declared.layout.Layout.{Layout}
use Rattle.object_alloc.specs.declared.object.Object.{Object}
use Rattle.object_alloc.specs.Sums.{weight, deep}
use Rattle.object_alloc.specs.Variables.{variables}
use Rattle.object_alloc.specs.Walk.{visit, members, attribute, elements}
use Rattle.object_alloc.proofs.LayingLaws.{ready_next, refused_next, laid_next, members_split, elements_split, held_shallow, element_shallow, object_depth, object_shallow, object_ready, object_refused, object_laid}
use Rattle.object_alloc.proofs.Members.{variable_at, variable_there}
use Rattle.object_alloc.proofs.layout.+lay.Goals as goal

-- src/layout.rt:191:5
pub lay_elements-lay_object-requires : goal.lay_elements-lay_object-requires
lay_elements-lay_object-requires t c =
    let o = c.args.extents.table.now in
    let x : Object = record { class = c.args.class; depth = c.args.inside.depth + 1; owner = c.args.inside.owner; attribute = c.args.k; element = c.loop-i.i } in
    (omega (arith, c.decreases), (ready_next o c.args.extents.sizes.now c.args.layout.now (elements (visit o) c.args.inside c.args.k c.args.class c.args.count 0) c.loop-i.layout (elements (visit o) c.args.inside c.args.k c.args.class (c.args.count - c.loop-i.i) c.loop-i.i) (λ n. visit o n x) (elements (visit o) c.args.inside c.args.k c.args.class (c.args.count - (c.loop-i.i + 1)) (c.loop-i.i + 1)) c.loop-i.invariant (elements_split (visit o) c.args.inside c.args.k c.args.class c.args.count c.loop-i.i c.loop-i-test.true) c.requires.ready, (c.requires.class, element_shallow (weight o deep) c.args.class (c.args.inside.depth + 1) c.args.count c.loop-i.i c.loop-i-test.true c.requires.shallow)))

pub lay_elements-returns-in-Err-clause-fault : goal.lay_elements-returns-in-Err-clause-fault
lay_elements-returns-in-Err-clause-fault t c =
    let o = c.args.extents.table.now in
    let x : Object = record { class = c.args.class; depth = c.args.inside.depth + 1; owner = c.args.inside.owner; attribute = c.args.k; element = c.loop-i.i } in
    refused_next o c.args.extents.sizes.now c.args.layout.now (elements (visit o) c.args.inside c.args.k c.args.class c.args.count 0) c.loop-i.layout (elements (visit o) c.args.inside c.args.k c.args.class (c.args.count - c.loop-i.i) c.loop-i.i) (λ n. visit o n x) (elements (visit o) c.args.inside c.args.k c.args.class (c.args.count - (c.loop-i.i + 1)) (c.loop-i.i + 1)) c.loop-i.invariant (elements_split (visit o) c.args.inside c.args.k c.args.class c.args.count c.loop-i.i c.loop-i-test.true) c.in-Err.fault c.in-Err.ensures.fault

pub lay_elements-loop-i-preserved : goal.lay_elements-loop-i-preserved
lay_elements-loop-i-preserved t c =
    let o = c.args.extents.table.now in
    let x : Object = record { class = c.args.class; depth = c.args.inside.depth + 1; owner = c.args.inside.owner; attribute = c.args.k; element = c.loop-i.i } in
    laid_next o c.args.extents.sizes.now c.args.layout.now (elements (visit o) c.args.inside c.args.k c.args.class c.args.count 0) c.loop-i.layout (elements (visit o) c.args.inside c.args.k c.args.class (c.args.count - c.loop-i.i) c.loop-i.i) (λ n. visit o n x) (elements (visit o) c.args.inside c.args.k c.args.class (c.args.count - (c.loop-i.i + 1)) (c.loop-i.i + 1)) c.loop-i.invariant (elements_split (visit o) c.args.inside c.args.k c.args.class c.args.count c.loop-i.i c.loop-i-test.true) c.lay_object.new.layout c.in_default.ensures.laid

pub lay_members-lay_attribute-requires : goal.lay_members-lay_attribute-requires
lay_members-lay_attribute-requires t c =
    let o = c.args.extents.table.now in
    let vs = variables o c.args.class in
    let a = variable_at vs c.loop-k.k c.shape_at-shape.result (search rules) c.shape_at-shape.ensures.shape in
    (omega (arith, c.decreases), (ready_next o c.args.extents.sizes.now c.args.layout.now (members (visit o) c.args.inside 0 vs) c.loop-k.layout (members (visit o) c.args.inside c.loop-k.k (drop c.loop-k.k vs)) (attribute (visit o) c.args.inside c.loop-k.k c.shape_at-shape.result) (members (visit o) c.args.inside (c.loop-k.k + 1) (drop (c.loop-k.k + 1) vs)) c.loop-k.invariant (members_split (visit o) c.args.inside vs c.loop-k.k c.shape_at-shape.result a) c.requires.ready, (variable_there o c.requires.ready.sound c.args.class c.loop-k.k c.shape_at-shape.result a, (c.requires.depth, held_shallow (weight o deep) (c.args.inside.depth + 1) vs c.loop-k.k c.shape_at-shape.result a c.requires.shallow))))

pub lay_members-returns-in-Err-clause-fault : goal.lay_members-returns-in-Err-clause-fault
lay_members-returns-in-Err-clause-fault t c =
    let o = c.args.extents.table.now in
    let vs = variables o c.args.class in
    let a = variable_at vs c.loop-k.k c.shape_at-shape.result (search rules) c.shape_at-shape.ensures.shape in
    refused_next o c.args.extents.sizes.now c.args.layout.now (members (visit o) c.args.inside 0 vs) c.loop-k.layout (members (visit o) c.args.inside c.loop-k.k (drop c.loop-k.k vs)) (attribute (visit o) c.args.inside c.loop-k.k c.shape_at-shape.result) (members (visit o) c.args.inside (c.loop-k.k + 1) (drop (c.loop-k.k + 1) vs)) c.loop-k.invariant (members_split (visit o) c.args.inside vs c.loop-k.k c.shape_at-shape.result a) c.in-Err.fault c.in-Err.ensures.fault

pub lay_members-loop-k-preserved : goal.lay_members-loop-k-preserved
lay_members-loop-k-preserved t c =
    let o = c.args.extents.table.now in
    let vs = variables o c.args.class in
    let a = variable_at vs c.loop-k.k c.shape_at-shape.result (search rules) c.shape_at-shape.ensures.shape in
    laid_next o c.args.extents.sizes.now c.args.layout.now (members (visit o) c.args.inside 0 vs) c.loop-k.layout (members (visit o) c.args.inside c.loop-k.k (drop c.loop-k.k vs)) (attribute (visit o) c.args.inside c.loop-k.k c.shape_at-shape.result) (members (visit o) c.args.inside (c.loop-k.k + 1) (drop (c.loop-k.k + 1) vs)) c.loop-k.invariant (members_split (visit o) c.args.inside vs c.loop-k.k c.shape_at-shape.result a) c.lay_attribute.new.layout c.in_default.ensures.laid

pub lay_object-lay_members-requires : goal.lay_object-lay_members-requires
lay_object-lay_members-requires t c =
    let o = c.args.extents.table.now in
    let x = c.args.object in
    let mid : Layout = record { objects = c.push.new.self; leaves = c.args.layout.now.leaves; cells = c.args.layout.now.cells } in
    let number : c.len-number.result ≡ length c.args.layout.now.objects.items = search rules in
    let depth = object_depth o c.requires.ready.sound x.depth x.class c.requires.class c.requires.shallow in
    (omega (arith, c.decreases, depth), (object_ready o c.args.layout.now mid x c.len-number.result number c.requires.ready.sound c.requires.class c.in_ok-push.ensures.items refl refl c.args.extents.sizes.now c.requires.ready, (c.requires.class, (depth, object_shallow o c.requires.ready.sound x.depth x.class c.requires.class c.requires.shallow))))

pub lay_object-returns-clause-laid : goal.lay_object-returns-clause-laid
lay_object-returns-clause-laid t c =
    let mid : Layout = record { objects = c.push.new.self; leaves = c.args.layout.now.leaves; cells = c.args.layout.now.cells } in
    let number : c.len-number.result ≡ length c.args.layout.now.objects.items = search rules in
    on_ok_weaker c.lay_members.result (λ h. object_laid c.args.extents.table.now c.args.layout.now mid c.args.object c.len-number.result number c.requires.ready.sound c.requires.class c.in_ok-push.ensures.items refl refl c.lay_members.new.layout h) c.lay_members.ensures.laid

pub lay_object-returns-clause-fault : goal.lay_object-returns-clause-fault
lay_object-returns-clause-fault t c =
    let mid : Layout = record { objects = c.push.new.self; leaves = c.args.layout.now.leaves; cells = c.args.layout.now.cells } in
    let number : c.len-number.result ≡ length c.args.layout.now.objects.items = search rules in
    IfErr-weaker c.lay_members.result _ _ (λ f h. object_refused c.args.extents.table.now c.args.layout.now mid c.args.object c.len-number.result number c.requires.ready.sound c.requires.class c.in_ok-push.ensures.items refl refl f h) c.lay_members.ensures.fault
