use Rattle.std.proofs.Common.{sym, subst}
use Rattle.class_table.specs.Paths.{IsEnd}
use Rattle.class_table.proofs.PathLaws.{settled, own_differ_here}
use Rattle.class_table.proofs.paths.settle.Goals as goal

pub append-requires-clause-differ : goal.append-requires-clause-differ
append-requires-clause-differ c =
    let cs = c.args.tree.now.classes.now in
    let order = c.args.tree.now.order.now in
    let path = c.index_mut.result.now in
    let end = subst (λ x. IsEnd cs order x c.args.class) (sym c.index_mut.ensures.value) (c.in_ok-number.ensures.end path) in
    own_differ_here cs c.args.tree.now.counts.now order c.requires.table path c.args.class c.requires.class end

pub returns-clause-paths : goal.returns-clause-paths
returns-clause-paths c =
    let cs = c.args.tree.now.classes.now in
    let order = c.args.tree.now.order.now in
    let path = c.index_mut.result.now in
    let end = subst (λ x. IsEnd cs order x c.args.class) (sym c.index_mut.ensures.value) (c.in_ok-number.ensures.end path) in
    let new = c.in_ok-append.ensures in
    settled cs c.args.tree.now.counts.now order c.requires.table path c.append.new.path c.args.class c.requires.class new.above new.from new.names new.spots end
    c.path_to.new.paths.all.items c.path_to.new.paths.on.items c.in_ok-number.number c.in_ok-number.ensures.paths c.in_ok-number.ensures.there c.index_mut.ensures.value
