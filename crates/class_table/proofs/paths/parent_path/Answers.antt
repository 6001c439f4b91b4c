use Rattle.std.proofs.Common.{◌≡◌, ◌-◌, Some, length, sym, subst, arith}
use Rattle.class_table.specs.Outline.{parent_in, attributes}
use Rattle.class_table.specs.Paths.{IsOn, IsEnd, path_of}
use Rattle.class_table.proofs.PathLaws.{parent_end, read_any}
use Rattle.class_table.proofs.paths.parent_path.Goals as goal

pub returns-then-len-count-2-clause-end : goal.returns-then-len-count-2-clause-end
returns-then-len-count-2-clause-end c =
    λ d. (
    let cs = c.args.tree.now.classes.now in
    let counts = c.args.tree.now.counts.now in
    let order = c.args.tree.now.order.now in
    let path = c.index-path.result.now in
    let p = c.in_ok-parent.parent in
    let up : parent_in cs c.args.class ≡ Some p = sym c.in_ok-parent.ensures.parent in
    let at = c.requires.table.parents c.args.class p up in
    let found : path_of c.args.paths.now.on.items p ≡ Some c.in_ok-number.number = sym c.in_ok-number.ensures.number in
    let is = c.requires.paths.each p c.in_ok-number.number at found in
    let on = subst (λ x. IsOn cs order x p) (sym c.index-path.ensures) (is.1 path) in
    let count = c.requires.table.counted p at in
    let names : length path.names ≡ length (attributes cs p) - path.from = omega (arith, c.if-len-count.true, count, c.len.ensures.length) in
    let spots : length path.spots.items ≡ length (attributes cs p) - path.from = omega (arith, c.if-len-count-2.true, count, c.len-then-len-count.ensures) in
    let end = parent_end cs counts order c.requires.table path c.args.class p up on names spots in
    subst (λ x. IsEnd cs order x c.args.class) (read_any c.args.paths.now.all.items c.in_ok-number.number path d is.0 c.index-path.ensures) end)
