use Rattle.std.proofs.Common.{◌≡◌, ◌++◌, ◌∷◌, [], ◌-◌, length, sym, ap, subst, arith}
use Rattle.std.specs.Prelude.{slice_index_or}
use Rattle.class_table.specs.declared.paths.Path.{Path}
use Rattle.class_table.specs.Outline.{own_in}
use Rattle.class_table.specs.Paths.{ArePaths, IsEnd}
use Rattle.class_table.proofs.PathLaws.{begun, paths_more, end_more}
use Rattle.class_table.proofs.TableLaws.{own_few}
use Rattle.class_table.proofs.paths.path_to.Goals as goal

pub overflow_sub-path : goal.overflow_sub-path
overflow_sub-path c =
    let few = own_few c.args.tree.now.classes.now c.args.tree.now.counts.now c.args.tree.now.order.now c.requires.table c.args.class c.requires.class in
    omega (arith, few, ap length c.own_of.ensures.own)

pub returns-clause-paths : goal.returns-clause-paths
returns-clause-paths c =
    let cs = c.args.tree.now.classes.now in
    let counts = c.args.tree.now.counts.now in
    let order = c.args.tree.now.order.now in
    let new : Path = record { above = c.parent_of.result; from = slice_index_or counts c.args.class 0 - length c.own_of.result.now; names = c.new.result; spots = c.new-2.result } in
    subst (λ ps. ArePaths cs order ps c.args.paths.now.on.items) (sym c.in_ok-push.ensures.items) (paths_more cs counts order c.requires.table c.args.paths.now.all.items c.args.paths.now.on.items new c.requires.paths)

pub returns-clause-end : goal.returns-clause-end
returns-clause-end c =
    λ d. (
    let cs = c.args.tree.now.classes.now in
    let counts = c.args.tree.now.counts.now in
    let order = c.args.tree.now.order.now in
    let old = c.args.paths.now.all.items in
    let new : Path = record { above = c.parent_of.result; from = slice_index_or counts c.args.class 0 - length c.own_of.result.now; names = c.new.result; spots = c.new-2.result } in
    let from : slice_index_or counts c.args.class 0 - length c.own_of.result.now ≡ slice_index_or counts c.args.class 0 - length (own_in cs c.args.class) = ap (λ n. slice_index_or counts c.args.class 0 - n) (ap length c.own_of.ensures.own) in
    let end = begun cs counts order c.requires.table new c.args.class c.requires.class c.parent_of.ensures.parent from c.new.ensures.values c.new-2.ensures.items in
    let at : c.len-number.result ≡ length old = omega (arith, c.len-number.ensures) in
    subst (λ ps. IsEnd cs order (slice_index_or ps c.len-number.result d) c.args.class) (sym c.in_ok-push.ensures.items)
    (subst (λ i. IsEnd cs order (slice_index_or (old ++ new ∷ []) i d) c.args.class) (sym at) (end_more cs counts order c.requires.table old new c.args.class end d)))
