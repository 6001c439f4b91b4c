use Rattle.std.proofs.Common.{◌≡◌, length, sym, ◌∙◌}
use Rattle.class_table.specs.Faults.{pointed}
use Rattle.class_table.proofs.RangeLaws.{length_pointed}
use Rattle.class_table.proofs.ScopeSteps.{scope_begins, covered}
use Rattle.class_table.proofs.attributes.count_along.Goals as goal

pub visit_all-requires-clause-scope : goal.visit_all-requires-clause-scope
visit_all-requires-clause-scope c =
    let ds = pointed c.args.family.now.decls.now in
    let size : length c.in_ok-counts.counts.items ≡ length ds = c.in_ok-counts.ensures.size ∙ sym (length_pointed c.args.family.now.decls.now) in
    scope_begins c.args.family.now.classes.now ds c.args.family.now.graph.now c.requires.family
    c.in_ok-walk.walk.states.items c.in_ok-walk.walk.path.items c.new-names.result c.in_ok-counts.counts.items
    c.in_ok-walk.ensures.states c.in_ok-walk.ensures.path c.new-names.ensures.values size

pub returns-in-Ok-clause-counts : goal.returns-in-Ok-clause-counts
returns-in-Ok-clause-counts c =
    λ k on. (c.in-Ok.ensures.scope.checked k on (covered c.args.family.now.classes.now (pointed c.args.family.now.decls.now) c.args.family.now.graph.now c.requires.family c.visit_all.new.walk.states.items c.visit_all.new.walk.path.items c.visit_all.new.walk.done c.in-Ok.ensures.walk c.in-Ok.ensures.path c.in-Ok.ensures.reached k on)).1

pub returns-in-Ok-clause-differ : goal.returns-in-Ok-clause-differ
returns-in-Ok-clause-differ c =
    λ k on. (c.in-Ok.ensures.scope.checked k on (covered c.args.family.now.classes.now (pointed c.args.family.now.decls.now) c.args.family.now.graph.now c.requires.family c.visit_all.new.walk.states.items c.visit_all.new.walk.path.items c.visit_all.new.walk.done c.in-Ok.ensures.walk c.in-Ok.ensures.path c.in-Ok.ensures.reached k on)).0
