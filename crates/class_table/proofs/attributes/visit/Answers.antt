use Rattle.std.proofs.Common.{◌<◌, subst, sym, arith, length}
use Rattle.class_table.specs.Faults.{pointed}
use Rattle.class_table.specs.Scopes.{IsRepeated}
use Rattle.graph_walk.specs.Walk.{Makes, IsNew}
use Rattle.class_table.proofs.ScopeSteps.{scope_room, scope_enter, scope_pass, scope_leave, scope_repeated, never_closed, stands_above}
use Rattle.class_table.proofs.FaultLaws.{on_fault}
use Rattle.class_table.proofs.attributes.visit.Goals as goal

pub enter-requires-clause-room : goal.enter-requires-clause-room
enter-requires-clause-room c =
    let cs = c.args.family.now.classes.now in
    let ds = pointed c.args.family.now.decls.now in
    let g = c.args.family.now.graph.now in
    let ss = c.args.walk.now.states.items in
    let p = c.args.walk.now.path.items in
    let made = subst (λ s. Makes g ss p c.args.walk.now.done c.step.new.self.states.items c.step.new.self.path.items c.step.new.self.done s) c.in-Entered.is c.in_ok-step.ensures.made in
    let on : c.in-Entered.class < length ds = omega (arith, made.steps.1.on_graph, c.requires.family.children.size, c.requires.family.size) in
    scope_room cs ds g c.requires.family ss p c.args.walk.now.done c.in-Entered.class c.args.scope.now.names c.args.scope.now.counts.items c.requires.walk c.requires.scope on (subst IsNew (sym made.steps.1.was) tt)

pub unreachable-requires : goal.unreachable-requires
unreachable-requires c =
    let cs = c.args.family.now.classes.now in
    let ds = pointed c.args.family.now.decls.now in
    let g = c.args.family.now.graph.now in
    let ss = c.args.walk.now.states.items in
    let p = c.args.walk.now.path.items in
    let made = subst (λ s. Makes g ss p c.args.walk.now.done c.step.new.self.states.items c.step.new.self.path.items c.step.new.self.done s) c.in-Closed.is c.in_ok-step.ensures.made in
    never_closed cs ds g c.requires.family ss p c.args.walk.now.done c.in-Closed.field-0 c.requires.walk made.steps.0 made.steps.1 made.steps.2

pub returns-in-Err-clause-fault : goal.returns-in-Err-clause-fault
returns-in-Err-clause-fault c =
    let cs = c.args.family.now.classes.now in
    let ds = pointed c.args.family.now.decls.now in
    let g = c.args.family.now.graph.now in
    let ss = c.args.walk.now.states.items in
    let p = c.args.walk.now.path.items in
    let made = subst (λ s. Makes g ss p c.args.walk.now.done c.step.new.self.states.items c.step.new.self.path.items c.step.new.self.done s) c.in-Entered.is c.in_ok-step.ensures.made in
    let on : c.in-Entered.class < length ds = omega (arith, made.steps.1.on_graph, c.requires.family.children.size, c.requires.family.size) in
    on_fault c.in-Err.fault _ (IsRepeated cs ds)
    (λ f h. scope_repeated cs ds g c.requires.family ss p c.args.walk.now.done c.in-Entered.class h.0 c.args.scope.now.names c.args.scope.now.counts.items f c.requires.walk c.requires.scope on (stands_above cs ds g c.requires.family ss p c.args.walk.now.done c.in-Entered.class c.requires.walk made.steps.0) h.1 h.2)
    c.in-Err.ensures.fault

pub returns-in_default-clause-scope : goal.returns-in_default-clause-scope
returns-in_default-clause-scope c =
    let cs = c.args.family.now.classes.now in
    let ds = pointed c.args.family.now.decls.now in
    let g = c.args.family.now.graph.now in
    let ss = c.args.walk.now.states.items in
    let p = c.args.walk.now.path.items in
    let made = subst (λ s. Makes g ss p c.args.walk.now.done c.step.new.self.states.items c.step.new.self.path.items c.step.new.self.done s) c.in-Entered.is c.in_ok-step.ensures.made in
    scope_enter cs ds g c.requires.family ss p c.args.walk.now.done c.in-Entered.class c.args.scope.now.names c.args.scope.now.counts.items c.step.new.self.states.items c.step.new.self.path.items c.enter.new.scope.names c.enter.new.scope.counts.items
    c.requires.walk c.requires.scope made.steps.1 (stands_above cs ds g c.requires.family ss p c.args.walk.now.done c.in-Entered.class c.requires.walk made.steps.0)
    c.in_default.ensures.names c.in_default.ensures.differ c.in_default.ensures.counts

pub returns-in-Passed-clause-scope : goal.returns-in-Passed-clause-scope
returns-in-Passed-clause-scope c =
    let cs = c.args.family.now.classes.now in
    let ds = pointed c.args.family.now.decls.now in
    let g = c.args.family.now.graph.now in
    let ss = c.args.walk.now.states.items in
    let p = c.args.walk.now.path.items in
    let made = subst (λ s. Makes g ss p c.args.walk.now.done c.step.new.self.states.items c.step.new.self.path.items c.step.new.self.done s) c.in-Passed.is c.in_ok-step.ensures.made in
    scope_pass cs ds g c.requires.family ss p c.args.walk.now.done c.args.scope.now.names c.args.scope.now.counts.items c.step.new.self.states.items c.step.new.self.path.items c.requires.walk c.requires.scope made.steps

pub returns-in-Left-clause-scope : goal.returns-in-Left-clause-scope
returns-in-Left-clause-scope c =
    let cs = c.args.family.now.classes.now in
    let ds = pointed c.args.family.now.decls.now in
    let g = c.args.family.now.graph.now in
    let ss = c.args.walk.now.states.items in
    let p = c.args.walk.now.path.items in
    let made = subst (λ s. Makes g ss p c.args.walk.now.done c.step.new.self.states.items c.step.new.self.path.items c.step.new.self.done s) c.in-Left.is c.in_ok-step.ensures.made in
    scope_leave cs ds g c.requires.family ss p c.args.walk.now.done c.in-Left.field-0 c.count_at-kept.result c.args.scope.now.names c.args.scope.now.counts.items c.step.new.self.states.items c.step.new.self.path.items c.truncate.new.self
    c.requires.walk c.requires.scope made.steps c.count_at-kept.ensures.none c.count_at-kept.ensures.top c.truncate.ensures.values
