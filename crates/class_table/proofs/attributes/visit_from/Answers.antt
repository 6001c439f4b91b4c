use Rattle.std.proofs.Common.{◌≡◌, ◌<◌, subst, sym, arith, length, ◌∙◌}
use Rattle.class_table.specs.Faults.{pointed}
use Rattle.class_table.specs.Scopes.{IsRepeated}
use Rattle.graph_walk.specs.Walk.{IsNew, state_at}
use Rattle.graph_walk.specs.declared.walk.State.TheVariants.{New}
use Rattle.graph_walk.proofs.CycleLaws.{enters_stays, enters_reached}
use Rattle.class_table.proofs.ScopeSteps.{alone, scope_room, scope_enter, scope_repeated}
use Rattle.class_table.proofs.FaultLaws.{on_fault}
use Rattle.class_table.proofs.attributes.visit_from.Goals as goal

pub enter-requires-clause-room : goal.enter-requires-clause-room
enter-requires-clause-room c =
    let cs = c.args.family.now.classes.now in
    let ds = pointed c.args.family.now.decls.now in
    let g = c.args.family.now.graph.now in
    let ss = c.args.walk.now.states.items in
    let on : c.args.root < length ds = omega (arith, c.requires.root, c.requires.family.children.size, c.requires.family.size) in
    let new : state_at ss c.args.root ≡ New c.in-New.edges = sym c.state.ensures.state ∙ c.in-New.is in
    scope_room cs ds g c.requires.family ss c.args.walk.now.path.items c.args.walk.now.done c.args.root c.args.scope.now.names c.args.scope.now.counts.items c.requires.walk c.requires.scope on (subst IsNew (sym new) tt)

pub returns-in-Err-clause-fault : goal.returns-in-Err-clause-fault
returns-in-Err-clause-fault c =
    let cs = c.args.family.now.classes.now in
    let ds = pointed c.args.family.now.decls.now in
    let g = c.args.family.now.graph.now in
    let ss = c.args.walk.now.states.items in
    let p = c.args.walk.now.path.items in
    let on : c.args.root < length ds = omega (arith, c.requires.root, c.requires.family.children.size, c.requires.family.size) in
    on_fault c.in-Err.fault _ (IsRepeated cs ds)
    (λ f h. scope_repeated cs ds g c.requires.family ss p c.args.walk.now.done c.args.root h.0 c.args.scope.now.names c.args.scope.now.counts.items f c.requires.walk c.requires.scope on (alone c.requires.path c.requires.alone) h.1 h.2)
    c.in-Err.ensures.fault

pub steps-init : goal.steps-init
steps-init c =
    let cs = c.args.family.now.classes.now in
    let ds = pointed c.args.family.now.decls.now in
    let g = c.args.family.now.graph.now in
    let ss = c.args.walk.now.states.items in
    let p = c.args.walk.now.path.items in
    record {
      walk = c.in_ok-begin.ensures.walk;
      scope = scope_enter cs ds g c.requires.family ss p c.args.walk.now.done c.args.root c.args.scope.now.names c.args.scope.now.counts.items c.begin.new.self.states.items c.begin.new.self.path.items c.enter.new.scope.names c.enter.new.scope.counts.items
          c.requires.walk c.requires.scope c.in_ok-begin.ensures.enters (alone c.requires.path c.requires.alone) c.in_default-enter.ensures.names c.in_default-enter.ensures.differ c.in_default-enter.ensures.counts;
      stays = enters_stays g ss p c.args.walk.now.done c.args.root c.begin.new.self.states.items c.begin.new.self.path.items c.requires.walk c.in_ok-begin.ensures.enters;
      reached = enters_reached g ss p c.args.walk.now.done c.args.root c.begin.new.self.states.items c.begin.new.self.path.items c.requires.walk c.in_ok-begin.ensures.enters;
    }
