use Rattle.std.proofs.Common.{◌≡◌, ◌<◌, ◌+◌, ◌-◌, arith, subst, sym, length, Some, None, ◌∙◌}
use Rattle.std.specs.Prelude.{slice_index}
use Rattle.std.proofs.lemmas.Grind.{common_steps}
use Rattle.graph_walk.specs.Walk.{state_at, edge_at, looked_at}
use Rattle.graph_walk.specs.Cycles.{IsScanned}
use Rattle.graph_walk.proofs.CycleLaws.{on_cycle, plain_cycle}
use Rattle.graph_walk.proofs.cycle.place_on_cycle.Goals as goal

pub returns-in-Some-clause-some : goal.returns-in-Some-clause-some
returns-in-Some-clause-some c =
    let g = c.args.graph.now in
    let ss = c.args.walk.now.states.items in
    let p = c.args.walk.now.path.items in
    let i = c.loop-at.at - 1 in
    let here : i < length p = omega (arith, c.loop-at.invariant.within) in
    let next : c.loop-at.at ≡ i + 1 = omega arith in
    let scanned = subst (λ k. IsScanned g ss p c.args.to k) next c.loop-at.invariant in
    let node : c.index-node.result.now ≡ slice_index p i = grind (arith, common_steps) in
    on_cycle g ss p c.args.walk.now.done c.args.to c.requires.walk c.requires.stands i c.in-Some.place here c.requires.opened c.requires.on_graph scanned
    (subst (λ x. (edge_at g x (looked_at (state_at ss x))).place ≡ Some c.in-Some.place) node (sym c.place.ensures.place ∙ c.in-Some.is))

pub returns-then-node-to-clause-none : goal.returns-then-node-to-clause-none
returns-then-node-to-clause-none c =
    let g = c.args.graph.now in
    let ss = c.args.walk.now.states.items in
    let p = c.args.walk.now.path.items in
    let i = c.loop-at.at - 1 in
    let here : i < length p = omega (arith, c.loop-at.invariant.within) in
    let next : c.loop-at.at ≡ i + 1 = omega arith in
    let scanned = subst (λ k. IsScanned g ss p c.args.to k) next c.loop-at.invariant in
    let node : c.index-node.result.now ≡ slice_index p i = grind (arith, common_steps) in
    plain_cycle g ss p c.args.walk.now.done c.args.to c.requires.walk c.requires.stands i here (sym node ∙ c.if-node-to.true) scanned
    (subst (λ x. (edge_at g x (looked_at (state_at ss x))).place ≡ None) node (sym c.place.ensures.place ∙ c.in_default.is))
