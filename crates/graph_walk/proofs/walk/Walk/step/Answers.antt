use Rattle.std.proofs.Common.{◌≡◌, ◌<◌, ◌-◌, suc, arith, refl, sym, subst, length, take, ◌∙◌, ap, inl, inr}
use Rattle.graph_walk.specs.Walk.{state_at}
use Rattle.graph_walk.specs.declared.walk.State.TheVariants.{Open}
use Rattle.graph_walk.proofs.WalkLaws.{makes_left, makes_entered, makes_passed, makes_closed, open_suc, never_new, never_done, some_undone, target_on, top_open}
use Rattle.graph_walk.proofs.walk.Walk.step.Goals as goal

pub leave-requires-clause-done : goal.leave-requires-clause-done
leave-requires-clause-done c =
    let path = c.args.self.now.path.items in
    some_undone c.args.graph.now c.args.self.now.states.items path (take (length path - 1) path) c.args.self.now.done c.last-node.result c.requires.walk c.last-node.ensures.last

pub unreachable-requires : goal.unreachable-requires
unreachable-requires c =
    let path = c.args.self.now.path.items in
    let opened = top_open c.args.graph.now c.args.self.now.states.items path (take (length path - 1) path) c.args.self.now.done c.last-node.result c.requires.walk c.last-node.ensures.last in
    elim c.in-New.is [ inl x ↦ never_new _ x.0 opened (sym c.state.ensures.state ∙ x.1) | inr x ↦ never_done _ x.0 opened (sym c.state.ensures.state ∙ x.1) ]

pub returns-in-Open-eq0 : goal.returns-in-Open-eq0
returns-in-Open-eq0 c =
    let path = c.args.self.now.path.items in
    let ss = c.args.self.now.states.items in
    let is : state_at ss c.last-node.result ≡ Open 0 = sym c.state.ensures.state ∙ c.in-Open-eq0.is ∙ ap (λ n. Open n) c.in-Open-eq0.field-0-test in
    record {
      made = makes_left c.args.graph.now ss path c.leave.new.self.path.items c.args.self.now.done c.last-node.result c.leave.new.self.states.items (take (length path - 1) path) c.leave.new.self.done
          c.requires.walk c.last-node.ensures.last is c.leave.ensures.states c.leave.ensures.path c.leave.ensures.done;
    }

pub returns-in_ok-enter-in-New-state : goal.returns-in_ok-enter-in-New-state
returns-in_ok-enter-in-New-state c =
    let g = c.args.graph.now in
    let path = c.args.self.now.path.items in
    let ss = c.args.self.now.states.items in
    let q = take (length path - 1) path in
    let node = c.last-node.result in
    let l = c.in-Open.edges - 1 in
    let some : 0 < c.in-Open.edges = omega arith in
    let is : state_at ss node ≡ Open (suc l) = open_suc (state_at ss node) c.in-Open.edges some (sym c.state.ensures.state ∙ c.in-Open.is) in
    let on = target_on g ss path q c.args.self.now.done node l c.requires.range c.requires.walk c.last-node.ensures.last is in
    record {
      made = makes_entered g ss path q c.args.self.now.done node l c.target-to.result c.in-New-state.more c.enter.new.self.states.items c.enter.new.self.path.items c.enter.new.self.done
          c.requires.walk c.last-node.ensures.last is (sym c.target-to.ensures.target) (subst (λ x. x < length g) (sym c.target-to.ensures.target) on) (sym c.state-in-Open.ensures.state ∙ c.in-New-state.is)
          c.in_ok-enter-in-New-state.ensures.states c.in_ok-enter-in-New-state.ensures.path c.in_ok-enter-in-New-state.ensures.done;
    }

pub returns-in-Done : goal.returns-in-Done
returns-in-Done c =
    let g = c.args.graph.now in
    let path = c.args.self.now.path.items in
    let ss = c.args.self.now.states.items in
    let q = take (length path - 1) path in
    let node = c.last-node.result in
    let l = c.in-Open.edges - 1 in
    let some : 0 < c.in-Open.edges = omega arith in
    let is : state_at ss node ≡ Open (suc l) = open_suc (state_at ss node) c.in-Open.edges some (sym c.state.ensures.state ∙ c.in-Open.is) in
    let on = target_on g ss path q c.args.self.now.done node l c.requires.range c.requires.walk c.last-node.ensures.last is in
    record {
      made = makes_passed g ss path q c.args.self.now.done node l c.in-Done.field-0 _ path c.args.self.now.done
          c.requires.walk c.last-node.ensures.last is (ap (λ x. state_at ss x) (sym c.target-to.ensures.target) ∙ sym c.state-in-Open.ensures.state ∙ c.in-Done.is) on refl refl refl;
    }

pub returns-in-Open-state : goal.returns-in-Open-state
returns-in-Open-state c =
    let g = c.args.graph.now in
    let path = c.args.self.now.path.items in
    let ss = c.args.self.now.states.items in
    let q = take (length path - 1) path in
    let node = c.last-node.result in
    let l = c.in-Open.edges - 1 in
    let some : 0 < c.in-Open.edges = omega arith in
    let is : state_at ss node ≡ Open (suc l) = open_suc (state_at ss node) c.in-Open.edges some (sym c.state.ensures.state ∙ c.in-Open.is) in
    let on = target_on g ss path q c.args.self.now.done node l c.requires.range c.requires.walk c.last-node.ensures.last is in
    record {
      made = makes_closed g ss path q c.args.self.now.done node l c.target-to.result c.in-Open-state.field-0
          c.requires.walk c.last-node.ensures.last is (sym c.target-to.ensures.target) (subst (λ x. x < length g) (sym c.target-to.ensures.target) on) (sym c.state-in-Open.ensures.state ∙ c.in-Open-state.is);
    }
