use Rattle.std.proofs.Common.{◌≡◌, ◌<◌, ◌≤◌, List, false, length, get_or, option_map, sym, ap, ◌∙◌, subst}
use Rattle.serde_json.specs.View.{view}
use Rattle.view_steps.specs.Runs.{may_halt}
use Rattle.view_steps.specs.declared.moves.Move.{Move}
use Rattle.view_steps.proofs.HaltLaws.{halts_at}
use Rattle.view_steps.proofs.ListLaws.{all_next, all_done}
use Rattle.view_steps.proofs.run.first_halt.Goals as goal

pub returns-then-may_halt-clause-some : goal.returns-then-may_halt-clause-some
returns-then-may_halt-clause-some c =
    let n = c.loop-index.index in
    let same = c.deref-step-items.ensures.value in
    halts_at (option_map (λ v. view v.now) c.args.stop) c.args.run.now n c.step-item.result
    (subst (λ (ms : List Move). n < length ms) same c.loop-index-test.true)
    (c.step-item.is ∙ ap (λ (ms : List Move). get_or ms n c.step-item.result) same)
    (sym c.may_halt.ensures ∙ c.if-may_halt.true)

pub loop-index-preserved : goal.loop-index-preserved
loop-index-preserved c =
    let n = c.loop-index.index in
    let same = c.deref-step-items.ensures.value in
    all_next (λ m. may_halt c.args.run.now.rooms.entries (option_map (λ v. view v.now) c.args.stop) m ≡ false) c.args.run.now.left.items n
    c.step-item.result (subst (λ (ms : List Move). n < length ms) same c.loop-index-test.true)
    (c.step-item.is ∙ ap (λ (ms : List Move). get_or ms n c.step-item.result) same)
    (sym c.may_halt.ensures ∙ c.if-may_halt.false) c.loop-index.invariant

pub returns-clause-none : goal.returns-clause-none
returns-clause-none c =
    let n = c.loop-index.index in
    all_done (λ m. may_halt c.args.run.now.rooms.entries (option_map (λ v. view v.now) c.args.stop) m ≡ false) c.args.run.now.left.items n
    (subst (λ (ms : List Move). length ms ≤ n) c.deref-step-items.ensures.value c.loop-index-test.false)
    c.loop-index.invariant
