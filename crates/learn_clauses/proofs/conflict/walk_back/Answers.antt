use Rattle.std.proofs.Common.{◌≡◌, ◌-◌, true, false, arith, length, sym, ◌∙◌}
use Rattle.running_clause.specs.Running.{listed}
use Rattle.learn_clauses.specs.Turns.{ends_at}
use Rattle.learn_clauses.proofs.WalkByIndex.{start_readable, walking_begins, entry_var, entry_resolves, walking_on, walk_ends, walk_closes}
use Rattle.learn_clauses.proofs.conflict.walk_back.Goals as goal

pub load-requires : goal.load-requires
load-requires c =
    start_readable c.args.clauses.now c.args.store.now c.trail-trail.result.now c.args.running.now
    c.args.conflict
    (record { levels_are = c.trail-trail.ensures.stack; kept = c.trail-trail.ensures.kept })
    c.requires.start

pub loop-left-init : goal.loop-left-init
loop-left-init c = record {
  left = omega arith;
  size = c.in_ok-load.ensures.len;
  walking = walking_begins c.args.clauses.now c.args.store.now c.trail-trail.result.now
      (length c.args.running.now) c.args.conflict _ _
      (record { levels_are = c.trail-trail.ensures.stack; kept = c.trail-trail.ensures.kept })
      c.requires.start c.in_ok-load.ensures.form c.in_ok-load.ensures.clause c.requires.none;
}

pub resolve_entry-requires-clause-var : goal.resolve_entry-requires-clause-var
resolve_entry-requires-clause-var c =
    let room = c.requires.start.room in
    let size = c.loop-left.invariant.size in
    entry_var c.args.clauses.now c.args.store.now.top.now c.trail-trail.result.now c.args.conflict
    (c.loop-left.left - 1) c.loop-left.left (length c.loop-left.running)
    c.index-trail-left.result _ _
    (record { left_is = omega arith; within = omega arith; is = c.index-trail-left.is })
    (omega (arith, room, size)) c.loop-left.invariant.walking

pub resolve_entry-requires-clause-step : goal.resolve_entry-requires-clause-step
resolve_entry-requires-clause-step c =
    let room = c.requires.start.room in
    let size = c.loop-left.invariant.size in
    entry_resolves c.args.clauses.now c.args.store.now c.trail-trail.result.now c.loop-left.running
    c.args.conflict (c.loop-left.left - 1) c.loop-left.left c.index-trail-left.result _ _
    (record { levels_are = c.trail-trail.ensures.stack; kept = c.trail-trail.ensures.kept })
    c.requires.start.within (omega (arith, room, size))
    (record { left_is = omega arith; within = omega arith; is = c.index-trail-left.is })
    c.loop-left.invariant.walking

pub returns-then-branch-clause-learnt : goal.returns-then-branch-clause-learnt
returns-then-branch-clause-learnt c =
    let ends : ends_at c.index-trail-left.result (listed 0 c.loop-left.running) ≡ true =
    sym c.in_ok-resolve_entry.ensures.ends ∙ c.if-branch.true in
    walk_ends c.args.clauses.now c.args.store.now c.trail-trail.result.now c.args.conflict
    (c.loop-left.left - 1) c.loop-left.left c.index-trail-left.result _ _ _ _
    (record { levels_are = c.trail-trail.ensures.stack; kept = c.trail-trail.ensures.kept })
    (record { left_is = omega arith; within = omega arith; is = c.index-trail-left.is })
    c.loop-left.invariant.walking
    ends c.in_ok-resolve_entry.ensures.clause c.in_ok-resolve_entry.ensures.steps

pub loop-left-preserved : goal.loop-left-preserved
loop-left-preserved c =
    let goes : ends_at c.index-trail-left.result (listed 0 c.loop-left.running) ≡ false =
    sym c.in_ok-resolve_entry.ensures.ends ∙ c.if-branch.false in
    record {
      left = omega arith;
      size = c.in_ok-resolve_entry.ensures.len ∙ c.loop-left.invariant.size;
      walking = walking_on c.args.clauses.now c.args.store.now c.trail-trail.result.now
          c.args.conflict (c.loop-left.left - 1) c.loop-left.left c.index-trail-left.result _ _ _ _
          (record { levels_are = c.trail-trail.ensures.stack; kept = c.trail-trail.ensures.kept })
          c.requires.start.within
          (record { left_is = omega arith; within = omega arith; is = c.index-trail-left.is })
          c.loop-left.invariant.walking
          goes c.in_ok-resolve_entry.ensures.form c.in_ok-resolve_entry.ensures.clause c.in_ok-resolve_entry.ensures.steps;
    }

pub returns-clause-learnt : goal.returns-clause-learnt
returns-clause-learnt c =
    walk_closes c.args.clauses.now c.args.store.now c.trail-trail.result.now c.args.conflict
    c.loop-left.left _ _
    (record { levels_are = c.trail-trail.ensures.stack; kept = c.trail-trail.ensures.kept })
    (omega arith) c.loop-left.invariant.walking
