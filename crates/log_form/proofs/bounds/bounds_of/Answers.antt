use Rattle.std.proofs.Common.{arith}
use Rattle.log_form.proofs.BoundSteps.{next_clause}
use Rattle.log_form.proofs.bounds.bounds_of.Goals as goal

pub loop-k-preserved : goal.loop-k-preserved
loop-k-preserved c = record {
  some = omega arith;
  clauses = next_clause c.args.domains.now c.args.values.now c.loop-k.earlier c.args.goals.now
      c.loop-k.k _ c.loop-k.out.items c.push_own-in-loop-k.new.out.items _
      c.in_ok-better.better c.in_ok-as_good.as_good (omega arith)
      c.in_ok-better.ensures c.in_ok-as_good.ensures
      c.in_ok-push_own-3.ensures c.loop-k.invariant.clauses;
}
