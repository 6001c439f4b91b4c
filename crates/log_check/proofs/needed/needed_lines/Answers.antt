use Rattle.std.proofs.Common.{◌-◌, ◌+◌, ◌==◌, length, drop, List, Bool, subst, sym, arith, refl}
use Rattle.log_check.proofs.Marking.{IsWalked, walked_start, walked_back}
use Rattle.log_check.proofs.needed.needed_lines.Goals as goal

pub loop-k-init : goal.loop-k-init
loop-k-init c =
    let start = walked_start c.args.g.now c.args.lines.now c.in_ok-marks.marks.items c.new-needed.result.items c.in_ok-marks.ensures c.new-needed.ensures.items in
    record { within = omega arith; walked = start.0; count = start.1 }

pub loop-k-preserved : goal.loop-k-preserved
loop-k-preserved c =
    let k = c.loop-k.k in
    let before = c.loop-k.invariant in
    let step = walked_back c.args.g.now c.args.lines.now k c.index-lines-k.result c.loop-k.marks.items c.loop-k.needed.items c.go_back.new.marks.items (k - 1 + 1 == length c.args.lines.now) c.go_back.result
    c.loop-k-test.true before.within c.index-lines-k.is before.walked before.count refl c.go_back.ensures.needed c.go_back.ensures.marks in
    record {
      within = let within = before.within in omega arith;
      walked = subst (λ (z : List Bool). IsWalked c.args.g.now (drop (k - 1) c.args.lines.now) c.go_back.new.marks.items z) (sym c.in_ok-push.ensures.items) step.0;
      count = step.1;
    }
