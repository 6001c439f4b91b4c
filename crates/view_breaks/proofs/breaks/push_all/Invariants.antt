use Rattle.std.proofs.Common.{◌≡◌, ◌++◌, drop}
use Rattle.view_breaks.specs.Breaks.{breaks, breaks_from}
use Rattle.view_breaks.proofs.breaks.push_all.Given as goal

-- with those that are left it is all of them
abbrev pub invariant-loop-i : goal.invariant-loop-i
invariant-loop-i l =
    let o = l.case.objects.now in
    let vs = l.case.config.now in
    l.found.items ++ breaks_from o vs l.i (drop l.i l.constraints) ≡ l.fn.found.items ++ breaks o vs l.constraints
