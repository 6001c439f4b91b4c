use Rattle.std.proofs.Common.{◌≡◌, ◌++◌, Some}
use Rattle.conf_eval.specs.Satisfying.{stated_for}
use Rattle.view_breaks.specs.Breaks.{breaks_among, members_from}
use Rattle.view_breaks.proofs.breaks.push_members.Given as goal

-- with those that are left it is all of them
abbrev pub invariant-loop-object : goal.invariant-loop-object
invariant-loop-object l =
    let o = l.case.objects.now in
    let vs = l.case.config.now in
    let k = l.stated.constraint.now in
    l.found.items ++ breaks_among o vs l.stated.number k (members_from o l.class l.object)
    ≡ l.fn.found.items ++ breaks_among o vs l.stated.number k (stated_for o (Some l.class))
