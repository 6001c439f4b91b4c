use Rattle.std.proofs.Common.{◌≤◌, length, arith, ap, ◌∙◌}
use Rattle.conf_types.specs.Checked.{locals_of}
use Rattle.conf_types.proofs.ScopeLaws.{one_more, copied, locals_more, length_more}
use Rattle.conf_types.proofs.scope.scope_within.Goals as goal

pub returns-clause-scope : goal.returns-clause-scope
returns-clause-scope c =
    let xs = c.args.scope.now.locals.items in
    let same = ap length c.deref-local-items.ensures.value in
    let end : length xs ≤ c.loop-local.local-index = omega (arith, same, c.loop-local-test.false) in
    let all = copied xs c.loop-local.locals.items _ c.loop-local.local-index (record { name = c.args.name; class = c.args.class }) c.loop-local.invariant end c.in_ok-push-2.ensures.items in
    ap (λ ls. record { class = c.args.scope.now.class; locals = ls }) (ap locals_of all ∙ locals_more xs (record { name = c.args.name; class = c.args.class }))

pub returns-clause-more : goal.returns-clause-more
returns-clause-more c =
    let xs = c.args.scope.now.locals.items in
    let same = ap length c.deref-local-items.ensures.value in
    let end : length xs ≤ c.loop-local.local-index = omega (arith, same, c.loop-local-test.false) in
    length_more xs _ (record { name = c.args.name; class = c.args.class }) (copied xs c.loop-local.locals.items _ c.loop-local.local-index (record { name = c.args.name; class = c.args.class }) c.loop-local.invariant end c.in_ok-push-2.ensures.items)

pub returns-clause-locals : goal.returns-clause-locals
returns-clause-locals c = λ n a h.
    let same = ap length c.deref-local-items.ensures.value in
    one_more c.args.scope.now.locals.items c.loop-local.locals.items _ c.loop-local.local-index n (record { name = c.args.name; class = c.args.class }) c.loop-local.invariant (omega (arith, same, c.loop-local-test.false)) c.in_ok-push-2.ensures.items a h
