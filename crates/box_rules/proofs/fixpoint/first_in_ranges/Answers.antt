use Rattle.std.proofs.Common.{◌≡◌, true, is_some, pos, get_or, refl, sym, subst, ◌∙◌}
use Rattle.signed_clause.specs.Ranges.{Ranges, has}
use Rattle.box_rules.proofs.QuietLaws.{range_step, range_order, range_values, found_stops, found_goes_on}
use Rattle.box_rules.proofs.fixpoint.first_in_ranges.Goals as goal

pub first_in_range-found-requires-clause-order : goal.first_in_range-found-requires-clause-order
first_in_range-found-requires-clause-order c = range_order c.args.ranges.now c.loop-r.r-index _ c.requires.valid c.loop-r-test.true refl

pub first_in_range-found-requires-clause-members : goal.first_in_range-found-requires-clause-members
first_in_range-found-requires-clause-members c v h =
    subst (λ (s : Ranges). has s v ≡ true) c.requires.of_x (range_values c.args.ranges.now c.loop-r.r-index _ v c.loop-r-test.true refl h)

pub returns-then-is_some-clause-none : goal.returns-then-is_some-clause-none
returns-then-is_some-clause-none c =
    let rs = c.args.ranges.now in let i = c.loop-r.r-index in
    found_stops (is_some c.first_in_range-found.result) _ _ _ _ (range_step c.args.con.now c.args.boxes.now c.args.x rs i (get_or rs i (pos 0, pos 0)) c.loop-r-test.true refl)
    c.first_in_range-found.ensures.none c.loop-r.invariant (sym c.is_some.ensures ∙ c.if-is_some.true)

pub loop-r-preserved : goal.loop-r-preserved
loop-r-preserved c =
    let rs = c.args.ranges.now in let i = c.loop-r.r-index in
    found_goes_on (is_some c.first_in_range-found.result) _ _ _ _ (range_step c.args.con.now c.args.boxes.now c.args.x rs i (get_or rs i (pos 0, pos 0)) c.loop-r-test.true refl)
    c.first_in_range-found.ensures.none c.loop-r.invariant (sym c.is_some.ensures ∙ c.if-is_some.false)
