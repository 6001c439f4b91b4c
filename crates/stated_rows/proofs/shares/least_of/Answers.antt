use Rattle.std.proofs.Common.{ℤ, ◌*ℤ◌, ap, ◌∙◌}
use Rattle.std.specs.Int.{int_min}
use Rattle.stated_rows.proofs.ShareLaws.{least_share}
use Rattle.stated_rows.proofs.shares.least_of.Goals as goal

pub returns : goal.returns
returns c bin =
    let low = c.in_ok-low.low.value in
    let high = c.in_ok-low.high.value in
    least_share c.args.maker.now bin c.args.t low high c.smaller.result c.in_ok-low.ensures
    (c.smaller.ensures ∙ ap (λ (z : ℤ). int_min z c.in_ok-by_high.by_high.value) c.in_ok-by_low.ensures ∙ ap (int_min (c.args.t.0 *ℤ low)) c.in_ok-by_high.ensures)
