use Rattle.std.proofs.Common.{◌∙◌, rules, w64, ◌*ℤ◌}
use Rattle.std.specs.Int.{w128}
use Rattle.std.proofs.lemmas.Int.{to_z-of_z}
use Rattle.conf_limits.specs.Measures.{times}
use Rattle.conf_limits.proofs.interval.times.Goals as goal

pub returns : goal.returns
returns c =
    let i = c.args.i in
    let j = c.args.j in
    let il = to_z-of_z w64 i.low (search rules) in
    let ih = to_z-of_z w64 i.high (search rules) in
    let jl = to_z-of_z w64 j.low (search rules) in
    let jh = to_z-of_z w64 j.high (search rules) in
    let p = to_z-of_z w128 c.product-a.result (search rules) ∙ c.product-a.ensures i.low j.low il jl in
    let q = to_z-of_z w128 c.product-b.result (search rules) ∙ c.product-b.ensures i.low j.high il jh in
    let r = to_z-of_z w128 c.product-c.result (search rules) ∙ c.product-c.ensures i.high j.low ih jl in
    let s = to_z-of_z w128 c.product-d.result (search rules) ∙ c.product-d.ensures i.high j.high ih jh in
    let low = to_z-of_z w128 c.least.result (search rules) ∙ c.least.ensures (i.low *ℤ j.low) (i.low *ℤ j.high) (i.high *ℤ j.low) (i.high *ℤ j.high) p q r s in
    let high = to_z-of_z w128 c.greatest.result (search rules) ∙ c.greatest.ensures (i.low *ℤ j.low) (i.low *ℤ j.high) (i.high *ℤ j.low) (i.high *ℤ j.high) p q r s in
    c.narrowed.ensures (times i j).low (times i j).high low high
