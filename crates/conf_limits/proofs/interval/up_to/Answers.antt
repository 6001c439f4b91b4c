use Rattle.std.proofs.Common.{pos, ap, ◌∙◌, arith}
use Rattle.std.proofs.lemmas.Int.{ints}
use Rattle.conf_limits.specs.Limits.{narrowed}
use Rattle.conf_limits.specs.Measures.{between}
use Rattle.conf_limits.proofs.CapLaws.{up_to_capped}
use Rattle.conf_limits.proofs.interval.up_to.Goals as goal

pub returns : goal.returns
returns c = λ r e.
    let h = c.ranges.reach in
    c.narrowed.ensures (pos 0) (pos c.args.reach) (omega (arith, ints)) (omega (arith, ints)) ∙ ap (λ n. narrowed (between (pos 0) (pos n))) e ∙ up_to_capped r
