use Rattle.std.proofs.Common.{◌≡◌, sym, ◌∙◌, arith, subst, rules, SFits, w64, ℤ, ◌<ℤ◌}
use Rattle.std.proofs.lemmas.Int.{ints, to_z-of_z}
use Rattle.std.specs.Fmt.{signed_decimal}
use Rattle.proof_log.proofs.Digits.{signed_apart}
use Rattle.proof_log.proofs.pieces.range_to.Goals as goal

pub returns-else-low-high-clause-none : goal.returns-else-low-high-clause-none
returns-else-low-high-clause-none c v lt right e =
    let outer = c.in_ok-rest.ensures.some in
    let inner = c.in_ok-rest-2.ensures.some in
    let value = c.in_ok-high.ensures.some in
    let rest : c.in_ok-rest-2.rest.now ≡ signed_decimal v = cc in
    let same = signed_apart v c.in_ok-high.high right value.0 (sym rest ∙ value.1) in
    let fits : SFits w64 c.args.low = c.ranges.low in
    let fits' : SFits w64 c.in_ok-high.high = search rules in
    let test = simp to_z-of_z at c.if-low-high.false in
    let below : c.args.low <ℤ c.in_ok-high.high = subst (λ (z : ℤ). c.args.low <ℤ z) same lt in
    absurd (grind (arith, ints))
