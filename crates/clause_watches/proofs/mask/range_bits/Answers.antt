use Rattle.std.proofs.Common.{rules, w64}
use Rattle.std.proofs.lemmas.Int.{to_z-of_z}
use Rattle.clause_watches.proofs.MaskLaws.{bit_in_range, range_whole}
use Rattle.clause_watches.proofs.mask.range_bits.Goals as goal

pub returns-clause-bits : goal.returns-clause-bits
returns-clause-bits c = λ j e.
    let r = c.args.r in
    bit_in_range r c.args.least _ _ _ c.steps_from-first.result c.steps_from.result
    c.min-last.result j
    (to_z-of_z w64 c.args.least (search rules)) (to_z-of_z w64 r.0 (search rules))
    (to_z-of_z w64 r.1 (search rules))
    c.steps_from-first.ensures.enough c.steps_from.ensures.exact (search rules) c.min-last.ensures
    (c.bits_between.ensures.first j e) (c.bits_between.ensures.last j e)

pub returns-clause-whole : goal.returns-clause-whole
returns-clause-whole c = λ j h t.
    let r = c.args.r in
    let both = range_whole r c.args.least _ _ _ c.steps_from-first.result c.steps_from.result
    c.min-last.result j
    (to_z-of_z w64 c.args.least (search rules)) (to_z-of_z w64 r.0 (search rules))
    (to_z-of_z w64 r.1 (search rules))
    c.steps_from-first.ensures.fewest c.steps_from.ensures.exact (search rules) c.min-last.ensures
    h t in
    c.bits_between.ensures.between j both.0 both.1
