use Rattle.std.proofs.Common.{rules, ℤ, pos, ◌+ℤ◌, ◌≤ℤ◌, subst, w64}
use Rattle.std.proofs.lemmas.Int.{to_z-of_z}
use Rattle.clause_watches.specs.Rows.{IsWholeMaskOf}
use Rattle.clause_watches.proofs.MaskLaws.{bits_all}
use Rattle.clause_watches.proofs.mask.box_bits.Goals as goal

pub returns-clause-whole : goal.returns-clause-whole
returns-clause-whole c = λ t.
    let whole = subst (λ (a : ℤ). IsWholeMaskOf a c.args.at.now c.mask_of.result)
    (to_z-of_z w64 c.args.least (search rules)) c.mask_of.ensures.whole in
    bits_all c.args.least c.args.at.now c.mask_of.result whole (λ v h.
    subst (λ (a : ℤ). (a ≤ℤ v) × (v ≤ℤ (a +ℤ pos 63))) (to_z-of_z w64 c.args.least (search rules))
    (c.lies_in_window.ensures t v h))
