use Rattle.std.proofs.Common.{rules, ℤ, pos, refl, subst, w64}
use Rattle.std.proofs.lemmas.Int.{to_z-of_z}
use Rattle.clause_watches.specs.Rows.{IsWholeMaskOf}
use Rattle.clause_watches.proofs.MaskLaws.{mask_more, left_more, early_done}
use Rattle.clause_watches.proofs.mask.mask_of.Goals as goal

pub loop-r-preserved : goal.loop-r-preserved
loop-r-preserved c = record {
  mask = mask_more _ c.args.set.now c.ranges-r-items.result.now c.loop-r.r-index _ (pos 0, pos 0) _
      _ c.ranges-r-items.ensures.items c.loop-r-test.true refl c.loop-r.invariant.mask
      c.range_bits-mask.ensures.bits;
  left = λ j h t off. left_more c.args.set.now c.ranges-r-items.result.now c.loop-r.r-index _
      (pos 0, pos 0) _ _ _ j c.ranges-r-items.ensures.items c.loop-r-test.true refl off
      (c.loop-r.invariant.left j h t) (c.range_bits-mask.ensures.whole j h);
}

pub returns-then-steps_from-gt63-clause-whole : goal.returns-then-steps_from-gt63-clause-whole
returns-then-steps_from-gt63-clause-whole c =
    subst (λ (a : ℤ). IsWholeMaskOf a c.args.set.now c.loop-r.mask)
    (to_z-of_z w64 c.args.least (search rules))
    (early_done c.args.set.now c.ranges-r-items.result.now c.loop-r.r-index _ (pos 0, pos 0)
    _ _ _ c.steps_from.result c.loop-r.mask c.ranges-r-items.ensures.valid
    c.ranges-r-items.ensures.items c.loop-r-test.true refl refl
    (to_z-of_z w64 _ (search rules))
    c.steps_from.ensures.fewest (search rules) c.loop-r.invariant.left)
