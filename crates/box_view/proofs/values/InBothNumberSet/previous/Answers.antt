use Rattle.std.proofs.Common.{arith, rules, SFits, w64}
use Rattle.std.proofs.lemmas.Int.{ints}
use Rattle.box_view.specs.Firsts.{IsLast}
use Rattle.box_view.proofs.Leaps.{skipped_back}
use Rattle.box_view.proofs.values.InBothNumberSet.previous.Goals as goal

pub loop-one-preserved : goal.loop-one-preserved
loop-one-preserved g c =
    let A = g.A.NumberSet.holds c.args.self.now.a in let B = g.B.NumberSet.holds c.args.self.now.b in
    let f : IsLast A c.loop-one.at.value c.in-Some.one.value = c.in-Some.ensures.one in
    let h : IsLast B c.in-Some.one.value c.in-Some.other.value = c.in-Some.ensures.other in
    let fits : SFits w64 c.in-Some.other.value = search rules in
    let first = f.upto in let second = h.upto in let size = fits.sfits in
    record {
      begun = omega (arith, ints, first, second, c.loop-one.invariant.begun);
      within = omega (arith, ints, size);
      passed = skipped_back A B c.args.from.value c.loop-one.at.value c.in-Some.one.value c.in-Some.other.value f h c.loop-one.invariant.passed;
    }
