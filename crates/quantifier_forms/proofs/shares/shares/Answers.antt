use Rattle.std.proofs.Common.{[], ◌∷◌, List, map, length, length-append, sym, ap, subst, arith}
use Rattle.std.specs.List.{All}
use Rattle.std.proofs.lemmas.List.Elements.{All-nil, All-push}
use Rattle.form_build.specs.declared.form.Linear.{Linear}
use Rattle.form_build.specs.Forms.{linear_at}
use Rattle.form_build.specs.Sums.{IsSum}
use Rattle.form_build.proofs.Growth.{world_before, adds_nothing, defines_more}
use Rattle.quantifier_forms.specs.Quantified.{IsPart, share_interval}
use Rattle.quantifier_forms.proofs.Narrowness.{narrow_number}
use Rattle.quantifier_forms.proofs.PartsKept.{truths_kept, part_kept, part_at}
use Rattle.quantifier_forms.proofs.ShareLaws.{shares_step}
use Rattle.quantifier_forms.proofs.SumLaws.{sums_kept}
use Rattle.quantifier_forms.proofs.shares.shares.Goals as goal

pub loop-p-init : goal.loop-p-init
loop-p-init c = record {
  values = λ a w. ap (map (λ f. linear_at f a)) c.new-sums.ensures.items;
  sums = λ first h.
      subst (All (IsSum c.args.maker.now.domains (share_interval c.args.kind first).low (share_interval c.args.kind first).high)) (sym c.new-sums.ensures.items) (All-nil (IsSum c.args.maker.now.domains (share_interval c.args.kind first).low (share_interval c.args.kind first).high));
  count = ap (λ (fs : List Linear). length fs) c.new-sums.ensures.items;
  adds = adds_nothing [] c.args.maker.now;
}

pub share_of-requires-clause-truths : goal.share_of-requires-clause-truths
share_of-requires-clause-truths c =
    let first = c.requires.parts.first in
    let part = part_at (IsPart c.args.maker.now.domains first) c.args.parts.now c.loop-p.p-index c.p-item.result c.requires.parts.parts c.loop-p-test.true c.p-item.is in
    truths_kept c.args.maker.now c.loop-p.maker c.loop-p.invariant.adds.grows c.p-item.result part.truths

pub share_of-requires-clause-number : goal.share_of-requires-clause-number
share_of-requires-clause-number c = narrow_number c.args.maker.now c.loop-p.maker c.args.kind c.args.parts.now c.loop-p.p-index c.p-item.result c.loop-p.invariant.adds.grows c.requires.parts c.loop-p-test.true c.p-item.is

pub loop-p-preserved : goal.loop-p-preserved
loop-p-preserved c =
    let there = c.loop-p.invariant in
    let more = c.in_ok-r.ensures in
    let made = c.in_ok-push.ensures.items in
    record {
      values = λ a w.
          shares_step c.args.kind c.args.parts.now c.loop-p.p-index c.p-item.result a c.loop-p.sums.items c.push.new.self.items c.in_ok-r.r c.loop-p-test.true c.p-item.is made
          (there.values a (world_before c.loop-p.maker c.share_of.new.maker a more.adds.grows w)) (more.value a w);
      sums = λ first h.
          let low = (share_interval c.args.kind first).low in
          let high = (share_interval c.args.kind first).high in
          let part = part_at (IsPart c.args.maker.now.domains first) c.args.parts.now c.loop-p.p-index c.p-item.result h c.loop-p-test.true c.p-item.is in
          subst (All (IsSum c.share_of.new.maker.domains low high)) (sym made)
          (All-push (IsSum c.share_of.new.maker.domains low high) c.loop-p.sums.items c.in_ok-r.r
          (sums_kept low high c.loop-p.maker c.share_of.new.maker c.loop-p.sums.items more.adds.grows (there.sums first h))
          (more.sum first (part_kept c.args.maker.now c.loop-p.maker there.adds.grows first c.p-item.result part)));
      count = let one = ap (λ (fs : List Linear). length fs) made in let size = there.count in omega (arith, one, size, length-append c.loop-p.sums.items (c.in_ok-r.r ∷ []));
      adds = defines_more c.args.maker.now c.loop-p.maker c.share_of.new.maker there.adds more.adds;
    }
