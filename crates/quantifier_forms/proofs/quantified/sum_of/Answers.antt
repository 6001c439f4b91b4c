use Rattle.std.proofs.Common.{List, ℤ, map, length, sym, ap, ◌∙◌, subst}
use Rattle.std.specs.List.{All}
use Rattle.conf_eval.specs.declared.value.Value.TheVariants.{Int}
use Rattle.conf_eval.specs.Meaning.{total}
use Rattle.form_build.specs.declared.form.Linear.{Linear}
use Rattle.form_build.specs.Forms.{linear_at}
use Rattle.form_build.specs.Sums.{IsSum}
use Rattle.form_build.proofs.Growth.{world_before, defines_more}
use Rattle.quantifier_forms.specs.Quantified.{share_interval}
use Rattle.quantifier_forms.specs.Totals.{AreSummands}
use Rattle.quantifier_forms.proofs.Narrowness.{shares_are, sum_over}
use Rattle.quantifier_forms.proofs.ShareLaws.{over_shares}
use Rattle.quantifier_forms.proofs.quantified.sum_of.Goals as goal

pub total-requires : goal.total-requires
total-requires c = record {
  summands = subst (AreSummands c.shares.new.maker.domains) (sym c.as_slice.ensures.value)
      (shares_are c.args.maker.now.domains c.shares.new.maker.domains c.args.kind c.args.parts.now c.in_ok-sums.sums.items c.requires.kind c.requires.parts c.in_ok-sums.ensures.count c.in_ok-sums.ensures.sums);
}

pub returns-clause-value : goal.returns-clause-value
returns-clause-value c a w =
    let before = world_before c.shares.new.maker c.total.new.maker a c.in_ok-r.ensures.adds.grows w in
    over_shares c.args.kind c.args.parts.now a c.requires.kind
    ∙ ap (λ (v : ℤ). Int v) (sym (c.in_ok-r.ensures.value a w ∙ ap (λ (fs : List Linear). total (map (λ f. linear_at f a) fs)) c.as_slice.ensures.value ∙ ap total (c.in_ok-sums.ensures.values a before)))

pub returns-clause-sum : goal.returns-clause-sum
returns-clause-sum c first second n h le =
    let sums = subst (All (IsSum c.shares.new.maker.domains (share_interval c.args.kind first).low (share_interval c.args.kind first).high)) (sym c.as_slice.ensures.value) (c.in_ok-sums.ensures.sums first h) in
    sum_over c.shares.new.maker.domains c.total.new.maker.domains c.args.kind c.as_slice.result.now (length c.args.parts.now) n first second c.in_ok-r.r c.requires.kind
    (ap (λ (fs : List Linear). length fs) c.as_slice.ensures.value ∙ c.in_ok-sums.ensures.count) le c.in_ok-r.ensures.sum sums

pub returns-clause-adds : goal.returns-clause-adds
returns-clause-adds c = defines_more c.args.maker.now c.shares.new.maker c.total.new.maker c.in_ok-sums.ensures.adds c.in_ok-r.ensures.adds
