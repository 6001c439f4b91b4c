use Rattle.std.proofs.Common.{List, pos, map, sym, ap, ◌∙◌, subst}
use Rattle.std.specs.Int.{int_max, int_min}
use Rattle.std.specs.List.{All}
use Rattle.conf_eval.specs.Meaning.{total}
use Rattle.form_build.specs.declared.form.Linear.{Linear}
use Rattle.form_build.specs.Forms.{linear_at}
use Rattle.form_build.specs.Sums.{IsSum}
use Rattle.form_build.proofs.Growth.{world_before, defines_more}
use Rattle.quantifier_forms.specs.Totals.{AreSummands}
use Rattle.pairwise_forms.proofs.LoadSteps.{sizes_narrow, added_up, load_is}
use Rattle.pairwise_forms.proofs.loads.load.Goals as goal

pub all_added-requires-clause-narrow : goal.all_added-requires-clause-narrow
all_added-requires-clause-narrow c = sizes_narrow c.args.maker.now.domains c.args.items.now c.requires.narrow

pub total-requires : goal.total-requires
total-requires c = record {
  summands = subst (AreSummands c.all_added.new.maker.domains) (sym c.as_slice.ensures.value)
      (added_up c.args.maker.now.domains c.all_added.new.maker.domains c.args.items.now c.in_ok-sums.sums.items c.requires.narrow c.in_ok-sums.ensures.count c.in_ok-sums.ensures.sums);
}

pub returns-clause-value : goal.returns-clause-value
returns-clause-value c a w =
    let before = world_before c.all_added.new.maker c.total.new.maker a c.in_ok-r.ensures.adds.grows w in
    load_is c.args.e.now c.args.items.now c.in_ok-sums.sums.items a (linear_at c.in_ok-r.r a)
    (c.in_ok-r.ensures.value a w ∙ ap (λ (fs : List Linear). total (map (λ (f : Linear). linear_at f a) fs)) c.as_slice.ensures.value)
    (c.in_ok-sums.ensures.values a before)

pub returns-clause-linear : goal.returns-clause-linear
returns-clause-linear c =
    let i = c.requires.narrow.second in
    let below = int_min i.low (pos 0) in
    let above = int_max i.high (pos 0) in
    (c.in_ok-r.ensures.sum below above (subst (All (IsSum c.all_added.new.maker.domains below above)) (sym c.as_slice.ensures.value) (c.in_ok-sums.ensures.sums i.low i.high c.requires.narrow.sizes))).linear

pub returns-clause-adds : goal.returns-clause-adds
returns-clause-adds c = defines_more c.args.maker.now c.all_added.new.maker c.total.new.maker c.in_ok-sums.ensures.adds c.in_ok-r.ensures.adds
