use Rattle.std.proofs.Common.{◌||◌, Bool, not, int_le, [], ap, ◌∙◌}
use Rattle.signed_clause.specs.Clauses.{Literals}
use Rattle.form_build.specs.Forms.{linear_at, truth_at}
use Rattle.form_build.proofs.Growth.{world_before, adds_nothing, defines_more}
use Rattle.form_truths.specs.Disjunctions.{disjunction_at}
use Rattle.pairwise_forms.specs.Packing.{load_there}
use Rattle.pairwise_forms.proofs.LoadSteps.{overfull_is}
use Rattle.pairwise_forms.proofs.loads.overfull.Goals as goal

pub returns-then-is_out-clause-adds : goal.returns-then-is_out-clause-adds
returns-then-is_out-clause-adds c = adds_nothing [] c.args.maker.now

pub returns-clause-value : goal.returns-clause-value
returns-clause-value c a w =
    let before = world_before c.fits.new.maker c.none_from.new.maker a c.in_ok-t.ensures.adds.grows w in
    overfull_is (truth_at c.args.e.now.kept a) (int_le (load_there c.args.e.now c.args.items.now a) (linear_at c.args.e.now.room a)) (disjunction_at c.push_turned.new.d a) (disjunction_at c.push.new.self a) (truth_at c.in_ok-t.t a)
    (c.in_ok-push_turned.ensures.value a before ∙ ap (λ (d : Bool × Literals). not (truth_at c.args.e.now.kept a) || disjunction_at d a) c.new-spared.ensures)
    (c.in_ok-push.ensures.value a ∙ ap (λ (b : Bool). b || disjunction_at c.push_turned.new.d a) (c.in_ok-fitting.ensures.value a before))
    (c.in_ok-t.ensures.value a w)

pub returns-clause-adds : goal.returns-clause-adds
returns-clause-adds c = defines_more c.args.maker.now c.fits.new.maker c.none_from.new.maker c.in_ok-fitting.ensures.adds c.in_ok-t.ensures.adds
