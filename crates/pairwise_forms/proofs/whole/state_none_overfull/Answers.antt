use Rattle.std.proofs.Common.{not}
use Rattle.form_build.specs.Forms.{truth_at}
use Rattle.form_truths.proofs.Stating.{defined_says}
use Rattle.pairwise_forms.specs.Packing.{some_overfull}
use Rattle.pairwise_forms.proofs.whole.state_none_overfull.Goals as goal

pub returns : goal.returns
returns c = record {
  says = defined_says c.args.maker.now c.none_overfull.new.maker c.state_truth.new.m (λ a. truth_at c.in_ok-t.t a) (λ a. not (some_overfull c.args.items.now a)) c.in_ok-t.ensures.adds c.in_ok-state_truth.ensures.says c.in_ok-t.ensures.value;
}
