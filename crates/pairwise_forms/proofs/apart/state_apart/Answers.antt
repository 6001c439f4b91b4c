use Rattle.std.proofs.Common.{not, ap, ◌∙◌, sym, subst}
use Rattle.signed_clause.specs.Clauses.{Boxes}
use Rattle.form_build.specs.Forms.{truth_at}
use Rattle.form_build.specs.Worlds.{IsInBoxes}
use Rattle.form_truths.proofs.Stating.{defined_says}
use Rattle.pairwise_forms.specs.Clashing.{clash_at}
use Rattle.pairwise_forms.proofs.apart.state_apart.Goals as goal

pub returns : goal.returns
returns c = record {
  says = defined_says c.args.maker.now c.clash_of.new.maker c.state_truth.new.m (λ a. truth_at c.in_ok-apart.apart a) (λ a. not (clash_at c.args.e.now c.args.f.now a))
      c.in_ok-clash.ensures.adds c.in_ok-state_truth.ensures.says
      (λ a w. c.in_ok-apart.ensures.value a (subst (λ (boxes : Boxes). IsInBoxes boxes a) (sym c.domains.ensures.items) w.within) ∙ ap not (c.in_ok-clash.ensures.value a w));
}
