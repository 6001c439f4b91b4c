use Rattle.std.proofs.Common.{ℕ, List, not, length, Contains, [], ap, sym, subst, arith, ◌∙◌}
use Rattle.std.proofs.lemmas.List.{length-map}
use Rattle.ground_form.specs.declared.con.Con.TheVariants.{AllDiff}
use Rattle.pairwise_forms.specs.declared.members.Keyed.{Keyed}
use Rattle.ground_form.specs.Meaning.{all_differ}
use Rattle.form_build.proofs.Growth.{adds_same}
use Rattle.pairwise_forms.specs.Clashing.{some_clash}
use Rattle.pairwise_forms.proofs.WholeLaws.{keys_exist, different_says}
use Rattle.pairwise_forms.proofs.whole.require_different.Goals as goal

pub state_values-requires : goal.state_values-requires
state_values-requires c = record {
  variables =
      keys_exist (length c.args.maker.now.domains) c.args.members.now c.as_slice.result.now
      (c.as_slice.ensures.value ∙ c.in_ok-vars.ensures) c.requires.members;
}

pub returns : goal.returns
returns c = record {
  says = adds_same [] c.args.maker.now c.state_values.new.maker (λ a. all_differ c.as_slice.result.now a) (λ a. not (some_clash c.args.members.now a))
      (λ a w kn. different_says c.args.members.now c.as_slice.result.now a c.requires.kept (c.as_slice.ensures.value ∙ c.in_ok-vars.ensures))
      c.in_ok-state_values.ensures.says;
  stands = λ few.
      let same = c.as_slice.ensures.value ∙ c.in_ok-vars.ensures in
      let many = ap length same in
      let each = length-map c.args.members.now (λ (e : Keyed). e.key) in
      subst (λ (xs : List ℕ). Contains c.state_values.new.maker.cons (AllDiff xs)) same (c.in_ok-state_values.ensures.stands (omega (arith, few, many, each)));
}
