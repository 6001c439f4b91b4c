use Rattle.std.proofs.Common.{ℕ, List, true≢false, not, Contains, refl, sym, ap, subst, ◌∙◌}
use Rattle.std.specs.List.{All}
use Rattle.signed_clause.specs.Ranges.{IsValid}
use Rattle.signed_clause.specs.Clauses.{Boxes}
use Rattle.ground_form.specs.declared.con.Con.TheVariants.{Pack}
use Rattle.ground_form.specs.Meaning.{rooms_hold}
use Rattle.form_truths.proofs.Stating.{defined_says}
use Rattle.pairwise_forms.specs.Packing.{some_overfull}
use Rattle.pairwise_forms.proofs.LoadSteps.{items_kept, narrow_kept}
use Rattle.pairwise_forms.proofs.WholeLaws.{fitting_says}
use Rattle.pairwise_forms.proofs.HasWholes.{bounded_there, items_stand}
use Rattle.pairwise_forms.proofs.whole.require_fitting.Goals as goal

pub returns-then-are_bounded : goal.returns-then-are_bounded
returns-then-are_bounded c = record {
  says = defined_says c.args.maker.now c.rows_of.new.maker c.require_pack.new.self (λ a. rooms_hold c.as_slice-then-are_bounded.result.now c.as_slice-then-are_bounded.result.now a) (λ a. not (some_overfull c.args.items.now a))
      c.in_ok-rows.ensures.adds c.in_ok-require_pack.ensures.says
      (λ a w. ap (λ (z : List (ℕ × ℕ × ℕ)). rooms_hold z z a) c.as_slice-then-are_bounded.ensures.value
      ∙ fitting_says c.rows_of.new.maker c.args.items.now c.in_ok-rows.rows.items a c.in_ok-rows.ensures.rows w c.requires.kept);
  whole = items_stand c.rows_of.new.maker c.require_pack.new.self c.args.items.now c.in_ok-rows.rows.items c.in_ok-require_pack.ensures.says.grows c.in_ok-rows.ensures.rows
      (λ b. subst (λ (z : List (ℕ × ℕ × ℕ)). Contains c.require_pack.new.self.cons (Pack z)) c.as_slice-then-are_bounded.ensures.value c.in_ok-require_pack.ensures.stands);
}

pub state_none_overfull-requires-clause-items : goal.state_none_overfull-requires-clause-items
state_none_overfull-requires-clause-items c = items_kept c.args.maker.now c.rows_of.new.maker c.args.items.now c.in_ok-rows.ensures.adds.grows c.requires.items

pub state_none_overfull-requires-clause-narrow : goal.state_none_overfull-requires-clause-narrow
state_none_overfull-requires-clause-narrow c = narrow_kept c.args.maker.now c.rows_of.new.maker c.args.items.now c.in_ok-rows.ensures.adds.grows c.requires.narrow

pub returns : goal.returns
returns c = record {
  says = defined_says c.args.maker.now c.rows_of.new.maker c.state_none_overfull.new.maker (λ a. not (some_overfull c.args.items.now a)) (λ a. not (some_overfull c.args.items.now a))
      c.in_ok-rows.ensures.adds c.in_ok-state_none_overfull.ensures.says (λ a w. refl);
  whole = items_stand c.rows_of.new.maker c.state_none_overfull.new.maker c.args.items.now c.in_ok-rows.rows.items c.in_ok-state_none_overfull.ensures.says.grows c.in_ok-rows.ensures.rows
      (λ b.
      let valid = subst (λ (z : Boxes). All (λ d. IsValid d) z) (sym c.domains.ensures.items) c.domains.ensures.well_made.domains in
      let there = bounded_there c.rows_of.new.maker c.state_none_overfull.new.maker c.in_ok-rows.rows.items c.as_slice.result.now c.domains.result.now c.in_ok-state_none_overfull.ensures.says.grows c.in_ok-rows.ensures.rows.exist c.as_slice.ensures.value c.domains.ensures.items b in
      absurd (true≢false (sym (c.are_bounded.ensures.all valid there) ∙ c.if-are_bounded.false)));
}
