use Rattle.std.proofs.Common.{ℕ, true, ◌&&◌, List, [], ap, ◌∙◌, subst, Option, IfSome}
use Rattle.signed_clause.specs.Clauses.{Boxes}
use Rattle.ground_form.specs.Meaning.{rooms_hold}
use Rattle.form_build.proofs.Growth.{adds_nothing, world_before, adds_more, adds_same}
use Rattle.packed_rows.specs.declared.plan.Plan.{Plan}
use Rattle.packed_rows.specs.Loads.{rows_hold}
use Rattle.packed_rows.specs.Plans.{IsPlan}
use Rattle.packed_rows.proofs.Packings.{packing_says}
use Rattle.packed_rows.proofs.packing.pack_rows.Goals as goal

pub returns-in_default : goal.returns-in_default
returns-in_default c = record { says = adds_nothing [] c.args.maker.now }

pub returns : goal.returns
returns c =
    let plan =
    subst (λ (boxes : Boxes). IsPlan boxes c.args.rows.now c.in-Some.plan.items.items c.in-Some.plan.most.value) c.domains.ensures.items
    (subst (λ (o : Option Plan). IfSome o (λ p. IsPlan c.domains.result.now c.args.rows.now p.items.items p.most.value)) c.in-Some.is c.in_ok-plan.ensures) in
    record {
      says =
          adds_same [] c.args.maker.now c.require_pack.new.self (λ a. true && rooms_hold c.as_slice-2.result.now c.as_slice-2.result.now a) (λ a. rows_hold c.args.rows.now a)
          (λ a w kn.
          ap (λ (z : List (ℕ × ℕ × ℕ)). rooms_hold z z a) c.as_slice-2.ensures.value
          ∙ packing_says c.args.maker.now c.packing.new.maker c.args.rows.now c.in-Some.plan.items.items c.in-Some.plan.most.value c.in_ok-items.items.items a c.in_ok-items.ensures.adds.grows plan c.in_ok-items.ensures.packed
          (world_before c.packing.new.maker c.require_pack.new.self a c.in_ok-require_pack.ensures.says.grows w))
          (adds_more [] c.args.maker.now c.packing.new.maker c.require_pack.new.self (λ a. true) (λ a. rooms_hold c.as_slice-2.result.now c.as_slice-2.result.now a) c.in_ok-items.ensures.adds c.in_ok-require_pack.ensures.says);
    }
