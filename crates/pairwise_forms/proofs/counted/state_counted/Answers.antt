use Rattle.std.proofs.Common.{◌∙◌, ◌<◌, length, sym, subst, All}
use Rattle.signed_clause.specs.Clauses.{Boxes}
use Rattle.pairwise_forms.proofs.CountLaws.{items_exist, packing_follows}
use Rattle.pairwise_forms.proofs.counted.state_counted.Goals as goal

pub are_bounded-requires : goal.are_bounded-requires
are_bounded-requires c = record {
  exist =
      subst (λ (boxes : Boxes). All (λ i. (i.0 < length boxes) × (i.1 < length boxes) × (i.2 < length boxes)) c.as_slice.result.now) (sym c.domains.ensures.items)
      (items_exist c.args.maker.now c.settled.new.b c.in_ok-one.one c.args.vars.now c.as_slice.result.now (c.as_slice.ensures.value ∙ c.in_ok-items.ensures) c.in_ok-one.ensures.adds.grows c.in_ok-one.ensures.exists c.requires.variables);
}

pub require_pack-requires-clause-variables : goal.require_pack-requires-clause-variables
require_pack-requires-clause-variables c =
    items_exist c.args.maker.now c.settled.new.b c.in_ok-one.one c.args.vars.now c.as_slice-2.result.now (c.as_slice-2.ensures.value ∙ c.in_ok-items.ensures) c.in_ok-one.ensures.adds.grows c.in_ok-one.ensures.exists c.requires.variables

pub returns : goal.returns
returns c = record {
  follows =
      packing_follows c.args.maker.now c.settled.new.b c.require_pack.new.self c.in_ok-one.one
      c.args.vars.now c.as_slice-2.result.now (c.as_slice-2.ensures.value ∙ c.in_ok-items.ensures)
      c.in_ok-one.ensures.adds (λ a w. c.in_ok-one.ensures.value a w ∙ c.number-number.ensures.value a)
      c.in_ok-require_pack.ensures.says;
}
