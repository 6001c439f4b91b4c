use Rattle.std.proofs.Common.{◌≡◌, ℕ, true, List, ℤ, sym, subst}
use Rattle.std.specs.List.{All}
use Rattle.ground_form.specs.Meaning.{value_of}
use Rattle.ground_form.specs.WellMade.{distinct_values}
use Rattle.ground_build.specs.Growing.{HoldsDomain}
use Rattle.form_build.proofs.Growth.{defines_more}
use Rattle.pairwise_forms.proofs.PickedKeys.{items_distinct, items_held, picked_is}
use Rattle.pairwise_forms.proofs.keys.picked.Goals as goal

pub pick-requires-clause-distinct : goal.pick-requires-clause-distinct
pick-requires-clause-distinct c =
    subst (λ (z : List (ℤ × ℕ)). distinct_values z ≡ true) (sym c.as_slice.ensures.value)
    (items_distinct c.args.maker.now.domains c.constants.new.maker (λ n. Unit {0}) c.args.x c.args.pairs.now c.in_ok-items.items.items c.requires.pairs c.in_ok-items.ensures.items)

pub pick-requires-clause-held : goal.pick-requires-clause-held
pick-requires-clause-held c =
    subst (λ (z : List (ℤ × ℕ)). HoldsDomain c.constants.new.maker c.args.x z) (sym c.as_slice.ensures.value)
    (items_held c.args.maker.now c.constants.new.maker (λ n. Unit {0}) c.args.x c.args.pairs.now c.in_ok-items.items.items c.in_ok-items.ensures.adds.grows c.requires.exists c.requires.pairs c.in_ok-items.ensures.items)

pub returns-clause-value : goal.returns-clause-value
returns-clause-value c a w =
    picked_is c.args.maker.now c.constants.new.maker c.pick.new.self (λ n. Unit {0}) c.args.x c.in_ok-y.y c.args.pairs.now c.in_ok-items.items.items a
    c.in_ok-items.ensures.adds.grows c.in_ok-y.ensures.adds.grows c.requires.exists c.requires.pairs c.in_ok-items.ensures.items w
    (subst (λ (z : List (ℤ × ℕ)). All (λ t. value_of a c.args.x ≡ t.0 → value_of a c.in_ok-y.y ≡ value_of a t.1) z) c.as_slice.ensures.value (c.in_ok-y.ensures.variable.value a w))

pub returns-clause-adds : goal.returns-clause-adds
returns-clause-adds c = defines_more c.args.maker.now c.constants.new.maker c.pick.new.self c.in_ok-items.ensures.adds c.in_ok-y.ensures.adds
