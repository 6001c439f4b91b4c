use Rattle.std.proofs.Common.{ℕ, ◌<◌, [], List, ℤ, pos, length, take, get_or, sym, subst, arith}
use Rattle.std.proofs.lemmas.List.{take_more, take_all}
use Rattle.std.proofs.lemmas.List.Elements.{All-weaker}
use Rattle.form_build.proofs.Growth.{adds_nothing, defines_more, no_less}
use Rattle.packed_rows.specs.Plans.{ArePacked}
use Rattle.packed_rows.proofs.PackedLaws.{packed_none, constant_kept}
use Rattle.packed_rows.proofs.packing.packed_items.Goals as goal

pub loop-item-init : goal.loop-item-init
loop-item-init c = record {
  exist = c.requires.exist;
  packed = λ most room. subst (λ (z : List (ℕ × ℕ × ℕ)). ArePacked c.args.maker.now [] [] most z) (sym c.new-packed.ensures.items) (packed_none c.args.maker.now most);
  adds = adds_nothing [] c.args.maker.now;
}

pub push_item-requires-clause-exists : goal.push_item-requires-clause-exists
push_item-requires-clause-exists c = c.loop-item.invariant.exist c.loop-item.item-index (0, pos 0) c.loop-item-test.true

pub push_item-requires-clause-small : goal.push_item-requires-clause-small
push_item-requires-clause-small c = c.requires.small c.loop-item.item-index (0, pos 0) c.loop-item-test.true

pub loop-item-preserved : goal.loop-item-preserved
loop-item-preserved c =
    let there = c.loop-item.invariant in
    let more = c.in_ok-push_item.ensures in
    let less = no_less c.loop-item.maker c.push_item.new.maker more.adds.grows in
    let i = get_or c.args.items.now c.loop-item.item-index (0, pos 0) in
    record {
      exist = All-weaker (λ (j : ℕ × ℤ). j.0 < length c.loop-item.maker.domains) (λ (j : ℕ × ℤ). j.0 < length c.push_item.new.maker.domains) (λ j lt. omega (arith, less, lt)) c.args.items.now there.exist;
      packed = λ most room.
          subst (λ (z : List (ℕ × ℤ)). ArePacked c.push_item.new.maker z [] most c.push_item.new.packed.items) (sym (take_more c.args.items.now c.loop-item.item-index (0, pos 0) c.loop-item-test.true))
          (more.packed (take c.loop-item.item-index c.args.items.now) most (constant_kept c.args.maker.now c.loop-item.maker c.args.room most there.adds.grows room) (there.packed most room));
      adds = defines_more c.args.maker.now c.loop-item.maker c.push_item.new.maker there.adds more.adds;
    }

pub returns-clause-packed : goal.returns-clause-packed
returns-clause-packed c most room =
    subst (λ (z : List (ℕ × ℤ)). ArePacked c.loop-item.maker z [] most c.loop-item.packed.items) (take_all c.loop-item.item-index c.args.items.now c.loop-item-test.false)
    (c.loop-item.invariant.packed most room)
