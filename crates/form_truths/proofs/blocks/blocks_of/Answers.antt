use Rattle.std.proofs.Common.{Bool, [], length, sym, ap, append-nil, arith}
use Rattle.signed_clause.specs.Clauses.{Literals}
use Rattle.form_truths.proofs.BlockSteps.{parted, cut_none, cut_next, cut_front, cut_all}
use Rattle.form_truths.proofs.blocks.blocks_of.Goals as goal

pub loop-rest-init : goal.loop-rest-init
loop-rest-init c = record {
  cut = cut_none c.args.m.now c.args.d.now c.new-blocks.result c.push.new.self c.holds.result c.literals-rest.result.now
      c.holds.ensures c.literals-rest.ensures.items c.new-blocks.ensures c.in_ok-push.ensures.value
      (c.in_ok-push.ensures.variables (length c.args.m.now.domains) tt) c.requires.exist;
  short =
      let few = c.in_ok-push.ensures.few in
      let none = ap (λ (z : Bool × Literals). length z.1) c.new-blocks.ensures in
      let all = ap (λ (z : Literals). length z) c.literals-rest.ensures.items in
      omega (arith, few, none, all);
}

pub push_block-requires-clause-literals : goal.push_block-requires-clause-literals
push_block-requires-clause-literals c =
    cut_front c.args.m.now c.loop-rest.m c.args.d.now c.loop-rest.blocks c.loop-rest.rest.now c.split_at.result.0.now c.split_at.result.1.now c.loop-rest.invariant.cut
    (parted c.loop-rest.rest.now c.split_at.result.0.now c.split_at.result.1.now c.split_at.ensures.front c.split_at.ensures.back)

pub push_block-requires-clause-exist : goal.push_block-requires-clause-exist
push_block-requires-clause-exist c = c.loop-rest.invariant.cut.exist

pub loop-rest-preserved : goal.loop-rest-preserved
loop-rest-preserved c =
    let push = c.in_ok-push_block.ensures in
    let before = c.loop-rest.invariant.short in
    let behind = c.split_at.ensures.back_len in
    record {
      cut =
          cut_next c.args.m.now c.loop-rest.m c.push_block.new.m c.args.d.now c.loop-rest.blocks c.push_block.new.d c.loop-rest.rest.now c.split_at.result.0.now c.split_at.result.1.now c.loop-rest.invariant.cut
          (parted c.loop-rest.rest.now c.split_at.result.0.now c.split_at.result.1.now c.split_at.ensures.front c.split_at.ensures.back)
          push.adds push.value push.exist;
      short = let few = push.few in omega (arith, before, behind, few);
    }

pub push_block-requires-2-clause-literals : goal.push_block-requires-2-clause-literals
push_block-requires-2-clause-literals c = c.loop-rest.invariant.cut.left

pub push_block-requires-2-clause-exist : goal.push_block-requires-2-clause-exist
push_block-requires-2-clause-exist c = c.loop-rest.invariant.cut.exist

pub returns-clause-value : goal.returns-clause-value
returns-clause-value c a w =
    let push = c.in_ok-push_block-2.ensures in
    cut_all c.args.m.now c.push_block-2.new.m c.args.d.now c.push_block-2.new.d a
    (cut_next c.args.m.now c.loop-rest.m c.push_block-2.new.m c.args.d.now c.loop-rest.blocks c.push_block-2.new.d c.loop-rest.rest.now c.loop-rest.rest.now [] c.loop-rest.invariant.cut
    (sym (append-nil c.loop-rest.rest.now)) push.adds push.value push.exist) w

pub returns-clause-short : goal.returns-clause-short
returns-clause-short c =
    let before = c.loop-rest.invariant.short in
    let few = c.in_ok-push_block-2.ensures.few in
    omega (arith, before, few)

pub returns-clause-adds : goal.returns-clause-adds
returns-clause-adds c =
    let push = c.in_ok-push_block-2.ensures in
    let cut =
    cut_next c.args.m.now c.loop-rest.m c.push_block-2.new.m c.args.d.now c.loop-rest.blocks c.push_block-2.new.d c.loop-rest.rest.now c.loop-rest.rest.now [] c.loop-rest.invariant.cut
    (sym (append-nil c.loop-rest.rest.now)) push.adds push.value push.exist in
    cut.adds
