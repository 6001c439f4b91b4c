use Rattle.std.proofs.Common.{◌≡◌, ◌^◌, ◌++◌, [], List, ℤ, ℕ, length, take, drop, sym, ap, ◌∙◌, append-nil, arith}
use Rattle.std.proofs.lemmas.List.{take-append-drop}
use Rattle.form_build.proofs.Growth.{defines_more}
use Rattle.block_sums.proofs.BlockSteps.{cut_none, cut_next, cut_front, cut_light, cut_all}
use Rattle.block_sums.proofs.blocks.blocks_of.Goals as goal

-- a list is its front and what is behind
parted : (rest front behind : List (ℤ × ℕ)) → front ≡ take 32 rest → behind ≡ drop 32 rest → rest ≡ front ++ behind
parted rest front behind e h =
    sym (take-append-drop 32 rest) ∙ ap (λ (z : List (ℤ × ℕ)). z ++ drop 32 rest) (sym e) ∙ ap (λ (z : List (ℤ × ℕ)). front ++ z) (sym h)

pub loop-rest-init : goal.loop-rest-init
loop-rest-init c = record {
  cut = cut_none c.args.b.now c.args.terms.now c.new-blocks.result.items c.new-blocks.ensures.items c.requires.exist;
  short = let size = ap (λ (z : List (ℤ × ℕ)). length z) c.new-blocks.ensures.items in omega (arith, size);
}

pub push_block-requires-clause-exist : goal.push_block-requires-clause-exist
push_block-requires-clause-exist c =
    cut_front c.args.b.now c.loop-rest.b c.args.terms.now c.loop-rest.blocks.items c.loop-rest.rest.now c.split_at.result.0.now c.split_at.result.1.now c.loop-rest.invariant.cut
    (parted c.loop-rest.rest.now c.split_at.result.0.now c.split_at.result.1.now c.split_at.ensures.front c.split_at.ensures.back)

pub push_block-requires-clause-bounded : goal.push_block-requires-clause-bounded
push_block-requires-clause-bounded c =
    cut_light c.args.b.now c.loop-rest.b (2 ^ 60) c.args.terms.now c.loop-rest.blocks.items c.loop-rest.rest.now c.split_at.result.0.now c.split_at.result.1.now c.loop-rest.invariant.cut
    (parted c.loop-rest.rest.now c.split_at.result.0.now c.split_at.result.1.now c.split_at.ensures.front c.split_at.ensures.back) c.requires.bounded

pub loop-rest-preserved : goal.loop-rest-preserved
loop-rest-preserved c =
    let push = c.in_ok-push_block.ensures in
    let before = c.loop-rest.invariant.short in
    let behind = c.split_at.ensures.back_len in
    record {
      cut =
          cut_next c.args.b.now c.loop-rest.b c.push_block.new.b c.args.terms.now c.loop-rest.blocks.items c.loop-rest.rest.now c.split_at.result.0.now c.split_at.result.1.now c.push_block.new.blocks.items c.loop-rest.invariant.cut
          (parted c.loop-rest.rest.now c.split_at.result.0.now c.split_at.result.1.now c.split_at.ensures.front c.split_at.ensures.back)
          push.adds push.few push.longer push.exist push.bounded push.value;
      short = let longer = push.longer in omega (arith, before, behind, longer);
    }

pub push_block-requires-2-clause-exist : goal.push_block-requires-2-clause-exist
push_block-requires-2-clause-exist c = c.loop-rest.invariant.cut.left

pub push_block-requires-2-clause-bounded : goal.push_block-requires-2-clause-bounded
push_block-requires-2-clause-bounded c =
    cut_light c.args.b.now c.loop-rest.b (2 ^ 60) c.args.terms.now c.loop-rest.blocks.items c.loop-rest.rest.now c.loop-rest.rest.now [] c.loop-rest.invariant.cut (sym (append-nil c.loop-rest.rest.now)) c.requires.bounded

pub returns-clause-blocks : goal.returns-clause-blocks
returns-clause-blocks c =
    let push = c.in_ok-push_block-2.ensures in
    cut_all c.args.b.now c.push_block-2.new.b c.args.terms.now c.push_block-2.new.blocks.items
    (cut_next c.args.b.now c.loop-rest.b c.push_block-2.new.b c.args.terms.now c.loop-rest.blocks.items c.loop-rest.rest.now c.loop-rest.rest.now [] c.push_block-2.new.blocks.items c.loop-rest.invariant.cut
    (sym (append-nil c.loop-rest.rest.now)) push.adds push.few push.longer push.exist push.bounded push.value)

pub returns-clause-short : goal.returns-clause-short
returns-clause-short c =
    let before = c.loop-rest.invariant.short in
    let longer = c.in_ok-push_block-2.ensures.longer in
    omega (arith, before, longer)

pub returns-clause-adds : goal.returns-clause-adds
returns-clause-adds c = defines_more c.args.b.now c.loop-rest.b c.push_block-2.new.b c.loop-rest.invariant.cut.adds c.in_ok-push_block-2.ensures.adds

pub returns-clause-few : goal.returns-clause-few
returns-clause-few c =
    let push = c.in_ok-push_block-2.ensures in
    let whole = (cut_next c.args.b.now c.loop-rest.b c.push_block-2.new.b c.args.terms.now c.loop-rest.blocks.items c.loop-rest.rest.now c.loop-rest.rest.now [] c.push_block-2.new.blocks.items c.loop-rest.invariant.cut
    (sym (append-nil c.loop-rest.rest.now)) push.adds push.few push.longer push.exist push.bounded push.value) in
    whole.few
