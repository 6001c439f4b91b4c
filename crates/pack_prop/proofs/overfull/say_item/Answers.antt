use Rattle.std.proofs.Common.{arith, sym, ◌∙◌}
use Rattle.pack_prop.proofs.LoadWalk.{over_open, over_spared, over_said, size_ge}
use Rattle.pack_prop.proofs.overfull.say_item.Goals as goal

pub returns-then-not-is_fixed : goal.returns-then-not-is_fixed
returns-then-not-is_fixed c =
    over_open c.args.tried.domains.now c.args.tried.boxes.now c.args.tried.items.now c.args.tried.x c.args.m c.args.tried.part.now c.args.at.value c.args.spare.value c.args.literals.now.items c.requires.ground c.requires.there
    (λ q. let is = sym c.is_fixed.ensures ∙ c.if-not-is_fixed.true in absurd cc) c.requires.so_far

pub difference-requires-clause-low : goal.difference-requires-clause-low
difference-requires-clause-low c =
    size_ge c.args.tried.domains.now c.args.tried.boxes.now c.args.tried.items.now c.args.tried.x c.args.m c.args.tried.part.now c.least-low.result.value c.requires.ground c.requires.there c.least-low.ensures

pub returns-then-is_left_out : goal.returns-then-is_left_out
returns-then-is_left_out c =
    over_spared c.args.tried.domains.now c.args.tried.boxes.now c.args.tried.items.now c.args.tried.x c.args.m c.args.tried.part.now c.args.at.value c.args.spare.value c.least-low.result.value c.difference.result.value c.args.literals.now.items
    c.requires.ground c.requires.there (sym c.is_fixed.ensures ∙ c.if-not-is_fixed.false) c.least-low.ensures c.difference.ensures (c.is_left_out.ensures c.if-is_left_out.true) c.requires.so_far

pub returns : goal.returns
returns c =
    over_said c.args.tried.domains.now c.args.tried.boxes.now c.args.tried.items.now c.args.tried.x c.args.m c.args.tried.part.now c.domain_at.result.now c.in_ok-under.under c.args.at.value c.args.spare.value c.least-low.result.value
    c.args.literals.now.items c.say_bin.new.literals.items c.say.new.literals.items c.requires.ground c.requires.there (sym c.is_fixed.ensures ∙ c.if-not-is_fixed.false) c.least-low.ensures c.in_ok-say_bin.ensures
    c.domain_at.ensures c.in_ok-under.ensures.valid c.in_ok-under.ensures.values c.in_ok-say.ensures c.requires.so_far

pub is_fixed-requires-clause-named : goal.is_fixed-requires-clause-named
is_fixed-requires-clause-named c = (c.requires.ground.named c.args.m (0, 0, 0) c.requires.there).bin

pub least-low-requires-clause-named : goal.least-low-requires-clause-named
least-low-requires-clause-named c = (c.requires.ground.named c.args.m (0, 0, 0) c.requires.there).size

pub domain_at-requires : goal.domain_at-requires
domain_at-requires c = let n = (c.requires.ground.named c.args.m (0, 0, 0) c.requires.there).size in let e = c.requires.ground.boxes_within.size in omega arith
