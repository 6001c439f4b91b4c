use Rattle.std.proofs.Common.{◌≡◌, ◌∙◌, rules, w64, of_z, to_z}
use Rattle.std.proofs.lemmas.Int.{to_z-of_z}
use Rattle.operator_forms.proofs.FixedSums.{other_fixed}
use Rattle.operator_forms.proofs.Factors.{left_near, right_near, left_between, right_between, left_value, right_value}
use Rattle.operator_forms.proofs.arithmetic.product.Goals as goal

pub times-requires-clause-near : goal.times-requires-clause-near
times-requires-clause-near c =
    let e : to_z w64 (of_z w64 c.offset_of.result) ≡ c.args.f.now.offset = to_z-of_z w64 c.offset_of.result (search rules) ∙ c.offset_of.ensures in
    left_near c.args.maker.now.domains c.args.f.now c.args.g.now (to_z w64 (of_z w64 c.offset_of.result)) c.requires.numbers (c.is_fixed.ensures.fixed c.if-is_fixed.true) e

pub returns-then-is_fixed-clause-value : goal.returns-then-is_fixed-clause-value
returns-then-is_fixed-clause-value c a w =
    let e : to_z w64 (of_z w64 c.offset_of.result) ≡ c.args.f.now.offset = to_z-of_z w64 c.offset_of.result (search rules) ∙ c.offset_of.ensures in
    left_value c.args.f.now c.args.g.now c.in_ok-r.r (to_z w64 (of_z w64 c.offset_of.result)) a (c.is_fixed.ensures.fixed c.if-is_fixed.true) e (c.in_ok-r.ensures.value a w)

pub returns-then-is_fixed-clause-sum : goal.returns-then-is_fixed-clause-sum
returns-then-is_fixed-clause-sum c =
    let e : to_z w64 (of_z w64 c.offset_of.result) ≡ c.args.f.now.offset = to_z-of_z w64 c.offset_of.result (search rules) ∙ c.offset_of.ensures in
    left_between c.args.maker.now.domains c.args.f.now c.args.g.now (to_z w64 (of_z w64 c.offset_of.result)) c.times.new.maker.domains c.in_ok-r.r c.in_ok-r.ensures.linear
    (c.is_fixed.ensures.fixed c.if-is_fixed.true) e c.in_ok-r.ensures.low c.in_ok-r.ensures.high

pub times-requires-2-clause-near : goal.times-requires-2-clause-near
times-requires-2-clause-near c =
    let e : to_z w64 (of_z w64 c.offset_of-2.result) ≡ c.args.g.now.offset = to_z-of_z w64 c.offset_of-2.result (search rules) ∙ c.offset_of-2.ensures in
    let nil = other_fixed c.args.maker.now.domains c.args.f.now c.args.g.now c.requires.numbers (c.is_fixed.ensures.open_sum c.if-is_fixed.false) in
    right_near c.args.maker.now.domains c.args.f.now c.args.g.now (to_z w64 (of_z w64 c.offset_of-2.result)) c.requires.numbers nil e

pub returns-clause-value : goal.returns-clause-value
returns-clause-value c a w =
    let e : to_z w64 (of_z w64 c.offset_of-2.result) ≡ c.args.g.now.offset = to_z-of_z w64 c.offset_of-2.result (search rules) ∙ c.offset_of-2.ensures in
    let nil = other_fixed c.args.maker.now.domains c.args.f.now c.args.g.now c.requires.numbers (c.is_fixed.ensures.open_sum c.if-is_fixed.false) in
    right_value c.args.f.now c.args.g.now c.in_ok-r-2.r (to_z w64 (of_z w64 c.offset_of-2.result)) a nil e (c.in_ok-r-2.ensures.value a w)

pub returns-clause-sum : goal.returns-clause-sum
returns-clause-sum c =
    let e : to_z w64 (of_z w64 c.offset_of-2.result) ≡ c.args.g.now.offset = to_z-of_z w64 c.offset_of-2.result (search rules) ∙ c.offset_of-2.ensures in
    let nil = other_fixed c.args.maker.now.domains c.args.f.now c.args.g.now c.requires.numbers (c.is_fixed.ensures.open_sum c.if-is_fixed.false) in
    right_between c.args.maker.now.domains c.args.f.now c.args.g.now (to_z w64 (of_z w64 c.offset_of-2.result)) c.times-2.new.maker.domains c.in_ok-r-2.r c.in_ok-r-2.ensures.linear nil e c.in_ok-r-2.ensures.low c.in_ok-r-2.ensures.high
