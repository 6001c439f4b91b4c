use Rattle.std.proofs.Common.{rules, w64, unsigned_abs, ◌^◌, ◌+◌, ◌*ℤ◌, ◌≡◌, ◌≤◌, ℕ, List, ℤ, pos, ap, arith, refl}
use Rattle.std.proofs.lemmas.Int.{ints, to_z-of_z}
use Rattle.signed_clause.specs.Clauses.{Boxes}
use Rattle.form_build.specs.declared.form.Linear.{Linear}
use Rattle.form_build.specs.Forms.{linear_at}
use Rattle.form_build.specs.Sums.{IsLinear}
use Rattle.form_build.specs.Worlds.{IsWorld, AllHold}
use Rattle.form_build.proofs.Linears.{linear_more}
use Rattle.goal_rows.proofs.dividing.link_of.Goals as goal

shifted_light : (boxes : Boxes) (other rest shifted : Linear) (m n : ℕ) → m ≤ 2 ^ 19 → n ≤ 2 ^ 19 → ((i j : ℕ) → IsLinear i boxes other → IsLinear j boxes rest → IsLinear (i + j) boxes shifted) → IsLinear m boxes other → IsLinear n boxes rest → IsLinear (2 ^ 50) boxes shifted
shifted_light boxes other rest shifted m n h k plus one two = linear_more (m + n) (2 ^ 50) boxes shifted (omega (arith, h, k)) (plus m n one two)

pub times-requires-clause-linear : goal.times-requires-clause-linear
times-requires-clause-linear c = linear_more _ (2 ^ 19) c.args.maker.now.domains c.in_ok-single.single (c.if-not-are_near.ensures.own refl) c.in_ok-single.ensures.linear

pub less-requires-clause-left : goal.less-requires-clause-left
less-requires-clause-left c =
    let near = c.requires.near in
    linear_more _ (2 ^ 50) c.args.maker.now.domains c.in_ok-other.other (omega (arith, near)) c.in_ok-other.ensures.linear

pub less-requires-clause-right : goal.less-requires-clause-right
less-requires-clause-right c =
    let small = c.if-not-are_near.ensures.rest refl in
    let size = ap unsigned_abs (to_z-of_z w64 c.args.q.now.rest (search rules)) in
    linear_more _ (2 ^ 50) c.args.maker.now.domains c.number-rest.result (omega (arith, small, size)) (c.number-rest.ensures.linear c.args.maker.now.domains)

pub less-requires-2-clause-left : goal.less-requires-2-clause-left
less-requires-2-clause-left c =
    let small = c.if-not-are_near.ensures.rest refl in
    let size = ap unsigned_abs (to_z-of_z w64 c.args.q.now.rest (search rules)) in
    shifted_light c.args.maker.now.domains c.in_ok-other.other c.number-rest.result c.in_ok-shifted.shifted _ _ c.requires.near (omega (arith, small, size)) c.in_ok-shifted.ensures.linear c.in_ok-other.ensures.linear (c.number-rest.ensures.linear c.args.maker.now.domains)

pub less-requires-2-clause-right : goal.less-requires-2-clause-right
less-requires-2-clause-right c = linear_more (2 ^ 37) (2 ^ 50) c.args.maker.now.domains c.in_ok-whole.whole (omega arith) c.in_ok-whole.ensures.linear

pub is_small-requires : goal.is_small-requires
is_small-requires c =
    let small = c.if-not-are_near.ensures.rest refl in
    let size = ap unsigned_abs (to_z-of_z w64 c.args.q.now.rest (search rules)) in
    linear_more (2 ^ 50 + 2 ^ 37) (2 ^ 60) c.args.maker.now.domains c.in_ok-sum.sum (omega arith)
    (c.in_ok-sum.ensures.linear (2 ^ 50) (2 ^ 37)
    (shifted_light c.args.maker.now.domains c.in_ok-other.other c.number-rest.result c.in_ok-shifted.shifted _ _ c.requires.near (omega (arith, small, size)) c.in_ok-shifted.ensures.linear c.in_ok-other.ensures.linear (c.number-rest.ensures.linear c.args.maker.now.domains))
    c.in_ok-whole.ensures.linear)

pub returns : goal.returns
returns c =
    let nought : (a : List ℤ) → IsWorld c.args.maker.now a → AllHold c.args.maker.now a → linear_at c.in_ok-sum.sum a ≡ pos 0 = λ a w all.
    let sum = c.in_ok-sum.ensures.value a in
    let shifted = c.in_ok-shifted.ensures.value a in
    let rest = c.number-rest.ensures.value a in
    let other = c.in_ok-other.ensures.value a w.within in
    let whole = c.in_ok-whole.ensures.value a in
    let own = ap (λ (v : ℤ). pos c.args.q.now.times *ℤ v) (c.in_ok-single.ensures.value a w.within) in
    let goal_is = c.requires.value a w all in
    omega (arith, ints, sum, shifted, rest, other, whole, own, goal_is) in
    record {
      linear = c.if-not-is_small.ensures refl;
      adds = λ e a w all. let nil = nought a w all in omega (arith, ints, nil);
      takes = λ e a w all. let nil = nought a w all in omega (arith, ints, nil);
    }
