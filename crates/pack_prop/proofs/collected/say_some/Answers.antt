use Rattle.std.proofs.Common.{arith, ◌∙◌, ap}
use Rattle.signed_clause.specs.Clauses.{Literals}
use Rattle.pack_prop.specs.Collected.{with_set}
use Rattle.pack_prop.proofs.Collecting.{found_is, none_is, found_none}
use Rattle.pack_prop.proofs.collected.say_some.Goals as goal

pub returns-then-index-y : goal.returns-then-index-y
returns-then-index-y c =
    found_is c.args.y c.args.set c.in_ok-joined.joined c.loop-k.literals.items c.args.literals.now.items c.loop-k.k c.index.result.now c.index-then-index-y.result.now c.index_mut.result.now
    c.loop-k.invariant.none (let h = c.loop-k-test.true in let e = c.len.ensures in omega arith) c.loop-k.invariant.same c.index.ensures c.if-index-y.true c.index-then-index-y.ensures c.in_ok-joined.ensures.list c.index_mut.ensures.value

pub loop-k-preserved : goal.loop-k-preserved
loop-k-preserved c = record {
  upto = let h = c.loop-k-test.true in let e = c.len.ensures in omega arith;
  none = none_is c.args.y c.loop-k.literals.items c.loop-k.k c.index.result.now c.loop-k.invariant.none (let h = c.loop-k-test.true in let e = c.len.ensures in omega arith) c.index.ensures c.if-index-y.false;
  same = c.loop-k.invariant.same;
}

pub returns : goal.returns
returns c =
    c.in_ok-push.ensures.items ∙ found_none c.args.y c.args.set c.loop-k.literals.items c.loop-k.k c.loop-k.invariant.none (let h = c.loop-k-test.false in let e = c.len.ensures in omega arith)
    ∙ ap (λ (z : Literals). with_set c.args.y c.args.set z) c.loop-k.invariant.same
