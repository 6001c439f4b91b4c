use Rattle.std.proofs.Common.{length, ◌∙◌}
use Rattle.conf_types.specs.Checked.{told}
use Rattle.conf_types.proofs.ScopeLaws.{nearer, left_more}
use Rattle.conf_types.proofs.scope.nearest.Goals as goal

pub loop-k-preserved : goal.loop-k-preserved
loop-k-preserved c =
    let xs = c.args.locals.now in
    let x = c.index-locals-k.result in
    let on = c.loop-k-test.true in
    record {
      same = nearer xs c.loop-k.k x c.args.name.now (told c.loop-k.found) (told c.local_or-found.result) on c.index-locals-k.is c.local_or-found.ensures.sense ∙ c.loop-k.invariant.same;
      exists = λ o h a. c.local_or-found.ensures.exists o (c.loop-k.invariant.exists o h a) (left_more xs c.loop-k.k (length o.classes) x on c.index-locals-k.is (c.loop-k.invariant.left o a)).0;
      left = λ o a. (left_more xs c.loop-k.k (length o.classes) x on c.index-locals-k.is (c.loop-k.invariant.left o a)).1;
    }
