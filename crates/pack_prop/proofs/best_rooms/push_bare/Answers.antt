use Rattle.std.proofs.Common.{◌≡◌, ◌<ℤ◌, ◌+ℤ◌, [], pos, arith}
use Rattle.std.proofs.lemmas.Int.{ints}
use Rattle.pack_prop.proofs.TightRows.{push_best, push_length, no_best_rooms, no_length}
use Rattle.pack_prop.proofs.best_rooms.push_bare.Goals as goal

pub loop-at-init : goal.loop-at-init
loop-at-init c = record {
  rooms = λ boxes. no_best_rooms c.args.first.value _ [] boxes c.requires.none;
  upto = no_length c.args.first.value _ c.requires.none;
  order = c.requires.order;
}

pub loop-at-preserved : goal.loop-at-preserved
loop-at-preserved c =
    let next : c.next-at.result.value ≡ c.loop-at.at.value +ℤ pos 1 = c.next-at.ensures in
    let below : c.loop-at.at.value <ℤ c.args.last.value = grind (arith, ints) in
    record {
      rooms = λ boxes. push_best c.args.first.value c.loop-at.at.value c.loop-at.rows.items _ _ [] boxes c.in_ok-push.ensures.items (c.loop-at.invariant.rooms boxes) c.loop-at.invariant.upto (c.bare_at.ensures boxes);
      upto = push_length c.args.first.value c.loop-at.at.value c.next-at.result.value c.loop-at.rows.items _ _ c.in_ok-push.ensures.items c.loop-at.invariant.upto c.next-at.ensures;
      order = omega (arith, ints, next, below);
    }

pub returns-then-last-at-clause-rooms : goal.returns-then-last-at-clause-rooms
returns-then-last-at-clause-rooms c boxes = push_best c.args.first.value c.loop-at.at.value c.loop-at.rows.items _ _ [] boxes c.in_ok-push.ensures.items (c.loop-at.invariant.rooms boxes) c.loop-at.invariant.upto (c.bare_at.ensures boxes)
