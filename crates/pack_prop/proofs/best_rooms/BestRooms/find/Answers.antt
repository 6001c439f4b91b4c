use Rattle.std.proofs.Common.{rules, [], List, ◌≡◌, length, arith, subst, sym, ap, ◌∙◌}
use Rattle.std.proofs.lemmas.Int.{ints}
use Rattle.pack_prop.specs.declared.best_rooms.ValueRooms.{ValueRooms}
use Rattle.pack_prop.specs.Tight.{AreBestRooms}
use Rattle.pack_prop.proofs.BestRows.{as_slice, best_rooms_have, best_rooms_are, written}
use Rattle.pack_prop.proofs.best_rooms.BestRooms.find.Goals as goal

pub add_items-requires-clause-none : goal.add_items-requires-clause-none
add_items-requires-clause-none c =
    as_slice _ _ c.args.first.value [] c.args.boxes.now c.as_mut_slice.ensures.value (best_rooms_have c.args.first.value _ [] c.args.boxes.now (c.in_ok-push_bare.ensures.rooms c.args.boxes.now))

pub returns : goal.returns
returns c =
    let rows : AreBestRooms c.args.first.value c.add_items.new.rows c.args.items.now c.args.boxes.now = best_rooms_are c.args.first.value c.add_items.new.rows c.args.items.now c.args.boxes.now c.add_items.ensures.rows in
    let same : c.as_slice.result.now ≡ c.add_items.new.rows =
    written c.push_bare.new.rows.len c.add_items.new.rows c.push_bare.new.rows.items c.as_mut_slice.result.now c.as_slice.result.now c.as_mut_slice.ensures.value (search rules) c.add_items.ensures.size c.as_slice.ensures.value in
    let size : length c.as_slice.result.now ≡ length c.push_bare.new.rows.items = ap length same ∙ c.add_items.ensures.size ∙ ap length c.as_mut_slice.ensures.value in
    let all = c.in_ok-push_bare.ensures.all in
    record {
      rooms = subst (λ (z : List ValueRooms). AreBestRooms c.args.first.value z c.args.items.now c.args.boxes.now) (sym same) rows;
      all = omega (arith, ints, size, all);
    }
