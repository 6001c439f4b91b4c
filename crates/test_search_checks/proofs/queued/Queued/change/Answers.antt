use Rattle.std.proofs.Common.{rules, ◌≡◌, ◌<◌, refl, length, true, false}
use Rattle.signed_clause.specs.Ranges.{IsValid, is_nil}
use Rattle.signed_clause.specs.SetAlgebra.{is_within}
use Rattle.signed_clause.specs.Clauses.{box_of}
use Rattle.test_search_checks.proofs.WiderBoxes.{narrows_set}
use Rattle.test_search_checks.proofs.Fitted.{within_set, part_within, same_size}
use Rattle.test_search_checks.proofs.queued.Queued.change.Goals as goal

pub invariant_of-self : goal.invariant_of-self
invariant_of-self c =
    let inside = c.self.inside in
    let at = c.self.invariant in
    let was = inside.boxes.items in
    let domains = inside.ground.domains in
    let x = c.args.x in
    let set = c.args.set in
    let there : x < length was = search rules in
    let some : is_nil set ≡ false = search rules in
    let within : is_within set (box_of was x) ≡ true = search rules in
    let before : IsValid (box_of was x) = search rules in
    let after : IsValid set = search rules in
    let news = c.set_box.new.boxes.items in
    let narrows = narrows_set was news x set (box_of was x) c.set_box.ensures there refl some
    within before after in
    record {
      made = at.made;
      over = c.note_narrower.ensures.over inside.ground at.over;
      within = within_set domains was news x set c.set_box.ensures there after
          (part_within domains was x set at.made.domains after before there within at.within) some
          at.within;
      fits = c.note_narrower.ensures.fits inside.ground was news at.made at.over at.within.size
          (same_size was news x set c.set_box.ensures) at.fits narrows;
    }
