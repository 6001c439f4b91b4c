use Rattle.std.proofs.Common.{rules, ◌≡◌, ◌<◌, refl, length, true, false}
use Rattle.signed_clause.specs.Ranges.{IsValid, is_nil}
use Rattle.signed_clause.specs.SetAlgebra.{is_within}
use Rattle.signed_clause.specs.Clauses.{box_of}
use Rattle.clause_watches.specs.Watching.{touched}
use Rattle.test_search_checks.proofs.WiderBoxes.{count_mapped, narrows_set}
use Rattle.test_search_checks.proofs.watched.Watched.change.Goals as goal

pub invariant_of-self : goal.invariant_of-self
invariant_of-self c =
    let was = c.self.inside.boxes.items in
    let x = c.args.x in
    let there : x < length was = search rules in
    let some : is_nil c.args.set ≡ false = search rules in
    let within : is_within c.args.set (box_of was x) ≡ true = search rules in
    let before : IsValid (box_of was x) = search rules in
    let after : IsValid c.args.set = search rules in
    let narrows = narrows_set was c.set_box.new.boxes.items x c.args.set (box_of was x)
    c.set_box.ensures there refl some within before after in
    record {
      size = search rules;
      count = count_mapped c.self.inside.watches.added _ c.self.inside.watches.rests _ (touched x)
          c.self.invariant.count c.note_narrower.ensures.added c.note_narrower.ensures.rests;
      fits = c.note_narrower.ensures.fits was c.set_box.new.boxes.items c.self.invariant.fits narrows;
    }
