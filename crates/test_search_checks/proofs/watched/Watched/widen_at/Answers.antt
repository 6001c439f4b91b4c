use Rattle.std.proofs.Common.{rules, ◌≡◌, ◌<◌, refl, length, true}
use Rattle.signed_clause.specs.Ranges.{IsValid}
use Rattle.signed_clause.specs.SetAlgebra.{is_within}
use Rattle.signed_clause.specs.Clauses.{box_of}
use Rattle.test_search_checks.proofs.WiderBoxes.{count_kept, widens_within}
use Rattle.test_search_checks.proofs.watched.Watched.widen_at.Goals as goal

pub invariant_of-self : goal.invariant_of-self
invariant_of-self c =
    let was = c.self.inside.boxes.items in
    let x = c.args.x in
    let there : x < length was = search rules in
    let within : is_within (box_of was x) c.args.set ≡ true = search rules in
    let before : IsValid (box_of was x) = search rules in
    let after : IsValid c.args.set = search rules in
    let widens = widens_within was c.set_box.new.boxes.items x c.args.set (box_of was x)
    c.set_box.ensures there refl within before after in
    record {
      size = search rules;
      count = count_kept c.self.inside.watches.added _ c.self.inside.watches.rests _
          c.self.invariant.count c.note_wider.ensures.added c.note_wider.ensures.size;
      fits = c.note_wider.ensures.fits was c.set_box.new.boxes.items c.self.invariant.fits widens;
    }
