use Rattle.std.proofs.Common.{rules, subst, sym}
use Rattle.signed_clause.specs.Clauses.{Boxes}
use Rattle.rule_law.specs.Answers.{AreBoxesWithin}
use Rattle.test_search_checks.proofs.queued.Queued.undo.Goals as goal

pub invariant_of-self : goal.invariant_of-self
invariant_of-self c =
    let was = c.self.inside in
    let news = c.args.boxes.items in
    let within : AreBoxesWithin was.ground.domains news = search rules in
    let over = c.take_over.ensures.over was.ground c.self.invariant.over in
    record {
      made = c.self.invariant.made;
      over = c.note_undo.ensures.over was.ground over;
      within = subst (λ (b : Boxes). AreBoxesWithin was.ground.domains b)
          (sym c.take_over.ensures.boxes) within;
      fits = c.note_undo.ensures.fits was.ground c.take_over.new.boxes.items over c.take_over.ensures.known;
    }
