use Rattle.std.proofs.Common.{rules, ◌≡◌, ℕ, length, true, subst, sym}
use Rattle.signed_clause.specs.Ranges.{Ranges}
use Rattle.signed_clause.specs.Clauses.{box_of}
use Rattle.clause_watches.specs.Marks.{is_marked}
use Rattle.clause_watches.specs.Rows.{IsWalked}
use Rattle.clause_watches.specs.Sound.{row_of, sets_at, IsUnmarked}
use Rattle.clause_watches.proofs.VisitLaws.{walk_begins, linked_after, known_after, sets_valid}
use Rattle.clause_watches.proofs.visiting.visit_row.Goals as goal

pub returns-clause-sound : goal.returns-clause-sound
returns-clause-sound c =
    let t = c.args.table.now in
    let s = c.site_of-site.result in
    let sound = c.requires.sound in
    let begin = walk_begins t.added.items t.rests t.rows.items t.leasts.items t.held.items
    c.box_at-at.result.now s
    sound.fit c.site_of-site.ensures.least in
    let walked =
    c.walk_row.ensures.walked (sets_at t.added.items s.variable) t.rests
    c.site_of-site.ensures.mask
    c.site_of-site.ensures.valid (λ i. sets_valid _ t.added.items s.variable i sound.clauses) begin
    in
    record {
      leasts_size = search rules;
      held_size = search rules;
      changed_size = search rules;
      clauses = search rules;
      packed = search rules;
      fit = linked_after t.added.items t.rests c.walk_row.new.rests t.rows.items
          c.walk_row.new.rows.items t.leasts.items t.held.items
          c.box_at-at.result.now s sound.fit c.site_of-site.ensures.least
          c.walk_row.ensures.size c.walk_row.ensures.others c.walk_row.ensures.below walked;
    }

pub returns-clause-known : goal.returns-clause-known
returns-clause-known c = λ before on unmarked known.
    let t = c.args.table.now in
    let s = c.site_of-site.result in
    let sound = c.requires.sound in
    let at = c.box_at-at.result.now in
    let news = c.walk_row.new.rests in
    let row = row_of c.walk_row.new.rows.items s.variable in
    let begin = walk_begins t.added.items t.rests t.rows.items t.leasts.items t.held.items at s
    sound.fit c.site_of-site.ensures.least in
    let walked =
    c.walk_row.ensures.walked (sets_at t.added.items s.variable) t.rests
    c.site_of-site.ensures.mask
    c.site_of-site.ensures.valid (λ i. sets_valid _ t.added.items s.variable i sound.clauses) begin
    in
    let is : at ≡ box_of c.args.boxes.now s.variable = search rules in
    known_after c.args.boxes.now t.added.items t.rests news row s before t.changed
    (subst (λ (y : ℕ). is_marked before y ≡ true) (sym c.site_of-site.ensures.variable) on)
    (subst (λ (y : ℕ). IsUnmarked y before t.changed) (sym c.site_of-site.ensures.variable)
    unmarked)
    (λ i. (walked.steps i).apart (sound.fit.apart i))
    (subst (λ (b : Ranges). IsWalked (sets_at t.added.items s.variable) b s t.rests news row
    (length row)) is walked) known
