use Rattle.std.proofs.Common.{rules, List, subst, sym}
use Rattle.clause_watches.specs.declared.rest.Rest.{Rest}
use Rattle.clause_watches.specs.Sound.{AreLinked}
use Rattle.clause_watches.proofs.HeldLaws.{linked_held}
use Rattle.clause_watches.proofs.held.hold.Goals as goal

pub returns-clause-sound : goal.returns-clause-sound
returns-clause-sound c =
    let t = c.args.table.now in
    let sound = c.requires.sound in
    let held = c.push_held.new.held.items in
    record {
      leasts_size = search rules;
      held_size = search rules;
      changed_size = search rules;
      clauses = search rules;
      packed = search rules;
      fit = subst (λ (rests : List Rest). AreLinked t.added.items rests t.rows.items
          t.leasts.items held) (sym c.set.ensures)
          (linked_held t.added.items t.rests t.rows.items t.leasts.items t.held.items held c.args.i
          c.args.x sound.fit c.requires.there c.requires.named c.in_ok-push_held.ensures.others
          c.in_ok-push_held.ensures.ok);
    }
