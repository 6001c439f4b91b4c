use Rattle.std.proofs.Common.{rules, ◌≡◌, ◌∙◌, List, ap, subst, sym, slice_set}
use Rattle.clause_watches.specs.declared.rest.Rest.{Rest}
use Rattle.clause_watches.specs.Watching.{rest_of}
use Rattle.clause_watches.specs.Sound.{AreLinked}
use Rattle.clause_watches.specs.Looking.{linked}
use Rattle.clause_watches.proofs.LinkLaws.{linked_more}
use Rattle.clause_watches.proofs.link.add_link.Goals as goal

pub returns-clause-sound : goal.returns-clause-sound
returns-clause-sound c =
    let t = c.args.table.now in
    let l = c.args.link in
    let sound = c.requires.sound in
    let news : c.set.new.self ≡ slice_set t.rests l.watch.clause
    (linked l.variable (rest_of t.rests l.watch.clause)) =
    c.set.ensures ∙ ap (λ (r : Rest). slice_set t.rests l.watch.clause r)
    (c.linked.ensures ∙ ap (λ (r : Rest). linked l.variable r) c.get-rest.ensures) in
    let rows = c.push_watch.new.rows.items in
    let more = linked_more t.added.items t.rests t.rows.items rows t.leasts.items t.held.items l
    sound.fit c.requires.there c.requires.unnamed c.requires.right c.in_ok-push_watch.ensures.others
    c.in_ok-push_watch.ensures.ok in record {
      leasts_size = search rules;
      held_size = search rules;
      changed_size = search rules;
      clauses = search rules;
      packed = search rules;
      fit = subst (λ (rests : List Rest). AreLinked t.added.items rests rows t.leasts.items
          t.held.items) (sym news) more;
    }
