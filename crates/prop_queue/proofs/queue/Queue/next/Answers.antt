use Rattle.std.proofs.Common.{◌≡◌, sym, subst, ◌∙◌}
use Rattle.std.proofs.lemmas.Result.{IfOk-weaker}
use Rattle.prop_queue.specs.Work.{Work, clauses_from}
use Rattle.prop_queue.proofs.FitLaws.{all_quiet, none_weaker}
use Rattle.prop_queue.proofs.ClauseLaws.{acting_at}
use Rattle.prop_queue.proofs.queue.Queue.next.Goals as goal

pub reason_of-requires-clause-acting : goal.reason_of-requires-clause-acting
reason_of-requires-clause-acting g c =
    let cons = c.args.g.now.cons in
    let added = subst (λ (w : Work). w.clauses.added ≡ clauses_from 0 cons) (sym c.self.view_is)
    c.requires.over.watched in
    acting_at cons c.next.new.self c.args.boxes.now c.in-Some.n (c.in_ok-n.ensures.added ∙ added)
    (rw c.in-Some.is at c.in_ok-n.ensures.some)

pub returns-in-None-clause-none : goal.returns-in-None-clause-none
returns-in-None-clause-none g c =
    let ground = c.args.g.now in
    let boxes = c.args.boxes.now in
    let added = subst (λ (w : Work). w.clauses.added ≡ clauses_from 0 ground.cons)
    (sym c.self.view_is) c.requires.over.watched in
    let none = rw c.in-None.is at c.in_ok-n.ensures.none in
    IfOk-weaker c.find.result _ _
    (λ o h. none_weaker o (λ others.
    all_quiet ground c.next.new.self.added boxes c.requires.well_made
    (c.in_ok-n.ensures.added ∙ added) c.requires.boxes others none) h) c.find.ensures.none
