use Rattle.std.proofs.Common.{◌∙◌, refl, sym, ap, subst, length, arith}
use Rattle.signed_clause.specs.SetAlgebra.{meet}
use Rattle.signed_clause.specs.Clauses.{Boxes, box_of}
use Rattle.branch_choice.specs.Picks.{half_of}
use Rattle.run_law.specs.Ordered.{IsDecidedBy}
use Rattle.bound_search.specs.Standing.{IsDecision}
use Rattle.bound_search.proofs.Splits.{due_decision, due_order}
use Rattle.bound_search.proofs.solving.decide_split.Goals as goal

pub decide-requires-clause-decision : goal.decide-requires-clause-decision
decide-requires-clause-decision g c =
    let s = c.args.split in
    let boxes = c.args.e.now.board.store.top.now in
    let is = c.in_ok-half.ensures.half
    ∙ ap (λ (b : Boxes). meet (half_of s) (box_of b s.var)) c.boxes.ensures.boxes in
    subst (IsDecision c.args.g.now boxes s.var) (sym is)
    (due_decision c.args.g.now c.args.journal.now.lines c.args.chooser.now.order c.args.hints.now
    c.args.e.now s c.requires.due c.taken_half.ensures.valid)

pub returns-clause-kept : goal.returns-clause-kept
returns-clause-kept g c =
    let s = c.args.split in
    let boxes = c.args.e.now.board.store.top.now in
    let order = c.args.chooser.now.order in
    let hints = c.args.hints.now in
    let is = c.in_ok-half.ensures.half
    ∙ ap (λ (b : Boxes). meet (half_of s) (box_of b s.var)) c.boxes.ensures.boxes in
    c.decide.ensures.kept order hints
    (subst (IsDecidedBy order boxes hints c.args.g.now.search s.var) (sym is)
    (due_order c.args.g.now order boxes hints s c.requires.due.picked))

pub taken_half-requires : goal.taken_half-requires
taken_half-requires g c =
    let split = c.requires.due.picked.split c.args.split refl in
    let searched = split.undecided.searched in
    let few = c.requires.due.at.at.lines.well_made.search in
    let size = c.requires.due.at.board.size in
    let same = ap (λ (b : Boxes). length b) c.boxes.ensures.boxes in
    omega (arith, searched, few, size, same)
