use Rattle.std.proofs.Common.{rules, ◌≡◌, ◌∷◌, [], ◌++◌, ℕ, length, sym, subst, slice_set}
use Rattle.signed_clause.specs.Clauses.{Boxes}
use Rattle.clause_watches.specs.Watching.{WidensAt}
use Rattle.test_search_checks.proofs.WiderBoxes.{AreTaken, one_taken, all_taken, taken_wider}
use Rattle.test_search_checks.proofs.queued.take_over.Goals as goal

pub loop-set-preserved : goal.loop-set-preserved
loop-set-preserved c =
    let at = c.loop-set.invariant in
    let before = c.args.boxes.now.items in
    let boxes = c.loop-set.boxes.items in
    let news = c.set_box.new.boxes.items in
    let wider = c.args.wider.items in
    let more = c.loop-set.wider.items in
    let left = c.pop.new.self.items in
    let set = c.in-Some.set in
    let e : more ≡ left ++ set ∷ [] = search rules in
    let is : news ≡ slice_set boxes (length left) set = search rules in
    let taken = one_taken before boxes news wider left more set e c.requires.size is at.taken in
    let widens = taken_wider before boxes news wider left more set e c.requires.size is at.taken
    c.requires.wider in
    let size : c.len-x.result ≡ length left = search rules in
    let widens_x : WidensAt c.len-x.result boxes news =
    subst (λ (y : ℕ). WidensAt y boxes news) (sym size) widens in
    record {
      taken = taken;
      rows = search rules;
      over = λ g h. c.note_wider.ensures.over g (at.over g h);
      known = c.note_wider.ensures.clauses boxes news at.known widens_x;
    }

pub returns-clause-boxes : goal.returns-clause-boxes
returns-clause-boxes c =
    let none : c.loop-set.wider.items ≡ [] = search rules in
    all_taken c.args.boxes.now.items c.loop-set.boxes.items c.args.wider.items c.requires.size
    (subst (λ (l : Boxes). AreTaken c.args.boxes.now.items c.loop-set.boxes.items
    c.args.wider.items l) none c.loop-set.invariant.taken)
