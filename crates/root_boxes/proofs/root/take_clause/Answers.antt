use Rattle.std.proofs.Common.{refl, sym, ap, ◌∙◌, slice_set}
use Rattle.signed_clause.specs.Clauses.{Boxes, unit_of}
use Rattle.root_boxes.proofs.RootSteps.{narrowed}
use Rattle.root_boxes.proofs.root.take_clause.Goals as goal

pub put-requires : goal.put-requires
put-requires c =
    let boxes = c.args.boxes.now.items in
    let e = ap (λ (b : Boxes). unit_of b c.args.clause.now) (sym c.as_slice.ensures.value) ∙ sym c.in_ok-x.ensures.value ∙ c.in-Some.is in
    (narrowed c.args.g.now boxes (slice_set boxes c.in-Some.x c.in-Some.set) c.args.clause.now c.in-Some.x c.in-Some.set c.requires.well_made c.requires.boxes c.requires.follows e refl).exists

pub returns : goal.returns
returns c =
    let boxes = c.args.boxes.now.items in
    let e = ap (λ (b : Boxes). unit_of b c.args.clause.now) (sym c.as_slice.ensures.value) ∙ sym c.in_ok-x.ensures.value ∙ c.in-Some.is in
    record { boxes = (narrowed c.args.g.now boxes c.put.new.boxes.items c.args.clause.now c.in-Some.x c.in-Some.set c.requires.well_made c.requires.boxes c.requires.follows e c.put.ensures).root }
