use Rattle.std.proofs.Common.{false, pos, ◌&&◌, ℕ, List, ℤ, ◌∷◌, subst}
use Rattle.object_alloc.specs.Changes.{allowed, changes}
use Rattle.ground_form.specs.StandsFor.{StandsFor}
use Rattle.ground_cells.specs.CellBoxes.{cell_boxes}
use Rattle.reconfigure.specs.Failing.{objects_named}
use Rattle.reconfigure.proofs.problem.changed_problem.Goals as goal

pub returns-then-has_empty-clause-stands : goal.returns-then-has_empty-clause-stands
returns-then-has_empty-clause-stands c test functions st =
    let o = c.args.objects.now in
    c.in_ok-new.ensures.stands (cell_boxes o) test (λ t. test t && allowed o (objects_named o c.args.failed.now) t) functions (λ t. pos (changes o c.args.former.now t)) st

pub returns-clause-stands : goal.returns-clause-stands
returns-clause-stands c test functions st =
    let o = c.args.objects.now in
    subst (λ (ws : List ℕ). StandsFor c.in_ok-new-2.new (cell_boxes o) (λ (t : List ℤ). test t && allowed o ws t) ((false, λ (t : List ℤ). pos (changes o c.args.former.now t)) ∷ functions))
    c.in_ok-failed.ensures.numbers (c.in_ok-new-2.ensures.stands test functions st)
