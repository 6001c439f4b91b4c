use Rattle.std.proofs.Common.{◌≡◌, drop}
use Rattle.signed_clause.specs.Clauses.{box_of}
use Rattle.box_rules.specs.Refuted.{none_picked}
use Rattle.box_rules.specs.Gaps.{IsGap}
use Rattle.box_rules.proofs.flags.excludes_element.Given as goal

abbrev pub invariant-loop-t : goal.invariant-loop-t
invariant-loop-t g l = record {
  same : none_picked (box_of (g.V.View.boxes l.view) l.out) (box_of (g.V.View.boxes l.view) l.index) (drop l.t-index l.items) (g.V.View.boxes l.view)
      ≡ none_picked (box_of (g.V.View.boxes l.view) l.out) (box_of (g.V.View.boxes l.view) l.index) l.items (g.V.View.boxes l.view);
  gap : IsGap (box_of (g.V.View.boxes l.view) l.index) l.gap;
}
