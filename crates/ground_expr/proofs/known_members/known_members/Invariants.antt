use Rattle.std.proofs.Common.{◌≡◌, ◌≤◌, ◌++◌, ℕ, List, ℤ, drop, length}
use Rattle.std.specs.List.{All}
use Rattle.class_table.specs.Outline.{Outline}
use Rattle.signed_clause.specs.Clauses.{Boxes}
use Rattle.form_build.specs.Worlds.{AreKnown}
use Rattle.expr_forms.specs.FormBounds.{IsMember}
use Rattle.expr_forms.specs.FormValues.{members_at}
use Rattle.ground_expr.proofs.known_members.known_members.Given as goal

-- with what is left they are all
abbrev pub invariant-loop-m : goal.invariant-loop-m
invariant-loop-m l = record {
  value : (a : List ℤ) → AreKnown l.known a → members_at l.kept.items a ++ members_at (drop l.m-index l.members) a ≡ members_at l.members a;
  each : (o : Outline) (boxes : Boxes) (c : ℕ) → All (IsMember o boxes c) l.members → All (IsMember o boxes c) l.kept.items;
  few : length l.kept.items ≤ l.m-index;
}
