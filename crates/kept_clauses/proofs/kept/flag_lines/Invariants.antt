use Rattle.std.proofs.Common.{◌≡◌, ◌++◌, [], drop}
use Rattle.kept_clauses.specs.Kept.{keeps}
use Rattle.kept_clauses.proofs.kept.flag_lines.Given as goal

abbrev pub invariant-loop-line : goal.invariant-loop-line
invariant-loop-line l =
    l.flags.items ++ keeps l.g l.n l.b l.marks.items (drop l.line-index l.lines)
    ≡ keeps l.g l.n l.b [] l.lines
