use Rattle.std.proofs.Common.{◌≡◌, ◌++◌, drop}
use Rattle.view_breaks.specs.Lines.{line_rest}
use Rattle.view_breaks.proofs.lines.push_rest.Given as goal

-- with what is left it is all
abbrev pub invariant-loop-byte : goal.invariant-loop-byte
invariant-loop-byte l =
    l.out.items ++ line_rest l.left (drop l.byte-index l.bytes) ≡ l.fn.out.items ++ line_rest l.most l.bytes
