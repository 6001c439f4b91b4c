use Rattle.std.proofs.Common.{◌≡◌, drop}
use Rattle.std.specs.List.{list_all}
use Rattle.site_tables.specs.Cells.{is_plain}
use Rattle.site_tables.proofs.cells.are_plain.Given as goal

-- what is left decides
abbrev pub invariant-loop-byte : goal.invariant-loop-byte
invariant-loop-byte l =
    list_all is_plain (drop l.byte-index l.text) ≡ list_all is_plain l.text
