use Rattle.std.proofs.Common.{◌≡◌, ◌++◌, ◌≤◌, Some, map}
use Rattle.view_page.specs.Entries.{entry_of, lines}
use Rattle.view_page.specs.EntryViews.{entries_seen}
use Rattle.view_page.specs.Turns.{lines_left}
use Rattle.view_page.proofs.entries.entries_of.Given as goal

-- the entries so far, and the lines that are left
abbrev pub invariant-loop-i : goal.invariant-loop-i
invariant-loop-i l = record {
  begun : l.start ≤ l.i;
  entries : map Some (entries_seen l.entries.items) ++ map entry_of (lines_left l.text l.start l.i) ≡ map entry_of (lines l.text);
}
