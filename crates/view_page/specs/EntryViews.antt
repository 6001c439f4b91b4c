-- Entries of the program, as what they stand for.
use Rattle.std.specs.Prelude.{List, map}
use Rattle.serde_json.specs.View.{view}
use Rattle.view_page.specs.Entries.{PageEntry, shown, missing, said}
use Rattle.view_page.specs.declared.entries.Entry.{Entry}
use Rattle.view_page.specs.declared.entries.Entry.TheVariants as entry

abbrev pub entry_seen : Entry → PageEntry
entry_seen (entry.Shown value) = shown (view value)
entry_seen entry.Missing = missing
entry_seen (entry.Said line) = said line.now

abbrev pub entries_seen : List Entry → List PageEntry
entries_seen es = map entry_seen es
