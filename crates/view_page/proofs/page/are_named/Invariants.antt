use Rattle.std.proofs.Common.{◌≡◌, drop}
use Rattle.std.specs.List.{list_all}
use Rattle.view_page.specs.EntryViews.{entries_seen}
use Rattle.view_page.specs.Page.{is_named}
use Rattle.view_page.proofs.page.are_named.Given as goal

-- those that are left decide
abbrev pub invariant-loop-entry : goal.invariant-loop-entry
invariant-loop-entry l =
    list_all (is_named l.attribute) (entries_seen (drop l.entry-index l.entries)) ≡ list_all (is_named l.attribute) (entries_seen l.entries)
