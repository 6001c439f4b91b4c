use Rattle.std.proofs.Common.{◌≤◌, drop}
use Rattle.serde_json.specs.View.{view}
use Rattle.view_page.specs.Adding.{IsShownSo}
use Rattle.view_page.specs.EntryViews.{entries_seen}
use Rattle.view_page.specs.PageViews.{wish_seen}
use Rattle.view_page.proofs.page.push_entries.Given as goal

-- whatever those that are left add is added to what was shown
abbrev pub invariant-loop-entry : goal.invariant-loop-entry
invariant-loop-entry l = record {
  few : l.at.number ≤ l.entry-index;
  shown : IsShownSo (wish_seen l.fn.wish) l.at.number (view l.at.before.now) (entries_seen (drop l.entry-index l.entries)) (view l.fn.former) (entries_seen l.entries) l.fn.page.items l.page.items;
}
