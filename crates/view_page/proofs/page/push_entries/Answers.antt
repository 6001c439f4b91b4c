use Rattle.std.proofs.Common.{arith, ◌≤◌, drop, length}
use Rattle.std.proofs.lemmas.List.{at_drop_all}
use Rattle.serde_json.specs.View.{view}
use Rattle.view_page.specs.EntryViews.{entries_seen}
use Rattle.view_page.specs.PageViews.{wish_seen}
use Rattle.view_page.proofs.ShownLaws.{shown_last}
use Rattle.view_page.proofs.page.push_entries.Goals as goal

pub returns : goal.returns
returns c =
    let l = c.loop-entry in
    let all = c.args.entries.now in
    let past : length all ≤ l.entry-index = omega (arith, c.loop-entry-test.false) in
    shown_last (wish_seen c.args.wish) l.at.number (view l.at.before.now) (view c.args.former.now) (entries_seen (drop l.entry-index all)) (entries_seen all) c.args.page.now.items l.page.items
    (at_drop_all entries_seen all l.entry-index past) l.invariant.shown
