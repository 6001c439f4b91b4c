use Rattle.std.proofs.Common.{rules, ◌≡◌, ◌∙◌, true, false, Some, map, refl, sym}
use Rattle.view_page.specs.EntryViews.{entries_seen}
use Rattle.view_page.proofs.LineLaws.{line_goes_on, line_refused}
use Rattle.view_page.proofs.entries.turn.Goals as goal

pub returns-then-not-feed-clause-entries : goal.returns-then-not-feed-clause-entries
returns-then-not-feed-clause-entries c =
    let none : c.is_feed-feed.result ≡ false = search rules in
    let old = map Some (entries_seen c.args.entries.now.items) in
    line_goes_on c.args.text.now c.args.start c.args.i 0 c.requires.begun c.requires.within old old (sym (c.is_feed-feed.ensures.feed 0) ∙ none) refl

pub returns-in-Err-clause-refused : goal.returns-in-Err-clause-refused
returns-in-Err-clause-refused c =
    let feed : c.is_feed-feed.result ≡ true = search rules in
    line_refused c.args.text.now c.args.start c.args.i 0 c.requires.begun c.requires.within c.in-Err.error (sym (c.is_feed-feed.ensures.feed 0) ∙ feed) c.in-Err.ensures.refused
