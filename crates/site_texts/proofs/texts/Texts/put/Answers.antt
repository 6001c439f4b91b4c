use Rattle.site_texts.proofs.EntryLaws.{under_put}
use Rattle.site_texts.proofs.texts.Texts.put.Goals as goal

pub returns : goal.returns
returns c = λ q.
    under_put q c.in_ok-key.key c.args.name.now c.args.text c.self.inside.stored.entries
    c.insert.new.self.entries c.args.self.now c.in_ok-key.ensures.bytes c.self.view_is
    (c.in_ok-insert.ensures.updates.0 q)
