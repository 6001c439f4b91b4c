use Rattle.std.proofs.Common.{◌∙◌}
use Rattle.site_texts.proofs.EntryLaws.{under_got}
use Rattle.site_texts.proofs.texts.Texts.get.Goals as goal

pub returns : goal.returns
returns c =
    under_got c.in_ok-key.key c.args.name.now c.copied.result c.self.inside.stored.entries
    c.args.self.now c.in_ok-key.ensures.bytes c.self.view_is (c.copied.ensures ∙ c.get.ensures.value)
