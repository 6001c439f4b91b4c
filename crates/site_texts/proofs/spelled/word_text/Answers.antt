use Rattle.std.proofs.Common.{◌∙◌, ap}
use Rattle.std.specs.Str.Lossy.{utf8_lossy}
use Rattle.site_texts.proofs.WordTexts.{word_lossy}
use Rattle.site_texts.proofs.spelled.word_text.Goals as goal

pub returns : goal.returns
returns c =
    c.in_ok-text.ensures.lossy
    ∙ ap utf8_lossy (c.deref.ensures.value ∙ c.in_ok-word.ensures)
    ∙ word_lossy c.args.name.now
