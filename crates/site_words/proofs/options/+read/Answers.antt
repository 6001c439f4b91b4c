use Rattle.std.proofs.Common.{string_bytes}
use Rattle.site_words.specs.Words.{options_seen}
use Rattle.site_words.proofs.OptionLaws.{lone_of, none_left}
use Rattle.site_words.proofs.options.+read.Goals as goal

pub options_behind-returns-in-empty : goal.options_behind-returns-in-empty
options_behind-returns-in-empty t c =
    lone_of (options_seen c.args.found) c.args.name.now string_bytes c.args.words.now
    c.in-empty.len_below

pub options_from-returns-in-empty : goal.options_from-returns-in-empty
options_from-returns-in-empty t c =
    rw c.in-Some.is (none_left (options_seen c.in-Some.found) string_bytes c.args.words.now
    c.in-empty.len_below)
