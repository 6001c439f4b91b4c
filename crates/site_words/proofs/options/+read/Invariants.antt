use Rattle.std.proofs.Common.{length, ◌*◌, ◌+◌}
use Rattle.site_words.proofs.options.+read.Given as goal

abbrev pub decreases-options_from : goal.decreases-options_from
decreases-options_from l = 2 * length l.words.now

abbrev pub decreases-options_behind : goal.decreases-options_behind
decreases-options_behind l = 2 * length l.words.now

abbrev pub decreases-options_after : goal.decreases-options_after
decreases-options_after l = 2 * length l.words.now + 1
