use Rattle.std.proofs.Common.{◌≡◌, drop}
use Rattle.std.specs.List.{list_any}
use Rattle.class_table.specs.Same.{same_name}
use Rattle.conf_session.proofs.words.stands_among.Given as goal

abbrev pub invariant-loop-other : goal.invariant-loop-other
invariant-loop-other l = list_any (same_name l.word) (drop l.other-index l.failed) ≡ list_any (same_name l.word) l.failed
