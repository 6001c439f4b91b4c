use Rattle.std.proofs.Common.{sym, ◌∙◌}
use Rattle.learn_clauses.proofs.conflict.resolve_entry.Goals as goal

pub resolve-requires : goal.resolve-requires
resolve-requires c =
    c.requires.step c.in-Some.j c.in-Some.is (sym c.is_passed.ensures ∙ c.if-is_passed.false)
