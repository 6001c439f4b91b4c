use Rattle.std.proofs.Common.{ℤ, ℕ, arith, pos, ap, ◌∙◌}
use Rattle.linear_prop.specs.Rows.{turned}
use Rattle.linear_prop.proofs.RowTerms.{none_length, some_length, none_at, some_later}
use Rattle.linear_prop.proofs.row.Row.term.Goals as goal

pub returns-in-None-clause-term : goal.returns-in-None-clause-term
returns-in-None-clause-term c d =
    let e = none_length c.args.self.now c.in-None.is in let h = c.requires in
    c.turn.ensures.term ∙ ap (λ (t : ℤ × ℕ). turned c.args.self.now.turned t) c.listed.ensures ∙ none_at c.args.self.now c.args.i (pos 0, 0) d c.in-None.is (omega arith)

pub returns-else-i-eq0-clause-term : goal.returns-else-i-eq0-clause-term
returns-else-i-eq0-clause-term c d =
    let e = some_length c.args.self.now _ c.in-Some.is in let h = c.requires in let n = c.if-i-eq0.false in
    c.turn-else-i-eq0.ensures.term ∙ ap (λ (t : ℤ × ℕ). turned c.args.self.now.turned t) c.listed-else-i-eq0.ensures
    ∙ some_later c.args.self.now c.in-Some.t c.args.i (pos 0, 0) d c.in-Some.is (grind arith) (omega arith)

pub listed-requires : goal.listed-requires
listed-requires c = let e = none_length c.args.self.now c.in-None.is in let h = c.requires in omega arith

pub listed-requires-else-i-eq0 : goal.listed-requires-else-i-eq0
listed-requires-else-i-eq0 c =
    let e = some_length c.args.self.now c.in-Some.t c.in-Some.is in let h = c.requires in let n = c.if-i-eq0.false in grind arith
