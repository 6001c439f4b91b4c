use Rattle.std.proofs.Common.{◌≡◌, ◌-◌, ◌<◌, ◌∙◌, ap, arith, get_or, length, subst, sym}
use Rattle.signed_clause.specs.Clauses.{Literal, Literals}
use Rattle.running_clause.proofs.RunningLaws.{last_decides}
use Rattle.running_clause.proofs.running.RunningClause.covers.Goals as goal

pub returns-in-Some : goal.returns-in-Some
returns-in-Some c =
    let b = c.args.b.now in let l = c.in-Some.l.now in let same = c.literals.ensures.items in let item = c.in-Some.ensures.item in
    let some : 0 < length b = subst (λ (z : Literals). 0 < length z) same (let h = item.0 in grind arith) in
    let last : l ≡ get_or b (length b - 1) l = subst (λ (z : Literals). l ≡ get_or z (length z - 1) l) same item.1 in
    let sets = c.as_slice.result.now in
    let count : length sets ≡ length c.args.self.now = ap length (c.as_slice.ensures.value ∙ c.self.view_is) in (
      λ t. (let lt = last_decides (length sets) b l c.literals.ensures.form some last (grind arith) in rw (← count) lt),
      λ w. (let lt = subst (λ (m : Literal). m.0 < length c.args.self.now) (sym last) (w (length b - 1) l (omega arith)) in grind arith),
    )
