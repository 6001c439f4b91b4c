use Rattle.std.proofs.Common.{List, ℕ, sym, subst}
use Rattle.packing_sums.specs.Packings.{MayHave}
use Rattle.goal_rows.proofs.PartLaws.{may_push, may_stay}
use Rattle.goal_rows.proofs.parts.push_among.Goals as goal

pub returns-in_ok-push : goal.returns-in_ok-push
returns-in_ok-push c = subst (λ (z : List (ℕ × ℕ)). MayHave c.args.out.now.items c.args.s z) (sym c.in_ok-push.ensures.items) (may_push c.args.out.now.items c.args.s)

pub returns-else-is_among : goal.returns-else-is_among
returns-else-is_among c = may_stay c.args.out.now.items c.args.s
