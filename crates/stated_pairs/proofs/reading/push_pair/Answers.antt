use Rattle.std.proofs.Common.{ℕ, List, All, sym, subst}
use Rattle.std.proofs.lemmas.List.Elements.{All-push}
use Rattle.stated_pairs.specs.Apart.{IsApart}
use Rattle.stated_pairs.proofs.reading.push_pair.Goals as goal

pub returns-in_ok-push : goal.returns-in_ok-push
returns-in_ok-push c =
    subst (λ (z : List (ℕ × ℕ)). All (IsApart c.args.maker.now) z) (sym c.in_ok-push.ensures.items)
    (All-push (IsApart c.args.maker.now) c.args.pairs.now.items c.in-Some.p c.requires c.in-Some.ensures)
