use Rattle.std.proofs.Common.{ℕ, List, All, sym, subst}
use Rattle.std.proofs.lemmas.List.Elements.{All-push}
use Rattle.stated_pairs.specs.Apart.{IsApart}
use Rattle.stated_pairs.proofs.reading.push_new.Goals as goal

pub returns : goal.returns
returns c g one all =
    subst (λ (z : List (ℕ × ℕ)). All (IsApart g) z) (sym c.in_ok-push.ensures.items) (All-push (IsApart g) c.args.out.now.items c.args.p all one)
