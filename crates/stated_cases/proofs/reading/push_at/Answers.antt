use Rattle.std.proofs.Common.{List, All, sym, subst}
use Rattle.std.proofs.lemmas.List.Elements.{All-push}
use Rattle.stated_cases.specs.declared.entries.Entry.{Entry}
use Rattle.stated_cases.specs.Tables.{IsEntry}
use Rattle.stated_cases.proofs.reading.push_at.Goals as goal

pub returns-in_ok-push : goal.returns-in_ok-push
returns-in_ok-push c =
    let one = rw c.in-Some.is at c.in_ok-e.ensures in
    subst (λ (z : List Entry). All (IsEntry c.args.maker.now) z) (sym c.in_ok-push.ensures.items) (All-push (IsEntry c.args.maker.now) c.args.out.now.items c.in-Some.e c.requires one)
