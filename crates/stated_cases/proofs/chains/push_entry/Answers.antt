use Rattle.std.proofs.Common.{List, All, sym, subst}
use Rattle.std.proofs.lemmas.List.Elements.{All-push}
use Rattle.stated_cases.specs.declared.entries.Entry.{Entry}
use Rattle.stated_cases.specs.Tables.{IsEntry}
use Rattle.stated_cases.proofs.chains.push_entry.Goals as goal

pub returns : goal.returns
returns c g one all =
    subst (λ (z : List Entry). All (IsEntry g) z) (sym c.in_ok-push.ensures.items) (All-push (IsEntry g) c.args.chain.now.items c.args.f all one)
