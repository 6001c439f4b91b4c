use Rattle.std.proofs.Common.{List, All, sym, subst}
use Rattle.stated_cases.specs.declared.entries.Entry.{Entry}
use Rattle.stated_cases.specs.Tables.{IsEntry}
use Rattle.stated_cases.proofs.chains.push_next.Goals as goal

pub returns-in_ok-push_entry : goal.returns-in_ok-push_entry
returns-in_ok-push_entry c g entries chain =
    let there = subst (λ (z : List Entry). All (IsEntry g) z) (sym c.as_slice.ensures.value) chain in
    let f = rw c.in-Some-2.is at c.in_ok-f.ensures in
    c.in_ok-push_entry.ensures g (f g (c.in-Some.ensures g entries) there) chain
