use Rattle.std.proofs.Common.{List, All, sym, subst}
use Rattle.stated_cases.specs.declared.entries.Entry.{Entry}
use Rattle.stated_cases.specs.Tables.{IsEntry}
use Rattle.stated_cases.proofs.tables.state_order.Goals as goal

pub state_steps-requires : goal.state_steps-requires
state_steps-requires c =
    let g = c.args.maker.now in
    subst (λ (z : List Entry). All (IsEntry g) z) (sym c.as_slice.ensures.value) (c.in_ok-chain.ensures g c.requires)
