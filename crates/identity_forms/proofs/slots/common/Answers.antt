use Rattle.identity_forms.proofs.slots.common.Goals as goal

pub returns-then-are_all : goal.returns-then-are_all
returns-then-are_all c = record { some = c.in_ok-first.ensures.item.3.0; all = c.are_all.ensures c.if-are_all.true }
