use Rattle.std.proofs.Common.{◌≡◌, ◌<◌, ◌+◌, ◌∷◌, drop, [], map, subst, sym, ◌∙◌, ap, rules, length}
use Rattle.std.specs.Prelude.{Contains}
use Rattle.std.specs.Map.{keys_of}
use Rattle.class_table.specs.declared.fault.TableFault.TheVariants.{Duplicate}
use Rattle.class_table.specs.Names.{declared}
use Rattle.class_table.specs.Faults.{repeated}
use Rattle.class_table.proofs.FaultLaws.{on_fault}
use Rattle.class_table.proofs.ListLaws.{drop_next}
use Rattle.class_table.proofs.names.names_of.Goals as goal

pub returns-in-Err-clause-fault : goal.returns-in-Err-clause-fault
returns-in-Err-clause-fault c =
    let items = c.args.items.now in
    let keys = keys_of c.loop-item.names.entries in
    let i = c.loop-item.item-index in
    let within : i < length items = search rules in
    let rest = drop_next items i c.item-item.result within c.item-item.is in
    let all : repeated (declared (c.item-item.result ∷ drop (i + 1) items)) keys ≡ repeated (declared items) [] = ap (λ xs. repeated (declared xs) keys) (sym rest) ∙ c.loop-item.invariant.new in
    on_fault c.in-Err.fault _ _ (λ f h. subst (λ places. Contains (map (λ at. Duplicate at) places) f) all (h (drop (i + 1) items))) c.in-Err.ensures.fault
