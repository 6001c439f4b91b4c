use Rattle.std.proofs.Common.{◌<◌, ◌∙◌, rules, length}
use Rattle.class_table.proofs.ItemLaws.{value_added, value_repeated}
use Rattle.class_table.proofs.resolve.resolve_values.Goals as goal

pub loop-ident-preserved : goal.loop-ident-preserved
loop-ident-preserved c =
    let is = c.args.idents.now in
    let within : c.loop-ident.ident-index < length is = search rules in
    let name = c.in_ok-of.ensures.bytes ∙ c.as_bytes.ensures.bytes in
    let step = value_added is c.loop-ident.ident-index c.ident-item.result c.in_ok-of.field-0 c.loop-ident.values c.insert.new.self c.in_ok-insert.field-0 within c.ident-item.is name c.in_ok-insert.ensures.new c.if-not-branch.false c.in_ok-insert.ensures.values in
    record {
      values = step.values ∙ c.loop-ident.invariant.values;
      right = step.right ∙ c.loop-ident.invariant.right;
    }

pub returns-then-not-branch-clause-fault : goal.returns-then-not-branch-clause-fault
returns-then-not-branch-clause-fault c =
    let is = c.args.idents.now in
    let within : c.loop-ident.ident-index < length is = search rules in
    let name = c.in_ok-of.ensures.bytes ∙ c.as_bytes.ensures.bytes in
    value_repeated is c.loop-ident.ident-index c.ident-item.result c.in_ok-of.field-0 c.loop-ident.values _ c.in_ok-insert.field-0 within c.ident-item.is name c.in_ok-insert.ensures.new c.if-not-branch.true c.loop-ident.invariant.right
