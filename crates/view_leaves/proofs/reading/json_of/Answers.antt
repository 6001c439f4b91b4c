use Rattle.std.proofs.Common.{rules, sym, ◌∙◌}
use Rattle.serde_json.specs.Errors.{IsMemory}
use Rattle.view_leaves.proofs.ValuesRead.{reads_utf8, reads_nothing}
use Rattle.view_leaves.proofs.reading.json_of.Goals as goal

pub returns-in-Ok : goal.returns-in-Ok
returns-in-Ok c = sym (reads_utf8 c.args.bytes.now c.in-Ok.ensures.ok.0 ∙ c.in-Ok.ensures.ok.1)

pub returns-in-Err-2 : goal.returns-in-Err-2
returns-in-Err-2 c =
    let other : IsMemory c.in-Err-2.field-0 → ⊥ = search rules in
    sym (reads_nothing c.args.bytes.now (c.in-Err-2.ensures.err other))
