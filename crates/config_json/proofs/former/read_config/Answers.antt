use Rattle.std.proofs.Common.{rules, ◌∙◌}
use Rattle.serde_json.specs.Errors.{IsMemory}
use Rattle.config_json.proofs.ValuesRead.{read_text, read_nothing, is_none}
use Rattle.config_json.proofs.former.read_config.Goals as goal

pub returns-in-Err-2-clause-refused : goal.returns-in-Err-2-clause-refused
returns-in-Err-2-clause-refused c =
    let other : IsMemory c.in-Err-2.field-0 → ⊥ = search rules in
    read_nothing c.args.bytes.now (c.in-Err-2.ensures.err other)

pub returns-then-not-is_object-clause-refused : goal.returns-then-not-is_object-clause-refused
returns-then-not-is_object-clause-refused c =
    record { json = _; read = read_text c.args.bytes.now c.in-Ok.ensures.ok.0 ∙ c.in-Ok.ensures.ok.1; other = is_none _ (search rules) }

pub returns-clause-value : goal.returns-clause-value
returns-clause-value c = read_text c.args.bytes.now c.in-Ok.ensures.ok.0 ∙ c.in-Ok.ensures.ok.1
