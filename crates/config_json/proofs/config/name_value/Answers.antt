use Rattle.std.proofs.Common.{rules, ◌<◌, ◌≤◌, ◌∙◌, ap, length}
use Rattle.serde_json.specs.Data.{string}
use Rattle.config_json.specs.Keys.{text_of, value_name}
use Rattle.config_json.proofs.TreeLaws.{name_read, name_none}
use Rattle.config_json.proofs.config.name_value.Goals as goal

pub returns-then-k-value_count : goal.returns-then-k-value_count
returns-then-k-value_count c =
    let t = c.table-table.result.now in
    let there : c.args.e < length t.enumerations =
    rw c.table-table.ensures.table c.requires.enumeration in
    let least : c.value_count.result ≤ c.args.k = search rules in
    let none =
    name_none t c.args.e c.args.k c.value_count.result there c.value_count.ensures.count least in
    record {
      value = c.in_ok-nothing.ensures.value
          ∙ ap (λ w. string (text_of w))
          (none ∙ ap (λ o. value_name o c.args.e c.args.k) c.table-table.ensures.table);
    }

pub returns : goal.returns
returns c =
    let t = c.table-table.result.now in
    let there : c.args.e < length t.enumerations =
    rw c.table-table.ensures.table c.requires.enumeration in
    let name =
    c.as_bytes.ensures.bytes
    ∙ name_read t c.args.e c.args.k c.value_name-name.result.now there
    c.value_name-name.ensures.name in
    record {
      value = c.in_ok-value.ensures.value
          ∙ ap (λ w. string (text_of w))
          (name ∙ ap (λ o. value_name o c.args.e c.args.k) c.table-table.ensures.table);
    }
