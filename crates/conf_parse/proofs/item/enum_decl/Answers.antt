use Rattle.std.proofs.Common.{rules, arith, ◌≡◌, drop}
use Rattle.conf_parse.proofs.Items.{enum_first_miss, enum_miss, value_missed, value_next, values_other, push_some}
use Rattle.conf_parse.proofs.StandingItems.{next_value, enum_stands}
use Rattle.conf_parse.proofs.item.enum_decl.Goals as goal

pub values-preserved : goal.values-preserved
values-preserved c =
    let e : c.in_ok-of-3.field-0 ≡ c.in-Ok-named-2.found.0.now = search rules in
    record {
      some = push_some c.values.values.items c.push-in-Some.new.self.items (record { name = c.in_ok-of-3.field-0; at = c.in-Ok-named-2.found.1 }) c.in_ok-push-2.ensures.items;
      leads = value_next c.in_ok-of.field-0 c.values.values.items c.push-in-Some.new.self.items (record { name = c.in_ok-of-3.field-0; at = c.in-Ok-named-2.found.1 }) c.in-Ok-named-2.found.0.now c.in-Ok-named-2.found.1 c.args.tokens.now c.values.rest.now c.in-Some.further.now c.in-Ok-named-2.found.2.now c.values.invariant.some c.values.invariant.leads c.in-Some.ensures c.in-Ok-named-2.ensures e c.in_ok-push-2.ensures.items;
      places = next_value c.in-Ok-named-2.found.0.now c.in_ok-of-3.field-0 c.in-Ok-named-2.found.1 c.values.values.items c.push-in-Some.new.self.items (drop 3 c.args.tokens.now) c.values.rest.now c.in-Some.further.now c.in-Ok-named-2.found.2.now c.values.invariant.places c.in-Some.ensures c.in-Ok-named-2.ensures c.in_ok-push-2.ensures.items;
      shorter = search (rules, arith);
    }

pub returns-in_default-after_mark-clause-read : goal.returns-in_default-after_mark-clause-read
returns-in_default-after_mark-clause-read c = values_other c.in_ok-of.field-0 c.values.values.items c.args.tokens.now c.values.rest.now c.values.invariant.some c.values.invariant.leads c.in_default.ensures c.in_default-after_mark.ensures

pub returns-in_default-clause-places : goal.returns-in_default-clause-places
returns-in_default-clause-places c = enum_stands c.in-Ok.found.0.now c.in_ok-of.field-0 c.in-Ok.found.1 c.values.values.items c.of-values.result c.args.tokens.now c.args.after.now c.in-Ok.found.2.now c.values.rest.now c.in-Some-after_mark.behind.now c.requires c.in-Ok.ensures c.values.invariant.places c.values.invariant.some c.in-Some-after_mark.ensures c.of-values.ensures.items

pub returns-in-Err-clause-read : goal.returns-in-Err-clause-read
returns-in-Err-clause-read c = enum_miss c.in-Err.left c.args.tokens.now c.args.after.now c.requires c.in-Err.ensures

pub returns-in-Err-named-clause-read : goal.returns-in-Err-named-clause-read
returns-in-Err-named-clause-read c = enum_first_miss c.in-Ok.found.0.now c.in-Ok.found.1 c.in-Err-named.left c.args.tokens.now c.args.after.now c.in-Ok.found.2.now c.requires c.in-Ok.ensures c.in-Err-named.ensures

pub returns-in-Err-named-2-clause-read : goal.returns-in-Err-named-2-clause-read
returns-in-Err-named-2-clause-read c = value_missed c.in_ok-of.field-0 c.values.values.items c.in-Err-named-2.left c.args.tokens.now c.values.rest.now c.in-Some.further.now c.values.invariant.some c.values.invariant.leads c.in-Some.ensures c.in-Err-named-2.ensures
