use Rattle.std.proofs.Common.{rules, w64, sym, ◌∙◌}
use Rattle.std.proofs.lemmas.Int.{to_z-of_z}
use Rattle.stated_facts.proofs.ClaimLaws.{value_claimed}
use Rattle.stated_facts.proofs.claims.claim_value.Goals as goal

pub returns : goal.returns
returns c a is h = record {
  values = value_claimed a c.args.c.now.values.items c.push.new.self.items c.args.x _ c.in_ok-push.ensures.items (is ∙ sym (to_z-of_z w64 c.args.v (search rules))) h.values;
  others = h.others;
}
