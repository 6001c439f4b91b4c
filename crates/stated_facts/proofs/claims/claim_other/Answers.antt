use Rattle.stated_facts.proofs.ClaimLaws.{other_claimed}
use Rattle.stated_facts.proofs.claims.claim_other.Goals as goal

pub returns : goal.returns
returns c a is h = record {
  values = h.values;
  others = other_claimed a c.args.c.now.others.items c.push.new.self.items c.args.x c.args.v c.in_ok-push.ensures.items is h.others;
}
