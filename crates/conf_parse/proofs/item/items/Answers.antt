use Rattle.conf_syntax.specs.Standing.{ItemStands, item_size}
use Rattle.conf_parse.proofs.Items.{all_more, all_nest}
use Rattle.conf_parse.proofs.Standing.{row_goes_on}
use Rattle.conf_parse.proofs.item.items.Goals as goal

pub loop-rest-preserved : goal.loop-rest-preserved
loop-rest-preserved c = record {
  leads = all_more c.args.tokens.now c.loop-rest.rest.now c.in-Ok.found.1.now c.loop-rest.list.items c.push.new.self.items c.in-Ok.found.0 c.loop-rest.invariant.leads c.loop-rest.invariant.nested c.in-Ok.ensures.read c.in_ok-push.ensures.items;
  nested = all_nest c.loop-rest.list.items c.push.new.self.items c.in-Ok.found.0 c.loop-rest.invariant.nested c.in_ok-push.ensures.items c.in-Ok.ensures.nested;
  places = row_goes_on ItemStands item_size c.args.tokens.now c.loop-rest.list.items c.push.new.self.items c.in-Ok.found.0 c.loop-rest.rest.now c.in-Ok.found.1.now c.loop-rest.invariant.places c.in-Ok.ensures.places c.in_ok-push.ensures.items;
}
