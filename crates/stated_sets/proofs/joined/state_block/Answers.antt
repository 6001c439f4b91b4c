use Rattle.std.proofs.Common.{[]}
use Rattle.form_build.proofs.Growth.{adds_nothing}
use Rattle.stated_sets.proofs.JoinedSets.{defines_stated}
use Rattle.stated_sets.proofs.joined.state_block.Goals as goal

pub returns : goal.returns
returns c =
    defines_stated c.args.maker.now c.state.new.m c.domains-2.result.now c.args.l.now c.in_ok-set.set c.literal.result c.requires c.in_ok-set.ensures.list c.domains-2.ensures.items c.literal.ensures.value c.in_ok-state.ensures.says

pub returns-then-l-domains : goal.returns-then-l-domains
returns-then-l-domains c = adds_nothing [] c.args.maker.now
