use Rattle.std.proofs.Common.{below_more}
use Rattle.conf_syntax.specs.declared.token.Key.TheVariants.{Enum}
use Rattle.conf_parse.proofs.Keywords.{keys, not_this, no_keyword}
use Rattle.conf_parse.proofs.keyword.keyword.Goals as goal

pub loop-key-preserved : goal.loop-key-preserved
loop-key-preserved c =
    below_more _ _ c.loop-key.invariant (λ other spelled. not_this keys c.args.word.now c.loop-key.key-index Enum other c.loop-key-test.true _ c.if-spells.false c.spells.ensures spelled)

pub returns : goal.returns
returns c = no_keyword c.args.word.now c.loop-key.key-index c.loop-key-test.false c.loop-key.invariant
