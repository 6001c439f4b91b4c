use Rattle.std.proofs.Common.{refl}
use Rattle.site_names.specs.Words.{word_of}
use Rattle.site_tables.specs.Grid.{name_of}
use Rattle.site_tables.specs.Views.{row_seen}
use Rattle.site_texts.specs.Pairs.{under}
use Rattle.site_texts.proofs.PairLaws.{next_pair}
use Rattle.site_answer.specs.Names.{worded_host}
use Rattle.site_answer.proofs.hosts.host_names.Goals as goal

pub loop-row-preserved : goal.loop-row-preserved
loop-row-preserved c = λ q.
    let r = row_seen c.row-item.result in
    next_pair row_seen worded_host q c.args.hosts.now c.loop-row.row-index c.row-item.result
    (word_of (name_of r)) (name_of r) (under q c.loop-row.names) (under q c.put_host.new.names) _
    c.loop-row-test.true c.row-item.is refl refl (c.in_ok-put_host.ensures q) (c.loop-row.invariant q)
