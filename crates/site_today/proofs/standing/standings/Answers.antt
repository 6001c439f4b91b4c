use Rattle.site_tables.specs.Views.{row_seen}
use Rattle.site_texts.specs.Pairs.{under}
use Rattle.site_texts.proofs.PairLaws.{next_pair}
use Rattle.site_today.specs.Standing.{standing}
use Rattle.site_today.proofs.standing.standings.Goals as goal

pub loop-row-preserved : goal.loop-row-preserved
loop-row-preserved c = λ q.
    next_pair row_seen (standing c.args.columns) q c.args.rows.now c.loop-row.row-index
    c.row-item.result c.text_at.result.now c.text_at-in-loop-row.result.now
    (under q c.loop-row.texts) (under q c.put.new.self) _ c.loop-row-test.true c.row-item.is
    c.text_at.ensures c.text_at-in-loop-row.ensures (c.in_ok-put.ensures q) (c.loop-row.invariant q)
