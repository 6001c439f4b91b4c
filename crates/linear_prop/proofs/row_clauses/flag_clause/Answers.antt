use Rattle.linear_prop.specs.Rows.{terms_of}
use Rattle.linear_prop.proofs.KindLaws.{begun, flag_done}
use Rattle.linear_prop.proofs.row_clauses.flag_clause.Goals as goal

pub explain-requires-clause-so_far : goal.explain-requires-clause-so_far
explain-requires-clause-so_far c =
    begun (terms_of c.args.row.now) c.args.subject.domains.now c.args.subject.boxes.now c.args.row.now.bound.value c.args.cause.index c.args.cause.to.value c.args.cause.slack c.new-out.result.items c.requires.cause c.new-out.ensures.items

pub pruning-requires : goal.pruning-requires
pruning-requires c = record {
  reason =
      flag_done c.args.subject.con.now (terms_of c.args.row.now) c.args.subject.domains.now c.args.subject.boxes.now c.args.row.now.bound.value c.args.cause.index c.args.cause.to.value c.in_ok-_left._left c.args.flag c.args.v.value
      c.explain.new.out.items c.put_flag.new.out.items c.set_at.result.now c.requires.over c.in_ok-_left.ensures c.set_at.ensures c.in_ok-put_flag.ensures c.requires.flag c.requires.different c.requires.opposed c.requires.follows;
}
