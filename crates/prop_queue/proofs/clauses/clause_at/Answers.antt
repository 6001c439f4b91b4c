use Rattle.std.proofs.Common.{sym, ap, ◌∙◌}
use Rattle.prop_queue.specs.Work.{literals_of}
use Rattle.prop_queue.proofs.ClauseLaws.{is_it, get_there, same_there}
use Rattle.prop_queue.proofs.clauses.clause_at.Goals as goal

pub unreachable-requires : goal.unreachable-requires
unreachable-requires c =
    let con = c.index-cons-n.result in
    let at = get_there c.args.cons.now c.args.n con c.requires.there c.index-cons-n.is in
    c.in_default.not-ClauseCon _ (is_it con (c.requires.clause con at))

pub returns : goal.returns
returns c con at =
    let same = same_there c.args.cons.now c.args.n c.index-cons-n.result con
    c.index-cons-n.is at in
    c.clause.ensures ∙ ap literals_of (sym c.in-ClauseCon.is ∙ same)
