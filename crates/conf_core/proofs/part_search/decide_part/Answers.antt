use Rattle.conf_core.proofs.Rounds.{grown_more}
use Rattle.conf_core.proofs.part_search.decide_part.Goals as goal

pub returns-in_err-again-clause-grown : goal.returns-in_err-again-clause-grown
returns-in_err-again-clause-grown g c =
    let with = c.args.with in
    grown_more with.objects.now with.model.now.constraints with.budget c.args.journal.now.rounds
    c.part_end.new.journal.rounds c.part_end-2.new.journal.rounds c.part_end.ensures.grown
    c.part_end-2.ensures.grown

pub returns-clause-grown : goal.returns-clause-grown
returns-clause-grown g c =
    let with = c.args.with in
    grown_more with.objects.now with.model.now.constraints with.budget c.args.journal.now.rounds
    c.part_end.new.journal.rounds c.part_end-2.new.journal.rounds c.part_end.ensures.grown
    c.part_end-2.ensures.grown
