use Rattle.std.proofs.Common.{◌∙◌, ap, length}
use Rattle.std.specs.List.{range_with_len}
use Rattle.conf_core.proofs.Narrowings.{tried_all}
use Rattle.conf_core.proofs.Rounds.{tried_begins, tried_parts}
use Rattle.proof_log.specs.Rounds.{Journal}
use Rattle.conf_core.proofs.core_search.first_search.Goals as goal

pub returns-clause-begins : goal.returns-clause-begins
returns-clause-begins g c =
    let with = c.args.with in
    tried_begins with.objects.now with.model.now.constraints with.budget c.in_ok-all.all.items
    c.args.journal.now.rounds c.try_part.new.journal.rounds c.in_ok-tried.tried.end
    c.in_ok-tried.ensures.tried (ap (λ (j : Journal). j.rounds) c.requires.empty)
    (c.in_ok-all.ensures.all
    ∙ ap (λ xs. range_with_len 0 (length xs)) c.constraints.ensures.constraints)

pub returns-clause-parts : goal.returns-clause-parts
returns-clause-parts g c =
    let with = c.args.with in
    tried_parts with.objects.now with.model.now.constraints with.budget c.in_ok-all.all.items
    c.args.journal.now.rounds c.try_part.new.journal.rounds c.in_ok-tried.tried.end
    c.in_ok-tried.ensures.tried (ap (λ (j : Journal). j.rounds) c.requires.empty)

pub returns-clause-all : goal.returns-clause-all
returns-clause-all g c =
    let with = c.args.with in
    tried_all with.objects.now with.model.now.constraints with.budget c.in_ok-all.all.items
    c.args.journal.now.rounds c.try_part.new.journal.rounds c.in_ok-tried.tried.end
    c.in_ok-tried.ensures.tried (c.in_ok-all.ensures.all
    ∙ ap (λ xs. range_with_len 0 (length xs)) c.constraints.ensures.constraints)
