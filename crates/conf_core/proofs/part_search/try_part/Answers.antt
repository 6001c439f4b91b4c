use Rattle.std.proofs.Common.{◌≡◌, ◌∙◌, true, sym, ap, subst, map}
use Rattle.conf_core.proofs.Rounds.{part_narrow}
use Rattle.conf_limits.specs.Measures.{model_narrow}
use Rattle.conf_types.specs.Programs.{constraint_at}
use Rattle.conf_core.proofs.part_search.try_part.Goals as goal

pub closed_round-requires-clause-typed : goal.closed_round-requires-clause-typed
closed_round-requires-clause-typed g c =
    c.in_ok-model.ensures.typed c.args.with.objects.now c.requires.typed

pub closed_round-requires-clause-narrow : goal.closed_round-requires-clause-narrow
closed_round-requires-clause-narrow g c =
    let o = c.args.with.objects.now in
    let ks = c.args.with.model.now.constraints in
    let gs = c.args.with.model.now.goals in
    let part = c.args.part.items in
    let is = c.in_ok-model.ensures.constraints ∙ ap (map (constraint_at ks)) c.deref.ensures.value in
    subst (λ xs. model_narrow o xs c.in_ok-model.model.goals ≡ true) (sym is)
    (subst (λ ys. model_narrow o (map (constraint_at ks) part) ys ≡ true)
    (sym c.in_ok-model.ensures.goals) (part_narrow o ks gs part c.requires.narrow c.requires.part))
