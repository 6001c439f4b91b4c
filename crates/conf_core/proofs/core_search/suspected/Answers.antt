use Rattle.std.proofs.Common.{◌≡◌, ◌∙◌, ap, subst, length, replicate}
use Rattle.conf_core.proofs.Narrowings.{all_narrowed, fresh_narrowed, shown_grown}
use Rattle.conf_core.specs.Cores.{HasRound}
use Rattle.conf_core.specs.Suspects.{is_kept, marked}
use Rattle.conf_core.specs.declared.suspects.Suspect.TheVariants.{Open}
use Rattle.log_check.specs.declared.verdict.VerdictKind.TheVariants as kinds
use Rattle.conf_core.proofs.core_search.suspected.Goals as goal

pub returns-then-branch-clause-narrowed : goal.returns-then-branch-clause-narrowed
returns-then-branch-clause-narrowed g c =
    let ks = c.args.with.model.now.constraints in
    let ss = c.in_ok-blamed.blamed.suspects.items in
    let now = c.are_impossible.new.journal.rounds in
    let kept = c.deref-2.ensures.value ∙ c.in_ok-list.ensures
    ∙ ap (λ xs. marked is_kept 0 xs) c.deref.ensures.value in
    fresh_narrowed ks now ss
    (c.in_ok-blamed.ensures.count ∙ ap length c.constraints.ensures.constraints)
    c.in_ok-blamed.ensures.fresh
    (subst (λ p. HasRound now (λ part. part ≡ p) kinds.NoSolution) kept
    (c.in_ok-are_impossible.ensures.shown c.if-branch.true))

pub returns-clause-narrowed : goal.returns-clause-narrowed
returns-clause-narrowed g c =
    let o = c.args.with.objects.now in
    let ks = c.args.with.model.now.constraints in
    let now = c.are_impossible.new.journal.rounds in
    all_narrowed ks now c.in_ok-suspects.suspects.items
    (c.in_ok-suspects.ensures
    ∙ ap (λ xs. replicate (length xs) Open) c.constraints-2.ensures.constraints)
    (shown_grown o ks c.args.with.budget c.args.journal.now.rounds now
    c.are_impossible.ensures.grown c.requires.all)
