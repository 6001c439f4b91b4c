use Rattle.std.proofs.Common.{◌≡◌, ◌∙◌, ◌<◌, sym, ap, subst, length, take}
use Rattle.conf_core.proofs.Narrowings.{cleared_part, narrowed_grown}
use Rattle.conf_core.proofs.SuspectLaws.{cleared_length}
use Rattle.conf_core.specs.Cores.{HasRound}
use Rattle.conf_core.specs.Parts.{IsPart}
use Rattle.conf_core.specs.Suspects.{cleared, is_kept, marked}
use Rattle.conf_core.proofs.narrowing.step.Goals as goal

pub kept_indexes-requires : goal.kept_indexes-requires
kept_indexes-requires g c =
    let front = take c.min-size.result c.deref-2.result.now in
    let same = ap length c.deref-4.ensures.value ∙ ap length c.in_ok-fewer.ensures
    ∙ cleared_length c.deref.result.now front ∙ ap length c.deref.ensures.value
    ∙ c.requires.narrowed.count in
    subst (λ n. n < 4294967296) (sym same) c.requires.few

pub decide_part-requires-clause-part : goal.decide_part-requires-clause-part
decide_part-requires-clause-part g c =
    let ks = c.args.with.model.now.constraints in
    let ss = c.args.n.suspects.items in
    let size = c.min-size.result in
    let front = take size c.args.n.rest.items in
    let fewer = c.in_ok-fewer.ensures
    ∙ ap (λ xs. cleared xs (take size c.deref-2.result.now)) c.deref.ensures.value
    ∙ ap (λ ys. cleared ss (take size ys)) c.deref-2.ensures.value in
    let is = c.deref-5.ensures.value ∙ c.in_ok-part.ensures
    ∙ ap (λ xs. marked is_kept 0 xs) (c.deref-4.ensures.value ∙ fewer) in
    subst (λ p. IsPart ks p) (sym is)
    (cleared_part ks c.args.journal.now.rounds ss front c.requires.narrowed)

pub returns-clause-narrowed : goal.returns-clause-narrowed
returns-clause-narrowed g c =
    let with = c.args.with in
    let ks = with.model.now.constraints in
    let ss = c.args.n.suspects.items in
    let now = c.decide_part.new.journal.rounds in
    let size = c.min-size.result in
    let fewer = c.in_ok-fewer.ensures
    ∙ ap (λ xs. cleared xs (take size c.deref-2.result.now)) c.deref.ensures.value
    ∙ ap (λ ys. cleared ss (take size ys)) c.deref-2.ensures.value in
    let is = c.deref-5.ensures.value ∙ c.in_ok-part.ensures
    ∙ ap (λ xs. marked is_kept 0 xs) (c.deref-4.ensures.value ∙ fewer) in
    c.behind.ensures.narrowed ks now
    (narrowed_grown with.objects.now ks with.budget c.args.journal.now.rounds now ss
    c.decide_part.ensures.grown c.requires.narrowed)
    (subst (λ p. HasRound now (λ part. part ≡ p) c.in_ok-end.end) is c.in_ok-end.ensures.tried)
