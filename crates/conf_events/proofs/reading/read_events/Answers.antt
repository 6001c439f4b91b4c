use Rattle.std.proofs.Common.{◌≡◌, ℕ, ◌+◌, List, [], ◌∷◌, ◌++◌, length, length-append, append_assoc, sym, ap, ◌∙◌, subst, arith}
use Rattle.std.specs.Prelude.{IsSome}
use Rattle.std.specs.List.{All}
use Rattle.std.proofs.lemmas.List.Elements.{All-push}
use Rattle.object_alloc.specs.Paths.{object_named}
use Rattle.conf_events.specs.declared.event.Event.{Event}
use Rattle.conf_events.specs.Texts.{ended, unended, bad_from, bad_line, events_of}
use Rattle.conf_events.proofs.reading.read_events.Goals as goal

pub returns-clause-named : goal.returns-clause-named
returns-clause-named c =
    subst (λ (es : List Event). All (λ (e : Event). IsSome (object_named c.args.objects.now e.path)) es) (sym c.of.ensures.items) c.loop-rest.invariant.named

-- the first line of what was left is the event that was added
pub loop-rest-preserved : goal.loop-rest-preserved
loop-rest-preserved c =
    let o = c.args.objects.now in
    let named : Event → Type 0 = λ x. IsSome (object_named o x.path) in
    let old = c.loop-rest.events.items in
    let e = c.in_ok-event.event in
    let rest = c.loop-rest.rest.now in
    let behind = c.in_ok-event.behind.now in
    let pushed = c.in_ok-push_event.ensures.events in
    let count : c.len.result ≡ length old = c.len.ensures ∙ c.loop-rest.events.ok.0 in
    let size : length c.push_event.new.events.items ≡ c.len.result + 1 = ap length pushed ∙ length-append old (e ∷ []) ∙ ap (λ (n : ℕ). n + 1) (sym count) in
    let left : bad_from o (c.len.result + 1) (ended [] rest) (unended [] rest) ≡ bad_line o c.args.bytes.now = ap (λ (n : ℕ). bad_from o (n + 1) (ended [] rest) (unended [] rest)) count ∙ c.loop-rest.invariant.good in
    record {
      good = ap (λ (n : ℕ). bad_from o (n + 1) (ended [] behind) (unended [] behind)) size ∙ sym c.in_ok-event.ensures.good ∙ left;
      events =
          ap (λ (es : List Event). es ++ events_of o behind) pushed
          ∙ append_assoc old (e ∷ []) (events_of o behind)
          ∙ ap (λ (es : List Event). old ++ es) (sym c.in_ok-event.ensures.event)
          ∙ c.loop-rest.invariant.events;
      few = omega (arith, size, c.in_ok-event.ensures.few);
      named = subst (λ (es : List Event). All named es) (sym pushed) (All-push named old e c.loop-rest.invariant.named c.in_ok-event.ensures.named);
    }
