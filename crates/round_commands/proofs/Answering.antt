-- Answers to events, one after the other.
use Rattle.std.proofs.Common.{◌≡◌, inl, inr, ℕ, ◌+◌, ◌<◌, Bool, false, ◌||◌, List, [], ◌∷◌, ◌++◌, Option, None, Some, take, drop, length, get_or, refl, sym, ap, ◌∙◌, subst, arith}
use Rattle.std.specs.List.{list_any}
use Rattle.std.proofs.lemmas.List.{append-nil, append_assoc, drop_more, take_more, take-append-drop}
use Rattle.std.proofs.Math.Bool.{or-false}
use Rattle.std.proofs.lemmas.List.Folds.{list_any-append}
use Rattle.conf_events.specs.declared.event.Event.{Event}
use Rattle.conf_session.specs.Standing.{Standing}
use Rattle.desk_io.specs.Desk.{with_printed}
use Rattle.desk_io.specs.Whole.{PrintsFront}
use Rattle.model_search.specs.Runs.{is_open}
use Rattle.model_search.specs.declared.finding.Finding.{Finding}
use Rattle.proof_log.specs.declared.journal.Round.{Round}
use Rattle.round_commands.proofs.Stepping.{situation_is, nothing_printed}
use Rattle.round_commands.specs.Events.{StandsAt, situation_of, IsTold, IsCut, IsUpTo}
use Rattle.run_promise.specs.Sessions.{Subject, Situation, situation_behind, situation_after, is_none_told, IsAnswered, AreAnswered, AreBegun}

-- ---- an event more

are_more : (s : Subject) (p : Situation) (es : List Event) (ts : List Finding) (rounds : List Round)
    (text : List ℕ) (e : Event) (round : Round) (told : Finding) (piece : List ℕ) →
    AreAnswered s p es ts rounds text → IsAnswered s (situation_after p es ts) e round told piece →
    AreAnswered s p (es ++ e ∷ []) (ts ++ told ∷ []) (rounds ++ round ∷ []) (text ++ piece)
are_more s p [] [] [] text e round told piece h a =
    (piece, [], ap (λ t. t ++ piece) h ∙ sym (append-nil piece), a, refl)
are_more s p [] [] (r ∷ rs) text e round told piece h a = absurd h
are_more s p [] (t ∷ ts) rs text e round told piece h a = absurd h
are_more s p (k ∷ es) [] rs text e round told piece h a = absurd h
are_more s p (k ∷ es) (t ∷ ts) [] text e round told piece h a = absurd h
are_more s p (k ∷ es) (t ∷ ts) (r ∷ rs) text e round told piece (first, rest, is, one, more) a = (
  first,
  rest ++ piece,
  ap (λ t. t ++ piece) is ∙ append_assoc first rest piece,
  one,
  are_more s (situation_behind p k t) es ts rs rest e round told piece more a,
)

place_more : (s : Subject) (p : Situation) (es : List Event) (ts : List Finding)
    (rounds : List Round) (text : List ℕ) (e : Event) (told : Finding) →
    AreAnswered s p es ts rounds text →
    situation_after p (es ++ e ∷ []) (ts ++ told ∷ []) ≡ situation_behind (situation_after p es ts) e told
place_more s p [] [] [] text e told h = refl
place_more s p [] [] (r ∷ rs) text e told h = absurd h
place_more s p [] (t ∷ ts) rs text e told h = absurd h
place_more s p (k ∷ es) [] rs text e told h = absurd h
place_more s p (k ∷ es) (t ∷ ts) [] text e told h = absurd h
place_more s p (k ∷ es) (t ∷ ts) (r ∷ rs) text e told (first, rest, is, one, more) =
    place_more s (situation_behind p k t) es ts rs rest e told more

-- ---- what was printed

printed_more : (text piece : List ℕ) (printed : Option (List ℕ)) →
    with_printed piece (with_printed text printed) ≡ with_printed (text ++ piece) printed
printed_more text piece None = refl
printed_more text piece (Some before) = ap (λ t. Some t) (append_assoc before text piece)

-- ---- along the loop

pub up_to_none : (s : Subject) (p : Situation) (events : List Event) (rounds : List Round)
    (printed : Option (List ℕ)) (st : Option Standing) → rounds ≡ [] → StandsAt s p st →
    IsUpTo s p events 0 rounds printed printed st false false
up_to_none s p events rounds printed st none at =
    record {
      told = [];
      text = [];
      answered = subst (λ rs. AreAnswered s p [] [] rs []) (sym none) refl;
      printed_is = sym (nothing_printed printed);
      at = at;
      open_is = refl;
      none_is = refl;
    }

any_more : (test : Finding → Bool) (ts : List Finding) (t : Finding) (before now : Bool) →
    before ≡ list_any test ts → now ≡ (before || test t) → now ≡ list_any test (ts ++ t ∷ [])
any_more test ts t before now h e =
    e ∙ ap (λ b. b || test t) h ∙ ap (λ b. list_any test ts || b) (sym (or-false (test t)))
    ∙ sym (list_any-append test ts (t ∷ []))

-- these events are answered
record AreUp (s : Subject) (p : Situation) (done : List Event) (told : List Finding)
    (rounds : List Round) (printed now : Option (List ℕ)) (st : Option Standing) : Type 0 where
  pub text : List ℕ
  pub answered : AreAnswered s p done told rounds text
  pub printed_is : now ≡ with_printed text printed
  pub at : StandsAt s (situation_after p done told) st

one_more : (s : Subject) (p : Situation) (done : List Event) (ts : List Finding)
    (rounds now : List Round) (printed printed_now printed_next : Option (List ℕ))
    (st next : Option Standing) (e : Event) (told : Finding) →
    AreUp s p done ts rounds printed printed_now st →
    IsTold s (situation_of st) e rounds now told printed_now printed_next →
    StandsAt s (situation_behind (situation_of st) e told) next →
    AreUp s p (done ++ e ∷ []) (ts ++ told ∷ []) now printed printed_next next
one_more s p done ts rounds now printed printed_now printed_next st next e told up one at =
    let here = situation_is s (situation_after p done ts) st up.at in
    let answered = subst (λ q. IsAnswered s q e one.more.round told one.text) here
    one.more.answered in
    record {
      text = up.text ++ one.text;
      answered = subst
          (λ rs. AreAnswered s p (done ++ e ∷ []) (ts ++ told ∷ []) rs (up.text ++ one.text))
          (sym one.more.more)
          (are_more s p done ts rounds up.text e one.more.round told one.text up.answered answered);
      printed_is = one.printed_is ∙ ap (λ t. with_printed one.text t) up.printed_is
          ∙ printed_more up.text one.text printed;
      at = subst (λ q. StandsAt s q next)
          (ap (λ q. situation_behind q e told) here
          ∙ sym (place_more s p done ts rounds up.text e told up.answered)) at;
    }

front_next : (events : List Event) (k : ℕ) (e : Event) → k < length events →
    e ≡ get_or events k e → take (k + 1) events ≡ take k events ++ e ∷ []
front_next events k e lt is =
    take_more events k e lt ∙ ap (λ x. take k events ++ x ∷ []) (sym is)

-- the next event was answered too
pub up_to_more : (s : Subject) (p : Situation) (events : List Event) (k : ℕ)
    (rounds now : List Round) (printed printed_now printed_next : Option (List ℕ))
    (st next : Option Standing) (undecided lacking undecided_now lacking_now : Bool) (e : Event)
    (told : Finding) → k < length events → e ≡ get_or events k e →
    IsUpTo s p events k rounds printed printed_now st undecided lacking →
    IsTold s (situation_of st) e rounds now told printed_now printed_next →
    StandsAt s (situation_behind (situation_of st) e told) next →
    undecided_now ≡ (undecided || is_open told) → lacking_now ≡ (lacking || is_none_told told) →
    IsUpTo s p events (k + 1) now printed printed_next next undecided_now lacking_now
up_to_more s p events k rounds now printed printed_now printed_next st next undecided lacking undecided_now lacking_now e told lt is up one at open_now none_now =
    let done = take k events in
    let ts = up.told in
    let more = one_more s p done ts rounds now printed printed_now printed_next st next e told
    (record { text = up.text; answered = up.answered; printed_is = up.printed_is; at = up.at })
    one at in
    let front = sym (front_next events k e lt is) in
    record {
      told = ts ++ told ∷ [];
      text = more.text;
      answered = subst (λ es. AreAnswered s p es (ts ++ told ∷ []) now more.text) front
          more.answered;
      printed_is = more.printed_is;
      at = subst (λ es. StandsAt s (situation_after p es (ts ++ told ∷ [])) next) front more.at;
      open_is = any_more is_open ts told undecided undecided_now up.open_is open_now;
      none_is = any_more is_none_told ts told lacking lacking_now up.none_is none_now;
    }

-- ---- ends

-- the first events were answered, and all but the last of their texts printed, and a front of that
-- one
abbrev pub HasBegun : Subject → Situation → List Event → List Round → Option (List ℕ)
    → Option (List ℕ) → Type 0
HasBegun s p events rounds printed now =
    (whole : List ℕ) × (text : List ℕ) × AreBegun s p events rounds whole text
    × PrintsFront text (with_printed whole printed) now

event_next : (events : List Event) (k : ℕ) (e : Event) → k < length events →
    e ≡ get_or events k e → drop k events ≡ e ∷ drop (k + 1) events
event_next events k e lt is =
    drop_more events k e lt ∙ ap (λ x. x ∷ drop (k + 1) events) (sym is)

pub begun_cut : (s : Subject) (p : Situation) (events : List Event) (k : ℕ)
    (rounds now : List Round) (printed printed_now printed_next : Option (List ℕ))
    (st : Option Standing) (undecided lacking : Bool) (e : Event) → k < length events →
    e ≡ get_or events k e →
    IsUpTo s p events k rounds printed printed_now st undecided lacking →
    IsCut s (situation_of st) e rounds now printed_now printed_next →
    HasBegun s p events now printed printed_next
begun_cut s p events k rounds now printed printed_now printed_next st undecided lacking e lt is up (inl none) = (
  up.text,
  [],
  record {
    done = take k events;
    left = drop k events;
    events_are = sym (take-append-drop k events);
    told = up.told;
    before = rounds;
    answered = up.answered;
    next = inl (none.0, refl);
  },
  (0, omega arith, none.1 ∙ up.printed_is ∙ sym (nothing_printed (with_printed up.text printed))),
)
begun_cut s p events k rounds now printed printed_now printed_next st undecided lacking e lt is up (inr (told, text, one, front)) =
    let done = take k events in
    let here = situation_is s (situation_after p done up.told) st up.at in
    let answered = subst (λ q. IsAnswered s q e one.round told text) here one.answered in (
      up.text,
      text,
      record {
        done = done;
        left = drop k events;
        events_are = sym (take-append-drop k events);
        told = up.told;
        before = rounds;
        answered = up.answered;
        next = inr (e, drop (k + 1) events, one.round, told, event_next events k e lt is, one.more, answered);
      },
      subst (λ q. PrintsFront text q printed_next) up.printed_is front,
    )
