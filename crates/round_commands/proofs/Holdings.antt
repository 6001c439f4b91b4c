-- A session that was held, as a run over a model ends.
use Rattle.std.proofs.Common.{◌≡◌, ◌≤◌, ◌⊎◌, false, cond, inl, inr, ◌∙◌, ℕ, true, List, [], ◌∷◌, ◌++◌, ℤ, Option, None, Some, All, IfSome, IsSome, IsSomeAnd, suc, length, map, refl, sym, subst, ap, append-nil}
use Rattle.std.proofs.lemmas.List.{map-append}
use Rattle.std.proofs.lemmas.List.Elements.{All-nil, All-cons, All-append}
use Rattle.std.specs.List.{list_any}
use Rattle.branch_choice.specs.declared.split.Order.{Order}
use Rattle.class_table.specs.Outline.{Outline}
use Rattle.command_limits.specs.Limits.{events_bytes}
use Rattle.conf_events.specs.declared.event.Event.{Event}
use Rattle.conf_request.specs.declared.options.OrderName.{OrderName}
use Rattle.conf_request.specs.declared.request.Request.{Request}
use Rattle.conf_request.specs.declared.request.Request.TheVariants.{Solve, Reconfigure, Check, Verify, Gen, Session, Core}
use Rattle.conf_syntax.specs.declared.tree.Program.{Program}
use Rattle.conf_types.specs.Programs.{ResolvedConstraint, ResolvedGoal}
use Rattle.conf_session.specs.Standing.{Standing}
use Rattle.desk_io.specs.Desk.{Files, OfFile}
use Rattle.model_search.specs.Objectives.{functions}
use Rattle.ground_form.specs.declared.ground.Ground.{Ground}
use Rattle.model_reader.proofs.ModelParts.{at_model}
use Rattle.model_reader.specs.Building.{IsResolved}
use Rattle.model_reader.specs.Models.{IsWithin}
use Rattle.model_search.specs.Rounds.{told_by}
use Rattle.model_search.specs.Problems.{IsProblemOf}
use Rattle.model_search.specs.Runs.{is_open}
use Rattle.model_search.specs.declared.finding.Finding.{Finding}
use Rattle.object_alloc.specs.Hints.{AreHints}
use Rattle.proof_log.specs.Rounds.{Journal}
use Rattle.proof_log.specs.declared.journal.Round.{Round}
use Rattle.reconfigure.specs.Failing.{unknown_word}
use Rattle.reconfigure.specs.declared.repair.Repair.{Repair}
use Rattle.run_status.specs.declared.status.FormerKind.TheVariants as former
use Rattle.run_status.specs.declared.status.Status.TheVariants as status
use Rattle.run_status.specs.Stages.{Answered, Denied, stage_of}
use Rattle.run_status.specs.declared.status.Status.{Status}
use Rattle.round_commands.specs.Events.{StandsAt, situation_of}
use Rattle.run_promise.specs.Sessions.{Situation, Subject, situation, situation_after, situation_behind, subject, session_status, is_none_told, IsAnswered, AreAnswered, AreHeld, AreBegun}
use Rattle.run_promise.specs.Answer.{IsModelAnswer, IsModelBegun, IsDay, IsRepairOf}
use Rattle.run_promise.specs.Asking.{Asked, Best, Generated, Checked, Satisfied, Held, Blamed, FormerText, IsShort, OfAsked, former_text}
use Rattle.desk_io.specs.Fault.{HasRisen}
use Rattle.run_promise.specs.Delivery.{IsLogged, IsLogFront}
use Rattle.round_commands.specs.Ending.{Trace, Prints, Breaks, IsBegun, IsHeldWhole, EndsModel, EndsModelAt}
use Rattle.round_commands.proofs.Ends.{model_denied}
use Rattle.round_commands.proofs.Asking.{asked_map, file_map}
use Rattle.round_commands.specs.Holding.{AreTextsRefused, ForModel, IsDayOf, IsDayRefused, IsOpenedBy, IsOpenedFor, HasBudget, HasWhole, HasPart}
use Rattle.run_promise.specs.Refusal.{AreEventsLong, IsDenied, IsEventRefused, IsFormerRefused, IsHeldRefused, IsUnread}
use Rattle.round_commands.specs.Unreadable.{Unreadable}
use Rattle.round_commands.proofs.Reading.{unread_map, unread_earlier}
use Rattle.round_commands.proofs.Rounds.{round_of}
use Rattle.run_promise.specs.Recorded.{HasHeld, IsRecorded, IsRoundOf}
use Rattle.round_commands.specs.declared.session.Day.{Day}
use Rattle.round_commands.specs.declared.session.Opened.{Opened}

-- ---- a session that is opened

pub opened_situation : (state : Option Standing) (former : List (Option ℤ)) → IsSome state → IfSome state (λ s. s.former ≡ former) → IfSome state (λ s. s.failed ≡ []) → situation_of state ≡ situation former []
opened_situation None former some f w = absurd cc
opened_situation (Some st) former some f w = ap (λ (x : List (Option ℤ)). situation x st.failed) f ∙ ap (λ (x : List (List ℕ)). situation former x) w

pub opened_at : (o : Outline) (ks : List ResolvedConstraint) (gs : List ResolvedGoal) (budget : ℕ) (g : Ground) (former : List (Option ℤ)) (state : Option Standing) → IsProblemOf o ks gs None g → AreHints o former → IsSomeAnd state (λ s. s.ground ≡ g) → IfSome state (λ s. s.former ≡ former) → IfSome state (λ s. s.failed ≡ []) →
    StandsAt (subject o ks gs budget) (situation_of state) state
opened_at o ks gs budget g former None p h is f w = is
opened_at o ks gs budget g former (Some st) p h is f w =
    let problem : IsProblemOf o ks gs None st.ground = subst (λ (x : Ground). IsProblemOf o ks gs None x) (sym is) p in
    record {
      over = record {
        test = problem.test;
        functions = functions o gs;
        stands = problem.stands;
        failed = subst (λ (ws : List (List ℕ)). unknown_word o ws ≡ None) (sym w) refl;
      };
      problem = problem;
      hints = subst (λ (hs : List (Option ℤ)). AreHints o hs) (sym f) h;
      former = refl;
      failed = refl;
    }

some_and : (state : Option Standing) (P : Standing → Type 0) → IsSomeAnd state P → IsSome state
some_and None P h = absurd h
some_and (Some st) P h = refl

pub opened_situation_and : (state : Option Standing) (g : Ground) (former : List (Option ℤ)) → IsSomeAnd state (λ s. s.ground ≡ g) → IfSome state (λ s. s.former ≡ former) → IfSome state (λ s. s.failed ≡ []) → situation_of state ≡ situation former []
opened_situation_and state g former is f w = opened_situation state former (some_and state (λ s. s.ground ≡ g) is) f w

-- ---- what a request asks for

opened_by : (o : Outline) (before bytes : List ℕ) (budget : ℕ) (x : Opened) (d : Day) → IsDayOf o before bytes d → situation_of x.session.state ≡ situation d.former [] → x.events ≡ d.events → x.budget ≡ budget → IsOpenedBy o before bytes budget x
opened_by o before bytes budget x d h at events within = record {
  repair = h.repair;
  former = h.former;
  short = h.short;
  good = h.good;
  situation_is = at ∙ ap (λ (hs : List (Option ℤ)). situation hs []) h.values;
  events = events ∙ h.events;
  budget_is = within;
}

pub opened_for : (told : Option Files) (q : Request) (o : Outline) (x : Opened) (model former events before bytes : List ℕ) (budget : ℕ) (order : OrderName) (d : Day) → q ≡ Session model former events budget order → OfFile told former (λ r. r ≡ before) → OfFile told events (λ r. r ≡ bytes) → IsDayOf o before bytes d →
    situation_of x.session.state ≡ situation d.former [] → x.events ≡ d.events → x.budget ≡ budget → OfAsked told q (IsOpenedFor o x)
opened_for told q o x model former events before bytes budget order d is f e h at evs within =
    subst (λ (r : Request). OfAsked told r (IsOpenedFor o x)) (sym is)
    (file_map told former (λ r. r ≡ before) _ (λ r same.
    file_map told events (λ r. r ≡ bytes) (λ bs. IsOpenedBy o r bs budget x) (λ bs equal.
    subst (λ (a : List ℕ). IsOpenedBy o a bs budget x) (sym same) (subst (λ (b : List ℕ). IsOpenedBy o before b budget x) (sym equal) (opened_by o before bytes budget x d h at evs within))) e) f)

-- a text that isn't read as an object is refused as a former one
pub unread_refused : (o : Outline) (f : FormerText) (s : Status) → IsUnread f.bytes s → IsFormerRefused o f s
unread_refused o f (status.Former (former.UnknownObject n)) h = absurd h
unread_refused o f (status.Former former.NotJson) h = h
unread_refused o f (status.Former former.NotObject) h = h
unread_refused o f s h = h

-- ---- what is refused

module _ (told : Option Files) (q : Request) (o : Outline) (ks : List ResolvedConstraint) (gs : List ResolvedGoal) (model former events : List ℕ) (budget : ℕ) (order : OrderName) (is : q ≡ Session model former events budget order) (s : Status) where
  at_request : ((journal : Journal) → IsDenied told (Session model former events budget order) journal s o ks gs) → (journal : Journal) → IsDenied told q journal s o ks gs
  at_request h = λ journal. subst (λ (r : Request). IsDenied told r journal s o ks gs) (sym is) (h journal)

  one_long : AreTextsRefused told former events s → (journal : Journal) → IsDenied told q journal s o ks gs
  one_long (inl h) = at_request (λ journal. inl h)
  one_long (inr h) = at_request (λ journal. inr (file_map told former _ (λ before. OfFile told events (λ bytes. IsHeldRefused o before bytes s)) (λ before. file_map told events (λ bytes. IsShort before × AreEventsLong bytes s) (λ bytes. IsHeldRefused o before bytes s) (λ bytes u. inl u)) h))

  pub texts_denied : (reads reads_now : ℕ) → Unreadable reads reads_now s (AreTextsRefused told former events s) → Unreadable reads reads_now s ((journal : Journal) → IsDenied told q journal s o ks gs)
  texts_denied reads reads_now h = unread_map reads reads_now s _ _ one_long h

  -- what is refused of texts that were read is refused of the files
  of_texts : (before bytes : List ℕ) → OfFile told former (λ r. r ≡ before) → OfFile told events (λ r. r ≡ bytes) → IsHeldRefused o before bytes s → (journal : Journal) → IsDenied told q journal s o ks gs
  of_texts before bytes f e h = at_request (λ journal. inr (file_map told former (λ r. r ≡ before) (λ r. OfFile told events (λ b. IsHeldRefused o r b s)) (λ r same. file_map told events (λ b. b ≡ bytes) (λ b. IsHeldRefused o r b s) (λ b equal. subst (λ (a : List ℕ). IsHeldRefused o a b s) (sym same) (subst (λ (c : List ℕ). IsHeldRefused o before c s) (sym equal) h)) e) f))

  held_refused : (before bytes : List ℕ) → IsShort before → length bytes ≤ events_bytes → IsDayRefused o before bytes s → IsHeldRefused o before bytes s
  held_refused before bytes short few (inl h) = inr (inl (short, few, h))
  held_refused before bytes short few (inr h) = inr (inr (h.0, h.1, few, h.2))

  of_day : (before bytes : List ℕ) → OfFile told former (λ r. r ≡ before) → OfFile told events (λ r. r ≡ bytes) → IsShort before → length bytes ≤ events_bytes → IsDayRefused o before bytes s → (journal : Journal) → IsDenied told q journal s o ks gs
  of_day before bytes f e short few h = of_texts before bytes f e (held_refused before bytes short few h)

  pub day_denied : (reads reads_now : ℕ) (before bytes : List ℕ) → OfFile told former (λ r. r ≡ before) → OfFile told events (λ r. r ≡ bytes) → IsShort before → length bytes ≤ events_bytes → Denied s (IsDayRefused o before bytes s) → Unreadable reads reads_now s ((journal : Journal) → IsDenied told q journal s o ks gs)
  day_denied reads reads_now before bytes f e short few (inl h) = inr (inl h)
  day_denied reads reads_now before bytes f e short few (inr h) = inr (inr (h.0, of_day before bytes f e short few h.1))

-- the former text is a repair, and a line of the events is refused
pub event_denied : (o : Outline) (before bytes : List ℕ) (s : Status) (r : Repair) → IsRepairOf o (former_text before []) r → Denied s (IsEventRefused o bytes s) → Denied s (IsDayRefused o before bytes s)
event_denied o before bytes s r is (inl h) = inl h
event_denied o before bytes s r is (inr h) = inr (h.0, inr (r, is, h.1))

-- the former text was read and isn't too long, and the events are refused
pub long_events : (told : Option Files) (former events before : List ℕ) (reads mid now : ℕ) (s : Status) → OfFile told former (λ r. r ≡ before) → IsShort before → reads ≤ mid → Unreadable mid now s (OfFile told events (λ bytes. AreEventsLong bytes s)) → Unreadable reads now s (AreTextsRefused told former events s)
long_events told former events before reads mid now s f short le h =
    unread_map reads now s _ _ (λ (u : OfFile told events (λ bytes. AreEventsLong bytes s)).
    inr (file_map told former (λ r. r ≡ before) (λ r. OfFile told events (λ bytes. IsShort r × AreEventsLong bytes s)) (λ r same. file_map told events (λ bytes. AreEventsLong bytes s) (λ bytes. IsShort r × AreEventsLong bytes s) (λ bytes long. (subst (λ (b : List ℕ). IsShort b) (sym same) short, long)) u) f))
    (unread_earlier reads mid now s _ le h)

-- ---- how a session ends

module _ (o : Outline) (ks : List ResolvedConstraint) (gs : List ResolvedGoal) (os : List Order) (journal : Journal) (x : Opened) where
  -- what was said of the session's situation and events is said of what was asked
  said_of : (before bytes : List ℕ) (budget : ℕ) (P : Subject → Situation → List Event → Type 0) → IsOpenedBy o before bytes budget x → P (subject o ks gs x.budget) (situation_of x.session.state) x.events → IsDay o before bytes (λ p es. P (subject o ks gs budget) p es)
  said_of before bytes budget P h said = record {
    repair = h.repair;
    former = h.former;
    short = h.short;
    good = h.good;
    holds =
        subst (λ (es : List Event). P (subject o ks gs budget) (situation h.repair.former []) es) h.events
        (subst (λ (p : Situation). P (subject o ks gs budget) p x.events) h.situation_is
        (subst (λ (n : ℕ). P (subject o ks gs n) (situation_of x.session.state) x.events) h.budget_is said));
  }

  whole_answer : (asked : Asked) (end : Status) (text : List ℕ) → IsOpenedFor o x asked → AreHeld (subject o ks gs x.budget) (situation_of x.session.state) x.events journal.rounds end text → IsModelAnswer o ks gs os journal asked end text
  whole_answer (Held before bytes budget order) end text h a = said_of before bytes budget (λ s p es. AreHeld s p es journal.rounds end text) h a
  whole_answer (Best former budget order) end text h a = absurd h
  whole_answer (Generated n) end text h a = absurd h
  whole_answer (Checked former bytes) end text h a = absurd h
  whole_answer (Satisfied bytes) end text h a = absurd h
  whole_answer (Blamed budget order) end text h a = absurd h

  part_answer : (asked : Asked) (s : Status) (whole text : List ℕ) → IsOpenedFor o x asked → AreBegun (subject o ks gs x.budget) (situation_of x.session.state) x.events journal.rounds whole text → IsModelBegun o ks gs os journal asked s whole text
  part_answer (Held before bytes budget order) s whole text h a = said_of before bytes budget (λ u p es. AreBegun u p es journal.rounds whole text) h a
  part_answer (Best former budget order) s whole text h a = absurd h
  part_answer (Generated n) s whole text h a = absurd h
  part_answer (Checked former bytes) s whole text h a = absurd h
  part_answer (Satisfied bytes) s whole text h a = absurd h
  part_answer (Blamed budget order) s whole text h a = absurd h

-- ---- the journal

rounds_of : (s : Subject) (p : Situation) (es : List Event) (ts : List Finding) (rounds : List Round) (text : List ℕ) → AreAnswered s p es ts rounds text → All (IsRoundOf s.budget) rounds × (map told_by rounds ≡ ts)
rounds_of s p [] [] [] text h = (All-nil (IsRoundOf s.budget), refl)
rounds_of s p [] [] (round ∷ rounds) text h = absurd h
rounds_of s p [] (t ∷ ts) rounds text h = absurd h
rounds_of s p (e ∷ es) [] rounds text h = absurd h
rounds_of s p (e ∷ es) (t ∷ ts) [] text h = absurd h
rounds_of s p (e ∷ es) (t ∷ ts) (round ∷ rounds) text h =
    let here = round_of s.outline s.constraints s.goals (Some h.3.repair) s.budget round t h.3.run in
    let rest = rounds_of s (situation_behind p e t) es ts rounds h.1 h.4 in
    (All-cons (IsRoundOf s.budget) round rounds here.0 rest.0, ap (λ (x : Finding). x ∷ map told_by rounds) here.1 ∙ ap (λ (xs : List Finding). t ∷ xs) rest.1)

has_held : (s : Subject) (p : Situation) (es : List Event) (ts : List Finding) (journal : Journal) (text : List ℕ) → AreAnswered s p es ts journal.rounds text → HasHeld s.budget (session_status s.budget ts) journal
has_held s p es ts journal text h =
    let all = rounds_of s p es ts journal.rounds text h in
    record { rounds = all.0; status_is = ap (session_status s.budget) (sym all.1) }

-- a round more that answers an event
one_held : (s : Subject) (p : Situation) (e : Event) (ts : List Finding) (told : Finding) (before : List Round) (round : Round) (journal : Journal) (text : List ℕ) → All (IsRoundOf s.budget) before × (map told_by before ≡ ts) → journal.rounds ≡ before ++ round ∷ [] → IsAnswered s p e round told text → HasHeld s.budget (session_status s.budget (ts ++ told ∷ [])) journal
one_held s p e ts told before round journal text h more a =
    let here = round_of s.outline s.constraints s.goals (Some a.repair) s.budget round told a.run in
    let one = All-cons (IsRoundOf s.budget) round [] here.0 (All-nil (IsRoundOf s.budget)) in
    let tells : map told_by journal.rounds ≡ ts ++ told ∷ [] = ap (map told_by) more ∙ map-append told_by before (round ∷ []) ∙ ap (λ (xs : List Finding). xs ++ told_by round ∷ []) h.1 ∙ ap (λ (f : Finding). ts ++ f ∷ []) here.1 in
    record {
      rounds = subst (λ (rs : List Round). All (IsRoundOf s.budget) rs) (sym more) (All-append (IsRoundOf s.budget) before (round ∷ []) h.0 one);
      status_is = ap (session_status s.budget) (sym tells);
    }

-- a session that was begun ends so for its rounds
begun_status : (s : Subject) (p : Situation) (es : List Event) (whole text : List ℕ) (journal : Journal) → AreBegun s p es journal.rounds whole text → (end : Status) × HasHeld s.budget end journal
begun_status s p es whole text journal h =
    let before = rounds_of s p h.done h.told h.before whole h.answered in
    elim h.next [
      | inl none ↦ (
        session_status s.budget h.told,
        record {
          rounds = subst (λ (rs : List Round). All (IsRoundOf s.budget) rs) (sym none.0) before.0;
          status_is = ap (session_status s.budget) (sym (ap (map told_by) none.0 ∙ before.1));
        },
      )
      | inr (e, later, round, told, left, more, a) ↦ (session_status s.budget (h.told ++ told ∷ []), one_held s (situation_after p h.done h.told) e h.told told h.before round journal text before more a)
    ]

recorded_held : (os : List Order) (q : Request) (n : ℕ) (s : Status) (journal : Journal) → HasBudget q n → HasHeld n s journal → IsRecorded os q s journal
recorded_held os (Session model former events budget order) n s journal is h = subst (λ (b : ℕ). HasHeld b s journal) is h
recorded_held os (Solve model budget log order) n s journal is h = absurd is
recorded_held os (Reconfigure model former failed budget log order) n s journal is h = absurd is
recorded_held os (Check model log former failed) n s journal is h = absurd is
recorded_held os (Verify model config) n s journal is h = absurd is
recorded_held os (Gen n) m s journal is h = absurd is
recorded_held os (Core model budget order) n s journal is h = absurd is

-- a session has no log
logged_none : (q : Request) (n : ℕ) (journal : Journal) (before now : Option Files) → HasBudget q n → now ≡ before → IsLogged q journal before now
logged_none (Session model former events budget order) n journal before now is same = same
logged_none (Solve model budget log order) n journal before now is same = absurd is
logged_none (Reconfigure model former failed budget log order) n journal before now is same = absurd is
logged_none (Check model log former failed) n journal before now is same = absurd is
logged_none (Verify model config) n journal before now is same = absurd is
logged_none (Gen n) m journal before now is same = absurd is
logged_none (Core model budget order) n journal before now is same = absurd is

front_none : (q : Request) (n : ℕ) (journal : Journal) (before now : Option Files) → HasBudget q n → now ≡ before → IsLogFront q journal before now
front_none (Session model former events budget order) n journal before now is same = same
front_none (Solve model budget log order) n journal before now is same = absurd is
front_none (Reconfigure model former failed budget log order) n journal before now is same = absurd is
front_none (Check model log former failed) n journal before now is same = absurd is
front_none (Verify model config) n journal before now is same = absurd is
front_none (Gen n) m journal before now is same = absurd is
front_none (Core model budget order) n journal before now is same = absurd is

-- ---- over the model that a program is

session_stage : (budget : ℕ) (ts : List Finding) → stage_of (session_status budget ts) ≡ Answered
session_stage budget ts =
    elim (list_any is_open ts) as (λ b. stage_of (cond b (status.Undecided budget) (cond (list_any is_none_told ts) status.NoneExists status.Done)) ≡ Answered) [
      | true ↦ refl
      | false ↦ elim (list_any is_none_told ts) as (λ b. stage_of (cond b status.NoneExists status.Done) ≡ Answered) [ true ↦ refl | false ↦ refl ]
    ]

module _ (t : Trace) (p : Program) (table o : Outline) (cs : List ResolvedConstraint) (gs : List ResolvedGoal) (objects_are : o ≡ table) (made : IsResolved p table cs gs) (within : IsWithin p) (x : Opened) (asked_for : OfAsked t.before.files t.request (IsOpenedFor o x)) (budget : HasBudget t.request x.budget) (files : t.now.files ≡ t.before.files) where
  pub whole_of : (end : Status) → HasWhole o cs gs x t.journal end t.before.printed t.now.printed → IsHeldWhole t p end
  whole_of end h = record {
    stage = ap stage_of h.1.status_is ∙ session_stage x.budget h.1.told;
    delivers = record {
      recorded = recorded_held t.orders t.request x.budget end t.journal budget (subst (λ (s : Status). HasHeld x.budget s t.journal) (sym h.1.status_is) (has_held (subject o cs gs x.budget) (situation_of x.session.state) x.events h.1.told t.journal h.0 h.1.answered));
      logged = logged_none t.request x.budget t.journal t.before.files t.now.files budget files;
    };
    within = within;
    prints = asked_map t.before.files t.request (IsOpenedFor o x) (λ asked. Prints t end asked p) (λ asked is. (
      h.0,
      at_model p table o cs gs objects_are made (λ y ks hs. IsModelAnswer y ks hs t.orders t.journal asked end h.0) (whole_answer o cs gs t.orders t.journal x asked end h.0 is h.1),
      h.2,
    )) asked_for;
  }

  pub part_of : HasPart o cs gs x t.journal t.before.printed t.now.printed → IsBegun t p
  part_of h =
      let u = subject o cs gs x.budget in
      let end = begun_status u (situation_of x.session.state) x.events h.0 h.1 t.journal h.2 in
      record {
        begins = record {
          status = end.0;
          recorded = recorded_held t.orders t.request x.budget end.0 t.journal budget end.1;
          logged = front_none t.request x.budget t.journal t.before.files t.now.files budget files;
        };
        within = within;
        breaks = asked_map t.before.files t.request (IsOpenedFor o x) (λ asked. Breaks t asked p) (λ asked is. (
          end.0,
          h.0,
          h.1,
          at_model p table o cs gs objects_are made (λ y ks hs. IsModelBegun y ks hs t.orders t.journal asked end.0 h.0 h.1) (part_answer o cs gs t.orders t.journal x asked end.0 h.0 h.1 is h.2),
          inr (logged_none t.request x.budget t.journal t.before.files t.now.files budget files, h.3),
        )) asked_for;
      }

-- ---- how a session over a model ends

held_whole : (t : Trace) (p : Program) (s : Status) → IsHeldWhole t p s → EndsModel t p s
held_whole t p s h =
    subst (λ g. EndsModelAt g t p s) (sym h.stage) (h.delivers, (h.within, h.prints))

module _ (t : Trace) (o : Outline) (cs : List ResolvedConstraint) (gs : List ResolvedGoal) (x : Opened) (mid : Option (List ℕ)) (same : mid ≡ t.before.printed) (asked_for : OfAsked t.before.files t.request (IsOpenedFor o x)) (budget : HasBudget t.request x.budget) (files : t.now.files ≡ t.before.files) where
  begun_of : HasPart o cs gs x t.journal mid t.now.printed → ForModel o cs gs (λ p. IsBegun t p)
  begun_of h = λ p table objects_are made within.
      part_of t p table o cs gs objects_are made within x asked_for budget files
      (subst (λ (q : Option (List ℕ)). HasPart o cs gs x t.journal q t.now.printed) same h)

  -- all events were answered
  pub ends_whole : (end : Status) → HasWhole o cs gs x t.journal end mid t.now.printed → ForModel o cs gs (λ p. EndsModel t p end)
  ends_whole end h = λ p table objects_are made within.
      held_whole t p end (whole_of t p table o cs gs objects_are made within x asked_for budget files end
      (subst (λ (q : Option (List ℕ)). HasWhole o cs gs x t.journal end q t.now.printed) same h))

  -- writing failed
  pub ends_unwritten : HasRisen t.writes t.writes_now → HasPart o cs gs x t.journal mid t.now.printed → ForModel o cs gs (λ p. EndsModel t p status.WriteFault)
  ends_unwritten risen h = λ p table objects_are made within.
      let b = begun_of h p table objects_are made within in
      (risen, b.begins, (b.within, b.breaks))

  -- there was no memory
  pub ends_lost : HasPart o cs gs x t.journal mid t.now.printed → ForModel o cs gs (λ p. EndsModel t p status.Memory)
  ends_lost h = λ p table objects_are made within.
      let b = begun_of h p table objects_are made within in
      inr (inl (b.begins, (b.within, b.breaks)))

-- a session that wasn't opened leaves everything as it was
pub ends_denied : (t : Trace) (o : Outline) (cs : List ResolvedConstraint) (gs : List ResolvedGoal) (s : Status) → t.journal.rounds ≡ [] → t.now ≡ t.before → Unreadable t.reads t.reads_now s ((journal : Journal) → IsDenied t.before.files t.request journal s o cs gs) → ForModel o cs gs (λ p. EndsModel t p s)
ends_denied t o cs gs s none same h = λ p table objects_are made within.
    model_denied t p s (inl none)
    (unread_map t.reads t.reads_now s _ _
    (λ d. inr (within, at_model p table o cs gs objects_are made (λ y ks hs. IsDenied t.before.files t.request t.journal s y ks hs) (d t.journal))) h)
    same
