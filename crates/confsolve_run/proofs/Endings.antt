-- How a run over a model ends, and from there how one over its text and a request end.
use Rattle.std.proofs.Common.{◌≡◌, ◌⊎◌, inl, inr, ◌≤◌, List, [], ◌∷◌, Option, None, Some, is_some, length, take, sym, subst, ap, ◌∙◌, refl, ℕ}
use native.Mathlib.Omega.{arith}
use Rattle.std.specs.Option.{option_map}
use Rattle.branch_choice.specs.declared.split.Order.{Order}
use Rattle.conf_request.specs.declared.request.Request.{Request}
use Rattle.conf_syntax.specs.declared.tree.Program.{Program}
use Rattle.desk_io.specs.Desk.{Files, with_file, with_printed}
use Rattle.desk_io.specs.Whole.{PrintsFront, StoresFront}
use Rattle.proof_log.specs.Rounds.{Journal}
use Rattle.run_status.specs.declared.status.Status.{Status}
use Rattle.run_promise.specs.Answer.{IsAnswer}
use Rattle.run_promise.specs.Asking.{OfAsked, OfText, log_file}
use Rattle.model_reader.specs.TextModel.{IsModelOf}
use Rattle.run_promise.specs.Delivery.{Outside, outside, log_text, IsLoggedIn, IsLogFrontIn, IsLogFront, IsCutOff}
use Rattle.round_commands.specs.Ending.{Trace, trace, IsBegun, EndsModel, EndsModelAt, Ends, EndsAt, RunEnds, RunEndsAt}
use Rattle.model_reader.specs.Models.{IsWithin, outline_of, constraints_of, goals_of}
use Rattle.run_promise.specs.Recorded.{IsRecorded}
use Rattle.run_promise.specs.Refusal.{IsReason, IsDeniedOf, IsTooLongText}
use Rattle.model_reader.specs.ModelRefusal.{IsRefusedFor, IsTextRefused}
use Rattle.run_status.specs.Stages.{Stage, Unasked, Unread, Refused, Answered, Unwritten, Lost, stage_of, Denied}
use Rattle.round_commands.specs.Unreadable.{Unreadable}
use Rattle.round_commands.specs.Told.{IsToldLog}
use Rattle.confsolve_run.specs.Told.{stored, StoresSome, IsToldBroken}
use Rattle.round_commands.proofs.Begun.{IsOther, Unheld, unheld, answer_begun}
use Rattle.round_commands.proofs.Ends.{same_outside}
use Rattle.round_commands.proofs.Reading.{risen_earlier}
use Rattle.round_commands.proofs.Stepping.{nothing_printed}
use Rattle.round_commands.proofs.Asking.{asked_map, text_map, text_read}

-- ---- the log

pub logged_of : (name log : Option (List ℕ)) (journal : Journal) (before now : Option Files) → IsToldLog (is_some name) journal log → now ≡ stored name log before → IsLoggedIn name journal before now
logged_of None log journal before now h is = is
logged_of (Some name) None journal before now h is = absurd h
logged_of (Some name) (Some text) journal before now h is = (h.0, h.1, is ∙ ap (λ t. option_map (with_file name t) before) h.2)

pub front_of : (name log : Option (List ℕ)) (journal : Journal) (before now : Option Files) → IsToldLog (is_some name) journal log → StoresSome name log before now → IsLogFrontIn name journal before now
front_of None log journal before now h is = is
front_of (Some name) None journal before now h is = absurd h
front_of (Some name) (Some text) journal before now h is = inr (h.0, h.1, subst (λ t. StoresFront name t before now) h.2 is)

-- the whole log is a front of it
take_all : (text : List ℕ) → take (length text) text ≡ text
take_all [] = refl
take_all (b ∷ bs) = ap (λ xs. b ∷ xs) (take_all bs)

whole_front : (name : Option (List ℕ)) (journal : Journal) (before now : Option Files) → IsLoggedIn name journal before now → IsLogFrontIn name journal before now
whole_front None journal before now h = h
whole_front (Some name) journal before now h =
    let text = log_text h.0 journal in
    inr (h.0, h.1, inr (length text, omega arith, h.2 ∙ ap (λ t. option_map (with_file name t) before) (sym (take_all text))))

pub cut_of : (r : Request) (journal : Journal) (name log : Option (List ℕ)) (text : List ℕ) (before now : Outside) → name ≡ log_file r → IsToldLog (is_some name) journal log → IsToldBroken name log text before now → IsCutOff r journal [] text before now
cut_of r journal name log text before now is h (inl b) = inl (refl, b.0, subst (λ n. IsLogFrontIn n journal before.files now.files) is (front_of name log journal before.files now.files h b.1))
cut_of r journal name log text before now is h (inr b) = inr (subst (λ n. IsLoggedIn n journal before.files now.files) is (logged_of name log journal before.files now.files h b.0), subst (λ x. PrintsFront text x now.printed) (sym (nothing_printed before.printed)) b.1)

pub begun_of : (r : Request) (journal : Journal) (whole text : List ℕ) (before now : Outside) → IsCutOff r journal whole text before now → IsLogFront r journal before.files now.files
begun_of r journal whole text before now (inl c) = c.2
begun_of r journal whole text before now (inr c) = whole_front (log_file r) journal before.files now.files c.0

-- ---- a model

pub model_answered : (t : Trace) (p : Program) (s : Status) (name log : Option (List ℕ)) (text : List ℕ) → stage_of s ≡ Answered → IsRecorded t.orders t.request s t.journal → name ≡ log_file t.request → IsToldLog (is_some name) t.journal log → t.now.files ≡ stored name log t.before.files → IsWithin p → OfAsked t.before.files t.request (λ asked. IsAnswer t.orders t.journal asked p s text) → t.now.printed ≡ with_printed text t.before.printed → EndsModel t p s
model_answered t p s name log text stage recorded is h files within answers printed =
    let logged = subst (λ n. IsLoggedIn n t.journal t.before.files t.now.files) is (logged_of name log t.journal t.before.files t.now.files h files) in
    subst (λ g. EndsModelAt g t p s) (sym stage)
    (record { recorded = recorded; logged = logged }, (within, asked_map t.before.files t.request _ _ (λ asked a. (text, a, printed)) answers))

pub model_begun : (t : Trace) (p : Program) (s : Status) (name log : Option (List ℕ)) (text : List ℕ) → IsRecorded t.orders t.request s t.journal → name ≡ log_file t.request → IsToldLog (is_some name) t.journal log → IsToldBroken name log text t.before t.now → IsWithin p → IsOther t.request → OfAsked t.before.files t.request (λ asked. IsAnswer t.orders t.journal asked p s text) → IsBegun t p
model_begun t p s name log text recorded is h broken within other answers =
    let cut = cut_of t.request t.journal name log text t.before t.now is h broken in
    record {
      begins = record { status = s; recorded = recorded; logged = begun_of t.request t.journal [] text t.before t.now cut };
      within = within;
      breaks = asked_map t.before.files t.request (Unheld (λ asked. IsAnswer t.orders t.journal asked p s text)) _ (λ asked a. (s, [], text, answer_begun (outline_of p) (constraints_of p) (goals_of p) t.orders t.journal asked s text a, cut))
          (unheld t.before.files t.request (λ asked. IsAnswer t.orders t.journal asked p s text) other answers);
    }

-- the same, where the outside was as before when writing began
pub begun_from : (t : Trace) (p : Program) (s : Status) (name log : Option (List ℕ)) (text : List ℕ) (files : Option Files) (printed : Option (List ℕ)) → files ≡ t.before.files → printed ≡ t.before.printed → IsRecorded t.orders t.request s t.journal → name ≡ log_file t.request → IsToldLog (is_some (log_file t.request)) t.journal log → IsToldBroken name log text (outside files printed) t.now → IsWithin p → IsOther t.request → OfAsked t.before.files t.request (λ asked. IsAnswer t.orders t.journal asked p s text) → IsBegun t p
begun_from t p s name log text files printed f q recorded is h broken within other answers =
    model_begun t p s name log text recorded is (subst (λ n. IsToldLog (is_some n) t.journal log) (sym is) h)
    (subst (λ x. IsToldBroken name log text (outside t.before.files x) t.now) q (subst (λ x. IsToldBroken name log text (outside x printed) t.now) f broken)) within other answers

-- the same of an answer that was printed
pub answered_from : (t : Trace) (p : Program) (s : Status) (name log : Option (List ℕ)) (text : List ℕ) (files : Option Files) (printed : Option (List ℕ)) → files ≡ t.before.files → printed ≡ t.before.printed → stage_of s ≡ Answered → IsRecorded t.orders t.request s t.journal → name ≡ log_file t.request → IsToldLog (is_some (log_file t.request)) t.journal log → t.now.files ≡ stored name log files → IsWithin p → OfAsked t.before.files t.request (λ asked. IsAnswer t.orders t.journal asked p s text) → t.now.printed ≡ with_printed text printed → EndsModel t p s
answered_from t p s name log text files printed f q stage recorded is h stores within answers prints =
    model_answered t p s name log text stage recorded is (subst (λ n. IsToldLog (is_some n) t.journal log) (sym is) h) (stores ∙ ap (λ x. stored name log x) f) within answers (prints ∙ ap (λ x. with_printed text x) q)

-- ---- a text

pub text_at : (g : Stage) (t : Trace) (text : List ℕ) (p : Program) (s : Status) → IsModelOf text p → EndsModelAt g t p s → EndsAt g t text s
text_at Unasked t text p s is h = h
text_at Unread t text p s is h = h
text_at Refused t text p s is h = (reason h.0, h.1)
  where
    reason : IsRefusedFor s p ⊎ (IsWithin p × IsDeniedOf t.before.files t.request t.journal s p) → IsReason t.before.files t.request t.journal text s
    reason (inl r) = inr (inl (inr (p, is, r)))
    reason (inr r) = inr (inr (p, is, r))
text_at Answered t text p s is h = (h.0, (p, is, h.1))
text_at Unwritten t text p s is h = (h.0, h.1, (p, is, h.2))
text_at Lost t text p s is (inl same) = inl same
text_at Lost t text p s is (inr (inl h)) = inr (inl (h.0, (p, is, h.1)))
text_at Lost t text p s is (inr (inr h)) = inr (inr (h.0, (p, is, h.1)))

-- the text is no model's
pub text_refused : (t : Trace) (text : List ℕ) (s : Status) → t.journal.rounds ≡ [] → Denied s (IsTextRefused text s) → t.now ≡ t.before → Ends t text s
text_refused t text s none (inl h) same = subst (λ x. EndsAt (stage_of x) t text x) (sym h) (inl (same, none))
text_refused t text s none (inr h) same = subst (λ g. EndsAt g t text s) (sym h.0) (inr (inl (inl h.1)), same)

-- ---- a request

run_at : (g : Stage) (r : Request) (os : List Order) (journal : Journal) (before now : Outside) (reads mid reads_now writes writes_now : ℕ) (text : List ℕ) (s : Status) → reads ≤ mid → OfText before.files r (λ bytes. bytes ≡ text) → EndsAt g (trace r os journal before now mid reads_now writes writes_now) text s → RunEndsAt g (trace r os journal before now reads reads_now writes writes_now) s
run_at Unasked r os journal before now reads mid reads_now writes writes_now text s le read h = h
run_at Unread r os journal before now reads mid reads_now writes writes_now text s le read h = (risen_earlier reads mid reads_now le h.0, h.1)
run_at Refused r os journal before now reads mid reads_now writes writes_now text s le read h = (text_read before.files r text _ read h.0, h.1)
run_at Answered r os journal before now reads mid reads_now writes writes_now text s le read h =
    (record { recorded = h.0.recorded; logged = h.0.logged }, text_read before.files r text _ read h.1)
run_at Unwritten r os journal before now reads mid reads_now writes writes_now text s le read h =
    (h.0, record { status = h.1.status; recorded = h.1.recorded; logged = h.1.logged }, text_read before.files r text _ read h.2)
run_at Lost r os journal before now reads mid reads_now writes writes_now text s le read (inl same) = inl same
run_at Lost r os journal before now reads mid reads_now writes writes_now text s le read (inr (inl h)) =
    inr (inl (record { status = h.0.status; recorded = h.0.recorded; logged = h.0.logged }, text_read before.files r text _ read h.1))
run_at Lost r os journal before now reads mid reads_now writes writes_now text s le read (inr (inr h)) =
    inr (inr (h.0, text_read before.files r text _ read h.1))

-- reading changed neither files, nor what was printed, nor the count of failed writes
pub run_ends : (r : Request) (os : List Order) (journal : Journal) (files mid_files : Option Files) (printed mid_printed : Option (List ℕ)) (now : Outside) (reads mid reads_now writes mid_writes writes_now : ℕ) (text : List ℕ) (s : Status) → mid_files ≡ files → mid_printed ≡ printed → mid_writes ≡ writes → reads ≤ mid → OfText files r (λ bytes. bytes ≡ text) → Ends (trace r os journal (outside mid_files mid_printed) now mid reads_now mid_writes writes_now) text s → RunEnds (trace r os journal (outside files printed) now reads reads_now writes writes_now) s
run_ends r os journal files mid_files printed mid_printed now reads mid reads_now writes mid_writes writes_now text s f q w le read h =
    run_at (stage_of s) r os journal (outside files printed) now reads mid reads_now writes writes_now text s le read
    (subst (λ x. Ends (trace r os journal (outside files printed) now mid reads_now x writes_now) text s) w
    (subst (λ x. Ends (trace r os journal (outside files x) now mid reads_now mid_writes writes_now) text s) q
    (subst (λ x. Ends (trace r os journal (outside x mid_printed) now mid reads_now mid_writes writes_now) text s) f h)))

pub run_denied : (t : Trace) (s : Status) → t.journal.rounds ≡ [] → Unreadable t.reads t.reads_now s (OfText t.before.files t.request (λ bytes. IsTooLongText bytes s)) → t.now ≡ t.before → RunEnds t s
run_denied t s none (inl h) same = subst (λ x. RunEndsAt (stage_of x) t x) (sym h.0) (h.1, same)
run_denied t s none (inr (inl h)) same = subst (λ x. RunEndsAt (stage_of x) t x) (sym h) (inl (same, none))
run_denied t s none (inr (inr h)) same = subst (λ g. RunEndsAt g t s) (sym h.0) (text_map t.before.files t.request _ _ (λ bytes long. inl long) h.1, same)

pub denied_from : (r : Request) (os : List Order) (journal : Journal) (files now_files : Option Files) (printed now_printed : Option (List ℕ)) (reads reads_now writes writes_now : ℕ) (s : Status) → journal.rounds ≡ [] → now_files ≡ files → now_printed ≡ printed → Unreadable reads reads_now s (OfText files r (λ bytes. IsTooLongText bytes s)) → RunEnds (trace r os journal (outside files printed) (outside now_files now_printed) reads reads_now writes writes_now) s
denied_from r os journal files now_files printed now_printed reads reads_now writes writes_now s none f q h =
    run_denied (trace r os journal (outside files printed) (outside now_files now_printed) reads reads_now writes writes_now) s none h (same_outside files now_files printed now_printed f q)
