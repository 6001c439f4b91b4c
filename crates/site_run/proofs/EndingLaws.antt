-- From the steps of a run to what its status says.
use Rattle.std.proofs.Common.{arith, ◌≡◌, ◌≤◌, ◌<◌, ℕ, List, length, Option, Some, ap, sym, subst, refl, ◌∙◌}
use Rattle.std.proofs.lemmas.Grind.{common_steps}
use Rattle.desk_io.specs.Desk.{Files}
use Rattle.desk_io.specs.Fault.{HasRisen}
use Rattle.model_limits.specs.Limits.{config_bytes}
use Rattle.site_drafts.specs.Answers.{Given, IsAnswer, IsUnanswered}
use Rattle.site_run.specs.Ending.{Trace, OfAsked, IsText, IsRead, IsNoFile, IsUnread, IsHandedOut, Ends, named, state_file, beside_file}
use Rattle.site_run.specs.Runs.{Answers}
use Rattle.site_words.specs.Words.{Asked, Job, Plain, Fewest, Spread, Keep, Former, Table, Changes}
use Rattle.site_drafts.specs.declared.refusal.FileName.{FileName}
use Rattle.site_drafts.specs.declared.refusal.FileName.TheVariants as file
use Rattle.site_drafts.specs.declared.refusal.Refusal.{Refusal}
use Rattle.site_run.specs.declared.status.Status.{Status as Ended}
use Rattle.site_run.specs.declared.status.Status.TheVariants as ended
use Rattle.site_run.specs.declared.status.Unread.{Unread}
use Rattle.site_run.specs.declared.status.Unread.TheVariants as unread

pub is_read : (files : Option Files) (a : Asked) (given : Given)
    → IsText files (Some a.hosts) given.hosts → IsText files (Some a.services) given.services
    → IsText files a.state given.state → IsText files a.beside given.beside
    → IsRead files a given
is_read files a given hosts services state beside = record {
  hosts_read = hosts;
  services_read = services;
  state_read = state;
  beside_read = beside;
}

-- files are the same at a later read
pub later_text : (files later : Option Files) (name : Option (List ℕ)) (text : List ℕ)
    → later ≡ files → IsText later name text → IsText files name text
later_text files later name text same h = subst (λ fs. IsText fs name text) same h

risen_earlier : (start reads now : ℕ) → start ≤ reads → HasRisen reads now → HasRisen start now
risen_earlier start reads now le h = grind (arith, common_steps)

-- a file of this name that wasn't read at a later point
pub unread_at : (files later : Option Files) (a : Asked) (name : Option (List ℕ))
    (which : FileName) (start reads now : ℕ) (u : Unread) → named a which ≡ name → later ≡ files
    → start ≤ reads → IsNoFile later name which reads now u → IsUnread files a start now u
unread_at files later a name which start reads now (unread.Unreadable f) is same le h =
    risen_earlier start reads now le h
unread_at files later a name which start reads now (unread.TooLong f) is same le h =
    subst (λ g. OfAsked files (named a g) (λ bytes. config_bytes < length bytes)) (sym h.0)
    (subst (λ n. OfAsked files n (λ bytes. config_bytes < length bytes)) (sym is)
    (subst (λ fs. OfAsked fs name (λ bytes. config_bytes < length bytes)) same h.1))
unread_at files later a name which start reads now unread.Memory is same le h = tt

pub state_named : (a : Asked) (job : Job) → named a (state_file job) ≡ a.state
state_named a Plain = refl
state_named a Fewest = refl
state_named a (Spread resource) = refl
state_named a Keep = refl
state_named a Former = refl
state_named a Table = refl
state_named a Changes = refl

pub beside_named : (a : Asked) (job : Job) → named a (beside_file job) ≡ a.beside
beside_named a Plain = refl
beside_named a Fewest = refl
beside_named a (Spread resource) = refl
beside_named a Keep = refl
beside_named a Former = refl
beside_named a Table = refl
beside_named a Changes = refl

-- the files one after the other, which stay the same
pub are_read : (files f1 f2 f3 : Option Files) (a : Asked) (g : Given) → f1 ≡ files → f2 ≡ f1
    → f3 ≡ f2 → IsText files (Some a.hosts) g.hosts → IsText f1 (Some a.services) g.services
    → IsText f2 a.state g.state → IsText f3 a.beside g.beside → IsRead files a g
are_read files f1 f2 f3 a g e1 e2 e3 hosts services state beside =
    is_read files a g hosts (later_text files f1 (Some a.services) g.services e1 services)
    (later_text files f2 a.state g.state (e2 ∙ e1) state)
    (later_text files f3 a.beside g.beside (e3 ∙ e2 ∙ e1) beside)

pub hosts_unread : (files : Option Files) (a : Asked) (r0 now : ℕ) (u : Unread)
    → IsNoFile files (Some a.hosts) file.Hosts r0 now u → IsUnread files a r0 now u
hosts_unread files a r0 now u h =
    unread_at files files a (Some a.hosts) file.Hosts r0 r0 now u refl refl (omega arith) h

pub services_unread : (files f1 : Option Files) (a : Asked) (r0 r1 now : ℕ) (u : Unread)
    → f1 ≡ files → r0 ≤ r1 → IsNoFile f1 (Some a.services) file.Services r1 now u
    → IsUnread files a r0 now u
services_unread files f1 a r0 r1 now u e1 l1 h =
    unread_at files f1 a (Some a.services) file.Services r0 r1 now u refl e1 l1 h

pub state_unread : (files f1 f2 : Option Files) (a : Asked) (f : FileName)
    (r0 r1 r2 now : ℕ) (u : Unread) → f1 ≡ files → f2 ≡ f1 → r0 ≤ r1 → r1 ≤ r2
    → f ≡ state_file a.job → IsNoFile f2 a.state f r2 now u → IsUnread files a r0 now u
state_unread files f1 f2 a f r0 r1 r2 now u e1 e2 l1 l2 is h =
    unread_at files f2 a a.state f r0 r2 now u (ap (named a) is ∙ state_named a a.job)
    (e2 ∙ e1) (omega arith) h

pub beside_unread : (files f1 f2 f3 : Option Files) (a : Asked) (f : FileName)
    (r0 r1 r2 r3 now : ℕ) (u : Unread) → f1 ≡ files → f2 ≡ f1 → f3 ≡ f2 → r0 ≤ r1 → r1 ≤ r2
    → r2 ≤ r3 → f ≡ beside_file a.job → IsNoFile f3 a.beside f r3 now u
    → IsUnread files a r0 now u
beside_unread files f1 f2 f3 a f r0 r1 r2 r3 now u e1 e2 e3 l1 l2 l3 is h =
    unread_at files f3 a a.beside f r0 r3 now u (ap (named a) is ∙ beside_named a a.job)
    (e3 ∙ e2 ∙ e1) (omega arith) h

pub unread_ends : (files : Option Files) (a : Asked) (t : Trace) (u : Unread)
    → IsUnread files a t.reads t.reads_now u → t.printed_now ≡ t.printed
    → Ends files a t (ended.Unread u)
unread_ends files a t u h silent = record { silent = silent; unread = h }

pub unanswered_answers : (job : Job) (given : Given) (before now : Option (List ℕ))
    (writes writes_now : ℕ) (r : Refusal) → IsUnanswered job given r → now ≡ before
    → Answers job given before now writes writes_now (ended.Refused r)
unanswered_answers job given before now writes writes_now r h silent = (silent, h)

pub handed_out_answers : (job : Job) (given : Given) (before now : Option (List ℕ))
    (writes writes_now : ℕ) (text : List ℕ) (s : Ended) → IsAnswer job given text
    → IsHandedOut text before now writes writes_now s
    → Answers job given before now writes writes_now s
handed_out_answers job given before now writes writes_now text ended.Done made h =
    (text, made, h)
handed_out_answers job given before now writes writes_now text ended.Usage made h = absurd h
handed_out_answers job given before now writes writes_now text (ended.Unread u) made h = absurd h
handed_out_answers job given before now writes writes_now text (ended.Refused r) made h =
    absurd h
handed_out_answers job given before now writes writes_now text ended.WriteFault made h =
    (text, made, h.0, h.1)
handed_out_answers job given before now writes writes_now text ended.Memory made h = tt

pub answers_end : (files : Option Files) (a : Asked) (given : Given) (t : Trace) (s : Ended)
    → IsRead files a given
    → Answers a.job given t.printed t.printed_now t.writes t.writes_now s → Ends files a t s
answers_end files a given t ended.Done read h = record {
  given = given;
  text = h.0;
  read = read;
  answer = h.1;
  printed = h.2;
}
answers_end files a given t ended.Usage read h = absurd h
answers_end files a given t (ended.Unread u) read h = absurd h
answers_end files a given t (ended.Refused r) read h = record {
  silent = h.0;
  given = given;
  read = read;
  unanswered = h.1;
}
answers_end files a given t ended.WriteFault read h = record {
  given = given;
  text = h.0;
  read = read;
  answer = h.1;
  printed = h.2;
  risen = h.3;
}
answers_end files a given t ended.Memory read h = tt
