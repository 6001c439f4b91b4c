-- From the steps of a run to what its status says.
use Rattle.std.proofs.Common.{arith, ◌≡◌, ◌≤◌, ◌⊎◌, inl, inr, ℕ, List, Bool, true, false, Option, refl, sym, subst}
use Rattle.std.proofs.lemmas.Grind.{common_steps}
use Rattle.desk_io.specs.Desk.{Files, OfFile, with_printed}
use Rattle.desk_io.specs.Fault.{HasRisen}
use Rattle.view_reports.specs.Delivered.{IsDelivered}
use Rattle.view_reports.specs.Ending.{Trace, first_name, second_name, first_source, second_source, OfBoth, IsNoFile, IsUnread, IsDenied, IsAnswered, IsCutOff, IsRefused, Ends}
use Rattle.view_reports.specs.Made.{IsMade, IsUnmade}
use Rattle.view_reports.specs.Words.{Asked, breaks, page}
use Rattle.view_reports.specs.declared.status.Source.{Source}
use Rattle.view_reports.specs.declared.status.Source.TheVariants.{Model, Config, Former, Answers}
use Rattle.view_reports.specs.declared.status.Status.{Status as Ended}
use Rattle.view_reports.specs.declared.status.Status.TheVariants.{Whole, Broken, Usage, Unreadable, TooLong, NotJson, NotObject, NoAttribute, WriteFault, Memory, Refused}

-- ---- files

-- reading failed since some time before
earlier : (files : Option Files) (name : List ℕ) (source : Source) (start reads now : ℕ) (s : Ended) → start ≤ reads → IsNoFile files name source reads now s → IsNoFile files name source start now s
earlier files name source start reads now Whole le h = h
earlier files name source start reads now Broken le h = h
earlier files name source start reads now Usage le h = h
earlier files name source start reads now (Unreadable s) le h = (h.0, risen)
  where
    risen : HasRisen start now
    risen = let more = h.1 in grind (arith, common_steps)
earlier files name source start reads now (TooLong s) le h = h
earlier files name source start reads now (NotJson s) le h = h
earlier files name source start reads now (NotObject s) le h = h
earlier files name source start reads now NoAttribute le h = h
earlier files name source start reads now WriteFault le h = h
earlier files name source start reads now Memory le h = h
earlier files name source start reads now (Refused s) le h = h

pub first_unread : (files : Option Files) (a : Asked) (name : List ℕ) (source : Source) (reads now : ℕ) (s : Ended) → name ≡ first_name a → source ≡ first_source a → IsNoFile files name source reads now s → IsUnread files a reads now s
first_unread files a name source reads now s named is h =
    inl (subst (λ n. IsNoFile files n (first_source a) reads now s) named (subst (λ q. IsNoFile files name q reads now s) is h))

pub second_unread : (files later : Option Files) (a : Asked) (name : List ℕ) (source : Source) (start reads now : ℕ) (s : Ended) → later ≡ files → start ≤ reads → name ≡ second_name a → source ≡ second_source a → IsNoFile later name source reads now s → IsUnread files a start now s
second_unread files later a name source start reads now s same le named is h =
    let here = subst (λ n. IsNoFile later n (second_source a) reads now s) named (subst (λ q. IsNoFile later name q reads now s) is h) in
    inr (earlier files (second_name a) (second_source a) start reads now s le (subst (λ fs. IsNoFile fs (second_name a) (second_source a) reads now s) same here))

-- ---- what is made

pub unread_denied : (files : Option Files) (a : Asked) (reads now : ℕ) (s : Ended) → IsUnread files a reads now s → IsDenied files a reads now s
unread_denied files a reads now s h = inl h

pub unmade_denied : (files : Option Files) (a : Asked) (reads now : ℕ) (s : Ended) (one two : List ℕ) → OfFile files (first_name a) (λ bytes. bytes ≡ one) → OfFile files (second_name a) (λ bytes. bytes ≡ two) → IsUnmade a one two s → IsDenied files a reads now s
unmade_denied files a reads now s one two first second h =
    inr (record { one = one; two = two; first = first; second = second; holds = h })

pub is_made : (files : Option Files) (a : Asked) (text : List ℕ) (found : Bool) (one two : List ℕ) → OfFile files (first_name a) (λ bytes. bytes ≡ one) → OfFile files (second_name a) (λ bytes. bytes ≡ two) → IsMade a one two text found → OfBoth files a (λ x y. IsMade a x y text found)
is_made files a text found one two first second h =
    record { one = one; two = two; first = first; second = second; holds = h }

-- ---- runs

-- no refusal is an answer
module _ (files : Option Files) (a : Asked) (reads now : ℕ) (s : Ended) (unread : IsUnread files a reads now s → ⊥) (unmade : (one two : List ℕ) → IsUnmade a one two s → ⊥) where
  never : IsDenied files a reads now s → ⊥
  never (inl h) = unread h
  never (inr h) = unmade h.one h.two h.holds

neither : ⊥ ⊎ ⊥ → ⊥
neither (inl h) = h
neither (inr h) = h

not_whole : (a : Asked) (one two : List ℕ) → IsUnmade a one two Whole → ⊥
not_whole (breaks a) one two h = h
not_whole (page a) one two h = h

not_broken : (a : Asked) (one two : List ℕ) → IsUnmade a one two Broken → ⊥
not_broken (breaks a) one two h = h
not_broken (page a) one two h = h

not_usage : (a : Asked) (one two : List ℕ) → IsUnmade a one two Usage → ⊥
not_usage (breaks a) one two h = h
not_usage (page a) one two h = h

not_cut : (a : Asked) (one two : List ℕ) → IsUnmade a one two WriteFault → ⊥
not_cut (breaks a) one two h = h
not_cut (page a) one two h = h

pub denied_ends : (files : Option Files) (a : Asked) (t : Trace) (s : Ended) → IsDenied files a t.reads t.reads_now s → t.printed_now ≡ t.printed → Ends files a t s
denied_ends files a t Whole h silent = absurd (never files a t.reads t.reads_now Whole neither (not_whole a) h)
denied_ends files a t Broken h silent = absurd (never files a t.reads t.reads_now Broken neither (not_broken a) h)
denied_ends files a t Usage h silent = absurd (never files a t.reads t.reads_now Usage neither (not_usage a) h)
denied_ends files a t (Unreadable s) h silent = record { silent = silent; why = h }
denied_ends files a t (TooLong s) h silent = record { silent = silent; why = h }
denied_ends files a t (NotJson s) h silent = record { silent = silent; why = h }
denied_ends files a t (NotObject s) h silent = record { silent = silent; why = h }
denied_ends files a t NoAttribute h silent = record { silent = silent; why = h }
denied_ends files a t WriteFault h silent = absurd (never files a t.reads t.reads_now WriteFault neither (not_cut a) h)
denied_ends files a t Memory h silent = tt
denied_ends files a t (Refused s) h silent = record { silent = silent; why = h }

module _ (files : Option Files) (a : Asked) (t : Trace) (text : List ℕ) (found : Bool) (made : OfBoth files a (λ one two. IsMade a one two text found)) where
  answered : (b : Bool) → found ≡ b → t.printed_now ≡ with_printed text t.printed → IsAnswered files a b t
  answered b is printed = record {
    text = text;
    made = subst (λ x. OfBoth files a (λ one two. IsMade a one two text x)) is made;
    printed = printed;
  }

  pub delivered_ends : (s : Ended) → IsDelivered text found t.printed t.printed_now t.writes t.writes_now s → Ends files a t s
  delivered_ends Whole h = answered false h.0 h.1
  delivered_ends Broken h = answered true h.0 h.1
  delivered_ends Usage h = absurd h
  delivered_ends (Unreadable s) h = absurd h
  delivered_ends (TooLong s) h = absurd h
  delivered_ends (NotJson s) h = absurd h
  delivered_ends (NotObject s) h = absurd h
  delivered_ends NoAttribute h = absurd h
  delivered_ends WriteFault h = record { text = text; found = found; made = made; printed = h.0; risen = h.1 }
  delivered_ends Memory h = tt
  delivered_ends (Refused s) h = absurd h
