-- From the steps of a run to what its status says.
use Rattle.std.proofs.Common.{arith, ◌≡◌, ◌≤◌, ℕ, List, Bool, true, false, Option, Some, sym, subst}
use Rattle.std.proofs.lemmas.Grind.{common_steps}
use Rattle.std.specs.Prelude.{Result, Ok, Err, IfOk, IfErr}
use Rattle.desk_io.specs.Desk.{Files, OfFile, with_printed}
use Rattle.desk_io.specs.Fault.{HasRisen}
use Rattle.serde_json.specs.Data.{Data}
use Rattle.view_leaves.specs.Reading.{text_json}
use Rattle.view_run.specs.Answers.{IsPlanText}
use Rattle.view_run.specs.Ending.{Trace, IsAsked, IsAnswered, PlanEnds, IsFaulty, IsDenied, IsDelivered, PictureEnds, IsUndrawn, IsHandedOut, IsLedOut, StepsEnds, IsUnordered, IsSentOut, two_files}
use Rattle.view_run.specs.Pictured.{IsPicture, IsBlank, IsDrawn}
use Rattle.view_run.specs.Stepped.{IsStepped, IsUnstepped, IsOrdered, LacksSteps, HasSetAmong, has_known, has_failed, has_stop}
use Rattle.view_run.specs.Words.{PlanAsked, PictureAsked, StepsAsked}
use Rattle.view_steps.specs.declared.steps.Steps.{Steps}
use Rattle.view_run.specs.declared.status.Source.TheVariants.{Former, New, Config}
use Rattle.view_run.specs.declared.status.Status.{Status as Ended}
use Rattle.view_run.specs.declared.status.Status.TheVariants.{Same, Differs, Shown, Stuck, Usage, Unreadable, TooLong, NotJson, NotObject, NoAttribute, NoPart, NoStop, MovesSets, WriteFault, Memory}

-- both files were read, and the plan between them made
pub is_asked : (files later : Option Files) (a : PlanAsked) (d e : Data) (text : List ℕ) (b : Bool)
    → later ≡ files → OfFile files a.former (λ bytes. text_json bytes ≡ Some d)
    → OfFile later a.new (λ bytes. text_json bytes ≡ Some e) → IsPlanText d e a.options text b
    → IsAsked files a text b
is_asked files later a d e text b same former new planned = record {
  before = d;
  behind = e;
  former = former;
  new = subst (λ fs. OfFile fs a.new (λ bytes. text_json bytes ≡ Some e)) same new;
  planned = planned;
}

-- a file that was refused, as the former one
pub former_denied : (files : Option Files) (a : PlanAsked) (reads now : ℕ) (s : Ended)
    → IsFaulty files a.former Former reads now s → IsDenied files a reads now s
former_denied files a reads now Same h = h
former_denied files a reads now Differs h = h
former_denied files a reads now Shown h = h
former_denied files a reads now Stuck h = h
former_denied files a reads now Usage h = h
former_denied files a reads now (Unreadable s) h = h.1
former_denied files a reads now (TooLong s) h =
    subst (λ q. IsDenied files a reads now (TooLong q)) (sym h.0) h.1
former_denied files a reads now (NotJson s) h =
    subst (λ q. IsDenied files a reads now (NotJson q)) (sym h.0) h.1
former_denied files a reads now (NotObject s) h =
    subst (λ q. IsDenied files a reads now (NotObject q)) (sym h.0) h.1
former_denied files a reads now NoAttribute h = h
former_denied files a reads now NoPart h = h
former_denied files a reads now NoStop h = h
former_denied files a reads now MovesSets h = h
former_denied files a reads now WriteFault h = h
former_denied files a reads now Memory h = h

-- and as the new one
new_denied_here : (files : Option Files) (a : PlanAsked) (reads now : ℕ) (s : Ended)
    → IsFaulty files a.new New reads now s → IsDenied files a reads now s
new_denied_here files a reads now Same h = h
new_denied_here files a reads now Differs h = h
new_denied_here files a reads now Shown h = h
new_denied_here files a reads now Stuck h = h
new_denied_here files a reads now Usage h = h
new_denied_here files a reads now (Unreadable s) h = h.1
new_denied_here files a reads now (TooLong s) h =
    subst (λ q. IsDenied files a reads now (TooLong q)) (sym h.0) h.1
new_denied_here files a reads now (NotJson s) h =
    subst (λ q. IsDenied files a reads now (NotJson q)) (sym h.0) h.1
new_denied_here files a reads now (NotObject s) h =
    subst (λ q. IsDenied files a reads now (NotObject q)) (sym h.0) h.1
new_denied_here files a reads now NoAttribute h = h
new_denied_here files a reads now NoPart h = h
new_denied_here files a reads now NoStop h = h
new_denied_here files a reads now MovesSets h = h
new_denied_here files a reads now WriteFault h = h
new_denied_here files a reads now Memory h = h

risen_earlier : (start reads now : ℕ) → start ≤ reads → HasRisen reads now → HasRisen start now
risen_earlier start reads now le h = grind (arith, common_steps)

-- faults since the start are no fewer than since a later point
earlier : (files : Option Files) (a : PlanAsked) (start reads now : ℕ) (s : Ended) → start ≤ reads
    → IsDenied files a reads now s → IsDenied files a start now s
earlier files a start reads now Same le h = h
earlier files a start reads now Differs le h = h
earlier files a start reads now Shown le h = h
earlier files a start reads now Stuck le h = h
earlier files a start reads now Usage le h = h
earlier files a start reads now (Unreadable s) le h = risen_earlier start reads now le h
earlier files a start reads now (TooLong s) le h = h
earlier files a start reads now (NotJson s) le h = h
earlier files a start reads now (NotObject s) le h = h
earlier files a start reads now NoAttribute le h = h
earlier files a start reads now NoPart le h = h
earlier files a start reads now NoStop le h = h
earlier files a start reads now MovesSets le h = h
earlier files a start reads now WriteFault le h = h
earlier files a start reads now Memory le h = h

pub new_denied : (files later : Option Files) (a : PlanAsked) (start reads now : ℕ) (s : Ended)
    → later ≡ files → start ≤ reads → IsFaulty later a.new New reads now s
    → IsDenied files a start now s
new_denied files later a start reads now s same le h =
    earlier files a start reads now s le
    (new_denied_here files a reads now s
    (subst (λ fs. IsFaulty fs a.new New reads now s) same h))

pub denied_ends : (files : Option Files) (a : PlanAsked) (t : Trace) (s : Ended)
    → IsDenied files a t.reads t.reads_now s → t.printed_now ≡ t.printed → PlanEnds files a t s
denied_ends files a t Same h silent = absurd h
denied_ends files a t Differs h silent = absurd h
denied_ends files a t Shown h silent = h
denied_ends files a t Stuck h silent = absurd h
denied_ends files a t Usage h silent = h
denied_ends files a t (Unreadable s) h silent = (silent, h)
denied_ends files a t (TooLong s) h silent = (silent, h)
denied_ends files a t (NotJson s) h silent = (silent, h)
denied_ends files a t (NotObject s) h silent = (silent, h)
denied_ends files a t NoAttribute h silent = absurd h
denied_ends files a t NoPart h silent = absurd h
denied_ends files a t NoStop h silent = absurd h
denied_ends files a t MovesSets h silent = absurd h
denied_ends files a t WriteFault h silent = absurd h
denied_ends files a t Memory h silent = tt

answered : (files : Option Files) (a : PlanAsked) (t : Trace) (text : List ℕ) (b c : Bool)
    → IsAsked files a text b → b ≡ c → t.printed_now ≡ with_printed text t.printed
    → IsAnswered files a c t
answered files a t text b c asked is printed = record {
  text = text;
  plan = subst (IsAsked files a text) is asked;
  printed = printed;
}

pub delivered_ends : (files : Option Files) (a : PlanAsked) (t : Trace) (text : List ℕ) (b : Bool)
    (s : Ended) → IsAsked files a text b
    → IsDelivered text b t.printed t.printed_now t.writes t.writes_now s → PlanEnds files a t s
delivered_ends files a t text b Same asked h = answered files a t text b false asked h.0 h.1
delivered_ends files a t text b Differs asked h = answered files a t text b true asked h.0 h.1
delivered_ends files a t text b Shown asked h = absurd h
delivered_ends files a t text b Stuck asked h = absurd h
delivered_ends files a t text b Usage asked h = h
delivered_ends files a t text b (Unreadable s) asked h = absurd h
delivered_ends files a t text b (TooLong s) asked h = absurd h
delivered_ends files a t text b (NotJson s) asked h = absurd h
delivered_ends files a t text b (NotObject s) asked h = absurd h
delivered_ends files a t text b NoAttribute asked h = absurd h
delivered_ends files a t text b NoPart asked h = absurd h
delivered_ends files a t text b NoStop asked h = absurd h
delivered_ends files a t text b MovesSets asked h = absurd h
delivered_ends files a t text b WriteFault asked h = record {
  text = text;
  differs = b;
  plan = asked;
  printed = h.0;
  risen = h.1;
}
delivered_ends files a t text b Memory asked h = tt

-- ---- pictures

pub is_drawn : (files : Option Files) (a : PictureAsked) (d : Data) (text : List ℕ)
    → OfFile files a.config (λ bytes. text_json bytes ≡ Some d) → IsPicture d a text
    → IsDrawn files a text
is_drawn files a d text config picture = record { whole = d; config = config; picture = picture }

-- a file that was refused
pub config_undrawn : (files : Option Files) (a : PictureAsked) (reads now : ℕ) (s : Ended)
    → IsFaulty files a.config Config reads now s → IsUndrawn files a reads now s
config_undrawn files a reads now Same h = absurd h
config_undrawn files a reads now Differs h = absurd h
config_undrawn files a reads now Shown h = absurd h
config_undrawn files a reads now Stuck h = absurd h
config_undrawn files a reads now Usage h = absurd h
config_undrawn files a reads now (Unreadable s) h = h.1
config_undrawn files a reads now (TooLong s) h =
    subst (λ q. IsUndrawn files a reads now (TooLong q)) (sym h.0) h.1
config_undrawn files a reads now (NotJson s) h =
    subst (λ q. IsUndrawn files a reads now (NotJson q)) (sym h.0) h.1
config_undrawn files a reads now (NotObject s) h =
    subst (λ q. IsUndrawn files a reads now (NotObject q)) (sym h.0) h.1
config_undrawn files a reads now NoAttribute h = absurd h
config_undrawn files a reads now NoPart h = absurd h
config_undrawn files a reads now NoStop h = absurd h
config_undrawn files a reads now MovesSets h = absurd h
config_undrawn files a reads now WriteFault h = absurd h
config_undrawn files a reads now Memory h = h

-- a configuration that has no such picture
pub blank_undrawn : (files : Option Files) (a : PictureAsked) (d : Data) (reads now : ℕ)
    (s : Ended) → OfFile files a.config (λ bytes. text_json bytes ≡ Some d) → IsBlank d a s
    → IsUndrawn files a reads now s
blank_undrawn files a d reads now Same config h = absurd h
blank_undrawn files a d reads now Differs config h = absurd h
blank_undrawn files a d reads now Shown config h = absurd h
blank_undrawn files a d reads now Stuck config h = absurd h
blank_undrawn files a d reads now Usage config h = absurd h
blank_undrawn files a d reads now (Unreadable s) config h = absurd h
blank_undrawn files a d reads now (TooLong s) config h = absurd h
blank_undrawn files a d reads now (NotJson s) config h = absurd h
blank_undrawn files a d reads now (NotObject s) config h = absurd h
blank_undrawn files a d reads now NoAttribute config h =
    record { whole = d; config = config; lacks = h }
blank_undrawn files a d reads now NoPart config h =
    record { whole = d; config = config; lacks = h }
blank_undrawn files a d reads now NoStop config h = absurd h
blank_undrawn files a d reads now MovesSets config h = absurd h
blank_undrawn files a d reads now WriteFault config h = absurd h
blank_undrawn files a d reads now Memory config h = tt

pub undrawn_ends : (files : Option Files) (a : PictureAsked) (t : Trace) (s : Ended)
    → IsUndrawn files a t.reads t.reads_now s → t.printed_now ≡ t.printed
    → PictureEnds files a t s
undrawn_ends files a t Same h silent = absurd h
undrawn_ends files a t Differs h silent = absurd h
undrawn_ends files a t Shown h silent = absurd h
undrawn_ends files a t Stuck h silent = absurd h
undrawn_ends files a t Usage h silent = absurd h
undrawn_ends files a t (Unreadable s) h silent = (silent, h)
undrawn_ends files a t (TooLong s) h silent = (silent, h)
undrawn_ends files a t (NotJson s) h silent = (silent, h)
undrawn_ends files a t (NotObject s) h silent = (silent, h)
undrawn_ends files a t NoAttribute h silent = (silent, h)
undrawn_ends files a t NoPart h silent = (silent, h)
undrawn_ends files a t NoStop h silent = absurd h
undrawn_ends files a t MovesSets h silent = absurd h
undrawn_ends files a t WriteFault h silent = absurd h
undrawn_ends files a t Memory h silent = tt

pub handed_out_ends : (files : Option Files) (a : PictureAsked) (t : Trace) (text : List ℕ)
    (s : Ended) → IsDrawn files a text
    → IsHandedOut text t.printed t.printed_now t.writes t.writes_now s → PictureEnds files a t s
handed_out_ends files a t text Same drawn h = absurd h
handed_out_ends files a t text Differs drawn h = absurd h
handed_out_ends files a t text Shown drawn h =
    record { text = text; drawn = drawn; printed = h }
handed_out_ends files a t text Stuck drawn h = absurd h
handed_out_ends files a t text Usage drawn h = absurd h
handed_out_ends files a t text (Unreadable s) drawn h = absurd h
handed_out_ends files a t text (TooLong s) drawn h = absurd h
handed_out_ends files a t text (NotJson s) drawn h = absurd h
handed_out_ends files a t text (NotObject s) drawn h = absurd h
handed_out_ends files a t text NoAttribute drawn h = absurd h
handed_out_ends files a t text NoPart drawn h = absurd h
handed_out_ends files a t text NoStop drawn h = absurd h
handed_out_ends files a t text MovesSets drawn h = absurd h
handed_out_ends files a t text WriteFault drawn h =
    record { text = text; drawn = drawn; printed = h.0; risen = h.1 }
handed_out_ends files a t text Memory drawn h = tt

-- ---- steps

pub is_ordered : (files later : Option Files) (a : StepsAsked) (d e : Data) (text : List ℕ)
    (b : Bool) → later ≡ files → OfFile files a.former (λ bytes. text_json bytes ≡ Some d)
    → OfFile later a.new (λ bytes. text_json bytes ≡ Some e) → IsStepped d e a text b
    → IsOrdered files a text b
is_ordered files later a d e text b same former new stepped = record {
  before = d;
  behind = e;
  former = former;
  new = subst (λ fs. OfFile fs a.new (λ bytes. text_json bytes ≡ Some e)) same new;
  stepped = stepped;
}

-- a file that was refused, as in a plan
denied_unordered : (files : Option Files) (a : StepsAsked) (reads now : ℕ) (s : Ended)
    → IsDenied files (two_files a) reads now s → IsUnordered files a reads now s
denied_unordered files a reads now Same h = absurd h
denied_unordered files a reads now Differs h = absurd h
denied_unordered files a reads now Shown h = absurd h
denied_unordered files a reads now Stuck h = absurd h
denied_unordered files a reads now Usage h = absurd h
denied_unordered files a reads now (Unreadable s) h = h
denied_unordered files a reads now (TooLong s) h = h
denied_unordered files a reads now (NotJson s) h = h
denied_unordered files a reads now (NotObject s) h = h
denied_unordered files a reads now NoAttribute h = absurd h
denied_unordered files a reads now NoPart h = absurd h
denied_unordered files a reads now NoStop h = absurd h
denied_unordered files a reads now MovesSets h = absurd h
denied_unordered files a reads now WriteFault h = absurd h
denied_unordered files a reads now Memory h = tt

pub former_unordered : (files : Option Files) (a : StepsAsked) (reads now : ℕ) (s : Ended)
    → IsFaulty files a.former Former reads now s → IsUnordered files a reads now s
former_unordered files a reads now s h =
    denied_unordered files a reads now s (former_denied files (two_files a) reads now s h)

pub new_unordered : (files later : Option Files) (a : StepsAsked) (start reads now : ℕ) (s : Ended)
    → later ≡ files → start ≤ reads → IsFaulty later a.new New reads now s
    → IsUnordered files a start now s
new_unordered files later a start reads now s same le h =
    denied_unordered files a start now s
    (new_denied files later (two_files a) start reads now s same le h)

lacks_steps : (files later : Option Files) (a : StepsAsked) (d e : Data)
    (P : Data → Data → Type 0) → later ≡ files
    → OfFile files a.former (λ bytes. text_json bytes ≡ Some d)
    → OfFile later a.new (λ bytes. text_json bytes ≡ Some e) → P d e → LacksSteps files a P
lacks_steps files later a d e P same former new h = record {
  before = d;
  behind = e;
  former = former;
  new = subst (λ fs. OfFile fs a.new (λ bytes. text_json bytes ≡ Some e)) same new;
  lacks = h;
}

-- two configurations between which there is no order
pub unstepped : (files later : Option Files) (a : StepsAsked) (d e : Data) (reads now : ℕ)
    (s : Ended) → later ≡ files → OfFile files a.former (λ bytes. text_json bytes ≡ Some d)
    → OfFile later a.new (λ bytes. text_json bytes ≡ Some e) → IsUnstepped d e a s
    → IsUnordered files a reads now s
unstepped files later a d e reads now Same same former new h = absurd h
unstepped files later a d e reads now Differs same former new h = absurd h
unstepped files later a d e reads now Shown same former new h = absurd h
unstepped files later a d e reads now Stuck same former new h = absurd h
unstepped files later a d e reads now Usage same former new h = absurd h
unstepped files later a d e reads now (Unreadable s) same former new h = absurd h
unstepped files later a d e reads now (TooLong s) same former new h = absurd h
unstepped files later a d e reads now (NotJson s) same former new h = absurd h
unstepped files later a d e reads now (NotObject s) same former new h = absurd h
unstepped files later a d e reads now NoAttribute same former new h =
    lacks_steps files later a d e (λ x y. has_known x y a ≡ false) same former new h
unstepped files later a d e reads now NoPart same former new h =
    lacks_steps files later a d e (λ x y. has_failed y a ≡ false) same former new h
unstepped files later a d e reads now NoStop same former new h =
    lacks_steps files later a d e (λ x y. has_stop y a ≡ false) same former new h
unstepped files later a d e reads now MovesSets same former new h =
    lacks_steps files later a d e (HasSetAmong a) same former new h
unstepped files later a d e reads now WriteFault same former new h = absurd h
unstepped files later a d e reads now Memory same former new h = tt

-- what came of them
pub steps_or_not : (files later : Option Files) (a : StepsAsked) (d e : Data) (reads now : ℕ)
    (r : Result Steps Ended) → later ≡ files → OfFile files a.former (λ bytes. text_json bytes ≡ Some d)
    → OfFile later a.new (λ bytes. text_json bytes ≡ Some e) → IfErr r (IsUnstepped d e a)
    → IfErr r (IsUnordered files a reads now)
steps_or_not files later a d e reads now (Ok steps) same former new h = tt
steps_or_not files later a d e reads now (Err s) same former new h =
    unstepped files later a d e reads now s same former new h

pub steps_or_none : (files later : Option Files) (a : StepsAsked) (d e : Data)
    (r : Result Steps Ended) → later ≡ files → OfFile files a.former (λ bytes. text_json bytes ≡ Some d)
    → OfFile later a.new (λ bytes. text_json bytes ≡ Some e)
    → IfOk r (λ (made : Steps). IsStepped d e a made.text.items made.stuck)
    → IfOk r (λ (made : Steps). IsOrdered files a made.text.items made.stuck)
steps_or_none files later a d e (Ok steps) same former new h =
    is_ordered files later a d e steps.text.items steps.stuck same former new h
steps_or_none files later a d e (Err s) same former new h = tt

pub unordered_ends : (files : Option Files) (a : StepsAsked) (t : Trace) (s : Ended)
    → IsUnordered files a t.reads t.reads_now s → t.printed_now ≡ t.printed
    → StepsEnds files a t s
unordered_ends files a t Same h silent = absurd h
unordered_ends files a t Differs h silent = absurd h
unordered_ends files a t Shown h silent = absurd h
unordered_ends files a t Stuck h silent = absurd h
unordered_ends files a t Usage h silent = absurd h
unordered_ends files a t (Unreadable s) h silent = (silent, h)
unordered_ends files a t (TooLong s) h silent = (silent, h)
unordered_ends files a t (NotJson s) h silent = (silent, h)
unordered_ends files a t (NotObject s) h silent = (silent, h)
unordered_ends files a t NoAttribute h silent = (silent, h)
unordered_ends files a t NoPart h silent = (silent, h)
unordered_ends files a t NoStop h silent = (silent, h)
unordered_ends files a t MovesSets h silent = (silent, h)
unordered_ends files a t WriteFault h silent = absurd h
unordered_ends files a t Memory h silent = tt

led_out : (files : Option Files) (a : StepsAsked) (t : Trace) (text : List ℕ) (b c : Bool)
    → IsOrdered files a text b → b ≡ c → t.printed_now ≡ with_printed text t.printed
    → IsLedOut files a c t
led_out files a t text b c ordered is printed = record {
  text = text;
  ordered = subst (IsOrdered files a text) is ordered;
  printed = printed;
}

pub sent_out_ends : (files : Option Files) (a : StepsAsked) (t : Trace) (text : List ℕ) (b : Bool)
    (s : Ended) → IsOrdered files a text b
    → IsSentOut text b t.printed t.printed_now t.writes t.writes_now s → StepsEnds files a t s
sent_out_ends files a t text b Same ordered h = absurd h
sent_out_ends files a t text b Differs ordered h = absurd h
sent_out_ends files a t text b Shown ordered h = led_out files a t text b false ordered h.0 h.1
sent_out_ends files a t text b Stuck ordered h = led_out files a t text b true ordered h.0 h.1
sent_out_ends files a t text b Usage ordered h = absurd h
sent_out_ends files a t text b (Unreadable s) ordered h = absurd h
sent_out_ends files a t text b (TooLong s) ordered h = absurd h
sent_out_ends files a t text b (NotJson s) ordered h = absurd h
sent_out_ends files a t text b (NotObject s) ordered h = absurd h
sent_out_ends files a t text b NoAttribute ordered h = absurd h
sent_out_ends files a t text b NoPart ordered h = absurd h
sent_out_ends files a t text b NoStop ordered h = absurd h
sent_out_ends files a t text b MovesSets ordered h = absurd h
sent_out_ends files a t text b WriteFault ordered h =
    record { text = text; stuck = b; ordered = ordered; printed = h.0; risen = h.1 }
sent_out_ends files a t text b Memory ordered h = tt
