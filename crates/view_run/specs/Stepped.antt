-- What is printed as the steps from one configuration to another, and why there are none.
use Rattle.std.specs.Prelude.{ℕ, ◌≡◌, Bool, true, false, ◌||◌, List, Option, Some, option_map, ⊤}
use Rattle.std.specs.Option.{option_map_or}
use Rattle.desk_io.specs.Desk.{Files, OfFile}
use Rattle.serde_json.specs.Data.{Data, string}
use Rattle.view_leaves.specs.Leaves.{leaves}
use Rattle.view_leaves.specs.Reading.{text_json}
use Rattle.view_picture.specs.Named.{has_attribute, are_parts, has_object}
use Rattle.view_run.specs.Options.{sizes_of, failed_of, stop_of}
use Rattle.view_run.specs.Words.{StepsAsked}
use Rattle.view_run.specs.declared.status.Status.{Status as Ended}
use Rattle.view_run.specs.declared.status.Status.TheVariants.{Same, Differs, Shown, Stuck, Usage, Unreadable, TooLong, NotJson, NotObject, NoAttribute, NoPart, NoStop, MovesSets, WriteFault, Memory}
use Rattle.view_steps.specs.Answer.{IsSteps, MovesSets as MovesSomeSet}

-- whether one of both has such an attribute, what is said to have failed is there, and what is named
-- as a stop is an object
abbrev pub has_known : Data → Data → StepsAsked → Bool
has_known d e a = has_attribute a.attribute (leaves e) || has_attribute a.attribute (leaves d)

abbrev pub has_failed : Data → StepsAsked → Bool
has_failed e a = are_parts (leaves e) (failed_of a.options)

abbrev pub has_stop : Data → StepsAsked → Bool
has_stop e a = option_map_or (has_object e (leaves e)) (stop_of a.options) true

-- the stop, as what refers to it
abbrev pub stop_value : StepsAsked → Option Data
stop_value a = option_map string (stop_of a.options)

-- a text of an order of the moves from the first to the second, and whether some are left
pub record IsStepped (d e : Data) (a : StepsAsked) (text : List ℕ) (stuck : Bool) : Type 0 where
  pub known : has_known d e a ≡ true
  pub there : has_failed e a ≡ true
  pub stopping : has_stop e a ≡ true
  pub steps : IsSteps d e a.attribute (sizes_of false a.options) (stop_value a) text stuck

-- a set is among what moves
abbrev pub HasSetAmong : StepsAsked → Data → Data → Type 0
HasSetAmong a d e = MovesSomeSet d e a.attribute

-- why there is no order
abbrev pub IsUnstepped : Data → Data → StepsAsked → Ended → Type 0
IsUnstepped d e a Same = ⊥
IsUnstepped d e a Differs = ⊥
IsUnstepped d e a Shown = ⊥
IsUnstepped d e a Stuck = ⊥
IsUnstepped d e a Usage = ⊥
IsUnstepped d e a (Unreadable s) = ⊥
IsUnstepped d e a (TooLong s) = ⊥
IsUnstepped d e a (NotJson s) = ⊥
IsUnstepped d e a (NotObject s) = ⊥
IsUnstepped d e a NoAttribute = has_known d e a ≡ false
IsUnstepped d e a NoPart = has_failed e a ≡ false
IsUnstepped d e a NoStop = has_stop e a ≡ false
IsUnstepped d e a MovesSets = HasSetAmong a d e
IsUnstepped d e a WriteFault = ⊥
IsUnstepped d e a Memory = ⊤

-- an order of the moves between what both files hold, as a text
pub record IsOrdered (files : Option Files) (a : StepsAsked) (text : List ℕ) (stuck : Bool) : Type 0 where
  pub before : Data
  pub behind : Data
  pub former : OfFile files a.former (λ bytes. text_json bytes ≡ Some before)
  pub new : OfFile files a.new (λ bytes. text_json bytes ≡ Some behind)
  pub stepped : IsStepped before behind a text stuck

-- the files hold configurations of which P says why there is no order
pub record LacksSteps (files : Option Files) (a : StepsAsked) (P : Data → Data → Type 0) : Type 0 where
  pub before : Data
  pub behind : Data
  pub former : OfFile files a.former (λ bytes. text_json bytes ≡ Some before)
  pub new : OfFile files a.new (λ bytes. text_json bytes ≡ Some behind)
  pub lacks : P before behind
