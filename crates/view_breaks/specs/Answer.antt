-- What is told of two texts, and why they are refused. What a reader believes after this file: what
-- is told is what the configuration breaks of the model; a refusal is that of `verify`.
use Rattle.std.specs.Prelude.{◌≡◌, ◌⊎◌, List, None, Some, IsSome, All, length, map, ℕ, ℤ}
use Rattle.class_table.specs.Outline.{Outline}
use Rattle.conf_eval.specs.Satisfying.{IsFull}
use Rattle.conf_syntax.specs.declared.tree.Program.{Program}
use Rattle.conf_types.specs.Programs.{ResolvedConstraint}
use Rattle.config_json.specs.Former.{hints, missing}
use Rattle.config_json.specs.Reading.{value_read, IsOther}
use Rattle.model_reader.specs.Models.{IsWithin, outline_of, constraints_of}
use Rattle.model_reader.specs.ModelRefusal.{IsRefusedAs, IsRefusedFor}
use Rattle.model_reader.specs.TextModel.{HasModel}
use Rattle.object_alloc.specs.Configurations.{IsConfiguration}
use Rattle.object_alloc.specs.Walk.{walk, leaves_in}
use Rattle.run_status.specs.declared.status.FormerKind.TheVariants as former
use Rattle.run_status.specs.declared.status.Status.{Status}
use Rattle.run_status.specs.declared.status.Status.TheVariants as status
use Rattle.serde_json.specs.Data.{Data}
use Rattle.serde_json.specs.Find.{as_object}
use Rattle.view_breaks.specs.Breaks.{breaks}
use Rattle.view_breaks.specs.Text.{breaks_text}

-- the bytes are read as an object that gives each leaf a value, and these are the values of the
-- cells
pub record IsConfigOf (o : Outline) (bytes : List ℕ) (t : List ℤ) : Type 0 where
  pub json : Data
  pub read : value_read bytes ≡ Some json
  pub object : IsSome (as_object json)
  pub whole : missing o json ≡ None
  pub values : hints o json ≡ map Some t
  pub configuration : IsConfiguration o t

-- each reference set has as many members as its shape says
abbrev pub HasFullSets : Outline → List ℤ → Type 0
HasFullSets o t = All (IsFull o t) (leaves_in (walk o))

-- a leaf has no value in the object that the bytes are read as, the first one with this path
pub record IsMissing (o : Outline) (bytes path_text : List ℕ) : Type 0 where
  pub json : Data
  pub read : value_read bytes ≡ Some json
  pub object : IsSome (as_object json)
  pub first : missing o json ≡ Some path_text

-- the bytes are no JSON, no object, or have no value for a leaf
abbrev pub IsUnread : Outline → List ℕ → Status → Type 0
IsUnread o bytes (status.Former former.NotJson) = value_read bytes ≡ None
IsUnread o bytes (status.Former former.NotObject) = IsOther bytes
IsUnread o bytes (status.Broken None path_text) = IsMissing o bytes path_text
IsUnread o bytes s = ⊥

-- the text tells what the configuration that the bytes are breaks of these constraints; each of its
-- sets has its size
pub record IsTold (o : Outline) (ks : List ResolvedConstraint) (source bytes text : List ℕ) (count : ℕ) : Type 0 where
  pub config : List ℤ
  pub is : IsConfigOf o bytes config
  pub sets : HasFullSets o config
  pub text_is : text ≡ breaks_text source o (breaks o config ks)
  pub count_is : count ≡ length (breaks o config ks)

-- that, of the model that a text is, which is within the limits
abbrev pub IsToldFor : List ℕ → List ℕ → ℕ → List ℕ → Program → Type 0
IsToldFor bytes text count source p =
    IsWithin p × IsTold (outline_of p) (constraints_of p) source bytes text count

abbrev pub IsAnswer : List ℕ → List ℕ → List ℕ → ℕ → Type 0
IsAnswer source bytes text count = HasModel source (IsToldFor bytes text count source)

-- the model is refused, or it is within the limits and the bytes are none of its configurations
abbrev pub IsDeniedFor : List ℕ → Status → Program → Type 0
IsDeniedFor bytes s p = IsRefusedFor s p ⊎ (IsWithin p × IsUnread (outline_of p) bytes s)

abbrev pub IsDenied : List ℕ → List ℕ → Status → Type 0
IsDenied source bytes s =
    IsRefusedAs s source
    ⊎ HasModel source (λ p. IsWithin p × IsUnread (outline_of p) bytes s)
