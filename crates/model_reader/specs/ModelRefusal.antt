-- Why a text is no model, or its model is refused. What a reader believes after this file: what each
-- such refusal says of the text.
use Rattle.std.specs.Prelude.{◌≡◌, ◌⊎◌, ◌<◌, ◌≤◌, List, None, Some, false, length, ℕ}
use Rattle.conf_limits.specs.Measures.{model_weight, model_narrow}
use Rattle.conf_parse.specs.Means.{IsSyntax, IsDeep}
use Rattle.conf_syntax.specs.Spelling.{Spells, IsStuckAtByte, IsStuckAtNumber}
use Rattle.conf_syntax.specs.declared.token.Placed.{Placed}
use Rattle.conf_syntax.specs.declared.tree.Program.{Program}
use Rattle.model_limits.specs.Limits.{most_weight}
use Rattle.object_alloc.specs.Limits as objects
use Rattle.object_alloc.specs.Limits.{IsWithinLimits}
use Rattle.object_alloc.specs.declared.fault.AllocFault.TheVariants as fault
use Rattle.run_status.specs.declared.status.LimitKind.TheVariants as kind
use Rattle.run_status.specs.declared.status.Status.{Status}
use Rattle.run_status.specs.declared.status.Status.TheVariants as status
use Rattle.model_reader.specs.TextModel.{HasModel}
use Rattle.model_reader.specs.Meaning.{IsFaultOf, IsTyped}
use Rattle.model_reader.specs.Models.{outline_of, constraints_of, goals_of}

-- at the place nothing begins, or the tokens before it begin a model and with the one there they
-- begin none
abbrev pub IsSyntaxAt : List ℕ → ℕ → Type 0
IsSyntaxAt text place =
    IsStuckAtByte text place ⊎ ((tokens : List Placed) × Spells text tokens
    × IsSyntax tokens (length text) place)

-- the tokens before the place begin a model, and with the one there only models that nest too
-- deeply
abbrev pub IsNestingAt : List ℕ → ℕ → Type 0
IsNestingAt text place =
    (tokens : List Placed) × Spells text tokens × IsDeep tokens (length text) place

-- Models: a fault stands in it, or it is typed and breaks a limit, the first in this order

-- no fault stands in the model, and its objects are within their limits
abbrev pub IsAllocated : Program → Type 0
IsAllocated p = IsTyped p × IsWithinLimits (outline_of p)

abbrev pub IsRefusedFor : Status → Program → Type 0
IsRefusedFor (status.Meaning fault place) p = IsFaultOf p fault place
IsRefusedFor (status.Limit kind.Objects None) p =
    IsTyped p × objects.IsRefused (outline_of p) fault.TooManyObjects
IsRefusedFor (status.Limit kind.Depth None) p =
    IsTyped p × objects.IsRefused (outline_of p) fault.TooDeep
IsRefusedFor (status.Limit kind.Cells None) p =
    IsTyped p × objects.IsRefused (outline_of p) fault.TooManyCells
IsRefusedFor (status.Limit kind.Weight None) p =
    IsAllocated p × (most_weight < model_weight (outline_of p) (constraints_of p) (goals_of p))
IsRefusedFor (status.Limit kind.Width None) p =
    IsAllocated p × (model_weight (outline_of p) (constraints_of p) (goals_of p) ≤ most_weight)
    × (model_narrow (outline_of p) (constraints_of p) (goals_of p) ≡ false)
IsRefusedFor status p = ⊥

-- a refusal of a text that is no model's
abbrev pub IsTextRefused : List ℕ → Status → Type 0
IsTextRefused text (status.Syntax place) = IsSyntaxAt text place
IsTextRefused text (status.Limit kind.Literal (Some place)) = IsStuckAtNumber text place
IsTextRefused text (status.Limit kind.Nesting (Some place)) = IsNestingAt text place
IsTextRefused text s = ⊥

-- a refusal of a text, or of the model that it is
abbrev pub IsRefusedAs : Status → List ℕ → Type 0
IsRefusedAs s text = IsTextRefused text s ⊎ HasModel text (IsRefusedFor s)
