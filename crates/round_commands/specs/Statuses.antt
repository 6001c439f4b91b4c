-- What the steps of reading a text hand on. What a reader believes after this file:
-- nothing that `run` says.
use Rattle.std.specs.Prelude.{Bool, true, false, None}
use Rattle.config_json.specs.declared.former.FormerError.{FormerError}
use Rattle.config_json.specs.declared.former.FormerError.TheVariants as json
use Rattle.run_status.specs.declared.status.FormerKind.TheVariants as former
use Rattle.run_status.specs.declared.status.LimitKind.TheVariants as kind
use Rattle.run_status.specs.declared.status.Status.{Status}
use Rattle.run_status.specs.declared.status.Status.TheVariants as status

abbrev pub former_status : FormerError → Status
former_status json.NotJson = status.Former former.NotJson
former_status json.NotObject = status.Former former.NotObject
former_status json.Memory = status.Memory

-- a log is refused
abbrev pub is_of_log : Status → Bool
is_of_log (status.Rejected line) = true
is_of_log (status.Limit kind.Log None) = true
is_of_log s = false
