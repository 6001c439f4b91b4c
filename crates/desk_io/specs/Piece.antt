-- How many bytes one call of a desk in memory handles.
use Rattle.std.specs.Prelude.{ℕ, Option, Some, None, min}

-- all of this many, or as many as the step of the desk if that is less
abbrev pub handled : Option ℕ → ℕ → ℕ
handled None length = length
handled (Some step) length = min step length
