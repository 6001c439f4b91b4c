-- How far a run came. What a reader believes after this file: which statuses come with an answer,
-- which refuse what is asked, and which say that the outside or memory failed.
use Rattle.std.specs.Prelude.{◌≡◌, ◌⊎◌, Bool, true, false}
use Rattle.run_status.specs.declared.status.Status.{Status}
use Rattle.run_status.specs.declared.status.Status.TheVariants as status

pub data Stage : Type 0 where
  -- the words are no request
  Unasked : Stage
  -- a file couldn't be read
  Unread : Stage
  -- the model, or what is asked of it, is refused
  Refused : Stage
  -- it was answered
  Answered : Stage
  -- the answer couldn't be written whole
  Unwritten : Stage
  -- there was no memory
  Lost : Stage

abbrev pub stage_of : Status → Stage
stage_of status.Done = Answered
stage_of status.NoneExists = Answered
stage_of (status.Undecided decisions) = Answered
stage_of status.Usage = Unasked
stage_of status.ReadFault = Unread
stage_of status.WriteFault = Unwritten
stage_of status.Memory = Lost
stage_of other = Refused

-- there was no memory, or it is refused and P says why
abbrev pub Denied : Status → Type 0 → Type 0
Denied s P = (s ≡ status.Memory) ⊎ ((stage_of s ≡ Refused) × P)

-- the status is this one, unless there was no memory or reading failed
abbrev pub IsUnless : Status → Status → Type 0
IsUnless wanted s = (s ≡ wanted) ⊎ ((s ≡ status.Memory) ⊎ (s ≡ status.ReadFault))

-- nothing is printed or written
abbrev pub is_silent : Stage → Bool
is_silent Answered = false
is_silent Unwritten = false
is_silent Lost = false
is_silent other = true

-- an answer may have been written in part
abbrev pub is_partial : Stage → Bool
is_partial Unwritten = true
is_partial Lost = true
is_partial other = false

-- it was answered or refused, or there was no memory
abbrev pub IsSettled : Stage → Type 0
IsSettled Refused = Unit {0}
IsSettled Answered = Unit {0}
IsSettled Lost = Unit {0}
IsSettled stage = ⊥
