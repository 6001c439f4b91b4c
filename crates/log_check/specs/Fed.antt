-- What a checker that is fed bytes has come to. What a reader believes after this file: it makes no
-- difference how the bytes were cut into pieces.
use Rattle.std.specs.Prelude.{◌≡◌, ℕ, suc, ◌+◌, ◌≤◌, true, false, List, ◌∷◌, ◌++◌, length, Option, None}
use Rattle.std.specs.List.{AllByRecursion}
use Rattle.ground_form.specs.declared.ground.Ground.{Ground}
use Rattle.ground_form.specs.WellMade.{IsWellMade}
use Rattle.log_form.specs.declared.line.Line.{Line}
use Rattle.proof_log.specs.Spelling.{lines_text, IsLine, Spells, lacks}
use Rattle.log_form.specs.Acceptance.{Made, accepted, made, may_come}
use Rattle.log_check.specs.declared.lines.CheckError.{CheckError}
use Rattle.log_check.specs.declared.lines.CheckError.TheVariants.{Rejected, Memory}
use Rattle.log_check.specs.declared.intake.Intake.{Intake}
use Rattle.log_check.specs.Progress.{made_of, IsRight}
use Rattle.log_check.specs.Verdicts.{Ending, ending}

-- the bytes are these lines, all accepted, and then the rest, in which no line ends
pub record IsFed (g : Ground) (bytes : List ℕ) (lines : List Line) (m : Made) (rest : List ℕ) (count : ℕ) : Type 0 where
  pub text : bytes ≡ lines_text lines ++ rest
  pub spelled : AllByRecursion IsLine lines
  pub unended : lacks 10 rest ≡ true
  pub taken : accepted g lines ≡ true
  pub left : made g lines ≡ m
  pub counted : length lines ≡ count

-- what bytes leave: the clauses and values of their lines, the bytes behind the last LF, and how
-- many lines ended
pub record Left : Type 0 where
  pub made : Made
  pub rest : List ℕ
  pub ended : ℕ

-- the bytes leave this, and none of their lines is refused
abbrev pub HasTaken : Ground → List ℕ → Left → Type 0
HasTaken g bytes left = (lines : List Line) × IsFed g bytes lines left.made left.rest left.ended

-- what the intake keeps, with other bytes behind the last LF, and with its own
abbrev pub left_with : Intake → List ℕ → Left
left_with i rest = record { made = made_of i.progress; rest = rest; ended = i.count }

abbrev pub left_of : Intake → Left
left_of i = left_with i i.rest.items

-- a checker as its user sees it: the problem, how many bytes it was fed, what it has refused with,
-- and what the bytes left
pub record Feeding : Type 0 where
  pub ground : Ground
  pub fed : ℕ
  pub refusal : Option CheckError
  pub left : Left

-- a line that is ended, behind these accepted ones, isn't spelled or isn't accepted
pub record FailsAt (g : Ground) (bytes : List ℕ) (n : ℕ) : Type 0 where
  pub lines : List Line
  pub bad : List ℕ
  pub more : List ℕ
  pub text : bytes ≡ lines_text lines ++ (bad ++ 10 ∷ more)
  pub spelled : AllByRecursion IsLine lines
  pub ended : lacks 10 bad ≡ true
  pub taken : accepted g lines ≡ true
  pub number : n ≡ suc (length lines)
  pub refused : (l : Line) → Spells bad l → may_come g (made g lines) l ≡ false

-- why feeding was refused
abbrev pub IsRefusedText : Ground → List ℕ → CheckError → Type 0
IsRefusedText g bytes (Rejected n) = FailsAt g bytes n
IsRefusedText g bytes Memory = Unit {0}

-- a checker of a well made problem, which has kept no more bytes and lines than it was fed bytes,
-- and is right about them unless it has refused
pub record IsReady (g : Ground) (fed : ℕ) (refusal : Option CheckError) (i : Intake) : Type 0 where
  pub made : IsWellMade g
  pub right : refusal ≡ None → IsRight g i.progress
  pub few : refusal ≡ None → i.count + length i.rest.items ≤ fed

-- the bytes are accepted lines, each ended by one LF, and the verdict is theirs
pub record IsLogOf (g : Ground) (bytes : List ℕ) (e : Ending) : Type 0 where
  pub lines : List Line
  pub text : bytes ≡ lines_text lines
  pub spelled : AllByRecursion IsLine lines
  pub taken : accepted g lines ≡ true
  pub verdict : e ≡ ending g lines
