-- What became of texts that were read. What a reader believes after this file: nothing that `run`
-- says.
use Rattle.std.specs.Prelude.{ℕ, ◌≡◌, List, Option, ⊤}
use Rattle.desk_io.specs.Desk.{with_printed}
use Rattle.desk_io.specs.Fault.{HasRisen}
use Rattle.desk_io.specs.Whole.{PrintsFront}
use Rattle.site_drafts.specs.Answers.{Given, IsAnswer, IsUnanswered}
use Rattle.site_words.specs.Words.{Job}
use Rattle.site_run.specs.declared.status.Status.{Status as Ended}
use Rattle.site_run.specs.declared.status.Status.TheVariants as ended

abbrev pub Answers : Job → Given → Option (List ℕ) → Option (List ℕ) → ℕ → ℕ → Ended → Type 0
Answers job given before now writes writes_now ended.Done =
    (text : List ℕ) × IsAnswer job given text × (now ≡ with_printed text before)
Answers job given before now writes writes_now ended.Usage = ⊥
Answers job given before now writes writes_now (ended.Unread u) = ⊥
Answers job given before now writes writes_now (ended.Refused r) =
    (now ≡ before) × IsUnanswered job given r
Answers job given before now writes writes_now ended.WriteFault =
    (text : List ℕ) × IsAnswer job given text × PrintsFront text before now
    × HasRisen writes writes_now
Answers job given before now writes writes_now ended.Memory = ⊤
