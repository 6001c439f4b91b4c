-- What is asked of some tree of a text, and what answers it, is so of every tree of it.
use Rattle.std.proofs.Common.{List, Option, ℕ}
use Rattle.conf_syntax.specs.declared.tree.Program.{Program}
use Rattle.conf_request.specs.declared.request.Request.{Request}
use Rattle.desk_io.specs.Desk.{Files}
use Rattle.branch_choice.specs.declared.split.Order.{Order}
use Rattle.proof_log.specs.Rounds.{Journal}
use Rattle.run_promise.specs.Answer.{IsAnswer, IsAnswerBegun, IsAnswerSearched, IsModelAnswer, IsModelBegun, IsModelSearched}
use Rattle.model_reader.specs.Models.{IsWithin}
use Rattle.run_promise.specs.Refusal.{IsDenied, IsDeniedOf}
use Rattle.run_promise.specs.Asking.{Asked}
use Rattle.model_reader.specs.TextModel.{IsModelOf, HasModel}
use Rattle.model_reader.proofs.OneModel.{Said}
use Rattle.model_reader.proofs.OneStatus.{with_of}
use Rattle.run_status.specs.declared.status.Status.{Status}

pub asked_of : (text : List ℕ) (p : Program) (told : Option Files) (r : Request) (journal : Journal) (s : Status) → IsModelOf text p → HasModel text (λ q. IsWithin q × IsDeniedOf told r journal s q) → IsWithin p × IsDeniedOf told r journal s p
asked_of text p told r journal s h d = with_of (λ (m : Said). IsDenied told r journal s m.outline m.constraints m.goals) text p h d

pub answer_of : (text : List ℕ) (p : Program) (os : List Order) (journal : Journal) (asked : Asked) (s : Status) (printed : List ℕ) → IsModelOf text p → HasModel text (λ q. IsWithin q × IsAnswer os journal asked q s printed) → IsWithin p × IsAnswer os journal asked p s printed
answer_of text p os journal asked s printed h r = with_of (λ (m : Said). IsModelAnswer m.outline m.constraints m.goals os journal asked s printed) text p h r

pub begun_of : (text : List ℕ) (p : Program) (os : List Order) (journal : Journal) (asked : Asked) (s : Status) (whole printed : List ℕ) → IsModelOf text p → HasModel text (λ q. IsWithin q × IsAnswerBegun os journal asked q s whole printed) → IsWithin p × IsAnswerBegun os journal asked p s whole printed
begun_of text p os journal asked s whole printed h r = with_of (λ (m : Said). IsModelBegun m.outline m.constraints m.goals os journal asked s whole printed) text p h r

pub searched_of : (text : List ℕ) (p : Program) (journal : Journal) (asked : Asked) → IsModelOf text p → HasModel text (λ q. IsWithin q × IsAnswerSearched journal asked q) → IsWithin p × IsAnswerSearched journal asked p
searched_of text p journal asked h r = with_of (λ (m : Said). IsModelSearched m.outline m.constraints journal asked) text p h r
