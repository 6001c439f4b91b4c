-- From what refuses a tree to what refuses its text.
use Rattle.std.proofs.Common.{inl, inr, List, ℕ}
use Rattle.conf_syntax.specs.declared.tree.Program.{Program}
use Rattle.model_reader.specs.ModelRefusal.{IsRefusedAs, IsRefusedFor, IsTextRefused}
use Rattle.model_reader.specs.Models.{IsWithin}
use Rattle.model_reader.specs.TextModel.{HasModel, IsModelOf}
use Rattle.run_status.specs.Stages.{Denied}
use Rattle.run_status.specs.declared.status.Status.{Status}

pub text_refused : (text : List ℕ) (s : Status) → Denied s (IsTextRefused text s)
    → Denied s (IsRefusedAs s text)
text_refused text s (inl lost) = inl lost
text_refused text s (inr h) = inr (h.0, inl h.1)

pub model_refused : (text : List ℕ) (p : Program) (s : Status) → IsModelOf text p
    → Denied s (IsRefusedFor s p) → Denied s (IsRefusedAs s text)
model_refused text p s model (inl lost) = inl lost
model_refused text p s model (inr h) = inr (h.0, inr (p, model, h.1))

pub is_within : (text : List ℕ) (p : Program) → IsModelOf text p → IsWithin p
    → HasModel text IsWithin
is_within text p model within = (p, model, within)
