-- How borrowed words are seen by clauses, as the lists of bytes of the other definitions.
use Rattle.std.specs.Prelude.{ℕ, List, [], map, string_bytes, Some, None, option_copied}
use Rattle.conf_request.specs.Words.{Role, Plain, Closing, Opening, Setting, Given, plain_words}
use Rattle.conf_request.specs.declared.options.Given.{Given as GivenWords}
use Rattle.conf_request.specs.declared.scan.Role.{Role as WordRole}
use Rattle.conf_request.specs.declared.scan.Role.TheVariants as word
use Rattle.conf_request.specs.declared.scan.PlainWords.{PlainWords}
use Rattle.conf_request.specs.declared.draft.Draft.{Draft}
use Rattle.conf_request.specs.declared.draft.Draft.TheVariants as draft
use Rattle.conf_request.specs.declared.request.Request.{Request}
use Rattle.conf_request.specs.declared.request.Request.TheVariants.{Solve, Reconfigure, Check}
use Rattle.conf_request.specs.declared.request.Request.TheVariants.{Verify, Gen, Session, Core}

-- the values of options, as bytes
abbrev pub given : GivenWords → Given
given g = record {
  budget = option_copied g.budget;
  log = option_copied g.log;
  order = option_copied g.order;
}

-- a role, with bytes for its value
abbrev pub role_of : WordRole → Role
role_of word.Plain = Plain
role_of word.Closing = Closing
role_of (word.Opening o) = Opening o
role_of (word.Setting o value) = Setting o value.now

-- the plain words that are left
abbrev pub plain : PlainWords → List (List ℕ)
plain p = plain_words p.expected (map string_bytes p.rest.now)

-- the request that a draft is one of
abbrev pub request_of : Draft → Request
request_of (draft.Solve model budget log order) = Solve model.now budget (option_copied log) order
request_of (draft.Reconfigure model former failed budget log order) =
    Reconfigure model.now former.now (plain failed) budget (option_copied log) order
request_of (draft.Check model log) = Check model.now log.now None []
request_of (draft.CheckFormer model log former failed) =
    Check model.now log.now (Some former.now) (plain failed)
request_of (draft.Verify model config) = Verify model.now config.now
request_of (draft.Gen n) = Gen n
request_of (draft.Session model former events budget order) =
    Session model.now former.now events.now budget order
request_of (draft.Core model budget order) = Core model.now budget order
