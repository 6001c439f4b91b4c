-- What words ask for. A reader believes after it: which lists of words are a request, and which
-- request each of them is.
use Rattle.std.specs.Prelude.{ℕ, ◌≡◌, ◌≤◌, Bool, false, not, ◌&&◌, ◌||◌, if◌then◌else◌}
use Rattle.std.specs.Prelude.{nat_eq, nat_le, nat_lt, List, [], ◌∷◌, ◌++◌, length, map, take, String}
use Rattle.std.specs.Prelude.{string_bytes, codes, bytes_eq, Option, Some, None, is_none, IfNone}
use Rattle.std.specs.Prelude.{option_map}
use Rattle.std.specs.Option.{option_and_then, option_map_or}
use Rattle.std.specs.List.{find, list_any, starts_with, position_or_len, before_first, after_first}
use Rattle.std.specs.Str.{byte}
use Rattle.std.specs.declared.alloc.Global.{Global}
use Rattle.command_limits.specs.Limits.{usual_budget, most_budget}
use Rattle.conf_syntax.specs.Spelling.{is_digits, number_of}
use Rattle.conf_syntax.specs.OnlyIf.{some_if}
use Rattle.conf_request.specs.declared.command.Command.{Command}
use Rattle.conf_request.specs.declared.command.Command.TheVariants as command
use Rattle.conf_request.specs.declared.options.OptionName.{OptionName}
use Rattle.conf_request.specs.declared.options.OptionName.TheVariants.{Budget, Log, Order}
use Rattle.conf_request.specs.declared.options.OrderName.{OrderName}
use Rattle.conf_request.specs.declared.options.OrderName.TheVariants as orders
use Rattle.conf_request.specs.declared.scan.Expected.{Expected}
use Rattle.conf_request.specs.declared.scan.Expected.TheVariants as expected
use Rattle.conf_request.specs.declared.request.Request.{Request}
use Rattle.conf_request.specs.declared.request.Request.TheVariants.{Solve, Reconfigure, Check}
use Rattle.conf_request.specs.declared.request.Request.TheVariants.{Verify, Gen, Session, Core}

-- ---- words and options

-- a word that is no option: it doesn't begin with `-`, or is `-` alone
abbrev pub is_plain : List ℕ → Bool
is_plain word = not (starts_with nat_eq word (codes "-")) || bytes_eq word (codes "-")

-- the byte between an option and its value
abbrev pub is_equals : ℕ → Bool
is_equals b = nat_eq b (byte "=")

-- a word up to its first `=`; all of it where it has none
abbrev pub name_part : List ℕ → List ℕ
name_part word = before_first is_equals word

-- what stands behind a word's first `=`
abbrev pub value_part : List ℕ → Option (List ℕ)
value_part word =
    some_if (nat_lt (position_or_len is_equals word) (length word)) (after_first is_equals word)

-- how an option is spelled; none is shortened
abbrev pub option_text : OptionName → List ℕ
option_text Budget = codes "--budget"
option_text Log = codes "--log"
option_text Order = codes "--order"

abbrev pub option_named : List ℕ → Option OptionName
option_named name = find (λ o. bytes_eq name (option_text o)) (Budget ∷ Log ∷ Order ∷ [])

-- ---- what each word is, from left to right

-- what a word is: plain; `--`; an option whose value is the next word; an option and its value, or
-- the value of the option before it
pub data Role : Type 0 where
  Plain : Role
  Closing : Role
  Opening : OptionName → Role
  Setting : OptionName → List ℕ → Role

-- an option with what stands behind its `=`, which isn't empty
abbrev pub option_role : OptionName → Option (List ℕ) → Option Role
option_role o None = Some (Opening o)
option_role o (Some []) = None
option_role o (Some (b ∷ value)) = Some (Setting o (b ∷ value))

-- the role of a word: behind `--` every word is plain, and the value of an option is a plain word
abbrev pub role : Expected → List ℕ → Option Role
role expected.Plain word = Some Plain
role (expected.Value o) word = if is_plain word then Some (Setting o word) else None
role expected.Any word =
    if is_plain word then Some Plain
    else if bytes_eq word (codes "--") then Some Closing
    else option_and_then (λ o. option_role o (value_part word)) (option_named (name_part word))

-- what is expected behind a word
abbrev pub behind : Expected → Role → Expected
behind e Plain = e
behind e Closing = expected.Plain
behind e (Opening o) = expected.Value o
behind e (Setting o value) = expected.Any

-- the word itself where it is plain
abbrev pub plain_part : Role → List ℕ → List (List ℕ)
plain_part Plain word = word ∷ []
plain_part other word = []

-- the plain words, in order, up to a word without a role
abbrev pub plain_words : Expected → List (List ℕ) → List (List ℕ)
plain_words e [] = []
plain_words e (word ∷ words) =
    option_map_or (λ r. plain_part r word ++ plain_words (behind e r) words) (role e word) []

-- the values of the options, as they stand
pub record Given : Type 0 where
  pub budget : Option (List ℕ)
  pub log : Option (List ℕ)
  pub order : Option (List ℕ)

abbrev pub nothing : Given
nothing = record { budget = None; log = None; order = None }

-- an option's value, if it has none before
abbrev pub first_value : Option (List ℕ) → List ℕ → Option (Option (List ℕ))
first_value before value = some_if (is_none before) (Some value)

-- the values with one more, if its option has none before
abbrev pub with_value : OptionName → List ℕ → Given → Option Given
with_value Budget value given =
    option_map (λ v. record given { budget = v }) (first_value given.budget value)
with_value Log value given =
    option_map (λ v. record given { log = v }) (first_value given.log value)
with_value Order value given =
    option_map (λ v. record given { order = v }) (first_value given.order value)

-- the values with the one that a word of this role gives
abbrev pub take_in : Role → Given → Option Given
take_in (Setting o value) given = with_value o value given
take_in other given = Some given

-- the values of the options, each at most once; none where a word has no role or a value is
-- missing
abbrev pub scan : Expected → Given → List (List ℕ) → Option Given
scan expected.Any given [] = Some given
scan expected.Plain given [] = Some given
scan (expected.Value o) given [] = None
scan e given (word ∷ words) =
    option_and_then (λ r. option_and_then (λ more. scan (behind e r) more words) (take_in r given))
    (role e word)

-- ---- numbers and orders

-- the value of a word of at most so many digits, if it lies between the bounds
abbrev pub number_within : ℕ → ℕ → ℕ → List ℕ → Option ℕ
number_within digits least most word =
    some_if (is_digits word && nat_le (length word) digits
    && nat_le least (number_of word) && nat_le (number_of word) most) (number_of word)

-- how many decisions a search may take
abbrev pub budget_of : Option (List ℕ) → Option ℕ
budget_of word = option_map_or (number_within 7 0 most_budget) word (Some usual_budget)

-- an order by its name
abbrev pub order_named : List ℕ → Option OrderName
order_named word =
    if bytes_eq word (codes "first") then Some orders.First
    else if bytes_eq word (codes "small") then Some orders.Small
    else if bytes_eq word (codes "former") then Some orders.Former
    else None

abbrev pub order_of : OrderName → Option (List ℕ) → Option OrderName
order_of usual word = option_map_or order_named word (Some usual)

-- ---- what a command asks for, of its plain words and options

abbrev pub has_none : Given → Bool
has_none given = is_none given.budget && is_none given.log && is_none given.order

-- the log's file is one of the first two words, which are the files that are read
abbrev pub is_read : Option (List ℕ) → List (List ℕ) → Bool
is_read log plain = option_map_or (λ l. list_any (bytes_eq l) (take 2 plain)) log false

-- a search, where its budget and its order are known
abbrev pub searched : (ℕ → OrderName → Request) → Option ℕ → Option OrderName → Option Request
searched make (Some budget) (Some order) = Some (make budget order)
searched make budget order = None

-- which plain words and options a command has, and its order where none is named; no log is written
-- over a file that is read
abbrev pub asked : Command → List (List ℕ) → Given → Option Request
asked command.Solve (model ∷ []) given =
    if is_read given.log (model ∷ []) then None
    else searched (λ budget order. Solve model budget given.log order) (budget_of given.budget)
    (order_of orders.First given.order)
asked command.Reconfigure (model ∷ former ∷ failed) given =
    if is_read given.log (model ∷ former ∷ failed) then None
    else searched (λ budget order. Reconfigure model former failed budget given.log order)
    (budget_of given.budget) (order_of orders.Former given.order)
asked command.Check (model ∷ log ∷ []) given =
    if has_none given then Some (Check model log None []) else None
asked command.Check (model ∷ log ∷ former ∷ failed) given =
    if has_none given then Some (Check model log (Some former) failed) else None
asked command.Verify (model ∷ config ∷ []) given =
    if has_none given then Some (Verify model config) else None
asked command.Gen (word ∷ []) given =
    if has_none given then option_map Gen (number_within 3 1 100 word) else None
asked command.Session (model ∷ former ∷ events ∷ []) given =
    if is_none given.log
    then searched (Session model former events) (budget_of given.budget)
    (order_of orders.Former given.order) else None
asked command.Core (model ∷ []) given =
    if is_none given.log
    then searched (Core model) (budget_of given.budget) (order_of orders.First given.order)
    else None
asked command plain given = None

-- ---- requests

-- how a command is spelled
abbrev pub command_text : Command → List ℕ
command_text command.Solve = codes "solve"
command_text command.Reconfigure = codes "reconfigure"
command_text command.Check = codes "check"
command_text command.Verify = codes "verify"
command_text command.Gen = codes "gen"
command_text command.Session = codes "session"
command_text command.Core = codes "core"

abbrev pub commands : List Command
commands =
    command.Solve ∷ command.Reconfigure ∷ command.Check ∷ command.Verify ∷ command.Gen
    ∷ command.Session ∷ command.Core ∷ []

abbrev pub command_named : List ℕ → Option Command
command_named word = find (λ c. bytes_eq word (command_text c)) commands

-- what words ask for: the first word is the command, those behind it are plain
-- words and options
abbrev pub parsed : List (List ℕ) → Option Request
parsed [] = None
parsed (word ∷ words) =
    option_and_then (λ c. option_and_then (asked c (plain_words expected.Any words))
    (scan expected.Any nothing words)) (command_named word)

-- what the words behind the program's name ask for
unfoldable pub request : List (String Global) → Option Request
request words = parsed (map string_bytes words)

-- the name of the model's file; `gen` makes its own model
abbrev pub model_file : Request → Option (List ℕ)
model_file (Solve model budget log order) = Some model
model_file (Reconfigure model former failed budget log order) = Some model
model_file (Check model log former failed) = Some model
model_file (Verify model config) = Some model
model_file (Gen n) = None
model_file (Session model former events budget order) = Some model
model_file (Core model budget order) = Some model

-- what the numbers of any request are, and that nothing failed where no former file is named
abbrev pub IsLawful : Request → Type 0
IsLawful (Solve model budget log order) = budget ≤ most_budget
IsLawful (Reconfigure model former failed budget log order) = budget ≤ most_budget
IsLawful (Check model log former failed) = IfNone former (failed ≡ [])
IsLawful (Verify model config) = Unit {0}
IsLawful (Gen n) = (1 ≤ n) × (n ≤ 100)
IsLawful (Session model former events budget order) = budget ≤ most_budget
IsLawful (Core model budget order) = budget ≤ most_budget
