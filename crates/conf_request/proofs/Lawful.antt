-- That the numbers of any request lie within their bounds.
use Rattle.std.proofs.Common.{ℕ, ◌≡◌, ◌≤◌, Bool, true, false, if◌then◌else◌, List, []}
use Rattle.std.proofs.Common.{◌∷◌, Option, Some, None, IfSome, option_map, refl, arith}
use Rattle.std.proofs.lemmas.Bool.Decides.{nat_tests}
use Rattle.std.specs.Option.{option_and_then, is_none}
use Rattle.conf_syntax.specs.Spelling.{number_of}
use Rattle.conf_request.specs.declared.command.Command.{Command}
use Rattle.conf_request.specs.declared.command.Command.TheVariants as command
use Rattle.conf_request.specs.declared.options.OrderName.{OrderName}
use Rattle.conf_request.specs.declared.options.OrderName.TheVariants as orders
use Rattle.conf_request.specs.declared.scan.Expected.TheVariants as expected
use Rattle.conf_request.specs.declared.request.Request.{Request}
use Rattle.conf_request.specs.declared.request.Request.TheVariants.{Solve, Reconfigure, Check}
use Rattle.conf_request.specs.declared.request.Request.TheVariants.{Verify, Gen, Session, Core}
use Rattle.conf_request.specs.Words.{Given, number_within, budget_of, order_of}
use Rattle.conf_request.specs.Words.{has_none, searched, asked, command_named, plain_words}
use Rattle.conf_request.specs.Words.{is_read, scan, nothing, parsed, IsLawful}

-- of the number of a budget, and of a request, where there is one
abbrev IsBudget : Option ℕ → Type 0
IsBudget o = IfSome o (λ n. n ≤ 1000000)

abbrev IsGood : Option Request → Type 0
IsGood o = IfSome o IsLawful

-- ---- tests and values

if_kept : (test : Bool) (o : Option Request) → IsGood o → IsGood (if test then o else None)
if_kept true o h = h
if_kept false o h = tt

if_left : (test : Bool) (o : Option Request) → IsGood o → IsGood (if test then None else o)
if_left true o h = tt
if_left false o h = h

-- of a value that a test lets pass, P need only hold where the test is true
if_tested : (P : ℕ → Type 0) (test : Bool) (n : ℕ) → (test ≡ true → P n) →
    IfSome (if test then Some n else None) P
if_tested P true n h = h refl
if_tested P false n h = tt

if_then : {A : Type 0} (f : A → Option Request) (o : Option A) → ((x : A) → IsGood (f x)) →
    IsGood (option_and_then f o)
if_then f None h = tt
if_then f (Some x) h = h x

-- ---- numbers

-- the value of a word lies within its bounds
within : (digits least most : ℕ) (word : List ℕ) →
    IfSome (number_within digits least most word) (λ n. (least ≤ n) × (n ≤ most))
within digits least most word =
    if_tested (λ n. (least ≤ n) × (n ≤ most)) _ (number_of word)
    (λ e. (grind (arith, nat_tests), grind (arith, nat_tests)))

upto : (o : Option ℕ) → IfSome o (λ n. (0 ≤ n) × (n ≤ 1000000)) → IsBudget o
upto None h = tt
upto (Some n) h = h.1

budget_within : (o : Option (List ℕ)) → IsBudget (budget_of o)
budget_within None = omega arith
budget_within (Some word) = upto (number_within 7 0 1000000 word) (within 7 0 1000000 word)

-- ---- each command

of_searched : (make : ℕ → OrderName → Request) (budget : Option ℕ) (order : Option OrderName) →
    ((n : ℕ) (o : OrderName) → n ≤ 1000000 → IsLawful (make n o)) → IsBudget budget →
    IsGood (searched make budget order)
of_searched make None order h b = tt
of_searched make (Some n) None h b = tt
of_searched make (Some n) (Some o) h b = h n o b

is_gen : (o : Option ℕ) → IfSome o (λ n. (1 ≤ n) × (n ≤ 100)) → IsGood (option_map Gen o)
is_gen None h = tt
is_gen (Some n) h = h

-- ---- any request

of_asked : (c : Command) (plain : List (List ℕ)) (given : Given) → IsGood (asked c plain given)
of_asked command.Solve [] given = tt
of_asked command.Solve (model ∷ []) given =
    let make : ℕ → OrderName → Request = λ budget order. Solve model budget given.log order in
    if_left (is_read given.log (model ∷ []))
    (searched make (budget_of given.budget) (order_of orders.First given.order))
    (of_searched make (budget_of given.budget) (order_of orders.First given.order) (λ n o h. h)
    (budget_within given.budget))
of_asked command.Solve (model ∷ more ∷ plain) given = tt
of_asked command.Reconfigure [] given = tt
of_asked command.Reconfigure (model ∷ []) given = tt
of_asked command.Reconfigure (model ∷ former ∷ failed) given =
    let make : ℕ → OrderName → Request =
    λ budget order. Reconfigure model former failed budget given.log order in
    if_left (is_read given.log (model ∷ former ∷ failed))
    (searched make (budget_of given.budget) (order_of orders.Former given.order))
    (of_searched make (budget_of given.budget) (order_of orders.Former given.order) (λ n o h. h)
    (budget_within given.budget))
of_asked command.Check [] given = tt
of_asked command.Check (model ∷ []) given = tt
of_asked command.Check (model ∷ log ∷ []) given =
    if_kept (has_none given) (Some (Check model log None [])) refl
of_asked command.Check (model ∷ log ∷ former ∷ failed) given =
    if_kept (has_none given) (Some (Check model log (Some former) failed)) tt
of_asked command.Verify [] given = tt
of_asked command.Verify (model ∷ []) given = tt
of_asked command.Verify (model ∷ config ∷ []) given =
    if_kept (has_none given) (Some (Verify model config)) tt
of_asked command.Verify (model ∷ config ∷ more ∷ plain) given = tt
of_asked command.Gen [] given = tt
of_asked command.Gen (word ∷ []) given =
    if_kept (has_none given) (option_map Gen (number_within 3 1 100 word))
    (is_gen (number_within 3 1 100 word) (within 3 1 100 word))
of_asked command.Gen (word ∷ more ∷ plain) given = tt
of_asked command.Session [] given = tt
of_asked command.Session (model ∷ []) given = tt
of_asked command.Session (model ∷ former ∷ []) given = tt
of_asked command.Session (model ∷ former ∷ events ∷ []) given =
    let make : ℕ → OrderName → Request = Session model former events in
    if_kept (is_none given.log)
    (searched make (budget_of given.budget) (order_of orders.Former given.order))
    (of_searched make (budget_of given.budget) (order_of orders.Former given.order) (λ n o h. h)
    (budget_within given.budget))
of_asked command.Session (model ∷ former ∷ events ∷ more ∷ plain) given = tt
of_asked command.Core [] given = tt
of_asked command.Core (model ∷ []) given =
    let make : ℕ → OrderName → Request = Core model in
    if_kept (is_none given.log)
    (searched make (budget_of given.budget) (order_of orders.First given.order))
    (of_searched make (budget_of given.budget) (order_of orders.First given.order) (λ n o h. h)
    (budget_within given.budget))
of_asked command.Core (model ∷ more ∷ plain) given = tt

good : (words : List (List ℕ)) → IsGood (parsed words)
good [] = tt
good (word ∷ words) =
    let plain : List (List ℕ) = plain_words expected.Any words in
    let given : Option Given = scan expected.Any nothing words in
    if_then (λ c. option_and_then (asked c plain) given) (command_named word)
    (λ c. if_then (asked c plain) given (of_asked c plain))

-- a request that words are is lawful
pub lawful : (words : List (List ℕ)) (r : Request) → parsed words ≡ Some r → IsLawful r
lawful words r e = rw e at (good words)
