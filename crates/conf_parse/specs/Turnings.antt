-- What the readers of declarations answer: from one state of the machine to another, whatever
-- stands around them.
use Rattle.std.specs.Prelude.{◌≡◌, ℕ, List, [], Bool, Option}
use Rattle.model_limits.specs.Limits.{most_nesting}
use Rattle.conf_syntax.specs.declared.token.Key.TheVariants as key
use Rattle.conf_syntax.specs.declared.token.Token.{Token}
use Rattle.conf_syntax.specs.declared.token.Token.TheVariants.{Key}
use Rattle.conf_syntax.specs.declared.tree.VarDecl.{VarDecl}
use Rattle.conf_syntax.specs.Plain.{End, Shape, Values, Exprs, Member, Members, Var, Item, Program, With, Tree}
use Rattle.conf_syntax.specs.Views.{shape_of}
use Rattle.conf_grammar.specs.Machine.{Home, Outside, InClass, Ground, HomeAt, Enums, ClassHead, ShapeAt, HighAt, CountAt, BracesAt, State, At, Need, home_with, ground_ends, reading, start}
use Rattle.conf_grammar.specs.Leads.{Shown, shown, Fails, WrongAt, DeepAt, IsNot, home_low}
use Rattle.conf_parse.specs.declared.stop.Stop.{Stop}
use Rattle.conf_parse.specs.declared.stop.Stop.TheVariants.{Syntax, TooDeep, Memory}

abbrev pub IsTurnError : {A : Type 0} → (A → ℕ) → (A → State) → List Token → Stop → Type 0
IsTurnError low s tokens (Syntax left) = Fails low s tokens (WrongAt left)
IsTurnError low s tokens (TooDeep left) = Fails low s tokens (DeepAt left)
IsTurnError low s tokens Memory = Unit {0}

-- the error is the one that the tokens have there
pub record TurnErrs {A : Type 0} (low : A → ℕ) (s : A → State) (tokens : List Token) (e : Stop) : Type 0 where
  pub is : IsTurnError low s tokens e

abbrev pub OnStop : Shown → Stop → Type 0
OnStop s (Syntax left) = s ≡ WrongAt left
OnStop s (TooDeep left) = s ≡ DeepAt left
OnStop s Memory = Unit {0}

-- the error of the whole
pub record IsFault (tokens : List Token) (e : Stop) : Type 0 where
  pub is : OnStop (shown (reading tokens most_nesting start)) e

-- a home and the name that is declared in it
pub record Naming : Type 0 where
  pub home : Home
  pub name : List ℕ

abbrev pub naming_low : Naming → ℕ
naming_low a = home_low a.home

abbrev pub shape_at : Naming → State
shape_at a = At (ShapeAt a.home a.name)

abbrev pub high_at : End → Naming → State
high_at low a = At (HighAt a.home a.name low)

abbrev pub count_at : Bool → List ℕ → Naming → State
count_at r v a = At (CountAt a.home a.name r v)

abbrev pub var_end : Shape → Naming → State
var_end s a = At (HomeAt (home_with a.home (Var a.name s)))

abbrev pub home_at : Home → State
home_at h = At (HomeAt h)

abbrev pub home_and : Member → Home → State
home_and m h = At (HomeAt (home_with h m))

abbrev pub braces_at : Exprs → Home → State
braces_at es h = At (BracesAt h es)

abbrev pub var_of : VarDecl → Member
var_of v = Var v.name.name (shape_of v.shape)

-- an expression of its own
abbrev pub need_at : Ground → State
need_at p = Need p []

abbrev pub ground_and : Tree → Ground → State
ground_and v p = At (ground_ends p v)

abbrev pub program_at : Program → State
program_at p = At (HomeAt (Outside p))

abbrev pub program_and : Item → Program → State
program_and i p = At (HomeAt (Outside (With p i)))

abbrev pub enums_at : List ℕ → Values → Program → State
enums_at w vs p = At (Enums p w vs)

abbrev pub class_at : Bool → List ℕ → Program → State
class_at a w p = At (ClassHead p a w)

abbrev pub in_class : Bool → List ℕ → Option (List ℕ) → Members → Program → State
in_class a w o ms p = At (HomeAt (InClass p a w o ms))

-- no member of a class begins with the tokens
pub record IsNoMember (tokens : List Token) : Type 0 where
  pub var : IsNot (Key key.Var) tokens
  pub where_key : IsNot (Key key.Where) tokens
