-- Which kinds a list of propagators handles.
use Rattle.std.specs.Prelude.{◌≡◌, ℕ, ◌<◌, Bool, true, false, ◌||◌, List, [], ◌∷◌}
use Rattle.ground_form.specs.declared.kind.Kind.{Kind}
use Rattle.ground_form.specs.declared.kind.Kind.TheVariants as kind

-- some of the tests passes the kind
abbrev pub covers : List (Kind → Bool) → Kind → Bool
covers [] k = false
covers (f ∷ fs) k = f k || covers fs k

-- all do together
abbrev pub CoversAll : List (Kind → Bool) → Type 0
CoversAll fs = (k : Kind) → covers fs k ≡ true

-- the kinds by number
abbrev pub rank : Kind → ℕ
rank kind.LinLe = 0
rank kind.LinDef = 1
rank kind.ReifLe = 2
rank kind.AndDef = 3
rank kind.MemberDef = 4
rank kind.EqDef = 5
rank kind.ElementDef = 6
rank kind.CondDef = 7
rank kind.ClauseCon = 8
rank kind.AllDiff = 9
rank kind.Pack = 10

-- k is the least kind that no test passes
pub record IsLeastMissing (fs : List (Kind → Bool)) (k : Kind) : Type 0 where
  pub missing : covers fs k ≡ false
  pub least : (j : Kind) → rank j < rank k → covers fs j ≡ true
