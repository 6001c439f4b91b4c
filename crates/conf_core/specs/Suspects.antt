-- What the searches so far tell of each constraint of a model. What a reader believes after this
-- file: nothing that `find_core` says.
use Rattle.std.specs.Prelude.{◌≡◌, ℕ, suc, Bool, true, false, cond, List, [], ◌∷◌, slice_index_or, slice_set, Contains}
use Rattle.conf_core.specs.declared.suspects.Suspect.{Suspect}
use Rattle.conf_core.specs.declared.suspects.Suspect.TheVariants.{Cleared, Open, Needed, Unsure}

-- it is among those that are to blame
abbrev pub is_kept : Suspect → Bool
is_kept Cleared = false
is_kept Open = true
is_kept Needed = true
is_kept Unsure = true

-- it may still be left out
abbrev pub is_open : Suspect → Bool
is_open Cleared = false
is_open Open = true
is_open Needed = false
is_open Unsure = false

-- a search without it was undecided
abbrev pub is_unsure : Suspect → Bool
is_unsure Cleared = false
is_unsure Open = false
is_unsure Needed = false
is_unsure Unsure = true

-- the indexes of those of which f is so, where the first has index k
abbrev pub marked : (Suspect → Bool) → ℕ → List Suspect → List ℕ
marked f k [] = []
marked f k (s ∷ ss) = cond (f s) (k ∷ marked f (suc k) ss) (marked f (suc k) ss)

-- those of a list are cleared
abbrev pub cleared : List Suspect → List ℕ → List Suspect
cleared ss [] = ss
cleared ss (k ∷ ks) = cleared (slice_set ss k Cleared) ks

-- what is told of a constraint; none is told of one that isn't there
abbrev pub told : List Suspect → ℕ → Suspect
told ss k = slice_index_or ss k Cleared

-- one that is open is settled
abbrev pub settled : List Suspect → ℕ → Suspect → List Suspect
settled ss k one = cond (is_open (told ss k)) (slice_set ss k one) ss

-- it wasn't settled
abbrev pub IsFresh : Suspect → Type 0
IsFresh Cleared = Unit {0}
IsFresh Open = Unit {0}
IsFresh Needed = ⊥
IsFresh Unsure = ⊥

-- it was settled
abbrev pub IsSettled : Suspect → Type 0
IsSettled Cleared = ⊥
IsSettled Open = ⊥
IsSettled Needed = Unit {0}
IsSettled Unsure = Unit {0}

-- none is open
abbrev pub NoneOpen : List Suspect → Type 0
NoneOpen ss = (c : ℕ) → told ss c ≡ Open → ⊥

-- what is open now was open before, and of the rest only what is left is
abbrev pub AreTried : List Suspect → List ℕ → List Suspect → List ℕ → Type 0
AreTried before rest now left =
    (c : ℕ) → told now c ≡ Open → (told before c ≡ Open) × (Contains rest c → Contains left c)
