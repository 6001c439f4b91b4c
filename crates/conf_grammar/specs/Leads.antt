-- What a reader of a part does, whatever stands around the part.
use Rattle.std.specs.Prelude.{◌≡◌, ◌≤◌, ◌+◌, ℕ, List, [], ◌∷◌, length, max, Bool, false, cond, Option, None, Some}
use Rattle.model_limits.specs.Limits.{most_nesting}
use Rattle.conf_syntax.specs.declared.token.Token.{Token}
use Rattle.conf_syntax.specs.declared.token.Token.TheVariants.{Word}
use Rattle.conf_syntax.specs.Plain.{Tree, nest, nesting, exprs_nest}
use Rattle.conf_grammar.specs.declared.piece.Piece.{Piece}
use Rattle.conf_grammar.specs.Machine.{Home, Ground, Lone, Inner, GoalOf, Frame, InRight, InUnder, InRound, InOver, InFilter, InFirst, InSingle, InThen, State, Need, Have, Next, slots, goes, takes, home_done, Outcome, Whole, Wrong, Deep, reading}

-- how deep the other parts of a frame's tree are
abbrev pub side : Frame → ℕ
side (InRight o l) = nest l
side (InUnder s) = 0
side InRound = 0
side (InOver k w) = 1
side (InFilter h) = max (nest h) 1
side (InFirst h) = nest h
side (InSingle h) = nest h
side (InThen b) = nest b

-- how deep the rest of the program is
abbrev pub ground_base : Ground → ℕ
ground_base (Lone h) = nesting (home_done h)
ground_base (Inner h es) = max (nesting (home_done h)) (exprs_nest es)
ground_base (GoalOf p m) = nesting p

abbrev pub base : List Frame → Ground → ℕ
base [] p = ground_base p
base (f ∷ fs) p = max (base fs p) (length fs + 1 + side f)

-- the hole wants a level of at least `least`, and has room for a nesting of `room`
pub record Fits (p : Ground) (fs : List Frame) (least room : ℕ) : Type 0 where
  pub slot_is : slots fs ≡ least
  pub deep : length fs + room ≡ most_nesting
  pub low : base fs p ≤ most_nesting

abbrev pub Place : Type 0
Place = Ground → List Frame → State

-- the state behind a tree
abbrev pub at : Tree → Place
at v = λ p fs. Have p fs v

-- within a frame
abbrev pub need_in : Frame → Place
need_in f = λ p fs. Need p (f ∷ fs)

abbrev pub have_in : Frame → Tree → Place
have_in f v = λ p fs. Have p (f ∷ fs) v

-- behind bodies
abbrev pub next_at : Tree → Place
next_at b = λ p fs. Next p fs b

-- one place with its tokens is as good as the other with its own
pub record Leads (least room : ℕ) (s : Place) (tokens : List Token) (s' : Place) (rest : List Token) : Type 0 where
  pub is : (p : Ground) (fs : List Frame) → Fits p fs least room → reading tokens most_nesting
      (s p fs) ≡ reading rest most_nesting (s' p fs)

-- an outcome, with the number of tokens that are left
pub data Shown : Type 0 where
  WholeAt : Shown
  WrongAt : ℕ → Shown
  DeepAt : ℕ → Shown

abbrev pub shown : Outcome → Shown
shown (Whole p) = WholeAt
shown (Wrong rest) = WrongAt (length rest)
shown (Deep rest) = DeepAt (length rest)

pub record Refuses (least room : ℕ) (s : Place) (tokens : List Token) (out : Shown) : Type 0 where
  pub is : (p : Ground) (fs : List Frame) → Fits p fs least room
      → shown (reading tokens most_nesting (s p fs)) ≡ out

-- whether the rest goes on with a tree
abbrev pub goes_on : ℕ → ℕ → List Token → Bool
goes_on least n [] = false
goes_on least n (token ∷ rest) = goes least n token

-- Declarations: what stands around them is a home or a program that isn't too deep

pub record Turns {A : Type 0} (low : A → ℕ) (s : A → State) (tokens : List Token) (s' : A → State) (rest : List Token) : Type 0 where
  pub is : (a : A) → low a ≤ most_nesting → reading tokens most_nesting (s a)
      ≡ reading rest most_nesting (s' a)

pub record Fails {A : Type 0} (low : A → ℕ) (s : A → State) (tokens : List Token) (out : Shown) : Type 0 where
  pub is : (a : A) → low a ≤ most_nesting → shown (reading tokens most_nesting (s a)) ≡ out

abbrev pub home_low : Home → ℕ
home_low h = nesting (home_done h)

-- where a row of wanted pieces is missed, by the number of tokens that are left
abbrev pub missed : List Piece → List Token → Option ℕ
missed [] tokens = None
missed (w ∷ ws) [] = Some 0
missed (w ∷ ws) (token ∷ rest) =
    cond (takes w token) (missed ws rest) (Some (length (token ∷ rest)))

-- the first token is another
abbrev pub IsNot : Token → List Token → Type 0
IsNot token [] = Unit {0}
IsNot token (x ∷ rest) = x ≡ token → ⊥

abbrev pub IsNotWord : List Token → Type 0
IsNotWord [] = Unit {0}
IsNotWord (Word w ∷ rest) = ⊥
IsNotWord (x ∷ rest) = Unit {0}
