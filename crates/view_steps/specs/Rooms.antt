-- What each holder can still take.
use Rattle.std.specs.Prelude.{ℕ, ℤ, pos, ◌-ℤ◌, Bool, true, ◌&&◌, ◌||◌, if◌then◌else◌, int_le, Vec, List, [], ◌∷◌, Option, None, Some, map, nat_eq, option_map, bytes_eq}
use Rattle.std.specs.Borrow.{Bor}
use Rattle.std.specs.Cmp.Lexicographic.{pointwise}
use Rattle.std.specs.Map.{lookup}
use Rattle.view_leaves.specs.Paths.{Path}
use Rattle.view_picture.specs.Parts.{parts}
use Rattle.view_picture.specs.Picture.{PictureLoad, PictureSize, number_at}
use Rattle.view_steps.specs.Steps.{Site, load, spelled}

abbrev pub Room : Type 0
Room = Option ℤ

-- the rooms of a holder behind these moves, where a part is spelled so
abbrev pub room_of : Site → List Path → List ℕ → Path → PictureSize → Room
room_of site made w p size =
    option_map (λ c. c -ℤ load site made w size) (number_at site.whole size.capacity p)

abbrev pub rooms : Site → List Path → List ℕ → Option (List Room)
rooms site made w =
    option_map (λ p. map (room_of site made w p) site.sizes) (spelled (parts site.new) w)

-- ---- what is put somewhere

abbrev pub allowed : Room → ℤ → Bool
allowed None v = true
allowed (Some r) v = int_le v r || int_le v (pos 0)

abbrev pub taken : Room → ℤ → Room
taken r v = option_map (λ x. x -ℤ v) r

abbrev pub first : List ℤ → ℤ
first [] = pos 0
first (v ∷ vs) = v

abbrev pub rest : List ℤ → List ℤ
rest [] = []
rest (v ∷ vs) = vs

abbrev pub all_allowed : List Room → List ℤ → Bool
all_allowed [] vs = true
all_allowed (r ∷ rs) vs = allowed r (first vs) && all_allowed rs (rest vs)

abbrev pub all_taken : List Room → List ℤ → List Room
all_taken [] vs = []
all_taken (r ∷ rs) vs = taken r (first vs) ∷ all_taken rs (rest vs)

-- ---- the map of them

abbrev pub Entries : Type 0 → Type 0
Entries A = List (Bor (List ℕ) × Vec Room A)

abbrev pub is_one : List ℕ → List ℕ → Bool
is_one v w = pointwise nat_eq v w

abbrev pub found : {A : Type 0} → Entries A → List ℕ → Option (List Room)
found es w = option_map (λ v. v.items) (lookup (λ k. is_one w k.now) es)

abbrev pub some_allowed : Option (List Room) → List ℤ → Bool
some_allowed None vs = true
some_allowed (Some rs) vs = all_allowed rs vs

abbrev pub some_taken : Option (List Room) → List ℤ → Option (List Room)
some_taken rs vs = option_map (λ x. all_taken x vs) rs

-- whether the holder of a word, if there is one, can take these
abbrev pub word_allowed : {A : Type 0} → Entries A → Option (List ℕ) → List ℤ → Bool
word_allowed es None vs = true
word_allowed es (Some w) vs = some_allowed (found es w) vs

-- ---- from what a part carries

abbrev pub load_room : PictureLoad → Room
load_room l = option_map (λ c. c -ℤ l.sum) l.capacity

abbrev pub first_rooms : List (List ℕ × List PictureLoad) → List ℕ → Option (List Room)
first_rooms [] w = None
first_rooms (s ∷ ss) w = if bytes_eq s.0 w then Some (map load_room s.1) else first_rooms ss w

abbrev pub first_of : Option (List Room) → Option (List Room) → Option (List Room)
first_of (Some a) b = Some a
first_of None b = b
