-- The mentions of each word, as a map of the program keeps them.
use Rattle.std.specs.Prelude.{ℕ, Bool, false, if◌then◌else◌, Vec, List, [], ◌∷◌, ◌++◌, Option, None, Some, map, nat_eq}
use Rattle.std.specs.Borrow.{Bor}
use Rattle.std.specs.Cmp.Lexicographic.{pointwise}
use Rattle.std.specs.Map.{lookup}
use Rattle.view_leaves.specs.Paths.{Path}
use Rattle.view_picture.specs.declared.mentions.Mention.{Mention}
use Rattle.view_picture.specs.Mentions.{is_named, owner}
use Rattle.view_picture.specs.Views.{path_seen}

abbrev pub mention_seen : Mention → ℕ × Path
mention_seen m = (m.number, path_seen m.guest)

-- whether two words are the same
abbrev pub is_one : List ℕ → List ℕ → Bool
is_one v w = pointwise nat_eq v w

abbrev pub those : {A : Type 0} → Option (Vec Mention A) → List (ℕ × Path)
those None = []
those (Some ms) = map mention_seen ms.items

-- what is kept for a word
abbrev pub found : {A : Type 0} → List (Bor (List ℕ) × Vec Mention A) → List ℕ → List (ℕ × Path)
found es w = those (lookup (λ k. is_one w k.now) es)

abbrev pub mentioned : {A : Type 0} → List (Bor (List ℕ) × Vec Mention A) → Bor (List ℕ) → List (ℕ × Path)
mentioned es w = found es w.now

abbrev pub mention_paths : List (ℕ × Path) → List Path
mention_paths ms = map (λ (m : ℕ × Path). m.1) ms

-- whether the last of them has this number
abbrev pub is_noted : List (ℕ × Path) → ℕ → Bool
is_noted [] n = false
is_noted (m ∷ []) n = nat_eq m.0 n
is_noted (m ∷ l ∷ ms) n = is_noted (l ∷ ms) n

-- one more, where the last isn't of the same leaf
abbrev pub with_mention : List (ℕ × Path) → ℕ × Path → List (ℕ × Path)
with_mention ms m = if is_noted ms m.0 then ms else ms ++ m ∷ []

abbrev pub guest_by : List ℕ → Path → Option Path
guest_by a p = if is_named a p then Some (owner p) else None
