-- One step of the search along a path.
use Rattle.std.proofs.Common.{◌≡◌, ℕ, ◌+◌, ◌<◌, ◌^◌, List, ◌∷◌, ◌++◌, Option, Some, length, take, drop, ap, sym, ◌∙◌, subst, arith}
use Rattle.std.proofs.lemmas.List.{take_all, drop-drop}
use Rattle.class_table.specs.Outline.{Outline}
use Rattle.class_table.specs.Sound.{IsSound}
use Rattle.class_table.specs.Named.{IsNamed, dot}
use Rattle.object_alloc.specs.Named.{IsStep, first_place}
use Rattle.object_alloc.specs.Paths.{owner_path, path}
use Rattle.object_alloc.specs.Walk.{objects}
use Rattle.object_alloc.proofs.ChainLaws.{Leads, IsTurn, turn, step_path, walked}
use Rattle.object_alloc.proofs.PlaceLaws.{place_splits}

module _ (o : Outline) (sound : IsSound o) (few : length (objects o) < 2 ^ 32) (text : List ℕ) (from end : ℕ) (owner : Option ℕ) (rest : List ℕ) (is : rest ≡ drop from text) (place : end ≡ first_place dot rest) where
  turned : (named : IsNamed o) (n : ℕ) → Leads o owner (drop from text) n → IsTurn o sound few named owner rest n
  turned named n l = turn o sound few named owner rest n (subst (λ t. Leads o owner t n) (sym is) l)

  turned_step : (named : IsNamed o) (n : ℕ) (l : Leads o owner (drop from text) n) → IsStep o owner (take end rest) (turned named n l).m
  turned_step named n l = subst (λ j. IsStep o owner (take j rest) (turned named n l).m) (sym place) (turned named n l).step

  -- where the owner holds nothing that is named so, no object has the path
  pub no_object : IsNamed o → (n : ℕ) → Leads o owner (drop from text) n → ((m : ℕ) → IsStep o owner (take end rest) m → ⊥) → ⊥
  no_object named n l none = none (turned named n l).m (turned_step named n l)

  module _ (object : ℕ) (step : IsStep o owner (take end rest) object) where
    -- at the path's end
    pub path_ends : end ≡ length rest → text ≡ owner_path (path o) owner ++ drop from text → path o object ≡ text
    path_ends e whole = step_path o owner (take end rest) object step ∙ ap (λ t. owner_path (path o) owner ++ t) (take_all end rest (omega (arith, e)) ∙ is) ∙ sym whole

    pub object_ends : IsNamed o → (n : ℕ) → end ≡ length rest → Leads o owner (drop from text) n → ((m : ℕ) → IsStep o owner (take end rest) m → object ≡ m) → object ≡ n
    object_ends named n e l only = only (turned named n l).m (turned_step named n l) ∙ (turned named n l).ends (sym place ∙ e)

    -- at a dot
    left_is : drop (end + 1) rest ≡ drop (from + (end + 1)) text
    left_is = ap (drop (end + 1)) is ∙ drop-drop (end + 1) from text

    pub path_goes : end < length rest → text ≡ owner_path (path o) owner ++ drop from text → text ≡ owner_path (path o) (Some object) ++ drop (from + (end + 1)) text
    path_goes lt whole =
        let low : first_place dot rest < length rest = omega (arith, place, lt) in
        let split : rest ≡ take end rest ++ dot ∷ drop (end + 1) rest = place_splits dot rest low ∙ ap (λ j. take j rest ++ dot ∷ drop (j + 1) rest) (sym place) in
        walked o text (drop from text) (take end rest) (drop (from + (end + 1)) text) owner object whole step (sym is ∙ split ∙ ap (λ t. take end rest ++ dot ∷ t) left_is)

    pub object_goes : IsNamed o → (n : ℕ) → end < length rest → Leads o owner (drop from text) n → ((m : ℕ) → IsStep o owner (take end rest) m → object ≡ m) → Leads o (Some object) (drop (from + (end + 1)) text) n
    object_goes named n lt l only =
        let t = turned named n l in
        let same = only t.m (turned_step named n l) in
        let low : first_place dot rest < length rest = omega (arith, place, lt) in
        subst (λ u. Leads o (Some object) u n) (ap (λ j. drop (j + 1) rest) (sym place) ∙ left_is) (subst (λ m. Leads o (Some m) (drop (first_place dot rest + 1) rest) n) (sym same) (t.goes low))
