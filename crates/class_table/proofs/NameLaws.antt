-- Names in a map and in lists.
use Rattle.std.proofs.Common.{◌≡◌, ◌++◌, ℕ, Bool, true, false, cond, List, [], ◌∷◌, refl, ap, nat_eq, ◌||◌, true≢false}
use Rattle.std.specs.Cmp.Lexicographic.{pointwise}
use Rattle.std.specs.List.{list_any}
use Rattle.std.specs.Map.{keys_of}
use Rattle.std.proofs.lemmas.Map.Made.{is_some-lookup}
use Rattle.indexmap.specs.IndexMap.{insert_entry}

pub ruleset lookups = (is_some-lookup)

-- a name that isn't there goes last
pub insert_absent : {X : Type 0} (es : List (List ℕ × X)) (w : List ℕ) (v : X) → list_any (pointwise nat_eq w) (keys_of es) ≡ false → insert_entry (pointwise nat_eq) es w v ≡ es ++ (w, v) ∷ []
insert_absent [] w v none = refl
insert_absent (e ∷ es) w v none = by (pointwise nat_eq w e.0) (insert_absent es w v) none
  where
    by : (b : Bool) → (list_any (pointwise nat_eq w) (keys_of es) ≡ false → insert_entry (pointwise nat_eq) es w v ≡ es ++ (w, v) ∷ []) → (b || list_any (pointwise nat_eq w) (keys_of es)) ≡ false → cond b ((e.0, v) ∷ es) (e ∷ insert_entry (pointwise nat_eq) es w v) ≡ (e ∷ es) ++ (w, v) ∷ []
    by true later never = absurd (true≢false never)
    by false later rest = ap (λ l. e ∷ l) (later rest)
