-- Lists of which one member is replaced.
use Rattle.std.proofs.Common.{◌≡◌, ℕ, zero, suc, List, [], ◌∷◌, map, slice_set, get_or, refl, ap}

-- a member that is replaced by one that f doesn't tell from it
pub map_set : {X Y : Type 0} (f : X → Y) (xs : List X) (i : ℕ) (d y : X) → f y ≡ f (get_or xs i d) → map f (slice_set xs i y) ≡ map f xs
map_set f [] i d y h = refl
map_set f (z ∷ xs) zero d y h = ap (λ w. w ∷ map f xs) h
map_set f (z ∷ xs) (suc i) d y h = ap (λ ws. f z ∷ ws) (map_set f xs i d y h)
