-- Which node derives from which. A node is a number, and `up` gives its parent. Of n nodes an
-- ancestor is at most n steps away.
use Rattle.std.specs.Prelude.{ℕ, zero, suc, Bool, false, ◌||◌, Option, nat_eq}
use Rattle.std.specs.Option.{option_map_or}

-- d is c, or an ancestor of c that at most n steps reach
abbrev pub derives : (ℕ → Option ℕ) → ℕ → ℕ → ℕ → Bool
derives up zero c d = nat_eq c d
derives up (suc n) c d = nat_eq c d || option_map_or (λ parent. derives up n parent d) (up c) false

-- c derives from itself
abbrev pub derives_from_itself : (ℕ → Option ℕ) → ℕ → ℕ → Bool
derives_from_itself up n c = option_map_or (λ parent. derives up n parent c) (up c) false
