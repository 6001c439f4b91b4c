-- The sets that two sets make: the common values, those that the second lacks, and those of either,
-- each as the list of its ranges; and the two tests that go with them.
use Rattle.std.specs.Prelude.{Bool, cond, [], ◌∷◌, ℤ, pos, ◌+ℤ◌, ◌-ℤ◌, int_le, int_lt}
use Rattle.std.specs.Int.{int_max, int_min}
use Rattle.signed_clause.specs.Ranges.{Ranges, is_nil}

-- the range from low to high, or nothing where it would be empty
abbrev pub piece : ℤ → ℤ → Ranges → Ranges
piece low high rest = cond (int_le low high) ((low, high) ∷ rest) rest

-- what `r ∷ a` has in common with the set, where `rest` gives what a has in common with what is
-- left of it
abbrev pub meet_from : (Ranges → Ranges) → ℤ × ℤ → Ranges → Ranges
meet_from rest r [] = []
meet_from rest r (s ∷ b) =
    piece (int_max r.0 s.0) (int_min r.1 s.1) (cond (int_lt s.1 r.1) (meet_from rest r b)
    (rest (s ∷ b)))

-- the values of both
abbrev pub meet : Ranges → Ranges → Ranges
meet [] b = []
meet (r ∷ a) b = meet_from (meet a) r b

-- no value is in both
abbrev pub is_disjoint : Ranges → Ranges → Bool
is_disjoint a b = is_nil (meet a b)

-- the values of low..high, and then those of a, that the other set lacks; `rest` gives those of a
abbrev pub less_from : (Ranges → Ranges) → ℤ → ℤ → Ranges → Ranges
less_from rest low high [] = piece low high (rest [])
less_from rest low high (s ∷ b) =
    piece low (int_min high (s.0 -ℤ pos 1))
    (cond (int_lt s.1 high) (less_from rest (int_max low (s.1 +ℤ pos 1)) high b) (rest (s ∷ b)))

-- the values of the first that the second lacks
abbrev pub less : Ranges → Ranges → Ranges
less [] b = []
less (r ∷ a) b = less_from (less a) r.0 r.1 b

-- every value of the first is one of the second
abbrev pub is_within : Ranges → Ranges → Bool
is_within a b = is_nil (less a b)

-- the set with low..high added
abbrev pub with_range : ℤ → ℤ → Ranges → Ranges
with_range low high [] = (low, high) ∷ []
with_range low high (s ∷ b) =
    cond (int_lt (s.1 +ℤ pos 1) low) (s ∷ with_range low high b)
    (cond (int_lt (high +ℤ pos 1) s.0) ((low, high) ∷ s ∷ b)
    (with_range (int_min low s.0) (int_max high s.1) b))

-- the values of either
abbrev pub join : Ranges → Ranges → Ranges
join [] b = b
join (r ∷ a) b = with_range r.0 r.1 (join a b)
