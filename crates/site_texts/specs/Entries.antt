-- The entries of a map of texts, as names with their texts.
use Rattle.std.specs.Prelude.{ℕ, List}
use Rattle.std.specs.Borrow.{Bor}
use Rattle.site_texts.specs.Pairs.{NamedText}

abbrev pub entry_seen : List ℕ × Bor (List ℕ) → NamedText
entry_seen e = (e.0, e.1.now)
