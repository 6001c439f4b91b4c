-- Spans of rows. What a reader believes after this file: a span holds the entries from its begin on
-- that are before its end.
use Rattle.std.specs.Prelude.{ℕ, Bool, ◌&&◌, nat_le, nat_lt}
use Rattle.pack_prop.specs.declared.spans.Span.{Span}

abbrev pub is_in : Span → ℕ → Bool
is_in s e = nat_le s.begin e && nat_lt e s.end
