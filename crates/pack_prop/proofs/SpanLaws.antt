-- Spans: the entries of a span that are before a number.
use Rattle.std.proofs.Common.{◌≡◌, ℕ, suc, ◌<◌, ◌≤◌, true, false, ◌&&◌, nat_lt, arith}
use Rattle.pack_prop.specs.declared.spans.Span.{Span}
use Rattle.pack_prop.specs.Spans.{is_in}

pub in_here : (s : Span) (n : ℕ) → s.begin ≤ n → n < s.end → (is_in s n && nat_lt n n) ≡ false
in_here s n a b = grind arith

pub in_now : (s : Span) (n : ℕ) → s.begin ≤ n → n < s.end → (is_in s n && nat_lt n (suc n)) ≡ true
in_now s n a b = grind arith

pub in_others : (s : Span) (e n : ℕ) → (e ≡ n → ⊥) → (is_in s e && nat_lt e (suc n)) ≡ (is_in s e && nat_lt e n)
in_others s e n h = grind arith

pub none_in : (s : Span) (e : ℕ) → (is_in s e && nat_lt e s.begin) ≡ false
none_in s e = grind arith

pub all_in : (s : Span) (e n : ℕ) → s.end ≤ n → (is_in s e && nat_lt e n) ≡ is_in s e
all_in s e n h = grind arith
