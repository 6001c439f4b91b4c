-- Texts that are written one behind the other.
use Rattle.std.proofs.Common.{◌≡◌, ℕ, List, ◌++◌, ap, ◌∙◌, append_assoc}

pub two_added : (old mid new a b : List ℕ) → mid ≡ old ++ a → new ≡ mid ++ b → new ≡ old ++ (a ++ b)
two_added old mid new a b e f = f ∙ (ap (λ xs. xs ++ b) e ∙ append_assoc old a b)

pub three_added : (old m n new a b c : List ℕ) → m ≡ old ++ a → n ≡ m ++ b → new ≡ n ++ c → new ≡ old ++ (a ++ (b ++ c))
three_added old m n new a b c e f g =
    g ∙ (ap (λ xs. xs ++ c) (two_added old m n a b e f) ∙ (append_assoc old (a ++ b) c ∙ ap (λ xs. old ++ xs) (append_assoc a b c)))
