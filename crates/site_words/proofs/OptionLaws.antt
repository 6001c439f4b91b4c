-- Options, word by word.
use Rattle.std.proofs.Common.{◌≡◌, ◌<◌, ℕ, List, [], ◌∷◌, length, map, Option, None, Some, refl, arith}
use Rattle.site_words.specs.Words.{Options, options, with_option}

pub none_found : (ws : List (List ℕ)) → None ≡ options None ws
unfolding options
none_found ws = refl

pub no_words : (o : Options) → Some o ≡ options (Some o) []
unfolding options
no_words o = refl

pub lone_word : (o : Options) (w : List ℕ) → None ≡ options (Some o) (w ∷ [])
unfolding options
lone_word o w = refl

pub one_more : (o : Options) (next all : Option Options) (w v : List ℕ) (ws : List (List ℕ))
    → next ≡ with_option o w v → all ≡ options next ws → all ≡ options (Some o) (w ∷ v ∷ ws)
unfolding options
one_more o next all w v ws e h = rw e at h

-- no words are left
pub lone_of : {A : Type 0} (o : Options) (w : List ℕ) (f : A → List ℕ) (xs : List A)
    → length xs < 1 → None ≡ options (Some o) (w ∷ map f xs)
lone_of o w f [] h = lone_word o w
lone_of o w f (x ∷ xs) h = absurd (omega (arith, h))

pub none_left : {A : Type 0} (o : Options) (f : A → List ℕ) (xs : List A) → length xs < 1
    → Some o ≡ options (Some o) (map f xs)
none_left o f [] h = no_words o
none_left o f (x ∷ xs) h = absurd (omega (arith, h))
