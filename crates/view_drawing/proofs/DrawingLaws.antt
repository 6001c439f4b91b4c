-- An escaped name can stand in SVG; texts that are written piece by piece.
use Rattle.std.proofs.Common.{rules, ◌≡◌, ℕ, suc, ◌<◌, Bool, true, false, not, ◌&&◌, ◌||◌, ◌==◌, if◌then◌else◌, List, [], ◌∷◌, ◌++◌, length, bytes_eq, codes, map, Bor, refl, sym, ap, ◌∙◌, arith, append_assoc}
use Rattle.std.specs.List.{flat_map, list_any}
use Rattle.view_drawing.specs.Shapes.{escaped_mark, escaped, is_tame, begins_entity}

mark_tame : (lt gt amp quot : Bool) (b : ℕ) (more : List ℕ) → (b == 60) ≡ lt → (b == 62) ≡ gt
    → (b == 38) ≡ amp → (b == 34) ≡ quot → is_tame more ≡ true
    → is_tame (escaped_mark b ++ more) ≡ true
mark_tame true gt amp quot b more h1 h2 h3 h4 h = rw h1 h
mark_tame false true amp quot b more h1 h2 h3 h4 h = rw h1 (rw h2 h)
mark_tame false false true quot b more h1 h2 h3 h4 h = rw h1 (rw h2 (rw h3 h))
mark_tame false false false true b more h1 h2 h3 h4 h = rw h1 (rw h2 (rw h3 (rw h4 h)))
mark_tame false false false false b more h1 h2 h3 h4 h = rw h1 (rw h2 (rw h3 (rw h4 (rw h1 (rw h2 (rw h3 (rw h4 h)))))))

pub escaped_tame : (name : List ℕ) → is_tame (escaped name) ≡ true
escaped_tame [] = refl
escaped_tame (b ∷ name) =
    mark_tame (b == 60) (b == 62) (b == 38) (b == 34) b (escaped name) refl refl refl refl
    (escaped_tame name)

pub words_counted : (ws : List (Bor (List ℕ))) → length (map (λ w. w.now) ws) ≡ length ws
words_counted [] = refl
words_counted (w ∷ ws) = ap suc (words_counted ws)

-- four pieces, and five
pub four_written : (was one two three all : List ℕ) (a b c d : List ℕ) → one ≡ was ++ a
    → two ≡ one ++ b → three ≡ two ++ c → all ≡ three ++ d → all ≡ was ++ (a ++ b ++ c ++ d)
four_written was one two three all a b c d h1 h2 h3 h4 =
    h4 ∙ ap (λ t. t ++ d) (h3 ∙ ap (λ t. t ++ c) (h2 ∙ ap (λ t. t ++ b) h1 ∙ append_assoc was a b)
    ∙ append_assoc was (a ++ b) c) ∙ append_assoc was (a ++ b ++ c) d

pub five_written : (was one two three four all : List ℕ) (a b c d e : List ℕ) → one ≡ was ++ a
    → two ≡ one ++ b → three ≡ two ++ c → four ≡ three ++ d → all ≡ four ++ e
    → all ≡ was ++ (a ++ b ++ c ++ d ++ e)
five_written was one two three four all a b c d e h1 h2 h3 h4 h5 =
    h5 ∙ ap (λ t. t ++ e) (four_written was one two three four a b c d h1 h2 h3 h4)
    ∙ append_assoc was (a ++ b ++ c ++ d) e
