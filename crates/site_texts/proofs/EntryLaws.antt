-- What stands under a name in the entries of a map.
use Rattle.std.proofs.Common.{◌≡◌, ℕ, Bool, true, false, cond, if◌then◌else◌, List, [], ◌∷◌, Option, Some, Bor, map, option_map, refl, sym, ap, ◌∙◌}
use Rattle.std.specs.Map.{lookup}
use Rattle.site_names.specs.Meeting.{same_word}
use Rattle.site_texts.specs.Entries.{entry_seen}
use Rattle.site_texts.specs.Pairs.{NamedText, under}

one_seen : (b : Bool) (t : Bor (List ℕ)) (more : Option (Bor (List ℕ)))
    → option_map (λ (u : Bor (List ℕ)). u.now) (cond b (Some t) more)
    ≡ cond b (Some t.now) (option_map (λ (u : Bor (List ℕ)). u.now) more)
one_seen true t more = refl
one_seen false t more = refl

-- it is the text of the entry
pub under_seen : (q : List ℕ) (es : List (List ℕ × Bor (List ℕ)))
    → option_map (λ (u : Bor (List ℕ)). u.now) (lookup (same_word q) es) ≡ under q (map entry_seen es)
under_seen q [] = refl
under_seen q (e ∷ es) =
    one_seen (same_word q e.0) e.1 (lookup (same_word q) es)
    ∙ ap (λ o. cond (same_word q e.0) (Some e.1.now) o) (under_seen q es)

-- one was put under a name
pub under_put : (q key name : List ℕ) (t : Bor (List ℕ)) (es fs : List (List ℕ × Bor (List ℕ)))
    (was : List NamedText) → key ≡ name → map entry_seen es ≡ was
    → lookup (same_word q) fs ≡ cond (same_word key q) (Some t) (lookup (same_word q) es)
    → under q (map entry_seen fs) ≡ (if same_word name q then Some t.now else under q was)
under_put q key name t es fs was named seen h =
    sym (under_seen q fs) ∙ ap (λ o. option_map (λ (u : Bor (List ℕ)). u.now) o) h
    ∙ one_seen (same_word key q) t (lookup (same_word q) es)
    ∙ ap (λ o. cond (same_word key q) (Some t.now) o) (under_seen q es)
    ∙ ap (λ w. cond (same_word w q) (Some t.now) (under q (map entry_seen es))) named
    ∙ ap (λ ps. cond (same_word name q) (Some t.now) (under q ps)) seen

-- it was looked up
pub under_got : (key name : List ℕ) (o : Option (Bor (List ℕ))) (es : List (List ℕ × Bor (List ℕ)))
    (was : List NamedText) → key ≡ name → map entry_seen es ≡ was → o ≡ lookup (same_word key) es
    → option_map (λ (u : Bor (List ℕ)). u.now) o ≡ under name was
under_got key name o es was named seen h =
    ap (λ x. option_map (λ (u : Bor (List ℕ)). u.now) x) h ∙ under_seen key es
    ∙ ap (λ w. under w (map entry_seen es)) named ∙ ap (λ ps. under name ps) seen
