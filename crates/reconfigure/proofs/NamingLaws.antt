-- The objects that some words name, a word more.
use Rattle.std.proofs.Common.{◌≡◌, ℕ, ◌+◌, ◌<◌, List, [], ◌∷◌, ◌++◌, Option, None, Some, length, take, get_or, refl, sym, ap, ◌∙◌}
use Rattle.std.specs.List.{cons_option, filter_map}
use Rattle.std.specs.Option.{option_to_list}
use Rattle.std.proofs.lemmas.List.{take_more}
use Rattle.std.proofs.lemmas.List.Elements.{filter_map-append}
use Rattle.class_table.specs.Outline.{Outline}
use Rattle.object_alloc.specs.Paths.{object_named}
use Rattle.reconfigure.specs.Failing.{objects_named}

one_of : (r : Option ℕ) → cons_option r [] ≡ option_to_list r
one_of None = refl
one_of (Some n) = refl

pub named_next : (o : Outline) (ws : List (List ℕ)) (i : ℕ) (w : List ℕ) → i < length ws → w ≡ get_or ws i w → objects_named o (take (i + 1) ws) ≡ objects_named o (take i ws) ++ option_to_list (object_named o w)
named_next o ws i w lt e =
    ap (filter_map (object_named o)) (take_more ws i w lt)
    ∙ ap (λ (x : List ℕ). filter_map (object_named o) (take i ws ++ x ∷ [])) (sym e)
    ∙ filter_map-append (object_named o) (take i ws) (w ∷ [])
    ∙ ap (λ ns. objects_named o (take i ws) ++ ns) (one_of (object_named o w))
