-- From the mentions of a word to who stands there.
use Rattle.std.proofs.Common.{◌≡◌, ℕ, ◌<◌, List, [], ◌∷◌, ◌++◌, Bor, Vec, Option, Some, length, map, refl, sym, ap, ◌∙◌, subst, arith}
use Rattle.std.specs.List.{flat_map}
use Rattle.std.specs.Map.{lookup}
use Rattle.serde_json.specs.Data.{Data}
use Rattle.view_leaves.specs.Leaves.{PathLeaf}
use Rattle.view_leaves.specs.Paths.{Path}
use Rattle.view_leaves.specs.Spelling.{path_text}
use Rattle.view_picture.specs.declared.mentions.Mention.{Mention}
use Rattle.view_picture.specs.Held.{held_at, carried_at}
use Rattle.view_picture.specs.Mentioned.{mention_seen, is_one, those, found, mention_paths}
use Rattle.view_picture.specs.Mentions.{guests, numbered}
use Rattle.view_picture.specs.Picture.{PictureHolding, PictureSize, load_of, carried, holding_of, if_held, guests_at, holdings_among}
use Rattle.view_picture.proofs.MentionLaws.{numbered_guests}

some_held : (d : Data) (sizes : List PictureSize) (p : Path) (ms : List Mention)
    → (length ms ≡ 0 → ⊥)
    → holding_of d sizes p (mention_paths (map mention_seen ms)) ∷ []
    ≡ if_held d sizes p (mention_paths (map mention_seen ms))
some_held d sizes p [] h = absurd (h refl)
some_held d sizes p (m ∷ ms) h = refl

-- a part that is mentioned is held
pub held_here : {A : Type 0} (d : Data) (sizes : List PictureSize) (p : Path)
    (es : List (Bor (List ℕ) × Vec Mention A)) (w : List ℕ) (v : Vec Mention A) (h : PictureHolding)
    → Some v ≡ lookup (λ k. is_one w k.now) es → w ≡ path_text p → (length v.items ≡ 0 → ⊥)
    → h ≡ holding_of d sizes p (mention_paths (map mention_seen v.items))
    → h ∷ [] ≡ held_at d sizes es p
held_here d sizes p es w v h is here some made =
    ap (λ x. x ∷ []) made ∙ some_held d sizes p v.items some
    ∙ ap (λ o. if_held d sizes p (mention_paths (those o))) is
    ∙ ap (λ t. if_held d sizes p (mention_paths (found es t))) here

-- what all the parts hold, by the leaves
pub all_held : {A : Type 0} (d : Data) (a : List ℕ) (sizes : List PictureSize)
    (ls : List PathLeaf) (es : List (Bor (List ℕ) × Vec Mention A))
    → ((w : List ℕ) → found es w ≡ numbered a w 0 ls) → (ps : List Path)
    → flat_map (held_at d sizes es) ps ≡ holdings_among d a sizes ls ps
all_held d a sizes ls es h [] = refl
all_held d a sizes ls es h (p ∷ ps) =
    let same : mention_paths (found es (path_text p)) ≡ guests_at a ls p = ap mention_paths (h (path_text p)) ∙ numbered_guests a (path_text p) 0 ls in
    ap (λ gs. if_held d sizes p gs ++ flat_map (held_at d sizes es) ps) same
    ∙ ap (λ hs. if_held d sizes p (guests_at a ls p) ++ hs) (all_held d a sizes ls es h ps)

-- what all the parts carry, by the leaves
pub all_carried : {A : Type 0} (d : Data) (a : List ℕ) (sizes : List PictureSize)
    (ls : List PathLeaf) (es : List (Bor (List ℕ) × Vec Mention A))
    → ((w : List ℕ) → found es w ≡ numbered a w 0 ls) → (ps : List Path)
    → map (carried_at d sizes es) ps ≡ map (carried d a sizes ls) ps
all_carried d a sizes ls es h [] = refl
all_carried d a sizes ls es h (p ∷ ps) =
    let same : mention_paths (found es (path_text p)) ≡ guests_at a ls p = ap mention_paths (h (path_text p)) ∙ numbered_guests a (path_text p) 0 ls in
    ap (λ gs. (path_text p, map (load_of d p gs) sizes) ∷ map (carried_at d sizes es) ps) same
    ∙ ap (λ xs. carried d a sizes ls p ∷ xs) (all_carried d a sizes ls es h ps)
