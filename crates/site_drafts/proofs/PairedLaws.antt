-- Services with the hosts at their places are services with their hosts.
use Rattle.std.proofs.Common.{◌≡◌, ℕ, ◌+◌, zero, suc, List, [], ◌∷◌, drop, map, Option, refl, ap, ◌∙◌, add-one}
use Rattle.site_tables.specs.Grid.{GridRow, name_of}
use Rattle.site_drafts.specs.Paired.{host_at, kept_from}

-- what stands first behind so many
first_at : (hosts : List (Option (List ℕ))) (k : ℕ) (h : Option (List ℕ))
    (hs : List (Option (List ℕ))) → drop k hosts ≡ h ∷ hs → host_at hosts k ≡ h
first_at [] zero h hs e = cc
first_at [] (suc k) h hs e = cc
first_at (x ∷ xs) zero h hs e = cc
first_at (x ∷ xs) (suc k) h hs e = first_at xs k h hs e

behind_at : (hosts : List (Option (List ℕ))) (k : ℕ) (h : Option (List ℕ))
    (hs : List (Option (List ℕ))) → drop k hosts ≡ h ∷ hs → drop (suc k) hosts ≡ hs
behind_at [] zero h hs e = cc
behind_at [] (suc k) h hs e = cc
behind_at (x ∷ xs) zero h hs e = cc
behind_at (x ∷ xs) (suc k) h hs e = behind_at xs k h hs e

pub kept_hosts : (f : GridRow → Option (List ℕ)) (rows : List GridRow) (k : ℕ)
    (hosts : List (Option (List ℕ))) → drop k hosts ≡ map f rows
    → kept_from k rows hosts ≡ map (λ r. (name_of r, f r)) rows
kept_hosts f [] k hosts e = refl
kept_hosts f (r ∷ rs) k hosts e =
    let here : host_at hosts k ≡ f r = first_at hosts k (f r) (map f rs) e in
    let more : drop (k + 1) hosts ≡ map f rs = ap (λ n. drop n hosts) (add-one k) ∙ behind_at hosts k (f r) (map f rs) e in
    rw (here, kept_hosts f rs (k + 1) hosts more) refl
