-- Names that are compared by their bytes.
use Rattle.std.proofs.Common.{◌≡◌, List, ℕ, true, false, refl, sym, ◌∙◌, bytes_eq}
use Rattle.std.proofs.lemmas.Bool.Decides.{not_from_Decides}
use Rattle.std.proofs.lemmas.Slice.Eq.{bytes_eq-Decides}

pub same_name : (name : List ℕ) → bytes_eq name name ≡ true
same_name name = (bytes_eq-Decides name name).1 refl

-- two names that are one in bytes
pub name_is : (a b : List ℕ) → bytes_eq a b ≡ true → a ≡ b
name_is a b = (bytes_eq-Decides a b).0

-- a name that is not a second one is not a third that the second is
pub not_both :
    (a name other : List ℕ) → bytes_eq a name ≡ false → bytes_eq a other ≡ true
    → bytes_eq name other ≡ true → ⊥
not_both a name other differ one two =
    not_from_Decides (bytes_eq a name) (bytes_eq-Decides a name) differ (name_is a other one ∙ sym (name_is name other two))
