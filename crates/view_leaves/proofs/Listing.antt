-- One more part of an object, as the walk over it meets it.
use Rattle.std.proofs.Common.{if◌then◌else◌, ◌≡◌, ℕ, List, [], ◌∷◌, ◌++◌, Bool, true, false, Less, string_bytes, string_cmp, String, Global, refl, sym, ap, ◌∙◌, subst, append_assoc}
use Rattle.std.specs.List.Sorted.{IsStrictlySortedBy}
use Rattle.std.specs.List.{AllByRecursion}
use Rattle.std.specs.Map.{keys_of}
use Rattle.serde_json.specs.Data.{Data, Members, member}
use Rattle.serde_json.specs.View.{view, members_view}
use Rattle.serde_json.specs.declared.value.Value.{Value}
use Rattle.view_leaves.specs.Leaves.{PathLeaf, leaves_from, member_leaves, is_class, AreBehind, IsInOrder, MembersInOrder}
use Rattle.view_leaves.specs.Paths.{Path, key}

abbrev pub Entry : Type 0
Entry = String Global × Value

all_behind : (k : String Global) (es : List Entry)
    → AllByRecursion (λ y. string_cmp k y ≡ Less) (keys_of es)
    → AreBehind (string_bytes k) (members_view es)
all_behind k [] h = tt
all_behind k (e ∷ es) h = (h.0, all_behind k es h.1)

keys_behind : (e : Entry) (es : List Entry) → IsStrictlySortedBy string_cmp (keys_of (e ∷ es))
    → AreBehind (string_bytes e.0) (members_view es)
unfolding IsStrictlySortedBy
keys_behind e es h = all_behind e.0 es h.0

keys_left : (e : Entry) (es : List Entry) → IsStrictlySortedBy string_cmp (keys_of (e ∷ es))
    → IsStrictlySortedBy string_cmp (keys_of es)
unfolding IsStrictlySortedBy
keys_left e es h = h.1

chosen : (b : Bool) (xs ys : List PathLeaf) → b ≡ false → (if b then xs else ys) ≡ ys
chosen true xs ys h = absurd cc
chosen false xs ys h = refl

left_out : (b : Bool) (xs ys : List PathLeaf) → b ≡ true → (if b then xs else ys) ≡ xs
left_out true xs ys h = refl
left_out false xs ys h = absurd cc

-- the leaves of a part that was listed
pub part_listed : (was now all : List PathLeaf) (p : Path) (es left : List Entry) (e : Entry)
    → es ≡ e ∷ left → is_class (string_bytes e.0) ≡ false
    → now ≡ was ++ leaves_from (p ++ key (string_bytes e.0) ∷ []) (view e.1)
    → was ++ member_leaves p (members_view es) ≡ all
    → now ++ member_leaves p (members_view left) ≡ all
part_listed was now all p es left e steps other is h =
    let part = leaves_from (p ++ key (string_bytes e.0) ∷ []) (view e.1) in
    let more = member_leaves p (members_view left) in
    ap (λ ls. ls ++ more) is ∙ append_assoc was part more
    ∙ ap (λ ls. was ++ (ls ++ more)) (sym (chosen (is_class (string_bytes e.0)) [] part other))
    ∙ subst (λ ms. was ++ member_leaves p (members_view ms) ≡ all) steps h

-- the class, which has no leaves
pub class_passed : (was all : List PathLeaf) (p : Path) (es left : List Entry) (e : Entry)
    → es ≡ e ∷ left → is_class (string_bytes e.0) ≡ true
    → was ++ member_leaves p (members_view es) ≡ all
    → was ++ member_leaves p (members_view left) ≡ all
class_passed was all p es left e steps same h =
    let part = leaves_from (p ++ key (string_bytes e.0) ∷ []) (view e.1) in
    let more = member_leaves p (members_view left) in
    ap (λ ls. was ++ (ls ++ more)) (sym (left_out (is_class (string_bytes e.0)) [] part same))
    ∙ subst (λ ms. was ++ member_leaves p (members_view ms) ≡ all) steps h

-- the order of what is left and of this part gives that of both
pub order_left : (all : Members) (es left : List Entry) (e : Entry) → es ≡ e ∷ left
    → IsStrictlySortedBy string_cmp (keys_of es)
    → (is_class (string_bytes e.0) ≡ false → IsInOrder (view e.1))
    → (MembersInOrder (members_view es) → MembersInOrder all)
    → MembersInOrder (members_view left) → MembersInOrder all
order_left all es left e steps sorted part h more =
    h (subst (λ ms. MembersInOrder (members_view ms)) (sym steps) (
      keys_behind e left (subst (λ ms. IsStrictlySortedBy string_cmp (keys_of ms)) steps sorted),
      part,
      more,
    ))

pub sorted_left : (es left : List Entry) (e : Entry) → es ≡ e ∷ left
    → IsStrictlySortedBy string_cmp (keys_of es) → IsStrictlySortedBy string_cmp (keys_of left)
sorted_left es left e steps sorted =
    keys_left e left (subst (λ ms. IsStrictlySortedBy string_cmp (keys_of ms)) steps sorted)
