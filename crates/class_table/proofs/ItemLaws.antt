-- Lists that are made item by item: what is added and what is left make up the whole.
use Rattle.std.proofs.Common.{◌≡◌, ℕ, ◌+◌, ◌<◌, Bool, true, false, true≢false, List, [], ◌∷◌, ◌++◌, length, get_or, drop, map, refl, ap, sym, ◌∙◌, subst, arith, append_assoc}
use Rattle.std.specs.Prelude.{Contains, if◌then◌else◌, not}
use Rattle.std.specs.List.{flat_map, list_any}
use Rattle.std.proofs.lemmas.List.{map-append}
use Rattle.conf_syntax.specs.declared.token.Ident.{Ident}
use Rattle.conf_syntax.specs.OnlyIf.{only_if}
use Rattle.class_table.specs.declared.fault.TableFault.TheVariants.{Duplicate}
use Rattle.class_table.specs.Same.{same_name}
use Rattle.class_table.specs.Outline.{value_name}
use Rattle.class_table.specs.Faults.{repeated}
use Rattle.class_table.proofs.ListLaws.{drop_next}

-- what an item adds stood before what is left
pub flat_added : {X Y Z : Type 0} (f : Y → Z) (g : X → List Y) (xs : List X) (k : ℕ) (x : X) (old new : List Z) → k < length xs → x ≡ get_or xs k x → new ≡ old ++ map f (g x) → new ++ map f (flat_map g (drop (k + 1) xs)) ≡ old ++ map f (flat_map g (drop k xs))
flat_added f g xs k x old new h e added =
    let rest = flat_map g (drop (k + 1) xs) in
    ap (λ n. n ++ map f rest) added
    ∙ append_assoc old (map f (g x)) (map f rest)
    ∙ ap (λ l. old ++ l) (sym (map-append f (g x) rest))
    ∙ ap (λ l. old ++ map f (flat_map g l)) (sym (drop_next xs k x h e))

pub flat_joined : {X Y : Type 0} (g : X → List Y) (xs : List X) (k : ℕ) (x : X) (old new : List Y) → k < length xs → x ≡ get_or xs k x → new ≡ old ++ g x → new ++ flat_map g (drop (k + 1) xs) ≡ old ++ flat_map g (drop k xs)
flat_joined g xs k x old new h e added =
    let rest = flat_map g (drop (k + 1) xs) in
    ap (λ n. n ++ rest) added ∙ append_assoc old (g x) rest ∙ ap (λ l. old ++ flat_map g l) (sym (drop_next xs k x h e))

-- an item that adds nothing
pub flat_same : {X Y : Type 0} (g : X → List Y) (xs : List X) (k : ℕ) (x : X) → k < length xs → x ≡ get_or xs k x → g x ≡ [] → flat_map g (drop (k + 1) xs) ≡ flat_map g (drop k xs)
flat_same g xs k x h e none =
    sym (ap (λ l. l ++ flat_map g (drop (k + 1) xs)) none) ∙ ap (flat_map g) (sym (drop_next xs k x h e))

-- Names that are added where they are new

is_new : (b fresh : Bool) → fresh ≡ not b → fresh ≡ true → b ≡ false
is_new true fresh is on = absurd (true≢false (sym on ∙ is))
is_new false fresh is on = refl

is_old : (b fresh : Bool) → fresh ≡ not b → fresh ≡ false → b ≡ true
is_old true fresh is off = refl
is_old false fresh is off = absurd (true≢false (sym is ∙ off))

-- a name more: with what is left the values and the repeated names are those from it on
pub record IsAdded (is : List Ident) (k : ℕ) (old new : List (List ℕ)) : Type 0 where
  pub values : new ++ map value_name (drop (k + 1) is) ≡ old ++ map value_name (drop k is)
  pub right : repeated (drop (k + 1) is) new ≡ repeated (drop k is) old

pub value_added : (is : List Ident) (k : ℕ) (i : Ident) (w : List ℕ) (old new : List (List ℕ)) (fresh : Bool) → k < length is → i ≡ get_or is k i → w ≡ i.name → fresh ≡ not (list_any (same_name w) old) → fresh ≡ true → new ≡ (if list_any (same_name w) old then old else old ++ w ∷ []) → IsAdded is k old new
value_added is k i w old new fresh h e name fresh_is on new_is =
    let next = drop_next is k i h e in
    let left = drop (k + 1) is in
    let none : list_any (same_name w) old ≡ false = is_new (list_any (same_name w) old) fresh fresh_is on in
    let here : list_any (same_name i.name) old ≡ false = ap (λ x. list_any (same_name x) old) (sym name) ∙ none in
    let added : new ≡ old ++ i.name ∷ [] =
    new_is ∙ ap (λ b. if b then old else old ++ w ∷ []) none ∙ ap (λ x. old ++ x ∷ []) name in
    record {
      values = ap (λ n. n ++ map value_name left) added
          ∙ append_assoc old (i.name ∷ []) (map value_name left)
          ∙ ap (λ l. old ++ map value_name l) (sym next);
      right = ap (repeated left) added
          ∙ sym (ap (λ b. only_if b i.at ++ repeated left (old ++ i.name ∷ [])) here)
          ∙ ap (λ l. repeated l old) (sym next);
    }

-- a name that stands before is repeated
pub value_repeated : (is : List Ident) (k : ℕ) (i : Ident) (w : List ℕ) (old : List (List ℕ)) (all : List ℕ) (fresh : Bool) → k < length is → i ≡ get_or is k i → w ≡ i.name → fresh ≡ not (list_any (same_name w) old) → fresh ≡ false → repeated (drop k is) old ≡ all → Contains (map (λ at. Duplicate at) all) (Duplicate i.at)
value_repeated is k i w old all fresh h e name fresh_is off all_is =
    let rest = repeated (drop (k + 1) is) (old ++ i.name ∷ []) in
    let some : list_any (same_name i.name) old ≡ true =
    ap (λ x. list_any (same_name x) old) (sym name) ∙ is_old (list_any (same_name w) old) fresh fresh_is off in
    let same : i.at ∷ rest ≡ all =
    sym (ap (λ b. only_if b i.at ++ rest) some) ∙ ap (λ l. repeated l old) (sym (drop_next is k i h e)) ∙ all_is in
    subst (λ l. Contains (map (λ at. Duplicate at) l) (Duplicate i.at)) same (0, omega arith, refl)
