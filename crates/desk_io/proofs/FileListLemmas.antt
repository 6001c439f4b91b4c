-- A list of files in which one file is changed or added.
use Rattle.std.proofs.Common.{◌≡◌, ℕ, ◌+◌, ◌-◌, ◌≤◌, List, [], ◌∷◌, ◌++◌, get_or, subst, suc, Bool, true, false, cond, Option, Some, None, set, unwrap_or, bytes_eq, string_bytes, refl, sym, ◌∙◌, ap, inl, inr, arith}
use Rattle.std.proofs.lemmas.Bool.{cases_Bool}
use Rattle.std.specs.List.{position_from}
use mathlib.Core.Path.{fun_ext}
use Rattle.desk_io.specs.Desk.{with_file, with_more}
use Rattle.desk_io.specs.FileList.{Stored, stored, is_named, place_in}
use Rattle.desk_io.proofs.Names.{name_is, not_both}

-- a file in front that has another name than the one that is changed
in_front :
    (first asked : Bool) (x mine old new : Option (List ℕ)) → (first ≡ true → asked ≡ true → ⊥)
    → new ≡ cond asked mine old → cond first x new ≡ cond asked mine (cond first x old)
in_front true true x mine old new apart e = absurd (apart refl refl)
in_front true false x mine old new apart e = refl
in_front false asked x mine old new apart e = e

-- the first file of a name in place of another one of that name
at_front :
    (first asked : Bool) (x mine rest : Option (List ℕ)) → (first ≡ asked)
    → cond asked mine rest ≡ cond asked mine (cond first x rest)
at_front first true x mine rest same = refl
at_front true false x mine rest same = grind (arith, same)
at_front false false x mine rest same = refl

some_is : (a b : ℕ) → Some a ≡ Some b → a ≡ b
some_is a b e = ap (λ o. unwrap_or o 0) e

none_is_not : (a : ℕ) → None ≡ Some a → ⊥
none_is_not a e = grind (arith, e)

all_of : (k : ℕ) → k - 0 ≡ k
all_of k = omega arith

-- a place is not before the start of the search
from_start :
    (files : List Stored) (name : List ℕ) (i k : ℕ) → position_from (is_named name) i files ≡ Some k
    → i ≤ k
from_start [] name i k e = absurd (none_is_not k e)
from_start (x ∷ files) name i k e =
    elim (cases_Bool (is_named name x)) as (λ _. i ≤ k) [
      | inl hit ↦ omega (arith, some_is i k (ap (λ b. cond b (Some i) (position_from (is_named name) (i + 1) files)) (sym hit) ∙ e))
      | inr miss ↦ omega (arith, from_start files name (i + 1) k (ap (λ b. cond b (Some i) (position_from (is_named name) (i + 1) files)) (sym miss) ∙ e))
    ]

-- the first file of a name is changed
stored_in_place :
    (files : List Stored) (file : Stored) (i k : ℕ) (name other : List ℕ)
    → string_bytes file.0 ≡ name → position_from (is_named name) i files ≡ Some k
    → stored (set files (k - i) file) other ≡ cond (bytes_eq name other) (Some file.1.items) (stored files other)
stored_in_place [] file i k name other named e = absurd (none_is_not k e)
stored_in_place (x ∷ files) file i k name other named e =
    let rest = position_from (is_named name) (i + 1) files in
    elim (cases_Bool (is_named name x)) as (λ _. stored (set (x ∷ files) (k - i) file) other ≡ cond (bytes_eq name other) (Some file.1.items) (stored (x ∷ files) other)) [
      | inl hit ↦
          let here : k - i ≡ 0 =
          omega (arith, some_is i k (ap (λ b. cond b (Some i) rest) (sym hit) ∙ e)) in
          ap (λ j. stored (set (x ∷ files) j file) other) here
          ∙ ap (λ n. cond (bytes_eq n other) (Some file.1.items) (stored files other)) named
          ∙ at_front (is_named other x) (bytes_eq name other) (Some x.1.items) (Some file.1.items) (stored files other) (ap (λ n. bytes_eq n other) (name_is (string_bytes x.0) name hit))
      | inr miss ↦
          let later = ap (λ b. cond b (Some i) rest) (sym miss) ∙ e in
          let there : k - i ≡ suc (k - (i + 1)) =
          omega (arith, from_start files name (i + 1) k later) in
          ap (λ j. stored (set (x ∷ files) j file) other) there
          ∙ in_front (is_named other x) (bytes_eq name other) (Some x.1.items) (Some file.1.items) (stored files other) (stored (set files (k - (i + 1)) file) other)
          (not_both (string_bytes x.0) name other miss) (stored_in_place files file (i + 1) k name other named later)
    ]

-- a file is added of which there is none yet
stored_behind :
    (files : List Stored) (file : Stored) (i : ℕ) (name other : List ℕ) → string_bytes file.0 ≡ name
    → position_from (is_named name) i files ≡ None
    → stored (files ++ file ∷ []) other ≡ cond (bytes_eq name other) (Some file.1.items) (stored files other)
stored_behind [] file i name other named e =
    ap (λ n. cond (bytes_eq n other) (Some file.1.items) None) named
stored_behind (x ∷ files) file i name other named e =
    let rest = position_from (is_named name) (i + 1) files in
    elim (cases_Bool (is_named name x)) as (λ _. stored ((x ∷ files) ++ file ∷ []) other ≡ cond (bytes_eq name other) (Some file.1.items) (stored (x ∷ files) other)) [
      | inl hit ↦ absurd (none_is_not i (sym e ∙ ap (λ b. cond b (Some i) rest) hit))
      | inr miss ↦
          in_front (is_named other x) (bytes_eq name other) (Some x.1.items) (Some file.1.items) (stored files other) (stored (files ++ file ∷ []) other)
          (not_both (string_bytes x.0) name other miss) (stored_behind files file (i + 1) name other named (ap (λ b. cond b (Some i) rest) (sym miss) ∙ e))
    ]

-- what stands at the place that was found
at_place :
    (files : List Stored) (i k : ℕ) (name : List ℕ) (other : Stored)
    → position_from (is_named name) i files ≡ Some k
    → (string_bytes (get_or files (k - i) other).0 ≡ name) × (stored files name ≡ Some (get_or files (k - i) other).1.items)
at_place [] i k name other e = absurd (none_is_not k e)
at_place (x ∷ files) i k name other e =
    let rest = position_from (is_named name) (i + 1) files in
    let At : ℕ → Type 0 =
    λ j. (string_bytes (get_or (x ∷ files) j other).0 ≡ name) × (stored (x ∷ files) name ≡ Some (get_or (x ∷ files) j other).1.items) in
    elim (cases_Bool (is_named name x)) as (λ _. At (k - i)) [
      | inl hit ↦
          let here : 0 ≡ k - i =
          omega (arith, some_is i k (ap (λ b. cond b (Some i) rest) (sym hit) ∙ e)) in
          subst At here (name_is (string_bytes x.0) name hit, ap (λ b. cond b (Some x.1.items) (stored files name)) hit)
      | inr miss ↦
          let later = ap (λ b. cond b (Some i) rest) (sym miss) ∙ e in
          let there : suc (k - (i + 1)) ≡ k - i =
          omega (arith, from_start files name (i + 1) k later) in
          let found = at_place files (i + 1) k name other later in
          subst At there (found.0, ap (λ b. cond b (Some x.1.items) (stored files name)) miss ∙ found.1)
    ]

at_first :
    (files : List Stored) (k : ℕ) (name : List ℕ) (other : Stored) → place_in name files ≡ Some k
    → (string_bytes (get_or files k other).0 ≡ name) × (stored files name ≡ Some (get_or files k other).1.items)
at_first files k name other e =
    let At : ℕ → Type 0 =
    λ j. (string_bytes (get_or files j other).0 ≡ name) × (stored files name ≡ Some (get_or files j other).1.items) in
    subst At (all_of k) (at_place files 0 k name other e)

-- the file of a name holds other bytes than before
pub changed :
    (files view : List Stored) (k : ℕ) (name bytes : List ℕ) (old file : Stored) → view ≡ files
    → Some k ≡ place_in name view → old ≡ get_or files k old → file.0 ≡ old.0 → file.1.items ≡ bytes
    → stored (set files k file) ≡ with_file name bytes (stored files)
changed files view k name bytes old file seen found was named holds =
    let place : place_in name files ≡ Some k = ap (place_in name) (sym seen) ∙ sym found in
    let old_name : string_bytes old.0 ≡ name =
    ap (λ f. string_bytes f.0) was ∙ (at_first files k name old place).0 in
    fun_ext (λ other. ap (λ j. stored (set files j file) other) (sym (all_of k))
    ∙ stored_in_place files file 0 k name other (ap string_bytes named ∙ old_name) place
    ∙ ap (λ bs. cond (bytes_eq name other) (Some bs) (stored files other)) holds)

-- the bytes that the file of a name held
old_bytes :
    (files view : List Stored) (k : ℕ) (name : List ℕ) (old : Stored) → view ≡ files
    → Some k ≡ place_in name view → old ≡ get_or files k old → stored files name ≡ Some old.1.items
old_bytes files view k name old seen found was =
    (at_first files k name old (ap (place_in name) (sym seen) ∙ sym found)).1
    ∙ ap (λ f. Some f.1.items) (sym was)

-- the file of a name has more bytes at its end
pub lengthened :
    (files view : List Stored) (k : ℕ) (name piece : List ℕ) (old file : Stored) → view ≡ files
    → Some k ≡ place_in name view → old ≡ get_or files k old → file.0 ≡ old.0
    → file.1.items ≡ old.1.items ++ piece
    → stored (set files k file) ≡ with_more name piece (stored files)
lengthened files view k name piece old file seen found was named holds =
    changed files view k name (old.1.items ++ piece) old file seen found was named holds
    ∙ ap (λ bs. with_file name (unwrap_or bs [] ++ piece) (stored files)) (sym (old_bytes files view k name old seen found was))

rewritten :
    (b : Bool) (bytes now : Option (List ℕ)) → (b ≡ true → now ≡ bytes) → cond b bytes now ≡ now
rewritten true bytes now same = sym (same refl)
rewritten false bytes now same = refl

-- the file of a name holds what it held
pub unchanged :
    (files view : List Stored) (k : ℕ) (name : List ℕ) (old file : Stored) → view ≡ files
    → Some k ≡ place_in name view → old ≡ get_or files k old → file.0 ≡ old.0
    → file.1.items ≡ old.1.items → stored (set files k file) ≡ stored files
unchanged files view k name old file seen found was named holds =
    changed files view k name old.1.items old file seen found was named holds
    ∙ fun_ext (λ other. rewritten (bytes_eq name other) (Some old.1.items) (stored files other)
    (λ one. ap (stored files) (sym (name_is name other one)) ∙ old_bytes files view k name old seen found was))

-- a file was added of which there was none
pub added :
    (files view : List Stored) (name bytes : List ℕ) (file : Stored) (now : List Stored)
    → view ≡ files → None ≡ place_in name view → string_bytes file.0 ≡ name → file.1.items ≡ bytes
    → now ≡ files ++ file ∷ [] → stored now ≡ with_file name bytes (stored files)
added files view name bytes file now seen none named holds pushed =
    let missing : place_in name files ≡ None = ap (place_in name) (sym seen) ∙ sym none in
    ap stored pushed
    ∙ fun_ext (λ other. stored_behind files file 0 name other named missing
    ∙ ap (λ bs. cond (bytes_eq name other) (Some bs) (stored files other)) holds)

missing_bytes :
    (files : List Stored) (i : ℕ) (name : List ℕ) → position_from (is_named name) i files ≡ None
    → stored files name ≡ None
missing_bytes [] i name none = refl
missing_bytes (x ∷ files) i name none =
    let rest = position_from (is_named name) (i + 1) files in
    elim (cases_Bool (is_named name x)) as (λ _. stored (x ∷ files) name ≡ None) [
      | inl hit ↦ absurd (none_is_not i (sym none ∙ ap (λ b. cond b (Some i) rest) hit))
      | inr miss ↦
          ap (λ b. cond b (Some x.1.items) (stored files name)) miss
          ∙ missing_bytes files (i + 1) name (ap (λ b. cond b (Some i) rest) (sym miss) ∙ none)
    ]

-- a file was added that holds the piece
pub added_more :
    (files view : List Stored) (name piece : List ℕ) (file : Stored) (now : List Stored)
    → view ≡ files → None ≡ place_in name view → string_bytes file.0 ≡ name → file.1.items ≡ piece
    → now ≡ files ++ file ∷ [] → stored now ≡ with_more name piece (stored files)
added_more files view name piece file now seen none named holds pushed =
    let missing : place_in name files ≡ None = ap (place_in name) (sym seen) ∙ sym none in
    added files view name piece file now seen none named holds pushed
    ∙ ap (λ bs. with_file name (unwrap_or bs [] ++ piece) (stored files)) (sym (missing_bytes files 0 name missing))
