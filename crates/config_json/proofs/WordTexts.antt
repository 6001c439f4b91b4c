-- The names of an outline of words are texts that differ, and the paths of its objects are texts.
use Rattle.std.proofs.Common.{◌≡◌, ℕ, zero, suc, ◌+◌, ◌<◌, ◌≤◌, ◌^◌, Bool, true, false, cond, List, [], ◌∷◌, ◌++◌, Option, None, Some, length, map, refl, ap, sym, ◌∙◌, subst, arith, true≢false}
use Rattle.std.specs.Prelude.{All, codes, decimal, position, slice_get, slice_index, slice_index_or}
use Rattle.std.specs.Cmp.Lexicographic.{bytes_decides}
use Rattle.std.specs.List.{list_all, list_any, position_from}
use Rattle.std.specs.Option.{option_map, option_map_or}
use Rattle.std.specs.Str.{IsAscii}
use Rattle.std.proofs.lemmas.Bool.{and_parts, or_parts}
use Rattle.std.proofs.lemmas.Fmt.{IsAscii-decimal}
use Rattle.std.proofs.lemmas.List.Folds.{list_any-append}
use Rattle.std.proofs.lemmas.Option.{get_or_from_slice_get, slice_get_within}
use Rattle.std.proofs.lemmas.Str.{IsUtf8-from_ascii, utf8_lossy-IsUtf8}
use Rattle.conf_syntax.specs.Spelling.{goes_on, is_letter}
use Rattle.class_table.specs.declared.table.Enumeration.{Enumeration}
use Rattle.class_table.specs.declared.table.Resolved.{Resolved}
use Rattle.class_table.specs.declared.table.Resolved.TheVariants.{Span, Truth, Choice, One, Many, Ref, RefSet}
use Rattle.class_table.specs.declared.table.Variable.{Variable}
use Rattle.class_table.specs.declared.names.NameMeaning.TheVariants as meaning
use Rattle.class_table.specs.Names.{means}
use Rattle.class_table.specs.Outline.{Outline, attributes, variable_name}
use Rattle.class_table.specs.Same.{same_name}
use Rattle.class_table.specs.Sound.{IsSound}
use Rattle.class_table.specs.Tables.{all_differ}
use Rattle.class_table.specs.Worded.{HasWord, HasWordValues, HasWords, IsWord}
use Rattle.class_table.proofs.DifferLaws.{as_from}
use Rattle.object_alloc.specs.declared.object.Object.{Object}
use Rattle.object_alloc.specs.Groups.{is_part_of, numbers_from, parts_of}
use Rattle.object_alloc.specs.Variables.{class_in, variables_of, variables}
use Rattle.object_alloc.specs.Paths.{index_text, last_step, owner_path, path, path_within, step_text}
use Rattle.object_alloc.specs.Walk.{objects}
use Rattle.object_alloc.proofs.OwnParts.{part_place}
use Rattle.config_json.specs.Keys.{text_of}
use Rattle.config_json.proofs.Texts.{HasTexts}
use Rattle.config_json.proofs.Known.{class_known, item_within}

-- Bytes of ASCII

abbrev AreSmall : List ℕ → Type 0
AreSmall [] = Unit {0}
AreSmall (b ∷ bs) = (b < 128) × AreSmall bs

ascii_from : (bs : List ℕ) → AreSmall bs → (i : ℕ) → slice_index bs i < 128
ascii_from [] h i = omega arith
ascii_from (b ∷ bs) (h, hs) zero = h
ascii_from (b ∷ bs) (h, hs) (suc i) = ascii_from bs hs i

small_from : (bs : List ℕ) → IsAscii bs → AreSmall bs
small_from [] h = tt
small_from (b ∷ bs) h = (h 0, small_from bs (λ i. h (suc i)))

small_both : (xs ys : List ℕ) → AreSmall xs → AreSmall ys → AreSmall (xs ++ ys)
small_both [] ys a b = b
small_both (x ∷ xs) ys (h, a) b = (h, small_both xs ys a b)

text_is : (bs : List ℕ) → AreSmall bs → text_of bs ≡ bs
text_is bs h = utf8_lossy-IsUtf8 bs (IsUtf8-from_ascii bs (ascii_from bs h))

letter_small : (b : ℕ) → is_letter b ≡ true → b < 128
letter_small b e = grind arith

byte_small : (b : ℕ) → goes_on b ≡ true → b < 128
byte_small b e = grind arith

bytes_small : (bs : List ℕ) → list_all goes_on bs ≡ true → AreSmall bs
bytes_small [] e = tt
bytes_small (b ∷ bs) e = let p = and_parts (goes_on b) (list_all goes_on bs) e in (byte_small b p.0, bytes_small bs p.1)

word_small : (w : List ℕ) → IsWord w → AreSmall w
word_small [] e = absurd (true≢false (sym e))
word_small (b ∷ bs) e = let p = and_parts (is_letter b) (list_all goes_on bs) e in (letter_small b p.0, bytes_small bs p.1)

at_index : {X : Type 0} (P : X → Type 0) (xs : List X) (k : ℕ) (x : X) → All P xs → slice_get xs k ≡ Some x → P x
at_index P xs k x all g = subst P (get_or_from_slice_get xs k x x g) (all k x (slice_get_within xs k x g))

-- Names that differ are found where they stand

not_seen : (ws seen : List (List ℕ)) (k : ℕ) (w : List ℕ) → all_differ ws seen ≡ true → slice_get ws k ≡ Some w → list_any (same_name w) seen ≡ false
not_seen [] seen k w d g = cc
not_seen (y ∷ ys) seen k w d g = by (list_any (same_name y) seen) refl d k g (λ r j h. not_seen ys (seen ++ y ∷ []) j w r h)
  where
    first : {a b : List ℕ} → Some a ≡ Some b → a ≡ b
    first e = cc

    by : (b : Bool) → list_any (same_name y) seen ≡ b → cond b false (all_differ ys (seen ++ y ∷ [])) ≡ true → (k : ℕ) → slice_get (y ∷ ys) k ≡ Some w → (all_differ ys (seen ++ y ∷ []) ≡ true → (j : ℕ) → slice_get ys j ≡ Some w → list_any (same_name w) (seen ++ y ∷ []) ≡ false) → list_any (same_name w) seen ≡ false
    by true is d k g rest = absurd (true≢false (sym d))
    by false is d zero g rest = ap (λ z. list_any (same_name z) seen) (sym (first g)) ∙ is
    by false is d (suc j) g rest = (or_parts (list_any (same_name w) seen) (list_any (same_name w) (y ∷ [])) (sym (list_any-append (same_name w) seen (y ∷ [])) ∙ rest d j g)).0

found_from : (ws seen : List (List ℕ)) (i k : ℕ) (w : List ℕ) → all_differ ws seen ≡ true → slice_get ws k ≡ Some w → position_from (same_name w) i ws ≡ Some (i + k)
found_from [] seen i k w d g = cc
found_from (y ∷ ys) seen i zero w d g =
    let same : same_name w y ≡ true = (bytes_decides w y).1 (cc) in
    let at : i ≡ i + 0 = omega arith in
    ap (λ b. cond b (Some i) (position_from (same_name w) (i + 1) ys)) same ∙ ap Some at
found_from (y ∷ ys) seen i (suc k) w d g =
    let rest = behind (list_any (same_name y) seen) d in
    let other : list_any (same_name w) (seen ++ y ∷ []) ≡ false = not_seen ys (seen ++ y ∷ []) k w rest g in
    let last = (or_parts (list_any (same_name w) seen) (list_any (same_name w) (y ∷ [])) (sym (list_any-append (same_name w) seen (y ∷ [])) ∙ other)).1 in
    let apart = (or_parts (same_name w y) false last).0 in
    let at : i + 1 + k ≡ i + suc k = omega arith in
    ap (λ b. cond b (Some i) (position_from (same_name w) (i + 1) ys)) apart ∙ found_from ys (seen ++ y ∷ []) (i + 1) k w rest g ∙ ap Some at
  where
    behind : (b : Bool) → cond b false (all_differ ys (seen ++ y ∷ [])) ≡ true → all_differ ys (seen ++ y ∷ []) ≡ true
    behind true d = absurd (true≢false (sym d))
    behind false d = d

found_at : (ws : List (List ℕ)) (k : ℕ) (w : List ℕ) → all_differ ws [] ≡ true → slice_get ws k ≡ Some w → position (same_name w) ws ≡ Some k
found_at ws k w d g = let at : 0 + k ≡ k = omega arith in as_from w ws ∙ found_from ws [] 0 k w d g ∙ ap Some at

some_is : {X : Type 0} {a b : X} → Some a ≡ Some b → a ≡ b
some_is e = cc

named_at : (vs : List Variable) (k : ℕ) (v : Variable) → slice_get vs k ≡ Some v → slice_get (map variable_name vs) k ≡ Some v.name
named_at [] k v g = cc
named_at (u ∷ us) zero v g = ap (λ (w : Variable). Some w.name) (some_is g)
named_at (u ∷ us) (suc k) v g = named_at us k v g

one_index : (vs : List Variable) (j k : ℕ) (v w : Variable) → all_differ (map variable_name vs) [] ≡ true → slice_get vs j ≡ Some v → slice_get vs k ≡ Some w → v.name ≡ w.name → j ≡ k
one_index vs j k v w d g h e =
    let names = map variable_name vs in
    some_is (sym (found_at names j v.name d (named_at vs j v g)) ∙ ap (λ n. position (same_name n) names) e ∙ found_at names k w.name d (named_at vs k w h))

value_at_index : (ws : List (List ℕ)) (k : ℕ) → k < length ws → slice_get ws k ≡ Some (slice_index_or ws k [])
value_at_index [] k h = absurd (omega (arith, h))
value_at_index (w ∷ ws) zero h = refl
value_at_index (w ∷ ws) (suc k) h = value_at_index ws k (omega (arith, h))

few_numbers : (test : Object → Bool) (n : ℕ) (xs : List Object) → length (numbers_from test n xs) ≤ length xs
few_numbers test n [] = omega arith
few_numbers test n (x ∷ xs) = by (test x) (few_numbers test (suc n) xs)
  where
    by : (b : Bool) → length (numbers_from test (suc n) xs) ≤ length xs → length (cond b (n ∷ numbers_from test (suc n) xs) (numbers_from test (suc n) xs)) ≤ suc (length xs)
    by true h = omega (arith, h)
    by false h = omega (arith, h)

module _ (o : Outline) (sound : IsSound o) (few : length (objects o) < 2 ^ 32) (words : HasWords o) where
  worded : (class : Option ℕ) (k : ℕ) (v : Variable) → slice_get (variables o class) k ≡ Some v → IsWord v.name
  worded None k v g = at_index HasWord o.roots k v words.roots g
  worded (Some c) k v g = at_index HasWord (attributes o.classes c) k v (words.attributes c) g

  -- Paths

  index_small : (s : Resolved) (i : ℕ) → i < 2 ^ 64 → AreSmall (index_text s i)
  index_small (Many c m) i h =
      let close : AreSmall (codes "]") = (omega arith, tt) in
      (omega arith, small_both (decimal i) (codes "]") (small_from (decimal i) (IsAscii-decimal i h)) close)
  index_small (One c) i h = tt
  index_small (Span low high) i h = tt
  index_small Truth i h = tt
  index_small (Choice e) i h = tt
  index_small (Ref c) i h = tt
  index_small (RefSet c m) i h = tt

  element_small : (n : ℕ) (x : Object) → slice_get (objects o) n ≡ Some x → x.element < 2 ^ 64
  element_small n x e =
      let parts = parts_of o x.owner x.attribute in
      let within = item_within parts x.element n (part_place o sound x.owner x.attribute x.element n x e (refl, refl, refl)) in
      let most = few_numbers (is_part_of x.owner x.attribute) 0 (objects o) in
      omega (arith, within, most, few)

  step_small : (class : Option ℕ) (x : Object) → x.element < 2 ^ 64 → (v : Option Variable) → slice_get (variables o class) x.attribute ≡ v → AreSmall (option_map_or (λ (u : Variable). step_text u x.element) v [])
  step_small class x h None g = tt
  step_small class x h (Some v) g = small_both v.name (index_text v.shape x.element) (word_small v.name (worded class x.attribute v g)) (index_small v.shape x.element h)

  owner_small : (of : ℕ → List ℕ) (p : Option ℕ) → ((n : ℕ) → AreSmall (of n)) → AreSmall (owner_path of p)
  owner_small of None each = tt
  owner_small of (Some p) each = small_both (of p) (codes ".") (each p) (omega arith, tt)

  path_small : (steps n : ℕ) → AreSmall (path_within o (objects o) steps n)
  path_small zero n = tt
  path_small (suc steps) n = by (slice_get (objects o) n) refl (path_small steps)
    where
      by : (x : Option Object) → slice_get (objects o) n ≡ x → ((p : ℕ) → AreSmall (path_within o (objects o) steps p)) → AreSmall (option_map_or (λ (y : Object). owner_path (path_within o (objects o) steps) y.owner ++ last_step (variables o (class_in (objects o) y.owner)) y) x [])
      by None e each = tt
      by (Some x) e each =
          let class = class_in (objects o) x.owner in
          small_both (owner_path (path_within o (objects o) steps) x.owner) (last_step (variables o class) x) (owner_small (path_within o (objects o) steps) x.owner each)
          (step_small class x (element_small n x e) (slice_get (variables o class) x.attribute) refl)

  -- Variables

  roots_apart : (j k : ℕ) (v w : Variable) → slice_get o.roots j ≡ Some v → slice_get o.roots k ≡ Some w → v.name ≡ w.name → j ≡ k
  roots_apart j k v w g h e =
      let same : Some (meaning.Variable j) ≡ Some (meaning.Variable k) = sym (sound.named.meant j v g) ∙ ap (means o.names) e ∙ sound.named.meant k w h in
      cc

  class_apart : (owner : Option ℕ) (class : Option ℕ) → class_in (objects o) owner ≡ class → (j k : ℕ) (v w : Variable) → slice_get (variables o class) j ≡ Some v → slice_get (variables o class) k ≡ Some w → v.name ≡ w.name → j ≡ k
  class_apart owner None is j k v w g h e = roots_apart j k v w g h e
  class_apart None (Some c) is j k v w g h e = cc
  class_apart (Some n) (Some c) is j k v w g h e = by (slice_get (objects o) n) refl is
    where
      by : (x : Option Object) → slice_get (objects o) n ≡ x → option_map (λ (y : Object). y.class) x ≡ Some c → j ≡ k
      by None at is = cc
      by (Some x) at is = one_index (attributes o.classes c) j k v w (sound.differ c (subst (λ d. d < length o.classes) (some_is is) (class_known o sound n x at))) g h e

  variables_apart : (owner : Option ℕ) (j k : ℕ) (v w : Variable) → slice_get (variables_of o owner) j ≡ Some v → slice_get (variables_of o owner) k ≡ Some w → text_of v.name ≡ text_of w.name → j ≡ k
  variables_apart owner j k v w g h e =
      let class = class_in (objects o) owner in
      class_apart owner class refl j k v w g h
      (sym (text_is v.name (word_small v.name (worded class j v g))) ∙ e ∙ text_is w.name (word_small w.name (worded class k w h)))

  value_found : (e k : ℕ) (x : Enumeration) → slice_get o.enumerations e ≡ Some x → k < length x.values → position (same_name (text_of (slice_index_or x.values k []))) x.values ≡ Some k
  value_found e k x g h =
      let own = at_index HasWordValues o.enumerations e x words.values g in
      let w = slice_index_or x.values k [] in
      let at = value_at_index x.values k h in
      ap (λ n. position (same_name n) x.values) (text_is w (word_small w (at_index IsWord x.values k w own.words at))) ∙ found_at x.values k w own.differ at

  pub texts_of_words : HasTexts o
  texts_of_words = record {
    differ = variables_apart;
    paths = λ n h. text_is (path o n) (path_small (suc n) n);
    values = value_found;
  }
