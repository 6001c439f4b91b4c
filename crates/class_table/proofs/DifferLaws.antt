-- Names that differ, and where one of them stands.
use Rattle.std.proofs.Common.{◌≡◌, ℕ, zero, suc, ◌+◌, ◌<◌, ◌≤◌, Bool, true, false, cond, ◌||◌, List, [], ◌∷◌, ◌++◌, None, Some, length, map, refl, ap, sym, ◌∙◌, arith, append_assoc, append-nil, true≢false}
use Rattle.std.specs.Prelude.{position}
use Rattle.std.specs.List.{list_any, position_from}
use Rattle.std.specs.Cmp.Lexicographic.{nat_list_eq_equiv}
use Rattle.std.proofs.lemmas.Iterator.Adapters.{position_from-zero}
use Rattle.conf_syntax.specs.declared.token.Ident.{Ident}
use Rattle.conf_syntax.specs.OnlyIf.{only_if}
use Rattle.class_table.specs.Faults.{repeated}
use Rattle.class_table.specs.Outline.{value_name}
use Rattle.class_table.specs.Same.{same_name}
use Rattle.class_table.specs.Tables.{all_differ}

-- what is not repeated differs
pub differ_from : (is : List Ident) (seen : List (List ℕ)) → repeated is seen ≡ [] → all_differ (map value_name is) seen ≡ true
differ_from [] seen h = refl
differ_from (i ∷ is) seen h = by (list_any (same_name i.name) seen) (λ g. differ_from is (seen ++ i.name ∷ []) g) h
  where
    by : (b : Bool) → (repeated is (seen ++ i.name ∷ []) ≡ [] → all_differ (map value_name is) (seen ++ i.name ∷ []) ≡ true) → only_if b i.at ++ repeated is (seen ++ i.name ∷ []) ≡ [] → cond b false (all_differ (map value_name is) (seen ++ i.name ∷ [])) ≡ true
    by true more g = cc
    by false more g = more g

any_append : {X : Type 0} (p : X → Bool) (xs ys : List X) → list_any p (xs ++ ys) ≡ (list_any p xs || list_any p ys)
any_append p [] ys = refl
any_append p (x ∷ xs) ys = by (p x) (any_append p xs ys)
  where
    by : (b : Bool) → list_any p (xs ++ ys) ≡ (list_any p xs || list_any p ys) → (b || list_any p (xs ++ ys)) ≡ ((b || list_any p xs) || list_any p ys)
    by true h = refl
    by false h = h

-- what differs from more names differs from fewer
pub fewer : (ws more seen : List (List ℕ)) → all_differ ws (more ++ seen) ≡ true → all_differ ws seen ≡ true
fewer [] more seen h = refl
fewer (w ∷ ws) more seen h = by (list_any (same_name w) seen) (list_any (same_name w) more) (any_append (same_name w) more seen) (λ g. fewer ws more (seen ++ w ∷ []) g) h
  where
    by : (b a : Bool) → list_any (same_name w) (more ++ seen) ≡ (a || b) → (all_differ ws (more ++ (seen ++ w ∷ [])) ≡ true → all_differ ws (seen ++ w ∷ []) ≡ true) → cond (list_any (same_name w) (more ++ seen)) false (all_differ ws ((more ++ seen) ++ w ∷ [])) ≡ true → cond b false (all_differ ws (seen ++ w ∷ [])) ≡ true
    by true true e rest g = absurd (true≢false (sym g ∙ ap (λ b. cond b false (all_differ ws ((more ++ seen) ++ w ∷ []))) e))
    by true false e rest g = absurd (true≢false (sym g ∙ ap (λ b. cond b false (all_differ ws ((more ++ seen) ++ w ∷ []))) e))
    by false true e rest g = absurd (true≢false (sym g ∙ ap (λ b. cond b false (all_differ ws ((more ++ seen) ++ w ∷ []))) e))
    by false false e rest g = rest (ap (λ xs. all_differ ws xs) (sym (append_assoc more seen (w ∷ []))) ∙ sym (ap (λ b. cond b false (all_differ ws ((more ++ seen) ++ w ∷ []))) e) ∙ g)

-- names behind others that all differ: they differ from those before them, and among themselves
pub behind : (xs ys seen : List (List ℕ)) → all_differ (xs ++ ys) seen ≡ true → all_differ ys (seen ++ xs) ≡ true
behind [] ys seen h = ap (λ s. all_differ ys s) (append-nil seen) ∙ h
behind (x ∷ xs) ys seen h = by (list_any (same_name x) seen) (λ g. behind xs ys (seen ++ x ∷ []) g) h
  where
    by : (b : Bool) → (all_differ (xs ++ ys) (seen ++ x ∷ []) ≡ true → all_differ ys ((seen ++ x ∷ []) ++ xs) ≡ true) → cond b false (all_differ (xs ++ ys) (seen ++ x ∷ [])) ≡ true → all_differ ys (seen ++ x ∷ xs) ≡ true
    by true more g = absurd (true≢false (sym g))
    by false more g = ap (λ s. all_differ ys s) (sym (append_assoc seen (x ∷ []) xs)) ∙ more g

pub apart : (xs ys : List (List ℕ)) → all_differ (xs ++ ys) [] ≡ true → all_differ ys [] ≡ true
apart xs ys h = fewer ys xs [] (ap (λ s. all_differ ys s) (append-nil xs) ∙ behind xs ys [] h)

-- names before others that all differ
pub front_differs : (xs ys seen : List (List ℕ)) → all_differ (xs ++ ys) seen ≡ true → all_differ xs seen ≡ true
front_differs [] ys seen h = refl
front_differs (x ∷ xs) ys seen h = by (list_any (same_name x) seen) (λ g. front_differs xs ys (seen ++ x ∷ []) g) h
  where
    by : (b : Bool) → (all_differ (xs ++ ys) (seen ++ x ∷ []) ≡ true → all_differ xs (seen ++ x ∷ []) ≡ true) → cond b false (all_differ (xs ++ ys) (seen ++ x ∷ [])) ≡ true → cond b false (all_differ xs (seen ++ x ∷ [])) ≡ true
    by true more g = g
    by false more g = more g

-- Places

module _ (w : List ℕ) where
  abbrev p : List ℕ → Bool
  p = same_name w

  from_append_none : (xs ys : List (List ℕ)) (i : ℕ) → list_any p xs ≡ false → position_from p i (xs ++ ys) ≡ position_from p (i + length xs) ys
  from_append_none [] ys i h = let e : i ≡ i + 0 = omega arith in ap (λ n. position_from p n ys) e
  from_append_none (x ∷ xs) ys i h = by (p x) (λ g. from_append_none xs ys (i + 1) g) h
    where
      by : (b : Bool) → (list_any p xs ≡ false → position_from p (i + 1) (xs ++ ys) ≡ position_from p ((i + 1) + length xs) ys) → (b || list_any p xs) ≡ false → cond b (Some i) (position_from p (i + 1) (xs ++ ys)) ≡ position_from p (i + suc (length xs)) ys
      by true more g = absurd (true≢false g)
      by false more g = let e : (i + 1) + length xs ≡ i + suc (length xs) = omega arith in more g ∙ ap (λ n. position_from p n ys) e

  from_append_only : (xs ys : List (List ℕ)) (i j : ℕ) → position_from p j ys ≡ None → position_from p i (xs ++ ys) ≡ position_from p i xs
  from_append_only [] ys i j h = none ys j i h
    where
      none : (ys : List (List ℕ)) (j i : ℕ) → position_from p j ys ≡ None → position_from p i ys ≡ None
      none [] j i h = refl
      none (y ∷ ys) j i h = by (p y) (λ g. none ys (j + 1) (i + 1) g) h
        where
          by : (b : Bool) → (position_from p (j + 1) ys ≡ None → position_from p (i + 1) ys ≡ None) → cond b (Some j) (position_from p (j + 1) ys) ≡ None → cond b (Some i) (position_from p (i + 1) ys) ≡ None
          by true more g = cc
          by false more g = more g
  from_append_only (x ∷ xs) ys i j h = ap (λ r. cond (p x) (Some i) r) (from_append_only xs ys (i + 1) j h)

  shifted : (ys : List (List ℕ)) (i j k : ℕ) → position_from p i ys ≡ Some (i + k) → position_from p j ys ≡ Some (j + k)
  shifted [] i j k h = cc
  shifted (y ∷ ys) i j k h = by (p y) k (λ k g. shifted ys (i + 1) (j + 1) k g) h
    where
      low : (zs : List (List ℕ)) (m n : ℕ) → position_from p m zs ≡ Some n → m ≤ n
      low [] m n h = cc
      low (z ∷ zs) m n h = at (p z) (λ g. low zs (m + 1) n g) h
        where
          at : (b : Bool) → (position_from p (m + 1) zs ≡ Some n → m + 1 ≤ n) → cond b (Some m) (position_from p (m + 1) zs) ≡ Some n → m ≤ n
          at true more g = let e : m ≡ n = cc in omega arith
          at false more g = let l = more g in omega arith

      by : (b : Bool) (k : ℕ) → ((k : ℕ) → position_from p (i + 1) ys ≡ Some ((i + 1) + k) → position_from p (j + 1) ys ≡ Some ((j + 1) + k)) → cond b (Some i) (position_from p (i + 1) ys) ≡ Some (i + k) → cond b (Some j) (position_from p (j + 1) ys) ≡ Some (j + k)
      by true k more g = let e : i ≡ i + k = cc in let z : j ≡ j + k = omega arith in ap (λ n. Some n) z
      by false zero more g = let l = low ys (i + 1) (i + 0) g in absurd (omega arith)
      by false (suc k) more g =
          let a : i + suc k ≡ (i + 1) + k = omega arith in
          let b : (j + 1) + k ≡ j + suc k = omega arith in
          more k (g ∙ ap (λ n. Some n) a) ∙ ap (λ n. Some n) b

  -- a name that stands among some is none of those that differ from them
  pub found_behind : (ys seen : List (List ℕ)) (i k : ℕ) → all_differ ys seen ≡ true → position_from p i ys ≡ Some k → list_any p seen ≡ false
  found_behind [] seen i k d h = cc
  found_behind (y ∷ ys) seen i k d h = by (p y) (list_any (same_name y) seen) refl refl (λ a b. found_behind ys (seen ++ y ∷ []) (i + 1) k a b) d h
    where
      same_any : (zs : List (List ℕ)) → p y ≡ true → list_any (same_name y) zs ≡ false → list_any p zs ≡ false
      same_any [] e h = refl
      same_any (z ∷ zs) e h = at (same_name y z) (p z) refl refl (λ g. same_any zs e g) h
        where
          at : (a b : Bool) → same_name y z ≡ a → p z ≡ b → (list_any (same_name y) zs ≡ false → list_any p zs ≡ false) → (a || list_any (same_name y) zs) ≡ false → (b || list_any p zs) ≡ false
          at true b ea eb more g = absurd (true≢false g)
          at false true ea eb more g = absurd (true≢false (sym eb ∙ nat_list_eq_equiv.congr w y z e ∙ ea))
          at false false ea eb more g = more g

      front : (zs : List (List ℕ)) → list_any p (zs ++ y ∷ []) ≡ false → list_any p zs ≡ false
      front zs g = at (list_any p zs) (sym (any_append p zs (y ∷ [])) ∙ g)
        where
          at : (b : Bool) → (b || list_any p (y ∷ [])) ≡ false → b ≡ false
          at true h = h
          at false h = refl

      by : (b a : Bool) → p y ≡ b → list_any (same_name y) seen ≡ a → (all_differ ys (seen ++ y ∷ []) ≡ true → position_from p (i + 1) ys ≡ Some k → list_any p (seen ++ y ∷ []) ≡ false) → cond a false (all_differ ys (seen ++ y ∷ [])) ≡ true → cond b (Some i) (position_from p (i + 1) ys) ≡ Some k → list_any p seen ≡ false
      by b true eb ea more g h = absurd (true≢false (sym g))
      by true false eb ea more g h = same_any seen eb ea
      by false false eb ea more g h = front seen (more g h)

  pub as_from : (xs : List (List ℕ)) → position p xs ≡ position_from p 0 xs
  as_from xs = position_from-zero p xs

  -- a name of a class's own attributes stands behind the inherited ones
  pub own_found : (xs ys : List (List ℕ)) (k : ℕ) → all_differ (xs ++ ys) [] ≡ true → position p ys ≡ Some k → position p (xs ++ ys) ≡ Some (length xs + k)
  own_found xs ys k d h =
      let found = sym (as_from ys) ∙ h in
      let zero_first : k ≡ 0 + k = omega arith in
      let none_first : 0 + length xs ≡ length xs = omega arith in
      as_from (xs ++ ys) ∙ from_append_none xs ys 0 (found_behind ys xs 0 k (behind xs ys [] d) found) ∙ ap (λ n. position_from p n ys) none_first ∙ shifted ys 0 (length xs) k (found ∙ ap (λ n. Some n) zero_first)

  -- a name of none of a class's own attributes is one of the inherited ones, or none
  pub not_own : (xs ys : List (List ℕ)) → position p ys ≡ None → position p (xs ++ ys) ≡ position p xs
  not_own xs ys h = as_from (xs ++ ys) ∙ from_append_only xs ys 0 0 (sym (as_from ys) ∙ h) ∙ sym (as_from xs)

  found_low : (xs : List (List ℕ)) (i k : ℕ) → position_from p i xs ≡ Some k → k < i + length xs
  found_low [] i k h = cc
  found_low (x ∷ xs) i k h = by (p x) (λ g. found_low xs (i + 1) k g) h
    where
      by : (b : Bool) → (position_from p (i + 1) xs ≡ Some k → k < (i + 1) + length xs) → cond b (Some i) (position_from p (i + 1) xs) ≡ Some k → k < i + suc (length xs)
      by true more g = let e : i ≡ k = cc in omega arith
      by false more g = let l = more g in omega arith

  pub found_within : (xs : List (List ℕ)) (k : ℕ) → position p xs ≡ Some k → k < length xs
  found_within xs k h = let l = found_low xs 0 k (sym (as_from xs) ∙ h) in omega arith
