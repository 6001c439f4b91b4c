-- A path as a chain of steps, from the top level down to its object.
use Rattle.std.proofs.Common.{◌≡◌, ℕ, zero, suc, ◌+◌, ◌<◌, ◌≤◌, ◌^◌, Bool, true, false, cond, List, [], ◌∷◌, ◌++◌, Option, None, Some, length, take, drop, refl, ap, sym, ◌∙◌, subst, arith, append_assoc, length-append, ◌⊎◌, inl, inr}
use Rattle.std.specs.Prelude.{IfSome, slice_get, codes}
use Rattle.std.specs.Cmp.Lexicographic.{bytes_decides}
use Rattle.std.specs.List.{position_from, range_with_len}
use Rattle.std.specs.Option.{option_map_or}
use Rattle.std.proofs.lemmas.Bool.{cases_eq, cases_Bool}
use Rattle.std.proofs.lemmas.Iterator.Adapters.{position_from-zero}
use Rattle.class_table.specs.Outline.{Outline}
use Rattle.class_table.specs.Same.{same_name}
use Rattle.class_table.specs.Sound.{IsSound}
use Rattle.object_alloc.specs.declared.object.Object.{Object}
use Rattle.object_alloc.specs.Variables.{class_in, variables_of, variables}
use Rattle.class_table.specs.Named.{IsNamed, dot}
use Rattle.object_alloc.specs.Named.{IsStep, first_place}
use Rattle.object_alloc.specs.Paths.{object_named, last_step, owner_path, path_within, path}
use Rattle.object_alloc.specs.Held.{IsBefore}
use Rattle.object_alloc.specs.Walk.{objects}
use Rattle.object_alloc.proofs.HeldLaws.{object_held}
use Rattle.object_alloc.proofs.PathLaws.{path_same}
use Rattle.object_alloc.proofs.PlaceLaws.{place_behind, place_first, place_last, take_front}
use Rattle.object_alloc.proofs.StepLaws.{step_lacks}

-- these texts, with dots between them
abbrev pub joined : List ℕ → List (List ℕ) → List ℕ
joined s [] = s
joined s (t ∷ ts) = s ++ dot ∷ joined t ts

joined_last : (s : List ℕ) (ss : List (List ℕ)) (t : List ℕ) → joined s (ss ++ t ∷ []) ≡ joined s ss ++ dot ∷ t
joined_last s [] t = refl
joined_last s (u ∷ us) t = ap (λ xs. s ++ dot ∷ xs) (joined_last u us t) ∙ sym (append_assoc s (dot ∷ joined u us) (dot ∷ t))

object_at : (xs : List Object) (n : ℕ) → n < length xs → (x : Object) × (slice_get xs n ≡ Some x)
object_at [] n h = absurd (omega (arith, h))
object_at (x ∷ xs) zero h = (x, refl)
object_at (x ∷ xs) (suc n) h = object_at xs n (omega (arith, h))

module _ (o : Outline) where
  -- each text is a step, from the owner on down to object n
  abbrev pub IsChain : Option ℕ → List (List ℕ) → ℕ → Type 0
  IsChain w [] n = w ≡ Some n
  IsChain w (s ∷ ss) n = (m : ℕ) × IsStep o w s m × IsChain (Some m) ss n

  chain_last : (w : Option ℕ) (ss : List (List ℕ)) (p : ℕ) (s : List ℕ) (n : ℕ) → IsChain w ss p → IsStep o (Some p) s n → IsChain w (ss ++ s ∷ []) n
  chain_last w [] p s n e t = (n, subst (λ v. IsStep o v s n) (sym e) t, refl)
  chain_last w (u ∷ us) p s n (m, step, rest) t = (m, step, chain_last (Some m) us p s n rest t)

  -- the text leads from the owner to object n
  pub record Leads (w : Option ℕ) (text : List ℕ) (n : ℕ) : Type 0 where
    pub first : List ℕ
    pub more : List (List ℕ)
    pub text_is : joined first more ≡ text
    pub chain : IsChain w (first ∷ more) n

  path_chain : (f n : ℕ) → n < f → n < length (objects o) → Leads None (path_within o (objects o) f n) n
  path_chain zero n h there = absurd (omega arith)
  path_chain (suc f) n h there = let x = object_at (objects o) n there in by x.0 x.1 x.0.owner refl (λ p lt. path_chain f p (omega arith) (omega arith))
    where
      by : (x : Object) → slice_get (objects o) n ≡ Some x → (w : Option ℕ) → x.owner ≡ w → ((p : ℕ) → p < n → Leads None (path_within o (objects o) f p) p) → Leads None (path_within o (objects o) (suc f) n) n
      by x g w e more = subst (λ t. Leads None t n) (sym whole) (at w e (object_held o n x g).owner)
        where
          whole : path_within o (objects o) (suc f) n ≡ owner_path (path_within o (objects o) f) w ++ last_step (variables_of o w) x
          whole = ap (λ y. option_map_or (λ (z : Object). owner_path (path_within o (objects o) f) z.owner ++ last_step (variables o (class_in (objects o) z.owner)) z) y []) g ∙ ap (λ v. owner_path (path_within o (objects o) f) v ++ last_step (variables_of o v) x) e

          step : IsStep o w (last_step (variables_of o w) x) n
          step = record { object = x; has = g; owner_is = e; text_is = refl }

          at : (v : Option ℕ) → x.owner ≡ v → IsBefore x.owner n → Leads None (owner_path (path_within o (objects o) f) v ++ last_step (variables_of o v) x) n
          at None e b = record { first = last_step (variables_of o None) x; more = []; text_is = refl; chain = (n, record { object = x; has = g; owner_is = e; text_is = refl }, refl) }
          at (Some p) e b =
              let lt : p < n = subst (λ v. IsBefore v n) e b in
              let r = more p lt in
              let last = last_step (variables_of o (Some p)) x in
              record {
                first = r.first;
                more = r.more ++ last ∷ [];
                text_is = joined_last r.first r.more last ∙ ap (λ t. t ++ dot ∷ last) r.text_is ∙ sym (append_assoc (path_within o (objects o) f p) (dot ∷ []) last);
                chain = chain_last None (r.first ∷ r.more) p last n r.chain (record { object = x; has = g; owner_is = e; text_is = refl });
              }

  -- a path leads to its object
  pub path_leads : (n : ℕ) (text : List ℕ) → n < length (objects o) → path o n ≡ text → Leads None text n
  path_leads n text h e = subst (λ t. Leads None t n) e (path_chain (suc n) n (omega arith) h)

  -- the path of a step's object
  pub step_path : (owner : Option ℕ) (text : List ℕ) (n : ℕ) → IsStep o owner text n → path o n ≡ owner_path (path o) owner ++ text
  step_path owner text n s =
      let x = s.object in
      ap (λ y. option_map_or (λ (z : Object). owner_path (path_within o (objects o) n) z.owner ++ last_step (variables o (class_in (objects o) z.owner)) z) y []) s.has
      ∙ ap (λ v. owner_path (path_within o (objects o) n) v ++ last_step (variables_of o v) x) s.owner_is
      ∙ ap (λ t. owner_path (path_within o (objects o) n) owner ++ t) s.text_is
      ∙ ap (λ t. t ++ text) (at owner (subst (λ v. IsBefore v n) s.owner_is (object_held o n x s.has).owner))
    where
      at : (v : Option ℕ) → IsBefore v n → owner_path (path_within o (objects o) n) v ≡ owner_path (path o) v
      at None b = refl
      at (Some p) b = ap (λ t. t ++ codes ".") (path_same o n (suc p) p b (omega arith))

  -- a step further, at a dot
  pub walked : (text rest step left : List ℕ) (owner : Option ℕ) (m : ℕ) → text ≡ owner_path (path o) owner ++ rest → IsStep o owner step m → rest ≡ step ++ dot ∷ left → text ≡ owner_path (path o) (Some m) ++ left
  walked text rest step left owner m whole s split =
      whole
      ∙ ap (λ t. owner_path (path o) owner ++ t) split
      ∙ sym (append_assoc (owner_path (path o) owner) step (dot ∷ left))
      ∙ ap (λ t. t ++ dot ∷ left) (sym (step_path owner step m s))
      ∙ sym (append_assoc (path o m) (dot ∷ []) left)

  module _ (sound : IsSound o) (few : length (objects o) < 2 ^ 32) (named : IsNamed o) where
    -- the first step of what leads to an object
    pub record IsTurn (w : Option ℕ) (rest : List ℕ) (n : ℕ) : Type 0 where
      pub m : ℕ
      pub step : IsStep o w (take (first_place dot rest) rest) m
      pub ends : first_place dot rest ≡ length rest → m ≡ n
      pub goes : first_place dot rest < length rest → Leads (Some m) (drop (first_place dot rest + 1) rest) n

    pub turn : (w : Option ℕ) (rest : List ℕ) (n : ℕ) → Leads w rest n → IsTurn w rest n
    turn w rest n l = subst (λ t. IsTurn w t n) l.text_is (by l.first l.more l.chain)
      where
        by : (s : List ℕ) (ss : List (List ℕ)) → IsChain w (s ∷ ss) n → IsTurn w (joined s ss) n
        by s [] (m, step, rest) =
            let place = place_last dot s (step_lacks o sound few named w s m step) in
            let front : take (first_place dot s) s ≡ s = ap (λ j. take j s) place ∙ all s in
            record {
              m = m;
              step = subst (λ t. IsStep o w t m) (sym front) step;
              ends = λ e. cc;
              goes = λ h. absurd (omega arith);
            }
          where
            all : (xs : List ℕ) → take (length xs) xs ≡ xs
            all [] = refl
            all (x ∷ xs) = ap (λ ys. x ∷ ys) (all xs)
        by s (t ∷ ts) (m, step, rest) =
            let whole = s ++ dot ∷ joined t ts in
            let behind = place_behind dot s (dot ∷ joined t ts) (step_lacks o sound few named w s m step) in
            let none = place_first dot (joined t ts) in
            let place : first_place dot whole ≡ length s = behind ∙ omega (arith, none) in
            let front : take (first_place dot whole) whole ≡ s = ap (λ j. take j whole) place ∙ take_front s (dot ∷ joined t ts) in
            let size : length whole ≡ length s + suc (length (joined t ts)) = length-append s (dot ∷ joined t ts) in
            let left : drop (first_place dot whole + 1) whole ≡ joined t ts = ap (λ j. drop (j + 1) whole) place ∙ back s (joined t ts) in
            record {
              m = m;
              step = subst (λ u. IsStep o w u m) (sym front) step;
              ends = λ e. absurd (omega (arith, e, place, size));
              goes = λ h. record { first = t; more = ts; text_is = sym left; chain = rest };
            }
          where
            back : (xs ys : List ℕ) → drop (length xs + 1) (xs ++ dot ∷ ys) ≡ ys
            back [] ys = refl
            back (x ∷ xs) ys = let at : suc (length xs) + 1 ≡ suc (length xs + 1) = omega arith in ap (λ j. drop j (x ∷ (xs ++ dot ∷ ys))) at ∙ back xs ys

-- The first object with a path

first_in : (p : ℕ → Bool) (a c n : ℕ) → p n ≡ true → a ≤ n → n < a + c → ((m : ℕ) → a ≤ m → m < n → p m ≡ false) → position_from p a (range_with_len a c) ≡ Some n
first_in p a zero n e low high none = absurd (omega arith)
first_in p a (suc c) n e low high none = by (cases_eq a n) (λ lt. first_in p (a + 1) c n e (omega arith) (omega arith) (λ m l h. none m (omega arith) h))
  where
    by : (a ≡ n) ⊎ (a ≡ n → ⊥) → (a < n → position_from p (a + 1) (range_with_len (a + 1) c) ≡ Some n) → cond (p a) (Some a) (position_from p (a + 1) (range_with_len (a + 1) c)) ≡ Some n
    by (inl same) more = let here : p a ≡ true = ap p same ∙ e in rw here (ap (λ j. Some j) same)
    by (inr other) more = let lt : a < n = omega arith in rw (none a (omega arith) lt) (more lt)

none_in : (p : ℕ → Bool) (a c : ℕ) → ((m : ℕ) → a ≤ m → m < a + c → p m ≡ false) → position_from p a (range_with_len a c) ≡ None
none_in p a zero none = refl
none_in p a (suc c) none = rw (none a (omega arith) (omega arith)) (none_in p (a + 1) c (λ m l h. none m (omega arith) (omega arith)))

pub object_found : (o : Outline) (text : List ℕ) (r : Option ℕ) → IfSome r (λ n. n < length (objects o)) → IfSome r (λ n. path o n ≡ text) → ((n : ℕ) → n < length (objects o) → path o n ≡ text → r ≡ Some n) → r ≡ object_named o text
object_found o text r there is only = position r there is only ∙ sym (position_from-zero test (range_with_len 0 (length (objects o))))
  where
    test : ℕ → Bool
    test = λ n. same_name text (path o n)

    other : (r : Option ℕ) (m : ℕ) → ((n : ℕ) → n < length (objects o) → path o n ≡ text → r ≡ Some n) → m < length (objects o) → (r ≡ Some m → ⊥) → same_name text (path o m) ≡ false
    other r m only h no_more = by (cases_Bool (same_name text (path o m)))
      where
        by : (same_name text (path o m) ≡ true) ⊎ (same_name text (path o m) ≡ false) → same_name text (path o m) ≡ false
        by (inl e) = absurd (no_more (only m h (sym ((bytes_decides text (path o m)).0 e))))
        by (inr e) = e

    position : (r : Option ℕ) → IfSome r (λ n. n < length (objects o)) → IfSome r (λ n. path o n ≡ text) → ((n : ℕ) → n < length (objects o) → path o n ≡ text → r ≡ Some n) → r ≡ position_from (λ n. same_name text (path o n)) 0 (range_with_len 0 (length (objects o)))
    position None there is only = sym (none_in (λ n. same_name text (path o n)) 0 (length (objects o)) (λ m l h. other None m only (omega arith) (λ e. cc)))
    position (Some n) there is only = sym (first_in (λ n. same_name text (path o n)) 0 (length (objects o)) n ((bytes_decides text (path o n)).1 (sym is)) (omega arith) (omega arith) (λ m l h. other (Some n) m only (omega arith) (λ e. let same : n ≡ m = cc in omega arith)))
