-- What is told of constraints, where some are cleared or settled.
use Rattle.std.proofs.Common.{◌≡◌, ◌⊎◌, inl, inr, ℕ, zero, suc, ◌+◌, ◌<◌, ◌≤◌, Bool, true, false, cond, List, [], ◌∷◌, refl, sym, ap, ◌∙◌, subst, arith, length, drop, take, slice_set, All, length-set, replicate}
use Rattle.std.specs.List.{AllPairs, Contains, range_with_len}
use Rattle.std.proofs.lemmas.List.Elements.{All-nil, All-cons}
use Rattle.std.proofs.lemmas.List.Kept.{AllPairs-cons}
use Rattle.conf_core.proofs.PartLists.{all_as, contains_here, contains_later, pairs_nil}
use Rattle.conf_core.specs.declared.suspects.Suspect.{Suspect}
use Rattle.conf_core.specs.declared.suspects.Suspect.TheVariants.{Cleared, Open, Needed, Unsure}
use Rattle.conf_core.specs.Suspects.{is_kept, is_open, marked, cleared, told, settled, AreTried, IsFresh, IsSettled}

-- ---- the indexes of those of which something is so

module _ (f : Suspect → Bool) where
  marked_from : (k : ℕ) (ss : List Suspect) → All (λ m. k ≤ m) (marked f k ss)
  marked_from k [] = All-nil (λ m. k ≤ m)
  marked_from k (s ∷ ss) =
      let rest = all_as (λ m. suc k ≤ m) (λ m. k ≤ m) (marked f (suc k) ss)
      (λ m le. omega (arith, le)) (marked_from (suc k) ss) in
      elim (f s) as (λ b. All (λ m. k ≤ m) (cond b (k ∷ marked f (suc k) ss) (marked f (suc k) ss))) [
        | true ↦ All-cons (λ m. k ≤ m) k (marked f (suc k) ss) (omega arith) rest
        | false ↦ rest
      ]

  marked_below : (k : ℕ) (ss : List Suspect) → All (λ m. m < k + length ss) (marked f k ss)
  marked_below k [] = All-nil (λ m. m < k + 0)
  marked_below k (s ∷ ss) =
      let rest = all_as (λ m. m < suc k + length ss) (λ m. m < k + suc (length ss))
      (marked f (suc k) ss) (λ m lt. omega (arith, lt)) (marked_below (suc k) ss) in
      elim (f s) as (λ b. All (λ m. m < k + suc (length ss)) (cond b (k ∷ marked f (suc k) ss) (marked f (suc k) ss))) [
        | true ↦ All-cons (λ m. m < k + suc (length ss)) k (marked f (suc k) ss) (omega arith) rest
        | false ↦ rest
      ]

  marked_ascend_from : (k : ℕ) (ss : List Suspect) → AllPairs ◌<◌ (marked f k ss)
  marked_ascend_from k [] = pairs_nil ◌<◌
  marked_ascend_from k (s ∷ ss) =
      let rest = marked_ascend_from (suc k) ss in
      let above = all_as (λ m. suc k ≤ m) (λ m. k < m) (marked f (suc k) ss)
      (λ m le. omega (arith, le)) (marked_from (suc k) ss) in
      elim (f s) as (λ b. AllPairs ◌<◌ (cond b (k ∷ marked f (suc k) ss) (marked f (suc k) ss))) [
        | true ↦ AllPairs-cons ◌<◌ k (marked f (suc k) ss) above rest
        | false ↦ rest
      ]

  pub marked_ascend : (ss : List Suspect) → AllPairs ◌<◌ (marked f 0 ss)
  marked_ascend ss = marked_ascend_from 0 ss

  pub marked_exist : (ss : List Suspect) → All (λ m. m < length ss) (marked f 0 ss)
  marked_exist ss = all_as (λ m. m < 0 + length ss) (λ m. m < length ss) (marked f 0 ss)
      (λ m lt. omega (arith, lt)) (marked_below 0 ss)

  -- each of these is marked
  are_so : (k : ℕ) (ss : List Suspect) (g : ℕ → Suspect) →
      ((j : ℕ) → j < length ss → g (k + j) ≡ told ss j) →
      All (λ m. f (g m) ≡ true) (marked f k ss)
  are_so k [] g e = All-nil (λ m. f (g m) ≡ true)
  are_so k (s ∷ ss) g e =
      let zero_is : k + 0 ≡ k = omega arith in
      let first : g k ≡ s = ap g (sym zero_is) ∙ e 0 (omega arith) in
      let rest = are_so (suc k) ss g
      (λ j lt. (let more : suc k + j ≡ k + suc j = omega arith in
      ap g more ∙ e (suc j) (omega (arith, lt)))) in
      elim (f s) as (λ b. f s ≡ b → All (λ m. f (g m) ≡ true) (cond b (k ∷ marked f (suc k) ss) (marked f (suc k) ss))) [
        | true ↦ λ yes. All-cons (λ m. f (g m) ≡ true) k (marked f (suc k) ss) (ap f first ∙ yes) rest
        | false ↦ λ no. rest
      ] refl

  pub marked_so : (ss : List Suspect) → All (λ m. f (told ss m) ≡ true) (marked f 0 ss)
  marked_so ss = are_so 0 ss (λ m. told ss m)
      (λ j lt. (let same : 0 + j ≡ j = omega arith in ap (λ m. told ss m) same))

  -- what is marked is among them
  is_marked : (k : ℕ) (ss : List Suspect) (j : ℕ) → j < length ss → f (told ss j) ≡ true →
      Contains (marked f k ss) (k + j)
  is_marked k [] j lt so = absurd (omega (arith, lt))
  is_marked k (s ∷ ss) zero lt so =
      let same : k ≡ k + 0 = omega arith in
      let it = subst (λ b. Contains (cond b (k ∷ marked f (suc k) ss) (marked f (suc k) ss)) k) (sym so)
      (contains_here k (marked f (suc k) ss)) in
      subst (λ m. Contains (marked f k (s ∷ ss)) m) same it
  is_marked k (s ∷ ss) (suc j) lt so =
      let more : suc k + j ≡ k + suc j = omega arith in
      let later = subst (λ m. Contains (marked f (suc k) ss) m) more
      (is_marked (suc k) ss j (omega (arith, lt)) so) in
      elim (f s) as (λ b. Contains (cond b (k ∷ marked f (suc k) ss) (marked f (suc k) ss)) (k + suc j)) [
        | true ↦ contains_later k (k + suc j) (marked f (suc k) ss) later
        | false ↦ later
      ]

  is_there : f Cleared ≡ false → (ss : List Suspect) (j : ℕ) → f (told ss j) ≡ true →
      j < length ss
  is_there off [] j so = absurd (let x : true ≡ false = sym so ∙ off in cc)
  is_there off (s ∷ ss) zero so = omega arith
  is_there off (s ∷ ss) (suc j) so = let lt = is_there off ss j so in omega (arith, lt)

  pub marked_has : (ss : List Suspect) (j : ℕ) → f Cleared ≡ false → f (told ss j) ≡ true
      → Contains (marked f 0 ss) j
  marked_has ss j off so =
      let same : 0 + j ≡ j = omega arith in
      subst (λ m. Contains (marked f 0 ss) m) same
      (is_marked 0 ss j (is_there off ss j so) so)

  -- one that is told something of which the same is so changes nothing
  marked_set : (k : ℕ) (ss : List Suspect) (j : ℕ) (s : Suspect) → f s ≡ f (told ss j) →
      marked f k (slice_set ss j s) ≡ marked f k ss
  marked_set k [] j s e = refl
  marked_set k (x ∷ ss) zero s e =
      ap (λ b. cond b (k ∷ marked f (suc k) ss) (marked f (suc k) ss)) e
  marked_set k (x ∷ ss) (suc j) s e =
      ap (λ xs. cond (f x) (k ∷ xs) xs) (marked_set (suc k) ss j s e)

  pub marked_same : (ss : List Suspect) (j : ℕ) (s : Suspect) → f s ≡ f (told ss j) →
      marked f 0 (slice_set ss j s) ≡ marked f 0 ss
  marked_same ss j s e = marked_set 0 ss j s e

-- ---- some are cleared

-- each is cleared or told of as before
abbrev pub IsLess : List Suspect → List Suspect → Type 0
IsLess fewer ss = (c : ℕ) → (told fewer c ≡ Cleared) ⊎ (told fewer c ≡ told ss c)

one_less : (ss : List Suspect) (k : ℕ) → IsLess (slice_set ss k Cleared) ss
one_less [] k c = inr refl
one_less (x ∷ xs) zero zero = inl refl
one_less (x ∷ xs) zero (suc c) = inr refl
one_less (x ∷ xs) (suc k) zero = inr refl
one_less (x ∷ xs) (suc k) (suc c) = one_less xs k c

pub one_cleared : (ss : List Suspect) (k : ℕ) → told (slice_set ss k Cleared) k ≡ Cleared
one_cleared [] k = refl
one_cleared (x ∷ xs) zero = refl
one_cleared (x ∷ xs) (suc k) = one_cleared xs k

pub told_other : (ss : List Suspect) (k : ℕ) (s : Suspect) (c : ℕ) → (c ≡ k → ⊥) →
    told (slice_set ss k s) c ≡ told ss c
told_other [] k s c other = refl
told_other (x ∷ xs) zero s zero other = absurd (other refl)
told_other (x ∷ xs) zero s (suc c) other = refl
told_other (x ∷ xs) (suc k) s zero other = refl
told_other (x ∷ xs) (suc k) s (suc c) other = told_other xs k s c (λ e. other (ap suc e))

-- what is told of one that was open
pub told_set : (ss : List Suspect) (k : ℕ) (s : Suspect) → told ss k ≡ Open →
    told (slice_set ss k s) k ≡ s
told_set [] k s may = absurd cc
told_set (x ∷ xs) zero s may = refl
told_set (x ∷ xs) (suc k) s may = told_set xs k s may

less_more : (a b ss : List Suspect) → IsLess a b → IsLess b ss → IsLess a ss
less_more a b ss f g c =
    elim (f c) [
      | inl e ↦ inl e
      | inr e ↦ elim (g c) [
        | inl d ↦ inl (e ∙ d)
        | inr d ↦ inr (e ∙ d)
      ]
    ]

pub cleared_less : (ss : List Suspect) (ks : List ℕ) → IsLess (cleared ss ks) ss
cleared_less ss [] c = inr refl
cleared_less ss (k ∷ ks) c =
    less_more (cleared (slice_set ss k Cleared) ks) (slice_set ss k Cleared) ss
    (cleared_less (slice_set ss k Cleared) ks) (one_less ss k) c

stay_cleared : (ss : List Suspect) (ks : List ℕ) (c : ℕ) → told ss c ≡ Cleared →
    told (cleared ss ks) c ≡ Cleared
stay_cleared ss ks c e =
    elim (cleared_less ss ks c) [
      | inl is ↦ is
      | inr is ↦ is ∙ e
    ]

pub cleared_in : (ss : List Suspect) (ks : List ℕ) (c : ℕ) → Contains ks c →
    told (cleared ss ks) c ≡ Cleared
cleared_in ss [] c at = absurd (let there = at.1 in omega (arith, there))
cleared_in ss (k ∷ ks) c (zero, there, is) =
    stay_cleared (slice_set ss k Cleared) ks c
    (subst (λ m. told (slice_set ss k Cleared) m ≡ Cleared) is (one_cleared ss k))
cleared_in ss (k ∷ ks) c (suc i, there, is) =
    cleared_in (slice_set ss k Cleared) ks c (i, omega (arith, there), is)

pub cleared_length : (ss : List Suspect) (ks : List ℕ) → length (cleared ss ks) ≡ length ss
cleared_length ss [] = refl
cleared_length ss (k ∷ ks) = cleared_length (slice_set ss k Cleared) ks ∙ length-set ss k Cleared

-- ---- one is settled

module _ (P : List Suspect → Type 0) (ss : List Suspect) (k : ℕ) (one : Suspect) where
  -- one that is open is told of anew, and else nothing
  pub when_settled : (told ss k ≡ Open → P (slice_set ss k one)) →
      ((told ss k ≡ Open → ⊥) → P ss) → P (settled ss k one)
  when_settled set same =
      elim (told ss k) as (λ s. told ss k ≡ s → P (cond (is_open s) (slice_set ss k one) ss)) [
        | Open ↦ λ e. set e
        | Cleared ↦ λ e. same (λ may. absurd (let x : Cleared ≡ Open = sym e ∙ may in cc))
        | Needed ↦ λ e. same (λ may. absurd (let x : Needed ≡ Open = sym e ∙ may in cc))
        | Unsure ↦ λ e. same (λ may. absurd (let x : Unsure ≡ Open = sym e ∙ may in cc))
      ] refl

same_or_other : (c k : ℕ) → (c ≡ k) ⊎ (c ≡ k → ⊥)
same_or_other zero zero = inl refl
same_or_other zero (suc k) = inr (λ e. absurd (omega (arith, e)))
same_or_other (suc c) zero = inr (λ e. absurd (omega (arith, e)))
same_or_other (suc c) (suc k) =
    elim (same_or_other c k) [
      | inl e ↦ inl (ap suc e)
      | inr n ↦ inr (λ e. n (omega (arith, e)))
    ]

-- what is told of a constraint behind one that was told of anew
pub told_by_set : (ss : List Suspect) (k : ℕ) (one : Suspect) (c : ℕ) → told ss k ≡ Open →
    ((c ≡ k) × (told (slice_set ss k one) c ≡ one))
    ⊎ ((c ≡ k → ⊥) × (told (slice_set ss k one) c ≡ told ss c))
told_by_set ss k one c may =
    elim (same_or_other c k) [
      | inl e ↦ inl (e, subst (λ m. told (slice_set ss k one) m ≡ one) (sym e) (told_set ss k one may))
      | inr n ↦ inr (n, told_other ss k one c n)
    ]

settled_open : (ss : List Suspect) (k : ℕ) (one : Suspect) (c : ℕ) → is_open one ≡ false →
    told (settled ss k one) c ≡ Open → (told ss c ≡ Open) × (c ≡ k → ⊥)
settled_open ss k one c off =
    when_settled (λ now. told now c ≡ Open → (told ss c ≡ Open) × (c ≡ k → ⊥)) ss k one
    (λ may. λ e. elim (told_by_set ss k one c may) [
      | inl it ↦ absurd (let x : false ≡ true = sym off ∙ ap is_open (sym it.1 ∙ e) in cc)
      | inr it ↦ (sym it.1 ∙ e, it.0)
    ])
    (λ shut. λ e. (e, λ same. shut (subst (λ m. told ss m ≡ Open) same e)))

-- ---- which were tried

pub tried_same : (ss : List Suspect) (rest : List ℕ) → AreTried ss rest ss rest
tried_same ss rest c e = (e, λ at. at)

pub tried_more : (a : List Suspect) (xs : List ℕ) (b : List Suspect) (ys : List ℕ)
    (d : List Suspect) (zs : List ℕ) → AreTried a xs b ys → AreTried b ys d zs →
    AreTried a xs d zs
tried_more a xs b ys d zs f g c e =
    let later = g c e in
    let first = f c later.0 in (first.0, λ at. later.1 (first.1 at))

in_parts : (n : ℕ) (xs : List ℕ) (c : ℕ) → Contains xs c →
    Contains (take n xs) c ⊎ Contains (drop n xs) c
in_parts zero [] c at = inr at
in_parts zero (x ∷ xs) c at = inr at
in_parts (suc n) [] c at = inr at
in_parts (suc n) (x ∷ xs) c (zero, there, is) = inl (0, omega arith, is)
in_parts (suc n) (x ∷ xs) c (suc i, there, is) =
    elim (in_parts n xs c (i, omega (arith, there), is)) [
      | inl at ↦ inl (contains_later x c (take n xs) at)
      | inr at ↦ inr at
    ]

pub tried_cut : (ss : List Suspect) (rest : List ℕ) (n : ℕ) →
    AreTried ss rest (cleared ss (take n rest)) (drop n rest)
tried_cut ss rest n c e =
    let now = cleared ss (take n rest) in
    elim (cleared_less ss (take n rest) c) [
      | inl is ↦ absurd (let x : Cleared ≡ Open = sym is ∙ e in cc)
      | inr is ↦ (
        sym is ∙ e,
        λ at. elim (in_parts n rest c at) [
          | inl front ↦ absurd (let x : Cleared ≡ Open = sym (cleared_in ss (take n rest) c front) ∙ e in cc)
          | inr back ↦ back
        ],
      )
    ]

pub tried_one : (ss : List Suspect) (k : ℕ) (more : List ℕ) (one : Suspect) →
    is_open one ≡ false → AreTried ss (k ∷ more) (settled ss k one) more
tried_one ss k more one off c e =
    let h = settled_open ss k one c off e in (h.0, λ at. later k more c h.1 at)
  where
    later : (k : ℕ) (more : List ℕ) (c : ℕ) → (c ≡ k → ⊥) → Contains (k ∷ more) c → Contains more c
    later k more c other (zero, there, is) = absurd (other (sym is))
    later k more c other (suc i, there, is) = (i, omega (arith, there), is)

-- ---- all are open

pub all_marked : (n a : ℕ) → marked is_kept a (replicate n Open) ≡ range_with_len a n
all_marked zero a = refl
all_marked (suc n) a =
    let more : suc a ≡ a + 1 = omega arith in
    ap (λ ms. a ∷ ms) (all_marked n (suc a) ∙ ap (λ m. range_with_len m n) more)

-- one that wasn't settled
fresh_not : (s : Suspect) → IsFresh s → IsSettled s → ⊥
fresh_not Cleared h k = absurd k
fresh_not Open h k = absurd k
fresh_not Needed h k = absurd h
fresh_not Unsure h k = absurd h

pub fresh_settled : (ss : List Suspect) → All IsFresh ss → (c : ℕ) → IsSettled (told ss c) → ⊥
fresh_settled [] h c is = absurd is
fresh_settled (s ∷ ss) h zero is = fresh_not s (h 0 Cleared (omega arith)) is
fresh_settled (s ∷ ss) h (suc c) is =
    fresh_settled ss (λ j d lt. h (suc j) d (omega (arith, lt))) c is

pub open_fresh : (n : ℕ) → All IsFresh (replicate n Open)
open_fresh zero = All-nil IsFresh
open_fresh (suc n) = All-cons IsFresh Open (replicate n Open) tt (open_fresh n)

-- so many, none of which is settled
pub record AreFresh (n : ℕ) (ss : List Suspect) : Type 0 where
  pub count : length ss ≡ n
  pub fresh : All IsFresh ss
