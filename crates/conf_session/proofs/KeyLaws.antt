-- Clauses as keys: two clauses have the same key exactly where they are the same.
use Rattle.std.proofs.Common.{◌≡◌, Bool, true, false, not, ◌||◌, cond, List, [], ◌∷◌, ◌++◌, ℤ, pos, length, refl, sym, ap, ◌∙◌, arith, subst}
use Rattle.std.proofs.lemmas.Int.{ints}
use Rattle.std.proofs.lemmas.Bool.Decides.{Decides-int_eq}
use Rattle.std.proofs.lemmas.List.Folds.{list_any-append}
use Rattle.std.specs.Cmp.Lexicographic.{pointwise, pointwise_decides}
use Rattle.std.specs.List.{list_any}
use Rattle.std.specs.Ordering.{int_eq}
use Rattle.ground_form.specs.declared.con.Con.{Con}
use Rattle.ground_form.specs.declared.con.Con.TheVariants.{ClauseCon}
use Rattle.log_check.proofs.Steps.{same_clause-equal, same_clause-self}
use Rattle.log_form.specs.Acceptance.{same_clause}
use Rattle.signed_clause.specs.Clauses.{Literals}
use Rattle.signed_clause.specs.Ranges.{Ranges}
use Rattle.conf_session.specs.Keeping.{is_stated, is_that_clause}
use Rattle.conf_session.specs.Keys.{range_ends, clause_words, has_key, AreKeysOf}
use Rattle.conf_session.specs.declared.stated.ClauseKey.{ClauseKey}

-- ---- words tell the clause

ends_tell : (rs ss : Ranges) (t u : List ℤ) → length rs ≡ length ss → range_ends rs ++ t ≡ range_ends ss ++ u → (rs ≡ ss) × (t ≡ u)
ends_tell [] [] t u n e = (refl, e)
ends_tell [] (s ∷ ss) t u n e = absurd (omega (arith, n))
ends_tell (r ∷ rs) [] t u n e = absurd (omega (arith, n))
ends_tell ((a, b) ∷ rs) ((c, d) ∷ ss) t u n e =
    let rest = ends_tell rs ss t u (omega (arith, n)) cc in
    let first : rs ≡ ss = rest.0 in
    (cc, rest.1)

words_tell : (c d : Literals) → clause_words c ≡ clause_words d → c ≡ d
words_tell [] [] e = refl
words_tell [] (m ∷ d) e = absurd cc
words_tell (l ∷ c) [] e = absurd cc
words_tell ((x, rs) ∷ c) ((y, ss) ∷ d) e =
    let count : pos (length rs) ≡ pos (length ss) = cc in
    let parts = ends_tell rs ss (clause_words c) (clause_words d) (omega (arith, ints, count)) cc in
    let sets : rs ≡ ss = parts.0 in
    let rest : c ≡ d = words_tell c d parts.1 in
    let vars : pos x ≡ pos y = cc in
    let same : x ≡ y = omega (arith, ints, vars) in
    cc

both_ways : (a b : Bool) → (a ≡ true → b ≡ true) → (b ≡ true → a ≡ true) → a ≡ b
both_ways true b f g = sym (f refl)
both_ways false true f g = absurd (let wrong = g refl in cc)
both_ways false false f g = refl

key_same : (c d : Literals) → pointwise int_eq (clause_words c) (clause_words d) ≡ same_clause d c
key_same c d =
    let decides = pointwise_decides (λ x y. Decides-int_eq x y) (clause_words c) (clause_words d) in
    both_ways (pointwise int_eq (clause_words c) (clause_words d)) (same_clause d c)
    (λ h. let same : c ≡ d = words_tell c d (decides.0 h) in subst (λ (e : Literals). same_clause e c ≡ true) same (same_clause-self c))
    (λ h. let same : d ≡ c = same_clause-equal d c h in decides.1 (ap clause_words (sym same)))

-- ---- keys of constraints

stated_more : (cons : List Con) (c d : Literals) → is_stated (cons ++ ClauseCon c ∷ []) d ≡ (is_stated cons d || (same_clause c d || false))
stated_more cons c d = list_any-append (is_that_clause d) cons (ClauseCon c ∷ [])

keys_more : (keys : List ClauseKey) (key : ClauseKey) (d : Literals) → has_key (keys ++ key ∷ []) d ≡ (has_key keys d || (pointwise int_eq (clause_words d) key.words.items || false))
keys_more keys key d = list_any-append (λ (k : ClauseKey). pointwise int_eq (clause_words d) k.words.items) keys (key ∷ [])

-- one key more, of one clause more
pub key_more : (cons : List Con) (old new : List ClauseKey) (key : ClauseKey) (c : Literals) → AreKeysOf cons old → key.words.items ≡ clause_words c → new ≡ old ++ key ∷ [] → AreKeysOf (cons ++ ClauseCon c ∷ []) new
key_more cons old new key c h k e = λ d.
    ap (λ (ks : List ClauseKey). has_key ks d) e ∙ keys_more old key d
    ∙ ap (λ b. b || (pointwise int_eq (clause_words d) key.words.items || false)) (h d)
    ∙ ap (λ b. is_stated cons d || (b || false)) (ap (λ (ws : List ℤ). pointwise int_eq (clause_words d) ws) k ∙ key_same d c)
    ∙ sym (stated_more cons c d)

or_absorbs : (a b : Bool) → (b ≡ true → a ≡ true) → (a || (b || false)) ≡ a
or_absorbs true b f = refl
or_absorbs false true f = absurd (let wrong = f refl in cc)
or_absorbs false false f = refl

-- a clause that stands already
pub key_again : (cons : List Con) (keys : List ClauseKey) (c : Literals) → AreKeysOf cons keys → has_key keys c ≡ true → AreKeysOf (cons ++ ClauseCon c ∷ []) keys
key_again cons keys c h there = λ d.
    h d ∙ sym (stated_more cons c d ∙ or_absorbs (is_stated cons d) (same_clause c d) (λ same.
    subst (λ (e : Literals). is_stated cons e ≡ true) (same_clause-equal c d same) (sym (h c) ∙ there)))

-- whether a key is new is whether its clause doesn't stand yet
pub key_new : (cons : List Con) (keys : List ClauseKey) (key : ClauseKey) (c : Literals) (new : Bool) → key.words.items ≡ clause_words c → new ≡ not (list_any (λ (k : ClauseKey). pointwise int_eq key.words.items k.words.items) keys) → AreKeysOf cons keys → new ≡ not (is_stated cons c)
key_new cons keys key c new words is h =
    is ∙ ap (λ (ws : List ℤ). not (list_any (λ (k : ClauseKey). pointwise int_eq ws k.words.items) keys)) words ∙ ap not (h c)

not_false : (b : Bool) → false ≡ not b → b ≡ true
not_false true e = refl
not_false false e = absurd cc

-- the keys behind it
pub key_either : (cons : List Con) (old new : List ClauseKey) (key : ClauseKey) (c : Literals) (b : Bool) → key.words.items ≡ clause_words c → b ≡ not (list_any (λ (k : ClauseKey). pointwise int_eq key.words.items k.words.items) old) → new ≡ cond b (old ++ key ∷ []) old → AreKeysOf cons old →
    AreKeysOf (cons ++ ClauseCon c ∷ []) new
key_either cons old new key c true words is e h = key_more cons old new key c h words e
key_either cons old new key c false words is e h =
    let there : has_key old c ≡ true = ap (λ (ws : List ℤ). list_any (λ (k : ClauseKey). pointwise int_eq ws k.words.items) old) (sym words) ∙ not_false (list_any (λ (k : ClauseKey). pointwise int_eq key.words.items k.words.items) old) is in
    subst (λ (ks : List ClauseKey). AreKeysOf (cons ++ ClauseCon c ∷ []) ks) (sym e) (key_again cons old c h there)

pub key_same_keys : (old new : List ClauseKey) (key : ClauseKey) (b : Bool) → new ≡ cond b (old ++ key ∷ []) old → b ≡ false → new ≡ old
key_same_keys old new key true e h = absurd cc
key_same_keys old new key false e h = e
