-- Tokens are refused at one place at most, for one reason, and not where they are those of a model.
use Rattle.std.proofs.Common.{◌≡◌, ◌≤◌, ℕ, true, Result, Ok, Err, IfOk, IfErr, MatchResult, List, [], ◌∷◌, ◌++◌, refl, sym, ◌∙◌, ap, subst, append_assoc, append-nil}
use Rattle.model_limits.specs.Limits.{most_nesting}
use Rattle.conf_syntax.specs.declared.token.Placed.{Placed}
use Rattle.conf_syntax.specs.declared.token.Token.{Token}
use Rattle.conf_syntax.specs.declared.tree.Program.{Program}
use Rattle.conf_syntax.specs.Models.{IsTreeOf, IsProgramOf}
use Rattle.conf_syntax.specs.Places.{bare, place_of}
use Rattle.conf_syntax.specs.Trees.{program_tokens, program_fits, nesting}
use Rattle.conf_parse.specs.Begun.{IsBegun, IsBegunIn, IsRefused, IsTooDeep}
use Rattle.conf_parse.specs.Means.{IsSyntax, IsDeep, Means, IsSameOrMemory}
use Rattle.conf_parse.specs.declared.parser.ParseError.{ParseError}
use Rattle.conf_parse.specs.declared.parser.ParseError.TheVariants.{Syntax, TooDeep, Memory}

-- two ways to cut the same list: at the same place, or one before the other
pub data IsCut (xs back ys rest : List Placed) : Type 0 where
  alike : xs ≡ ys → back ≡ rest → IsCut xs back ys rest
  shorter : (m : Placed) (more : List Placed) → ys ≡ xs ++ m ∷ more → back ≡ (m ∷ more) ++ rest → IsCut xs back ys rest
  longer : (m : Placed) (more : List Placed) → xs ≡ ys ++ m ∷ more → rest ≡ (m ∷ more) ++ back → IsCut xs back ys rest

abbrev head_of : Placed → List Placed → Placed
head_of d [] = d
head_of d (x ∷ xs) = x

abbrev tail_of : List Placed → List Placed
tail_of [] = []
tail_of (x ∷ xs) = xs

cut_more : (x y : Placed) (xs back ys rest : List Placed) → x ≡ y → IsCut xs back ys rest → IsCut (x ∷ xs) back (y ∷ ys) rest
cut_more x y xs back ys rest e (alike same behind) = alike (ap (λ z. z ∷ xs) e ∙ ap (λ zs. y ∷ zs) same) behind
cut_more x y xs back ys rest e (shorter m more is behind) = shorter m more (ap (λ zs. y ∷ zs) is ∙ ap (λ z. z ∷ (xs ++ m ∷ more)) (sym e)) behind
cut_more x y xs back ys rest e (longer m more is behind) = longer m more (ap (λ zs. x ∷ zs) is ∙ ap (λ z. z ∷ (ys ++ m ∷ more)) e) behind

pub cut_of : (xs back ys rest : List Placed) → xs ++ back ≡ ys ++ rest → IsCut xs back ys rest
cut_of [] back [] rest e = alike refl e
cut_of [] back (y ∷ ys) rest e = shorter y ys refl e
cut_of (x ∷ xs) back [] rest e = longer x xs refl (sym e)
cut_of (x ∷ xs) back (y ∷ ys) rest e = cut_more x y xs back ys rest (ap (head_of x) e) (cut_of xs back ys rest (ap tail_of e))

bare_append : (xs ys : List Placed) → bare (xs ++ ys) ≡ bare xs ++ bare ys
bare_append [] ys = refl
bare_append (x ∷ xs) ys = ap (λ ts. x.token ∷ ts) (bare_append xs ys)

-- what begins a model begins with what begins one
front_in : (front more : List Token) (most : ℕ) → IsBegunIn most (front ++ more) → IsBegunIn most front
front_in front more most begun = (begun.0, more ++ begun.1, begun.2, begun.3, begun.4 ∙ append_assoc front more begun.1)

begun_of : (front : List Token) (most : ℕ) → IsBegunIn most front → IsBegun front
begun_of front most begun = (begun.0, begun.1, begun.2, begun.4)

-- one token more of a longer front
next_in : (xs ys : List Placed) (m : Placed) (more : List Placed) → ys ≡ xs ++ m ∷ more → IsBegunIn most_nesting (bare ys) → IsBegunIn most_nesting (bare xs ++ (m.token ∷ []))
next_in xs ys m more is begun =
    front_in (bare xs ++ (m.token ∷ [])) (bare more) most_nesting
    (subst (IsBegunIn most_nesting) (ap bare is ∙ bare_append xs (m ∷ more) ∙ sym (append_assoc (bare xs) (m.token ∷ []) (bare more))) begun)

refused_next : (xs : List Placed) (m : Placed) (more rest back : List Placed) → back ≡ (m ∷ more) ++ rest → IsRefused (bare xs) (bare back) → IsBegunIn most_nesting (bare xs ++ (m.token ∷ [])) → ⊥
refused_next xs m more rest back is refused begun =
    let there = subst (λ b. IsRefused (bare xs) (bare b)) is refused in
    there (begun_of (bare xs ++ (m.token ∷ [])) most_nesting begun)

deep_next : (xs : List Placed) (m : Placed) (more rest back : List Placed) → back ≡ (m ∷ more) ++ rest → IsTooDeep most_nesting (bare xs) (bare back) → IsBegunIn most_nesting (bare xs ++ (m.token ∷ [])) → ⊥
deep_next xs m more rest back is deep begun =
    let there = subst (λ b. IsTooDeep most_nesting (bare xs) (bare b)) is deep in
    there.1 begun

-- a refused front is no longer than any other that begins a model
pub record Stops (front rest : List Placed) : Type 0 where
  pub stops : (m : Placed) (more behind : List Placed) → rest ≡ (m ∷ more) ++ behind → IsBegunIn most_nesting (bare front ++ (m.token ∷ [])) → ⊥

syntax_stops : {tokens : List Placed} {end at : ℕ} (s : IsSyntax tokens end at) → Stops s.front s.rest
syntax_stops s = record { stops = λ m more behind is begun. refused_next s.front m more behind s.rest is s.refused begun }

deep_stops : {tokens : List Placed} {end at : ℕ} (s : IsDeep tokens end at) → Stops s.front s.rest
deep_stops s = record { stops = λ m more behind is begun. deep_next s.front m more behind s.rest is s.deep begun }

-- two such fronts of the same tokens are one
same_rest : (xs back ys rest : List Placed) → xs ++ back ≡ ys ++ rest → Stops xs back → Stops ys rest → IsBegunIn most_nesting (bare xs) → IsBegunIn most_nesting (bare ys) → (xs ≡ ys) × (back ≡ rest)
same_rest xs back ys rest e stop_x stop_y begun_x begun_y = by (cut_of xs back ys rest e)
  where
    by : IsCut xs back ys rest → (xs ≡ ys) × (back ≡ rest)
    by (alike same behind) = (same, behind)
    by (shorter m more is behind) = absurd (stop_x.stops m more rest behind (next_in xs ys m more is begun_y))
    by (longer m more is behind) = absurd (stop_y.stops m more back behind (next_in ys xs m more is begun_x))

pub one_syntax : (tokens : List Placed) (end at other : ℕ) → IsSyntax tokens end at → IsSyntax tokens end other → at ≡ other
one_syntax tokens end at other s t =
    let same = same_rest s.front s.rest t.front t.rest (sym s.whole ∙ t.whole) (syntax_stops s) (syntax_stops t) s.begun t.begun in
    s.place ∙ ap (λ r. place_of r end) same.1 ∙ sym t.place

pub one_deep : (tokens : List Placed) (end at other : ℕ) → IsDeep tokens end at → IsDeep tokens end other → at ≡ other
one_deep tokens end at other s t =
    let same = same_rest s.front s.rest t.front t.rest (sym s.whole ∙ t.whole) (deep_stops s) (deep_stops t) s.begun t.begun in
    s.place ∙ ap (λ r. place_of r end) same.1 ∙ sym t.place

deep_not_refused : (front rest : List Token) → IsRefused front rest → IsTooDeep most_nesting front rest → ⊥
deep_not_refused front [] refused deep = deep
deep_not_refused front (token ∷ rest) refused deep = refused deep.0

pub syntax_or_deep : (tokens : List Placed) (end at other : ℕ) → IsSyntax tokens end at → IsDeep tokens end other → ⊥
syntax_or_deep tokens end at other s t =
    let same = same_rest s.front s.rest t.front t.rest (sym s.whole ∙ t.whole) (syntax_stops s) (deep_stops t) s.begun t.begun in
    let refused = subst (λ f. IsRefused (bare f) (bare s.rest)) same.0 s.refused in
    let refused_there = subst (λ r. IsRefused (bare t.front) (bare r)) same.1 refused in
    deep_not_refused (bare t.front) (bare t.rest) refused_there t.deep

-- the tokens of a model are not refused

begun_at : (front : List Token) (token : Token) (rest : List Token) (p : Program) → program_fits p ≡ true → nesting p ≤ most_nesting → program_tokens p ≡ front ++ (token ∷ rest) → IsBegunIn most_nesting (front ++ (token ∷ []))
begun_at front token rest p fits nested e = (p, rest, fits, nested, e ∙ sym (append_assoc front (token ∷ []) rest))

refused_no_model : (front rest : List Token) (p : Program) → program_fits p ≡ true → nesting p ≤ most_nesting → program_tokens p ≡ front ++ rest → IsRefused front rest → ⊥
refused_no_model front [] p fits nested e refused = refused p fits (e ∙ append-nil front)
refused_no_model front (token ∷ rest) p fits nested e refused = refused (begun_of (front ++ (token ∷ [])) most_nesting (begun_at front token rest p fits nested e))

deep_no_model : (front rest : List Token) (p : Program) → program_fits p ≡ true → nesting p ≤ most_nesting → program_tokens p ≡ front ++ rest → IsTooDeep most_nesting front rest → ⊥
deep_no_model front [] p fits nested e deep = deep
deep_no_model front (token ∷ rest) p fits nested e deep = deep.1 (begun_at front token rest p fits nested e)

-- the tokens of the tree are the front's and the others
cut_tokens : (tokens front rest : List Placed) (p : Program) → IsTreeOf tokens p → tokens ≡ front ++ rest → program_tokens p ≡ bare front ++ bare rest
cut_tokens tokens front rest p h e = sym h.tokens_are ∙ ap bare e ∙ bare_append front rest

pub syntax_or_model : (tokens : List Placed) (end at : ℕ) (p : Program) → IsTreeOf tokens p → IsSyntax tokens end at → ⊥
syntax_or_model tokens end at p h s = refused_no_model (bare s.front) (bare s.rest) p h.fits h.nested (cut_tokens tokens s.front s.rest p h s.whole) s.refused

pub deep_or_model : (tokens : List Placed) (end at : ℕ) (p : Program) → IsTreeOf tokens p → IsDeep tokens end at → ⊥
deep_or_model tokens end at p h s = deep_no_model (bare s.front) (bare s.rest) p h.fits h.nested (cut_tokens tokens s.front s.rest p h s.whole) s.deep

-- what is answered, by what the answers mean
module _ (tokens : List Placed) (end : ℕ) where
  pub syntax_exact : (r : Result Program ParseError) → IfOk r (IsProgramOf tokens) → IfErr r (λ e. Means tokens end e) → (at : ℕ) → IsSyntax tokens end at → MatchResult r (λ p. ⊥) (IsSameOrMemory (Syntax at))
  syntax_exact (Ok p) model means at s = syntax_or_model tokens end at p model.tree s
  syntax_exact (Err (Syntax other)) model means at s = ap (λ (k : ℕ). Syntax k) (one_syntax tokens end other at means s)
  syntax_exact (Err (TooDeep other)) model means at s = absurd (syntax_or_deep tokens end at other s means)
  syntax_exact (Err Memory) model means at s = tt

  pub deep_exact : (r : Result Program ParseError) → IfOk r (IsProgramOf tokens) → IfErr r (λ e. Means tokens end e) → (at : ℕ) → IsDeep tokens end at → MatchResult r (λ p. ⊥) (IsSameOrMemory (TooDeep at))
  deep_exact (Ok p) model means at s = deep_or_model tokens end at p model.tree s
  deep_exact (Err (Syntax other)) model means at s = absurd (syntax_or_deep tokens end other at means s)
  deep_exact (Err (TooDeep other)) model means at s = ap (λ (k : ℕ). TooDeep k) (one_deep tokens end other at means s)
  deep_exact (Err Memory) model means at s = tt
