-- The clauses that stand at places, as bytes and places are added.
use Rattle.std.proofs.Common.{◌≡◌, ℕ, zero, suc, ◌<◌, ◌≤◌, List, [], ◌∷◌, ◌++◌, length, get_or, drop, refl, sym, ap, ◌∙◌, subst, arith}
use Rattle.std.proofs.lemmas.List.Elements.{All-append}
use Rattle.std.proofs.lemmas.List.{append_assoc, length-append, take-append-drop, drop-append-le}
use Rattle.signed_clause.specs.Clauses.{Literals, IsClause}
use Rattle.numbered_clauses.specs.Coded.{clause_bytes, clause_in, FitsClause}
use Rattle.numbered_clauses.specs.Packed.{clauses_at, IsWhole, AreWhole, StandsAt, HasGrown}
use Rattle.numbered_clauses.proofs.CodeLaws.{clause_read}

pub count_of : (bytes places : List ℕ) → length (clauses_at bytes places) ≡ length places
count_of bytes [] = refl
count_of bytes (p ∷ ps) = ap (λ (n : ℕ). suc n) (count_of bytes ps)

clause_is : (bytes places : List ℕ) (k d : ℕ) → k < length places → clause_in (drop (get_or places k d) bytes) ≡ get_or (clauses_at bytes places) k []
clause_is bytes [] k d h = absurd (omega arith)
clause_is bytes (q ∷ ps) zero d h = refl
clause_is bytes (q ∷ ps) (suc k) d h = clause_is bytes ps k d (omega arith)

pub found_is : (bytes places bs ps : List ℕ) (whole : List Literals) (k d : ℕ) (c : Literals) → clauses_at bytes places ≡ whole → bs ≡ bytes → ps ≡ places → k < length ps → c ≡ clause_in (drop (get_or ps k d) bs) → c ≡ get_or whole k []
found_is bytes places bs ps whole k d c e same all h is =
    is ∙ clause_is bs ps k d h
    ∙ ap (λ (z : List Literals). get_or z k []) (ap (λ (z : List ℕ). clauses_at z ps) same ∙ ap (clauses_at bytes) all ∙ e)

-- ---- more bytes

longer : (old more : List ℕ) (p : ℕ) → p ≤ length old → p ≤ length (old ++ more)
longer old more p h = let n = length-append old more in omega arith

whole_longer : (old more : List ℕ) (p : ℕ) → IsWhole old p → IsWhole (old ++ more) p
whole_longer old more p w =
    let left = drop-append-le p old more w.within in
    record {
      within = longer old more p w.within;
      form = rw (left, w.same more) w.form;
      same = λ m. rw left (ap clause_in (append_assoc (drop p old) more m) ∙ w.same (more ++ m) ∙ sym (w.same more));
    }

clauses_longer : (old more places : List ℕ) → AreWhole old places → clauses_at (old ++ more) places ≡ clauses_at old places
clauses_longer old more [] w = refl
clauses_longer old more (p ∷ ps) w =
    let first = w 0 p (omega arith) in
    let left = drop-append-le p old more first.within in
    let rest = clauses_longer old more ps (λ k d h. w (suc k) d (omega arith)) in
    rw (left, first.same more, rest) refl

grown : (old new : List ℕ) → HasGrown old new → new ≡ old ++ drop (length old) new
grown old new g = sym (take-append-drop (length old) new) ∙ ap (λ (z : List ℕ). z ++ drop (length old) new) g

pub still_whole : (old new places : List ℕ) → HasGrown old new → AreWhole old places → AreWhole new places
still_whole old new places g w =
    let more = drop (length old) new in
    subst (λ (z : List ℕ). AreWhole z places) (sym (grown old new g)) (λ k d h. whole_longer old more (get_or places k d) (w k d h))

pub still_same : (old new places : List ℕ) → HasGrown old new → AreWhole old places → clauses_at new places ≡ clauses_at old places
still_same old new places g w =
    ap (λ (z : List ℕ). clauses_at z places) (grown old new g) ∙ clauses_longer old (drop (length old) new) places w

-- ---- one more place

stands : (bytes text : List ℕ) (p : ℕ) → StandsAt bytes p text → drop p bytes ≡ text ++ drop (length text) (drop p bytes)
stands bytes text p s =
    let behind = drop p bytes in
    sym (take-append-drop (length text) behind) ∙ ap (λ (z : List ℕ). z ++ drop (length text) behind) s.found

-- the bytes from a place on begin with those of the clause
begins : (bytes text more : List ℕ) (p : ℕ) (c : Literals) → StandsAt bytes p text → text ≡ clause_bytes c → FitsClause c → clause_in (drop p bytes ++ more) ≡ c
begins bytes text more p c s e f =
    let rest = drop (length text) (drop p bytes) in
    ap (λ (z : List ℕ). clause_in (z ++ more)) (stands bytes text p s ∙ ap (λ (z : List ℕ). z ++ rest) e)
    ∙ ap clause_in (append_assoc (clause_bytes c) rest more)
    ∙ clause_read c (rest ++ more) f

here : (bytes text : List ℕ) (p : ℕ) (c : Literals) → StandsAt bytes p text → text ≡ clause_bytes c → FitsClause c → clause_in (drop p bytes) ≡ c
here bytes text p c s e f =
    ap clause_in (stands bytes text p s ∙ ap (λ (z : List ℕ). z ++ drop (length text) (drop p bytes)) e)
    ∙ clause_read c (drop (length text) (drop p bytes)) f

place_whole : (bytes text : List ℕ) (p : ℕ) (c : Literals) → StandsAt bytes p text → text ≡ clause_bytes c → FitsClause c → IsClause c → IsWhole bytes p
place_whole bytes text p c s e f k = record {
  within = s.within;
  form = subst IsClause (sym (here bytes text p c s e f)) k;
  same = λ more. begins bytes text more p c s e f ∙ sym (here bytes text p c s e f);
}

pub one_more_whole : (bytes text places : List ℕ) (p : ℕ) (c : Literals) → StandsAt bytes p text → text ≡ clause_bytes c → FitsClause c → IsClause c → AreWhole bytes places → AreWhole bytes (places ++ p ∷ [])
one_more_whole bytes text places p c s e f k w =
    All-append (λ (n : ℕ). IsWhole bytes n) places (p ∷ []) w (λ i d h. (
    let first : i ≡ 0 = omega arith in
    rw first (place_whole bytes text p c s e f k)))

places_more : (bytes places : List ℕ) (p : ℕ) → clauses_at bytes (places ++ p ∷ []) ≡ clauses_at bytes places ++ clause_in (drop p bytes) ∷ []
places_more bytes [] p = refl
places_more bytes (q ∷ ps) p = ap (λ (z : List Literals). clause_in (drop q bytes) ∷ z) (places_more bytes ps p)

pub one_more : (bytes text places : List ℕ) (p : ℕ) (c : Literals) → StandsAt bytes p text → text ≡ clause_bytes c → FitsClause c → clauses_at bytes (places ++ p ∷ []) ≡ clauses_at bytes places ++ c ∷ []
one_more bytes text places p c s e f =
    places_more bytes places p ∙ ap (λ (d : Literals). clauses_at bytes places ++ d ∷ []) (here bytes text p c s e f)

pub pushed : (before bytes text places now : List ℕ) (whole : List Literals) (p : ℕ) (c : Literals) → HasGrown before bytes → AreWhole before places → clauses_at before places ≡ whole →
    StandsAt bytes p text → text ≡ clause_bytes c → FitsClause c → now ≡ places ++ p ∷ [] → clauses_at bytes now ≡ whole ++ c ∷ []
pushed before bytes text places now whole p c g w v s e f n =
    ap (clauses_at bytes) n ∙ one_more bytes text places p c s e f
    ∙ ap (λ (z : List Literals). z ++ c ∷ []) (still_same before bytes places g w ∙ v)
