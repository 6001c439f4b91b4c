-- What reading means.
use Rattle.std.proofs.Common.{◌≡◌, ◌≤◌, ◌<◌, ◌-◌, ◌*◌, ◌^◌, ℕ, zero, suc, List, [], ◌∷◌, ◌++◌, refl, sym, ◌∙◌, ap, subst, arith, length, take, drop, length-append, length-drop, take-append-drop, ◌⊎◌, inl, inr, Result, Ok, Err, IfOk, MatchResult}
use Rattle.std.proofs.lemmas.List.{take_all}
use Rattle.std.proofs.Math.Seq.{take-append_seam, drop-append_seam}
use Rattle.model_limits.specs.Limits.{most_nesting}
use Rattle.conf_syntax.specs.declared.token.Placed.{Placed}
use Rattle.conf_syntax.specs.declared.token.Token.{Token}
use Rattle.conf_syntax.specs.declared.tree.Program as tree
use Rattle.conf_syntax.specs.AllPlaces.{program_places}
use Rattle.conf_syntax.specs.Begun.{IsProgramIn}
use Rattle.conf_syntax.specs.Models.{IsTreeOf, IsProgramOf}
use Rattle.conf_syntax.specs.Places.{bare, first_at, place_of}
use Rattle.conf_syntax.specs.Plain.{Program}
use Rattle.conf_syntax.specs.Standing.{ProgramStands}
use Rattle.conf_syntax.specs.Views.{program_of}
use Rattle.conf_syntax.proofs.Declared.{nesting_is, all_tokens, all_fit}
use Rattle.conf_syntax.proofs.Fitting.{all_good}
use Rattle.conf_syntax.proofs.LocatedItems.{same_places}
use Rattle.conf_grammar.specs.Fronts.{IsReading}
use Rattle.conf_grammar.specs.Leads.{WholeAt, WrongAt, DeepAt, shown}
use Rattle.conf_grammar.specs.Machine.{Outcome, Whole, Wrong, Deep, reading, start}
use Rattle.conf_grammar.proofs.Exact.{all_right, whole_read, one_program}
use Rattle.conf_parse.specs.declared.parser.ParseError.{ParseError}
use Rattle.conf_parse.specs.declared.parser.ParseError.TheVariants.{Memory}
use Rattle.conf_parse.specs.declared.stop.Stop.TheVariants as stop
use Rattle.conf_parse.specs.Begun.{IsBegunIn, IsRefused, IsTooDeep}
use Rattle.conf_parse.specs.Cursor.{Splits}
use Rattle.conf_parse.specs.Means.{IsSyntax, IsDeep}
use Rattle.conf_parse.specs.Turnings.{IsFault}
use Rattle.conf_parse.proofs.Parts.{bare_length}
use Rattle.conf_parse.proofs.SameBegun.{begun_tree, refused_tree, deep_tree}

pub plain_right : (tokens : List Token) (p : Program) → reading tokens most_nesting start ≡ Whole p → IsProgramIn most_nesting tokens p
plain_right tokens p e = subst (λ (x : Outcome). IsReading most_nesting tokens x) e (all_right tokens most_nesting)

tree_right : (tokens : List Placed) (p : tree.Program) → reading (bare tokens) most_nesting start ≡ Whole (program_of p.items) → IsTreeOf tokens p
tree_right tokens p e =
    let r = plain_right (bare tokens) (program_of p.items) e in
    record {
      tokens_are = r.2 ∙ all_tokens p.items r.0;
      fits = all_fit p.items r.0;
      nested = (let n = r.1 in omega (arith, nesting_is p.items r.0));
    }

pub program_right : (tokens : List Placed) (p : tree.Program) → reading (bare tokens) most_nesting start ≡ Whole (program_of p.items) → ProgramStands tokens p → IsProgramOf tokens p
program_right tokens p e h = record { tree = tree_right tokens p e; places = h }

pub program_only : (tokens : List Token) (p q : Program) → reading tokens most_nesting start ≡ Whole p → IsProgramIn most_nesting tokens q → p ≡ q
program_only tokens p q e h = let r = plain_right tokens p e in one_program p q r.0 h.0 (sym r.2 ∙ h.2)

read_whole : (tokens : List Token) (q : Program) → IsProgramIn most_nesting tokens q → reading tokens most_nesting start ≡ Whole q
read_whole tokens q h = ap (λ (x : List Token). reading x most_nesting start) h.2 ∙ whole_read q most_nesting h.0 h.1

pub syntax_never : (tokens : List Token) (k : ℕ) (q : Program) → IsFault tokens (stop.Syntax k) → IsProgramIn most_nesting tokens q → ⊥
syntax_never tokens k q f h = let e : WholeAt ≡ WrongAt k = sym (ap shown (read_whole tokens q h)) ∙ f.is in cc

pub deep_never : (tokens : List Token) (k : ℕ) (q : Program) → IsFault tokens (stop.TooDeep k) → IsProgramIn most_nesting tokens q → ⊥
deep_never tokens k q f h = let e : WholeAt ≡ DeepAt k = sym (ap shown (read_whole tokens q h)) ∙ f.is in cc

-- the same for trees of the program

pub plain_of : (tokens : List Placed) (p : tree.Program) → IsTreeOf tokens p → IsProgramIn most_nesting (bare tokens) (program_of p.items)
plain_of tokens p i =
    let g = all_good p.items i.fits in
    (g, (let n = i.nested in omega (arith, nesting_is p.items g)), i.tokens_are ∙ sym (all_tokens p.items g))

pub program_again : (tokens : List Placed) (p : Program) (q : tree.Program) → reading (bare tokens) most_nesting start ≡ Whole p → IsTreeOf tokens q → p ≡ program_of q.items
program_again tokens p q e i = program_only (bare tokens) p (program_of q.items) e (plain_of tokens q i)

pub syntax_again : (tokens : List Placed) (k : ℕ) (q : tree.Program) → IsFault (bare tokens) (stop.Syntax k) → IsTreeOf tokens q → ⊥
syntax_again tokens k q f i = syntax_never (bare tokens) k (program_of q.items) f (plain_of tokens q i)

pub deep_again : (tokens : List Placed) (k : ℕ) (q : tree.Program) → IsFault (bare tokens) (stop.TooDeep k) → IsTreeOf tokens q → ⊥
deep_again tokens k q f i = deep_never (bare tokens) k (program_of q.items) f (plain_of tokens q i)

-- and with the places
pub placed_again : (tokens : List Placed) (r : Result tree.Program ParseError) → IfOk r (IsProgramOf tokens) → ((p : tree.Program) → IsTreeOf tokens p → MatchResult r (λ q. program_of q.items ≡ program_of p.items) (λ e. e ≡ Memory)) → (p : tree.Program) → IsProgramOf tokens p → MatchResult r (λ q. program_places q ≡ program_places p) (λ e. e ≡ Memory)
placed_again tokens (Ok q) ok again p h = same_places tokens q.items p.items (all_good q.items ok.tree.fits) (again p h.tree) ok.places h.places
placed_again tokens (Err e) ok again p h = again p h.tree

-- tokens are those of at most one model with its places
pub one_model : (tokens : List Placed) (p q : tree.Program) → IsProgramOf tokens p → IsProgramOf tokens q → (program_of p.items ≡ program_of q.items) × (program_places p ≡ program_places q)
one_model tokens p q h i =
    let a = plain_of tokens p h.tree in
    let b = plain_of tokens q i.tree in
    let e = one_program (program_of p.items) (program_of q.items) a.0 b.0 (sym a.2 ∙ b.2) in
    (e, same_places tokens p.items q.items a.0 e h.places i.places)

-- the place

pub rest_from : (n : ℕ) (xs : List Placed) → take (length xs - n) (drop n xs) ≡ drop n xs
rest_from n xs = take_all (length xs - n) (drop n xs) (omega (arith, length-drop n xs))

end_by : (rest : List Placed) (end : ℕ) → bare rest ≡ [] → end ≡ place_of rest end
end_by [] end e = refl
end_by (x ∷ xs) end e = absurd cc

token_by : (rest : List Placed) (end at : ℕ) (t : Token) (more : List Token) → bare rest ≡ t ∷ more → at ≡ first_at rest → at ≡ place_of rest end
token_by [] end at t more e i = absurd cc
token_by (x ∷ xs) end at t more e i = i

pub place_end : (rest tokens : List Placed) (n end : ℕ) → rest ≡ drop n tokens → bare rest ≡ [] → end ≡ place_of (drop n tokens) end
place_end rest tokens n end e h = subst (λ (x : List Placed). end ≡ place_of x end) e (end_by rest end h)

pub place_token : (rest tokens : List Placed) (n end : ℕ) (token : Placed) (after : List Placed) → rest ≡ drop n tokens → Splits rest token after → token.at ≡ place_of (drop n tokens) end
place_token rest tokens n end token after e s = subst (λ (x : List Placed). token.at ≡ place_of x end) e (token_by rest end token.at token.token (bare after) s.bare_is s.at_is)

-- the cut at the place

bare_take : (n : ℕ) (xs : List Placed) → bare (take n xs) ≡ take n (bare xs)
bare_take zero xs = refl
bare_take (suc n) [] = refl
bare_take (suc n) (x ∷ xs) = ap (λ (y : List Token). x.token ∷ y) (bare_take n xs)

bare_drop : (n : ℕ) (xs : List Placed) → bare (drop n xs) ≡ drop n (bare xs)
bare_drop zero xs = refl
bare_drop (suc n) [] = refl
bare_drop (suc n) (x ∷ xs) = bare_drop n xs

front_long : (tokens front rest : List Token) → tokens ≡ front ++ rest → length tokens - length rest ≡ length front
front_long tokens front rest e = omega (arith, ap length e, length-append front rest)

front_is : (tokens front rest : List Token) (n : ℕ) → tokens ≡ front ++ rest → n ≡ length tokens - length rest → take n tokens ≡ front
front_is tokens front rest n e k = ap (λ (x : ℕ). take x tokens) (k ∙ front_long tokens front rest e) ∙ ap (λ (x : List Token). take (length front) x) e ∙ take-append_seam front rest

rest_is : (tokens front rest : List Token) (n : ℕ) → tokens ≡ front ++ rest → n ≡ length tokens - length rest → drop n tokens ≡ rest
rest_is tokens front rest n e k = ap (λ (x : ℕ). drop x tokens) (k ∙ front_long tokens front rest e) ∙ ap (λ (x : List Token). drop (length front) x) e ∙ drop-append_seam front rest

wrong_is : (a b : ℕ) → WrongAt a ≡ WrongAt b → a ≡ b
wrong_is a b e = cc

deep_is : (a b : ℕ) → DeepAt a ≡ DeepAt b → a ≡ b
deep_is a b e = cc

-- what holds of the cut of bare tokens holds of that of the tokens
cut : (P : List Token → List Token → Type 0) (tokens : List Placed) (front rest : List Token) (k : ℕ) → bare tokens ≡ front ++ rest → length rest ≡ k → P front rest → P (bare (take (length tokens - k) tokens)) (bare (drop (length tokens - k) tokens))
cut P tokens front rest k e i h =
    let n : length tokens - k ≡ length (bare tokens) - length rest = omega (arith, bare_length tokens, i) in
    subst (λ (x : List Token). P x (bare (drop (length tokens - k) tokens))) (sym (bare_take (length tokens - k) tokens ∙ front_is (bare tokens) front rest (length tokens - k) e n))
    (subst (λ (x : List Token). P front x) (sym (bare_drop (length tokens - k) tokens ∙ rest_is (bare tokens) front rest (length tokens - k) e n)) h)

-- the front is no longer than the tokens
front_few : (tokens : List Placed) (front rest : List Token) → bare tokens ≡ front ++ rest → length tokens * 16 < 2 ^ 63 → length front * 16 < 2 ^ 63
front_few tokens front rest e few = omega (arith, ap length e, length-append front rest, bare_length tokens)

whole_few : (tokens : List Placed) (front rest : List Token) → bare tokens ≡ front ++ rest → length tokens * 16 < 2 ^ 63 → length (front ++ rest) * 16 < 2 ^ 63
whole_few tokens front rest e few = omega (arith, ap length e, bare_length tokens)

syntax_by : (tokens : List Placed) (end at k : ℕ) (o : Outcome) → length tokens * 16 < 2 ^ 63 → IsReading most_nesting (bare tokens) o → shown o ≡ WrongAt k → at ≡ place_of (drop (length tokens - k) tokens) end → IsSyntax tokens end at
syntax_by tokens end at k (Whole p) few r e i = absurd cc
syntax_by tokens end at k (Deep rest) few r e i = absurd cc
syntax_by tokens end at k (Wrong rest) few r e i = record {
  front = take (length tokens - k) tokens;
  rest = drop (length tokens - k) tokens;
  whole = sym (take-append-drop (length tokens - k) tokens);
  place = i;
  begun = cut (λ a b. IsBegunIn most_nesting a) tokens r.0 rest k r.1 (wrong_is (length rest) k e) (begun_tree most_nesting r.0 (front_few tokens r.0 rest r.1 few) r.2);
  refused = cut IsRefused tokens r.0 rest k r.1 (wrong_is (length rest) k e) (refused_tree r.0 rest r.3);
}

deep_by : (tokens : List Placed) (end at k : ℕ) (o : Outcome) → length tokens * 16 < 2 ^ 63 → IsReading most_nesting (bare tokens) o → shown o ≡ DeepAt k → at ≡ place_of (drop (length tokens - k) tokens) end → IsDeep tokens end at
deep_by tokens end at k (Whole p) few r e i = absurd cc
deep_by tokens end at k (Wrong rest) few r e i = absurd cc
deep_by tokens end at k (Deep rest) few r e i = record {
  front = take (length tokens - k) tokens;
  rest = drop (length tokens - k) tokens;
  whole = sym (take-append-drop (length tokens - k) tokens);
  place = i;
  begun = cut (λ a b. IsBegunIn most_nesting a) tokens r.0 rest k r.1 (deep_is (length rest) k e) (begun_tree most_nesting r.0 (front_few tokens r.0 rest r.1 few) r.2);
  deep = cut (λ a b. IsTooDeep most_nesting a b) tokens r.0 rest k r.1 (deep_is (length rest) k e) (deep_tree most_nesting r.0 rest (whole_few tokens r.0 rest r.1 few) r.3);
}

pub syntax_means : (tokens : List Placed) (end at k : ℕ) → length tokens * 16 < 2 ^ 63 → IsFault (bare tokens) (stop.Syntax k) → at ≡ place_of (drop (length tokens - k) tokens) end → IsSyntax tokens end at
syntax_means tokens end at k few f i = syntax_by tokens end at k (reading (bare tokens) most_nesting start) few (all_right (bare tokens) most_nesting) f.is i

pub deep_means : (tokens : List Placed) (end at k : ℕ) → length tokens * 16 < 2 ^ 63 → IsFault (bare tokens) (stop.TooDeep k) → at ≡ place_of (drop (length tokens - k) tokens) end → IsDeep tokens end at
deep_means tokens end at k few f i = deep_by tokens end at k (reading (bare tokens) most_nesting start) few (all_right (bare tokens) most_nesting) f.is i

within_by : (tokens : List Token) (k : ℕ) (o : Outcome) → IsReading most_nesting tokens o → (shown o ≡ WrongAt k) ⊎ (shown o ≡ DeepAt k) → k ≤ length tokens
within_by tokens k (Whole p) r (inl e) = absurd cc
within_by tokens k (Whole p) r (inr e) = absurd cc
within_by tokens k (Deep rest) r (inl e) = absurd cc
within_by tokens k (Wrong rest) r (inr e) = absurd cc
within_by tokens k (Wrong rest) r (inl e) = let n = wrong_is (length rest) k e in let i = r.1 in omega (arith, ap length i, length-append r.0 rest)
within_by tokens k (Deep rest) r (inr e) = let n = deep_is (length rest) k e in let i = r.1 in omega (arith, ap length i, length-append r.0 rest)

pub syntax_within : (tokens : List Placed) (k : ℕ) → IsFault (bare tokens) (stop.Syntax k) → k ≤ length tokens
syntax_within tokens k f = let a = within_by (bare tokens) k (reading (bare tokens) most_nesting start) (all_right (bare tokens) most_nesting) (inl f.is) in omega (arith, bare_length tokens)

pub deep_within : (tokens : List Placed) (k : ℕ) → IsFault (bare tokens) (stop.TooDeep k) → k ≤ length tokens
deep_within tokens k f = let a = within_by (bare tokens) k (reading (bare tokens) most_nesting start) (all_right (bare tokens) most_nesting) (inr f.is) in omega (arith, bare_length tokens)
