-- Constraints and goals.
use Rattle.std.proofs.Common.{◌≡◌, ◌≤◌, ℕ, true, false, Bool, List, [], ◌∷◌, ◌++◌, refl, sym, ◌∙◌, ap, subst, arith, None, Some, length}
use Rattle.std.proofs.lemmas.Bool.{cond-false}
use Rattle.model_limits.specs.Limits.{most_nesting}
use Rattle.conf_syntax.specs.declared.token.Key.TheVariants as key
use Rattle.conf_syntax.specs.declared.token.Mark.TheVariants as mark
use Rattle.conf_syntax.specs.declared.token.Placed.{Placed}
use Rattle.conf_syntax.specs.declared.token.Token.{Token}
use Rattle.conf_syntax.specs.declared.token.Token.TheVariants.{Key, Mark}
use Rattle.conf_syntax.specs.declared.tree.Expr.{Expr}
use Rattle.conf_syntax.specs.Places.{bare}
use Rattle.conf_syntax.specs.Plain.{Tree, Exprs, NoExpr, WithExpr, Where, Braces, Goal, Program, level, nest, exprs_nest, member_nest, nesting}
use Rattle.conf_syntax.specs.Trees.{goal_key}
use Rattle.conf_syntax.specs.Views.{tree_of, exprs_from, where_of}
use Rattle.conf_grammar.specs.Machine.{Home, Ground, Lone, Inner, GoalOf, WhereAt, BracesAt, At, Need, Have, closing, goes, gone, ends, need, home_with, home_done, ground_ends, where_step, braces_by, step, completed, hole}
use Rattle.conf_grammar.specs.Leads.{ground_base, Fits, Leads, at, Turns, Fails, WrongAt, IsNot, home_low, goes_on}
use Rattle.conf_grammar.proofs.Homes.{with_nest, ground_nest}
use Rattle.conf_grammar.proofs.Leading as l
use Rattle.conf_grammar.proofs.Turning as t
use Rattle.conf_grammar.proofs.Whole.{home_where}
use Rattle.conf_parse.specs.declared.stop.Stop.{Stop}
use Rattle.conf_parse.specs.declared.stop.Stop.TheVariants.{Syntax, TooDeep, Memory}
use Rattle.conf_parse.specs.Cursor.{Takes}
use Rattle.conf_parse.specs.Parts.{Errs}
use Rattle.conf_parse.specs.Turnings.{TurnErrs, home_at, home_and, braces_at, need_at, ground_and, program_at, program_and}
use Rattle.conf_parse.proofs.Shapes.{turn_errs, turn_errs_on, fails_here, turned, not_at}

outside : (p : Ground) → ground_base p ≤ most_nesting → Fits p [] 1 most_nesting
outside p h = record { slot_is = refl; deep = omega arith; low = h }

-- an expression of its own
whole_leads : (tokens behind : List Token) (v : Tree) → Leads 1 most_nesting Need tokens (at v) behind → Turns ground_base need_at tokens (λ p. Have p [] v) behind
whole_leads tokens behind v i = record { is = λ p h. i.is p [] (outside p h) }

home_ends_low : (h : Home) (v : Tree) → home_low h ≤ most_nesting → nest v ≤ most_nesting → nesting (home_done (home_with h (Where v))) ≤ most_nesting
home_ends_low h v n m = omega (arith, with_nest h (Where v))

ends_low : (p : Ground) (v : Tree) → ground_base p ≤ most_nesting → nest v ≤ most_nesting → nesting (completed (At (ground_ends p v))) ≤ most_nesting
ends_low (Lone h) v n m = home_ends_low h v n m
ends_low (Inner h es) v n m = omega (arith, with_nest h (Braces (WithExpr es v)))
ends_low (GoalOf p q) v n m = omega arith

pub expr_part : (tokens behind rest : List Placed) (v : Tree) → Leads 1 most_nesting Need (bare tokens) (at v) (bare behind) → nest v ≤ most_nesting → Takes behind (Mark mark.Semicolon) rest → Turns ground_base need_at (bare tokens) (ground_and v) (bare rest)
expr_part tokens behind rest v i n k =
    t.turns_on (whole_leads (bare tokens) (bare behind) v i)
    (turned behind (Mark mark.Semicolon ∷ bare rest) (bare rest) k.bare_is
    (record { is = λ p h. l.moves (Mark mark.Semicolon) (bare rest) (Have p [] v) (At (ground_ends p v)) refl (ends_low p v h n) }))

ends_none : (p : Ground) (v : Tree) (x : Token) → (x ≡ Mark mark.Semicolon → ⊥) → ends p v x ≡ None
ends_none p v (Mark mark.Semicolon) h = absurd (h refl)
ends_none p v _ h = refl

unended : (v : Tree) (tokens : List Token) → goes_on 1 (level v) tokens ≡ false → IsNot (Mark mark.Semicolon) tokens → Fails ground_base (λ p. Have p [] v) tokens (WrongAt (length tokens))
unended v [] g n = record { is = λ p h. refl }
unended v (x ∷ rest) g n = t.fails_token ground_base (λ p. Have p [] v) x rest (λ p. cond-false (goes 1 (level v) x) (Some (gone p [] v x)) (ends p v x) g ∙ ends_none p v x n)

pub expr_open : (tokens behind : List Placed) (v : Tree) (m : ℕ) → Leads 1 most_nesting Need (bare tokens) (at v) (bare behind) → m ≡ level v → goes_on 1 m (bare behind) ≡ false → IsNot (Mark mark.Semicolon) (bare behind) → TurnErrs ground_base need_at (bare tokens) (Syntax (length behind))
expr_open tokens behind v m i e g n =
    turn_errs_on ground_base need_at (λ p. Have p [] v) (bare tokens) (bare behind) (Syntax (length behind)) (whole_leads (bare tokens) (bare behind) v i)
    (fails_here ground_base (λ p. Have p [] v) behind (unended v (bare behind) (subst (λ (x : ℕ). goes_on 1 x (bare behind) ≡ false) e g) n))

pub expr_error : (tokens : List Token) (e : Stop) → Errs 1 most_nesting Need tokens e → TurnErrs ground_base need_at tokens e
expr_error tokens (Syntax k) r = record { is = record { is = λ p h. (r.is).is p [] (outside p h) } }
expr_error tokens (TooDeep k) r = record { is = record { is = λ p h. (r.is).is p [] (outside p h) } }
expr_error tokens Memory r = record { is = tt }

-- `where`

where_low : (h : Home) → home_low h ≤ most_nesting → nesting (completed (At (WhereAt h))) ≤ most_nesting
where_low h n = omega (arith, with_nest h (Braces NoExpr))

where_turns : (tokens after : List Placed) → Takes tokens (Key key.Where) after → Turns home_low home_at (bare tokens) (λ h. At (WhereAt h)) (bare after)
where_turns tokens after k = turned tokens (Key key.Where ∷ bare after) (bare after) k.bare_is (t.turns_token home_low home_at (λ h. At (WhereAt h)) (Key key.Where) (bare after) home_where where_low)

lone_step : (h : Home) (x : Token) → (x ≡ Mark mark.OpenBrace → ⊥) → where_step h x ≡ need (Lone h) [] x
lone_step h (Mark mark.OpenBrace) n = absurd (n refl)
lone_step h _ n = refl

to_lone : (tokens : List Token) → IsNot (Mark mark.OpenBrace) tokens → Turns home_low (λ h. At (WhereAt h)) tokens (λ h. Need (Lone h) []) tokens
to_lone tokens n = record { is = λ h k. l.same_step tokens (At (WhereAt h)) (Need (Lone h) []) refl (λ x rest e. lone_step h x (not_at (Mark mark.OpenBrace) tokens x rest e n)) }

ground_lone : (a b : List Token) (v : Tree) → Turns ground_base need_at a (ground_and v) b → Turns home_low (λ h. Need (Lone h) []) a (home_and (Where v)) b
ground_lone a b v i = record { is = λ h n. i.is (Lone h) n }

pub lone_part : (tokens after rest : List Placed) (xs : List Expr) (e : Expr) → Takes tokens (Key key.Where) after → IsNot (Mark mark.OpenBrace) (bare after) → Turns ground_base need_at (bare after) (ground_and (tree_of e.node)) (bare rest) → xs ≡ e ∷ [] → Turns home_low home_at (bare tokens) (home_and (where_of false xs)) (bare rest)
lone_part tokens after rest xs e k n i q =
    subst (λ (x : List Expr). Turns home_low home_at (bare tokens) (home_and (where_of false x)) (bare rest)) (sym q)
    (t.turns_on (where_turns tokens after k) (t.turns_on (to_lone (bare after) n) (ground_lone (bare after) (bare rest) (tree_of e.node) i)))

pub lone_error : (tokens after : List Placed) (e : Stop) → Takes tokens (Key key.Where) after → IsNot (Mark mark.OpenBrace) (bare after) → TurnErrs ground_base need_at (bare after) e → TurnErrs home_low home_at (bare tokens) e
lone_error tokens after e k n r =
    turn_errs home_low ground_base home_at need_at (bare tokens) (bare after) e
    (λ out x. t.turns_fail (t.turns_on (where_turns tokens after k) (to_lone (bare after) n)) (record { is = λ h m. x.is (Lone h) m })) r

pub lone_nest : (xs : List Expr) (e : Expr) (n : ℕ) → xs ≡ e ∷ [] → n ≡ nest (tree_of e.node) → n ≤ most_nesting → member_nest (where_of false xs) ≤ most_nesting
lone_nest xs e n q i h = subst (λ (x : List Expr). member_nest (where_of false x) ≤ most_nesting) (sym q) (omega (arith, i))

-- braces

pub exprs_more : (es : Exprs) (xs : List Expr) (x : Expr) → exprs_from es (xs ++ (x ∷ [])) ≡ WithExpr (exprs_from es xs) (tree_of x.node)
exprs_more es [] x = refl
exprs_more es (y ∷ ys) x = exprs_more (WithExpr es (tree_of y.node)) ys x

pub braces_start : (tokens after inside : List Placed) (xs : List Expr) → Takes tokens (Key key.Where) after → Takes after (Mark mark.OpenBrace) inside → xs ≡ [] → Turns home_low home_at (bare tokens) (braces_at (exprs_from NoExpr xs)) (bare inside)
braces_start tokens after inside xs k i e =
    subst (λ (x : List Expr). Turns home_low home_at (bare tokens) (braces_at (exprs_from NoExpr x)) (bare inside)) (sym e)
    (t.turns_on (where_turns tokens after k)
    (turned after (Mark mark.OpenBrace ∷ bare inside) (bare inside) i.bare_is (t.turns_token home_low (λ h. At (WhereAt h)) (braces_at NoExpr) (Mark mark.OpenBrace) (bare inside) (λ h. refl) where_low)))

braces_step : (h : Home) (es : Exprs) (x : Token) → (x ≡ Mark mark.CloseBrace → ⊥) → braces_by h es x (closing x) ≡ need (Inner h es) [] x
braces_step h es (Mark mark.CloseBrace) n = absurd (n refl)
braces_step h es _ n = refl

to_inner : (es : Exprs) (tokens : List Token) → IsNot (Mark mark.CloseBrace) tokens → Turns home_low (braces_at es) tokens (λ h. Need (Inner h es) []) tokens
to_inner es tokens n = record { is = λ h k. l.same_step tokens (At (BracesAt h es)) (Need (Inner h es) []) refl (λ x rest e. braces_step h es x (not_at (Mark mark.CloseBrace) tokens x rest e n)) }

inner_low : (es : Exprs) (h : Home) → exprs_nest es ≤ most_nesting → home_low h ≤ most_nesting → ground_base (Inner h es) ≤ most_nesting
inner_low es h n m = omega arith

module _ (tokens rest : List Placed) (xs : List Expr) (i : Turns home_low home_at (bare tokens) (braces_at (exprs_from NoExpr xs)) (bare rest)) (m : exprs_nest (exprs_from NoExpr xs) ≤ most_nesting) where
  pub braces_more : (behind : List Placed) (ys : List Expr) (e : Expr) → IsNot (Mark mark.CloseBrace) (bare rest) → Turns ground_base need_at (bare rest) (ground_and (tree_of e.node)) (bare behind) → ys ≡ xs ++ (e ∷ []) → Turns home_low home_at (bare tokens) (braces_at (exprs_from NoExpr ys)) (bare behind)
  braces_more behind ys e n j q =
      subst (λ (x : Exprs). Turns home_low home_at (bare tokens) (braces_at x) (bare behind)) (sym (ap (λ (x : List Expr). exprs_from NoExpr x) q ∙ exprs_more NoExpr xs e))
      (t.turns_on i (t.turns_on (to_inner (exprs_from NoExpr xs) (bare rest) n) (record { is = λ h k. j.is (Inner h (exprs_from NoExpr xs)) (inner_low (exprs_from NoExpr xs) h m k) })))

  pub braces_error : (e : Stop) → IsNot (Mark mark.CloseBrace) (bare rest) → TurnErrs ground_base need_at (bare rest) e → TurnErrs home_low home_at (bare tokens) e
  braces_error e n r =
      turn_errs home_low ground_base home_at need_at (bare tokens) (bare rest) e
      (λ out x. t.turns_fail (t.turns_on i (to_inner (exprs_from NoExpr xs) (bare rest) n)) (record { is = λ h k. x.is (Inner h (exprs_from NoExpr xs)) (inner_low (exprs_from NoExpr xs) h m k) })) r

  pub braces_end : (behind : List Placed) → Takes rest (Mark mark.CloseBrace) behind → Turns home_low home_at (bare tokens) (home_and (where_of true xs)) (bare behind)
  braces_end behind k =
      t.turns_on i (turned rest (Mark mark.CloseBrace ∷ bare behind) (bare behind) k.bare_is
      (t.turns_token home_low (braces_at (exprs_from NoExpr xs)) (home_and (Braces (exprs_from NoExpr xs))) (Mark mark.CloseBrace) (bare behind) (λ h. refl) (λ h n. omega (arith, with_nest h (Braces (exprs_from NoExpr xs))))))

pub braces_nest : (xs ys : List Expr) (e : Expr) (n : ℕ) → exprs_nest (exprs_from NoExpr xs) ≤ most_nesting → ys ≡ xs ++ (e ∷ []) → n ≡ nest (tree_of e.node) → n ≤ most_nesting → exprs_nest (exprs_from NoExpr ys) ≤ most_nesting
braces_nest xs ys e n m q i k = let a = ap exprs_nest (ap (λ (x : List Expr). exprs_from NoExpr x) q ∙ exprs_more NoExpr xs e) in omega (arith, a, i)

pub braces_none : (xs : List Expr) → xs ≡ [] → exprs_nest (exprs_from NoExpr xs) ≤ most_nesting
braces_none xs e = omega (arith, ap (λ (x : List Expr). exprs_nest (exprs_from NoExpr x)) e)

-- goals

goal_step : (p : Program) (m : Bool) → step (program_at p) (goal_key m) ≡ Some (Need (GoalOf p m) [])
goal_step p true = refl
goal_step p false = refl

goal_turns : (m : Bool) (tokens after : List Placed) → Takes tokens (goal_key m) after → Turns nesting program_at (bare tokens) (λ p. Need (GoalOf p m) []) (bare after)
goal_turns m tokens after k = turned tokens (goal_key m ∷ bare after) (bare after) k.bare_is (t.turns_token nesting program_at (λ p. Need (GoalOf p m) []) (goal_key m) (bare after) (λ p. goal_step p m) (λ p n. omega (arith, ground_nest (GoalOf p m) hole)))

pub goal_part : (m : Bool) (tokens after rest : List Placed) (v : Tree) → Takes tokens (goal_key m) after → Turns ground_base need_at (bare after) (ground_and v) (bare rest) → Turns nesting program_at (bare tokens) (program_and (Goal m v)) (bare rest)
goal_part m tokens after rest v k i = t.turns_on (goal_turns m tokens after k) (record { is = λ p n. i.is (GoalOf p m) n })

pub goal_error : (m : Bool) (tokens after : List Placed) (e : Stop) → Takes tokens (goal_key m) after → TurnErrs ground_base need_at (bare after) e → TurnErrs nesting program_at (bare tokens) e
goal_error m tokens after e k r =
    turn_errs nesting ground_base program_at need_at (bare tokens) (bare after) e (λ out x. t.turns_fail (goal_turns m tokens after k) (record { is = λ p n. x.is (GoalOf p m) n })) r
