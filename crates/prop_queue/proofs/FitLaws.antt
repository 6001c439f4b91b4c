-- What changes of boxes and of the list mean for which boxes a queue fits.
use Rattle.std.proofs.Common.{◌≡◌, ℕ, suc, zero, ◌<◌, ◌==◌, Bool, true, false, cond, List, [], ◌∷◌, ◌||◌, ◌⊎◌, Option, Some, None, All, length, arith, refl, sym, ◌∙◌, inl, inr, subst, slice_get}
use Rattle.std.specs.Option.{IfNone}
use Rattle.signed_clause.specs.Clauses.{Boxes, Literals}
use Rattle.ground_form.specs.declared.con.Con.{Con}
use Rattle.ground_form.specs.declared.ground.Ground.{Ground}
use Rattle.ground_form.specs.Meaning.{vars_of}
use Rattle.ground_form.specs.WellMade.{IsWellMade, IsWellMadeCon}
use Rattle.box_rules.specs.Named.{Agree}
use Rattle.box_rules.specs.Quiet.{quiet}
use Rattle.box_rules.proofs.QuietAgree.{agree_quiet}
use Rattle.rule_law.specs.Reasons.{has_number}
use Rattle.ground_form.specs.declared.con.Con.TheVariants.{ClauseCon}
use Rattle.ground_form.specs.Meaning.{clause_vars}
use Rattle.box_view.proofs.EndLaws.{are_sets}
use Rattle.rule_law.specs.Answers.{AreBoxesWithin}
use Rattle.rule_law.proofs.ClauseQuiet.{clause_quiet, named_here}
use Rattle.clause_watches.specs.declared.rest.Rest.{Rest}
use Rattle.clause_watches.specs.declared.rest.Rest.TheVariants.{Listed}
use Rattle.clause_watches.specs.Watching.{acts, clause_of, IsKnown, DifferAt}
use Rattle.prop_queue.specs.Work.{Work, is_clause, literals_of, listed_vars, clauses_from, others_from, is_marked, row_of, IsOver, FitsMarks, AreAllQuiet}
use Rattle.prop_queue.specs.Lists.{IsFilled}
use Rattle.prop_queue.proofs.ClauseLaws.{is_it, listed_plain, other_listed, HasEntry, has_entry}

-- ---- one box changes

or_false : (a b : Bool) → (a || b) ≡ false → (a ≡ false) × (b ≡ false)
or_false true b e = absurd (cc)
or_false false b e = (refl, e)

agree_else : (xs : List ℕ) (x : ℕ) (a b : Boxes) → DifferAt x a b → has_number x xs ≡ false →
    Agree a b xs
agree_else [] x a b d h = tt
agree_else (y ∷ ys) x a b d h =
    let parts = or_false (y == x) (has_number x ys) h in
    let other : (y ≡ x → ⊥) =
    λ e. let yes : (y == x) ≡ true = grind arith in let no = parts.0 in cc in
    (d y other, agree_else ys x a b d parts.1)

pub con_at : (cons : List Con) (domains : Boxes) (k : ℕ) (con : Con) →
    All (λ c. IsWellMadeCon domains c) cons →
    slice_get cons k ≡ Some con → IsWellMadeCon domains con
con_at [] domains k con h e = absurd (cc)
con_at (c ∷ cs) domains zero con h e =
    let same : c ≡ con = cc in
    subst (λ (z : Con). IsWellMadeCon domains z) same (h 0 c (omega arith))
con_at (c ∷ cs) domains (suc k) con h e =
    con_at cs domains k con (λ j d lt. h (suc j) d (omega arith)) e

named_below : (n m : ℕ) (xs : List ℕ) → n ≡ m → All (λ x. x < n) xs → All (λ x. x < m) xs
named_below n m xs e h = subst (λ (z : ℕ). All (λ x. x < z) xs) e h

pub fits_changed : (g : Ground) (w : Work) (ms : List Bool) (x : ℕ) (a b : Boxes) →
    ((k : ℕ) → is_marked ms k ≡ (is_marked w.marks k || has_number k (row_of w.rows x))) →
    IsWellMade g → IsOver g w → length a ≡ length g.domains → FitsMarks g w.marks a →
    length a ≡ length b → DifferAt x a b → FitsMarks g ms b
fits_changed g w ms x a b marks made over size fits same_size d k con at plain off =
    let parts = or_false (is_marked w.marks k) (has_number k (row_of w.rows x))
    (sym (marks k) ∙ off) in
    let listed : has_number x (listed_vars con) ≡ false = sym (over.named x k con at) ∙ parts.1 in
    let apart : has_number x (vars_of con) ≡ false =
    subst (λ (z : List ℕ). has_number x z ≡ false) (listed_plain con plain) listed in
    let named = (con_at g.cons g.domains k con made.constraints at).named in
    let first = named_below _ _ (vars_of con) (sym size) named in
    let second = named_below _ _ (vars_of con) (sym size ∙ same_size) named in
    let same = agree_quiet con a b first second (agree_else (vars_of con) x a b d apart) in
    sym same ∙ fits k con at plain parts.0

-- ---- a quiet constraint goes off the list

less_cases : (same m new : Bool) → new ≡ cond same false m → new ≡ false →
    (same ≡ true) ⊎ (m ≡ false)
less_cases true m new e off = inl refl
less_cases false m new e off = inr (sym e ∙ off)

pub fits_less : (g : Ground) (ms ns : List Bool) (boxes : Boxes) (k : ℕ) → FitsMarks g ms boxes →
    ((con : Con) → slice_get g.cons k ≡ Some con → quiet con boxes ≡ true) →
    ((j : ℕ) → is_marked ns j ≡ cond (k == j) false (is_marked ms j)) → FitsMarks g ns boxes
fits_less g ms ns boxes k fits silent marks j con at plain off =
    elim (less_cases (k == j) (is_marked ms j) (is_marked ns j) (marks j) off) [
      | inl same ↦
          let e : j ≡ k = grind arith in
          silent con (subst (λ (i : ℕ). slice_get g.cons i ≡ Some con) e at)
      | inr free ↦ fits j con at plain free
    ]

marked_less : (same m new : Bool) → new ≡ cond same false m → new ≡ true → m ≡ true
marked_less true m new e on = absurd (cc)
marked_less false m new e on = sym e ∙ on

-- and nothing comes on it
pub none_more : (ms ns : List Bool) (k : ℕ) →
    ((j : ℕ) → is_marked ns j ≡ cond (k == j) false (is_marked ms j)) →
    (j : ℕ) → is_marked ns j ≡ true → is_marked ms j ≡ true
none_more ms ns k marks j on = marked_less (k == j) (is_marked ms j) (is_marked ns j) (marks j) on

-- ---- nothing is listed, or everything

pub others_quiet : (g : Ground) (ms : List Bool) (boxes : Boxes) → FitsMarks g ms boxes →
    ((k : ℕ) → is_marked ms k ≡ false) → (k : ℕ) (con : Con) → slice_get g.cons k ≡ Some con →
    is_clause con ≡ false → quiet con boxes ≡ true
others_quiet g ms boxes fits none k con at plain = fits k con at plain (none k)

pub fits_quiet : (g : Ground) (ms : List Bool) (boxes : Boxes) → AreAllQuiet g boxes →
    FitsMarks g ms boxes
fits_quiet g ms boxes quiet k con at plain off = quiet k con at

pub fits_any : (g : Ground) (ms : List Bool) (others : List ℕ) (boxes : Boxes) →
    others ≡ others_from 0 g.cons → ((k : ℕ) → has_number k others ≡ true → is_marked ms k ≡ true) →
    FitsMarks g ms boxes
fits_any g ms others boxes e all k con at plain off =
    let there : has_number k others ≡ true =
    subst (λ (z : List ℕ). has_number k z ≡ true) (sym e) (other_listed g.cons k con at plain) in
    let on = all k there in absurd (cc)

-- ---- clauses that don't act are quiet

still_quiet : (g : Ground) (boxes : Boxes) (k : ℕ) (con : Con) → IsWellMade g →
    AreBoxesWithin g.domains boxes → slice_get g.cons k ≡ Some con → is_clause con ≡ true →
    acts boxes (literals_of con) ≡ false → quiet con boxes ≡ true
still_quiet g boxes k con made within at e rests =
    let is = is_it con e in
    let clause = literals_of con in
    let form : IsWellMadeCon g.domains (ClauseCon clause) =
    subst (IsWellMadeCon g.domains) is (con_at g.cons g.domains k con made.constraints at) in
    subst (λ (z : Con). quiet z boxes ≡ true) (sym is)
    (clause_quiet boxes clause (are_sets boxes within.sets) within.some form.sets
    (named_here (clause_vars clause) g.domains boxes within.size form.named) rests)

-- so every constraint is quiet where the others are and no clause acts
pub all_quiet : (g : Ground) (entries : List (ℕ × Literals)) (boxes : Boxes) → IsWellMade g →
    entries ≡ clauses_from 0 g.cons → AreBoxesWithin g.domains boxes →
    ((k : ℕ) (con : Con) → slice_get g.cons k ≡ Some con → is_clause con ≡ false →
    quiet con boxes ≡ true) →
    ((i : ℕ) → i < length entries → acts boxes (clause_of entries i) ≡ false) →
    AreAllQuiet g boxes
all_quiet g entries boxes made e within others none k con at =
    let P : Bool → Type 0 = λ b. is_clause con ≡ b → quiet con boxes ≡ true in
    (elim (is_clause con) as P [
      | true ↦ λ is.
          let entry = subst (λ (z : List (ℕ × Literals)). HasEntry z (literals_of con)) (sym e)
          (has_entry g.cons 0 k con at is) in
          still_quiet g boxes k con made within at is
          (subst (λ (z : Literals). acts boxes z ≡ false) entry.clause (none entry.i entry.there))
      | false ↦ λ is. others k con at is
    ]) refl

-- ---- the queue over a problem

pub slice_below : {X : Type 0} (xs : List X) (k : ℕ) (x : X) → slice_get xs k ≡ Some x →
    k < length xs
slice_below [] k x e = absurd (cc)
slice_below (y ∷ ys) zero x e = omega arith
slice_below (y ∷ ys) (suc k) x e = let more = slice_below ys k x e in omega arith

pub over_made : (g : Ground) (w : Work) → length w.marks ≡ length g.cons →
    length w.rows ≡ length g.domains → IsFilled g.cons w.rows (length g.cons) →
    w.others ≡ others_from 0 g.cons → w.clauses.added ≡ clauses_from 0 g.cons →
    w.clauses.variables ≡ length g.domains → IsOver g w
over_made g w m r f o c v = record {
  marks = m;
  rows = r;
  named = λ x k con at. f.named x k con at (slice_below g.cons k con at);
  others = o;
  watched = c;
  variables = v;
}

or_second : (a b : Bool) → b ≡ true → (a || b) ≡ true
or_second true b e = refl
or_second false b e = e

-- all of a row are marked behind it
pub row_marked : (old new : List Bool) (row others : List ℕ) → row ≡ others →
    ((j : ℕ) → is_marked new j ≡ (is_marked old j || has_number j row)) → (k : ℕ) →
    has_number k others ≡ true → is_marked new k ≡ true
row_marked old new row others e marks k h =
    marks k ∙ or_second (is_marked old k) (has_number k row)
    (subst (λ (z : List ℕ). has_number k z ≡ true) (sym e) h)

pub marks_by : (old new : List Bool) (row other : List ℕ) → row ≡ other →
    ((j : ℕ) → is_marked new j ≡ (is_marked old j || has_number j row)) → (k : ℕ) →
    is_marked new k ≡ (is_marked old k || has_number k other)
marks_by old new row other e marks k =
    subst (λ (z : List ℕ). is_marked new k ≡ (is_marked old k || has_number k z)) e (marks k)

-- what is to be looked at is known of any boxes
pub known_listed : (boxes : Boxes) (clause : Literals) (r : Rest) → r ≡ Listed →
    IsKnown boxes clause r
known_listed boxes clause r e = subst (IsKnown boxes clause) (sym e) tt

pub none_weaker : {T P Q : Type 0} (o : Option T) → (P → Q) → IfNone o P → IfNone o Q
none_weaker None f h = f h
none_weaker (Some x) f h = h
