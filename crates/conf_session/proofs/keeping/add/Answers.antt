use Rattle.std.proofs.Common.{◌≡◌, ◌++◌, ◌∷◌, ◌<◌, ◌-◌, ◌∙◌, [], ℕ, zero, suc, arith, List, Bool, true, false, not, ap, refl, subst, sym}
use Rattle.ground_form.specs.declared.con.Con.{Con}
use Rattle.ground_form.specs.declared.con.Con.TheVariants.{ClauseCon}
use Rattle.signed_clause.specs.Clauses.{Literals}
use Rattle.conf_session.proofs.KeptLaws.{stood, one_more}
use Rattle.conf_session.specs.Keeping.{is_stated, with_kept}
use Rattle.conf_session.proofs.keeping.add.Goals as goal

turned : (b new : Bool) → new ≡ not b → new ≡ false → b ≡ true
turned true new e h = refl
turned false new e h = absurd cc

kept_so : (b new : Bool) → new ≡ not b → new ≡ true → b ≡ false
kept_so true new e h = absurd cc
kept_so false new e h = refl

-- the clause stood already
stood_so : (room : ℕ) (cons : List Con) (c d : Literals) (new : Bool) → d ≡ c →
    new ≡ not (is_stated cons d) → new ≡ false → (cs : List Literals) →
    with_kept room cons (c ∷ cs) ≡ with_kept room cons cs
stood_so room cons c d new same is not_new cs =
    stood room cons c cs
    (turned (is_stated cons c) new (subst (λ (x : Literals). new ≡ not (is_stated cons x)) same is) not_new)

pub returns-then-not-branch-clause-cons : goal.returns-then-not-branch-clause-cons
returns-then-not-branch-clause-cons c =
    stood_so c.args.room c.args.cons.now.items c.args.clause.now c.clause-literals.result.now c.in_ok-insert.field-0
    c.clause-literals.ensures (c.in_ok-insert.ensures.new c.args.cons.now.items c.requires.keys) c.if-not-branch.true

positive : (n : ℕ) → (n ≡ 0 → ⊥) → 0 < n
positive zero some = absurd (some refl)
positive (suc n) some = omega arith

-- it is new
more_so : (room : ℕ) (cons now : List Con) (c d copy : Literals) (new : Bool) → (room ≡ 0 → ⊥) →
    d ≡ c → copy ≡ c → now ≡ cons ++ ClauseCon copy ∷ [] → new ≡ not (is_stated cons d) →
    new ≡ true → (cs : List Literals) →
    with_kept room cons (c ∷ cs) ≡ with_kept (room - 1) now cs
more_so room cons now c d copy new some same like items is is_new cs =
    one_more room cons c cs (positive room some)
    (kept_so (is_stated cons c) new (subst (λ (x : Literals). new ≡ not (is_stated cons x)) same is) is_new)
    ∙ ap (λ (x : List Con). with_kept (room - 1) x cs)
    (sym (items ∙ ap (λ (x : Literals). cons ++ ClauseCon x ∷ []) like))

pub returns-clause-cons : goal.returns-clause-cons
returns-clause-cons c =
    more_so c.args.room c.args.cons.now.items c.push.new.self.items c.args.clause.now c.clause-literals.result.now c.in_ok-copy.field-0 c.in_ok-insert.field-0
    c.if-room-eq0.false c.clause-literals.ensures c.in_ok-copy.ensures c.in_ok-push.ensures.items (c.in_ok-insert.ensures.new c.args.cons.now.items c.requires.keys) c.if-not-branch.false
