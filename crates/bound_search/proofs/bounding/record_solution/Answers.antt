use Rattle.std.proofs.Common.{◌∙◌, ◌++◌, ◌∷◌, [], List, ℤ, sym, ap, subst, All}
use Rattle.signed_clause.specs.Clauses.{Boxes, Literals, IsWithinBoxes}
use Rattle.ground_form.specs.declared.ground.GroundGoal.{GroundGoal}
use Rattle.rule_law.specs.Answers.{AreBoxesWithin}
use Rattle.log_form.specs.declared.line.Line.TheVariants.{Bound, Found}
use Rattle.log_form.specs.Acceptance.{bounds_of}
use Rattle.run_law.specs.Replay.{Going}
use Rattle.bound_search.specs.BoundLists.{values_of}
use Rattle.bound_search.specs.Engines.{added_of, IsBounded}
use Rattle.bound_search.proofs.MoreLines.{boxes_at}
use Rattle.bound_search.proofs.UseAxiom.{IsWritten}
use Rattle.bound_search.proofs.Recording.{IsFoundHere, AreWritten, found_kept, kept_after, both_kept, vars_there, record_step}
use Rattle.bound_search.proofs.bounding.record_solution.Goals as goal

pub solution-requires-clause-boxes : goal.solution-requires-clause-boxes
solution-requires-clause-boxes c =
    let e = c.args.e.now in
    subst (AreBoxesWithin c.args.g.now.domains) (sym c.boxes.ensures.boxes)
    (boxes_at c.args.g.now c.args.journal.now.lines e.clauses e.board.store (added_of e)
    Going c.requires.at.at)

pub returns-in_err-push-2-clause-kept : goal.returns-in_err-push-2-clause-kept
returns-in_err-push-2-clause-kept c =
    let g = c.args.g.now in
    let d = c.args.e.now in
    let a = c.in_ok-values.values.items in
    let here : IsFoundHere g d a = record {
      fixed = c.requires.fixed;
      single = sym c.boxes.ensures.boxes ∙ c.in_ok-values.ensures.values;
      solves = c.in_ok-values.ensures.solves;
    } in
    let found : IsWritten c.args.journal.now c.push.new.self (Found a) = record {
      lines = c.in_ok-push.ensures.ok
          ∙ ap (λ (v : List ℤ). c.args.journal.now.lines ++ Found v ∷ []) c.of.ensures;
      problem = c.in_ok-push.ensures.ground;
      rounds = c.in_ok-push.ensures.rounds;
    } in
    let one = found_kept g c.args.journal.now c.push.new.self d a c.requires.at here found in
    kept_after g c.args.journal.now c.push.new.self c.push-2.new.self one
    c.in_err-push-2.ensures.err c.in_err-push-2.ensures.ground c.in_err-push-2.ensures.rounds

pub take_all-requires : goal.take_all-requires
take_all-requires c =
    let g = c.args.g.now in
    let d = c.args.e.now in
    let a = c.in_ok-values.values.items in
    let here : IsFoundHere g d a = record {
      fixed = c.requires.fixed;
      single = sym c.boxes.ensures.boxes ∙ c.in_ok-values.ensures.values;
      solves = c.in_ok-values.ensures.solves;
    } in
    let bounds = c.in_ok-bounds.ensures
    ∙ ap (λ (v : List ℤ). bounds_of c.items-goals.result.now c.items.result.now v)
    c.as_slice.ensures.value
    ∙ ap (λ (b : Boxes). bounds_of c.items-goals.result.now b a) c.items.ensures
    ∙ ap (λ (q : List GroundGoal). bounds_of q g.domains a) c.items-goals.ensures in
    let list = c.as_slice-3.ensures.value ∙ bounds in
    record {
      vars = subst (λ (cs : List Literals). All (λ c. IsWithinBoxes c d.board.store.top.now) cs)
          (sym list) (vars_there g c.args.journal.now d a c.requires.at here);
    }

pub returns-in_err-after-clause-kept : goal.returns-in_err-after-clause-kept
returns-in_err-after-clause-kept c =
    let g = c.args.g.now in
    let d = c.args.e.now in
    let a = c.in_ok-values.values.items in
    let here : IsFoundHere g d a = record {
      fixed = c.requires.fixed;
      single = sym c.boxes.ensures.boxes ∙ c.in_ok-values.ensures.values;
      solves = c.in_ok-values.ensures.solves;
    } in
    let found : IsWritten c.args.journal.now c.push.new.self (Found a) = record {
      lines = c.in_ok-push.ensures.ok
          ∙ ap (λ (v : List ℤ). c.args.journal.now.lines ++ Found v ∷ []) c.of.ensures;
      problem = c.in_ok-push.ensures.ground;
      rounds = c.in_ok-push.ensures.rounds;
    } in
    let stated = c.of-2.ensures ∙ c.in_ok-stated.ensures
    ∙ ap (λ (v : List ℤ). values_of v c.items-goals.result.now) c.as_slice-2.ensures.value
    ∙ ap (values_of a) c.items-goals.ensures in
    let written : AreWritten g c.args.journal.now c.push.new.self c.push-2.new.self a = record {
      found = found;
      bound = record {
        lines = c.in_ok-push-2.ensures.ok
            ∙ ap (λ (v : List ℤ). c.push.new.self.lines ++ Bound v ∷ []) stated;
        problem = c.in_ok-push-2.ensures.ground;
        rounds = c.in_ok-push-2.ensures.rounds;
      };
    } in
    both_kept g c.args.journal.now c.push.new.self c.push-2.new.self d a c.requires.at here written

pub returns-clause-kept : goal.returns-clause-kept
returns-clause-kept c =
    let g = c.args.g.now in
    let d = c.args.e.now in
    let a = c.in_ok-values.values.items in
    let here : IsFoundHere g d a = record {
      fixed = c.requires.fixed;
      single = sym c.boxes.ensures.boxes ∙ c.in_ok-values.ensures.values;
      solves = c.in_ok-values.ensures.solves;
    } in
    let found : IsWritten c.args.journal.now c.push.new.self (Found a) = record {
      lines = c.in_ok-push.ensures.ok
          ∙ ap (λ (v : List ℤ). c.args.journal.now.lines ++ Found v ∷ []) c.of.ensures;
      problem = c.in_ok-push.ensures.ground;
      rounds = c.in_ok-push.ensures.rounds;
    } in
    let stated = c.of-2.ensures ∙ c.in_ok-stated.ensures
    ∙ ap (λ (v : List ℤ). values_of v c.items-goals.result.now) c.as_slice-2.ensures.value
    ∙ ap (values_of a) c.items-goals.ensures in
    let written : AreWritten g c.args.journal.now c.push.new.self c.push-2.new.self a = record {
      found = found;
      bound = record {
        lines = c.in_ok-push-2.ensures.ok
            ∙ ap (λ (v : List ℤ). c.push.new.self.lines ++ Bound v ∷ []) stated;
        problem = c.in_ok-push-2.ensures.ground;
        rounds = c.in_ok-push-2.ensures.rounds;
      };
    } in
    both_kept g c.args.journal.now c.push.new.self c.push-2.new.self d a c.requires.at here written

pub returns-clause-at : goal.returns-clause-at
returns-clause-at c =
    let g = c.args.g.now in
    let d = c.args.e.now in
    let a = c.in_ok-values.values.items in
    let here : IsFoundHere g d a = record {
      fixed = c.requires.fixed;
      single = sym c.boxes.ensures.boxes ∙ c.in_ok-values.ensures.values;
      solves = c.in_ok-values.ensures.solves;
    } in
    let found : IsWritten c.args.journal.now c.push.new.self (Found a) = record {
      lines = c.in_ok-push.ensures.ok
          ∙ ap (λ (v : List ℤ). c.args.journal.now.lines ++ Found v ∷ []) c.of.ensures;
      problem = c.in_ok-push.ensures.ground;
      rounds = c.in_ok-push.ensures.rounds;
    } in
    let stated = c.of-2.ensures ∙ c.in_ok-stated.ensures
    ∙ ap (λ (v : List ℤ). values_of v c.items-goals.result.now) c.as_slice-2.ensures.value
    ∙ ap (values_of a) c.items-goals.ensures in
    let written : AreWritten g c.args.journal.now c.push.new.self c.push-2.new.self a = record {
      found = found;
      bound = record {
        lines = c.in_ok-push-2.ensures.ok
            ∙ ap (λ (v : List ℤ). c.push.new.self.lines ++ Bound v ∷ []) stated;
        problem = c.in_ok-push-2.ensures.ground;
        rounds = c.in_ok-push-2.ensures.rounds;
      };
    } in
    let bounds = c.in_ok-bounds.ensures
    ∙ ap (λ (v : List ℤ). bounds_of c.items-goals.result.now c.items.result.now v)
    c.as_slice.ensures.value
    ∙ ap (λ (b : Boxes). bounds_of c.items-goals.result.now b a) c.items.ensures
    ∙ ap (λ (q : List GroundGoal). bounds_of q g.domains a) c.items-goals.ensures in
    let list = c.as_slice-3.ensures.value ∙ bounds in
    let bounded = subst (λ (cs : List Literals). IsBounded d c.take_all.new.e cs c.in_ok-after.after)
    list c.in_ok-after.ensures.bound in
    (record_step g c.args.journal.now c.push.new.self c.push-2.new.self d c.take_all.new.e a
    c.in_ok-after.after c.requires.at here written bounded).at

pub returns-clause-stops : goal.returns-clause-stops
returns-clause-stops c =
    let g = c.args.g.now in
    let d = c.args.e.now in
    let a = c.in_ok-values.values.items in
    let here : IsFoundHere g d a = record {
      fixed = c.requires.fixed;
      single = sym c.boxes.ensures.boxes ∙ c.in_ok-values.ensures.values;
      solves = c.in_ok-values.ensures.solves;
    } in
    let found : IsWritten c.args.journal.now c.push.new.self (Found a) = record {
      lines = c.in_ok-push.ensures.ok
          ∙ ap (λ (v : List ℤ). c.args.journal.now.lines ++ Found v ∷ []) c.of.ensures;
      problem = c.in_ok-push.ensures.ground;
      rounds = c.in_ok-push.ensures.rounds;
    } in
    let stated = c.of-2.ensures ∙ c.in_ok-stated.ensures
    ∙ ap (λ (v : List ℤ). values_of v c.items-goals.result.now) c.as_slice-2.ensures.value
    ∙ ap (values_of a) c.items-goals.ensures in
    let written : AreWritten g c.args.journal.now c.push.new.self c.push-2.new.self a = record {
      found = found;
      bound = record {
        lines = c.in_ok-push-2.ensures.ok
            ∙ ap (λ (v : List ℤ). c.push.new.self.lines ++ Bound v ∷ []) stated;
        problem = c.in_ok-push-2.ensures.ground;
        rounds = c.in_ok-push-2.ensures.rounds;
      };
    } in
    let bounds = c.in_ok-bounds.ensures
    ∙ ap (λ (v : List ℤ). bounds_of c.items-goals.result.now c.items.result.now v)
    c.as_slice.ensures.value
    ∙ ap (λ (b : Boxes). bounds_of c.items-goals.result.now b a) c.items.ensures
    ∙ ap (λ (q : List GroundGoal). bounds_of q g.domains a) c.items-goals.ensures in
    let list = c.as_slice-3.ensures.value ∙ bounds in
    let bounded = subst (λ (cs : List Literals). IsBounded d c.take_all.new.e cs c.in_ok-after.after)
    list c.in_ok-after.ensures.bound in
    (record_step g c.args.journal.now c.push.new.self c.push-2.new.self d c.take_all.new.e a
    c.in_ok-after.after c.requires.at here written bounded).stops

pub returns-clause-alike : goal.returns-clause-alike
returns-clause-alike c =
    let g = c.args.g.now in
    let d = c.args.e.now in
    let a = c.in_ok-values.values.items in
    let here : IsFoundHere g d a = record {
      fixed = c.requires.fixed;
      single = sym c.boxes.ensures.boxes ∙ c.in_ok-values.ensures.values;
      solves = c.in_ok-values.ensures.solves;
    } in
    let found : IsWritten c.args.journal.now c.push.new.self (Found a) = record {
      lines = c.in_ok-push.ensures.ok
          ∙ ap (λ (v : List ℤ). c.args.journal.now.lines ++ Found v ∷ []) c.of.ensures;
      problem = c.in_ok-push.ensures.ground;
      rounds = c.in_ok-push.ensures.rounds;
    } in
    let stated = c.of-2.ensures ∙ c.in_ok-stated.ensures
    ∙ ap (λ (v : List ℤ). values_of v c.items-goals.result.now) c.as_slice-2.ensures.value
    ∙ ap (values_of a) c.items-goals.ensures in
    let written : AreWritten g c.args.journal.now c.push.new.self c.push-2.new.self a = record {
      found = found;
      bound = record {
        lines = c.in_ok-push-2.ensures.ok
            ∙ ap (λ (v : List ℤ). c.push.new.self.lines ++ Bound v ∷ []) stated;
        problem = c.in_ok-push-2.ensures.ground;
        rounds = c.in_ok-push-2.ensures.rounds;
      };
    } in
    let bounds = c.in_ok-bounds.ensures
    ∙ ap (λ (v : List ℤ). bounds_of c.items-goals.result.now c.items.result.now v)
    c.as_slice.ensures.value
    ∙ ap (λ (b : Boxes). bounds_of c.items-goals.result.now b a) c.items.ensures
    ∙ ap (λ (q : List GroundGoal). bounds_of q g.domains a) c.items-goals.ensures in
    let list = c.as_slice-3.ensures.value ∙ bounds in
    let bounded = subst (λ (cs : List Literals). IsBounded d c.take_all.new.e cs c.in_ok-after.after)
    list c.in_ok-after.ensures.bound in
    (record_step g c.args.journal.now c.push.new.self c.push-2.new.self d c.take_all.new.e a
    c.in_ok-after.after c.requires.at here written bounded).alike
