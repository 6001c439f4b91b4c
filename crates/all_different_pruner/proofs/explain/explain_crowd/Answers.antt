use Rattle.std.proofs.Common.{◌≡◌, ℕ, suc, ◌+◌, ◌++◌, arith, ap, ◌∙◌}
use Rattle.signed_clause.specs.Clauses.{Literals}
use Rattle.box_rules.specs.Refuted.{width}
use Rattle.all_different_pruner.specs.Within.{within, outside}
use Rattle.all_different_pruner.proofs.Taking.{crowd_size, crowd_is}
use Rattle.all_different_pruner.proofs.DiffExplained.{IsGround}
use Rattle.all_different_pruner.proofs.explain.explain_crowd.Goals as goal

pub size_of-requires-clause-few : goal.size_of-requires-clause-few
size_of-requires-clause-few c = let size = crowd_size c.args.a.value c.args.b.value c.args.vars.now c.args.subject.boxes.now c.requires.crowd in grind arith

pub overflow_add-size_of : goal.overflow_add-size_of
overflow_add-size_of c = let size = crowd_size c.args.a.value c.args.b.value c.args.vars.now c.args.subject.boxes.now c.requires.crowd in let is = c.size_of.ensures in grind arith

pub pruning-requires : goal.pruning-requires
pruning-requires c =
    let a = c.args.a.value in let b = c.args.b.value in
    let need : c.size_of.result + 1 ≡ suc (width a b) = let is = c.size_of.ensures in omega arith in
    let ground : IsGround c.args.subject.domains.now c.args.subject.boxes.now c.args.vars.now a b = record { boxes_within = c.requires.boxes; domain_sets = c.requires.sets; named = c.requires.named; once = c.requires.once; span = c.span_of-span.ensures.valid } in
    record {
      reason = crowd_is c.args.subject.con.now c.args.subject.domains.now c.args.subject.boxes.now c.args.vars.now a b c.collect.new.literals.items c.requires.con ground c.requires.crowd
          (c.in_ok-collect.ensures
          ∙ ap (λ (z : Literals). z ++ outside a b (within (c.size_of.result + 1) a b c.args.vars.now c.args.subject.boxes.now) c.args.subject.domains.now) c.new-literals.ensures.items
          ∙ ap (λ (n : ℕ). outside a b (within n a b c.args.vars.now c.args.subject.boxes.now) c.args.subject.domains.now) need);
    }
