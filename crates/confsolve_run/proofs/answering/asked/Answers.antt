use Rattle.std.proofs.Common.{◌∙◌, ap, map}
use Rattle.proof_log.specs.Rounds.{Journal}
use Rattle.confsolve_run.proofs.AskedParts.{blamed_answer, blamed_recorded, blamed_cut}
use Rattle.confsolve_run.proofs.PresentRound.{solve_lines, repair_lines, gen_lines, core_lines, no_lines, empty_lines, check_problem, verify_problem}
use Rattle.confsolve_run.proofs.RepairParts.{repaired, checked, check_refused}
use Rattle.round_commands.proofs.Stepping.{on_err}
use Rattle.confsolve_run.proofs.answering.asked.Goals as goal

pub returns-in_ok-solve-in-Reconfigure-clause-answer :
    goal.returns-in_ok-solve-in-Reconfigure-clause-answer
returns-in_ok-solve-in-Reconfigure-clause-answer g c =
    let asked = c.in-Reconfigure in
    let made = c.in_ok-repair-in-Reconfigure in
    let wanted = c.wanted-wanted-in-Reconfigure.ensures in
    let a = c.in_ok-solve-in-Reconfigure.field-0 in
    repaired (g.D.Desk.files c.args.desk.now) c.args.request.now c.args.built.objects.now c.args.built.model.now.constraints c.args.built.model.now.goals c.solve-in-Reconfigure.new.journal asked.former asked.failed c.items.result.now c.items.ensures.items made.repair made.ensures.repair
    (map (λ x. x.order) c.args.with.choosers.now) a.status a.text.items asked.model asked.budget c.wanted-wanted-in-Reconfigure.result.budget asked.log asked.order c.wanted-wanted-in-Reconfigure.result.order asked.is wanted.budget wanted.order c.in_ok-solve-in-Reconfigure.ensures.answer

pub returns-in_ok-repair-in-Some-clause-answer : goal.returns-in_ok-repair-in-Some-clause-answer
returns-in_ok-repair-in-Some-clause-answer g c =
    let asked = c.in-Check in
    let made = c.in_ok-repair-in-Some in
    checked (g.D.Desk.files c.args.desk.now) c.args.request.now c.args.built.objects.now c.args.built.model.now.constraints c.args.built.model.now.goals c.check-in-Some.new.journal c.in-Some.file asked.failed c.items-in-Some.result.now c.items-in-Some.ensures.items made.repair made.ensures.repair
    asked.model asked.log asked.former asked.is c.in-Some.is (g.D.Desk.files c.repair_of-in-Some.new.desk) made.ensures.files (map (λ x. x.order) c.args.with.choosers.now) c.check-in-Some.result c.check-in-Some.ensures.answer

pub returns-in_ok-repair-in-Some-clause-refused : goal.returns-in_ok-repair-in-Some-clause-refused
returns-in_ok-repair-in-Some-clause-refused g c =
    let asked = c.in-Check in
    let made = c.in_ok-repair-in-Some in
    let reads = g.D.Desk.read_faults in
    check_refused (g.D.Desk.files c.args.desk.now) c.args.request.now c.args.built.objects.now c.args.built.model.now.constraints c.args.built.model.now.goals c.check-in-Some.new.journal c.in-Some.file asked.failed c.items-in-Some.result.now c.items-in-Some.ensures.items made.repair made.ensures.repair
    asked.model asked.log asked.former asked.is c.in-Some.is (g.D.Desk.files c.repair_of-in-Some.new.desk) made.ensures.files (reads c.args.desk.now) (reads c.repair_of-in-Some.new.desk) (reads c.check-in-Some.new.desk) made.ensures.read_faults c.check-in-Some.result c.check-in-Some.ensures.refused

pub returns-in_ok-blame_model-in-Core-clause-answer : goal.returns-in_ok-blame_model-in-Core-clause-answer
returns-in_ok-blame_model-in-Core-clause-answer g c =
    let asked = c.in-Core in
    let a = c.in_ok-blame_model-in-Core.field-0 in
    blamed_answer (g.D.Desk.files c.args.desk.now) c.args.request.now asked.model asked.budget
    asked.order asked.is c.args.built.objects.now c.args.built.model.now.constraints
    c.args.built.model.now.goals (map (λ x. x.order) c.args.with.choosers.now) c.blame_model.new.journal
    a.status a.text.items c.in_ok-blame_model-in-Core.ensures.answer

pub returns-in_ok-blame_model-in-Core-clause-recorded :
    goal.returns-in_ok-blame_model-in-Core-clause-recorded
returns-in_ok-blame_model-in-Core-clause-recorded g c =
    let asked = c.in-Core in
    let a = c.in_ok-blame_model-in-Core.field-0 in
    blamed_recorded (g.D.Desk.files c.args.desk.now) c.args.request.now asked.model asked.budget
    asked.order asked.is c.args.built.objects.now c.args.built.model.now.constraints
    c.args.built.model.now.goals (map (λ x. x.order) c.args.with.choosers.now) c.blame_model.new.journal
    a.status a.text.items c.in_ok-blame_model-in-Core.ensures.answer

pub returns-in_err-blame_model-in-Core-clause-cut :
    goal.returns-in_err-blame_model-in-Core-clause-cut
returns-in_err-blame_model-in-Core-clause-cut g c =
    let asked = c.in-Core in
    on_err c.from_residual-in_err-blame_model-in-Core.result _
    (blamed_cut (g.D.Desk.files c.args.desk.now) c.args.request.now asked.model asked.budget
    asked.order asked.is c.args.built.objects.now c.args.built.model.now.constraints
    c.args.built.model.now.goals (map (λ x. x.order) c.args.with.choosers.now) c.blame_model.new.journal
    c.in_err-blame_model-in-Core.ensures.cut)

pub returns-in_ok-solve-in-Solve-clause-lines : goal.returns-in_ok-solve-in-Solve-clause-lines
returns-in_ok-solve-in-Solve-clause-lines g c =
    let q = c.in-Solve in
    solve_lines (map (λ x. x.order) c.args.with.choosers.now) c.args.request.now
    c.solve.new.journal c.args.built.objects.now c.args.built.model.now.constraints c.args.built.model.now.goals
    q.model q.budget q.log q.order c.wanted-wanted.result.order q.is
    c.wanted-wanted.ensures.order c.solve.ensures.begun

pub returns-in_ok-solve-in-Reconfigure-clause-lines : goal.returns-in_ok-solve-in-Reconfigure-clause-lines
returns-in_ok-solve-in-Reconfigure-clause-lines g c =
    let q = c.in-Reconfigure in
    repair_lines (map (λ x. x.order) c.args.with.choosers.now) c.args.request.now
    c.solve-in-Reconfigure.new.journal c.args.built.objects.now c.args.built.model.now.constraints c.args.built.model.now.goals
    _ q.model q.former q.failed q.budget q.log q.order
    c.wanted-wanted-in-Reconfigure.result.order q.is c.wanted-wanted-in-Reconfigure.ensures.order
    c.solve-in-Reconfigure.ensures.begun

pub returns-in_ok-generated-in-Gen-clause-lines : goal.returns-in_ok-generated-in-Gen-clause-lines
returns-in_ok-generated-in-Gen-clause-lines g c =
    gen_lines (map (λ x. x.order) c.args.with.choosers.now) c.args.request.now c.generated.new.journal
    c.args.built.objects.now c.args.built.model.now.constraints c.args.built.model.now.goals
    c.in-Gen.n c.in-Gen.is c.generated.ensures.begun

pub returns-in_ok-blame_model-in-Core-clause-lines : goal.returns-in_ok-blame_model-in-Core-clause-lines
returns-in_ok-blame_model-in-Core-clause-lines g c =
    let q = c.in-Core in
    core_lines (map (λ x. x.order) c.args.with.choosers.now) c.args.request.now c.blame_model.new.journal.lines
    q.model q.budget q.order q.is c.blame_model.ensures.so_far

pub returns-in_err-solve-in-Solve-clause-lines : goal.returns-in_err-solve-in-Solve-clause-lines
returns-in_err-solve-in-Solve-clause-lines g c =
    let q = c.in-Solve in
    solve_lines (map (λ x. x.order) c.args.with.choosers.now) c.args.request.now
    c.solve.new.journal c.args.built.objects.now c.args.built.model.now.constraints c.args.built.model.now.goals
    q.model q.budget q.log q.order c.wanted-wanted.result.order q.is
    c.wanted-wanted.ensures.order c.solve.ensures.begun

pub returns-in_err-solve-in-Reconfigure-clause-lines : goal.returns-in_err-solve-in-Reconfigure-clause-lines
returns-in_err-solve-in-Reconfigure-clause-lines g c =
    let q = c.in-Reconfigure in
    repair_lines (map (λ x. x.order) c.args.with.choosers.now) c.args.request.now
    c.solve-in-Reconfigure.new.journal c.args.built.objects.now c.args.built.model.now.constraints c.args.built.model.now.goals
    _ q.model q.former q.failed q.budget q.log q.order
    c.wanted-wanted-in-Reconfigure.result.order q.is c.wanted-wanted-in-Reconfigure.ensures.order
    c.solve-in-Reconfigure.ensures.begun

pub returns-in_err-generated-in-Gen-clause-lines : goal.returns-in_err-generated-in-Gen-clause-lines
returns-in_err-generated-in-Gen-clause-lines g c =
    gen_lines (map (λ x. x.order) c.args.with.choosers.now) c.args.request.now c.generated.new.journal
    c.args.built.objects.now c.args.built.model.now.constraints c.args.built.model.now.goals
    c.in-Gen.n c.in-Gen.is c.generated.ensures.begun

pub returns-in_err-blame_model-in-Core-clause-lines : goal.returns-in_err-blame_model-in-Core-clause-lines
returns-in_err-blame_model-in-Core-clause-lines g c =
    let q = c.in-Core in
    core_lines (map (λ x. x.order) c.args.with.choosers.now) c.args.request.now c.blame_model.new.journal.lines
    q.model q.budget q.order q.is c.blame_model.ensures.so_far

pub returns-in_err-repair-in-Reconfigure-clause-lines : goal.returns-in_err-repair-in-Reconfigure-clause-lines
returns-in_err-repair-in-Reconfigure-clause-lines g c =
    empty_lines (map (λ x. x.order) c.args.with.choosers.now) c.args.request.now c.args.journal.now c.requires.empty

pub returns-in_err-repair-in-Some-clause-lines : goal.returns-in_err-repair-in-Some-clause-lines
returns-in_err-repair-in-Some-clause-lines g c =
    empty_lines (map (λ x. x.order) c.args.with.choosers.now) c.args.request.now c.args.journal.now c.requires.empty

pub returns-in-None-clause-lines : goal.returns-in-None-clause-lines
returns-in-None-clause-lines g c =
    no_lines (map (λ x. x.order) c.args.with.choosers.now) c.args.request.now c.check.new.journal.lines
    (c.check.ensures.lines ∙ ap (λ (j : Journal). j.lines) c.requires.empty)

pub returns-in_ok-repair-in-Some-clause-lines : goal.returns-in_ok-repair-in-Some-clause-lines
returns-in_ok-repair-in-Some-clause-lines g c =
    no_lines (map (λ x. x.order) c.args.with.choosers.now) c.args.request.now c.check-in-Some.new.journal.lines
    (c.check-in-Some.ensures.lines ∙ ap (λ (j : Journal). j.lines) c.requires.empty)

pub returns-in-Verify-clause-lines : goal.returns-in-Verify-clause-lines
returns-in-Verify-clause-lines g c =
    empty_lines (map (λ x. x.order) c.args.with.choosers.now) c.args.request.now c.args.journal.now c.requires.empty

pub returns-in-None-clause-problem : goal.returns-in-None-clause-problem
returns-in-None-clause-problem g c =
    let q = c.in-Check in
    check_problem c.args.request.now c.check.new.journal q.model q.log q.former q.failed q.is
    c.check.result c.check.ensures.problem

pub returns-in_ok-repair-in-Some-clause-problem : goal.returns-in_ok-repair-in-Some-clause-problem
returns-in_ok-repair-in-Some-clause-problem g c =
    let q = c.in-Check in
    check_problem c.args.request.now c.check-in-Some.new.journal q.model q.log q.former q.failed q.is
    c.check-in-Some.result c.check-in-Some.ensures.problem

pub returns-in-Verify-clause-problem : goal.returns-in-Verify-clause-problem
returns-in-Verify-clause-problem g c =
    let q = c.in-Verify in
    verify_problem c.args.request.now c.args.journal.now q.model q.config q.is c.verify.result
