use Rattle.std.proofs.Common.{◌≡◌, ◌+◌, ◌∷◌, ◌++◌, length, length-append, ap, ◌∙◌, arith}
use Rattle.std.proofs.lemmas.Result.{err_from_is_err_and}
use Rattle.log_check.specs.Progress.{made_of}
use Rattle.log_check.specs.Fed.{left_of}
use Rattle.log_check.proofs.Feeding.{gone_on, gone_wrong, gone_all}
use Rattle.log_check.proofs.intake.Intake.take.Goals as goal

pub returns-in_err-end_line-clause-refused : goal.returns-in_err-end_line-clause-refused
returns-in_err-end_line-clause-refused c =
    let p = err_from_is_err_and c.from_residual.result c.from_residual.ensures.1 in
    rw (p.1, p.2) (λ bytes h.
    gone_wrong c.args.g.now (bytes ++ c.args.piece.now) c.loop-part.left.now c.in-Some.part.now c.in-Some.behind.now (left_of c.loop-part.self) c.in_err-end_line.field-0.0
    (c.loop-part.invariant.taken bytes h) c.in-Some.ensures.some.0 c.in_err-end_line.ensures.refused)

pub loop-part-preserved : goal.loop-part-preserved
loop-part-preserved c =
    let whole = c.in-Some.ensures.some.0 in
    let part = c.in-Some.part.now in
    let behind = c.in-Some.behind.now in
    let size : length c.loop-part.left.now ≡ length part + length (10 ∷ behind) = ap length whole ∙ length-append part (10 ∷ behind) in
    let more = c.in_ok-end_line.ensures.count in
    let few = c.loop-part.invariant.few in
    let kept = c.loop-part.invariant.kept in
    let empty : length c.end_line.new.self.rest.items ≡ 0 = ap length c.in_ok-end_line.ensures.rest in
    record {
      right = c.in_ok-end_line.ensures.right;
      few = omega arith;
      kept = omega arith;
      taken = λ bytes h. gone_on c.args.g.now (bytes ++ c.args.piece.now) c.loop-part.left.now part behind (left_of c.loop-part.self) (left_of c.end_line.new.self)
          (c.loop-part.invariant.taken bytes h) whole c.in_ok-end_line.ensures.taken;
    }

pub returns-clause-taken : goal.returns-clause-taken
returns-clause-taken c bytes h =
    gone_all c.args.g.now (bytes ++ c.args.piece.now) c.loop-part.left.now (made_of c.loop-part.self.progress) c.loop-part.self.rest.items c.extend_from_slice.new.self.items c.loop-part.self.count
    (c.loop-part.invariant.taken bytes h) c.in_default.ensures.none c.in_ok-extend_from_slice.ensures.items
