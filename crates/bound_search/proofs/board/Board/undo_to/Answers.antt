use Rattle.std.proofs.Common.{◌≡◌, ◌<◌, ◌≤◌, ◌∙◌, ℕ, List, arith, ap, length, sym}
use Rattle.signed_clause.specs.Clauses.{Literals}
use Rattle.fd_store.specs.Undo.{dropped}
use Rattle.bound_search.proofs.BoardLaws.{lower_dropped, dropped_now, widens_at, valid_wider}
use Rattle.bound_search.proofs.board.Board.undo_to.Goals as goal

pub loop-self-preserved-in-Some : goal.loop-self-preserved-in-Some
loop-self-preserved-in-Some c =
    let g = c.args.g.now in
    let at = c.loop-self.invariant in
    let was = c.loop-self.self.store in
    let now = c.undo_last.new.self in
    let x = c.in-Some.x in
    let wide = c.in-Some.ensures.wider in
    let widens = widens_at x was.top.now now.top.now wide in
    let level = c.level.ensures in
    let above : c.args.level < length was.below = omega (arith, level, c.loop-self-test.true) in
    record {
      size = wide.size ∙ at.size;
      valid = valid_wider x was.top.now now.top.now wide at.valid;
      over = c.note_wider.ensures.over g at.over;
      known = c.note_wider.ensures.clauses was.top.now now.top.now at.known widens;
      variables = c.note_wider-in-Some.ensures.variables ∙ at.variables;
      paired = c.note_wider-in-Some.ensures.size ∙ at.paired
          ∙ sym (ap (λ (l : List (ℕ × Literals)). length l) c.note_wider-in-Some.ensures.added);
      watched = c.note_wider-in-Some.ensures.fits was.top.now now.top.now at.watched widens;
      added = c.note_wider-in-Some.ensures.added ∙ at.added;
      levels = c.undo_last.ensures.dropped c.args.level above ∙ at.levels;
    }

pub returns-clause-store : goal.returns-clause-store
returns-clause-store c =
    let now = c.loop-self.self.store in
    let level = c.level.ensures in
    let few : length now.below ≤ c.args.level = omega (arith, level, c.loop-self-test.false) in
    dropped_now c.args.level now c.args.self.now.store few c.loop-self.invariant.levels

pub returns-clause-lower : goal.returns-clause-lower
returns-clause-lower c =
    let now = c.loop-self.self.store in
    let old = c.args.self.now.store in
    let level = c.level.ensures in
    let few : length now.below ≤ c.args.level = omega (arith, level, c.loop-self-test.false) in
    let is = dropped_now c.args.level now old few c.loop-self.invariant.levels in
    (lower_dropped c.args.g.now c.args.level old now c.requires.level c.requires.lower is).below

pub returns-clause-board : goal.returns-clause-board
returns-clause-board c =
    let g = c.args.g.now in
    let at = c.loop-self.invariant in
    let now = c.loop-self.self.store in
    let old = c.args.self.now.store in
    let level = c.level.ensures in
    let few : length now.below ≤ c.args.level = omega (arith, level, c.loop-self-test.false) in
    let is : now ≡ dropped c.args.level old = dropped_now c.args.level now old few at.levels in
    let lower = lower_dropped g c.args.level old now c.requires.level c.requires.lower is in
    record {
      size = at.size;
      valid = at.valid;
      over = c.note_return.ensures.over g at.over;
      listed = c.note_return.ensures.fits g now.top.now at.known lower.top.is_quiet;
      variables = at.variables;
      paired = at.paired;
      watched = at.watched;
    }
