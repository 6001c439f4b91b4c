use Rattle.std.proofs.Common.{◌≡◌, false, refl}
use Rattle.std.proofs.lemmas.List.Sorted.{All-permutation}
use Rattle.view_steps.specs.Runs.{is_fit, may_halt}
use Rattle.view_steps.proofs.OrderLaws.{left_moved}
use Rattle.view_steps.proofs.run.arrange.Goals as goal

pub returns-clause-kept : goal.returns-clause-kept
returns-clause-kept c = λ site stop is.
    left_moved site stop c.args.run.now
    (record { rooms = c.args.run.now.rooms; made = c.args.run.now.made; left = c.sort_by_key.new.self })
    is c.sort_by_key.ensures.permutation refl (λ w. refl)

pub returns-clause-end : goal.returns-clause-end
returns-clause-end c = λ stop end. record {
  whole = All-permutation (λ m. is_fit c.args.run.now.rooms.entries m ≡ false) c.args.run.now.left.items
      c.sort_by_key.new.self.items c.sort_by_key.ensures.permutation end.whole;
  half = All-permutation (λ m. may_halt c.args.run.now.rooms.entries stop m ≡ false) c.args.run.now.left.items
      c.sort_by_key.new.self.items c.sort_by_key.ensures.permutation end.half;
}
