use Rattle.std.proofs.Common.{ℕ, ℤ, pos, ◌≤ℤ◌, ◌+◌, List, ◌∷◌, get_or, refl, sym, subst, arith, Bor}
use Rattle.std.proofs.lemmas.Int.{ints}
use Rattle.packed_rows.specs.Loads.{load_of}
use Rattle.stated_rows.proofs.LoadLaws.{AreWithin, within_both, within_one}
use Rattle.stated_rows.proofs.packings.hold.Goals.{in-Some, in-None+else-load-lt0}
use Rattle.stated_rows.proofs.packings.hold.Goals as goal

pub loop-load-preserved : goal.loop-load-preserved
loop-load-preserved c =
    let d : ℕ × ℤ = (0, pos 0) in
    let load = get_or c.args.loads.now c.loop-load.load-index d in
    elim c.match-behind.branch [
      | in-Some w ↦
          within_both c.args.loads.now c.args.fewer.now c.loop-load.rest.now c.match-behind.rest.now c.loop-load.load-index d load c.loop-load-test.true refl
          (λ bin a. subst (λ (b : Bor (List (ℕ × ℤ))). load_of bin c.loop-load.rest.now a ≤ℤ load_of bin (load ∷ b.now) a) (sym w.rest-is) (w.in-Some.ensures bin a)) c.loop-load.invariant
      | in-None+else-load-lt0 w ↦
          subst (λ (b : Bor (List (ℕ × ℤ))). AreWithin c.args.loads.now c.args.fewer.now (c.loop-load.load-index + 1) b.now) (sym w.rest-is)
          (within_one c.args.loads.now c.args.fewer.now c.loop-load.rest.now c.loop-load.load-index d load c.loop-load-test.true refl (let h = w.if-load-lt0 in omega (arith, ints, h)) c.loop-load.invariant)
    ]
