use Rattle.std.proofs.Common.{◌≡◌, ◌<◌, ◌-◌, ℕ, Some, None, length, take, drop, refl, ap, sym, ◌∙◌, subst, arith, length-drop}
use Rattle.std.specs.Prelude.{IfSome}
use Rattle.object_alloc.specs.Paths.{object_named, path}
use Rattle.object_alloc.specs.Walk.{objects}
use Rattle.object_alloc.proofs.ChainLaws.{path_leads, object_found}
use Rattle.object_alloc.proofs.PlaceLaws.{rest_is}
use Rattle.object_alloc.proofs.Turns.{no_object, path_ends, object_ends, path_goes, object_goes}
use Rattle.object_alloc.proofs.objects.Objects.object_at.Goals as goal

some_is : {a b : ℕ} → Some a ≡ Some b → a ≡ b
some_is e = cc

none_is : {a : ℕ} → None ≡ Some a → ⊥
none_is e = cc

pub loop-object-init : goal.loop-object-init
loop-object-init c =
    record {
      within = omega arith;
      owner = tt;
      whole = refl;
      left = λ n low e. path_leads c.args.self.now n c.args.text.now low e;
    }

pub loop-object-preserved : goal.loop-object-preserved
loop-object-preserved c =
    let o = c.args.self.now in
    let text = c.args.text.now in
    let from = c.loop-object.from in
    let end = c.first_of-end.result in
    let object = c.in_ok-object.object in
    let rest = take (length text - from) (drop from text) in
    let is = rest_is from text in
    let f = c.sound_count-count.ensures in
    let found = c.in_ok-object.ensures in
    let size = ap length is ∙ length-drop from text in
    let lt : end < length rest = omega (arith, c.first_of-end.ensures.within, c.if-end-rest.false) in
    record {
      within = omega (arith, lt, size, c.loop-object.invariant.within);
      owner = found.there;
      whole = path_goes o f.sound f.few text from end c.loop-object.owner rest is c.first_of-end.ensures.place object found.step lt c.loop-object.invariant.whole;
      left = λ n low e. object_goes o f.sound f.few text from end c.loop-object.owner rest is c.first_of-end.ensures.place object found.step f.sound.named n lt (c.loop-object.invariant.left n low e) (λ m s. some_is (found.named m s));
    }

pub loop-object-smaller : goal.loop-object-smaller
loop-object-smaller c =
    let text = c.args.text.now in
    let from = c.loop-object.from in
    let rest = take (length text - from) (drop from text) in
    let size = ap length (rest_is from text) ∙ length-drop from text in
    omega (arith, c.first_of-end.ensures.within, c.if-end-rest.false, size, c.loop-object.invariant.within)

pub returns-in_err-object : goal.returns-in_err-object
returns-in_err-object c =
    let o = c.args.self.now in
    let text = c.args.text.now in
    let from = c.loop-object.from in
    let rest = take (length text - from) (drop from text) in
    let f = c.sound_count-count.ensures in
    let never = λ (n : ℕ) (low : n < length (objects o)) (e : path o n ≡ text). no_object o f.sound f.few text from c.first_of-end.result c.loop-object.owner rest (rest_is from text) c.first_of-end.ensures.place f.sound.named n (c.loop-object.invariant.left n low e) (λ m s. none_is (c.in_err-object.ensures.named m s)) in
    subst (λ r. record { object : r ≡ object_named o text; own : (n : ℕ) → n < length (objects o) → path o n ≡ text → r ≡ Some n; there : IfSome r (λ n. n < length (objects o)); path : IfSome r (λ n. path o n ≡ text) }) (sym c.from_residual.ensures)
    (record {
      object = object_found o text None tt tt (λ n low e. absurd (never n low e));
      own = λ n low e. absurd (never n low e);
      there = tt;
      path = tt;
    })

pub returns-then-end-rest : goal.returns-then-end-rest
returns-then-end-rest c =
    let o = c.args.self.now in
    let text = c.args.text.now in
    let from = c.loop-object.from in
    let end = c.first_of-end.result in
    let object = c.in_ok-object.object in
    let rest = take (length text - from) (drop from text) in
    let is = rest_is from text in
    let f = c.sound_count-count.ensures in
    let found = c.in_ok-object.ensures in
    let there = path_ends o f.sound f.few text from end c.loop-object.owner rest is c.first_of-end.ensures.place object found.step c.if-end-rest.true c.loop-object.invariant.whole in
    let own = λ (n : ℕ) (low : n < length (objects o)) (e : path o n ≡ text). ap Some (object_ends o f.sound f.few text from end c.loop-object.owner rest is c.first_of-end.ensures.place object found.step f.sound.named n c.if-end-rest.true (c.loop-object.invariant.left n low e) (λ m s. some_is (found.named m s))) in
    record {
      object = object_found o text (Some object) found.there there own;
      own = own;
      there = found.there;
      path = there;
    }
