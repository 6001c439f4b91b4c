use Rattle.std.proofs.Common.{rules, w64, ◌≡◌, ℤ, false, sym, subst}
use Rattle.std.proofs.lemmas.Int.{to_z-of_z}
use Rattle.signed_clause.specs.Ranges.{has}
use Rattle.stated_pairs.proofs.PairLaws.{told_apart}
use Rattle.stated_pairs.proofs.reading.pair_of.Goals as goal

pub returns-else-contains : goal.returns-else-contains
returns-else-contains c =
    let t = c.in_ok-t.t in
    told_apart c.args.maker.now c.args.c.now t.by t.left t.right t.value.value c.in_ok-set.set.now c.in_ok-t.ensures c.in_ok-set.ensures
    (subst (λ (v : ℤ). has c.in_ok-set.set.now v ≡ false) (to_z-of_z w64 t.value.value (search rules)) (sym c.if-contains.ensures)) c.requires
