use Rattle.std.proofs.Common.{rules, w64, ◌≡◌, ℕ, List, All, false, pos, sym, ◌∙◌, subst}
use Rattle.std.specs.Ordering.{int_eq}
use Rattle.std.proofs.lemmas.Int.{to_z-of_z}
use Rattle.ground_form.specs.Meaning.{value_of}
use Rattle.packing_sums.proofs.HostLaws.{same_bins}
use Rattle.packing_sums.proofs.away.away_from.Goals as goal

pub returns : goal.returns
returns c =
    let others = c.in-Some.claims.others.items in
    let bin = c.in-Some-only_bin.bin in
    let says = rw c.in-Some.is at c.in_ok-claims.ensures in
    record {
      small = c.in-Some-only_bin.ensures.small;
      none = λ a w all e.
          let held = says a w all (e ∙ sym (to_z-of_z w64 c.bit_of.result (search rules) ∙ c.bit_of.ensures)) in
          let same = same_bins others bin a (subst (λ (z : List (ℕ × ℕ)). All (λ (q : ℕ × ℕ). q.1 ≡ bin) z) c.as_slice.ensures.value c.in-Some-only_bin.ensures.all) held.others in
          c.sorted-vars.ensures bin a (c.in_ok-list.ensures bin a (subst (λ (z : List (ℕ × ℕ)). All (λ (q : ℕ × ℕ). int_eq (value_of a q.0) (pos bin) ≡ false) z) (sym c.as_slice-2.ensures.value) same));
    }
