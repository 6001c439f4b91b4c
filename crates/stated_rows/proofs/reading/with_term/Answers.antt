use Rattle.std.proofs.Common.{◌≡◌, ℕ, ℤ, pos, ◌+ℤ◌, List, [], ◌∷◌, ◌++◌}
use Rattle.packed_rows.specs.Loads.{load_of}
use Rattle.stated_rows.specs.Following.{share_at, IsBelow}
use Rattle.stated_rows.specs.declared.reading.Reading.{Reading}
use Rattle.stated_rows.proofs.LoadLaws.{if_some, term_more}
use Rattle.stated_rows.proofs.reading.with_term.Goals as goal

pub returns : goal.returns
returns c =
    let g = c.args.maker.now in
    let bin = pos c.args.bin in
    let r = c.args.r in
    if_some (λ (n : Reading). (b : ℤ) (a : List ℤ) → (load_of b n.loads.items a +ℤ n.least.value) ≡ ((load_of b r.loads.items a +ℤ r.least.value) +ℤ share_at b c.in-Some.s a))
    (λ (n : Reading). (terms : List (ℤ × ℕ)) → IsBelow g bin r.loads.items r.least.value terms → IsBelow g bin n.loads.items n.least.value (terms ++ c.args.t ∷ []))
    c.in_ok-next.next
    (λ n sum. term_more g bin c.in-Some.s c.args.t r.loads.items n.loads.items r.least.value n.least.value c.in-Some.ensures (λ a. sum bin a)) c.in_ok-next.ensures
