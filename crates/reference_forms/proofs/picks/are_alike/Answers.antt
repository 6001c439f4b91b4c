use Rattle.std.proofs.Common.{◌≡◌, ◌∙◌, ℕ, ℤ, pos, sym}
use Rattle.std.proofs.lemmas.List.Elements.{All-more}
use Rattle.signed_clause.specs.Clauses.{box_of}
use Rattle.ground_form.specs.Bounds.{low_of, high_of}
use Rattle.reference_forms.proofs.MapLaws.{all_taken}
use Rattle.reference_forms.proofs.PickLaws.{same_ends}
use Rattle.reference_forms.proofs.picks.are_alike.Goals as goal

pub loop-t-preserved : goal.loop-t-preserved
loop-t-preserved c =
    All-more (λ (t : ℤ × ℕ). (low_of (box_of c.args.boxes.now t.1), high_of (box_of c.args.boxes.now t.1)) ≡ c.args.ends) c.args.items.now c.loop-t.t-index (pos 0, 0) c.loop-t-test.true c.loop-t.invariant
    (sym c.ends_at.ensures ∙ same_ends c.ends_at.result c.args.ends (sym c.if-ne.ensures))

pub returns : goal.returns
returns c _ =
    all_taken (λ (t : ℤ × ℕ). (low_of (box_of c.args.boxes.now t.1), high_of (box_of c.args.boxes.now t.1)) ≡ c.args.ends) c.args.items.now c.loop-t.t-index c.loop-t-test.false c.loop-t.invariant
