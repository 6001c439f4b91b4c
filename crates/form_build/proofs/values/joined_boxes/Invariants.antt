use Rattle.std.proofs.Common.{◌≡◌, [], drop}
use Rattle.signed_clause.specs.Ranges.{IsValid}
use Rattle.ground_build.specs.NewDomains.{picked_domain}
use Rattle.form_build.proofs.values.joined_boxes.Given as goal

abbrev pub invariant-loop-t : goal.invariant-loop-t
invariant-loop-t l = record {
  left : picked_domain l.made (drop l.t-index l.items) l.boxes ≡ picked_domain [] l.items l.boxes;
  valid : IsValid l.made;
}
