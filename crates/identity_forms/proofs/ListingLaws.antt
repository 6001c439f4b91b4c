-- Lists of a class: they have their members, still where the problem grows.
use Rattle.std.proofs.Common.{◌≡◌, ℕ, length, refl, arith}
use Rattle.std.specs.Prelude.{Contains}
use Rattle.std.specs.List.{All}
use Rattle.std.proofs.lemmas.List.{length-map}
use Rattle.std.proofs.lemmas.List.Elements.{All-map, All-weaker}
use Rattle.class_table.specs.Outline.{Outline}
use Rattle.object_alloc.specs.Cells.{extent}
use Rattle.signed_clause.specs.Clauses.{Boxes}
use Rattle.form_build.specs.Forms.{HasVariable}
use Rattle.expr_forms.specs.declared.form.Member.{Member}
use Rattle.expr_forms.specs.declared.form.Slot.{Slot}
use Rattle.expr_forms.specs.declared.form.Listing.{Listing}
use Rattle.expr_forms.specs.declared.form.Listing.TheVariants as listing
use Rattle.expr_forms.specs.FormBounds.{IsMember, IsSlot, IsListing, slot_count}
use Rattle.expr_forms.proofs.SumsKept.{AreKept}
use Rattle.identity_forms.specs.Lists.{slot_objects, IsOwnedSlot, HasMembers}
use Rattle.identity_forms.proofs.MemberLaws.{variables_kept}
use Rattle.identity_forms.proofs.SlotLaws.{slots_kept}

-- a list of a class has its members
pub listing_has : (o : Outline) (boxes : Boxes) (c : ℕ) (l : Listing) → IsListing o boxes c l → HasMembers boxes l
listing_has o boxes c (listing.All xs) h = tt
listing_has o boxes c (listing.Some ms) h = All-weaker (IsMember o boxes c) (λ (m : Member). HasVariable (length boxes) m.is) (λ m i. i.is) ms.items h
listing_has o boxes c (listing.Owned x pairs ss) h =
    (h.0, All-weaker (IsSlot o boxes c x pairs.items) (IsOwnedSlot boxes x pairs.items) (λ s i. record { exist = i.exist; owners = i.owners }) ss.items h.1)

-- its objects are of the class
pub listing_objects : (o : Outline) (boxes : Boxes) (c : ℕ) (l : Listing) → IsListing o boxes c l → All (Contains (extent o c)) (slot_objects l)
listing_objects o boxes c (listing.All xs) h = h
listing_objects o boxes c (listing.Some ms) h =
    All-map (Contains (extent o c)) (λ (m : Member). m.object) ms.items (All-weaker (IsMember o boxes c) (λ (m : Member). Contains (extent o c) m.object) (λ m i. i.may) ms.items h)
listing_objects o boxes c (listing.Owned x pairs ss) h =
    All-map (Contains (extent o c)) (λ (s : Slot). s.object) ss.items (All-weaker (IsSlot o boxes c x pairs.items) (λ (s : Slot). Contains (extent o c) s.object) (λ s i. i.may) ss.items h.1)

pub slots_counted : (l : Listing) → length (slot_objects l) ≡ slot_count l
slots_counted (listing.All xs) = refl
slots_counted (listing.Some ms) = length-map ms.items (λ (m : Member). m.object)
slots_counted (listing.Owned x pairs ss) = length-map ss.items (λ (s : Slot). s.object)

-- a list has its members still
pub members_kept : (old new : Boxes) → AreKept old new → (l : Listing) → HasMembers old l → HasMembers new l
members_kept old new k (listing.All xs) h = tt
members_kept old new k (listing.Some ms) h = variables_kept old new k ms.items h
members_kept old new k (listing.Owned x pairs ss) h =
    (omega (arith, h.0, k.count), slots_kept old new k x pairs.items ss.items h.0 h.1)
