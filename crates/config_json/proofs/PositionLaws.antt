-- The position of an object, from that of its owner.
use Rattle.std.proofs.Common.{◌≡◌, ℕ, zero, suc, ◌<◌, List, Option, None, Some, length, refl, sym, ap, ◌∙◌, arith}
use Rattle.std.specs.Prelude.{slice_get, slice_index_or, option_and_then, IfSome}
use Rattle.std.specs.Borrow.{Bor}
use Rattle.class_table.specs.Outline.{Outline}
use Rattle.object_alloc.specs.declared.object.Object.{Object}
use Rattle.object_alloc.specs.Variables.{variables_of}
use Rattle.object_alloc.specs.Held.{IsBefore}
use Rattle.object_alloc.specs.Walk.{objects}
use Rattle.object_alloc.proofs.HeldLaws.{object_held}
use Rattle.serde_json.specs.Data.{Data}
use Rattle.serde_json.specs.declared.value.Value.{Value}
use Rattle.config_json.specs.Former.{owner_position, position_within, object_position, step_to}
use Rattle.config_json.specs.Positions.{seen, ArePositions}
use Rattle.config_json.proofs.Known.{item_within}

module _ (o : Outline) (d : Data) where
  -- from the position of its owner, as `position_of` gives it
  abbrev pub from_owner : (ℕ → Option Data) → Object → Option Data
  from_owner position x = option_and_then (step_to (variables_of o x.owner) x) (owner_position position d x.owner)

  same_owner : (f g : ℕ → Option Data) (n : ℕ) (p : Option ℕ) → ((q : ℕ) → q < n → f q ≡ g q) → IsBefore p n → owner_position f d p ≡ owner_position g d p
  same_owner f g n None each h = refl
  same_owner f g n (Some q) each h = each q h

  same_step : (f g : ℕ → Option Data) (n : ℕ) (x : Object) → ((q : ℕ) → q < n → f q ≡ g q) → slice_get (objects o) n ≡ Some x → from_owner f x ≡ from_owner g x
  same_step f g n x each e = ap (option_and_then (step_to (variables_of o x.owner) x)) (same_owner f g n x.owner each (object_held o n x e).owner)

  -- further steps change nothing
  position_same : (f g n : ℕ) → n < f → n < g → position_within o d f n ≡ position_within o d g n
  position_same zero g n hf hg = absurd (omega (arith, hf))
  position_same (suc f) zero n hf hg = absurd (omega (arith, hg))
  position_same (suc f) (suc g) n hf hg = by (λ p lt. position_same f g p (omega (arith, lt, hf)) (omega (arith, lt, hg))) (slice_get (objects o) n) refl
    where
      by : ((p : ℕ) → p < n → position_within o d f p ≡ position_within o d g p) → (x : Option Object) → slice_get (objects o) n ≡ x → option_and_then (from_owner (position_within o d f)) x ≡ option_and_then (from_owner (position_within o d g)) x
      by each None e = refl
      by each (Some x) e = same_step (position_within o d f) (position_within o d g) n x each e

  pub position_made : (n : ℕ) (x : Object) (positions : List (Option (Bor Value))) → slice_get (objects o) n ≡ Some x → ArePositions o d n positions → from_owner (λ m. seen (slice_index_or positions m None)) x ≡ object_position o d n
  position_made n x positions e are =
      same_step (λ m. seen (slice_index_or positions m None)) (position_within o d n) n x
      (λ q lt. are.each q lt ∙ position_same (suc q) n q (omega arith) lt) e
      ∙ ap (option_and_then (from_owner (position_within o d n))) (sym e)

  owner_there : (p : Option ℕ) (n m : ℕ) → n < m → IsBefore p n → IfSome p (λ q. q < m)
  owner_there None n m h b = tt
  owner_there (Some q) n m h b = omega (arith, h, b)

  owner_less : (p : Option ℕ) (n : ℕ) → IsBefore p n → IfSome p (λ q. q < n)
  owner_less None n b = tt
  owner_less (Some q) n b = b

  -- what is known of where an object is held
  pub record IsOwned (n : ℕ) (x : Object) : Type 0 where
    pub less : IfSome x.owner (λ q. q < n)
    pub there : IfSome x.owner (λ q. q < length (objects o))
    pub attribute : x.attribute < length (variables_of o x.owner)

  pub owned : (n : ℕ) (x : Object) → slice_get (objects o) n ≡ Some x → IsOwned n x
  owned n x e =
      let held = object_held o n x e in
      record {
        less = owner_less x.owner n held.owner;
        there = owner_there x.owner n (length (objects o)) (item_within (objects o) n x e) held.owner;
        attribute = item_within (variables_of o x.owner) x.attribute held.variable held.has;
      }
