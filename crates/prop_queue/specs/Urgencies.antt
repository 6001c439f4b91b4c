-- How soon constraints are looked at. What a reader believes after this file: those of kinds that
-- cost little come first, then sums, then packings; of each urgency those that a sweep takes, and
-- then those that were listed meanwhile.
use Rattle.std.specs.Prelude.{ℕ, Bool, cond, List, [], ◌∷◌, ◌++◌, Option, Some, None}
use Rattle.ground_form.specs.declared.kind.Kind.{Kind}
use Rattle.ground_form.specs.declared.kind.Kind.TheVariants as kind
use Rattle.prop_queue.specs.declared.urgency.Urgency.{Urgency}
use Rattle.prop_queue.specs.declared.urgency.Urgency.TheVariants as urgency

abbrev pub urgency_of : Kind → Urgency
urgency_of kind.LinLe = urgency.Sum
urgency_of kind.LinDef = urgency.Sum
urgency_of kind.ReifLe = urgency.Sum
urgency_of kind.AndDef = urgency.Cheap
urgency_of kind.MemberDef = urgency.Cheap
urgency_of kind.EqDef = urgency.Cheap
urgency_of kind.ElementDef = urgency.Cheap
urgency_of kind.CondDef = urgency.Cheap
urgency_of kind.ClauseCon = urgency.Cheap
urgency_of kind.AllDiff = urgency.Packing
urgency_of kind.Pack = urgency.Packing

-- numbers of one urgency that wait: those that this sweep takes, those that were listed since it
-- began, whether these are taken with the newest first, and how many may wait
pub record Sweep : Type 0 where
  pub current : List ℕ
  pub later : List ℕ
  pub turned : Bool
  pub room : ℕ

abbrev pub sweep : List ℕ → List ℕ → Bool → ℕ → Sweep
sweep current later turned room =
    record { current = current; later = later; turned = turned; room = room }

-- in the order in which they are taken
abbrev pub sweep_order : Sweep → List ℕ
sweep_order s = s.current ++ s.later

-- one more
abbrev pub added : ℕ → Sweep → Sweep
added k s = sweep s.current (cond s.turned (k ∷ s.later) (s.later ++ k ∷ [])) s.turned s.room

-- numbers that wait, a sweep for each urgency, and how many there may be
pub record Waiting : Type 0 where
  pub cheap : Sweep
  pub sums : Sweep
  pub packings : Sweep
  pub room : ℕ

abbrev pub waiting : Sweep → Sweep → Sweep → ℕ → Waiting
waiting cheap sums packings room =
    record { cheap = cheap; sums = sums; packings = packings; room = room }

-- in the order in which they are taken
abbrev pub order_of : Waiting → List ℕ
order_of w = sweep_order w.cheap ++ (sweep_order w.sums ++ sweep_order w.packings)

-- the one that is taken next
abbrev pub first_of : List ℕ → Option ℕ
first_of [] = None
first_of (k ∷ ks) = Some k

-- one more, among those of its urgency
abbrev pub queued : Urgency → ℕ → Waiting → Waiting
queued urgency.Cheap k w = waiting (added k w.cheap) w.sums w.packings w.room
queued urgency.Sum k w = waiting w.cheap (added k w.sums) w.packings w.room
queued urgency.Packing k w = waiting w.cheap w.sums (added k w.packings) w.room
