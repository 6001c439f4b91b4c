-- From why a step of building is refused to why the model is; from the model's parts to the model.
use Rattle.std.proofs.Common.{◌≡◌, ◌∙◌, ◌≤◌, List, inl, inr, length, sym, subst, refl}
use native.Mathlib.Omega.{arith}
use Rattle.class_table.specs.Outline.{Outline}
use Rattle.conf_limits.specs.Limits.{IsWithinMeasures, IsLimitRefused}
use Rattle.conf_limits.specs.declared.limit.LimitFault.{LimitFault}
use Rattle.conf_limits.specs.declared.limit.LimitFault.TheVariants as measure
use Rattle.conf_syntax.specs.declared.tree.Program.{Program}
use Rattle.conf_types.specs.Programs.{ResolvedConstraint, ResolvedGoal}
use Rattle.conf_types.specs.Typing.{IsTypedModel}
use Rattle.model_limits.specs.Limits.{model_bytes}
use Rattle.object_alloc.specs.Limits.{IsWithinLimits, IsRefused}
use Rattle.object_alloc.specs.declared.fault.AllocFault.{AllocFault}
use Rattle.object_alloc.specs.declared.fault.AllocFault.TheVariants as fault
use Rattle.model_reader.specs.Building.{IsResolved}
use Rattle.model_reader.specs.Meaning.{IsTyped}
use Rattle.model_reader.specs.Models.{IsWithin, outline_of, constraints_of, goals_of}
use Rattle.model_reader.specs.Ready.{IsReady}
use Rattle.model_reader.specs.ModelRefusal.{IsRefusedFor}
use Rattle.model_reader.specs.Refusing.{allocated, measured}
use Rattle.run_status.specs.Stages.{Denied}

pub not_allocated : (t : Outline) (f : AllocFault) → IsRefused t f → (p : Program) → t ≡ outline_of p → IsTyped p → Denied (allocated f) (IsRefusedFor (allocated f) p)
not_allocated t fault.TooManyObjects h p is typed = inr (refl, (typed, subst (λ (o : Outline). IsRefused o fault.TooManyObjects) is h))
not_allocated t fault.TooDeep h p is typed = inr (refl, (typed, subst (λ (o : Outline). IsRefused o fault.TooDeep) is h))
not_allocated t fault.TooManyCells h p is typed = inr (refl, (typed, subst (λ (o : Outline). IsRefused o fault.TooManyCells) is h))
not_allocated t fault.Memory h p is typed = inl refl

-- what holds of a model's parts holds of what the model says
pub at_model : (p : Program) (t o : Outline) (cs : List ResolvedConstraint) (gs : List ResolvedGoal) → o ≡ t → IsResolved p t cs gs → (P : Outline → List ResolvedConstraint → List ResolvedGoal → Type 0) → P o cs gs → P (outline_of p) (constraints_of p) (goals_of p)
at_model p t o cs gs objects_are made P h =
    subst (λ x. P (outline_of p) (constraints_of p) x) made.goals_are
    (subst (λ x. P (outline_of p) x gs) made.constraints_are (subst (λ x. P x cs gs) (objects_are ∙ made.table_is) h))

pub within : (p : Program) (t o : Outline) (cs : List ResolvedConstraint) (gs : List ResolvedGoal) → o ≡ t → IsResolved p t cs gs → IsWithinLimits t → IsWithinMeasures o cs gs → IsWithin p
within p t o cs gs objects_are made limits m =
    let w = at_model p t o cs gs objects_are made (λ x ks hs. IsWithinMeasures x ks hs) m in
    record {
      typed = made.typed;
      objects = subst IsWithinLimits made.table_is limits;
      light = w.weight;
      narrow = w.narrow;
    }

pub ready : (t o : Outline) (cs : List ResolvedConstraint) (gs : List ResolvedGoal) → o ≡ t → IsTypedModel t cs gs → IsWithinMeasures o cs gs → length cs ≤ model_bytes → IsReady t o cs gs
ready t o cs gs objects_are typed m few =
    record {
      one = objects_are;
      typed = subst (λ (x : Outline). IsTypedModel x cs gs) (sym objects_are) typed;
      narrow = m.narrow;
      few = omega (arith, few);
    }

made : (o : Outline) (cs : List ResolvedConstraint) (gs : List ResolvedGoal) (p : Program) → o ≡ outline_of p → cs ≡ constraints_of p → gs ≡ goals_of p → IsTyped p → IsResolved p o cs gs
made o cs gs p outline_is constraints_are goals_are typed =
    record { typed = typed; table_is = outline_is; constraints_are = constraints_are; goals_are = goals_are }

-- what breaks a limit of expressions refuses the model
pub not_measured : (o : Outline) (cs : List ResolvedConstraint) (gs : List ResolvedGoal) (f : LimitFault) → IsLimitRefused o cs gs f → (p : Program) → o ≡ outline_of p → cs ≡ constraints_of p → gs ≡ goals_of p → IsTyped p → IsWithinLimits (outline_of p) → Denied (measured f) (IsRefusedFor (measured f) p)
not_measured o cs gs measure.TooHeavy h p outline_is constraints_are goals_are typed limits =
    inr (refl, ((typed, limits), at_model p o o cs gs refl (made o cs gs p outline_is constraints_are goals_are typed) (λ x ks hs. IsLimitRefused x ks hs measure.TooHeavy) h))
not_measured o cs gs measure.TooWide h p outline_is constraints_are goals_are typed limits =
    let is = at_model p o o cs gs refl (made o cs gs p outline_is constraints_are goals_are typed) (λ x ks hs. IsLimitRefused x ks hs measure.TooWide) h in
    inr (refl, ((typed, limits), is.0, is.1))
