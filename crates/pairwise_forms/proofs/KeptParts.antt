-- Parts over a problem that grows, and members made of them one after the other.
use Rattle.std.proofs.Common.{◌≡◌, ℕ, ◌+◌, ◌-◌, ◌<◌, ◌≤◌, ◌^◌, List, [], ◌∷◌, ◌++◌, take, drop, get_or, map, length, refl, sym, ap, ◌∙◌, subst, arith}
use Rattle.std.specs.List.{All}
use Rattle.std.proofs.lemmas.List.{take_all, take_more, map-append}
use Rattle.std.proofs.lemmas.List.Elements.{All-push, All-weaker, All-head, All-take, All-drop}
use Rattle.ground_form.specs.declared.ground.Ground.{Ground}
use Rattle.form_build.specs.declared.form.Truth.{Truth}
use Rattle.form_build.specs.Worlds.{Grows}
use Rattle.form_build.proofs.Growth.{world_before, no_less}
use Rattle.form_build.proofs.Keeping.{linear_kept}
use Rattle.expr_forms.specs.declared.form.Form.{Form}
use Rattle.expr_forms.specs.declared.form.Form.TheVariants as form
use Rattle.expr_forms.proofs.Growing.{boxes_kept, choice_kept}
use Rattle.quantifier_forms.specs.declared.part.Part.{Part}
use Rattle.quantifier_forms.proofs.PartsKept.{variable_kept}
use Rattle.pairwise_forms.specs.declared.members.Keyed.{Keyed}
use Rattle.pairwise_forms.specs.AlikeParts.{first_form}
use Rattle.pairwise_forms.specs.KeyValues.{HasKey}
use Rattle.pairwise_forms.specs.Clashing.{IsKeyed, kept_key, part_key, HasKeyPart, AreKeyed}

-- ---- parts

pub has_key_kept : (old new : Ground) (f : Form) → Grows old new → HasKey old.domains f → HasKey new.domains f
has_key_kept old new (form.Number f) g h = linear_kept (2 ^ 58) old new f g h
has_key_kept old new (form.Truth t) g h = variable_kept old new g t h
has_key_kept old new (form.Choice e c) g h = choice_kept old.domains new.domains (boxes_kept old new g) (λ n. Unit {0}) c h
has_key_kept old new (form.Object d c) g h = choice_kept old.domains new.domains (boxes_kept old new g) (λ n. Unit {0}) c h
has_key_kept old new (form.List l) g h = tt

key_part_kept : (old new : Ground) (p : Part) → Grows old new → HasKeyPart old.domains p → HasKeyPart new.domains p
key_part_kept old new p g h = record { kept = variable_kept old new g p.kept h.kept; first = has_key_kept old new (first_form p.bodies.items) g h.first }

pub key_parts_kept : (old new : Ground) (ps : List Part) → Grows old new → All (HasKeyPart old.domains) ps → All (HasKeyPart new.domains) ps
key_parts_kept old new ps g h = All-weaker (HasKeyPart old.domains) (HasKeyPart new.domains) (λ p k. key_part_kept old new p g k) ps h

-- ---- members by their values

pub no_members : (g : Ground) → AreKeyed g [] []
no_members g = record { exist = λ k d lt. absurd (omega (arith, lt)); kept = refl; seen = λ a w. refl }

pub member_kept : (old new : Ground) (e : Keyed) → Grows old new → IsKeyed (length old.domains) e → IsKeyed (length new.domains) e
member_kept old new e g h = let less = no_less old new g in record { kept = variable_kept old new g e.kept h.kept; exists = omega (arith, h.exists, less) }

pub members_kept : (old new : Ground) (es : List Keyed) → Grows old new → All (IsKeyed (length old.domains)) es → All (IsKeyed (length new.domains)) es
members_kept old new es g h = All-weaker (IsKeyed (length old.domains)) (IsKeyed (length new.domains)) (λ e k. member_kept old new e g k) es h

pub member_at : (n : ℕ) (es : List Keyed) (k : ℕ) (e : Keyed) → All (IsKeyed n) es → k < length es → e ≡ get_or es k e → IsKeyed n e
member_at n es k e h lt is = subst (IsKeyed n) (sym is) (h k e lt)

-- those from k on
pub members_behind : (n : ℕ) (es : List Keyed) (k : ℕ) → All (IsKeyed n) es → All (IsKeyed n) (take (length es - k) (drop k es))
members_behind n es k h = All-take (IsKeyed n) (length es - k) (drop k es) (All-drop (IsKeyed n) k es h)

-- one member more
pub members_more : (old new : Ground) (ps : List Part) (k : ℕ) (p : Part) (es more : List Keyed) (e : Keyed) → Grows old new → k < length ps → p ≡ get_or ps k p → more ≡ es ++ e ∷ [] → AreKeyed new (p ∷ []) (e ∷ []) → AreKeyed old (take k ps) es → AreKeyed new (take (k + 1) ps) more
members_more old new ps k p es more e g lt is made one h =
    let next : take (k + 1) ps ≡ take k ps ++ p ∷ [] = take_more ps k p lt ∙ ap (λ (q : Part). take k ps ++ q ∷ []) (sym is) in
    record {
      exist =
          subst (All (IsKeyed (length new.domains))) (sym made)
          (All-push (IsKeyed (length new.domains)) es e (members_kept old new es g h.exist) (All-head (IsKeyed (length new.domains)) e [] one.exist));
      kept =
          ap (map (λ (f : Keyed). f.kept)) made
          ∙ map-append (λ (f : Keyed). f.kept) es (e ∷ [])
          ∙ ap (λ (ts : List Truth). ts ++ e.kept ∷ []) h.kept
          ∙ ap (λ (ts : List Truth). map (λ (q : Part). q.kept) (take k ps) ++ ts) one.kept
          ∙ sym (map-append (λ (q : Part). q.kept) (take k ps) (p ∷ []))
          ∙ ap (map (λ (q : Part). q.kept)) (sym next);
      seen = λ a w.
          ap (map (λ (f : Keyed). kept_key f a)) made
          ∙ map-append (λ (f : Keyed). kept_key f a) es (e ∷ [])
          ∙ ap (λ (ss : List _). ss ++ kept_key e a ∷ []) (h.seen a (world_before old new a g w))
          ∙ ap (λ (ss : List _). map (λ (q : Part). part_key q a) (take k ps) ++ ss) (one.seen a w)
          ∙ sym (map-append (λ (q : Part). part_key q a) (take k ps) (p ∷ []))
          ∙ ap (map (λ (q : Part). part_key q a)) (sym next);
    }

pub members_all : (g : Ground) (ps : List Part) (k : ℕ) (es : List Keyed) → length ps ≤ k → AreKeyed g (take k ps) es → AreKeyed g ps es
members_all g ps k es le h = subst (λ (qs : List Part). AreKeyed g qs es) (take_all k ps le) h
