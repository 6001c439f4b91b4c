-- Values that are defined, whoever made them.
use Rattle.std.proofs.Common.{◌≡◌, ℕ, zero, suc, ◌<◌, Bool, true, false, ◌&&◌, ◌||◌, cond, List, [], ◌∷◌, ◌++◌, ℤ, pos, ◌+ℤ◌, length, length-append, All, refl, sym, ap, ◌∙◌, subst, arith, get_or}
use Rattle.std.specs.Ordering.{int_eq}
use Rattle.std.proofs.lemmas.Int.{ints}
use Rattle.std.proofs.lemmas.Bool.{and_parts}
use Rattle.std.proofs.lemmas.Bool.Decides.{Decides-int_eq}
use Rattle.signed_clause.specs.Ranges.{Ranges, is_nil}
use Rattle.signed_clause.specs.Clauses.{Boxes, box_of}
use Rattle.ground_form.specs.declared.con.Con.{Con}
use Rattle.ground_form.specs.declared.con.Con.TheVariants.{LinDef, ElementDef, CondDef}
use Rattle.ground_form.specs.declared.ground.Ground.{Ground}
use Rattle.ground_form.specs.Meaning.{value_of, sum_at, picks, con_true}
use Rattle.ground_form.specs.Bounds.{low_of, high_of}
use Rattle.ground_form.specs.WellMade.{lacks_value, distinct_values, IsWellMade}
use Rattle.ground_build.specs.Growing.{with_definition, Means, IsPicked, IsItemOrNought, IsDefined}
use Rattle.ground_build.specs.NewDomains.{linear_domain}
use Rattle.form_build.specs.declared.form.Linear.{Linear}
use Rattle.form_build.specs.Forms.{linear_at}
use Rattle.form_build.specs.Worlds.{IsWorld, HasDefinition, IsVariableOf, IsPickOf, IsItemWhere, AreSome}
use Rattle.form_build.specs.Sums.{AreTerms, least_linear, greatest_linear}
use Rattle.form_build.proofs.Growth.{definition_holds}
use Rattle.form_build.proofs.Flags.{well_made_there, defined_some}
use Rattle.form_build.proofs.Fitting.{box_last, box_made, none_empty, there_made}

-- ---- sums

pub sum_found : (g : Ground) (x : ℕ) (f : Linear) → HasDefinition g x (LinDef x f.terms f.offset) → low_of (box_of g.domains x) ≡ least_linear f g.domains → high_of (box_of g.domains x) ≡ greatest_linear f g.domains → IsVariableOf g x (least_linear f g.domains) (greatest_linear f g.domains) (λ a. linear_at f a)
sum_found g x f h low high = record {
  exists = h.exists;
  low = low;
  high = high;
  value = λ a w. (Decides-int_eq (value_of a x) (linear_at f a)).0 (definition_holds g x (LinDef x f.terms f.offset) a h w);
}

-- a definition of terms and an offset that are the sum's is the sum's
pub own_sum : (f : Linear) (old new : Ground) (x : ℕ) (ts : List (ℤ × ℕ)) (offset : ℤ) → ts ≡ f.terms → offset ≡ f.offset → IsDefined old new x (linear_domain ts offset old.domains) (LinDef x ts offset) → IsDefined old new x (linear_domain f.terms f.offset old.domains) (LinDef x f.terms f.offset)
own_sum f old new x ts offset e k d =
    let one = subst (λ (z : List (ℤ × ℕ)). IsDefined old new x (linear_domain z offset old.domains) (LinDef x z offset)) e d in
    subst (λ (v : ℤ). IsDefined old new x (linear_domain f.terms v old.domains) (LinDef x f.terms v)) k one

own_means : (f : Linear) (new : Ground) (x : ℕ) (ts : List (ℤ × ℕ)) (offset : ℤ) (a : List ℤ) → ts ≡ f.terms → offset ≡ f.offset → (sum_at ts a +ℤ offset) ≡ linear_at f a
own_means f new x ts offset a e k = ap (λ (z : List (ℤ × ℕ)). sum_at z a +ℤ offset) e ∙ ap (λ (v : ℤ). sum_at f.terms a +ℤ v) k

pub sum_made : (f : Linear) (old new : Ground) (x : ℕ) (ts : List (ℤ × ℕ)) (offset : ℤ) → ts ≡ f.terms → offset ≡ f.offset → AreTerms old.domains 0 f.terms → IsDefined old new x (linear_domain ts offset old.domains) (LinDef x ts offset) → Means new x (λ a. sum_at ts a +ℤ offset) → IsVariableOf new x (least_linear f old.domains) (greatest_linear f old.domains) (λ a. linear_at f a)
sum_made f old new x ts offset e k h d m =
    let own = own_sum f old new x ts offset e k d in
    let values = box_made f old new x h own in
    record {
      exists = there_made f old new x own;
      low = ap low_of values;
      high = ap high_of values;
      value = λ a w. m a w.defined ∙ own_means f new x ts offset a e k;
    }

pub sum_some : (f : Linear) (old new : Ground) (x : ℕ) (ts : List (ℤ × ℕ)) (offset : ℤ) → ts ≡ f.terms → offset ≡ f.offset → AreTerms old.domains 0 f.terms → IsDefined old new x (linear_domain ts offset old.domains) (LinDef x ts offset) → AreSome old.domains → AreSome new.domains
sum_some f old new x ts offset e k h d some =
    let own = own_sum f old new x ts offset e k d in
    let full = ap (λ (b : Bool). is_nil {X = ℤ × ℤ} (cond b [] ((least_linear f old.domains, greatest_linear f old.domains) ∷ []))) (none_empty old.domains 0 f.terms h) in
    defined_some old new x _ _ full own some

-- ---- what is made has its box

pub made_values : (old new : Ground) (x : ℕ) (domain : Ranges) (con : Con) → IsDefined old new x domain con → box_of new.domains x ≡ domain
made_values old new x domain con d = ap (λ (g : Ground). box_of g.domains x) d.grown ∙ box_last old.domains domain x d.variable

pub made_exists : (old new : Ground) (x : ℕ) (domain : Ranges) (con : Con) → IsDefined old new x domain con → x < length new.domains
made_exists old new x domain con d = subst (λ (g : Ground). x < length g.domains) (sym d.grown) (omega (arith, d.variable, length-append old.domains (domain ∷ [])))

-- ---- picks

or_first : (p q : Bool) → q ≡ false → (p || q) ≡ true → p ≡ true
or_first true q e h = refl
or_first false q e h = absurd cc

or_second : (p q r : Bool) → p ≡ false → ((p && r) || q) ≡ true → q ≡ true
or_second true q r e h = absurd cc
or_second false q r e h = h

not_equal : (x y : ℤ) → (x ≡ y → ⊥) → int_eq x y ≡ false
not_equal x y h = grind (arith, ints)

lacking : (v : ℤ) (t : ℤ × ℕ) (ts : List (ℤ × ℕ)) → int_eq t.0 v ≡ true → lacks_value v (t ∷ ts) ≡ true → ⊥
lacking v t ts e h = (elim (int_eq t.0 v) as (λ b. b ≡ true → cond b false (lacks_value v ts) ≡ true → ⊥) [ true ↦ λ f g. cc | false ↦ λ f g. cc ]) e h

lacks_tail : (v : ℤ) (t : ℤ × ℕ) (ts : List (ℤ × ℕ)) → lacks_value v (t ∷ ts) ≡ true → lacks_value v ts ≡ true
lacks_tail v t ts h = (elim (int_eq t.0 v) as (λ b. cond b false (lacks_value v ts) ≡ true → lacks_value v ts ≡ true) [ true ↦ λ g. absurd cc | false ↦ λ g. g ]) h

lacks_at : (v : ℤ) (ts : List (ℤ × ℕ)) (k : ℕ) (d : ℤ × ℕ) → lacks_value v ts ≡ true → k < length ts → (get_or ts k d).0 ≡ v → ⊥
lacks_at v [] k d h lt e = absurd (omega arith)
lacks_at v (t ∷ ts) zero d h lt e = let test = (Decides-int_eq t.0 v).1 e in lacking v t ts test h
lacks_at v (t ∷ ts) (suc k) d h lt e = lacks_at v ts k d (lacks_tail v t ts h) (omega arith) e

picks_none : (out index : ℤ) (ts : List (ℤ × ℕ)) (a : List ℤ) → lacks_value index ts ≡ true → picks out index ts a ≡ false
picks_none out index [] a h = refl
picks_none out index (t ∷ ts) a h =
    let rest = picks_none out index ts a (lacks_tail index t ts h) in
    (elim (int_eq t.0 index) as (λ b. (b ≡ true → ⊥) → ((b && int_eq (value_of a t.1) out) || picks out index ts a) ≡ false) [ true ↦ λ f. absurd (f refl) | false ↦ λ f. rest ]) (λ e. lacking index t ts e h)

picked_at : (out index : ℤ) (ts : List (ℤ × ℕ)) (a : List ℤ) (k : ℕ) (d : ℤ × ℕ) → distinct_values ts ≡ true → picks out index ts a ≡ true → k < length ts → index ≡ (get_or ts k d).0 → out ≡ value_of a (get_or ts k d).1
picked_at out index [] a k d h p lt e = absurd (omega arith)
picked_at out index (t ∷ ts) a zero d h p lt e =
    let parts = and_parts (lacks_value t.0 ts) (distinct_values ts) h in
    let none = picks_none out index ts a (subst (λ (z : ℤ). lacks_value z ts ≡ true) (sym e) parts.0) in
    sym ((Decides-int_eq (value_of a t.1) out).0 (and_parts (int_eq t.0 index) (int_eq (value_of a t.1) out) (or_first (int_eq t.0 index && int_eq (value_of a t.1) out) (picks out index ts a) none p)).1)
picked_at out index (t ∷ ts) a (suc k) d h p lt e =
    let parts = and_parts (lacks_value t.0 ts) (distinct_values ts) h in
    let other : int_eq t.0 index ≡ false = not_equal t.0 index (λ f. lacks_at t.0 ts k d parts.0 (omega arith) (sym e ∙ sym f)) in
    picked_at out index ts a k d parts.1 (or_second (int_eq t.0 index) (picks out index ts a) (int_eq (value_of a t.1) out) other p) (omega arith) e

pub pick_found : (g : Ground) (x index : ℕ) (values : Ranges) (items : List (ℤ × ℕ)) → HasDefinition g x (ElementDef x index items) → distinct_values items ≡ true → box_of g.domains x ≡ values → IsPickOf g x values index items
pick_found g x index values items h distinct e = record {
  exists = h.exists;
  box = e;
  value = λ a w k d lt is. picked_at (value_of a x) (value_of a index) items a k d distinct (definition_holds g x (ElementDef x index items) a h w) lt is;
}

pub pick_made : (old new : Ground) (x index : ℕ) (values : Ranges) (items : List (ℤ × ℕ)) → IsDefined old new x values (ElementDef x index items) → IsPicked new x index items → IsPickOf new x values index items
pick_made old new x index values items d m = record {
  exists = made_exists old new x values _ d;
  box = made_values old new x values _ d;
  value = λ a w. m a w.defined;
}

-- ---- items where a flag is 1

when_true : (f o i : ℤ) → ((int_eq f (pos 1) && int_eq o i) || (int_eq f (pos 0) && int_eq o (pos 0))) ≡ true → (f ≡ pos 1 → o ≡ i) × (f ≡ pos 0 → o ≡ pos 0)
when_true f o i h = ((λ e. grind (arith, ints)), (λ e. grind (arith, ints)))

pub when_found : (g : Ground) (x flag item : ℕ) (values : Ranges) → HasDefinition g x (CondDef x flag item) → box_of g.domains x ≡ values → IsItemWhere g x values flag item
when_found g x flag item values h e = record {
  exists = h.exists;
  box = e;
  one = λ a w. (when_true (value_of a flag) (value_of a x) (value_of a item) (definition_holds g x (CondDef x flag item) a h w)).0;
  nought = λ a w. (when_true (value_of a flag) (value_of a x) (value_of a item) (definition_holds g x (CondDef x flag item) a h w)).1;
}

pub when_made : (old new : Ground) (x flag item : ℕ) (values : Ranges) → IsDefined old new x values (CondDef x flag item) → IsItemOrNought new x flag item → IsItemWhere new x values flag item
when_made old new x flag item values d m = record {
  exists = made_exists old new x values _ d;
  box = made_values old new x values _ d;
  one = λ a w. (m a w.defined).0;
  nought = λ a w. (m a w.defined).1;
}
