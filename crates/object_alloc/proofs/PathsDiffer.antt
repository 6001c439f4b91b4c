-- Where names can be read back from paths, different objects have different paths.
use Rattle.std.proofs.Common.{◌≡◌, ℕ, zero, suc, ◌+◌, ◌<◌, ◌≤◌, ◌^◌, List, Option, None, Some, length, take, drop, refl, ap, sym, ◌∙◌, subst, arith, length-drop, ◌⊎◌, inl, inr}
use Rattle.std.specs.Prelude.{IfSome, slice_index_or}
use Rattle.std.proofs.lemmas.Bool.{cases_lt}
use Rattle.std.proofs.lemmas.Option.{slice_get_within}
use Rattle.class_table.specs.declared.table.Resolved.{Resolved}
use Rattle.class_table.specs.declared.table.Resolved.TheVariants.{Span, Truth, Choice, One, Many, Ref, RefSet}
use Rattle.class_table.specs.declared.table.Variable.{Variable}
use Rattle.class_table.specs.Outline.{Outline, attributes}
use Rattle.class_table.specs.Sound.{IsSound}
use Rattle.object_alloc.specs.declared.object.Object.{Object}
use Rattle.object_alloc.specs.Variables.{variables_of}
use Rattle.class_table.specs.Named.{IsNamed, dot, bracket}
use Rattle.object_alloc.specs.Named.{IsStep, HasName, first_place}
use Rattle.object_alloc.specs.Paths.{object_named, index_text, path}
use Rattle.object_alloc.specs.Held.{IsBefore}
use Rattle.object_alloc.specs.Parts.{IsElement}
use Rattle.object_alloc.specs.Walk.{objects}
use Rattle.object_alloc.proofs.ChainLaws.{Leads, IsTurn, turn, path_leads, object_found}
use Rattle.object_alloc.proofs.HeldLaws.{object_held}
use Rattle.object_alloc.proofs.OwnParts.{same_part}
use Rattle.object_alloc.proofs.PartNames.{named_by, has_low}
use Rattle.object_alloc.proofs.PlaceLaws.{place_within}
use Rattle.object_alloc.proofs.StepLaws.{at, variable_at, class_low, variables_in, name_finds, root_found, one_index}

some_is : {a b : ℕ} → Some a ≡ Some b → a ≡ b
some_is e = cc

same_index : (s : Resolved) (i j : ℕ) → i < 2 ^ 32 → j < 2 ^ 32 → IsElement s i → IsElement s j → index_text s i ≡ index_text s j → i ≡ j
same_index (One c) i j hi hj a b e = a ∙ sym b
same_index (Many c m) i j hi hj a b e = one_index i j hi hj e
same_index (Span low high) i j hi hj a b e = absurd a
same_index Truth i j hi hj a b e = absurd a
same_index (Choice x) i j hi hj a b e = absurd a
same_index (Ref c) i j hi hj a b e = absurd a
same_index (RefSet c m) i j hi hj a b e = absurd a

module _ (o : Outline) (sound : IsSound o) (few : length (objects o) < 2 ^ 32) (named : IsNamed o) where
  -- one variable has the name
  same_variable : (owner : Option ℕ) (name : List ℕ) (j k : ℕ) → IfSome owner (λ p. p < length (objects o)) → HasName (variables_of o owner) name j → HasName (variables_of o owner) name k → j ≡ k
  same_variable None name j k there a b = some_is (sym (root_found o name j named a) ∙ root_found o name k named b)
  same_variable (Some p) name j k there a b =
      let x = at (objects o) p there in
      let read = λ (d : Object). ap (λ (y : Object). y.class) (sym (x.read d)) in
      let low = class_low o p x.object.class there read sound in
      let same = variables_in o p x.object.class there read in
      let vs = attributes o.classes x.object.class in
      let differ = sound.differ x.object.class low in
      some_is (sym (name_finds vs name j differ (subst (λ us. HasName us name j) same a)) ∙ name_finds vs name k differ (subst (λ us. HasName us name k) same b))

  owner_there : (owner : Option ℕ) (text : List ℕ) (n : ℕ) → IsStep o owner text n → IfSome owner (λ p. p < length (objects o))
  owner_there owner text n s = by owner (subst (λ w. IsBefore w n) s.owner_is (object_held o n s.object s.has).owner)
    where
      by : (w : Option ℕ) → IsBefore w n → IfSome w (λ p. p < length (objects o))
      by None b = tt
      by (Some p) b = omega (arith, b, slice_get_within (objects o) n s.object s.has)

  -- a step names one object
  same_step : (owner : Option ℕ) (text : List ℕ) (n m : ℕ) → IsStep o owner text n → IsStep o owner text m → n ≡ m
  same_step owner text n m a b =
      let end = first_place bracket text in
      let vs = variables_of o owner in
      let r = named_by o sound few owner text end named refl n a in
      let q = named_by o sound few owner text end named refl m b in
      let k = same_variable owner (take end text) r.k q.k (owner_there owner text n a) r.name q.name in
      let v = variable_at vs r.k (has_low vs (take end text) r.k r.name) in
      let read = λ (d : Variable). ap (λ (u : Variable). u.shape) (sym (v.read d)) in
      let read_too = λ (d : Variable). read d ∙ ap (λ j. (slice_index_or vs j d).shape) k in
      let s = v.variable.shape in
      let i = same_index s r.i q.i r.small q.small (r.element s read) (q.element s read_too) (r.index s read ∙ sym (q.index s read_too)) in
      let part = r.part in
      same_part o sound owner q.k q.i n m r.object q.object r.has q.has (part.0, part.1 ∙ k, part.2 ∙ i) q.part

  same_end : (f : ℕ) (owner : Option ℕ) (text : List ℕ) (n m : ℕ) → length text < f → Leads o owner text n → Leads o owner text m → n ≡ m
  same_end zero owner text n m h a b = absurd (omega arith)
  same_end (suc f) owner text n m h a b =
      by (turn o sound few named owner text n a) (turn o sound few named owner text m b) (cases_lt (first_place dot text) (length text)) (λ w rest c d g. same_end f w rest n m g c d)
    where
      by : IsTurn o sound few named owner text n → IsTurn o sound few named owner text m → (first_place dot text < length text) ⊎ (length text ≤ first_place dot text) → ((w : Option ℕ) (rest : List ℕ) → Leads o w rest n → Leads o w rest m → length rest < f → n ≡ m) → n ≡ m
      by r q (inl lt) more =
          let same = same_step owner (take (first_place dot text) text) r.m q.m r.step q.step in
          let rest = drop (first_place dot text + 1) text in
          more (Some q.m) rest (subst (λ p. Leads o (Some p) rest n) same (r.goes lt)) (q.goes lt) (omega (arith, h, lt, length-drop (first_place dot text + 1) text))
      by r q (inr le) more =
          let e : first_place dot text ≡ length text = omega (arith, le, place_within dot text) in
          sym (r.ends e) ∙ same_step owner (take (first_place dot text) text) r.m q.m r.step q.step ∙ q.ends e

  -- objects with one path are one
  pub same_path : (n m : ℕ) → n < length (objects o) → m < length (objects o) → path o n ≡ path o m → n ≡ m
  same_path n m hn hm e = same_end (suc (length (path o n))) None (path o n) n m (omega arith) (path_leads o n (path o n) hn refl) (path_leads o m (path o n) hm (sym e))

  -- the object of an object's path is that object
  pub path_named : (n : ℕ) → n < length (objects o) → object_named o (path o n) ≡ Some n
  path_named n h = sym (object_found o (path o n) (Some n) h refl (λ m low e. ap Some (same_path n m h low (sym e))))
