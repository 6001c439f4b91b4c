-- What was stated of an expression, part by part.
use Rattle.std.proofs.Common.{◌≡◌, ℕ, ◌+◌, ◌<◌, ◌≤◌, ◌^◌, Bool, true, false, not, ◌||◌, ◌&&◌, cond, List, [], ◌∷◌, ◌++◌, ℤ, Option, length, nat_eq, take, get_or, refl, sym, ap, ◌∙◌, subst, arith}
use Rattle.std.specs.List.{list_all, list_any}
use Rattle.std.proofs.lemmas.Bool.Decides.{nat_tests}
use Rattle.std.proofs.lemmas.List.{take_all}
use Rattle.std.proofs.lemmas.List.Folds.{list_all_more}
use Rattle.class_table.specs.Outline.{Outline}
use Rattle.conf_syntax.specs.declared.tree.Op.{Op}
use Rattle.conf_syntax.specs.declared.tree.QuantKind.{QuantKind}
use Rattle.conf_syntax.specs.declared.tree.QuantKind.TheVariants as kind
use Rattle.conf_types.specs.declared.tree.RExpr.{RExpr}
use Rattle.conf_types.specs.declared.tree.RQuant as quant
use Rattle.conf_types.specs.Trees.{Tree, Filter, Bodies}
use Rattle.conf_types.specs.TreeOf.{tree_of, trees_of, quant_tree}
use Rattle.conf_types.specs.Trees as tree
use Rattle.conf_eval.specs.declared.value.Value.{Value}
use Rattle.conf_eval.specs.Meaning.{Setting, bind, operate, value, truth_of, objects_of, keeps, values_of, all_true}
use Rattle.conf_eval.proofs.EvalLaws.{quant_is}
use Rattle.signed_clause.specs.Clauses.{Literals}
use Rattle.ground_form.specs.declared.ground.Ground.{Ground}
use Rattle.form_build.specs.declared.form.Truth.{Truth}
use Rattle.form_build.specs.Forms.{truth_at}
use Rattle.form_build.specs.Sums.{IsLinear}
use Rattle.form_build.specs.Worlds.{IsWorld, AreKnown, Grows, Adds, Defines}
use Rattle.form_build.proofs.Growth.{world_before, adds_nothing, adds_more, adds_same, adds_fewer}
use Rattle.form_truths.specs.Disjunctions.{disjunction_at}
use Rattle.form_truths.specs.Tests.{wanted}
use Rattle.operator_forms.specs.Operating.{AreBoth, AreEither}
use Rattle.expr_forms.specs.declared.form.Form.{Form}
use Rattle.expr_forms.specs.declared.form.Member.{Member}
use Rattle.expr_forms.specs.FormValues.{form_value, members_at, number_part, truth_part}
use Rattle.expr_forms.specs.FormBounds.{IsGroundForm}
use Rattle.expr_forms.specs.Standing.{world_setting, is_wanted}
use Rattle.expr_forms.proofs.Growing.{ground_still}
use Rattle.expr_forms.proofs.PartValues.{truth_part_at}
use Rattle.ground_expr.specs.Bodies.{AreMembersOf}
use Rattle.ground_expr.specs.Made.{IsMade}
use Rattle.ground_expr.specs.Stated.{Says, Pushes, PushesSome, asks_each, each_wanted, body_wanted, member_wanted}
use Rattle.ground_expr.proofs.Pushing.{as_wanted, not_wanted, still_wanted, pushes_pair}

-- ---- lists

member_next : (k w : ℕ → Bool) (m : Member) (xs : List ℕ) (rest b : Bool) → list_all (λ x. not (k x) || w x) xs ≡ rest →
    list_all (λ x. not (k x) || w x) (cond b (m.object ∷ xs) xs) ≡ ((not (b && k m.object) || w m.object) && rest)
member_next k w m xs rest true e = ap (λ (b : Bool). (not (k m.object) || w m.object) && b) e
member_next k w m xs rest false e = e

-- all of the members are all possible members that are members
members_all : (k w : ℕ → Bool) (ms : List Member) (a : List ℤ) → list_all (λ x. not (k x) || w x) (members_at ms a) ≡ list_all (λ (m : Member). not (truth_at m.is a && k m.object) || w m.object) ms
members_all k w [] a = refl
members_all k w (m ∷ ms) a = member_next k w m (members_at ms a) (list_all (λ (n : Member). not (truth_at n.is a && k n.object) || w n.object) ms) (truth_at m.is a) (members_all k w ms a)

-- ---- quantifiers

none_next : (k w all any : Bool) → all ≡ not any → ((not k || not w) && all) ≡ not ((k && w) || any)
none_next k w all any e = grind (arith, e)

none_of : (k w : ℕ → Bool) (xs : List ℕ) → list_all (λ x. not (k x) || not (w x)) xs ≡ not (list_any (λ x. k x && w x) xs)
none_of k w [] = refl
none_of k w (x ∷ xs) = none_next (k x) (w x) (list_all (λ x. not (k x) || not (w x)) xs) (list_any (λ x. k x && w x) xs) (none_of k w xs)

pub each_is : (i : ℕ) (q : QuantKind) (over : Tree) (f : Filter) (bs : Bodies) (want : Bool) (s : Setting) → asks_each q want ≡ true → each_wanted over f bs want s ≡ cond want (truth_of (value (tree.Quant i q over f bs) s)) (not (truth_of (value (tree.Quant i q over f bs) s)))
each_is i kind.Forall over f bs true s e = refl
each_is i kind.Exists over f bs false s e =
    none_of (λ x. keeps f (bind s x)) (λ x. all_true (values_of bs (bind s x))) (objects_of (value over s))
each_is i kind.Forall over f bs false s e = cc
each_is i kind.Exists over f bs true s e = cc
each_is i kind.Sum over f bs want s e = cc
each_is i kind.Count over f bs want s e = cc
each_is i kind.AllDifferent over f bs want s e = cc
each_is i kind.Pack over f bs want s e = cc

-- ---- bodies

one_true : (b : Bool) → b ≡ (b && true)
one_true b = grind arith

all_next : (k v w : Bool) → ((not k || v) && (not k || w)) ≡ (not k || (v && w))
all_next k v w = grind arith

none_left : (k : Bool) → true ≡ (not k || true)
none_left k = grind arith

-- all bodies where it is kept, each by itself
bodies_all : (k : Bool) (s : Setting) (es : List RExpr) → list_all (λ e. not k || truth_of (value (tree_of e) s)) es ≡ (not k || all_true (values_of (trees_of es) s))
bodies_all k s [] = none_left k
bodies_all k s (e ∷ es) =
    ap (λ (b : Bool). (not k || truth_of (value (tree_of e) s)) && b) (bodies_all k s es)
    ∙ all_next k (truth_of (value (tree_of e) s)) (all_true (values_of (trees_of es) s))

pub only_one : (es : List RExpr) (e : RExpr) → length es ≡ 1 → e ≡ get_or es 0 e → es ≡ e ∷ []
only_one [] e size is = absurd (omega (arith, size))
only_one (x ∷ []) e size is = ap (λ (z : RExpr). z ∷ []) (sym is)
only_one (x ∷ y ∷ es) e size is = absurd (omega (arith, size))

some_next : (v w : Bool) → (not v || not w) ≡ not (v && w)
some_next v w = grind arith

-- some body is false
bodies_some : (s : Setting) (es : List RExpr) → list_any (λ e. not (truth_of (value (tree_of e) s))) es ≡ not (all_true (values_of (trees_of es) s))
bodies_some s [] = refl
bodies_some s (e ∷ es) =
    ap (λ (b : Bool). not (truth_of (value (tree_of e) s)) || b) (bodies_some s es)
    ∙ some_next (truth_of (value (tree_of e) s)) (all_true (values_of (trees_of es) s))

-- ---- disjunctions

holds_already : (d l b k : Bool) → d ≡ true → (d || l) ≡ not b → (not b || k) ≡ true
holds_already d l b k e f = grind (arith, e, f)

holds_nowhere : (d b k : Bool) → d ≡ false → (d || false) ≡ not b → k ≡ (not b || k)
holds_nowhere d b k e f = grind (arith, e, f)

pub none_there : {X : Type 0} (n : ℕ) (xs : List X) → n ≡ length xs → true ≡ nat_eq n 0 → xs ≡ []
none_there n [] e f = refl
none_there n (x ∷ xs) e f = absurd (grind (arith, nat_tests, e, f))

turned_round : (b k : Bool) → (k || not b) ≡ (not b || k)
turned_round b k = grind arith

-- the truth of a form
pub says_truth : (old new : Ground) (f : Form) (u t : Truth) (want : Bool) → u ≡ truth_part f → ((a : List ℤ) → IsWorld old a → truth_at t a ≡ wanted want (truth_at u a)) → Adds [] old new (λ a. truth_at t a) → Adds [] old new (λ a. wanted want (truth_of (form_value f a)))
says_truth old new f u t want is value says =
    adds_same [] old new (λ a. truth_at t a) (λ a. wanted want (truth_of (form_value f a)))
    (λ a w kn. value a (world_before old new a says.grows w) ∙ ap (wanted want) (ap (λ (z : Truth). truth_at z a) is ∙ truth_part_at f a)) says

neither : (d e f is out k : Bool) → d ≡ false → out ≡ not is → e ≡ (out || d) → f ≡ (not k || e) → f ≡ not (is && k)
neither d e f is out k p q r s = grind (arith, p, q, r, s)

module _ (o : Outline) (known : List (ℕ × ℤ)) (this : Option ℕ) (vars : List ℕ) where
  -- where the object is no member, or the filter doesn't keep it
  pub not_kept : (new : Ground) (is outside : Truth) (e : Tree) (none before after : Bool × Literals) (a : List ℤ) → none ≡ (false, []) → truth_at outside a ≡ not (truth_at is a) → disjunction_at before a ≡ (truth_at outside a || disjunction_at none a) →
      disjunction_at after a ≡ (is_wanted o new e this vars false a || disjunction_at before a) → disjunction_at after a ≡ not (truth_at is a && truth_of (value e (world_setting o new a this vars)))
  not_kept new is outside e none before after a p q r s =
      neither (disjunction_at none a) (disjunction_at before a) (disjunction_at after a) (truth_at is a) (truth_at outside a) (truth_of (value e (world_setting o new a this vars))) (ap (λ (d : Bool × Literals). disjunction_at d a) p) q r s

  pub says_at : (old new : Ground) (t x : Tree) (want : Bool) → t ≡ x → Says o known old new x this vars want → Says o known old new t this vars want
  says_at old new t x want e h = subst (λ (z : Tree). Says o known old new z this vars want) (sym e) h

  -- wherever the quantifier stands in the source
  pub says_moved : (old new : Ground) (q : quant.RQuant) (i j : ℕ) (want : Bool) → Says o known old new (quant_tree q i) this vars want → Says o known old new (quant_tree q j) this vars want
  says_moved old new q i j want h =
      subst (λ (z : Tree). Says o known old new z this vars want) (sym (quant_is q j)) (subst (λ (z : Tree). Says o known old new z this vars want) (quant_is q i) h)

  pub says_not : (old new : Ground) (i : ℕ) (t : Tree) (want : Bool) → Says o known old new t this vars (not want) → Says o known old new (tree.Not i t) this vars want
  says_not old new i t want h =
      adds_same known old new (λ a. is_wanted o new t this vars (not want) a) (λ a. is_wanted o new (tree.Not i t) this vars want a)
      (λ a w kn. not_wanted want (truth_of (value t (world_setting o new a this vars)))) h

  -- both sides, each by itself
  pub says_both : (old mid new : Ground) (i : ℕ) (q : Op) (l r : Tree) (want : Bool) (p : Bool × Bool) → AreBoth q want p → Says o known old mid l this vars p.0 → Says o known mid new r this vars p.1 → Says o known old new (tree.Pair i q l r) this vars want
  says_both old mid new i q l r want p both left right =
      adds_same known old new (λ a. is_wanted o mid l this vars p.0 a && is_wanted o new r this vars p.1 a) (λ a. is_wanted o new (tree.Pair i q l r) this vars want a)
      (λ a w kn.
      let s = world_setting o new a this vars in
      ap (λ (b : Bool). b && is_wanted o new r this vars p.1 a) (sym (still_wanted o known this vars mid new l p.0 a right.grows) ∙ sym (as_wanted p.0 (truth_of (value l s))))
      ∙ ap (λ (b : Bool). wanted p.0 (truth_of (value l s)) && b) (sym (as_wanted p.1 (truth_of (value r s))))
      ∙ sym (both (value l s) (value r s))
      ∙ as_wanted want _)
      (adds_more known old mid new (λ a. is_wanted o mid l this vars p.0 a) (λ a. is_wanted o new r this vars p.1 a) left right)

  -- what is true of a value that was made is true of the expression
  pub says_value : (old mid new : Ground) (t : Tree) (v : List ℤ → Value) (want : Bool) → Defines old mid → ((a : List ℤ) → IsWorld new a → AreKnown known a → value t (world_setting o new a this vars) ≡ v a) → Adds [] mid new (λ a. wanted want (truth_of (v a))) → Says o known old new t this vars want
  says_value old mid new t v want made is says =
      adds_same known old new (λ a. true && wanted want (truth_of (v a))) (λ a. is_wanted o new t this vars want a)
      (λ a w kn. ap (λ (z : Value). wanted want (truth_of z)) (sym (is a w kn)) ∙ as_wanted want (truth_of (value t (world_setting o new a this vars))))
      (adds_more known old mid new (λ a. true) (λ a. wanted want (truth_of (v a))) (adds_fewer known old mid (λ a. true) made) (adds_fewer known mid new (λ a. wanted want (truth_of (v a))) says))

  pub says_form : (old mid new : Ground) (t : Tree) (f : Form) (want : Bool) → IsMade o known old mid t this vars f → Adds [] mid new (λ a. wanted want (truth_of (form_value f a))) → Says o known old new t this vars want
  says_form old mid new t f want made says =
      says_value old mid new t (form_value f) want made.adds (ground_still o mid new known t this vars f says.grows made.form).stands says

  pub says_comparison : (old one two new : Ground) (i : ℕ) (q : Op) (l r : Tree) (f h : Form) (want : Bool) → IsMade o known old one l this vars f → IsMade o known one two r this vars h → Adds [] two new (λ a. wanted want (truth_of (operate q (form_value f a) (form_value h a)))) → Says o known old new (tree.Pair i q l r) this vars want
  says_comparison old one two new i q l r f h want left right says =
      let first = ground_still o two new known l this vars f says.grows (ground_still o one two known l this vars f right.adds.grows left.form) in
      let second = ground_still o two new known r this vars h says.grows right.form in
      says_value old two new (tree.Pair i q l r) (λ a. operate q (form_value f a) (form_value h a)) want (adds_more [] old one two (λ a. true) (λ a. true) left.adds right.adds)
      (λ a w kn. ap (λ (z : Value). operate q z (value r (world_setting o new a this vars))) (first.stands a w kn) ∙ ap (operate q (form_value f a)) (second.stands a w kn))
      says

  -- the numbers of the left side, once the right one is made
  pub left_linear : (one two : Ground) (l : Tree) (f : Form) → IsGroundForm o one known l this vars f → Grows one two → IsLinear (2 ^ 58) two.domains (number_part f)
  left_linear one two l f h g = (ground_still o one two known l this vars f g h).form.number.linear

  -- a disjunction that an expression was pushed into
  pub says_pushed : (old mid new : Ground) (t : Tree) (want : Bool) (before after : Bool × Literals) → Pushes o known old mid t this vars want before after → Adds [] mid new (λ a. disjunction_at after a) → Adds known old new (λ a. is_wanted o new t this vars want a || disjunction_at before a)
  says_pushed old mid new t want before after pushed says =
      adds_same known old new (λ a. true && disjunction_at after a) (λ a. is_wanted o new t this vars want a || disjunction_at before a)
      (λ a w kn. pushed.value a (world_before mid new a says.grows w) kn ∙ ap (λ (b : Bool). b || disjunction_at before a) (sym (still_wanted o known this vars mid new t want a says.grows)))
      (adds_more known old mid new (λ a. true) (λ a. disjunction_at after a) (adds_fewer known old mid (λ a. true) pushed.adds) (adds_fewer known mid new (λ a. disjunction_at after a) says))

  pub says_either : (old one two new : Ground) (i : ℕ) (q : Op) (l r : Tree) (want : Bool) (p : Bool × Bool) (before between after : Bool × Literals) → before ≡ (false, []) → AreEither q want p → Pushes o known old one l this vars p.0 before between → Pushes o known one two r this vars p.1 between after → Adds [] two new (λ a. disjunction_at after a) → Says o known old new (tree.Pair i q l r) this vars want
  says_either old one two new i q l r want p before between after none either left right says =
      let t = tree.Pair i q l r in
      adds_same known old new (λ a. is_wanted o new t this vars want a || disjunction_at before a) (λ a. is_wanted o new t this vars want a)
      (λ a w kn. ap (λ (d : Bool × Literals). is_wanted o new t this vars want a || disjunction_at d a) none ∙ nothing_more (is_wanted o new t this vars want a))
      (says_pushed old two new t want before after (pushes_pair o known this vars old one two i q l r want p before between after either left right) says)
    where
      nothing_more : (b : Bool) → (b || false) ≡ b
      nothing_more b = grind arith

  -- ---- a body of a member

  module _ (old mid : Ground) (is : Truth) (f : Filter) (t : Tree) (want : Bool) (d : Bool × Literals) (left : (a : List ℤ) → IsWorld mid a → AreKnown known a → disjunction_at d a ≡ not (truth_at is a && keeps f (world_setting o mid a this vars))) (made : Defines old mid) where
    -- the member can't be kept
    pub never_kept : d.0 ≡ true → Adds known old mid (λ a. body_wanted is f t want (world_setting o mid a this vars) a)
    never_kept e =
        adds_same known old mid (λ a. true) (λ a. body_wanted is f t want (world_setting o mid a this vars) a)
        (λ a w kn. let s = world_setting o mid a this vars in sym (holds_already d.0 _ (truth_at is a && keeps f s) (wanted want (truth_of (value t s))) e (left a w kn)))
        (adds_fewer known old mid (λ a. true) made)

    later : (new : Ground) (a : List ℤ) → Grows mid new → IsWorld new a → AreKnown known a → disjunction_at d a ≡ not (truth_at is a && keeps f (world_setting o new a this vars))
    later new a g w kn =
        left a (world_before mid new a g w) kn
        ∙ ap (λ (n : ℕ). not (truth_at is a && keeps f (record { outline = o; values = take n a; this = this; vars = vars }))) (sym g.search)

    -- the member is sure to be kept
    pub always_kept : (new : Ground) → d.0 ≡ false → d.1 ≡ [] → Says o known mid new t this vars want → Adds known old new (λ a. body_wanted is f t want (world_setting o new a this vars) a)
    always_kept new e none says =
        adds_same known old new (λ a. true && is_wanted o new t this vars want a) (λ a. body_wanted is f t want (world_setting o new a this vars) a)
        (λ a w kn.
        let s = world_setting o new a this vars in
        sym (as_wanted want (truth_of (value t s)))
        ∙ holds_nowhere d.0 (truth_at is a && keeps f s) (wanted want (truth_of (value t s))) e (sym (ap (λ (ls : Literals). disjunction_at (d.0, ls) a) none) ∙ later new a says.grows w kn))
        (adds_more known old mid new (λ a. true) (λ a. is_wanted o new t this vars want a) (adds_fewer known old mid (λ a. true) made) says)

    -- the member may be kept
    pub maybe_kept : (two new : Ground) (after : Bool × Literals) → Pushes o known mid two t this vars want d after → Adds [] two new (λ a. disjunction_at after a) → Adds known old new (λ a. body_wanted is f t want (world_setting o new a this vars) a)
    maybe_kept two new after pushed says =
        let stated = says_pushed mid two new t want d after pushed says in
        adds_same known old new (λ a. true && (is_wanted o new t this vars want a || disjunction_at d a)) (λ a. body_wanted is f t want (world_setting o new a this vars) a)
        (λ a w kn.
        let s = world_setting o new a this vars in
        ap (λ (b : Bool). b || disjunction_at d a) (sym (as_wanted want (truth_of (value t s))))
        ∙ ap (λ (b : Bool). wanted want (truth_of (value t s)) || b) (later new a stated.grows w kn)
        ∙ turned_round (truth_at is a && keeps f s) (wanted want (truth_of (value t s))))
        (adds_more known old mid new (λ a. true) (λ a. is_wanted o new t this vars want a || disjunction_at d a) (adds_fewer known old mid (λ a. true) made) stated)

  -- ---- bodies of a member

  module _ (is : Truth) (f : Filter) where
    pub no_bodies : (g : Ground) (es : List RExpr) → Adds known g g (λ a. list_all (λ e. body_wanted is f (tree_of e) true (world_setting o g a this vars) a) (take 0 es))
    no_bodies g es = adds_nothing known g

    -- one body more
    pub body_more : (old mid new : Ground) (es : List RExpr) (i : ℕ) (e : RExpr) → i < length es → e ≡ get_or es i e →
        Adds known old mid (λ a. list_all (λ e. body_wanted is f (tree_of e) true (world_setting o mid a this vars) a) (take i es)) →
        Adds known mid new (λ a. body_wanted is f (tree_of e) true (world_setting o new a this vars) a) →
        Adds known old new (λ a. list_all (λ e. body_wanted is f (tree_of e) true (world_setting o new a this vars) a) (take (i + 1) es))
    body_more old mid new es i e lt at before step =
        adds_same known old new (λ a. list_all (λ e. body_wanted is f (tree_of e) true (world_setting o mid a this vars) a) (take i es) && body_wanted is f (tree_of e) true (world_setting o new a this vars) a)
        (λ a. list_all (λ e. body_wanted is f (tree_of e) true (world_setting o new a this vars) a) (take (i + 1) es))
        (λ a w kn.
        let here = λ (e : RExpr). body_wanted is f (tree_of e) true (world_setting o new a this vars) a in
        ap (λ (n : ℕ). list_all (λ (e : RExpr). body_wanted is f (tree_of e) true (record { outline = o; values = take n a; this = this; vars = vars }) a) (take i es) && here e) (sym step.grows.search)
        ∙ ap (λ (z : RExpr). list_all here (take i es) && here z) at
        ∙ sym (list_all_more here es i e lt))
        (adds_more known old mid new (λ a. list_all (λ e. body_wanted is f (tree_of e) true (world_setting o mid a this vars) a) (take i es)) (λ a. body_wanted is f (tree_of e) true (world_setting o new a this vars) a) before step)

    pub all_bodies : (old new : Ground) (es : List RExpr) (i : ℕ) → length es ≤ i →
        Adds known old new (λ a. list_all (λ e. body_wanted is f (tree_of e) true (world_setting o new a this vars) a) (take i es)) →
        Adds known old new (λ a. member_wanted is f (trees_of es) true (world_setting o new a this vars) a)
    all_bodies old new es i le h =
        adds_same known old new (λ a. list_all (λ e. body_wanted is f (tree_of e) true (world_setting o new a this vars) a) (take i es)) (λ a. member_wanted is f (trees_of es) true (world_setting o new a this vars) a)
        (λ a w kn.
        let s = world_setting o new a this vars in
        ap (list_all (λ e. body_wanted is f (tree_of e) true s a)) (take_all i es le) ∙ bodies_all (truth_at is a && keeps f s) s es)
        h

    -- the only body
    pub one_body : (old new : Ground) (es : List RExpr) (e : RExpr) (want : Bool) → es ≡ e ∷ [] → Adds known old new (λ a. body_wanted is f (tree_of e) want (world_setting o new a this vars) a) → Adds known old new (λ a. member_wanted is f (trees_of es) want (world_setting o new a this vars) a)
    one_body old new es e want only h =
        adds_same known old new (λ a. body_wanted is f (tree_of e) want (world_setting o new a this vars) a) (λ a. member_wanted is f (trees_of es) want (world_setting o new a this vars) a)
        (λ a w kn.
        let s = world_setting o new a this vars in
        ap (λ (b : Bool). not (truth_at is a && keeps f s) || wanted want b) (one_true (truth_of (value (tree_of e) s)))
        ∙ ap (λ (xs : List RExpr). not (truth_at is a && keeps f s) || wanted want (all_true (values_of (trees_of xs) s))) (sym only))
        h

    -- some body is false, where it is kept
    pub some_failing : (old mid two new : Ground) (es : List RExpr) (d after : Bool × Literals) → ((a : List ℤ) → IsWorld mid a → AreKnown known a → disjunction_at d a ≡ not (truth_at is a && keeps f (world_setting o mid a this vars))) → Defines old mid → PushesSome o known mid two es this vars d after → Adds [] two new (λ a. disjunction_at after a) →
        Adds known old new (λ a. member_wanted is f (trees_of es) false (world_setting o new a this vars) a)
    some_failing old mid two new es d after left made pushed says =
        adds_same known old new (λ a. (true && true) && disjunction_at after a) (λ a. member_wanted is f (trees_of es) false (world_setting o new a this vars) a)
        (λ a w kn.
        let s = world_setting o new a this vars in
        let before = world_before two new a says.grows w in
        pushed.value a before kn
        ∙ ap (λ (b : Bool). b || disjunction_at d a) (bodies_some (world_setting o two a this vars) es)
        ∙ ap (λ (b : Bool). not (all_true (values_of (trees_of es) (world_setting o two a this vars))) || b) (left a (world_before mid two a pushed.adds.grows before) kn ∙ ap (λ (n : ℕ). not (truth_at is a && keeps f (record { outline = o; values = take n a; this = this; vars = vars }))) (sym pushed.adds.grows.search))
        ∙ ap (λ (n : ℕ). not (all_true (values_of (trees_of es) (record { outline = o; values = take n a; this = this; vars = vars }))) || not (truth_at is a && keeps f (record { outline = o; values = take n a; this = this; vars = vars }))) (sym says.grows.search)
        ∙ turned_round (truth_at is a && keeps f s) (not (all_true (values_of (trees_of es) s))))
        (adds_more known old two new (λ a. true && true) (λ a. disjunction_at after a)
        (adds_more known old mid two (λ a. true) (λ a. true) (adds_fewer known old mid (λ a. true) made) (adds_fewer known mid two (λ a. true) pushed.adds))
        (adds_fewer known two new (λ a. disjunction_at after a) says))

  -- ---- members

  module _ (f : Filter) (bs : Bodies) (want : Bool) where
    pub no_members : (g : Ground) (ms : List Member) → Adds known g g (λ a. list_all (λ (m : Member). member_wanted m.is f bs want (world_setting o g a this (vars ++ m.object ∷ [])) a) (take 0 ms))
    no_members g ms = adds_nothing known g

    -- one member more
    pub member_more : (old mid new : Ground) (ms : List Member) (i : ℕ) (m : Member) → i < length ms → m ≡ get_or ms i m →
        Adds known old mid (λ a. list_all (λ (m : Member). member_wanted m.is f bs want (world_setting o mid a this (vars ++ m.object ∷ [])) a) (take i ms)) →
        Adds known mid new (λ a. member_wanted m.is f bs want (world_setting o new a this (vars ++ m.object ∷ [])) a) →
        Adds known old new (λ a. list_all (λ (m : Member). member_wanted m.is f bs want (world_setting o new a this (vars ++ m.object ∷ [])) a) (take (i + 1) ms))
    member_more old mid new ms i m lt is before step =
        adds_same known old new (λ a. list_all (λ (m : Member). member_wanted m.is f bs want (world_setting o mid a this (vars ++ m.object ∷ [])) a) (take i ms) && member_wanted m.is f bs want (world_setting o new a this (vars ++ m.object ∷ [])) a)
        (λ a. list_all (λ (m : Member). member_wanted m.is f bs want (world_setting o new a this (vars ++ m.object ∷ [])) a) (take (i + 1) ms))
        (λ a w kn.
        let at = λ (m : Member). member_wanted m.is f bs want (world_setting o new a this (vars ++ m.object ∷ [])) a in
        ap (λ (n : ℕ). list_all (λ (m : Member). member_wanted m.is f bs want (record { outline = o; values = take n a; this = this; vars = vars ++ m.object ∷ [] }) a) (take i ms) && at m) (sym step.grows.search)
        ∙ ap (λ (z : Member). list_all at (take i ms) && at z) is
        ∙ sym (list_all_more at ms i m lt))
        (adds_more known old mid new (λ a. list_all (λ (m : Member). member_wanted m.is f bs want (world_setting o mid a this (vars ++ m.object ∷ [])) a) (take i ms)) (λ a. member_wanted m.is f bs want (world_setting o new a this (vars ++ m.object ∷ [])) a) before step)

    pub all_members : (old new : Ground) (ms : List Member) (i : ℕ) → length ms ≤ i →
        Adds known old new (λ a. list_all (λ (m : Member). member_wanted m.is f bs want (world_setting o new a this (vars ++ m.object ∷ [])) a) (take i ms)) →
        Adds known old new (λ a. list_all (λ (m : Member). member_wanted m.is f bs want (world_setting o new a this (vars ++ m.object ∷ [])) a) ms)
    all_members old new ms i le h = subst (λ (xs : List Member). Adds known old new (λ a. list_all (λ (m : Member). member_wanted m.is f bs want (world_setting o new a this (vars ++ m.object ∷ [])) a) xs)) (take_all i ms le) h

    -- all possible members are all members of the list
    pub says_each : (old mid new : Ground) (over : Tree) (ms : List Member) → AreMembersOf o mid known over this vars ms → Defines old mid →
        Adds known mid new (λ a. list_all (λ (m : Member). member_wanted m.is f bs want (world_setting o new a this (vars ++ m.object ∷ [])) a) ms) →
        Adds known old new (λ a. each_wanted over f bs want (world_setting o new a this vars))
    says_each old mid new over ms are made says =
        adds_same known old new (λ a. true && list_all (λ (m : Member). member_wanted m.is f bs want (world_setting o new a this (vars ++ m.object ∷ [])) a) ms) (λ a. each_wanted over f bs want (world_setting o new a this vars))
        (λ a w kn.
        let s = world_setting o new a this vars in
        let keep = λ (x : ℕ). keeps f (world_setting o new a this (vars ++ x ∷ [])) in
        let holds = λ (x : ℕ). wanted want (all_true (values_of bs (world_setting o new a this (vars ++ x ∷ [])))) in
        sym (members_all keep holds ms a)
        ∙ ap (list_all (λ x. not (keep x) || holds x))
        (sym (are.value a (world_before mid new a says.grows w) kn) ∙ ap (λ (n : ℕ). objects_of (value over (record { outline = o; values = take n a; this = this; vars = vars }))) (sym says.grows.search)))
        (adds_more known old mid new (λ a. true) (λ a. list_all (λ (m : Member). member_wanted m.is f bs want (world_setting o new a this (vars ++ m.object ∷ [])) a) ms) (adds_fewer known old mid (λ a. true) made) says)

  pub says_quant : (old new : Ground) (i : ℕ) (q : QuantKind) (over : Tree) (f : Filter) (bs : Bodies) (want : Bool) → asks_each q want ≡ true → Adds known old new (λ a. each_wanted over f bs want (world_setting o new a this vars)) → Says o known old new (tree.Quant i q over f bs) this vars want
  says_quant old new i q over f bs want asks h =
      adds_same known old new (λ a. each_wanted over f bs want (world_setting o new a this vars)) (λ a. is_wanted o new (tree.Quant i q over f bs) this vars want a)
      (λ a w kn. each_is i q over f bs want (world_setting o new a this vars) asks) h
