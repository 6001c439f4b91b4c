-- Some of a packing's items.
use Rattle.std.proofs.Common.{◌≡◌, ℕ, ◌+◌, ◌<◌, ◌≤◌, Bool, cond, List, [], ◌∷◌, ◌++◌, ℤ, length, take, get_or, All, sym, ap, ◌∙◌, subst, arith}
use Rattle.std.proofs.lemmas.List.{take_more}
use Rattle.std.proofs.lemmas.List.Elements.{All-push, All-get_or}
use Rattle.std.specs.Ordering.{int_eq}
use Rattle.ground_form.specs.Meaning.{value_of}
use Rattle.ground_form.specs.declared.ground.Ground.{Ground}
use Rattle.packing_sums.specs.Loads.{sizes_where}
use Rattle.packing_sums.specs.Packings.{AreSome, MayHave, AreFitting}
use Rattle.packing_sums.proofs.HostLaws.{sizes_push}

-- an item that is pushed
pub may_push : (out : List (ℕ × ℕ)) (s : ℕ × ℕ) → MayHave out s (out ++ s ∷ [])
may_push out s = record {
  exist = λ n all lt. All-push (λ t. t.0 < n) out s all lt;
  fewer = λ test a. let more = sizes_push test out s a in omega (arith, more);
}

-- one that isn't
pub may_stay : (out : List (ℕ × ℕ)) (s : ℕ × ℕ) → MayHave out s out
may_stay out s = record { exist = λ n all lt. all; fewer = λ test a. omega arith }

module _ (items out more : List (ℕ × ℕ)) (s : ℕ × ℕ) (k : ℕ) (lt : k < length items) (at : s ≡ get_or items k (0, 0)) (one : MayHave out s more) where
  pub exist_more : ((n : ℕ) → All (λ t. t.0 < n) items → All (λ t. t.0 < n) out) → (n : ℕ) → All (λ t. t.0 < n) items → All (λ t. t.0 < n) more
  exist_more h n all = one.exist n (h n all) (subst (λ (t : ℕ × ℕ). t.0 < n) (sym at) (All-get_or (λ t. t.0 < n) items k (0, 0) lt all))

  pub fewer_more : ((test : ℤ → Bool) (a : List ℤ) → sizes_where test out a ≤ sizes_where test (take k items) a) → (test : ℤ → Bool) (a : List ℤ) → sizes_where test more a ≤ sizes_where test (take (k + 1) items) a
  fewer_more h test a =
      let next : take (k + 1) items ≡ take k items ++ s ∷ [] = take_more items k (0, 0) lt ∙ ap (λ (t : ℕ × ℕ). take k items ++ t ∷ []) (sym at) in
      let all : sizes_where test (take (k + 1) items) a ≡ sizes_where test (take k items) a + cond (test (value_of a s.0)) s.1 0 = ap (λ (z : List (ℕ × ℕ)). sizes_where test z a) next ∙ sizes_push test (take k items) s a in
      let own = one.fewer test a in
      let le = h test a in
      omega (arith, all, own, le)

-- no bin has more of some items than of all
pub some_fit : (g : Ground) (room : ℕ) (all some : List (ℕ × ℕ)) → AreSome all some → AreFitting g room all → AreFitting g room some
some_fit g room all some h fits a w holds v =
    let less = h.fewer (λ w. int_eq w v) a in
    let most = fits a w holds v in
    omega (arith, less, most)
