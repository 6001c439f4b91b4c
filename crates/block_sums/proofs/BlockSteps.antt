-- Blocks of terms, one more and all of them.
use Rattle.std.proofs.Common.{◌≡◌, ℕ, ◌+◌, ◌*◌, ◌<◌, ◌≤◌, List, [], ◌∷◌, ◌++◌, ℤ, pos, ◌+ℤ◌, ◌*ℤ◌, length, All, sym, ap, ◌∙◌, subst, arith}
use Rattle.std.proofs.lemmas.Int.{ints}
use Rattle.std.proofs.Math.IntN.{one, *ℤ-one, *ℤ_comm}
use Rattle.std.proofs.lemmas.List.Elements.{All-nil, All-push}
use Rattle.signed_clause.specs.Clauses.{Boxes, box_of}
use Rattle.ground_form.specs.declared.ground.Ground.{Ground}
use Rattle.ground_form.specs.Meaning.{value_of, sum_at}
use Rattle.ground_form.specs.Bounds.{reach_of, term_weight, weight_of}
use Rattle.form_build.specs.Worlds.{IsWorld, Grows, Defines, IsFew}
use Rattle.form_build.proofs.Growth.{adds_nothing, defines_more, few_none, few_more, world_before}
use Rattle.block_sums.specs.Blocks.{AreBlocks}
use Rattle.block_sums.proofs.Terms.{sum_more, weight_more, sum_both, weight_both, front_there, behind_there, there_still, weight_kept}

-- ---- a variable more

pub one_weight : (x : ℕ) (boxes : Boxes) → term_weight (pos 1, x) boxes ≡ reach_of (box_of boxes x)
unfolding term_weight
one_weight x boxes = omega arith

one_times : (v : ℤ) → (pos 1 *ℤ v) ≡ v
unfolding one
one_times v = *ℤ_comm (pos 1) v ∙ *ℤ-one v

pub push_there : (old new : Ground) (x : ℕ) (ts us : List (ℤ × ℕ)) → Grows old new → us ≡ ts ++ (pos 1, x) ∷ [] → x < length new.domains → All (λ t. t.1 < length old.domains) ts → All (λ t. t.1 < length new.domains) us
push_there old new x ts us g e lt all =
    subst (λ (z : List (ℤ × ℕ)). All (λ t. t.1 < length new.domains) z) (sym e)
    (All-push (λ (t : ℤ × ℕ). t.1 < length new.domains) ts (pos 1, x) (there_still old new ts g all) lt)

pub push_weight : (old new : Ground) (x n : ℕ) (ts us : List (ℤ × ℕ)) → Grows old new → us ≡ ts ++ (pos 1, x) ∷ [] → reach_of (box_of new.domains x) ≤ n → All (λ t. t.1 < length old.domains) ts → weight_of us new.domains ≤ weight_of ts old.domains + n
push_weight old new x n ts us g e reach all =
    let is = ap (λ (z : List (ℤ × ℕ)). weight_of z new.domains) e ∙ weight_more ts (pos 1, x) new.domains in
    let one = one_weight x new.domains in
    let kept = weight_kept old new ts g all in
    omega (arith, is, one, kept, reach)

pub push_value : (x : ℕ) (v : ℤ) (ts us : List (ℤ × ℕ)) (a : List ℤ) → us ≡ ts ++ (pos 1, x) ∷ [] → value_of a x ≡ (v +ℤ pos 0) → sum_at us a ≡ (sum_at ts a +ℤ v)
push_value x v ts us a e is =
    let more = ap (λ (z : List (ℤ × ℕ)). sum_at z a) e ∙ sum_more ts (pos 1, x) a in
    let one = one_times (value_of a x) in
    omega (arith, ints, more, one, is)

-- ---- blocks so far

-- the blocks and the rest stand for the terms
pub record AreCut (old b : Ground) (terms blocks rest : List (ℤ × ℕ)) : Type 0 where
  pub there : All (λ t. t.1 < length b.domains) blocks
  pub left : All (λ t. t.1 < length b.domains) rest
  pub bounded : weight_of blocks b.domains + weight_of rest b.domains ≤ weight_of terms old.domains
  pub value : (a : List ℤ) → IsWorld b a → (sum_at blocks a +ℤ sum_at rest a) ≡ sum_at terms a
  pub adds : Defines old b
  pub few : IsFew (length blocks) old b

pub cut_none : (b : Ground) (terms blocks : List (ℤ × ℕ)) → blocks ≡ [] → All (λ t. t.1 < length b.domains) terms → AreCut b b terms blocks terms
cut_none b terms blocks e all = subst (λ (z : List (ℤ × ℕ)). AreCut b b terms z terms) (sym e) (record {
  there = All-nil (λ (t : ℤ × ℕ). t.1 < length b.domains);
  left = all;
  bounded = omega arith;
  value = λ a w. omega (arith, ints);
  adds = adds_nothing [] b;
  few = few_none 0 b;
})

-- a block of the terms in front of the rest
pub cut_next : (old b new : Ground) (terms blocks rest front behind more : List (ℤ × ℕ)) → AreCut old b terms blocks rest → rest ≡ front ++ behind → Defines b new → IsFew 1 b new → length more ≡ length blocks + 1 →
    (All (λ t. t.1 < length b.domains) blocks → All (λ t. t.1 < length new.domains) more) →
    (All (λ t. t.1 < length b.domains) blocks → weight_of more new.domains ≤ weight_of blocks b.domains + weight_of front b.domains) →
    ((a : List ℤ) → IsWorld new a → sum_at more a ≡ (sum_at blocks a +ℤ sum_at front a)) →
    AreCut old new terms more behind
cut_next old b new terms blocks rest front behind more cut e adds few size there bounded value =
    let all : All (λ t. t.1 < length b.domains) (front ++ behind) = subst (λ (z : List (ℤ × ℕ)). All (λ t. t.1 < length b.domains) z) e cut.left in
    let after = behind_there (length b.domains) front behind all in record {
      there = there cut.there;
      left = there_still b new behind adds.grows after;
      bounded =
          let one = bounded cut.there in
          let kept = weight_kept b new behind adds.grows after in
          let both = ap (λ (z : List (ℤ × ℕ)). weight_of z b.domains) e ∙ weight_both front behind b.domains in
          let whole = cut.bounded in
          omega (arith, one, kept, both, whole);
      value = λ a w.
          let one = value a w in
          let both = ap (λ (z : List (ℤ × ℕ)). sum_at z a) e ∙ sum_both front behind a in
          let whole = cut.value a (world_before b new a adds.grows w) in
          omega (arith, ints, one, both, whole);
      adds = defines_more old b new cut.adds adds;
      few = subst (λ (n : ℕ). IsFew n old new) (sym size) (few_more (length blocks) 1 old b new cut.few few);
    }

-- the front of the rest
pub cut_front : (old b : Ground) (terms blocks rest front behind : List (ℤ × ℕ)) → AreCut old b terms blocks rest → rest ≡ front ++ behind → All (λ t. t.1 < length b.domains) front
cut_front old b terms blocks rest front behind cut e =
    front_there (length b.domains) front behind (subst (λ (z : List (ℤ × ℕ)). All (λ t. t.1 < length b.domains) z) e cut.left)

pub cut_light : (old b : Ground) (n : ℕ) (terms blocks rest front behind : List (ℤ × ℕ)) → AreCut old b terms blocks rest → rest ≡ front ++ behind → weight_of terms old.domains ≤ n → weight_of front b.domains ≤ n
cut_light old b n terms blocks rest front behind cut e h =
    let both = ap (λ (z : List (ℤ × ℕ)). weight_of z b.domains) e ∙ weight_both front behind b.domains in
    let whole = cut.bounded in
    omega (arith, both, whole, h)

-- nothing is left
pub cut_all : (old b : Ground) (terms blocks : List (ℤ × ℕ)) → AreCut old b terms blocks [] → AreBlocks b (weight_of terms old.domains) terms blocks
cut_all old b terms blocks cut = record {
  exist = cut.there;
  bounded = let whole = cut.bounded in omega (arith, whole);
  value = λ a w. let whole = cut.value a w in omega (arith, ints, whole);
}

-- ---- blocks of blocks

pub blocks_again : (old new : Ground) (n m : ℕ) (ts us vs : List (ℤ × ℕ)) → Grows old new → AreBlocks old n ts us → weight_of us old.domains ≡ m → AreBlocks new m us vs → AreBlocks new n ts vs
blocks_again old new n m ts us vs g one e two = record {
  exist = two.exist;
  bounded = omega (arith, one.bounded, e, two.bounded);
  value = λ a w. two.value a w ∙ one.value a (world_before old new a g w);
}

-- how many there are with those that were made, as they get fewer
pub fewer : (old now new blocks more all : ℕ) → 32 * more ≤ blocks + 32 → 64 < blocks → now + blocks ≤ old + all → new ≤ now + more → new + more ≤ old + all
fewer old now new blocks more all short many here next = omega (arith, short, many, here, next)
