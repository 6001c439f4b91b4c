-- Bytes that are fed piece by piece.
use Rattle.std.proofs.Common.{◌≡◌, ℕ, ◌+◌, Bool, true, false, not, ◌&&◌, ◌==◌, List, [], ◌∷◌, ◌++◌, length-append, refl, sym, ap, ◌∙◌, arith, subst, append_assoc, append-nil}
use Rattle.std.specs.List.{AllByRecursion}
use Rattle.std.proofs.Math.Bool.{and-true, and_assoc}
use Rattle.std.proofs.lemmas.Bool.{and_from}
use Rattle.std.proofs.lemmas.List.Folds.{list_all-append}
use Rattle.ground_form.specs.declared.ground.Ground.{Ground}
use Rattle.log_form.specs.declared.line.Line.{Line}
use Rattle.proof_log.specs.Spelling.{line_text, lines_text, IsLine, Spells, lacks}
use Rattle.log_form.specs.Acceptance.{Made, start, may_come, after, accepted_from, made_from}
use Rattle.log_check.specs.declared.lines.CheckError.{CheckError}
use Rattle.log_check.specs.Fed.{IsFed, FailsAt, HasTaken, Left, IsRefusedText}

pub fed_nothing : (g : Ground) (m : Made) (rest : List ℕ) (count : ℕ) → m ≡ start → rest ≡ [] → count ≡ 0 → IsFed g [] [] m rest count
fed_nothing g m rest count e f h = record {
  text = sym f;
  spelled = tt;
  unended = ap (lacks 10) f;
  taken = refl;
  left = sym e;
  counted = sym h;
}

-- ---- one more line

lines_more : (ls : List Line) (l : Line) → lines_text (ls ++ l ∷ []) ≡ lines_text ls ++ (line_text l ++ 10 ∷ [])
lines_more [] l = refl
lines_more (k ∷ ls) l =
    ap (λ z. line_text k ++ 10 ∷ z) (lines_more ls l) ∙ sym (append_assoc (line_text k) (10 ∷ lines_text ls) (line_text l ++ 10 ∷ []))

all_more : (ls : List Line) (l : Line) → AllByRecursion IsLine ls → IsLine l → AllByRecursion IsLine (ls ++ l ∷ [])
all_more [] l a h = (h, tt)
all_more (k ∷ ls) l a h = (a.0, all_more ls l a.1 h)

accepted_more : (g : Ground) (m : Made) (ls : List Line) (l : Line) → accepted_from g m (ls ++ l ∷ []) ≡ (accepted_from g m ls && may_come g (made_from g m ls) l)
accepted_more g m [] l = and-true (may_come g m l)
accepted_more g m (k ∷ ls) l = ap (λ b. may_come g m k && b) (accepted_more g (after g m k) ls l) ∙ sym (and_assoc (may_come g m k) _ _)

made_more : (g : Ground) (m : Made) (ls : List Line) (l : Line) → made_from g m (ls ++ l ∷ []) ≡ after g (made_from g m ls) l
made_more g m [] l = refl
made_more g m (k ∷ ls) l = made_more g (after g m k) ls l

pub fed_line : (g : Ground) (bytes : List ℕ) (ls : List Line) (m n : Made) (rest now : List ℕ) (count next : ℕ) (l : Line) (r : Bool) → IsFed g bytes ls m rest count → Spells rest l →
    r ≡ may_come g m l → r ≡ true → n ≡ after g m l → now ≡ [] → next ≡ count + 1 → IsFed g (bytes ++ 10 ∷ []) (ls ++ l ∷ []) n now next
fed_line g bytes ls m n rest now count next l r f s asked said new empty step = record {
  text = ap (λ z. z ++ 10 ∷ []) (f.text ∙ ap (λ z. lines_text ls ++ z) s.text) ∙ append_assoc (lines_text ls) (line_text l) (10 ∷ []) ∙ sym (lines_more ls l) ∙ sym (append-nil (lines_text (ls ++ l ∷ []))) ∙ ap (λ z. lines_text (ls ++ l ∷ []) ++ z) (sym empty);
  spelled = all_more ls l f.spelled s.line;
  unended = ap (lacks 10) empty;
  taken = accepted_more g start ls l ∙ and_from _ _ f.taken (ap (λ (z : Made). may_come g z l) f.left ∙ sym asked ∙ said);
  left = made_more g start ls l ∙ ap (λ (z : Made). after g z l) f.left ∙ sym new;
  counted = let size = f.counted in omega (arith, length-append ls (l ∷ []));
}

-- ---- more bytes, in which no line ends

pub fed_bytes : (g : Ground) (bytes part : List ℕ) (ls : List Line) (m : Made) (rest now : List ℕ) (count : ℕ) → IsFed g bytes ls m rest count → lacks 10 part ≡ true → now ≡ rest ++ part →
    IsFed g (bytes ++ part) ls m now count
fed_bytes g bytes part ls m rest now count f h e = record {
  text = ap (λ z. z ++ part) f.text ∙ append_assoc (lines_text ls) rest part ∙ ap (λ z. lines_text ls ++ z) (sym e);
  spelled = f.spelled;
  unended = ap (lacks 10) e ∙ list_all-append (λ x. not (x == 10)) rest part ∙ and_from _ _ f.unended h;
  taken = f.taken;
  left = f.left;
  counted = f.counted;
}

pub taken_bytes : (g : Ground) (bytes part : List ℕ) (m : Made) (rest now : List ℕ) (count : ℕ) → HasTaken g bytes (record { made = m; rest = rest; ended = count }) → lacks 10 part ≡ true → now ≡ rest ++ part →
    HasTaken g (bytes ++ part) (record { made = m; rest = now; ended = count })
taken_bytes g bytes part m rest now count h lacking e = (h.0, fed_bytes g bytes part h.0 m rest now count h.1 lacking e)

-- ---- a line that is refused

pub fails : (g : Ground) (bytes more : List ℕ) (ls : List Line) (m : Made) (rest : List ℕ) (count n : ℕ) → IsFed g bytes ls m rest count → n ≡ count + 1 →
    ((l : Line) → Spells rest l → may_come g m l ≡ false) → FailsAt g (bytes ++ 10 ∷ more) n
fails g bytes more ls m rest count n f h none = record {
  lines = ls;
  bad = rest;
  more = more;
  text = ap (λ z. z ++ 10 ∷ more) f.text ∙ append_assoc (lines_text ls) rest (10 ∷ more);
  spelled = f.spelled;
  ended = f.unended;
  taken = f.taken;
  number = let size = f.counted in omega arith;
  refused = λ l s. ap (λ (z : Made). may_come g z l) f.left ∙ none l s;
}

-- ---- a piece, line by line

-- of the bytes and the piece behind them, these were taken, and this is left
pub record HasGone (g : Ground) (whole left : List ℕ) (now : Left) : Type 0 where
  pub seen : List ℕ
  pub parts : whole ≡ seen ++ left
  pub taken : HasTaken g seen now

-- a line of what is left, and what is left behind it
pub line_on : (whole seen left part behind : List ℕ) → whole ≡ seen ++ left → left ≡ part ++ 10 ∷ behind → whole ≡ (seen ++ part) ++ 10 ∷ behind
line_on whole seen left part behind e f = e ∙ ap (λ z. seen ++ z) f ∙ sym (append_assoc seen part (10 ∷ behind))

pub gone_on : (g : Ground) (whole left part behind : List ℕ) (old new : Left) → HasGone g whole left old → left ≡ part ++ 10 ∷ behind →
    ((bytes : List ℕ) → HasTaken g bytes old → HasTaken g ((bytes ++ part) ++ 10 ∷ []) new) → HasGone g whole behind new
gone_on g whole left part behind old new h e more = record {
  seen = (h.seen ++ part) ++ 10 ∷ [];
  parts = line_on whole h.seen left part behind h.parts e ∙ sym (append_assoc (h.seen ++ part) (10 ∷ []) behind);
  taken = more h.seen h.taken;
}

pub gone_wrong : (g : Ground) (whole left part behind : List ℕ) (old : Left) (e : CheckError) → HasGone g whole left old → left ≡ part ++ 10 ∷ behind →
    ((bytes more : List ℕ) → HasTaken g bytes old → IsRefusedText g ((bytes ++ part) ++ 10 ∷ more) e) → IsRefusedText g whole e
gone_wrong g whole left part behind old e h f wrong =
    subst (λ (z : List ℕ). IsRefusedText g z e) (sym (line_on whole h.seen left part behind h.parts f)) (wrong h.seen behind h.taken)

pub gone_all : (g : Ground) (whole left : List ℕ) (m : Made) (rest now : List ℕ) (count : ℕ) → HasGone g whole left (record { made = m; rest = rest; ended = count }) → lacks 10 left ≡ true → now ≡ rest ++ left →
    HasTaken g whole (record { made = m; rest = now; ended = count })
gone_all g whole left m rest now count h lacking e =
    subst (λ (z : List ℕ). HasTaken g z (record { made = m; rest = now; ended = count })) (sym h.parts) (taken_bytes g h.seen left m rest now count h.taken lacking e)
