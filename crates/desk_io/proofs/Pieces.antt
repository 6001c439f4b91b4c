-- A file that is read piece by piece, and a text that is printed so.
use Rattle.std.proofs.Common.{◌≡◌, ℕ, ◌+◌, ◌<◌, ◌≤◌, List, [], ◌∷◌, ◌++◌, length, take, drop, Option, Some, None, append-nil, take-add, refl, sym, ◌∙◌, ap, subst, append_assoc, length-append, length-drop, arith, ◌-◌, unwrap_or}
use Rattle.std.proofs.lemmas.List.{take-append-le, take-take, take-append-drop, nil_from_length, take_all}
use Rattle.std.proofs.Math.Seq.{drop-append_seam, take-append_seam, take-append-add}
use Rattle.desk_io.specs.Desk.{Files, OfFile, ReadsAt, with_printed}
use Rattle.desk_io.specs.Pieces.{ReadsBehind}

-- the items are the front of the file
abbrev pub IsFront : List ℕ → List ℕ → Type 0
IsFront items file = (rest : List ℕ) × (file ≡ items ++ rest)

-- a piece that was read behind the front makes a longer front
longer :
    (file before now : List ℕ) (n : ℕ) → IsFront before file → ReadsBehind file n before now
    → IsFront now file
longer file before now n (rest, e) r =
    let left : drop (length before) file ≡ rest =
    ap (drop (length before)) e ∙ drop-append_seam before rest in
    let items : now ≡ before ++ take n rest = r.items ∙ ap (λ xs. before ++ take n xs) left in
    (drop n rest, e ∙ ap (λ xs. before ++ xs) (sym (take-append-drop n rest)) ∙ sym (append_assoc before (take n rest) (drop n rest)) ∙ ap (λ xs. xs ++ drop n rest) (sym items))

-- a file has one content
same_file : (files : Files) (name a b : List ℕ) → files name ≡ Some a → files name ≡ Some b → a ≡ b
same_file files name a b ea eb = ap (λ o. unwrap_or o []) (sym ea ∙ eb)

-- what is known of the file once something was read
abbrev pub Known : Option Files → List ℕ → List ℕ → Type 0
Known told name items = 0 < length items → OfFile told name (IsFront items)

known_front :
    (files : Files) (name items file : List ℕ) → files name ≡ Some file
    → Known (Some files) name items → IsFront items file
known_front files name [] file e known = (file, refl)
known_front files name (x ∷ xs) file e known =
    let k = known (omega arith) in
    let P : List ℕ → Type 0 = IsFront (x ∷ xs) in
    subst P (same_file files name k.0 file k.1 e) k.2

known_now :
    (told : Option Files) (name before now : List ℕ) (n : ℕ) → Known told name before
    → OfFile told name (λ file. ReadsBehind file n before now) → Known told name now
known_now None name before now n known read some = tt
known_now (Some files) name before now n known read some =
    (read.0, read.1, longer read.0 before now n (known_front files name before read.0 read.1 known) read.2)

pub known_more :
    (told mid : Option Files) (name before now : List ℕ) (n : ℕ) → mid ≡ told
    → Known told name before → OfFile mid name (λ file. ReadsBehind file n before now)
    → Known told name now
known_more told mid name before now n same known read =
    let P : Option Files → Type 0 =
    λ now_told. OfFile now_told name (λ file. ReadsBehind file n before now) in
    known_now told name before now n known (subst P same read)

-- nothing more to read: the front is the file
pub known_whole :
    (told : Option Files) (name before now : List ℕ) (n : ℕ) → n ≡ 0 → Known told name before
    → OfFile told name (λ file. ReadsBehind file n before now)
    → OfFile told name (λ file. file ≡ now)
known_whole None name before now n nothing known read = tt
known_whole (Some files) name before now n nothing known read =
    let front = known_front files name before read.0 read.1 known in
    let sizes : length read.0 ≡ length before + length front.0 =
    ap length front.1 ∙ length-append before front.0 in
    let no_rest : length front.0 ≡ 0 = omega (arith, sizes, read.2.end.0 nothing) in
    let same : now ≡ before =
    read.2.items ∙ ap (λ k. before ++ take k (drop (length before) read.0)) nothing
    ∙ append-nil before in
    (read.0, read.1, front.1 ∙ ap (λ xs. before ++ xs) (nil_from_length front.0 no_rest) ∙ append-nil before ∙ sym same)

pub known_long :
    (told : Option Files) (name items : List ℕ) (limit : ℕ) → Known told name items
    → limit < length items → OfFile told name (λ file. limit < length file)
known_long None name items limit known above = tt
known_long (Some files) name items limit known above =
    let k = known (omega (arith, above)) in
    (k.0, k.1, omega (arith, above, ap length k.2.1 ∙ length-append items k.2.0))

more_printed :
    (before : Option (List ℕ)) (bytes : List ℕ) (done n : ℕ)
    → with_printed (take n (drop done bytes)) (with_printed (take done bytes) before) ≡ with_printed (take (done + n) bytes) before
more_printed None bytes done n = refl
more_printed (Some text) bytes done n =
    ap Some (append_assoc text (take done bytes) (take n (drop done bytes)) ∙ ap (λ xs. text ++ xs) (sym (take-add done n bytes)))

-- the slice behind a place, as the check writes it
pub behind :
    (done : ℕ) (bytes : List ℕ) → take (length bytes - done) (drop done bytes) ≡ drop done bytes
behind done bytes =
    take_all (length bytes - done) (drop done bytes) (omega (arith, length-drop done bytes))

-- a piece that was printed behind the front makes a longer front
pub printed_more :
    (before mid after : Option (List ℕ)) (bytes : List ℕ) (done n : ℕ)
    → mid ≡ with_printed (take done bytes) before
    → after ≡ with_printed (take n (take (length bytes - done) (drop done bytes))) mid
    → after ≡ with_printed (take (done + n) bytes) before
printed_more before mid after bytes done n front piece =
    piece ∙ ap (λ xs. with_printed (take n xs) mid) (behind done bytes)
    ∙ ap (with_printed (take n (drop done bytes))) front ∙ more_printed before bytes done n

-- no byte is left to print
pub printed_all :
    (before : Option (List ℕ)) (bytes : List ℕ) (done : ℕ) → length bytes ≤ done
    → with_printed (take done bytes) before ≡ with_printed bytes before
printed_all before bytes done le = ap (λ xs. with_printed xs before) (take_all done bytes le)

-- what stands in front of the room
pub in_front :
    (before view filled more : List ℕ) (len n : ℕ) → len ≡ length before → view ≡ filled
    → filled ≡ take (len + n) before ++ more → take len view ≡ before
in_front before view filled more len n size seen made =
    let whole : take (len + n) before ≡ before = take_all (len + n) before (omega (arith, size)) in
    ap (take len) (seen ∙ made ∙ ap (λ xs. xs ++ more) whole)
    ∙ ap (λ k. take k (before ++ more)) size ∙ take-append_seam before more

-- a list that begins with the items and the piece, cut behind them
cut_behind :
    (before buf rest : List ℕ) (n : ℕ) → n ≤ length buf
    → take (length before + n) (before ++ (buf ++ rest)) ≡ before ++ take n buf
cut_behind before buf rest n within =
    take-append-add before (buf ++ rest) n
    ∙ ap (λ xs. before ++ xs) (take-append-le n buf rest within)

-- a piece that was read straight behind the items, in a room that was then cut to it
pub piece_behind :
    (told : Option Files) (name before view buf post rest now : List ℕ) (len n room : ℕ)
    → len ≡ length before → take len view ≡ before → len + n ≤ room → n ≤ length buf
    → now ≡ take (len + n) (take room (take len view ++ (buf ++ post) ++ rest))
    → OfFile told name (λ file. ReadsAt file len n buf)
    → OfFile told name (λ file. ReadsBehind file n before now)
piece_behind None name before view buf post rest now len n room size front within in_buf cut read =
    tt
piece_behind (Some files) name before view buf post rest now len n room size front within in_buf cut read =
    let file = read.0 in
    let all = take len view ++ (buf ++ post) ++ rest in
    let shape : all ≡ before ++ (buf ++ (post ++ rest)) =
    ap (λ xs. xs ++ (buf ++ post) ++ rest) front ∙ append_assoc before (buf ++ post) rest
    ∙ ap (λ xs. before ++ xs) (append_assoc buf post rest) in
    let shorter : take (len + n) (take room all) ≡ take (len + n) all =
    take-take (len + n) room all within in
    let items : now ≡ before ++ take n buf =
    cut ∙ shorter ∙ ap (take (len + n)) shape
    ∙ ap (λ k. take (k + n) (before ++ (buf ++ (post ++ rest)))) size
    ∙ cut_behind before buf (post ++ rest) n in_buf in
    let piece : take n buf ≡ take n (drop (length before) file) = read.2.bytes
    ∙ ap (λ k. take n (drop k file)) size in (
      file,
      read.1,
      record {
        items = items ∙ ap (λ xs. before ++ xs) piece;
        end = (λ none. omega (arith, size, read.2.end.0 none), λ over. read.2.end.1 (omega (arith, size, over)));
      },
    )
