-- The offsets of the matches in a text: from the letters read on, and in order.
use Rattle.std.proofs.Common.{◌≡◌, ◌≢◌, ◌-◌, ◌⊎◌, length-drop, get_or, ◌≤◌, ◌<◌, ◌+◌, ◌∙◌, ◌&&◌, ℕ, Bool, true, false, List, [], ◌∷◌, ◌++◌, length, chars, take, drop, inl, inr, if◌then◌else◌}
use Rattle.std.proofs.Common.{refl, ap, ap₂, sym, arith, length-append, append-nil, IsCharBoundary}
use Rattle.std.specs.Prelude.{Option, Some, None, slice_get, find, nat_le, nat_lt, encode_utf8, encode_utf8_all, IsUtf8}
use Rattle.std.proofs.lemmas.Bool.{cases_lt}
use Rattle.std.proofs.lemmas.Bool.Decides.{nat_tests}
use Rattle.std.proofs.lemmas.List.{nil_from_length, length-map, map-append, take-append-drop, length-take-le, drop-drop, drop_all}
use Rattle.std.proofs.lemmas.Str.{chars-append, chars-nil, encodes-chars, IsUtf8-take, IsUtf8-drop, length-encode, len_utf8_bounds}
use Rattle.bx_ucd.specs.Data.{Data}
use Rattle.bx_find.specs.Letters.{is_passed_over, letters_of, letters}
use Rattle.bx_find.specs.Short.{is_simple, simple_letter}
use Rattle.bx_find.specs.Matches.{begins, begins_some, is_some, is_match, matches, first_from, last_below, last_before}
use Rattle.bx_find.specs.Parts.{first_between, if_below, last_above, last_from}
use Rattle.bx_find.specs.Prefix.{Placed, placed_first, placed, found, with_letters, offsets_of, to_come}
use Rattle.bx_find.specs.declared.letters.Reading.{Reading}
use Rattle.bx_find.proofs.LettersOf.{simple}
use Rattle.bx_find.proofs.Fallen.{letters_in, found-not, found-here, begins-some, none_read, length-with}

pub width-some : (c : ℕ) → 0 < length (encode_utf8 c)
width-some c = omega (arith, length-encode c, (len_utf8_bounds c).0)

abbrev pub widths : List ℕ → ℕ
widths cs = length (encode_utf8_all cs)

pub widths-more : (c : ℕ) (cs : List ℕ) → widths (c ∷ cs) ≡ length (encode_utf8 c) + widths cs
widths-more c cs = length-append (encode_utf8 c) (encode_utf8_all cs)

letters-first : (place : Option ℕ) (ls : List ℕ) → letters_in (placed_first place ls) ≡ ls
letters-first place [] = refl
letters-first place (l ∷ ls) = ap (λ ks. l ∷ ks) (letters-first None ls)

-- the first of the offsets below x
abbrev first_below : ℕ → List ℕ → Option ℕ
first_below x ats = find (λ at. nat_lt at x) ats

pub below_yes : (x at : ℕ) → at < x → if_below x (Some at) ≡ Some at
below_yes x at h = let e : nat_lt at x ≡ true = grind (arith, nat_tests) in ap (λ b. if b then Some at else None) e

pub below_no : (x at : ℕ) → x ≤ at → if_below x (Some at) ≡ None
below_no x at h = let e : nat_lt at x ≡ false = grind (arith, nat_tests) in ap (λ b. if b then Some at else None) e

module _ (ucd : Data) (reading : Reading) (sought : List ℕ) where
  -- ---- one character

  pub matches-here : (at c : ℕ) (cs : List ℕ) → is_match ucd reading sought (c ∷ cs) ≡ true
      → matches ucd reading sought at (c ∷ cs) ≡ at ∷ matches ucd reading sought (at + length (encode_utf8 c)) cs
  matches-here at c cs e = rw (e, matches) refl

  pub matches-not : (at c : ℕ) (cs : List ℕ) → is_match ucd reading sought (c ∷ cs) ≡ false
      → matches ucd reading sought at (c ∷ cs) ≡ matches ucd reading sought (at + length (encode_utf8 c)) cs
  matches-not at c cs e = rw (e, matches) refl

  placed-by : (at c : ℕ) (cs ls : List ℕ) → letters_of ucd reading c ≡ ls
      → placed ucd reading at (c ∷ cs) ≡ placed_first (Some at) ls ++ placed ucd reading (at + length (encode_utf8 c)) cs
  placed-by at c cs ls e = ap (λ (ks : List ℕ). placed_first (Some at) ks ++ placed ucd reading (at + length (encode_utf8 c)) cs) e

  begins-none-by : (at c l : ℕ) (cs : List ℕ) (passed : Bool) → 0 < length sought → get_or sought 0 0 ≢ l
      → letters_of ucd reading c ≡ (if passed then [] else l ∷ [])
      → to_come ucd reading sought [] at (c ∷ cs) ≡ to_come ucd reading sought [] (at + length (encode_utf8 c)) cs
  begins-none-by at c l cs true some other e = ap (λ (ps : List Placed). offsets_of (found sought ps)) (placed-by at c cs [] e)
  begins-none-by at c l cs false some other e =
      ap (λ (ps : List Placed). offsets_of (found sought ps)) (placed-by at c cs (l ∷ []) e)
      ∙ ap offsets_of (none_read sought (Some at) l (placed ucd reading (at + length (encode_utf8 c)) cs) some other)

  -- the prefix is empty, and a simple character's letter is not the first, passed over or not
  pub begins_none : (prefix : List (Option ℕ)) (at c : ℕ) (cs : List ℕ) → length prefix ≡ 0 → length prefix < length sought
      → is_simple reading c ≡ true → get_or sought 0 0 ≢ simple_letter reading c
      → to_come ucd reading sought prefix at (c ∷ cs) ≡ to_come ucd reading sought prefix (at + length (encode_utf8 c)) cs
  begins_none prefix at c cs none fewer one other =
      let empty = nil_from_length prefix none in
      ap (λ (os : List (Option ℕ)). to_come ucd reading sought os at (c ∷ cs)) empty
      ∙ begins-none-by at c (simple_letter reading c) cs (is_passed_over ucd c) (omega (arith, none, fewer)) other (simple ucd reading c one)
      ∙ ap (λ (os : List (Option ℕ)). to_come ucd reading sought os (at + length (encode_utf8 c)) cs) (sym empty)

  -- ---- from characters to their letters

  letters-placed : (at : ℕ) (cs : List ℕ) → letters_in (placed ucd reading at cs) ≡ letters ucd reading cs
  letters-placed at [] = refl
  letters-placed at (c ∷ cs) =
      map-append (λ (q : Placed). q.1) (placed_first (Some at) (letters_of ucd reading c)) (placed ucd reading (at + length (encode_utf8 c)) cs)
      ∙ ap₂ (λ (ks ls : List ℕ). ks ++ ls) (letters-first (Some at) (letters_of ucd reading c)) (letters-placed (at + length (encode_utf8 c)) cs)

  later-by : (l : ℕ) (qs : List Placed) (here : Bool) → begins_some sought (l ∷ letters_in qs) ≡ here
      → offsets_of (found sought ((None, l) ∷ qs)) ≡ offsets_of (found sought qs)
  later-by l qs true e = ap offsets_of (found-here sought (None, l) qs e)
  later-by l qs false e = ap offsets_of (found-not sought (None, l) qs e)

  -- no match begins at a character's later letters
  later-none : (ls : List ℕ) (ps : List Placed) → offsets_of (found sought (placed_first None ls ++ ps)) ≡ offsets_of (found sought ps)
  later-none [] ps = refl
  later-none (l ∷ ls) ps = later-by l (placed_first None ls ++ ps) _ refl ∙ later-none ls ps

  matches-letters-by : (at c l : ℕ) (cs ls : List ℕ) (here : Bool) → letters_of ucd reading c ≡ l ∷ ls → is_match ucd reading sought (c ∷ cs) ≡ here
      → begins_some sought (l ∷ letters_in (placed_first None ls ++ placed ucd reading (at + length (encode_utf8 c)) cs)) ≡ here
      → matches ucd reading sought (at + length (encode_utf8 c)) cs ≡ offsets_of (found sought (placed ucd reading (at + length (encode_utf8 c)) cs))
      → matches ucd reading sought at (c ∷ cs) ≡ offsets_of (found sought (placed ucd reading at (c ∷ cs)))
  matches-letters-by at c l cs ls true e f same more =
      let behind = placed ucd reading (at + length (encode_utf8 c)) cs in
      matches-here at c cs f ∙ ap (λ (os : List ℕ). at ∷ os) (more ∙ sym (later-none ls behind))
      ∙ sym (ap (λ (ps : List Placed). offsets_of (found sought ps)) (placed-by at c cs (l ∷ ls) e)
      ∙ ap offsets_of (found-here sought (Some at, l) (placed_first None ls ++ behind) same))
  matches-letters-by at c l cs ls false e f same more =
      let behind = placed ucd reading (at + length (encode_utf8 c)) cs in
      matches-not at c cs f ∙ more ∙ sym (later-none ls behind)
      ∙ sym (ap (λ (ps : List Placed). offsets_of (found sought ps)) (placed-by at c cs (l ∷ ls) e)
      ∙ ap offsets_of (found-not sought (Some at, l) (placed_first None ls ++ behind) same))

  matches-by : (at c : ℕ) (cs ls : List ℕ) → letters_of ucd reading c ≡ ls
      → matches ucd reading sought (at + length (encode_utf8 c)) cs ≡ offsets_of (found sought (placed ucd reading (at + length (encode_utf8 c)) cs))
      → matches ucd reading sought at (c ∷ cs) ≡ offsets_of (found sought (placed ucd reading at (c ∷ cs)))
  matches-by at c cs [] e more =
      matches-not at c cs (ap (λ (ls : List ℕ). is_some ls && begins_some sought (letters ucd reading (c ∷ cs))) e) ∙ more
      ∙ sym (ap (λ (ps : List Placed). offsets_of (found sought ps)) (placed-by at c cs [] e))
  matches-by at c cs (l ∷ ls) e more =
      let spelt : l ∷ letters_in (placed_first None ls ++ placed ucd reading (at + length (encode_utf8 c)) cs) ≡ letters ucd reading (c ∷ cs) =
      ap letters_in (sym (placed-by at c cs (l ∷ ls) e)) ∙ letters-placed at (c ∷ cs) in
      matches-letters-by at c l cs ls (is_match ucd reading sought (c ∷ cs)) e refl
      (ap (begins_some sought) spelt ∙ ap (λ (ks : List ℕ). is_some ks && begins_some sought (letters ucd reading (c ∷ cs))) (sym e)) more

  pub matches-placed : (at : ℕ) (cs : List ℕ) → matches ucd reading sought at cs ≡ offsets_of (found sought (placed ucd reading at cs))
  matches-placed at [] = refl
  matches-placed at (c ∷ cs) = matches-by at c cs (letters_of ucd reading c) refl (matches-placed (at + length (encode_utf8 c)) cs)

  -- ---- offsets from x on

  pub cond-not : (at x : ℕ) (ats : List ℕ) → at < x → find (nat_le x) (at ∷ ats) ≡ find (nat_le x) ats
  cond-not at x ats h = let e : nat_le x at ≡ false = grind (arith, nat_tests) in rw (e, find) refl

  pub cond-here : (at x : ℕ) (ats : List ℕ) → x ≤ at → find (nat_le x) (at ∷ ats) ≡ Some at
  cond-here at x ats h = let e : nat_le x at ≡ true = grind (arith, nat_tests) in rw (e, find) refl

  one-skipped : (x at c : ℕ) (cs : List ℕ) (here : Bool) → at < x → is_match ucd reading sought (c ∷ cs) ≡ here
      → find (nat_le x) (matches ucd reading sought at (c ∷ cs)) ≡ find (nat_le x) (matches ucd reading sought (at + length (encode_utf8 c)) cs)
  one-skipped x at c cs true h e = ap (find (nat_le x)) (matches-here at c cs e) ∙ cond-not at x _ h
  one-skipped x at c cs false h e = ap (find (nat_le x)) (matches-not at c cs e)

  skipped : (x at : ℕ) (cs ds : List ℕ) → at + widths cs ≤ x
      → find (nat_le x) (matches ucd reading sought at (cs ++ ds)) ≡ find (nat_le x) (matches ucd reading sought (at + widths cs) ds)
  skipped x at [] ds h = let e : at ≡ at + 0 = omega arith in ap (λ n. find (nat_le x) (matches ucd reading sought n ds)) e
  skipped x at (c ∷ cs) ds h =
      let e : at + length (encode_utf8 c) + widths cs ≡ at + widths (c ∷ cs) = omega (arith, widths-more c cs) in
      one-skipped x at c (cs ++ ds) (is_match ucd reading sought (c ∷ cs ++ ds)) (omega (arith, width-some c, e, h)) refl
      ∙ skipped x (at + length (encode_utf8 c)) cs ds (omega (arith, e, h))
      ∙ ap (λ n. find (nat_le x) (matches ucd reading sought n ds)) e

  reached-by : (x at c : ℕ) (cs : List ℕ) (here : Bool) → x ≤ at → is_match ucd reading sought (c ∷ cs) ≡ here
      → find (nat_le x) (matches ucd reading sought (at + length (encode_utf8 c)) cs) ≡ slice_get (matches ucd reading sought (at + length (encode_utf8 c)) cs) 0
      → find (nat_le x) (matches ucd reading sought at (c ∷ cs)) ≡ slice_get (matches ucd reading sought at (c ∷ cs)) 0
  reached-by x at c cs true h e more =
      ap (find (nat_le x)) (matches-here at c cs e) ∙ cond-here at x _ h ∙ ap (λ (os : List ℕ). slice_get os 0) (sym (matches-here at c cs e))
  reached-by x at c cs false h e more =
      ap (find (nat_le x)) (matches-not at c cs e) ∙ more ∙ ap (λ (os : List ℕ). slice_get os 0) (sym (matches-not at c cs e))

  reached : (x at : ℕ) (cs : List ℕ) → x ≤ at → find (nat_le x) (matches ucd reading sought at cs) ≡ slice_get (matches ucd reading sought at cs) 0
  reached x at [] h = refl
  reached x at (c ∷ cs) h =
      reached-by x at c cs (is_match ucd reading sought (c ∷ cs)) h refl (reached x (at + length (encode_utf8 c)) cs (omega (arith, h)))

  none-by : (x at c : ℕ) (o : Option ℕ) (cs : List ℕ) (here : Bool) → x ≤ at → is_match ucd reading sought (c ∷ cs) ≡ here
      → last_below x o (matches ucd reading sought (at + length (encode_utf8 c)) cs) ≡ o → last_below x o (matches ucd reading sought at (c ∷ cs)) ≡ o
  none-by x at c o cs true h e more =
      let past : nat_lt at x ≡ false = grind (arith, nat_tests) in
      ap (last_below x o) (matches-here at c cs e) ∙ rw (past, last_below) more
  none-by x at c o cs false h e more = ap (last_below x o) (matches-not at c cs e) ∙ more

  pub none_before : (x at : ℕ) (o : Option ℕ) (cs : List ℕ) → x ≤ at → last_below x o (matches ucd reading sought at cs) ≡ o
  none_before x at o [] h = refl
  none_before x at o (c ∷ cs) h =
      none-by x at c o cs (is_match ucd reading sought (c ∷ cs)) h refl (none_before x (at + length (encode_utf8 c)) o cs (omega (arith, h)))

  -- the prefix is empty, and all that follows is past x
  pub none_left : (x at : ℕ) (o : Option ℕ) (prefix : List (Option ℕ)) (cs : List ℕ) → length prefix ≡ 0 → x ≤ at → last_below x o (to_come ucd reading sought prefix at cs) ≡ o
  none_left x at o prefix cs none h =
      ap (λ (os : List (Option ℕ)). last_below x o (to_come ucd reading sought os at cs)) (nil_from_length prefix none)
      ∙ ap (last_below x o) (sym (matches-placed at cs)) ∙ none_before x at o cs h

  -- ---- the first below x

  first-later : (x at : ℕ) (ats : List ℕ) → x ≤ at → first_below x (at ∷ ats) ≡ first_below x ats
  first-later x at ats h = let e : nat_lt at x ≡ false = grind (arith, nat_tests) in rw (e, find) refl

  none-below-by : (x at c : ℕ) (cs : List ℕ) (here : Bool) → x ≤ at → is_match ucd reading sought (c ∷ cs) ≡ here
      → first_below x (matches ucd reading sought (at + length (encode_utf8 c)) cs) ≡ None → first_below x (matches ucd reading sought at (c ∷ cs)) ≡ None
  none-below-by x at c cs true h e more = ap (first_below x) (matches-here at c cs e) ∙ first-later x at _ h ∙ more
  none-below-by x at c cs false h e more = ap (first_below x) (matches-not at c cs e) ∙ more

  pub none-below : (x at : ℕ) (cs : List ℕ) → x ≤ at → first_below x (matches ucd reading sought at cs) ≡ None
  none-below x at [] h = refl
  none-below x at (c ∷ cs) h =
      none-below-by x at c cs (is_match ucd reading sought (c ∷ cs)) h refl (none-below x (at + length (encode_utf8 c)) cs (omega (arith, h)))

  first-by-here : (x at next : ℕ) (cs : List ℕ) (below : Bool) → at ≤ next → nat_lt at x ≡ below
      → first_below x (at ∷ matches ucd reading sought next cs) ≡ (if below then Some at else None)
  first-by-here x at next cs true h e = rw (e, find) refl
  first-by-here x at next cs false h e =
      let past : x ≤ at = grind (arith, nat_tests) in first-later x at _ past ∙ none-below x next cs (omega (arith, past, h))

  below-first-by : (x at c : ℕ) (cs : List ℕ) (here : Bool) → is_match ucd reading sought (c ∷ cs) ≡ here
      → first_below x (matches ucd reading sought (at + length (encode_utf8 c)) cs)
      ≡ if_below x (slice_get (matches ucd reading sought (at + length (encode_utf8 c)) cs) 0)
      → first_below x (matches ucd reading sought at (c ∷ cs)) ≡ if_below x (slice_get (matches ucd reading sought at (c ∷ cs)) 0)
  below-first-by x at c cs true e more =
      ap (first_below x) (matches-here at c cs e) ∙ first-by-here x at (at + length (encode_utf8 c)) cs (nat_lt at x) (omega arith) refl
      ∙ ap (λ (os : List ℕ). if_below x (slice_get os 0)) (sym (matches-here at c cs e))
  below-first-by x at c cs false e more =
      ap (first_below x) (matches-not at c cs e) ∙ more ∙ ap (λ (os : List ℕ). if_below x (slice_get os 0)) (sym (matches-not at c cs e))

  -- the first of all is the first below x, or none is below it
  below-first : (x at : ℕ) (cs : List ℕ)
      → first_below x (matches ucd reading sought at cs) ≡ if_below x (slice_get (matches ucd reading sought at cs) 0)
  below-first x at [] = refl
  below-first x at (c ∷ cs) = below-first-by x at c cs (is_match ucd reading sought (c ∷ cs)) refl (below-first x (at + length (encode_utf8 c)) cs)

  -- the prefix is empty, and all that follows is past x
  pub none_first : (x at : ℕ) (prefix : List (Option ℕ)) (cs : List ℕ) → length prefix ≡ 0 → x ≤ at
      → if_below x (slice_get (to_come ucd reading sought prefix at cs) 0) ≡ None
  none_first x at prefix cs none h =
      ap (λ (os : List (Option ℕ)). if_below x (slice_get (to_come ucd reading sought os at cs) 0)) (nil_from_length prefix none)
      ∙ ap (λ (os : List ℕ). if_below x (slice_get os 0)) (sym (matches-placed at cs)) ∙ sym (below-first x at cs) ∙ none-below x at cs h

  -- ---- a text from an offset on

  pub front-bytes : (text : List ℕ) (x : ℕ) → IsUtf8 text → IsCharBoundary text x → widths (chars (take x text)) ≡ x
  front-bytes text x u b = ap length (encodes-chars (take x text) (IsUtf8-take text x u b)) ∙ length-take-le x text b.0

  pub cut_chars : (text : List ℕ) (x : ℕ) → IsUtf8 text → IsCharBoundary text x → chars text ≡ chars (take x text) ++ chars (drop x text)
  cut_chars text x u b = ap chars (sym (take-append-drop x text)) ∙ chars-append (take x text) (drop x text) (IsUtf8-take text x u b)

  pub from_offset : (text : List ℕ) (x : ℕ) → IsUtf8 text → IsCharBoundary text x
      → first_from ucd reading sought text x ≡ slice_get (to_come ucd reading sought [] x (chars (drop x text))) 0
  from_offset text x u b =
      let front = front-bytes text x u b in
      let at : 0 + widths (chars (take x text)) ≡ x = omega (arith, front) in
      ap (λ cs. find (nat_le x) (matches ucd reading sought 0 cs)) (cut_chars text x u b)
      ∙ skipped x 0 (chars (take x text)) (chars (drop x text)) (omega (arith, at))
      ∙ ap (λ n. find (nat_le x) (matches ucd reading sought n (chars (drop x text)))) at
      ∙ reached x x (chars (drop x text)) (omega arith)
      ∙ ap (λ (os : List ℕ). slice_get os 0) (matches-placed x (chars (drop x text)))

  -- ---- the last from x on

  above-not : (x at : ℕ) (o : Option ℕ) (ats : List ℕ) → at < x → last_above x o (at ∷ ats) ≡ last_above x o ats
  above-not x at o ats h = let e : nat_le x at ≡ false = grind (arith, nat_tests) in rw (e, last_above) refl

  above-here : (x at : ℕ) (o : Option ℕ) (ats : List ℕ) → x ≤ at → last_above x o (at ∷ ats) ≡ last_above x (Some at) ats
  above-here x at o ats h = let e : nat_le x at ≡ true = grind (arith, nat_tests) in rw (e, last_above) refl

  last-here : (x at : ℕ) (o : Option ℕ) (ats : List ℕ) → at < x → last_below x o (at ∷ ats) ≡ last_below x (Some at) ats
  last-here x at o ats h = let e : nat_lt at x ≡ true = grind (arith, nat_tests) in rw (e, last_below) refl

  above-skipped-by : (x at c : ℕ) (o : Option ℕ) (cs : List ℕ) (here : Bool) → at < x → is_match ucd reading sought (c ∷ cs) ≡ here
      → last_above x o (matches ucd reading sought at (c ∷ cs)) ≡ last_above x o (matches ucd reading sought (at + length (encode_utf8 c)) cs)
  above-skipped-by x at c o cs true h e = ap (last_above x o) (matches-here at c cs e) ∙ above-not x at o _ h
  above-skipped-by x at c o cs false h e = ap (last_above x o) (matches-not at c cs e)

  above-skipped : (x at : ℕ) (o : Option ℕ) (cs ds : List ℕ) → at + widths cs ≤ x
      → last_above x o (matches ucd reading sought at (cs ++ ds)) ≡ last_above x o (matches ucd reading sought (at + widths cs) ds)
  above-skipped x at o [] ds h = let e : at ≡ at + 0 = omega arith in ap (λ n. last_above x o (matches ucd reading sought n ds)) e
  above-skipped x at o (c ∷ cs) ds h =
      let e : at + length (encode_utf8 c) + widths cs ≡ at + widths (c ∷ cs) = omega (arith, widths-more c cs) in
      above-skipped-by x at c o (cs ++ ds) (is_match ucd reading sought (c ∷ cs ++ ds)) (omega (arith, width-some c, e, h)) refl
      ∙ above-skipped x (at + length (encode_utf8 c)) o cs ds (omega (arith, e, h))
      ∙ ap (λ n. last_above x o (matches ucd reading sought n ds)) e

  between-by : (x b at c : ℕ) (o : Option ℕ) (cs : List ℕ) (here : Bool) → x ≤ at → at < b → is_match ucd reading sought (c ∷ cs) ≡ here
      → ((p : Option ℕ) → last_above x p (matches ucd reading sought (at + length (encode_utf8 c)) cs)
      ≡ last_below b p (matches ucd reading sought (at + length (encode_utf8 c)) cs))
      → last_above x o (matches ucd reading sought at (c ∷ cs)) ≡ last_below b o (matches ucd reading sought at (c ∷ cs))
  between-by x b at c o cs true h k e more =
      ap (last_above x o) (matches-here at c cs e) ∙ above-here x at o _ h ∙ more (Some at) ∙ sym (ap (last_below b o) (matches-here at c cs e) ∙ last-here b at o _ k)
  between-by x b at c o cs false h k e more =
      ap (last_above x o) (matches-not at c cs e) ∙ more o ∙ sym (ap (last_below b o) (matches-not at c cs e))

  -- all matches that are left are between x and b
  between : (x b at : ℕ) (o : Option ℕ) (cs : List ℕ) → x ≤ at → at + widths cs ≤ b
      → last_above x o (matches ucd reading sought at cs) ≡ last_below b o (matches ucd reading sought at cs)
  between x b at o [] h k = refl
  between x b at o (c ∷ cs) h k =
      between-by x b at c o cs (is_match ucd reading sought (c ∷ cs)) h (omega (arith, k, widths-more c cs, width-some c)) refl
      (λ p. between x b (at + length (encode_utf8 c)) p cs (omega (arith, h)) (omega (arith, k, widths-more c cs)))

  pub last_from_offset : (text : List ℕ) (x : ℕ) → IsUtf8 text → IsCharBoundary text x
      → last_from ucd reading sought text x ≡ last_below (length text) None (to_come ucd reading sought [] x (chars (drop x text)))
  last_from_offset text x u b =
      let front = front-bytes text x u b in
      let at : 0 + widths (chars (take x text)) ≡ x = omega (arith, front) in
      let rest : widths (chars (drop x text)) ≡ length text - x =
      ap length (encodes-chars (drop x text) (IsUtf8-drop text x u b)) ∙ length-drop x text in
      ap (λ cs. last_above x None (matches ucd reading sought 0 cs)) (cut_chars text x u b)
      ∙ above-skipped x 0 None (chars (take x text)) (chars (drop x text)) (omega (arith, at))
      ∙ ap (λ n. last_above x None (matches ucd reading sought n (chars (drop x text)))) at
      ∙ between x (length text) x None (chars (drop x text)) (omega arith) (omega (arith, rest, b.0))
      ∙ ap (last_below (length text) None) (matches-placed x (chars (drop x text)))

  -- ---- around the end

  around : (x : ℕ) (ats : List ℕ) → find (nat_le x) ats ≡ None → find (nat_le 0) ats ≡ first_below x ats
  around x [] h = refl
  around x (at ∷ ats) h = around-by x at ats (cases_lt at x) h
    where
      around-by : (x at : ℕ) (ats : List ℕ) → (at < x) ⊎ (x ≤ at) → find (nat_le x) (at ∷ ats) ≡ None
          → find (nat_le 0) (at ∷ ats) ≡ first_below x (at ∷ ats)
      around-by x at ats (inl l) h =
          let below : nat_lt at x ≡ true = grind (arith, nat_tests) in
          let any : nat_le 0 at ≡ true = grind (arith, nat_tests) in
          ap (λ b. if b then Some at else find (nat_le 0) ats) any ∙ sym (ap (λ b. if b then Some at else first_below x ats) below)
      around-by x at ats (inr l) h = let no = sym h ∙ cond-here at x ats l in absurd (cc)

  first-any : (ats : List ℕ) → find (nat_le 0) ats ≡ slice_get ats 0
  first-any [] = refl
  first-any (at ∷ ats) = let any : nat_le 0 at ≡ true = grind (arith, nat_tests) in ap (λ b. if b then Some at else find (nat_le 0) ats) any

  -- no match is at or after x: the first of all is before x
  pub first_around : (text : List ℕ) (x : ℕ) → first_from ucd reading sought text x ≡ None
      → first_from ucd reading sought text 0 ≡ first_between ucd reading sought text 0 x
  first_around text x h =
      let ats = matches ucd reading sought 0 (chars text) in
      around x ats h ∙ below-first x 0 (chars text) ∙ ap (if_below x) (sym (first-any ats))

  last-not : (x at : ℕ) (o : Option ℕ) (ats : List ℕ) → x ≤ at → last_below x o (at ∷ ats) ≡ last_below x o ats
  last-not x at o ats h = let e : nat_lt at x ≡ false = grind (arith, nat_tests) in rw (e, last_below) refl

  never-none : (x a : ℕ) (ats : List ℕ) → last_below x (Some a) ats ≡ None → ⊥
  never-none x a [] h = cc
  never-none x a (at ∷ ats) h = elim (cases_lt at x) [
    | inl l ↦ never-none x at ats (sym (last-here x at (Some a) ats l) ∙ h)
    | inr l ↦ never-none x a ats (sym (last-not x at (Some a) ats l) ∙ h)
  ]

  back-by : (x b at c : ℕ) (o : Option ℕ) (cs : List ℕ) (here : Bool) → at < b → is_match ucd reading sought (c ∷ cs) ≡ here
      → ((p : Option ℕ) → last_below x None (matches ucd reading sought (at + length (encode_utf8 c)) cs) ≡ None
      → last_below b p (matches ucd reading sought (at + length (encode_utf8 c)) cs)
      ≡ last_above x p (matches ucd reading sought (at + length (encode_utf8 c)) cs))
      → last_below x None (matches ucd reading sought at (c ∷ cs)) ≡ None
      → last_below b o (matches ucd reading sought at (c ∷ cs)) ≡ last_above x o (matches ucd reading sought at (c ∷ cs))
  back-by x b at c o cs false k e more h =
      ap (last_below b o) (matches-not at c cs e) ∙ more o (sym (ap (last_below x None) (matches-not at c cs e)) ∙ h)
      ∙ sym (ap (last_above x o) (matches-not at c cs e))
  back-by x b at c o cs true k e more h =
      let none = sym (ap (last_below x None) (matches-here at c cs e)) ∙ h in
      elim (cases_lt at x) [
        | inl l ↦ absurd (never-none x at _ (sym (last-here x at None _ l) ∙ none))
        | inr l ↦
            ap (last_below b o) (matches-here at c cs e) ∙ last-here b at o _ k ∙ more (Some at) (sym (last-not x at None _ l) ∙ none)
            ∙ sym (ap (last_above x o) (matches-here at c cs e) ∙ above-here x at o _ l)
      ]

  back : (x b at : ℕ) (o : Option ℕ) (cs : List ℕ) → at + widths cs ≤ b → last_below x None (matches ucd reading sought at cs) ≡ None
      → last_below b o (matches ucd reading sought at cs) ≡ last_above x o (matches ucd reading sought at cs)
  back x b at o [] k h = refl
  back x b at o (c ∷ cs) k h =
      back-by x b at c o cs (is_match ucd reading sought (c ∷ cs)) (omega (arith, k, widths-more c cs, width-some c)) refl
      (λ p. back x b (at + length (encode_utf8 c)) p cs (omega (arith, k, widths-more c cs))) h

  -- no match is before x: the last of all is at or after x
  pub last_around : (text : List ℕ) (x : ℕ) → IsUtf8 text → last_before ucd reading sought text x ≡ None
      → last_before ucd reading sought text (length text) ≡ last_from ucd reading sought text x
  last_around text x u h =
      let all : widths (chars text) ≡ length text = ap length (encodes-chars text u) in
      back x (length text) 0 None (chars text) (omega (arith, all)) h

  pub from_start : (text : List ℕ) (x : ℕ) → last_before ucd reading sought text x ≡ last_below x None (to_come ucd reading sought [] 0 (chars (drop 0 text)))
  from_start text x = ap (last_below x None) (matches-placed 0 (chars text))

-- ---- a piece, and the end

pub piece_read : (text piece : List ℕ) (at : ℕ) → IsUtf8 piece → take (length piece) (drop at text) ≡ piece
    → chars (drop at text) ≡ chars piece ++ chars (drop (at + length piece) text)
piece_read text piece at u e =
    ap chars (sym (take-append-drop (length piece) (drop at text)) ∙ ap₂ (λ (xs ys : List ℕ). xs ++ ys) e (drop-drop (length piece) at text))
    ∙ chars-append piece (drop (at + length piece) text) u

pub none_behind : (text : List ℕ) (at : ℕ) → length text ≤ at → chars (drop at text) ≡ []
none_behind text at h = ap chars (drop_all at text h) ∙ chars-nil

begins-short : (ls xs : List ℕ) → length xs < length ls → begins ls xs ≡ false
begins-short [] xs h = absurd (omega arith)
begins-short (l ∷ ls) [] h = refl
begins-short (l ∷ ls) (x ∷ xs) h = let more = begins-short ls xs (omega arith) in grind (arith, nat_tests)

found-short : (ls : List ℕ) (w : List Placed) → length w < length ls → found ls w ≡ []
found-short ls [] h = refl
found-short ls (p ∷ w) h =
    found-not ls p w (begins-some ls _ (omega arith)
    ∙ begins-short ls (letters_in (p ∷ w)) (omega (arith, length-map (p ∷ w) (λ (q : Placed). q.1)))) ∙ found-short ls w (omega arith)

pub none_to_come : (ucd : Data) (reading : Reading) (sought : List ℕ) (prefix : List (Option ℕ)) (at : ℕ) → length prefix < length sought
    → to_come ucd reading sought prefix at [] ≡ []
none_to_come ucd reading sought prefix at h =
    ap (λ (ps : List Placed). offsets_of (found sought ps)) (append-nil (with_letters prefix sought))
    ∙ ap offsets_of (found-short sought (with_letters prefix sought) (omega (arith, length-with prefix sought (omega arith))))
