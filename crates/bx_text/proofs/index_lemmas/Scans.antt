-- The scan for the end of a paragraph.
use Rattle.std.proofs.Common.{◌≡◌, ◌<◌, ◌≤◌, ◌+◌, ◌∙◌, ◌==◌, ◌&&◌, ℕ, Bool, true, false, nat_lt, List}
use Rattle.std.proofs.Common.{[], ◌∷◌, ◌++◌, length, get_or, take, drop, chars, encode_utf8, slice_get, Option, Some, None}
use Rattle.std.proofs.Common.{encode_utf8_all, IsUtf8, IsCharBoundary, refl, ap, sym, arith, append_assoc, append-nil}
use Rattle.std.proofs.lemmas.Bool.Decides.{nat_tests}
use Rattle.std.proofs.lemmas.Str.{chars-nil, chars-append, encodes-chars, encodes-append}
use Rattle.std.proofs.lemmas.Str.{scalars-chars, byte_from_char, char_from_byte, IsUtf8-take, IsUtf8-drop}
use Rattle.std.proofs.lemmas.List.{take-append-drop, length-take, get_or-take, drop_all, get_or_append_left, get_or-append-add}
use Rattle.bx_ucd.specs.Data.{Data}
use lib.Utf8.{scalar, scalars}
use Rattle.bx_text.specs.index.Paragraphs.{is_separator, begins_with_lf}
use Rattle.bx_text.specs.index.LeadBytes.{lead_of, CoversSeparators}
use Rattle.bx_text.specs.index.Scan.{HasNone, NoneAt, BeginsAt, IsAt}
use Rattle.bx_text.proofs.index_lemmas.Changes.{scalars_back, cut_at, front_len, spelt}
use Rattle.bx_text.proofs.index_lemmas.Cuts.{width_is_some, widths, widths_more, widths_append, one_width}

-- no separator begins before the offset `n`
abbrev pub NoneBefore : Data → List ℕ → ℕ → Type 0
NoneBefore ucd text n =
    (front : List ℕ) (c : ℕ) (rest : List ℕ) → chars text ≡ front ++ c ∷ rest → length (encode_utf8_all front) < n → is_separator (ucd.class c) ≡ false

-- ---- the character at an offset

module _ (ucd : Data) (text : List ℕ) (utf8 : IsUtf8 text) where
  none_next_at : (n : ℕ) → NoneBefore ucd text n → NoneAt ucd text n → (front : List ℕ) (c : ℕ) (rest : List ℕ) → chars text ≡ front ++ c ∷ rest
      → widths front < n + 1 → (less : Bool) → nat_lt (widths front) n ≡ less → is_separator (ucd.class c) ≡ false
  none_next_at n h k front c rest e l true f = h front c rest e (grind (arith, nat_tests))
  none_next_at n h k front c rest e l false f = k front c rest e (grind (arith, nat_tests))

  pub none_next : (n : ℕ) → NoneBefore ucd text n → NoneAt ucd text n → NoneBefore ucd text (n + 1)
  none_next n h k front c rest e l = none_next_at n h k front c rest e l (nat_lt (widths front) n) refl

  -- the byte there begins the character
  byte_at : (front : List ℕ) (c : ℕ) (rest : List ℕ) → chars text ≡ front ++ c ∷ rest → get_or text (widths front) 0 ≡ lead_of c
  byte_at front c rest e =
      let spelt : text ≡ encode_utf8_all front ++ encode_utf8_all (c ∷ rest) =
      sym (encodes-chars text utf8) ∙ ap encode_utf8_all e ∙ encodes-append front (c ∷ rest) in
      let same : widths front ≡ widths front + 0 = omega arith in
      ap (λ bs. get_or bs (widths front) 0) spelt ∙ ap (λ n. get_or (encode_utf8_all front ++ encode_utf8_all (c ∷ rest)) n 0) same
      ∙ get_or-append-add (encode_utf8_all front) (encode_utf8_all (c ∷ rest)) 0 0
      ∙ get_or_append_left (encode_utf8 c) (encode_utf8_all rest) 0 0 (width_is_some c)

  scalar_there : (front : List ℕ) (c : ℕ) (rest : List ℕ) → chars text ≡ front ++ c ∷ rest → scalar c ≡ true
  scalar_there front c rest e =
      let all : scalars (c ∷ rest) ≡ true = scalars_back front (c ∷ rest) (ap scalars (sym e) ∙ scalars-chars text utf8) in
      grind (arith, nat_tests)

  -- a byte that begins no separator
  unflagged_at : (c lead : ℕ) (flags : List Bool) (separates : Bool) → is_separator (ucd.class c) ≡ separates
      → (is_separator (ucd.class c) ≡ true → get_or flags lead false ≡ true) → get_or flags lead false ≡ false → is_separator (ucd.class c) ≡ false
  unflagged_at c lead flags false e tells f = e
  unflagged_at c lead flags true e tells f = let g : get_or flags lead false ≡ true = tells e in absurd (cc)

  unflagged : (flags : List Bool) (n : ℕ) → CoversSeparators ucd flags → get_or flags (get_or text n 0) false ≡ false → NoneAt ucd text n
  unflagged flags n tells f front c rest e w =
      let lead : get_or text n 0 ≡ lead_of c = ap (λ i. get_or text i 0) (sym w) ∙ byte_at front c rest e in
      unflagged_at c (lead_of c) flags (is_separator (ucd.class c)) refl (λ s. tells c (scalar_there front c rest e) s)
      (ap (λ b. get_or flags b false) (sym lead) ∙ f)

  unflagged_from_at : (flags : List Bool) (n m : ℕ) → CoversSeparators ucd flags → NoneBefore ucd text n
      → ((i : ℕ) → n ≤ i → i < m → get_or flags (get_or text i 0) false ≡ false) → (front : List ℕ) (c : ℕ) (rest : List ℕ)
      → chars text ≡ front ++ c ∷ rest → widths front < m → (less : Bool) → nat_lt (widths front) n ≡ less → is_separator (ucd.class c) ≡ false
  unflagged_from_at flags n m tells h k front c rest e l true f = h front c rest e (grind (arith, nat_tests))
  unflagged_from_at flags n m tells h k front c rest e l false f =
      let behind : n ≤ widths front = grind (arith, nat_tests) in
      unflagged flags (widths front) tells (k (widths front) behind l) front c rest e refl

  pub unflagged_from : (flags : List Bool) (n m : ℕ) → CoversSeparators ucd flags → NoneBefore ucd text n
      → ((i : ℕ) → n ≤ i → i < m → get_or flags (get_or text i 0) false ≡ false) → NoneBefore ucd text m
  unflagged_from flags n m tells h k front c rest e l = unflagged_from_at flags n m tells h k front c rest e l (nat_lt (widths front) n) refl

  -- no character begins there, or another does
  pub within_character : (n : ℕ) → ¬ (IsCharBoundary text n) → NoneAt ucd text n
  within_character n h front c rest e w = absurd (h (cut_at text front (c ∷ rest) n utf8 e w).bounds)

  pub other_there : (n d : ℕ) (ds : List ℕ) → chars (drop n text) ≡ d ∷ ds → is_separator (ucd.class d) ≡ false → NoneAt ucd text n
  other_there n d ds h f front c rest e w =
      let both : c ∷ rest ≡ d ∷ ds = sym (cut_at text front (c ∷ rest) n utf8 e w).rest ∙ h in
      let same : c ≡ d = cc in
      ap (λ k. is_separator (ucd.class k)) same ∙ f

  pub end_there : (n : ℕ) → chars (drop n text) ≡ [] → NoneAt ucd text n
  end_there n h front c rest e w = let none : c ∷ rest ≡ [] = sym (cut_at text front (c ∷ rest) n utf8 e w).rest ∙ h in absurd (cc)

  first_some : (cs : List ℕ) (c : ℕ) → slice_get cs 0 ≡ Some c → (ds : List ℕ) × (cs ≡ c ∷ ds)
  first_some [] c e = absurd (cc)
  first_some (d ∷ ds) c e = let same : d ≡ c = cc in (ds, ap (λ k. k ∷ ds) same)

  first_none : (cs : List ℕ) → slice_get cs 0 ≡ None → cs ≡ []
  first_none [] e = refl
  first_none (d ∷ ds) e = absurd (cc)

  pub begins_there : (n c : ℕ) → IsCharBoundary text n → slice_get (chars (drop n text)) 0 ≡ Some c → is_separator (ucd.class c) ≡ true → BeginsAt ucd text n c
  begins_there n c b e f = let (ds, g) = first_some (chars (drop n text)) c e in record { bounds = b; rest = ds; begins = g; separates = f }

  pub none_found : (n : ℕ) (o : Option ℕ) → o ≡ slice_get (chars (drop n text)) 0 → ((c : ℕ) → o ≡ Some c → is_separator (ucd.class c) ≡ false)
      → NoneAt ucd text n
  none_found n None e h = end_there n (first_none (chars (drop n text)) (sym e))
  none_found n (Some c) e h = let (ds, g) = first_some (chars (drop n text)) c (sym e) in other_there n c ds g (h c refl)

  -- ---- the first separator

  none_of : (pre x m : List ℕ) (n : ℕ) → chars text ≡ pre ++ (x ++ m) → widths pre + widths x ≤ n → NoneBefore ucd text n → HasNone ucd x
  none_of pre [] m n e l h = tt
  none_of pre (c ∷ x) m n e l h = (
    h pre c (x ++ m) e (omega (arith, widths_more c x, width_is_some c)),
    none_of (pre ++ c ∷ []) x m n (e ∙ sym (append_assoc pre (c ∷ []) (x ++ m)))
        (omega (arith, widths_append pre (c ∷ []), one_width c, widths_more c x)) h,
  )

  pub found_there : (n c : ℕ) → BeginsAt ucd text n c → NoneBefore ucd text n → IsAt ucd (chars text) n c
  found_there n c b h =
      let halves : chars text ≡ chars (take n text) ++ chars (drop n text) =
      ap chars (sym (take-append-drop n text)) ∙ chars-append (take n text) (drop n text) (IsUtf8-take text n utf8 b.bounds) in
      let len : widths (chars (take n text)) ≡ n = front_len text n utf8 b.bounds in
      record {
        front = chars (take n text);
        rest = b.rest;
        whole = halves ∙ ap (λ cs. chars (take n text) ++ cs) b.begins;
        none = none_of [] (chars (take n text)) (chars (drop n text)) n halves (omega (arith, len)) h;
        bytes = len;
        separates = b.separates;
      }

  pub none_there : (n : ℕ) → length text ≤ n → NoneBefore ucd text n → HasNone ucd (chars text)
  none_there n l h = none_of [] (chars text) [] n (sym (append-nil (chars text))) (omega (arith, spelt text utf8)) h

-- ---- LF after CR

module _ (ucd : Data) where
  lf_at : (b c : ℕ) (cs : List ℕ) (is_lf : Bool) → (c == 10) ≡ is_lf → (b == 10) ≡ is_lf
      → begins_with_lf ucd (c ∷ cs) ≡ ((b == 10) && is_separator (ucd.class 10))
  lf_at b c cs true e f = let lf : c ≡ 10 = grind (arith, nat_tests) in rw (e, f) (ap (λ d. is_separator (ucd.class d)) lf)
  lf_at b c cs false e f = rw (e, f) refl

  not_lf : (b c : ℕ) (is_lf : Bool) → (b == 10) ≡ is_lf → (c == 10) ≡ false → (b < 128 → c ≡ b) → (b == 10) ≡ false
  not_lf b c false e f char = e
  not_lf b c true e f char = let lf : b ≡ 10 = grind (arith, nat_tests) in let same : c ≡ b = char (omega arith) in absurd (grind (arith, nat_tests))

  lf_same : (bs rest : List ℕ) (c : ℕ) (is_lf : Bool) → bs ≡ encode_utf8 c ++ rest → 0 < length bs → (c == 10) ≡ is_lf → (get_or bs 0 0 == 10) ≡ is_lf
  lf_same bs rest c true e h f =
      let lf : c ≡ 10 = grind (arith, nat_tests) in
      let byte : get_or bs 0 0 ≡ c = byte_from_char bs rest c e (omega arith) in
      grind (arith, nat_tests)
  lf_same bs rest c false e h f =
      let char : get_or bs 0 0 < 128 → c ≡ get_or bs 0 0 = λ l. char_from_byte bs rest c e l h in
      not_lf (get_or bs 0 0) c (get_or bs 0 0 == 10) refl f char

  lf_of : (cs bs : List ℕ) → bs ≡ encode_utf8_all cs → 0 < length bs → begins_with_lf ucd cs ≡ ((get_or bs 0 0 == 10) && is_separator (ucd.class 10))
  lf_of [] bs e h = absurd (omega (arith, ap length e))
  lf_of (c ∷ cs) bs e h = lf_at (get_or bs 0 0) c cs (c == 10) refl (lf_same bs (encode_utf8_all cs) c (c == 10) e h refl)

  -- the piece at an offset tells whether LF is there
  pub lf_in_text : (text s : List ℕ) (at : ℕ) → IsUtf8 text → IsCharBoundary text at → take (length s) (drop at text) ≡ s → 0 < length s
      → begins_with_lf ucd (chars (drop at text)) ≡ ((get_or s 0 0 == 10) && is_separator (ucd.class 10))
  lf_in_text text s at utf8 b e some =
      let bs : List ℕ = drop at text in
      let byte : get_or s 0 0 ≡ get_or bs 0 0 = ap (λ xs. get_or xs 0 0) (sym e) ∙ get_or-take (length s) bs 0 0 some in
      let long : 0 < length bs = omega (arith, ap length e, length-take (length s) bs) in
      lf_of (chars bs) bs (sym (encodes-chars bs (IsUtf8-drop text at utf8 b))) long ∙ ap (λ n. (n == 10) && is_separator (ucd.class 10)) (sym byte)

  pub no_lf_at_end : (text : List ℕ) (at : ℕ) → length text ≤ at → begins_with_lf ucd (chars (drop at text)) ≡ false
  no_lf_at_end text at h = ap (λ bs. begins_with_lf ucd (chars bs)) (drop_all at text h) ∙ ap (begins_with_lf ucd) chars-nil
