-- The characters of a text before its first line end or tab.
use Rattle.std.proofs.Common.{◌≡◌, ◌∙◌, ◌<◌, ◌≤◌, ◌-◌, ◌+◌, ◌++◌, ℕ, suc, Bool, true, false, not, List, [], ◌∷◌, length, take, chars, encode_utf8, IsUtf8, IsCharBoundary, refl, sym, ap, ap₂, subst, arith}
use Rattle.std.proofs.Common.{append_assoc, append-nil, length-append}
use Rattle.std.specs.Prelude.{◌==◌, ◌||◌, encode_utf8_all}
use Rattle.std.specs.List.{before_first, list_all, position_or_len}
use Rattle.std.proofs.lemmas.Bool.{and_from}
use Rattle.std.proofs.lemmas.Str.{chars-nil, encodes-chars, IsCharBoundary-at_seam, IsUtf8-append, IsUtf8-nil, IsUtf8-take}
use Rattle.std.proofs.Math.Seq.{take-append_seam}
use Rattle.bx_ucd.specs.Data.{Data}
use Rattle.bx_editor.specs.InputLines.{first_line, is_no_letter}
use Rattle.bx_editor.specs.LinePuts.{is_in_line}
use Rattle.bx_editor.proofs.questions_lemmas.OneMore.{no-chars, one_more}

before-here : (p : ℕ → Bool) (c : ℕ) (cs : List ℕ) → p c ≡ true → before_first p (c ∷ cs) ≡ []
before-here p c cs h = rw h refl

before-more : (p : ℕ → Bool) (c : ℕ) (cs : List ℕ) → p c ≡ false → before_first p (c ∷ cs) ≡ c ∷ before_first p cs
before-more p c cs h =
    let n = position_or_len p cs in
    let e : 1 + n ≡ suc n = omega arith in
    rw (h, e) refl

-- a character that ends what an input line takes of a text
abbrev pub is_end : Data → ℕ → Bool
is_end d c = (c == 0xA) || is_no_letter d c

-- a text is what was read and the rest, and its first line begins with what was read
pub record IsRead (d : Data) (text front rest : List ℕ) : Type 0 where
  pub split : text ≡ front ++ rest
  pub utf8 : IsUtf8 front
  pub line : first_line d text ≡ chars front ++ before_first (is_end d) (chars rest)

abbrev pub Reads : Data → List ℕ → List ℕ → Type 0
Reads d text rest = (front : List ℕ) × IsRead d text front rest

pub none-read : (d : Data) (text : List ℕ) → Reads d text text
none-read d text = (
  [],
  record {
    split = refl;
    utf8 = IsUtf8-nil;
    line = sym (ap (λ (cs : List ℕ). cs ++ before_first (is_end d) (chars text)) chars-nil);
  },
)

pub shorter : (d : Data) (text rest : List ℕ) → Reads d text rest → length rest ≤ length text
shorter d text rest read = omega (arith, ap length read.1.split, length-append read.0 rest)

pub first-utf8 : (rest behind : List ℕ) (c : ℕ) → IsUtf8 rest → IsUtf8 behind → rest ≡ encode_utf8 c ++ behind → IsUtf8 (encode_utf8 c)
first-utf8 rest behind c utf8 others e =
    let n = length (encode_utf8 c) in
    subst IsUtf8 (ap (take n) e ∙ take-append_seam (encode_utf8 c) behind)
    (IsUtf8-take rest n utf8 (IsCharBoundary-at_seam rest (encode_utf8 c) behind e others))

pub more-read : (d : Data) (text rest behind : List ℕ) (c : ℕ) → Reads d text rest → rest ≡ encode_utf8 c ++ behind → chars rest ≡ c ∷ chars behind
    → IsUtf8 (encode_utf8 c) → is_end d c ≡ false → Reads d text behind
more-read d text rest behind c read bytes letters utf8 goes-on =
    let front = read.0 in
    let is = read.1 in
    let longer : chars (front ++ encode_utf8 c) ≡ chars front ++ c ∷ [] = one_more front c is.utf8 utf8 in
    let after = before_first (is_end d) (chars behind) in (
      front ++ encode_utf8 c,
      record {
        split = is.split ∙ ap (λ (t : List ℕ). front ++ t) bytes ∙ sym (append_assoc front (encode_utf8 c) behind);
        utf8 = IsUtf8-append front (encode_utf8 c) is.utf8 utf8;
        line = is.line ∙ ap (λ cs. chars front ++ before_first (is_end d) cs) letters
            ∙ ap (λ (cs : List ℕ). chars front ++ cs) (before-more (is_end d) c (chars behind) goes-on)
            ∙ sym (append_assoc (chars front) (c ∷ []) after) ∙ ap (λ (cs : List ℕ). cs ++ after) (sym longer);
      },
    )

-- where the rest begins with an end, or is empty, the line was read
read-is : (d : Data) (text rest : List ℕ) (n : ℕ) → Reads d text rest → before_first (is_end d) (chars rest) ≡ [] → n ≡ length text - length rest
    → chars (take n text) ≡ first_line d text
read-is d text rest n read none len =
    let front = read.0 in
    let is = read.1 in
    let count : n ≡ length front = omega (arith, len, ap length is.split, length-append front rest) in
    let part : take n text ≡ front = ap₂ (λ k (t : List ℕ). take k t) count is.split ∙ take-append_seam front rest in
    ap chars part ∙ sym (is.line ∙ ap (λ (cs : List ℕ). chars front ++ cs) none ∙ append-nil (chars front))

pub ended : (d : Data) (text rest behind : List ℕ) (c n : ℕ) → Reads d text rest → chars rest ≡ c ∷ chars behind → is_end d c ≡ true
    → n ≡ length text - length rest → chars (take n text) ≡ first_line d text
ended d text rest behind c n read letters ends len =
    read-is d text rest n read (ap (before_first (is_end d)) letters ∙ before-here (is_end d) c (chars behind) ends) len

pub exhausted : (d : Data) (text rest : List ℕ) (n : ℕ) → Reads d text rest → length rest ≡ 0 → n ≡ length text - length rest
    → chars (take n text) ≡ first_line d text
exhausted d text rest n read none len = read-is d text rest n read (ap (before_first (is_end d)) (no-chars rest none)) len

pub at-seam : (d : Data) (text rest : List ℕ) (n : ℕ) → Reads d text rest → IsUtf8 rest → n ≡ length text - length rest → IsCharBoundary text n
at-seam d text rest n read utf8 len =
    let front = read.0 in
    let count : length front ≡ n = omega (arith, len, ap length read.1.split, length-append front rest) in
    subst (IsCharBoundary text) count (IsCharBoundary-at_seam text front rest read.1.split utf8)

pub some-chars : (text : List ℕ) → IsUtf8 text → (length text ≡ 0 → ⊥) → chars text ≡ [] → ⊥
some-chars text utf8 some none = some (sym (ap length (sym (ap encode_utf8_all none) ∙ encodes-chars text utf8)))

-- ---- the line has no line end

free : (b other : Bool) → (b || other) ≡ false → not b ≡ true
free true other h = absurd (cc h)
free false other h = refl

no-end : (d : Data) (c : ℕ) → is_end d c ≡ false → is_in_line c ≡ true
no-end d c h = free (c == 0xA) (is_no_letter d c) h

in-line-by : (d : Data) (c : ℕ) (cs : List ℕ) (b : Bool) → is_end d c ≡ b → list_all is_in_line (before_first (is_end d) cs) ≡ true
    → list_all is_in_line (before_first (is_end d) (c ∷ cs)) ≡ true
in-line-by d c cs true h rest = ap (list_all is_in_line) (before-here (is_end d) c cs h)
in-line-by d c cs false h rest =
    ap (list_all is_in_line) (before-more (is_end d) c cs h)
    ∙ and_from (is_in_line c) (list_all is_in_line (before_first (is_end d) cs)) (no-end d c h) rest

in-line-before : (d : Data) (cs : List ℕ) → list_all is_in_line (before_first (is_end d) cs) ≡ true
in-line-before d [] = refl
in-line-before d (c ∷ cs) = in-line-by d c cs (is_end d c) refl (in-line-before d cs)

pub first-in-line : (d : Data) (text : List ℕ) → list_all is_in_line (first_line d text) ≡ true
first-in-line d text = in-line-before d (chars text)
