-- Clips and other strings, on worked examples.
use Rattle.std.proofs.Common.{◌≡◌, ℕ, false, List, [], ◌∷◌, ◌++◌, map, take, drop, replicate, codes, Some, None, refl}
use Rattle.std.specs.Str.{chars}
use Rattle.base64.proofs.OnLiterals.{base64_on_literals}
use Rattle.bx_grid.specs.Tokens.{is_base64, clip_bytes}
use Rattle.bx_grid.specs.Columns.{Unknown, blank}
use Rattle.bx_grid.specs.Terminal.{Terminal, reads}
use Rattle.bx_terminal.proofs.Examples.{g}

-- it shows `ab` in a row of four columns
abbrev shown : Terminal
shown = record {
  height = 1;
  width = 4;
  columns = g 0x61 ∷ g 0x62 ∷ blank ∷ blank ∷ [];
  position = Some (0, 0);
  negative = Some false;
  run = [];
  half_read = [];
}

-- nothing is known of it
abbrev unknown : Terminal
unknown = record {
  height = 1;
  width = 4;
  columns = replicate 4 Unknown;
  position = None;
  negative = None;
  run = [];
  half_read = [];
}

-- a clip with this text in place of base64
abbrev clip : List ℕ → List ℕ
clip text = codes "\u{1b}]52;c;" ++ (text ++ codes "\u{7}")

-- a string with this text
abbrev other : List ℕ → List ℕ
other text = codes "\u{1b}]" ++ (text ++ codes "\u{7}")

-- the clip of `ab`
pub clip_of_two_letters : clip_bytes (codes "ab") ≡ clip (codes "YWI=")
unfolding base64_on_literals clip_bytes
clip_of_two_letters = refl

pub clip_of_nothing : clip_bytes [] ≡ clip []
unfolding base64_on_literals clip_bytes
clip_of_nothing = refl

pub stays_shown : reads shown (clip (codes "YWI=")) ≡ shown
unfolding base64_on_literals is_base64
stays_shown = refl

pub stays_shown_by_nothing : reads shown (clip []) ≡ shown
unfolding base64_on_literals is_base64
stays_shown_by_nothing = refl

-- the whole clip, cut in two after each byte
abbrev cuts : List ℕ
cuts = 1 ∷ 2 ∷ 3 ∷ 4 ∷ 5 ∷ 6 ∷ 7 ∷ 8 ∷ 9 ∷ 10 ∷ 11 ∷ []

abbrev first_part : ℕ → Terminal
first_part k = reads shown (take k (clip (codes "YWI=")))

-- the first part is half read, and the second completes it
pub parts_wait : map (λ k. (first_part k).half_read) cuts ≡ map (λ k. take k (clip (codes "YWI="))) cuts
parts_wait = refl

pub parts_end : map (λ k. reads (first_part k) (drop k (clip (codes "YWI=")))) cuts ≡ map (λ k. shown) cuts
unfolding base64_on_literals is_base64
parts_end = refl

-- it ends a run
pub after_a_letter : reads shown (codes "x" ++ clip (codes "YWI="))
    ≡ record shown { columns = g 0x78 ∷ g 0x62 ∷ blank ∷ blank ∷ []; position = Some (0, 1) }
unfolding base64_on_literals is_base64 chars
after_a_letter = refl

-- no base64: no padding, padding within, unused bits that are not zero, characters of another alphabet, blanks
pub no_base64 : map (λ text. reads shown (clip text))
    (codes "YWI" ∷ codes "YWI=YWI=" ∷ codes "YW=I" ∷ codes "YWJ=" ∷ codes "Y===" ∷ codes "Y-I=" ∷ codes "YWI= " ∷ codes " YWI=" ∷ codes "?" ∷ [])
    ≡ replicate 9 unknown
unfolding base64_on_literals is_base64
no_base64 = refl

pub other_strings : map (λ text. reads shown (other text))
    (codes "52;p;YWI=" ∷ codes "52;c" ∷ codes "0;x" ∷ [] ∷ codes "52;C;YWI=" ∷ codes "052;c;YWI=" ∷ [])
    ≡ replicate 6 unknown
unfolding base64_on_literals is_base64
other_strings = refl

-- a byte that breaks a string off is read afresh
pub broken_by_a_move : reads shown (codes "\u{1b}]52;c;YWI" ++ codes "\u{1b}[1;1H") ≡ record unknown { position = Some (0, 0) }
broken_by_a_move = refl

abbrev unended : List ℕ
unended = codes "\u{1b}]52;c;YWI="

pub broken_by_controls : map (λ bs. reads shown (unended ++ bs)) ((0x0A ∷ []) ∷ (0x7F ∷ []) ∷ (0x9C ∷ []) ∷ []) ≡ replicate 3 unknown
unfolding chars
broken_by_controls = refl

pub broken_by_a_letter : reads shown (unended ++ 0xD7 ∷ 0x90 ∷ []) ≡ record unknown { run = 0xD7 ∷ 0x90 ∷ [] }
unfolding chars
broken_by_a_letter = refl

pub broken_by_a_string : reads shown (unended ++ codes "\u{1b}]") ≡ record unknown { half_read = codes "\u{1b}]" }
broken_by_a_string = refl

-- what ends a string in ECMA-48
pub broken_by_its_end : reads shown (unended ++ codes "\u{1b}\\") ≡ record unknown { run = codes "\\" }
unfolding chars
broken_by_its_end = refl
