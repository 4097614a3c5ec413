-- Words of a text, and the unit and the word at a place: from its paragraphs, its clusters and the classes of its characters alone,
-- without window and rows. `ucd` is what the tables say.
use Rattle.std.specs.Prelude.{ℕ, ◌+◌, ◌-◌, ◌==◌, nat_le, nat_lt, min, Bool, true, false, not, ◌&&◌, ◌||◌, List, [], ◌∷◌, ◌++◌, map, length}
use Rattle.std.specs.Prelude.{reverse, find, unwrap_or, chars, if◌then◌else◌}
use Rattle.bx_ucd.specs.Data.{Data}
use Rattle.bx_common.specs.Characters.{is_direction_mark}
use Rattle.unicode_segmentation.specs.Grapheme.{graphemes}
use Rattle.bx_ucd.specs.declared.class.Class.{Class}
use Rattle.bx_ucd.specs.declared.class.Class.TheVariants.{L, R, AL, EN, AN, NSM, BN}
use Rattle.bx_text.specs.index.Paragraphs.{Paragraph, lengths_of, paragraphs, bytes_of}
use Rattle.bx_view.specs.Numbers.{body_at, boundaries, paragraph_number, start_at}
use Rattle.bx_view.specs.declared.moves.Logical.{Logical}
use Rattle.bx_view.specs.declared.moves.Logical.TheVariants.{Back, Forward}
use Rattle.bx_view.specs.declared.moves.unit_kind.UnitKind.{UnitKind}
use Rattle.bx_view.specs.declared.moves.unit_kind.UnitKind.TheVariants.{Letter, Digit, Mark, LetterSign, DigitSign, Other}

-- ---- what a unit is to a word

-- The classes of UAX #9 whose characters make words, a choice: those of letters (L, R, AL), numbers (EN, AN), marks (NSM) and
-- joiners (BN). A character of another class may be a sign of words.
abbrev pub kind_of_class : Class → UnitKind → UnitKind
kind_of_class L sign = Letter
kind_of_class R sign = Letter
kind_of_class AL sign = Letter
kind_of_class EN sign = Digit
kind_of_class AN sign = Digit
kind_of_class NSM sign = Mark
kind_of_class BN sign = Mark
kind_of_class _ sign = sign

-- QUOTATION MARK, APOSTROPHE and RIGHT SINGLE QUOTATION MARK: they stand in abbreviations and contractions
abbrev pub is_letter_sign : ℕ → Bool
is_letter_sign c = ((c == 0x22) || (c == 0x27)) || (c == 0x2019)

-- FULL STOP, COMMA and COLON: they stand in numbers, dates and times
abbrev pub is_digit_sign : ℕ → Bool
is_digit_sign c = ((c == 0x2E) || (c == 0x2C)) || (c == 0x3A)

-- which sign a character is, if it is a unit alone
abbrev pub sign_of : ℕ → UnitKind
sign_of c = if is_letter_sign c then LetterSign else if is_digit_sign c then DigitSign else Other

-- which sign a unit of these characters is
abbrev pub sign_alone : ℕ → List ℕ → UnitKind
sign_alone c [] = sign_of c
sign_alone c (_ ∷ _) = Other

-- What a unit with these characters is to a word: by the class of the first one; of another class, a sign if it is alone. Direction
-- marks are of no word, though Unicode gives them classes of letters.
abbrev pub kind_of_characters : Data → List ℕ → UnitKind
kind_of_characters ucd [] = Other
kind_of_characters ucd (c ∷ cs) = elim (is_direction_mark c) [ true ↦ Other | false ↦ kind_of_class (ucd.class c) (sign_alone c cs) ]

abbrev pub kind_of : Data → List ℕ → UnitKind
kind_of ucd unit = kind_of_characters ucd (chars unit)

-- the unit is of a word wherever it stands
abbrev pub is_of_word : UnitKind → Bool
is_of_word Letter = true
is_of_word Digit = true
is_of_word Mark = true
is_of_word _ = false

abbrev pub is_letter : UnitKind → Bool
is_letter Letter = true
is_letter _ = false

abbrev pub is_digit : UnitKind → Bool
is_digit Digit = true
is_digit _ = false

-- a sign, which is of the word of the units around it, if they are of one
abbrev pub is_sign : UnitKind → Bool
is_sign LetterSign = true
is_sign DigitSign = true
is_sign _ = false

-- A unit of the kind `unit` goes on with the word before it, after units of the kinds `second` and `first`, the nearer one last:
-- after a unit of the word, or after a sign that stands between two letters, or between two digits.
abbrev pub goes_on : UnitKind → UnitKind → UnitKind → Bool
goes_on second LetterSign unit = is_letter second && is_letter unit
goes_on second DigitSign unit = is_digit second && is_digit unit
goes_on second first unit = is_of_word first

-- a unit of the kind `unit` begins a word after such units
abbrev pub begins_word : UnitKind → UnitKind → UnitKind → Bool
begins_word second first unit = is_of_word unit && not (goes_on second first unit)

-- ---- where words begin

-- the offset `at` in front of others, if a condition holds; else the others alone
abbrev pub put_if : Bool → ℕ → List ℕ → List ℕ
put_if true at others = at ∷ others
put_if false at others = others

-- The offsets at which words begin among units, of which the first begins at the offset `at`, after units of the kinds `second` and
-- `first`.
abbrev pub word_starts : Data → UnitKind → UnitKind → ℕ → List (List ℕ) → List ℕ
word_starts ucd second first at [] = []
word_starts ucd second first at (u ∷ us) =
    put_if (begins_word second first (kind_of ucd u)) at (word_starts ucd first (kind_of ucd u) (at + length u) us)

-- the offsets at which the words of a body begin
abbrev pub body_words : Data → List ℕ → List ℕ
body_words ucd body = word_starts ucd Other Other 0 (graphemes true body)

-- the offsets of a body at which a move by words stops: forward at the starts of its words and at its end, back at its start and
-- at the starts of its words
abbrev pub body_stops : Data → Logical → List ℕ → List ℕ
body_stops ucd Forward body = body_words ucd body ++ length body ∷ []
body_stops ucd Back body = 0 ∷ body_words ucd body

-- the stops in paragraphs, as offsets of a text in which the first begins at `start`
abbrev pub stops_from : Data → Logical → ℕ → List Paragraph → List ℕ
stops_from ucd way start [] = []
stops_from ucd way start (p ∷ ps) = map (λ o. start + o) (body_stops ucd way p.body) ++ stops_from ucd way (start + bytes_of (lengths_of p)) ps

-- the stops in a text
abbrev pub text_stops : Data → Logical → List ℕ → List ℕ
text_stops ucd way text = stops_from ucd way 0 (paragraphs ucd text)

-- WordForward: the first place after `place` at which a word begins or a body ends. WordBack: the last place before it at
-- which a word or a body begins. If there is none, the place itself.
abbrev pub step_word : Data → List ℕ → Logical → ℕ → ℕ
step_word ucd text Forward place = unwrap_or (find (nat_lt place) (text_stops ucd Forward text)) place
step_word ucd text Back place = unwrap_or (find (λ p. nat_lt p place) (reverse (text_stops ucd Back text))) place

-- ---- the unit and the word at a place

-- the kind of the first of some units
abbrev pub first_kind : Data → List (List ℕ) → UnitKind
first_kind ucd [] = Other
first_kind ucd (u ∷ us) = kind_of ucd u

-- the offset at which a word ends, of which a unit of the kind `last` ends at the offset `at`, before some units
abbrev pub word_end : Data → UnitKind → ℕ → List (List ℕ) → ℕ
word_end ucd last at [] = at
word_end ucd last at (u ∷ us) = elim (is_of_word (kind_of ucd u) || goes_on last (kind_of ucd u) (first_kind ucd us)) [
  | true ↦ word_end ucd (kind_of ucd u) (at + length u) us
  | false ↦ at
]

-- a pair before others, if a condition holds
abbrev pub put_pair_if : Bool → ℕ × ℕ → List (ℕ × ℕ) → List (ℕ × ℕ)
put_pair_if true pair others = pair ∷ others
put_pair_if false pair others = others

-- the words among units, each by the offsets of its start and its end; the first unit is as in `word_starts`
abbrev pub word_spans : Data → UnitKind → UnitKind → ℕ → List (List ℕ) → List (ℕ × ℕ)
word_spans ucd second first at [] = []
word_spans ucd second first at (u ∷ us) =
    put_pair_if (begins_word second first (kind_of ucd u)) (at, word_end ucd (kind_of ucd u) (at + length u) us)
    (word_spans ucd first (kind_of ucd u) (at + length u) us)

-- the start of the unit at an offset of a body; that of the last unit at the body's end
abbrev pub unit_start : List ℕ → ℕ → ℕ
unit_start body offset =
    unwrap_or (find (λ o. nat_le o (min offset (length body - 1))) (reverse (boundaries 0 (graphemes true body)))) 0

-- the end of the unit at an offset of a body; at the body's end the offset itself
abbrev pub unit_stop : List ℕ → ℕ → ℕ
unit_stop body offset = unwrap_or (find (nat_lt offset) (boundaries 0 (graphemes true body))) offset

-- the word of the unit that begins at an offset of a body; the unit alone if it is of no word
abbrev pub word_around : Data → List ℕ → ℕ → ℕ × ℕ
word_around ucd body start =
    unwrap_or (find (λ w. nat_le w.0 start && nat_lt start w.1) (word_spans ucd Other Other 0 (graphemes true body))) (start, unit_stop body start)

-- the range of the unit that begins at a place; at the end of a body it is empty
abbrev pub unit_at : Data → List ℕ → ℕ → ℕ × ℕ
unit_at ucd text place =
    let number = paragraph_number ucd text place in
    let start = start_at ucd text number in
    (place, start + unit_stop (body_at ucd text number) (place - start))

-- The range of the word that has the unit at a place, or of that unit alone if it belongs to no word. At the end of a body its last
-- unit counts; in an empty body the range is empty.
abbrev pub stretch_at : Data → List ℕ → ℕ → ℕ × ℕ
stretch_at ucd text place =
    let number = paragraph_number ucd text place in
    let start = start_at ucd text number in
    let body = body_at ucd text number in
    let word = word_around ucd body (unit_start body (place - start)) in
    (start + word.0, start + word.1)
