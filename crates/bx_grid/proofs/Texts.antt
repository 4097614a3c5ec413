-- A text of printable characters is a run, read byte by byte.
use Rattle.std.proofs.Common.{◌≡◌, ℕ, ◌<◌, Bool, true, false, not, ◌&&◌, ◌||◌, nat_eq, nat_le, List, [], ◌∷◌, ◌++◌, refl, ap, sym, ◌∙◌, append_assoc, arith}
use Rattle.std.specs.List.{list_all}
use Rattle.std.specs.Char.{IsScalar, encode_utf8}
use lib.Utf8.{scalar}
use Rattle.std.specs.Str.{IsUtf8, chars, encode_utf8_all, all_scalars}
use Rattle.std.proofs.lemmas.Bool.Decides.{nat_tests}
use Rattle.std.proofs.lemmas.List.{append-nil}
use Rattle.std.proofs.lemmas.Str.{chars-encodes}
use Rattle.std.proofs.lemmas.Bool.{not-true}
use Rattle.bx_bytes.specs.Pattern.{fate_in, matches_any, begins_any}
use Rattle.bx_bytes.specs.Utf8.{characters, is_control, are_printable}
use Rattle.bx_bytes.specs.declared.fate.Fate.TheVariants.{Waits, Ends, Breaks}
use Rattle.bx_bytes.proofs.Codes.{after_low, chars_of_one}
use Rattle.bx_bytes.proofs.Encoded.{is_whole, ends, encoded}
use Rattle.bx_bytes.proofs.Patterns.{matches_any_begins, begins_any_front, none_begins_longer}
use Rattle.unicode_width.specs.Width.{str_width}
use Rattle.bx_grid.specs.Columns.{is_ascii_glyph, is_ascii_printable}
use Rattle.bx_grid.specs.Effects.{Effect, effects_after}
use Rattle.bx_grid.specs.Glyphs.{WholeGlyph, IsGlyph}
use Rattle.bx_grid.specs.Terminal.{Terminal, read_after}
use Rattle.bx_grid.proofs.Doing.{run, run_step, run-append}
use Rattle.bx_grid.proofs.Single.{chars_of, head_is}
use Rattle.bx_grid.proofs.Reading.{at, and_left, and_right, prints}

-- ---- the beginning of a character

waits_by : (m : Bool) (xs more : List ℕ) (b : ℕ) → matches_any characters xs ≡ m → begins_any characters xs ≡ true
    → begins_any characters (xs ++ b ∷ more) ≡ true
    → fate_in characters xs ≡ Waits
waits_by true xs more b e begins longer = absurd (let none : begins_any characters (xs ++ b ∷ more) ≡ false = none_begins_longer characters refl xs b more e in
    let t : true ≡ false = sym longer ∙ none in cc t)
waits_by false xs more b e begins longer = rw (e, begins) refl

-- bytes that go on to a character wait
prefix_waits : (xs more : List ℕ) (b : ℕ) → fate_in characters (xs ++ b ∷ more) ≡ Ends → fate_in characters xs ≡ Waits
prefix_waits xs more b h =
    let longer : begins_any characters (xs ++ b ∷ more) ≡ true = matches_any_begins characters (xs ++ b ∷ more) (is_whole (xs ++ b ∷ more) h) in
    waits_by (matches_any characters xs) xs more b refl (begins_any_front characters xs (b ∷ more) longer) longer

-- ---- one byte

waits_begin : (t : Terminal) (log : List Effect) (a : ℕ) → t.half_read ≡ [] → nat_eq a 0x1B ≡ false → fate_in characters (a ∷ []) ≡ Waits
    → run (t, log) (a ∷ []) ≡ (at t (a ∷ []), log)
waits_begin t log a idle other waits =
    ap (λ half_read. run_step (read_after t a half_read) (log ++ effects_after t a half_read)) idle
    ∙ rw (other, waits) (ap (λ l. run_step (at t (a ∷ [])) l) (append-nil log))

ends_begin : (t : Terminal) (log : List Effect) (a : ℕ) → t.half_read ≡ [] → nat_eq a 0x1B ≡ false → fate_in characters (a ∷ []) ≡ Ends
    → are_printable (a ∷ []) ≡ true
    → run (t, log) (a ∷ []) ≡ (record t { run = t.run ++ a ∷ []; half_read = [] }, log)
ends_begin t log a idle other ends printed =
    ap (λ half_read. run_step (read_after t a half_read) (log ++ effects_after t a half_read)) idle
    ∙ rw (other, ends, other, printed) (ap (λ l. run_step (record t { run = t.run ++ a ∷ []; half_read = [] }) l) (append-nil log))

waits_on : (t : Terminal) (log : List Effect) (a : ℕ) (xs : List ℕ) (b : ℕ) → nat_eq a 0x1B ≡ false → fate_in characters (a ∷ xs ++ b ∷ []) ≡ Waits
    → run (at t (a ∷ xs), log) (b ∷ []) ≡ (at t (a ∷ xs ++ b ∷ []), log)
waits_on t log a xs b other waits =
    rw (other, waits) (ap (λ l. run_step (at t (a ∷ xs ++ b ∷ [])) l) (append-nil log))

ends_on : (t : Terminal) (log : List Effect) (a : ℕ) (xs : List ℕ) (b : ℕ) → nat_eq a 0x1B ≡ false → fate_in characters (a ∷ xs ++ b ∷ []) ≡ Ends
    → are_printable (a ∷ xs ++ b ∷ []) ≡ true
    → run (at t (a ∷ xs), log) (b ∷ []) ≡ (record t { run = t.run ++ (a ∷ xs ++ b ∷ []); half_read = [] }, log)
ends_on t log a xs b other ends printed =
    rw (other, ends, other, printed) (ap (λ l. run_step (record t { run = t.run ++ (a ∷ xs ++ b ∷ []); half_read = [] }) l) (append-nil log))

-- ---- a character

rest_does : (t : Terminal) (log : List Effect) (a : ℕ) (xs : List ℕ) (b : ℕ) (more : List ℕ) → nat_eq a 0x1B ≡ false
    → fate_in characters (a ∷ xs ++ b ∷ more) ≡ Ends → are_printable (a ∷ xs ++ b ∷ more) ≡ true
    → run (at t (a ∷ xs), log) (b ∷ more) ≡ (record t { run = t.run ++ (a ∷ xs ++ b ∷ more); half_read = [] }, log)
rest_does t log a xs b [] other ends printed = ends_on t log a xs b other ends printed
rest_does t log a xs b (c ∷ more) other ends printed =
    let split : a ∷ xs ++ b ∷ c ∷ more ≡ a ∷ (xs ++ b ∷ []) ++ c ∷ more = ap (λ ys. a ∷ ys) (sym (append_assoc xs (b ∷ []) (c ∷ more))) in
    let ends' : fate_in characters (a ∷ (xs ++ b ∷ []) ++ c ∷ more) ≡ Ends = ap (fate_in characters) (sym split) ∙ ends in
    let printed' : are_printable (a ∷ (xs ++ b ∷ []) ++ c ∷ more) ≡ true = ap are_printable (sym split) ∙ printed in
    ap (λ w. run w (c ∷ more)) (waits_on t log a xs b other (prefix_waits (a ∷ xs ++ b ∷ []) more c ends'))
    ∙ rest_does t log a (xs ++ b ∷ []) c more other ends' printed'
    ∙ ap (λ bs. run_step (record t { run = t.run ++ bs; half_read = [] }) log) (sym split)

never_ends : Breaks ≡ Ends → ⊥
never_ends e = cc e

escape_low : (a : ℕ) → a ≡ 0x1B → a < 0xC2
escape_low a e = omega (arith, e)

escape_one : (a c : ℕ) → a ≡ 0x1B → fate_in characters (a ∷ []) ≡ Ends → chars (a ∷ []) ≡ c ∷ [] → is_control c ≡ true
escape_one a c is ends spells =
    let same : a ≡ c = head_is a c (sym (chars_of_one a ends) ∙ spells) in
    ap is_control (sym same ∙ is)

escape_more : (a b : ℕ) (rest : List ℕ) → a ≡ 0x1B → fate_in characters (a ∷ b ∷ rest) ≡ Ends → ⊥
escape_more a b rest is ends = never_ends (sym (after_low a b rest (escape_low a is)) ∙ ends)

differ : true ≡ false → ⊥
differ e = cc e

escape_is : (a : ℕ) → nat_eq a 0x1B ≡ true → a ≡ 0x1B
escape_is a e = grind (arith, nat_tests)

no_escape : (t : Bool) (a : ℕ) → nat_eq a 0x1B ≡ t → (a ≡ 0x1B → ⊥) → nat_eq a 0x1B ≡ false
no_escape true a e h = absurd (h (escape_is a e))
no_escape false a e h = e

char_does : (t : Terminal) (log : List Effect) (bs : List ℕ) (c : ℕ) → t.half_read ≡ [] → fate_in characters bs ≡ Ends → chars bs ≡ c ∷ []
    → is_control c ≡ false
    → run (t, log) bs ≡ (record t { run = t.run ++ bs; half_read = [] }, log)
char_does t log [] c idle ends spells fine = absurd (cc ends)
char_does t log (a ∷ []) c idle ends spells fine =
    let printed : are_printable (a ∷ []) ≡ true = rw (spells, fine) refl in
    ends_begin t log a idle (no_escape (nat_eq a 0x1B) a refl (λ is. differ (sym (escape_one a c is ends spells) ∙ fine))) ends printed
char_does t log (a ∷ b ∷ rest) c idle ends spells fine =
    let printed : are_printable (a ∷ b ∷ rest) ≡ true = rw (spells, fine) refl in
    let other = no_escape (nat_eq a 0x1B) a refl (λ is. escape_more a b rest is ends) in
    ap (λ w. run w (b ∷ rest)) (waits_begin t log a idle other (prefix_waits (a ∷ []) rest b ends))
    ∙ rest_does t log a [] b rest other ends printed

-- ---- a text

abbrev made : Terminal → List ℕ → List ℕ → Terminal
made t some half_read = record t { run = some; half_read = half_read }

same_run : (t : Terminal) → t.half_read ≡ [] → record t { run = t.run ++ []; half_read = [] } ≡ t
same_run t h = ap (λ some. made t some []) (append-nil t.run) ∙ ap (made t t.run) (sym h)

chars_do : (t : Terminal) (log : List Effect) (cs : List ℕ) → all_scalars cs ≡ true → list_all (λ c. not (is_control c)) cs ≡ true → t.half_read ≡ []
    → run (t, log) (encode_utf8_all cs) ≡ (record t { run = t.run ++ encode_utf8_all cs; half_read = [] }, log)
chars_do t log [] scalars fine idle = ap (λ u. run_step u log) (sym (same_run t idle))
chars_do t log (c ∷ cs) scalars fine idle =
    let here : IsScalar c = and_left (scalar c) (all_scalars cs) scalars in
    let bs = encode_utf8 c in
    let rest = encode_utf8_all cs in
    let first = char_does t log bs c idle (ends bs (encoded c here)) (chars_of c here)
    (not-true (is_control c) (and_left (not (is_control c)) (list_all (λ x. not (is_control x)) cs) fine)) in
    let u : Terminal = record t { run = t.run ++ bs; half_read = [] } in
    run-append (t, log) bs rest
    ∙ ap (λ w. run w rest) first
    ∙ chars_do u log cs (and_right (scalar c) (all_scalars cs) scalars) (and_right (not (is_control c)) (list_all (λ x. not (is_control x)) cs) fine) refl
    ∙ ap (λ some. run_step (made t some []) log) (append_assoc t.run bs rest)

-- a text is a run, and nothing is done yet
pub text_does : (t : Terminal) (log : List Effect) (text : List ℕ) → IsUtf8 text → are_printable text ≡ true → t.half_read ≡ []
    → run (t, log) text ≡ (record t { run = t.run ++ text; half_read = [] }, log)
text_does t log text utf8 printed idle =
    let cs = utf8.0 in
    let spelled : chars text ≡ cs = ap chars (sym utf8.1.1) ∙ chars-encodes cs utf8.1.0 in
    let fine : list_all (λ c. not (is_control c)) cs ≡ true = ap (list_all (λ c. not (is_control c))) (sym spelled) ∙ printed in
    ap (run (t, log)) (sym utf8.1.1)
    ∙ chars_do t log cs utf8.1.0 fine idle
    ∙ ap (λ bs. run_step (record t { run = t.run ++ bs; half_read = [] }) log) utf8.1.1

-- ---- a glyph's text

one_prints : (text : List ℕ) → is_ascii_glyph text ≡ true → are_printable text ≡ true
one_prints [] h = absurd (cc h)
one_prints (b ∷ []) h = prints b h
one_prints (b ∷ c ∷ rest) h = absurd (cc h)

glyph_prints : (one : Bool) (text : List ℕ) → is_ascii_glyph text ≡ one
    → one || ((are_printable text && not (list_all is_ascii_printable text)) && nat_le 1 (str_width false (chars text))) ≡ true → are_printable text ≡ true
glyph_prints true text e h = one_prints text e
glyph_prints false text e h =
    and_left (are_printable text) (not (list_all is_ascii_printable text))
    (and_left (are_printable text && not (list_all is_ascii_printable text)) (nat_le 1 (str_width false (chars text))) h)

-- a glyph's text is a run too
pub glyph_does : (t : Terminal) (log : List Effect) (g : WholeGlyph) → IsGlyph g → t.half_read ≡ []
    → run (t, log) g.text ≡ (record t { run = t.run ++ g.text; half_read = [] }, log)
glyph_does t log g h idle = text_does t log g.text h.utf8 (glyph_prints (is_ascii_glyph g.text) g.text refl h.one) idle
