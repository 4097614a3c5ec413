-- A row that follows from each law alone.
use Rattle.std.proofs.Common.{◌≡◌, ◌≢◌, ℕ, ◌≤◌, inr, Bool, true, false, not, ◌&&◌, nat_eq, List, [], ◌∷◌, ◌++◌, length, map}
use Rattle.std.proofs.Common.{refl, ap, sym, ◌∙◌, subst, arith}
use Rattle.std.specs.Prelude.{codes, unwrap_or}
use Rattle.std.specs.List.{AllByRecursion, list_all}
use Rattle.std.specs.Str.{chars, IsUtf8}
use Rattle.std.proofs.lemmas.Bool.{and_left, and_parts, both_ways, not-true, or_from}
use Rattle.std.proofs.lemmas.List.{append-nil}
use Rattle.std.proofs.lemmas.List.Folds.{list_all-append}
use lib.Utf8.{encode}
use Rattle.bx_bytes.specs.Pattern.{Piece, One, Many, is_within, matches, matches_any}
use Rattle.bx_keys.specs.Keys.{decoding}
use Rattle.bx_keys.specs.declared.key.Key.{Key}
use Rattle.bx_keys.specs.declared.key.Key.TheVariants.{Insert, EraseWord, ErasePoint, LineUp, Left, Quit, Save, Select, PasteStart, PasteEnd, Point, Size, Fill}
use Rattle.bx_input.specs.Table.{Row, rows, row_of, sequences, exact, paste_start, paste_end}
use Rattle.bx_input.specs.Paste.{kept_characters, pasted}
use Rattle.bx_input.specs.Scan as scan
use Rattle.bx_input.specs.Scan.{State, Outside, Within, Part, Passed, Known, passed, Step, step_to, start, at_end}
use Rattle.bx_input.specs.Mouse.{opens_report}
use Rattle.bx_input.specs.Sizes.{opens_size}
use Rattle.bx_input.specs.Machine as machine
use Rattle.bx_input.specs.Machine.{Event, Typed, Notice, Machine, Moved, after_all, read}
use Rattle.bx_input.specs.declared.pause.Pause.TheVariants as pauses
use Rattle.bx_input_laws.specs.Events.{EventsComeInPieces}
use Rattle.bx_input_laws.specs.Hearing.{after_frames}
use Rattle.bx_input_laws.specs.Reading.{FramesAreRead, IsRead, KeysAreRead}
use Rattle.bx_input_laws.specs.Strings.{StringsGiveNothing, idle_machine}
use Rattle.bx_input_laws.specs.Laws as laws
use Rattle.bx_input_laws.specs.Laws.{AddsKeys, AddsReportKeys, AddsSizeKeys, AreText, ComesInPieces, GivesRow, HasNone, HasNoReport, HasNoSize, IsText, OthersPass}
use Rattle.bx_input_laws.specs.Laws.{PassedAreDecoded, PastesAreClean, PastesInsert, PastesKeepCharacters, PastesText, WaitsForFifteen, is_report, is_size_sequence, waiting_in}

-- ---- bytes with which no sequence begins

abbrev begins_by : ℕ → List Piece → Bool
begins_by b (One low high ∷ ps) = is_within low high b
begins_by b _ = true

abbrev begins_none : List (List Piece) → ℕ → Bool
begins_none ps b = list_all (λ p. not (begins_by b p)) ps

one_not : (p : List Piece) (b : ℕ) (bs : List ℕ) → not (begins_by b p) ≡ true → matches p (b ∷ bs) ≡ false
one_not [] b bs n = absurd (cc n)
one_not (Many low high ∷ ps) b bs n = absurd (cc n)
one_not (One low high ∷ ps) b bs n = and_left (is_within low high b) (matches ps bs) (not-true (is_within low high b) n)

none_match : (ps : List (List Piece)) (b : ℕ) (bs : List ℕ) → begins_none ps b ≡ true → matches_any ps (b ∷ bs) ≡ false
none_match [] b bs n = refl
none_match (p ∷ ps) b bs n =
    let each = and_parts (not (begins_by b p)) (begins_none ps b) n in
    or_from (matches p (b ∷ bs)) (matches_any ps (b ∷ bs)) (one_not p b bs each.0) (none_match ps b bs each.1)

none_in : (ps : List (List Piece)) (bs : List ℕ) → matches_any ps [] ≡ false → list_all (begins_none ps) bs ≡ true → matches_any ps bs ≡ false
none_in ps [] e n = e
none_in ps (b ∷ bs) e n = none_match ps b bs (and_parts (begins_none ps b) (list_all (begins_none ps) bs) n).0

no_sequence : (ps : List (List Piece)) (bs : List ℕ) → matches_any ps [] ≡ false → list_all (begins_none ps) bs ≡ true → HasNone ps bs
no_sequence ps bs e n front middle back cut =
    let test : ℕ → Bool = begins_none ps in
    let whole : list_all test (front ++ (middle ++ back)) ≡ true = ap (list_all test) (sym cut) ∙ n in
    let behind = and_parts (list_all test front) (list_all test (middle ++ back)) (sym (list_all-append test front (middle ++ back)) ∙ whole) in
    let within = and_parts (list_all test middle) (list_all test back) (sym (list_all-append test middle back) ∙ behind.1) in
    none_in ps middle e within.0

-- ---- bytes without ESC

abbrev no_escape : ℕ → Bool
no_escape b = not (nat_eq b 0x1B)

lacks_report : (bs : List ℕ) → list_all no_escape bs ≡ true → is_report bs ≡ false
lacks_report [] n = refl
lacks_report (a ∷ []) n = refl
lacks_report (a ∷ b ∷ []) n = refl
lacks_report (a ∷ b ∷ c ∷ bs) n =
    let first : nat_eq a 0x1B ≡ false = not-true (nat_eq a 0x1B) (and_parts (no_escape a) (list_all no_escape (b ∷ c ∷ bs)) n).0 in
    and_left (opens_report (a ∷ b ∷ c ∷ bs)) _
    (and_left (nat_eq a 0x1B && nat_eq b 0x5B) (nat_eq c 0x3C) (and_left (nat_eq a 0x1B) (nat_eq b 0x5B) first))

no_report : (bs : List ℕ) → list_all no_escape bs ≡ true → HasNoReport bs
no_report bs n front middle back cut =
    let whole : list_all no_escape (front ++ (middle ++ back)) ≡ true = ap (list_all no_escape) (sym cut) ∙ n in
    let behind = and_parts (list_all no_escape front) (list_all no_escape (middle ++ back)) (sym (list_all-append no_escape front (middle ++ back)) ∙ whole) in
    let within = and_parts (list_all no_escape middle) (list_all no_escape back) (sym (list_all-append no_escape middle back) ∙ behind.1) in
    lacks_report middle within.0

lacks_size : (bs : List ℕ) → list_all no_escape bs ≡ true → is_size_sequence bs ≡ false
lacks_size [] n = refl
lacks_size (a ∷ []) n = refl
lacks_size (a ∷ b ∷ []) n = refl
lacks_size (a ∷ b ∷ c ∷ []) n = refl
lacks_size (a ∷ b ∷ c ∷ d ∷ bs) n =
    let first : nat_eq a 0x1B ≡ false = not-true (nat_eq a 0x1B) (and_parts (no_escape a) (list_all no_escape (b ∷ c ∷ d ∷ bs)) n).0 in
    and_left (opens_size (a ∷ b ∷ c ∷ d ∷ bs)) _
    (and_left ((nat_eq a 0x1B && nat_eq b 0x5B) && nat_eq c 0x38) (nat_eq d 0x3B)
    (and_left (nat_eq a 0x1B && nat_eq b 0x5B) (nat_eq c 0x38) (and_left (nat_eq a 0x1B) (nat_eq b 0x5B) first)))

no_size : (bs : List ℕ) → list_all no_escape bs ≡ true → HasNoSize bs
no_size bs n front middle back cut =
    let whole : list_all no_escape (front ++ (middle ++ back)) ≡ true = ap (list_all no_escape) (sym cut) ∙ n in
    let behind = and_parts (list_all no_escape front) (list_all no_escape (middle ++ back)) (sym (list_all-append no_escape front (middle ++ back)) ∙ whole) in
    let within = and_parts (list_all no_escape middle) (list_all no_escape back) (sym (list_all-append no_escape middle back) ∙ behind.1) in
    lacks_size middle within.0

-- ---- the laws

-- where the terminal's own erase character is another than DELETE
abbrev run : State → List ℕ → Step
run = scan.run false

abbrev scanned : List ℕ → List Part
scanned = scan.scanned false

abbrev keys : List ℕ → List Key
keys = laws.keys false

-- Shift and Up, of which the letter comes later
pub of_in_any_pieces : ComesInPieces false → (bs : List ℕ) → (run start bs).state ≡ Outside (codes "\u{1b}[1;2")
    → (run start (bs ++ codes "A")).parts ≡ (run start bs).parts ++ Known (Select ∷ LineUp ∷ []) ∷ []
of_in_any_pieces law bs e =
    ap (λ (x : Step). x.parts) (law start bs (codes "A")) ∙ ap (λ s. (run start bs).parts ++ (run s (codes "A")).parts) e

-- the longest sequence never waits whole
pub of_waits_for_nine : WaitsForFifteen false → (bs : List ℕ) → (run start bs).state ≢ Outside (codes "\u{1b}[27;5;39~")
of_waits_for_nine law bs e =
    let short : opens_report (codes "\u{1b}[27;5;39~") ≡ false → opens_size (codes "\u{1b}[27;5;39~") ≡ false → 10 ≤ 9 =
    subst (λ s. opens_report (waiting_in s) ≡ false → opens_size (waiting_in s) ≡ false → length (waiting_in s) ≤ 9) e (law bs).1 in
    omega (arith, short refl refl)

-- nor does a size with more than its numbers
pub of_waits_for_fifteen : WaitsForFifteen false → (bs : List ℕ) → (run start bs).state ≢ Outside (codes "\u{1b}[8;000000;00000")
of_waits_for_fifteen law bs e = let short : 16 ≤ 15 = subst (λ s. length (waiting_in s) ≤ 15) e (law bs).0 in omega (arith, short)

-- a paste does not save: CTRL-S does not pass on
pub of_clean_byte : PastesAreClean false → (waiting : List ℕ) (after_return : Bool) (b : ℕ) → waiting ++ b ∷ [] ≢ paste_end
    → (scan.step false (Within waiting after_return) b).parts ≢ Passed 0x13 ∷ []
of_clean_byte law waiting after_return b other e = both_ways _ refl (subst AreText e (law.each_byte waiting after_return b other))

-- nor is a key of the table known within it, as Quit
pub of_clean_key : PastesAreClean false → (waiting : List ℕ) (after_return : Bool) (b : ℕ) → waiting ++ b ∷ [] ≢ paste_end
    → (scan.step false (Within waiting after_return) b).parts ≢ Known (Quit ∷ []) ∷ []
of_clean_key law waiting after_return b other e = both_ways _ refl (subst AreText e (law.each_byte waiting after_return b other))

-- its last byte gives PasteEnd
pub of_clean_last : PastesAreClean false → (after_return : Bool)
    → scan.step false (Within (codes "\u{1b}[201") after_return) 0x7E ≡ step_to start (Known (PasteEnd ∷ []) ∷ [])
of_clean_last law after_return = law.last_byte (codes "\u{1b}[201") after_return 0x7E refl

-- a mark that is incomplete at the input's end passes on without its ESC
pub of_clean_end : PastesAreClean false → (waiting : List ℕ) (after_return : Bool) → at_end (Within waiting after_return) ≢ passed (codes "\u{1b}[20")
of_clean_end law waiting after_return e = both_ways _ refl (subst AreText e (law.input_ends waiting after_return))

pub of_clean_text : PastesAreClean false → (text : List ℕ) → pasted text ≢ codes "a\u{11}"
of_clean_text law text e = both_ways _ refl (subst IsText e (law.whole text))

-- the row of a sequence, and of a byte
abbrev row_by : List ℕ → Row
row_by bs = unwrap_or (row_of false bs) (record { sequence = []; selects = false; key = ErasePoint })

abbrev row_at : ℕ → Row
row_at b = row_by (b ∷ [])

-- Up
pub of_rows_are_known : GivesRow false (row_by (codes "\u{1b}[A")) → (bs : List ℕ) → (run start bs).state ≡ start
    → run start (bs ++ codes "\u{1b}[A") ≡ step_to start (scanned bs ++ Known (LineUp ∷ []) ∷ [])
of_rows_are_known law bs e = law bs [] e

-- the first row of all, whatever waits but an ESC: Backspace
pub of_first_row : AllByRecursion (GivesRow false) (rows false) → (bs : List ℕ) → (run start bs).state ≡ Outside (codes "\u{1b}[1;5")
    → run start (bs ++ 0x08 ∷ []) ≡ step_to start (scanned bs ++ Known (ErasePoint ∷ []) ∷ [])
of_first_row law bs e = law.0 bs (codes "\u{1b}[1;5") e

-- an ESC that waits belongs to DELETE
pub of_longer_rows : GivesRow false (row_at 0x7F) → (bs : List ℕ) → (run start bs).state ≡ Outside (0x1B ∷ [])
    → run start (bs ++ 0x7F ∷ []) ≡ step_to start ((run start bs).parts ++ Known (EraseWord ∷ []) ∷ [])
of_longer_rows law bs e = law bs (0x1B ∷ []) e ∙ ap (λ xs. step_to start (xs ++ Known (EraseWord ∷ []) ∷ [])) (append-nil (run start bs).parts)

-- of two that wait, the second
pub of_second_escapes : GivesRow false (row_at 0x7F) → (bs : List ℕ) → (run start bs).state ≡ Outside (0x1B ∷ 0x1B ∷ [])
    → run start (bs ++ 0x7F ∷ []) ≡ step_to start (((run start bs).parts ++ Passed 0x1B ∷ []) ++ Known (EraseWord ∷ []) ∷ [])
of_second_escapes law bs e = law bs (0x1B ∷ 0x1B ∷ []) e

-- input without ESC and the control characters of the table
pub of_others_pass : OthersPass false → (bs : List ℕ) → list_all (begins_none sequences) bs ≡ true → list_all no_escape bs ≡ true → scanned bs ≡ passed bs
of_others_pass law bs n m = law bs (no_sequence sequences bs refl n) (no_report bs m) (no_size bs m)

-- a letter, CTRL-Q, CTRL-S and a line feed
pub of_others_pass_text : OthersPass false → PassedAreDecoded → keys (codes "a\u{11}\u{13}\n") ≡ Insert 0x61 ∷ Quit ∷ Save ∷ Insert 0x0A ∷ []
of_others_pass_text law decoded =
    ap (λ parts. (read [] parts).keys) (of_others_pass law (codes "a\u{11}\u{13}\n") refl refl) ∙ decoded (codes "a\u{11}\u{13}\n")

pub of_rows_add_keys : AddsKeys false (row_by (codes "\u{1b}[A")) → (bs : List ℕ) → (run start bs).state ≡ start
    → keys (bs ++ codes "\u{1b}[A") ≡ keys bs ++ LineUp ∷ []
of_rows_add_keys law bs e = law bs [] e

-- Shift and Left, of rxvt
pub of_rows_add_two : AddsKeys false (row_by (codes "\u{1b}[d")) → (bs : List ℕ) → (run start bs).state ≡ start
    → keys (bs ++ codes "\u{1b}[d") ≡ keys bs ++ Select ∷ Left ∷ []
of_rows_add_two law bs e = law bs [] e

-- DELETE alone, and behind an ESC
pub of_rows_add_point : AddsKeys false (row_at 0x7F) → (bs : List ℕ) → (run start bs).state ≡ start → keys (bs ++ 0x7F ∷ []) ≡ keys bs ++ ErasePoint ∷ []
of_rows_add_point law bs e = law bs [] e

pub of_rows_add_word : AddsKeys false (row_at 0x7F) → (bs : List ℕ) → (run start bs).state ≡ Outside (0x1B ∷ [])
    → keys (bs ++ 0x7F ∷ []) ≡ keys bs ++ EraseWord ∷ []
of_rows_add_word law bs e = law bs (0x1B ∷ []) e

-- a press with Shift, which selects, and a button that is let go
pub of_reports_add_keys : AddsReportKeys false → (bs : List ℕ) → (run start bs).state ≡ start
    → keys (bs ++ codes "\u{1b}[<4;3;2M") ≡ keys bs ++ Select ∷ Point 2 3 ∷ []
of_reports_add_keys law bs e = law bs [] (codes "4;3;2M") (record { button = 4; column = 3; row = 2; is_release = false }) e refl

pub of_reports_add_none : AddsReportKeys false → (bs waiting : List ℕ) → (run start bs).state ≡ Outside waiting
    → keys (bs ++ codes "\u{1b}[<0;3;2m") ≡ keys bs ++ []
of_reports_add_none law bs waiting e = law bs waiting (codes "0;3;2m") (record { button = 0; column = 3; row = 2; is_release = true }) e refl

pub of_sizes_add_keys : AddsSizeKeys false → (bs : List ℕ) → (run start bs).state ≡ start
    → keys (bs ++ codes "\u{1b}[8;24;80t") ≡ keys bs ++ Size 24 80 ∷ Fill ∷ []
of_sizes_add_keys law bs e = law bs [] (codes "24") (codes "80") e refl refl

-- a paste with CR LF, CTRL-S and a control character of C1
pub of_pastes_become_text : PastesText false → run start (paste_start ++ (codes "a\r\n\u{13}bÂ\u{85}" ++ paste_end))
    ≡ step_to start (Known (PasteStart ∷ []) ∷ (passed (codes "a\nb") ++ Known (PasteEnd ∷ []) ∷ []))
of_pastes_become_text law = law [] [] (codes "a\r\n\u{13}bÂ\u{85}") refl (no_sequence (exact paste_end ∷ []) (codes "a\r\n\u{13}bÂ\u{85}") refl refl)

-- a, CR LF, NEXT LINE of C1 and a letter of two bytes
pub of_pastes_keep_characters : PastesKeepCharacters → (text : List ℕ) → IsUtf8 text → chars text ≡ 0x61 ∷ 0x0D ∷ 0x0A ∷ 0x85 ∷ 0x5D0 ∷ []
    → chars (pasted text) ≡ 0x61 ∷ 0x0A ∷ 0x5D0 ∷ []
of_pastes_keep_characters law text u e = (law text u).1 ∙ ap kept_characters e

pub of_pastes_insert : PastesInsert false
    → keys (paste_start ++ (codes "a\r\n\u{13}b" ++ paste_end)) ≡ PasteStart ∷ Insert 0x61 ∷ Insert 0x0A ∷ Insert 0x62 ∷ PasteEnd ∷ []
unfolding chars encode
of_pastes_insert law =
    let is = law [] [] (codes "a\r\n\u{13}b") refl (no_sequence (exact paste_end ∷ []) (codes "a\r\n\u{13}b") refl refl) in
    is.0 ∙ ap (λ keys. PasteStart ∷ (keys ++ PasteEnd ∷ [])) (is.2 (0x61 ∷ 0x0A ∷ 0x62 ∷ [], (refl, refl)))

-- a terminal's answer within a half-read item
pub of_strings_give_nothing : StringsGiveNothing
    → (after_all (map Typed (codes "\u{1b}]11;rgb:ffff/0000/0000\u{1b}\\")) (idle_machine false pauses.No (codes "\u{1b}[1;5"))).keys ≡ []
of_strings_give_nothing law =
    law false pauses.No (codes "\u{1b}[1;5") (codes "11;rgb:ffff/0000/0000") (codes "\u{1b}\\") 0x5D refl (record { short = omega arith; no_end = refl }) (inr refl)

-- two events
pub of_events_in_any_pieces : EventsComeInPieces → (es : List Event) (m : Machine) → (after_all (es ++ Notice 1 ∷ []) m).keys
    ≡ (after_all es m).keys ++ (after_all (Notice 1 ∷ []) (after_all es m).machine).keys
of_events_in_any_pieces law es m = ap (λ (z : Moved). z.keys) (law es (Notice 1 ∷ []) m)

pub of_keys_are_read : KeysAreRead → IsRead (Size 24 80)
of_keys_are_read law = (law.are (machine.Size 24 80) (machine.begun false) (law.begins false)).0

-- a typed letter
pub of_frames_are_read : FramesAreRead → decoding (after_frames (record { letter = 0x62; bytes = codes "a" } ∷ []) (machine.begun false)) ≡ record { keys = Insert 0x61 ∷ []; rest = [] }
of_frames_are_read law = law false (record { letter = 0x62; bytes = codes "a" } ∷ [])
