-- Worked examples of frames: what the session reads for the bytes of the pipe.
use Rattle.std.proofs.Common.{◌≡◌, ℕ, ◌/◌, ◌%◌, true, false, replicate, List, [], ◌∷◌, ◌++◌, length, map, refl}
use Rattle.std.specs.Prelude.{codes}
use Rattle.std.specs.Fmt.{digits}
use Rattle.std.specs.Str.{chars}
use lib.Utf8.{encode}
use Rattle.bx_input.specs.Strings.{is_short_string}
use Rattle.bx_input.specs.KeyBytes.{key_bytes}
use Rattle.bx_input.specs.Machine.{Notice, Size, after, begun}
use Rattle.bx_input.specs.Heard.{heard}
use Rattle.bx_keys.specs.Keys.{decoding}
use Rattle.bx_keys.specs.declared.key.Key.TheVariants as keys
use Rattle.bx_keys.specs.declared.notice.Notice.TheVariants.{NoSpace, FolderGone, NotPermitted, ReadOnly, Unkept, KeptAgain, Recovered, RecoveredAside, InPlace}

-- the Hebrew letter Alef has two bytes; a size that arrives between them comes before the letter, and cuts it not
pub a_size_cuts_no_letter : heard (codes "b\0\u{1}" ++ 0xD7 ∷ (codes "z\0\u{4}\0\u{18}\0P" ++ (codes "b\0\u{1}" ++ 0x90 ∷ []))) (begun false)
    ≡ codes "\u{1b}[8;24;80t\u{1b}[102~" ++ 0xD7 ∷ 0x90 ∷ []
unfolding chars digits encode
a_size_cuts_no_letter = refl

-- an Escape that waits alone becomes Cancel when time goes by
pub an_escape_alone_is_a_key : heard (codes "b\0\u{2}a\u{1b}i\0\0b\0\u{2}[D") (begun false) ≡ codes "a\u{1b}[93~[D"
unfolding chars digits encode
an_escape_alone_is_a_key = refl

-- in a paste, an Escape with a pause before it and one behind it ends the paste
pub an_escape_alone_ends_a_paste : heard (codes "b\0\u{7}\u{1b}[200~ai\0\0b\0\u{1}\u{1b}i\0\0b\0\u{2}b\r") (begun false) ≡ codes "\u{1b}[90~a\u{1b}[91~b\u{1b}[95~"
unfolding chars digits encode
an_escape_alone_ends_a_paste = refl

-- without a paste, and in a paste where one more Escape comes alone behind its end, it is Cancel
pub pauses_without_a_paste : heard (codes "i\0\0b\0\u{1}\u{1b}i\0\0") (begun false) ≡ codes "\u{1b}[93~"
unfolding chars digits encode
pauses_without_a_paste = refl

pub cancel_behind_the_end :
    heard (codes "b\0\u{6}\u{1b}[200~i\0\0b\0\u{1}\u{1b}i\0\0b\0\u{1}\u{1b}i\0\0") (begun false) ≡ codes "\u{1b}[90~\u{1b}[91~\u{1b}[93~"
unfolding chars digits encode
cancel_behind_the_end = refl

pub only_a_pause_before : heard (codes "b\0\u{7}\u{1b}[200~ai\0\0b\0\u{8}\u{1b}b\u{1b}[201~") (begun false) ≡ codes "\u{1b}[90~ab\u{1b}[91~"
unfolding chars digits encode
only_a_pause_before = refl

pub only_a_pause_behind : heard (codes "b\0\u{8}\u{1b}[200~a\u{1b}i\0\0b\0\u{7}b\u{1b}[201~") (begun false) ≡ codes "\u{1b}[90~ab\u{1b}[91~"
unfolding chars digits encode
only_a_pause_behind = refl

pub no_escape_alone : heard (codes "b\0\u{7}\u{1b}[200~ai\0\0b\0\u{3}\u{1b}[Ai\0\0b\0\u{6}\u{1b}[201~") (begun false) ≡ codes "\u{1b}[90~a[A\u{1b}[91~"
unfolding chars digits encode
no_escape_alone = refl

-- a pause before the paste does not count
pub a_pause_before_the_paste : heard (codes "i\0\0b\0\u{7}\u{1b}[200~\u{1b}i\0\0b\0\u{7}b\u{1b}[201~") (begun false) ≡ codes "\u{1b}[90~b\u{1b}[91~"
unfolding chars digits encode
a_pause_before_the_paste = refl

pub a_pause_in_a_letter : heard (codes "b\0\u{7}\u{1b}[200~" ++ 0xD7 ∷ (codes "i\0\0b\0\u{1}" ++ 0x90 ∷ [])) (begun false) ≡ codes "\u{1b}[90~" ++ 0xD7 ∷ 0x90 ∷ []
unfolding chars digits encode
a_pause_in_a_letter = refl

-- ---- control strings give nothing

abbrev typed : List ℕ → List ℕ
typed bs = 0x62 ∷ length bs / 256 ∷ length bs % 256 ∷ bs

abbrev heard_typed : List ℕ → List ℕ
heard_typed bs = heard (typed bs) (begun false)

pub an_answer : heard_typed (codes "x\u{1b}]11;rgb:ffff/0000/0000\u{7}y") ≡ codes "xy"
unfolding chars digits encode
an_answer = refl

pub all_kinds : heard_typed (codes "x\u{1b}Pa\u{1b}\\\u{1b}X\u{7}\u{1b}^a\r\u{3}\u{1b}\\\u{1b}_\u{1b}[Ab\u{7}y") ≡ codes "xy"
unfolding chars digits encode
all_kinds = refl

pub keys_in_a_string : heard_typed (codes "\u{1b}]a\u{1b}[Ab\r\n\u{3}\u{1b}\\y") ≡ codes "y"
unfolding chars digits encode
keys_in_a_string = refl

-- the end of the input breaks one off, and a pause does
pub a_string_without_an_end : heard_typed (codes "\u{1b}]a") ≡ codes "a"
unfolding chars digits encode
a_string_without_an_end = refl

pub a_pause_in_a_string : heard (typed (codes "\u{1b}]a") ++ (codes "i\0\0" ++ typed (codes "b\u{7}"))) (begun false) ≡ codes "ab\u{1b}[84~"
unfolding chars digits encode
a_pause_in_a_string = refl

pub a_pause_behind_its_first_bytes : heard (typed (codes "\u{1b}P") ++ (codes "i\0\0" ++ typed (codes "\u{1b}[A"))) (begun false) ≡ codes "\u{1b}[96~"
unfolding chars digits encode
a_pause_behind_its_first_bytes = refl

pub pauses_around_a_string : heard (codes "i\0\0" ++ (typed (codes "\u{1b}]a\u{7}") ++ (codes "i\0\0" ++ typed (codes "b")))) (begun false) ≡ codes "b"
unfolding chars digits encode
pauses_around_a_string = refl

-- it ends a sequence that stands open
pub a_string_behind_broken : heard_typed (codes "\u{1b}[1;5\u{1b}]a\u{7}A") ≡ codes "A"
unfolding chars digits encode
a_string_behind_broken = refl

pub a_string_behind_an_escape : heard_typed (codes "\u{1b}\u{1b}]a\u{7}A") ≡ codes "A"
unfolding chars digits encode
a_string_behind_an_escape = refl

-- in a paste it is text
pub a_string_in_a_paste : heard_typed (codes "\u{1b}[200~\u{1b}]a\u{7}b\u{1b}[201~") ≡ codes "\u{1b}[90~]ab\u{1b}[91~"
unfolding chars digits encode
a_string_in_a_paste = refl

-- 4,096 bytes and no more, behind the first two
pub the_longest_string : is_short_string (0x5D ∷ replicate 4096 0x61) ≡ true
the_longest_string = refl

pub a_longer_one : is_short_string (0x5D ∷ replicate 4097 0x61) ≡ false
a_longer_one = refl

-- ---- notices

-- a notice waits for the end of a paste; until then it only wakes the session
pub a_notice_comes_behind_a_paste : heard (codes "b\0\u{7}\u{1b}[200~an\0\u{1}\u{3}b\0\u{7}b\u{1b}[201~") (begun false)
    ≡ codes "\u{1b}[90~a\u{1b}[>0~b\u{1b}[91~\u{1b}[>3~"
unfolding chars digits encode
a_notice_comes_behind_a_paste = refl

-- a frame that the end cuts off says nothing
pub a_broken_frame_says_nothing : heard (codes "b\0\u{1}xb\0\u{2}y") (begun false) ≡ codes "x"
unfolding chars digits encode
a_broken_frame_says_nothing = refl

-- one without a key wakes the session
pub a_notice_without_a_key : heard (codes "n\0\u{1}\0") (begun false) ≡ codes "\u{1b}[>0~"
unfolding chars digits encode
a_notice_without_a_key = refl

pub a_size_is_a_key : (after (Size 24 80) (begun false)).keys ≡ keys.Size 24 80 ∷ keys.Fill ∷ []
a_size_is_a_key = refl

-- a window of no row is none
pub no_size_is_no_key : (after (Size 0 80) (begun false)).keys ≡ keys.Fill ∷ []
no_size_is_no_key = refl

pub notices_are_keys : map (λ number. (after (Notice number) (begun false)).keys) (1 ∷ 2 ∷ 3 ∷ 4 ∷ 5 ∷ 6 ∷ 7 ∷ 8 ∷ 9 ∷ [])
    ≡ map (λ notice. keys.Notice notice ∷ []) (NoSpace ∷ FolderGone ∷ NotPermitted ∷ ReadOnly ∷ Unkept ∷ KeptAgain ∷ Recovered ∷ RecoveredAside ∷ InPlace ∷ [])
notices_are_keys = refl

-- the session's keys of the bytes of some
pub bytes_are_keys : decoding (key_bytes (keys.Size 24 80) ++ (key_bytes (keys.Point 500 1) ++ key_bytes keys.NewLine))
    ≡ record { keys = keys.Size 24 80 ∷ keys.Point 500 1 ∷ keys.NewLine ∷ []; rest = [] }
unfolding chars digits encode
bytes_are_keys = refl
