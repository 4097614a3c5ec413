-- Worked examples: places after moves by words and to the text's ends.
use Rattle.std.proofs.Common.{◌≡◌, ℕ, false, List, [], ◌∷◌, ◌++◌, None, refl, replicate}
use Rattle.std.specs.Prelude.{codes}
use Rattle.std.specs.Fmt.{digits}
use Rattle.unicode_segmentation.proofs.Computing.{unicode_segmentation}
use Rattle.unicode_width.proofs.Computing.{unicode_width}
use Rattle.bx_keys.specs.declared.key.Key.{Key}
use Rattle.bx_keys.specs.declared.key.Key.TheVariants.{Insert, Mark, Copy, Quit, Direction, WordLeft, WordRight, TextStart, TextEnd}
use Rattle.bx_editor.proofs.Computed.{start, after, shown, ascii_columns}

-- the place after keys in a window of a single row
abbrev place : List ℕ → List Key → ℕ
place text keys = (after (start text 1 20) keys).place

-- two Hebrew words
abbrev hebrew : List ℕ
hebrew = (0x5d0 ∷ 0x5d1 ∷ []) ++ codes " " ++ (0x5d2 ∷ [])

pub word_right_goes_to_the_next_word : place (codes "ab, cd 12") (WordRight ∷ WordRight ∷ []) ≡ 7
unfolding unicode_segmentation unicode_width digits
word_right_goes_to_the_next_word = refl

pub word_right_stays_at_the_end : place (codes "ab, cd 12") (replicate 4 WordRight) ≡ 9
unfolding unicode_segmentation unicode_width digits
word_right_stays_at_the_end = refl

pub word_left_goes_back : place (codes "ab, cd 12") (TextEnd ∷ WordLeft ∷ WordLeft ∷ []) ≡ 4
unfolding unicode_segmentation unicode_width digits
word_left_goes_back = refl

pub word_left_goes_on_in_hebrew : place hebrew (WordLeft ∷ []) ≡ 5
unfolding unicode_segmentation unicode_width digits
word_left_goes_on_in_hebrew = refl

pub word_right_goes_back_in_hebrew : place hebrew (TextEnd ∷ WordRight ∷ []) ≡ 5
unfolding unicode_segmentation unicode_width digits
word_right_goes_back_in_hebrew = refl

-- the paragraph's level decides, under the editor's direction
pub word_right_goes_on_under_ltr : place hebrew (Direction ∷ WordRight ∷ []) ≡ 5
unfolding unicode_segmentation unicode_width digits
word_right_goes_on_under_ltr = refl

pub a_word_is_copied : (after (start (codes "ab cd") 2 20) (WordRight ∷ Mark ∷ TextEnd ∷ Copy ∷ [])).held ≡ codes "cd"
unfolding unicode_segmentation unicode_width digits
a_word_is_copied = refl

pub a_word_move_between_two_quits_counts : (after (start (codes "ab") 2 30) (Insert 0x78 ∷ Quit ∷ WordRight ∷ Quit ∷ [])).ended ≡ false
unfolding unicode_segmentation unicode_width digits
a_word_move_between_two_quits_counts = refl

pub a_word_move_clears_the_message : (after (start (codes "ab") 2 30) (Mark ∷ WordRight ∷ [])).message ≡ None
unfolding unicode_segmentation unicode_width digits
a_word_move_clears_the_message = refl

-- the top follows the cursor to both ends
pub the_end_of_three_lines : shown (after (start (codes "1\n2\n3") 3 4) (TextEnd ∷ [])) 0
    ≡ record { height = 3; width = 4; columns = ascii_columns (codes "2   3   - 3:"); row = 1; column = 1 }
unfolding unicode_segmentation unicode_width digits
the_end_of_three_lines = refl

pub the_start_of_three_lines : shown (after (start (codes "1\n2\n3") 3 4) (TextEnd ∷ TextStart ∷ [])) 2
    ≡ record { height = 3; width = 4; columns = ascii_columns (codes "1   2   - 1:"); row = 0; column = 0 }
unfolding unicode_segmentation unicode_width digits
the_start_of_three_lines = refl
