-- A frame is written in two writes: its head, and then its bytes.
use Rattle.std.proofs.Common.{◌≡◌, ℕ, min, List, ◌++◌, length, take, Option, Some, refl, ap, sym, ◌∙◌, append_assoc}
use Rattle.std.specs.Io.KnownBytes.{Appends}
use Rattle.std.proofs.KnownBytes.{Appends-trans}
use Rattle.std.proofs.lemmas.List.{take_min}
use Rattle.bx_bytes.specs.Writing.{WritesFront}
use Rattle.bidi_edit.specs.declared.ending.Ending.{Ending}
use Rattle.bidi_edit.specs.declared.ending.Ending.TheVariants as ending
use Rattle.bidi_edit.specs.Ending.{frame, last_word, word_of}

-- the head was not written whole
pub in_head : (head bytes : List ℕ) (old new : Option (List ℕ)) → WritesFront head old new → WritesFront (head ++ bytes) old new
in_head head bytes old new w = (
  w.0,
  w.1 ++ bytes,
  record { parts = ap (λ xs. xs ++ bytes) w.2.parts ∙ append_assoc w.0 w.1 bytes; appends = w.2.appends },
)

-- the head was written, and of the bytes a beginning
pub behind_head : (head bytes : List ℕ) (old mid new : Option (List ℕ)) → Appends old mid head → WritesFront bytes mid new
    → WritesFront (head ++ bytes) old new
behind_head head bytes old mid new first w = (
  head ++ w.0,
  w.1,
  record { parts = ap (λ xs. head ++ xs) w.2.parts ∙ sym (append_assoc head w.0 w.1); appends = Appends-trans old mid new head w.0 first w.2.appends },
)

-- what is too long is cut off
pub cut_is : (bytes text : List ℕ) (count : ℕ) → bytes ≡ text → count ≡ min 2047 (length text) → take count bytes ≡ take 2047 text
cut_is bytes text count same is = ap (take count) same ∙ ap (λ n. take n text) is ∙ take_min 2047 text

no_word_is_cut : (end : Ending) → take 2047 (word_of end) ≡ word_of end
no_word_is_cut ending.Saved = refl
no_word_is_cut ending.Unsaved = refl
no_word_is_cut ending.Dropped = refl
no_word_is_cut ending.Input = refl
no_word_is_cut ending.Output = refl
no_word_is_cut ending.Reads = refl

pub word_told : (told : Option Ending) (end : Ending) (word : List ℕ) → told ≡ Some end → word ≡ word_of end
    → frame 0x65 (take 2047 word) ≡ last_word told
word_told told end word is same = ap (λ bytes. frame 0x65 (take 2047 bytes)) same ∙ ap (frame 0x65) (no_word_is_cut end) ∙ ap last_word (sym is)
