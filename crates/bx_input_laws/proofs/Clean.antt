-- The output within a paste is text.
use Rattle.std.proofs.Common.{◌≡◌, ◌≢◌, ℕ, Bool, true, false, cond, nat_eq, List, [], ◌∷◌, ◌++◌, refl, ap, ◌∙◌, arith}
use Rattle.std.specs.List.{list_all}
use Rattle.std.specs.Str.{bytes_eq}
use Rattle.std.proofs.lemmas.Bool.{and_from, and_parts}
use Rattle.std.proofs.lemmas.Bool.Decides.{nat_tests}
use Rattle.std.proofs.lemmas.List.Folds.{list_all-append}
use Rattle.std.proofs.lemmas.Slice.Eq.{bytes_eq-Decides}
use Rattle.bx_bytes.specs.declared.fate.Fate.{Fate}
use Rattle.bx_bytes.specs.declared.fate.Fate.TheVariants.{Waits, Ends, Breaks}
use Rattle.bx_keys.specs.declared.key.Key.TheVariants.{PasteEnd}
use Rattle.bx_input.specs.Table.{paste_end}
use Rattle.bx_input.specs.Paste.{is_c1, pasted_byte, pasted_after, pasted_part, paste_fate}
use Rattle.bx_input.specs.Scan.{Part, Known, passed, step_to, start, ended_in_paste, paste_step_by, fresh_in_paste}
use Rattle.bx_input_laws.specs.Laws.{is_text_byte, is_text_part, IsText, AreText, PastesAreClean}

byte_clean : (after_return : Bool) (b : ℕ) → IsText (pasted_byte after_return b)
byte_clean after_return b = grind (arith, nat_tests)

joined : (xs ys : List ℕ) → IsText xs → IsText ys → IsText (xs ++ ys)
joined xs ys h g = list_all-append is_text_byte xs ys ∙ and_from (list_all is_text_byte xs) (list_all is_text_byte ys) h g

part_clean : (bs : List ℕ) → IsText (pasted_part bs)
part_clean [] = refl
part_clean (b ∷ bs) = joined (pasted_byte false b) (pasted_part bs) (byte_clean false b) (part_clean bs)

passed_clean : (bs : List ℕ) → IsText bs → AreText (passed bs)
passed_clean [] h = refl
passed_clean (b ∷ bs) h =
    let parts = and_parts (is_text_byte b) (list_all is_text_byte bs) h in
    and_from (is_text_byte b) (list_all is_text_part (passed bs)) parts.0 (passed_clean bs parts.1)

both : (xs ys : List Part) → AreText xs → AreText ys → AreText (xs ++ ys)
both xs ys h g = list_all-append is_text_part xs ys ∙ and_from (list_all is_text_part xs) (list_all is_text_part ys) h g

fresh_clean : (f : Fate) (after_return : Bool) (b : ℕ) → AreText (fresh_in_paste f after_return b).parts
fresh_clean Waits after_return b = refl
fresh_clean Ends after_return b = passed_clean (pasted_byte after_return b) (byte_clean after_return b)
fresh_clean Breaks after_return b = passed_clean (pasted_byte after_return b) (byte_clean after_return b)

ended_clean : (is_end : Bool) → is_end ≢ true → AreText (ended_in_paste is_end).parts
ended_clean true other = absurd (other refl)
ended_clean false other = refl

step_clean : (f : Fate) (waiting : List ℕ) (after_return : Bool) (b : ℕ) → waiting ++ b ∷ [] ≢ paste_end → AreText (paste_step_by f waiting after_return b).parts
step_clean Waits waiting after_return b other = refl
step_clean Ends waiting after_return b other =
    ended_clean (bytes_eq (waiting ++ b ∷ []) paste_end) (λ same. other ((bytes_eq-Decides (waiting ++ b ∷ []) paste_end).0 same))
step_clean Breaks waiting after_return b other =
    both (passed (pasted_part waiting)) (fresh_in_paste (paste_fate (b ∷ [])) after_return b).parts (passed_clean (pasted_part waiting) (part_clean waiting))
    (fresh_clean (paste_fate (b ∷ [])) after_return b)

either_clean : (t : Bool) (xs ys : List ℕ) → IsText xs → IsText ys → IsText (cond t xs ys)
either_clean true xs ys h g = h
either_clean false xs ys h g = g

all_clean : (after_return : Bool) (bs : List ℕ) → IsText (pasted_after after_return bs)
all_clean after_return [] = refl
all_clean after_return (b ∷ []) = byte_clean after_return b
all_clean after_return (b ∷ c ∷ bs) =
    either_clean (is_c1 b c) (pasted_after false bs) (pasted_byte after_return b ++ pasted_after (nat_eq b 0x0D) (c ∷ bs)) (all_clean false bs)
    (joined (pasted_byte after_return b) (pasted_after (nat_eq b 0x0D) (c ∷ bs)) (byte_clean after_return b) (all_clean (nat_eq b 0x0D) (c ∷ bs)))

at_end_byte : (waiting : List ℕ) (after_return : Bool) (b : ℕ) → waiting ++ b ∷ [] ≡ paste_end
    → paste_step_by (paste_fate (waiting ++ b ∷ [])) waiting after_return b ≡ step_to start (Known (PasteEnd ∷ []) ∷ [])
at_end_byte waiting after_return b same =
    ap (λ read. paste_step_by (paste_fate read) waiting after_return b) same ∙ ap (λ read. ended_in_paste (bytes_eq read paste_end)) same

pub pastes_clean : (by_delete : Bool) → PastesAreClean by_delete
pastes_clean by_delete = record {
  each_byte = λ waiting after_return b other. step_clean (paste_fate (waiting ++ b ∷ [])) waiting after_return b other;
  last_byte = at_end_byte;
  input_ends = λ waiting after_return. passed_clean (pasted_part waiting) (part_clean waiting);
  whole = λ text. all_clean false text;
}
