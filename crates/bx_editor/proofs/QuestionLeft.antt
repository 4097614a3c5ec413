-- A question that ends behind what answers it ends as one that ends before.
use Rattle.std.proofs.Common.{◌≡◌, ℕ, Bool, true, false, Option, Some, None, refl}
use Rattle.std.specs.Prelude.{encode_utf8, if◌then◌else◌}
use Rattle.bx_editor.specs.undo_groups.Groups.{after_insertion, kind_of}
use Rattle.bx_text.specs.Edits.{fits, fits_both}
use Rattle.bx_ucd.specs.Data.{Data}
use Rattle.bx_editor.specs.declared.message.Message.TheVariants.{MoreThanOneLine, TextFull}
use Rattle.bx_editor.specs.Asking.{after_code, after_named, with_character, without_prompt, after_wrapping, spans_lines, with_wrap}
use Rattle.bx_editor.specs.Editor.{Editor, with_insertion, with_typing}
use Rattle.bx_editor.specs.Region.{is_empty, region}

either : (b : Bool) (x y new other : Editor) → new ≡ without_prompt x → other ≡ without_prompt y → (if b then new else other) ≡ without_prompt (if b then x else y)
either true x y new other h k = h
either false x y new other h k = k

pub character-left : (d : Data) (e : Editor) (c : ℕ) → with_character d (without_prompt e) c ≡ without_prompt (with_character d e c)
character-left d e c =
    let put : Editor → Editor = λ x. with_typing (with_insertion d x (encode_utf8 c) false) (after_insertion (kind_of (d.class c))) in
    let full : Editor → Editor = λ x. record x { message = Some TextFull } in
    either (fits e.content.text e.place e.place (encode_utf8 c)) (put e) (full e) (put (without_prompt e)) (full (without_prompt e)) refl refl

wrapping-left : (d : Data) (e : Editor) (c closer : ℕ) → after_wrapping d (without_prompt e) c closer ≡ without_prompt (after_wrapping d e c closer)
wrapping-left d e c closer =
    let put : Editor → Editor = λ x. with_wrap d x (encode_utf8 c) (encode_utf8 closer) in
    let full : Editor → Editor = λ x. record x { message = Some TextFull } in
    let lines : Editor → Editor = λ x. record x { message = Some MoreThanOneLine } in
    let fit : Bool = fits_both e.content.text (encode_utf8 c) (encode_utf8 closer) in
    either (spans_lines d e) (lines e) (if fit then put e else full e) (lines (without_prompt e)) (if fit then put (without_prompt e) else full (without_prompt e)) refl
    (either fit (put e) (full e) (put (without_prompt e)) (full (without_prompt e)) refl refl)

pub named-left : (d : Data) (e : Editor) (c : ℕ) (closer : Option ℕ) → after_named d (without_prompt e) c closer ≡ without_prompt (after_named d e c closer)
named-left d e c None = character-left d e c
named-left d e c (Some closer) =
    either (is_empty (region e)) (with_character d e c) (after_wrapping d e c closer) (with_character d (without_prompt e) c)
    (after_wrapping d (without_prompt e) c closer) (character-left d e c) (wrapping-left d e c closer)

pub code-left : (d : Data) (e : Editor) (coded : Option ℕ) → after_code d (without_prompt e) coded ≡ without_prompt (after_code d e coded)
code-left d e None = refl
code-left d e (Some c) = character-left d e c
