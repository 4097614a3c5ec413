-- Worked examples, each from a law of lines alone.
use Rattle.std.proofs.Common.{◌≡◌, ◌+◌, ◌<◌, ◌≤◌, [], ◌∷◌, length, refl, arith}
use Rattle.std.specs.Prelude.{codes}
use Rattle.std.specs.Fmt.{digits}
use Rattle.std.proofs.lemmas.List.Elements.{All-cons, All-nil}
use Rattle.unicode_segmentation.proofs.Computing.{unicode_segmentation}
use Rattle.unicode_width.proofs.Computing.{unicode_width}
use Rattle.bx_common.specs.Characters.{largest_text}
use Rattle.bx_keys.specs.declared.key.Key.TheVariants.{Copy, Down, Forward, LineDown, Put, Select}
use Rattle.bx_paragraph.specs.BodyRows.{body_rows}
use Rattle.bx_text.specs.index.Paragraphs.{Paragraph}
use Rattle.bx_editor.specs.Editor.{Editor}
use Rattle.bx_editor_laws.specs.LineLaws.{CopiedLineGoesAbove, HoldsLine, IsUnwrapped, LineGoesAbove, ShiftDownTakesLines}
use Rattle.bx_editor.proofs.Computed.{tables, start, after}

-- ---- Shift with Down

abbrev three_lines : Editor
three_lines = start (codes "ab\ncd\nef") 4 20

unwrapped : IsUnwrapped tables three_lines
unfolding unicode_segmentation unicode_width digits
unwrapped =
    let ab : Paragraph = record { body = codes "ab"; separator = codes "\n" } in
    let cd : Paragraph = record { body = codes "cd"; separator = codes "\n" } in
    let ef : Paragraph = record { body = codes "ef"; separator = [] } in
    let IsOne = λ (p : Paragraph). length (body_rows tables three_lines.base 20 p.body) ≡ 1 in
    All-cons IsOne ab (cd ∷ ef ∷ []) refl (All-cons IsOne cd (ef ∷ []) refl (All-cons IsOne ef [] refl (All-nil IsOne)))

pub two_lines_are_taken : ShiftDownTakesLines → (after three_lines (Select ∷ LineDown ∷ Select ∷ LineDown ∷ Copy ∷ [])).held ≡ codes "ab\ncd\n"
unfolding unicode_segmentation unicode_width digits
two_lines_are_taken law =
    let some : 0 < 2 = omega arith in
    let below : 0 + 2 < 3 = omega arith in
    ((law tables three_lines 2 (record {
      rows_fit = record { text = (codes "ab\ncd\nef", (refl, refl)); columns = refl };
      unsought = refl;
      settled = refl;
      unasked = refl;
      place = (0, omega arith, refl);
    }) refl refl some).lines 0 unwrapped refl below).copies

-- ---- a line put

-- the first line is held, and the cursor is before the last letter of the second
abbrev holding : Editor
holding = after (start (codes "ab\ncd") 4 20) (Copy ∷ Down ∷ Forward ∷ [])

holds : HoldsLine tables holding
unfolding unicode_segmentation unicode_width digits
holds = record {
  plain = record { text = (codes "ab\ncd", (refl, refl)); unasked = refl; unsought = refl; settled = refl; writes = refl; unselected = refl };
  rows_fit = record { text = (codes "ab\ncd", (refl, refl)); columns = refl };
  whole = refl;
  some = omega arith;
  utf8 = (codes "ab\n", (refl, refl));
  place = (4, omega arith, refl);
}

pub the_line_goes_above_the_second : LineGoesAbove → (after holding (Put ∷ [])).content.text ≡ codes "ab\nab\ncd"
unfolding unicode_segmentation unicode_width digits
the_line_goes_above_the_second law = let few : 5 + 3 ≤ largest_text = omega arith in ((law tables holding holds).fits few).text_is

pub the_cursor_is_before_the_same_letter : LineGoesAbove → (after holding (Put ∷ [])).place ≡ 7
unfolding unicode_segmentation unicode_width digits
the_cursor_is_before_the_same_letter law =
    let few : 5 + 3 ≤ largest_text = omega arith in
    ((law tables holding holds).fits few).same_place (record { ends = refl; apart = refl })

-- ---- a line copied and put

-- before the last letter of the last line, which has no line end
abbrev on_the_last : Editor
on_the_last = after (start (codes "ab\ncd") 4 20) (Down ∷ Forward ∷ [])

pub the_last_line_gets_the_texts_line_end : CopiedLineGoesAbove → let new = after on_the_last (Copy ∷ Put ∷ []) in
    (new.content.text ≡ codes "ab\ncd\ncd") × (new.place ≡ 7)
unfolding unicode_segmentation unicode_width digits
the_last_line_gets_the_texts_line_end law =
    let room : 5 + 3 ≤ largest_text = omega arith in
    let twice = law tables on_the_last (record {
      plain = record { text = (codes "ab\ncd", (refl, refl)); unasked = refl; unsought = refl; settled = refl; writes = refl; unselected = refl };
      rows_fit = record { text = (codes "ab\ncd", (refl, refl)); columns = refl };
      place = (4, omega arith, refl);
      no_region = refl;
      some = refl;
      lf_ends = refl;
      room = room;
    }) in (twice.text_is, twice.place_is)
