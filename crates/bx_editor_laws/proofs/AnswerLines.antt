-- What is typed and erased in an input line leaves it UTF-8, short enough, and with its cursor at a place.
use Rattle.std.proofs.Common.{◌≡◌, ◌+◌, ◌<◌, ◌≤◌, ◌++◌}
use Rattle.std.proofs.Common.{ℕ, Bool, true, false, nat_lt, List, [], length, take, drop, chars, encode_utf8, IsUtf8, refl, arith, if◌then◌else◌}
use Rattle.std.specs.Char.{IsScalar}
use Rattle.std.proofs.lemmas.Bool.Decides.{nat_tests}
use Rattle.std.proofs.lemmas.Str.{IsUtf8-append, IsUtf8-drop, IsUtf8-encode, IsUtf8-nil, IsUtf8-take}
use Rattle.bx_common.specs.declared.base.Base.TheVariants.{Auto}
use Rattle.bx_document.specs.InputLine.{line_rows}
use Rattle.bx_text.specs.Changes.{IsRange}
use Rattle.bx_text.specs.Edits.{splice}
use Rattle.bx_ucd.specs.Data.{Data}
use Rattle.bx_view.proofs.KeptPlaces.{text-places-kept}
use Rattle.bx_view.proofs.TextPlaces.{place-between}
use Rattle.bx_view.specs.Laws.{MovesKeep}
use Rattle.bx_view.specs.Places.{IsTextPlace}
use Rattle.bx_view.specs.declared.moves.Logical.TheVariants.{Back, Forward}
use Rattle.bx_view.specs.declared.moves.Move.{Move}
use Rattle.bx_view.specs.declared.moves.Move.TheVariants.{Logical, Word}
use Rattle.bx_editor.specs.declared.input_line.Erasure.{Erasure}
use Rattle.bx_editor.specs.declared.input_line.Erasure.TheVariants.{LastCharacter, Unit, WordBack, WordOn}
use Rattle.bx_editor.specs.InputLines.{erased_part, line_edited, line_lengthened, line_moved, line_shortened}
use Rattle.bx_editor.specs.LineState.{LineState}
use Rattle.bx_editor.proofs.LineLength.{fewer, last-range, one-longer}
use Rattle.bx_editor.proofs.StepOrder.{between-back, between-on}

-- a line of at most `limit` characters, with its cursor
pub record IsLine (d : Data) (limit : ℕ) (l : LineState) : Type 0 where
  pub utf8 : IsUtf8 l.text
  pub few : length (chars l.text) ≤ limit
  pub place : IsTextPlace d l.text l.cursor

module _ (d : Data) where
  moves : (text : List ℕ) → IsUtf8 text → MovesKeep d text 500 (line_rows d text) (IsTextPlace d text)
  moves text utf8 = let some : 1 ≤ 500 = omega arith in text-places-kept d Auto 500 some text utf8

  -- a move in it
  pub line-moves : (limit : ℕ) (l : LineState) (m : Move) → IsLine d limit l → IsTextPlace d l.text (line_moved d m l)
  line-moves limit l m is = (moves l.text is.utf8).moved m l.cursor is.place

  spliced-utf8 : (text new : List ℕ) (start stop : ℕ) → IsUtf8 text → IsRange text start stop → IsUtf8 new → IsUtf8 (splice text start stop new)
  spliced-utf8 text new start stop utf8 range valid =
      IsUtf8-append (take start text ++ new) (drop stop text)
      (IsUtf8-append (take start text) new (IsUtf8-take text start utf8 range.start_bounds) valid) (IsUtf8-drop text stop utf8 range.stop_bounds)

  edited : (limit : ℕ) (l : LineState) (start stop : ℕ) (new : List ℕ) → IsUtf8 l.text → IsRange l.text start stop → IsUtf8 new
      → length (chars (splice l.text start stop new)) ≤ limit → IsLine d limit (line_edited d l start stop new)
  edited limit l start stop new utf8 range valid few =
      let after = spliced-utf8 l.text new start stop utf8 range valid in
      record { utf8 = after; few = few; place = (moves (splice l.text start stop new) after).from (start + length new) }

  longer-by : (limit : ℕ) (l : LineState) (c : ℕ) → IsScalar c → IsLine d limit l → (room : Bool) → nat_lt (length (chars l.text)) limit ≡ room
      → IsLine d limit (if room then line_edited d l l.cursor l.cursor (encode_utf8 c) else l)
  longer-by limit l c scalar is false e = is
  longer-by limit l c scalar is true e =
      let bounds = place-between d l.text l.cursor is.utf8 is.place in
      let range : IsRange l.text l.cursor l.cursor = record { start_bounds = bounds; stop_bounds = bounds; in_order = omega arith } in
      let valid = IsUtf8-encode c scalar in
      let less : length (chars l.text) < limit = grind (arith, nat_tests, e) in
      edited limit l l.cursor l.cursor (encode_utf8 c) is.utf8 range valid (omega (arith, less, one-longer l.text l.cursor c is.utf8 range valid))

  -- a character goes in
  pub line-longer : (limit : ℕ) (l : LineState) (c : ℕ) → IsScalar c → IsLine d limit l → IsLine d limit (line_lengthened d limit l c)
  line-longer limit l c scalar is = longer-by limit l c scalar is (nat_lt (length (chars l.text)) limit) refl

  erased-range : (limit : ℕ) (l : LineState) (how : Erasure) → IsLine d limit l → IsRange l.text (erased_part d how l).0 (erased_part d how l).1
  erased-range limit l LastCharacter is =
      last-range l.text l.cursor (erased_part d LastCharacter l).0 is.utf8 (place-between d l.text l.cursor is.utf8 is.place) refl
  erased-range limit l Unit is =
      let here = place-between d l.text l.cursor is.utf8 is.place in
      let stop = (erased_part d Unit l).1 in
      let there = place-between d l.text stop is.utf8 ((moves l.text is.utf8).logical Forward l.cursor is.place) in
      between-on d (line_rows d l.text) 500 (Logical Forward) l.text l.text l.cursor stop refl refl here there refl
  erased-range limit l WordBack is =
      let here = place-between d l.text l.cursor is.utf8 is.place in
      let start = (erased_part d WordBack l).0 in
      let there = place-between d l.text start is.utf8 ((moves l.text is.utf8).word Back l.cursor is.place) in
      between-back d (line_rows d l.text) 500 (Word Back) l.text l.text start l.cursor refl refl there here refl
  erased-range limit l WordOn is =
      let here = place-between d l.text l.cursor is.utf8 is.place in
      let stop = (erased_part d WordOn l).1 in
      let there = place-between d l.text stop is.utf8 ((moves l.text is.utf8).word Forward l.cursor is.place) in
      between-on d (line_rows d l.text) 500 (Word Forward) l.text l.text l.cursor stop refl refl here there refl

  -- an erasure takes its part
  pub line-shorter : (limit : ℕ) (l : LineState) (how : Erasure) → IsLine d limit l → IsLine d limit (line_shortened d how l)
  line-shorter limit l how is =
      let part = erased_part d how l in
      let range = erased-range limit l how is in
      edited limit l part.0 part.1 [] is.utf8 range IsUtf8-nil (omega (arith, is.few, fewer l.text part.0 part.1 is.utf8 range))
