-- A line that is copied and put stands twice, one under the other.
use Rattle.std.proofs.Common.{◌≡◌, ◌∙◌, ℕ, ◌-◌, ◌<◌, ◌≤◌, Bool, true, false, List, [], ◌∷◌, length, drop, Some, None, IsUtf8, refl, sym, ap, subst, arith, if◌then◌else◌}
use Rattle.std.specs.Prelude.{◌==◌, ◌&&◌, not}
use Rattle.std.proofs.lemmas.Bool.Decides.{nat_tests}
use Rattle.bx_keys.specs.declared.key.Key.TheVariants.{Copy, Put}
use Rattle.bx_ucd.specs.Data.{Data}
use Rattle.bx_editor.specs.declared.message.Message.TheVariants.{Copied, LineCopied, NothingToCopy}
use Rattle.bx_editor.specs.Editor.{Editor, cleared}
use Rattle.bx_editor.specs.Functions.{after_keys}
use Rattle.bx_editor.specs.Keys.{after_key}
use Rattle.bx_editor.specs.Region.{bytes_in, held_message, is_empty, is_soft, line, region, with_held, without_hard_mark, without_mark}
use Rattle.bx_editor_laws.specs.LineLaws.{CopiedLineGoesAbove, CopiesLine, EndsLine, HoldsLine, PutsLineTwice}
use Rattle.bx_editor_laws.proofs.KeyEnds.{and-false, behind, free-done}
use Rattle.bx_editor_laws.proofs.LineAbove.{line-goes-above}
use Rattle.bx_editor_laws.proofs.WholeLine.{line-ends-itself, line-order, own-utf8-is, stop-within}
use Rattle.bx_document.proofs.InsertedBefore.{part-length}
use Rattle.bx_editor.specs.Putting.{as_line}

no-selection : (soft empty : Bool) → empty ≡ true → (soft && not empty) ≡ false
no-selection soft empty is = ap (λ b. soft && not b) is ∙ and-false soft

apart-some : (a b n : ℕ) → (a == b) ≡ false → a ≤ b → n ≡ b - a → 0 < n
apart-some a b n other order is = go n is (grind (arith, nat_tests))
  where
    go : (m : ℕ) → m ≡ b - a → 0 < b - a → 0 < m
    go m same more = omega (arith, same, more)

module _ (d : Data) (e : Editor) (copies : CopiesLine d e) where
  abbrev text : List ℕ
  text = e.content.text

  abbrev start : ℕ
  start = (line d e).0

  abbrev stop : ℕ
  stop = (line d e).1

  abbrev own : List ℕ
  own = bytes_in e (line d e)

  utf8 : IsUtf8 text
  utf8 = copies.rows_fit.text

  -- the editor behind Copy, by whether its mark stays
  abbrev was : Editor
  was = cleared e

  abbrev copied-from : Editor → Editor
  copied-from x = behind (record x { held = own; whole_line = true; message = held_message e.clipboard own (Some LineCopied) })

  abbrev copied : Bool → Editor
  copied soft = copied-from (if soft then was else without_mark was)

  copied-is : after_key d None e Copy ≡ copied (is_soft e.soft)
  copied-is =
      let nothing : Editor = record (without_hard_mark was) { message = Some NothingToCopy } in
      let whole = with_held was own true LineCopied in
      free-done d None e Copy copies.plain.settled refl refl copies.plain.unasked copies.plain.unsought copies.plain.writes
      ∙ ap (λ b. behind (if b then (if is_empty (line d e) then nothing else whole) else with_held was (bytes_in e (region e)) false Copied)) copies.no_region
      ∙ ap (λ b. behind (if b then nothing else whole)) copies.some

  in-order : start ≤ stop
  in-order = line-order d text utf8 e.place

  stop-inside : stop ≤ length text
  stop-inside = stop-within d text utf8 e.place

  own-length : length own ≡ stop - start
  own-length = part-length text start stop in-order stop-inside

  own-some : 0 < length own
  own-some = apart-some start stop (length own) copies.some in-order own-length

  own-utf8 : IsUtf8 own
  own-utf8 = own-utf8-is d text utf8 e.place

  holds : (soft : Bool) → HoldsLine d (copied soft)
  holds true = record {
    plain = record {
      text = utf8;
      unasked = copies.plain.unasked;
      unsought = copies.plain.unsought;
      settled = copies.plain.settled;
      writes = copies.plain.writes;
      unselected = no-selection _ (is_empty (region e)) copies.no_region;
    };
    rows_fit = record { text = utf8; columns = copies.rows_fit.columns };
    whole = refl;
    some = own-some;
    utf8 = own-utf8;
    place = copies.place;
  }
  holds false = record {
    plain = record {
      text = utf8;
      unasked = copies.plain.unasked;
      unsought = copies.plain.unsought;
      settled = copies.plain.settled;
      writes = copies.plain.writes;
      unselected = refl;
    };
    rows_fit = record { text = utf8; columns = copies.rows_fit.columns };
    whole = refl;
    some = own-some;
    utf8 = own-utf8;
    place = copies.place;
  }

  ends : EndsLine d (as_line d e own) (drop start text)
  ends = line-ends-itself d text utf8 e.place copies.lf_ends own-utf8 own-some

  twice : (soft : Bool) → PutsLineTwice d e (after_key d None (copied soft) Put)
  twice true =
      let puts = (line-goes-above d (copied true) (holds true)).fits copies.room in
      record { text_is = puts.text_is; place_is = puts.same_place ends; same_character = puts.same_character ends }
  twice false =
      let puts = (line-goes-above d (copied false) (holds false)).fits copies.room in
      record { text_is = puts.text_is; place_is = puts.same_place ends; same_character = puts.same_character ends }

  both : PutsLineTwice d e (after_keys d None e (Copy ∷ Put ∷ []))
  both = subst (λ x. PutsLineTwice d e (after_key d None x Put)) (sym copied-is) (twice (is_soft e.soft))

pub copied-line-goes-above : CopiedLineGoesAbove
copied-line-goes-above d e copies = both d e copies
