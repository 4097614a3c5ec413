-- NewLine puts in the text's first separator if that is CR LF, else LF.
use Rattle.std.proofs.Common.{◌≡◌, ℕ, ◌+◌, ◌-◌, ◌<◌, ◌≤◌, Bool, true, false, List, [], ◌∷◌, ◌++◌, length, take, drop, refl, sym, ap, ap₂}
use Rattle.std.proofs.Common.{subst, ◌∙◌}
use Rattle.std.proofs.Common.{append-nil, arith, if◌then◌else◌}
use Rattle.std.specs.Prelude.{◌≢◌, ◌==◌, ◌&&◌, nat_le, Some, None}
use Rattle.std.proofs.lemmas.Bool.{eqb-true}
use Rattle.std.proofs.lemmas.Bool.Decides.{nat_tests}
use Rattle.std.proofs.lemmas.List.{take-append-drop}
use Rattle.bx_common.specs.Characters.{largest_text}
use Rattle.bx_keys.specs.declared.key.Key.TheVariants.{NewLine}
use Rattle.bx_document.specs.Line.{is_cr_lf}
use Rattle.bx_editor.specs.undo_groups.Groups.{after_insertion, goes_on}
use Rattle.bx_editor.specs.declared.undo_groups.typing.Kind.TheVariants.{Separator}
use Rattle.bx_text.specs.Edits.{fits, splice}
use Rattle.bx_ucd.specs.Data.{Data}
use Rattle.bx_editor.specs.declared.message.Message.TheVariants.{TextFull}
use Rattle.bx_editor.specs.Editor.{Editor, cleared, with_insertion}
use Rattle.bx_editor.specs.Keys.{after_key}
use Rattle.bx_editor.specs.Putting.{has_room, line_end, new_indent, only_paste, typed, with_selection_replaced, yielding}
use Rattle.bx_editor.specs.Region.{region, is_selection}
use Rattle.bx_editor_laws.proofs.KeyEnds.{behind, free-done}
use Rattle.bx_editor_laws.specs.LineLaws.{NewLinePutsSeparator, PutsIfRoom, PutsIn, cr_lf, first_separator}
use Rattle.bx_editor_laws.specs.SelectionLaws.{IsRefused}
use Rattle.bx_editor_laws.specs.WordLaws.{IsPlain}

-- ---- the separator

not-both : (a b : ℕ) (x y : Bool) → (a == 13) ≡ x → (b == 10) ≡ y → a ∷ b ∷ [] ≢ cr_lf → (x && y) ≡ false
not-both a b true true is_cr is_lf other = absurd (other (ap₂ (λ x y. x ∷ y ∷ []) (eqb-true a 13 is_cr) (eqb-true b 10 is_lf)))
not-both a b true false is_cr is_lf other = refl
not-both a b false y is_cr is_lf other = refl

not-crlf : (s : List ℕ) → s ≢ cr_lf → is_cr_lf s ≡ false
not-crlf [] other = refl
not-crlf (a ∷ []) other = refl
not-crlf (a ∷ b ∷ []) other = not-both a b (a == 13) (b == 10) refl refl other
not-crlf (a ∷ b ∷ c ∷ s) other = refl

abbrev line_by : Bool → List ℕ
line_by crlf = if crlf then 0xD ∷ 0xA ∷ [] else 0xA ∷ []

-- ---- bytes put in where nothing is selected

has-room : (size at new limit : ℕ) → size + new ≤ limit → nat_le (size - (at - at) + new) limit ≡ true
has-room size at new limit few = grind (arith, nat_tests, few)

has-none : (size at new limit : ℕ) → limit < size + new → nat_le (size - (at - at) + new) limit ≡ false
has-none size at new limit many = grind (arith, nat_tests, many)

module _ (d : Data) (e : Editor) (plain : IsPlain e) where
  abbrev was : Editor
  was = cleared e

  abbrev on : Bool
  on = goes_on e.typing Separator

  yields : yielding was ≡ (e.place, e.place)
  yields = ap (λ b. if b then region e else (e.place, e.place)) plain.unselected

  nothing-out : splice e.content.text (yielding was).0 (yielding was).1 [] ≡ e.content.text
  nothing-out =
      ap (λ (part : ℕ × ℕ). splice e.content.text part.0 part.1 []) yields
      ∙ ap (λ xs. xs ++ drop e.place e.content.text) (append-nil (take e.place e.content.text))
      ∙ take-append-drop e.place e.content.text

  new-line-is : (bytes : List ℕ) → line_end d e.content.text ++ new_indent d e ≡ bytes
      → after_key d None e NewLine ≡ behind (typed d e.typing was bytes Separator)
  new-line-is bytes is =
      free-done d None e NewLine plain.settled refl refl plain.unasked plain.unsought plain.writes
      ∙ ap (λ text. behind (typed d e.typing was (line_end d text ++ new_indent d e) Separator)) nothing-out
      ∙ ap (λ list. behind (typed d e.typing was list Separator)) is

  room-is : (bytes : List ℕ) → has_room was bytes ≡ fits e.content.text e.place e.place bytes
  room-is bytes = ap (λ (part : ℕ × ℕ). fits e.content.text part.0 part.1 bytes) yields

  abbrev one : List ℕ → Editor
  one bytes = with_insertion d was bytes on

  abbrev full : Editor
  full = record was { message = Some TextFull }

  abbrev put-by : List ℕ → Bool → Bool → Editor
  put-by bytes room selected = if room then (if selected then with_selection_replaced d was bytes else one bytes) else full

  -- what is typed, whether or not it was put in
  abbrev left : List ℕ → Editor → Editor
  left bytes x = behind (record x { typing = if has_room was bytes then after_insertion Separator else only_paste e.typing })

  if-room : (bytes : List ℕ) → line_end d e.content.text ++ new_indent d e ≡ bytes → PutsIfRoom d e bytes (after_key d None e NewLine)
  if-room bytes is = record {
    fits =
        λ few.
        let room = room-is bytes ∙ has-room (length e.content.text) e.place (length bytes) largest_text few in
        let there : after_key d None e NewLine ≡ left bytes (one bytes) =
        new-line-is bytes is
        ∙ ap (left bytes) (ap (λ r. put-by bytes r (is_selection was)) room ∙ ap (put-by bytes true) plain.unselected) in
        subst (PutsIn d e bytes) (sym there) (record { text_is = refl; place_is = refl; mark_is = refl });
    full =
        λ many.
        let none = room-is bytes ∙ has-none (length e.content.text) e.place (length bytes) largest_text many in
        let there : after_key d None e NewLine ≡ left bytes full =
        new-line-is bytes is ∙ ap (left bytes) (ap (λ r. put-by bytes r (is_selection was)) none) in
        subst (IsRefused e) (sym there) (record { content_is = refl; place_is = refl; mark_is = refl; message_is = refl });
  }

pub new-line-puts-separator : NewLinePutsSeparator
new-line-puts-separator d e plain = record {
  crlf = λ same. if-room d e plain (cr_lf ++ new_indent d e) (ap (λ s. line_by (is_cr_lf s) ++ new_indent d e) same);
  other = λ other. if-room d e plain (0xA ∷ new_indent d e) (ap (λ b. line_by b ++ new_indent d e) (not-crlf (first_separator d e) other));
}
