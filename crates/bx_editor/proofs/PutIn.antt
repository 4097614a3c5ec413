-- What keys put into the text, by the cases of their definitions.
use Rattle.std.proofs.Common.{◌≡◌, ◌<◌, ℕ, ◌+◌, ◌-◌, Bool, true, false, List, [], ◌∷◌, ◌++◌, length, refl, ap, ap₂, sym, ◌∙◌, arith, ne_eqb, if◌then◌else◌}
use Rattle.std.specs.Prelude.{◌==◌, ◌%◌, ◌||◌, Some, encode_utf8, replicate}
use Rattle.std.specs.List.{repeat}
use Rattle.std.proofs.lemmas.Bool.{eq-eqb}
use Rattle.std.proofs.lemmas.Bool.Decides.{nat_tests}
use Rattle.bx_text.specs.Edits.{fits}
use Rattle.bx_ucd.specs.Data.{Data}
use Rattle.bx_document.specs.History.{insertion_before}
use Rattle.bx_document.specs.Line.{ends_with_separator, is_line_empty}
use Rattle.bx_editor.specs.declared.message.Message.TheVariants.{TextFull}
use Rattle.bx_editor.specs.declared.undo_groups.typing.Kind.TheVariants.{Blank}
use Rattle.bx_editor.specs.declared.undo_groups.typing.Typing.{Typing}
use Rattle.bx_editor.specs.undo_groups.Groups.{kind_of}
use Rattle.bx_editor.specs.Editor.{Editor, rows_of, with_edit}
use Rattle.bx_editor.specs.Putting.{after_character, after_tab, as_line, line_end, put_line, spaces_on, typed, units_in_line, with_line_put, yielding}
use Rattle.bx_editor.specs.Region.{line}
use Rattle.bx_editor.proofs.Spaces.{repeated-spaces}

module _ (d : Data) (typing : Typing) (e : Editor) where
  -- a character as it is, and a tab as spaces
  abbrev plain : ℕ → Editor
  plain c = typed d typing e (encode_utf8 c) (kind_of (d.class c))

  abbrev spaces : Editor
  spaces = typed d typing e (replicate (spaces_on e.tab_width (units_in_line d e (yielding e).0)) 0x20) Blank

  pub spaces-typed : (width units : ℕ) (new : List ℕ) → width ≡ e.tab_width → 0 < width → units ≡ units_in_line d e (yielding e).0
      → new ≡ repeat {A = ℕ} (width - units % width) (0x20 ∷ []) → typed d typing e new Blank ≡ after_tab d typing e
  spaces-typed width units new same some number is =
      let wide : (e.tab_width == 0) ≡ false = ne_eqb e.tab_width 0 (λ none. omega (arith, none, some, same)) in
      let count : spaces_on width units ≡ spaces_on e.tab_width (units_in_line d e (yielding e).0) = ap₂ spaces_on same number in
      ap (λ bs. typed d typing e bs Blank) (is ∙ repeated-spaces (spaces_on width units) ∙ ap (λ n. replicate n 0x20) count)
      ∙ ap (λ b. if b then plain 0x9 else spaces) (sym wide)

  pub tab-typed : (c : ℕ) → c ≡ 0x9 → after_tab d typing e ≡ after_character d typing e c
  tab-typed c is = ap (λ b. if b then after_tab d typing e else plain c) (sym (eq-eqb c 0x9 is))

  plain-by : (c : ℕ) (tab none : Bool) → (c == 0x9) ≡ tab → (tab ≡ true → none ≡ true)
      → plain c ≡ (if tab then (if none then plain 0x9 else spaces) else plain c)
  plain-by c true true is h = let same : c ≡ 0x9 = grind (arith, nat_tests, is) in ap plain same
  plain-by c true false is h = let no = h refl in absurd (cc no)
  plain-by c false none is h = refl

  pub character-typed : (c : ℕ) → (c ≡ 0x9 → e.tab_width ≡ 0) → plain c ≡ after_character d typing e c
  character-typed c h =
      plain-by c (c == 0x9) (e.tab_width == 0) refl
      (λ tab. let same : c ≡ 0x9 = grind (arith, nat_tests, tab) in eq-eqb e.tab_width 0 (h same))

module _ (d : Data) (e : Editor) where
  pub held-as-it-is : (held : List ℕ) → (ends_with_separator d held || is_line_empty d e.content.text e.place) ≡ true → held ≡ as_line d e held
  held-as-it-is held is = ap (λ b. if b then held else held ++ line_end d e.content.text) (sym is)

  pub held-ended : (held : List ℕ) → (ends_with_separator d held || is_line_empty d e.content.text e.place) ≡ false
      → held ++ line_end d e.content.text ≡ as_line d e held
  held-ended held is = ap (λ b. if b then held else held ++ line_end d e.content.text) (sym is)

  -- a line is put at its start, if there is room
  module _ (start : ℕ) (new : List ℕ) (at : start ≡ (line d e).0) where
    room-there : (room : Bool) → fits e.content.text start start new ≡ room → fits e.content.text (line d e).0 (line d e).0 new ≡ room
    room-there room is = ap (λ o. fits e.content.text o o new) (sym at) ∙ is

    abbrev put_by : Bool → Editor
    put_by room = if room then with_line_put d e new else record e { message = Some TextFull }

    pub line-put-at : fits e.content.text start start new ≡ true
        → with_edit d e (insertion_before (rows_of d e) e.content start new e.place) (e.place + length new) false ≡ put_line d e new
    line-put-at room =
        ap (λ o. with_edit d e (insertion_before (rows_of d e) e.content o new e.place) (e.place + length new) false) at
        ∙ ap put_by (sym (room-there true room))

    pub line-put-full : fits e.content.text start start new ≡ false → record e { message = Some TextFull } ≡ put_line d e new
    line-put-full full = ap put_by (sym (room-there false full))
