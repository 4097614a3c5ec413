-- The places of a row lie in the text.
use Rattle.std.proofs.Common.{◌≡◌, ℕ, ◌+◌, ◌^◌, ◌<◌, ◌≤◌, Bool, List, length, map, find, reverse, Option, Some, None}
use Rattle.std.proofs.Common.{ap, ◌∙◌, subst, sym, arith}
use Rattle.std.specs.Prelude.{All, IfSome}
use Rattle.bx_ucd.specs.declared.data.BidiData.{Ghosts}
use Rattle.bx_paragraph.specs.declared.moves.Visual.{Visual}
use Rattle.bx_paragraph.specs.declared.slots.Slot.{Slot}
use Rattle.bx_paragraph.specs.BodyRows.{last_of, offsets_of}
use Rattle.bx_paragraph.specs.LayoutRowRef.{row}
use Rattle.bx_paragraph.specs.Slots.{beside, entry, reading_end, reading_start, row_slots}
use Rattle.bx_paragraph.proofs.Starts.{row_count}
use Rattle.bx_paragraph.specs.declared.layout_row_ref.LayoutRowRef.{LayoutRowRef}
use Rattle.bx_view.specs.Placed.{columns}
use Rattle.bx_view.proofs.Within.{Lies, LiesIn, Within, beside-fits, body-row-lies, end-fits, entry-fits, find-lies, last-fits, slots-fit, start-fits, within-reverse}

module _ {D : Type 0} {g : Ghosts D} (s : LayoutRowRef D g) where
  abbrev body_length : ℕ
  body_length = length s.paragraph.now.body

  abbrev pub Low : ℕ → Type 0
  Low o = o ≤ body_length

  pub lies : LiesIn Low (columns s) (row s)
  lies =
      let l = s.paragraph.now in
      let ucd = g.data s.tables.now in
      let within = s.within in
      body-row-lies Low ucd l.base l.w l.body s.number s.sound.utf8 (λ o b. b.0) (omega (arith, within, row_count l s.sound.side ucd s.by))

  abbrev Fits : ℕ → Type 0
  Fits o = s.start + o < 2 ^ 64

  low-fits : (o : ℕ) → Low o → Fits o
  low-fits o h = let fits = s.fits in omega (arith, h, fits)

  some-fits : (o : Option ℕ) → Lies Low o → IfSome o Fits
  some-fits None h = tt
  some-fits (Some o) h = low-fits o h

  pub last_placed : (o : ℕ) → o ≡ last_of (row s) → Fits o
  last_placed o e = low-fits o (subst Low (sym e) (last-fits Low (columns s) (row s) lies))

  pub beside_placed : (side : Visual) (offset : ℕ) (o : Option ℕ) → o ≡ beside (columns s) (row s) side offset → IfSome o Fits
  beside_placed side offset o e = some-fits o (subst (Lies Low) (sym e) (beside-fits Low (columns s) (row s) lies side offset))

  pub start_placed : (o : Option ℕ) → o ≡ reading_start (columns s) (row s) → IfSome o Fits
  start_placed o e = some-fits o (subst (Lies Low) (sym e) (start-fits Low (columns s) (row s) lies))

  pub end_placed : (o : Option ℕ) → o ≡ reading_end (columns s) (row s) → IfSome o Fits
  end_placed o e = some-fits o (subst (Lies Low) (sym e) (end-fits Low (columns s) (row s) lies))

  pub entry_placed : (column : ℕ) (o : Option ℕ) → o ≡ entry (columns s) (row s) column → IfSome o Fits
  entry_placed column o e = some-fits o (subst (Lies Low) (sym e) (entry-fits Low (columns s) (row s) lies column))

  pub found_placed : (p : ℕ → Bool) (os : List ℕ) (o : Option ℕ) → os ≡ offsets_of (row s) → o ≡ find p os → IfSome o Fits
  found_placed p os o e f =
      some-fits o (subst (Lies Low) (sym (f ∙ ap (find p) e)) (find-lies Low p (offsets_of (row s)) lies.places))

  pub found_back_placed : (p : ℕ → Bool) (os : List ℕ) (o : Option ℕ) → os ≡ offsets_of (row s) → o ≡ find p (reverse os) → IfSome o Fits
  found_back_placed p os o e f =
      let mine = offsets_of (row s) in
      some-fits o (subst (Lies Low) (sym (f ∙ ap (λ qs. find p (reverse qs)) e)) (find-lies Low p (reverse mine) (within-reverse Low mine lies.places)))

  pub slots_placed : (ss : List Slot) → ss ≡ row_slots (columns s) (row s) → All (λ t. Fits (t.offset)) ss
  slots_placed ss e =
      slots-fit Low s.start (2 ^ 64) ss low-fits (subst (λ xs. Within Low (map (λ (t : Slot). t.offset) xs)) (sym e) lies.slots)
