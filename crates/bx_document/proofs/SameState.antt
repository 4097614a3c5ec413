-- A document whose text and tables are lent, and one whose own text was edited.
use Rattle.std.proofs.Common.{◌≡◌, ℕ, List, ap₂, sym, subst, ◌∙◌}
use Rattle.bx_common.specs.declared.base.Base.{Base}
use Rattle.bx_ucd.specs.Data.{Data}
use Rattle.bx_text.specs.Edits.{Edited}
use Rattle.bx_view.specs.Caching.{IsViewBy, ViewState}
use Rattle.bx_document.specs.Cache.{AreDrawnBy, EntryState}
use Rattle.bx_document.specs.Document.{DocumentState}
use Rattle.bx_document.specs.IndexedText.{IndexedTextState}
use Rattle.bx_document.specs.Past.{KeepsPlaces}

-- a document with these tables and this text
abbrev pub state_of : {D : Type 0} → D → Edited → Base → ℕ → DocumentState D
state_of tables content base w = record { tables = tables; document = record { content = content; base = base; w = w } }

-- with tables and a text that are lent
pub lent : {D : Type 0} {t u : D} {x y : Edited} {base : Base} {w : ℕ} {now : DocumentState D} → t ≡ u → x ≡ y
    → state_of u y base w ≡ now → state_of t x base w ≡ now
lent {D} {t} {u} {x} {y} {base} {w} {now} e f same = ap₂ (λ v z. state_of v z base w) e f ∙ same

-- what a document keeps, where its own text was edited
pub edited : {D : Type 0} (ucd : D → Data) (v : ViewState) (cache : List EntryState) (old new : IndexedTextState D) (u : Edited)
    → new ≡ record old { content = u } → IsViewBy (ucd old.tables) v → KeepsPlaces (ucd old.tables) u → AreDrawnBy (ucd old.tables) cache
    → IsViewBy (ucd new.tables) v × KeepsPlaces (ucd new.tables) new.content × AreDrawnBy (ucd new.tables) cache
edited ucd v cache old new u e held places drawn =
    subst (λ o. IsViewBy (ucd o.tables) v × KeepsPlaces (ucd o.tables) o.content × AreDrawnBy (ucd o.tables) cache) (sym e) (held, places, drawn)
