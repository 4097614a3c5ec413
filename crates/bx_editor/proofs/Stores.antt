-- Which keys store the text, and which may be refused.
use Rattle.std.proofs.Common.{◌≡◌, ◌&&◌, ◌||◌, ℕ, Bool, true, false, List, Option, Some, None, length, not, if◌then◌else◌, refl, sym, ap, subst, inl, inr, ◌∙◌}
use Rattle.std.specs.Prelude.{◌⊎◌, ◌==◌, is_some}
use Rattle.std.proofs.lemmas.Bool.{and_parts}
use Rattle.std.proofs.lemmas.Bool.Decides.{eqb_tells}
use Rattle.bx_keys.specs.declared.key.Key.{Key}
use Rattle.bx_store.specs.declared.store.StoreFault.{StoreFault}
use Rattle.bx_ucd.specs.Data.{Data}
use Rattle.bx_keys.specs.declared.notice.Notice as told
use Rattle.bx_keys.specs.declared.key.Key.TheVariants.{Fill, Insert, Notice, PasteEnd, PasteStart, Repaint, Save, Size}
use Rattle.bx_editor.specs.declared.answer.Answer.{Answer}
use Rattle.bx_editor.specs.declared.answer.Answer.TheVariants.{Letter}
use Rattle.bx_editor.specs.declared.questions.answers.Prompt.{Prompt}
use Rattle.bx_editor.specs.declared.questions.answers.Prompt.TheVariants.{Off, Line, Name, Code, File, Overwrite}
use Rattle.bx_editor.specs.Answering.{answer_of, without_line}
use Rattle.bx_editor.specs.Editor.{Editor}
use Rattle.bx_editor.specs.Putting.{paste_ended}
use Rattle.bx_editor.specs.Keys.{after_key, after_press, after_user, ends_name, ends_paste, is_edit_or_move, is_save, is_typed, may_refuse, saving_by, saving_of}
use Rattle.bx_editor.proofs.EditsOrMoves.{edits-or-moves, edits-or-moves-alone, takes_memory}
use Rattle.bx_editor.specs.Saving.{Saving, can_save, own_saving, saving_under}

-- ---- a key that stores the text is not refused

unless : (b : Bool) (some : Option Saving) → is_some (if b then None else some) ≡ true → is_some some ≡ true
unless true some h = absurd (cc h)
unless false some h = h

condition : (b : Bool) (saving : Saving) → is_some (if b then Some saving else None) ≡ true → b ≡ true
condition true saving h = refl
condition false saving h = absurd (cc h)

not-save : (key : Key) → is_save key ≡ true → is_edit_or_move key ≡ true → ⊥
not-save Save save edits = cc edits
not-save key save edits = cc save

no-save : (e : Editor) (key : Key) (saving : Saving) → is_some (if is_save key && can_save e then Some saving else None) ≡ true
    → is_edit_or_move key ≡ true → ⊥
no-save e key saving h edits =
    not-save key (and_parts (is_save key) (can_save e) (condition (is_save key && can_save e) saving h)).0 edits

line-end : (c : ℕ) → (c == 0xA) ≡ true → c ≡ 0xA
line-end c h = elim (eqb_tells c 0xA) as (λ _. c ≡ 0xA) [
  | inl same ↦ same.1
  | inr other ↦ absurd (cc (sym h ∙ other.0))
]

name-ended : (e : Editor) (c : ℕ) → is_some (if ends_name e c then Some (saving_under e e.answer) else None) ≡ true → c ≡ 0xA
name-ended e c h =
    let ends = condition (ends_name e c) (saving_under e e.answer) h in
    line-end c (and_parts (c == 0xA) (is_typed e.typing) (and_parts ((c == 0xA) && is_typed e.typing) (not (length e.answer == 0)) ends).0).0

abbrev Answers : Prompt → Answer → Type 0
Answers prompt answer = (prompt ≡ Overwrite) ⊎ ((prompt ≡ File) × (answer ≡ Letter 0xA))

stores-by : (e : Editor) (prompt : Prompt) (key : Key) (answer : Answer) → is_some (saving_by e prompt key answer) ≡ true
    → is_edit_or_move key ≡ true → Answers prompt answer
stores-by e Overwrite key answer h edits = inl refl
stores-by e File key (Letter c) h edits = inr (refl, ap Letter (name-ended e c h))
stores-by e File key answer h edits = absurd (no-save e key (own_saving e e.name) h edits)
stores-by e Off key answer h edits = absurd (no-save e key (own_saving e e.name) h edits)
stores-by e Line key answer h edits = absurd (no-save e key (own_saving e e.name) h edits)
stores-by e Name key answer h edits = absurd (no-save e key (own_saving e e.name) h edits)
stores-by e Code key answer h edits = absurd (no-save e key (own_saving e e.name) h edits)

pub stores-is : (e : Editor) (key : Key) → is_some (saving_of e key) ≡ true → is_edit_or_move key ≡ true → Answers e.prompt (answer_of key)
stores-is e key h edits =
    stores-by e e.prompt key (answer_of key)
    (unless (is_some e.pasted && not (is_save key)) (saving_by e e.prompt key (answer_of key)) h) edits

-- ---- a key that takes memory where something is asked, with and without an input line

pub edits_answered : (key : Key) → takes_memory (answer_of key) ≡ true → is_edit_or_move key ≡ true
edits_answered key takes = edits-or-moves key takes

pub edits_alone : (key : Key) → takes_memory (without_line (answer_of key)) ≡ true → is_edit_or_move key ≡ true
edits_alone key takes = edits-or-moves-alone key takes

-- ---- while a paste is under way

by-paste : (edits pasting ends : Bool) → pasting ≡ true → ends ≡ true → (edits || (pasting && ends)) ≡ true
by-paste true pasting ends h k = refl
by-paste false true true h k = refl
by-paste false true false h k = absurd (cc k)
by-paste false false ends h k = absurd (cc h)

-- a key that ends it, or goes into it, may be refused
pub refuses-pasting : (e : Editor) (key : Key) → is_some e.pasted ≡ true → (key ≡ Repaint → ⊥) → (key ≡ Fill → ⊥) → (key ≡ PasteStart → ⊥)
    → ((height width : ℕ) → key ≡ Size height width → ⊥) → ((notice : told.Notice) → key ≡ Notice notice → ⊥) → may_refuse e key ≡ true
refuses-pasting e (Insert c) pasting repaint fill start size notice = refl
refuses-pasting e Repaint pasting repaint fill start size notice = absurd (repaint refl)
refuses-pasting e Fill pasting repaint fill start size notice = absurd (fill refl)
refuses-pasting e PasteStart pasting repaint fill start size notice = absurd (start refl)
refuses-pasting e (Size height width) pasting repaint fill start size notice = absurd (size height width refl)
refuses-pasting e (Notice one) pasting repaint fill start size notice = absurd (notice one refl)
refuses-pasting e key pasting repaint fill start size notice = by-paste (is_edit_or_move key) (is_some e.pasted) (ends_paste key) pasting refl

-- a key that ends the paste first
in-paste : (d : Data) (fault : Option StoreFault) (pasted : Option (List ℕ)) (e : Editor) (key : Key) → is_some pasted ≡ true
    → ((c : ℕ) → key ≡ Insert c → ⊥) → (key ≡ Repaint → ⊥) → after_press d fault pasted e key ≡ after_user d fault (paste_ended d e) key
in-paste d fault None e key some insert repaint = absurd (cc some)
in-paste d fault (Some list) e (Insert c) some insert repaint = absurd (insert c refl)
in-paste d fault (Some list) e Repaint some insert repaint = absurd (repaint refl)
in-paste d fault (Some list) e key some insert repaint = refl

pub pasted-key : (d : Data) (fault : Option StoreFault) (e : Editor) (key : Key) → is_some e.pasted ≡ true → ((c : ℕ) → key ≡ Insert c → ⊥)
    → (key ≡ Repaint → ⊥) → (key ≡ Fill → ⊥) → (key ≡ PasteStart → ⊥) → (key ≡ PasteEnd → ⊥)
    → ((height width : ℕ) → key ≡ Size height width → ⊥) → ((notice : told.Notice) → key ≡ Notice notice → ⊥)
    → after_key d fault e key ≡ after_user d fault (paste_ended d e) key
pasted-key d fault e (Size height width) some insert repaint fill start end size notice = absurd (size height width refl)
pasted-key d fault e (Notice one) some insert repaint fill start end size notice = absurd (notice one refl)
pasted-key d fault e Fill some insert repaint fill start end size notice = absurd (fill refl)
pasted-key d fault e PasteStart some insert repaint fill start end size notice = absurd (start refl)
pasted-key d fault e PasteEnd some insert repaint fill start end size notice = absurd (end refl)
pasted-key d fault e key some insert repaint fill start end size notice = in-paste d fault e.pasted e key some insert repaint
