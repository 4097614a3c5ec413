-- A key outside a search and a question does the same to two editors of which the same lasts: what lasts is the same again, by
-- the same edits and steps.
use Rattle.std.proofs.Common.{◌≡◌, ℕ, Bool, true, false, List, [], ◌∷◌, ◌++◌, ◌+◌, ◌-◌, length, Option, Some, None, refl, sym, ap, ◌∙◌}
use Rattle.std.proofs.Common.{if◌then◌else◌}
use Rattle.std.specs.Prelude.{◌==◌, encode_utf8, replicate}
use Rattle.bx_text.specs.declared.change.Change.{Change}
use Rattle.bx_text.specs.Edits.{Edit, Edited, fits, replaced, splice}
use Rattle.bx_ucd.specs.Data.{Data}
use Rattle.bx_document.specs.History.{next_changes, stepped_times}
use Rattle.bx_document.specs.Past.{stepped}
use Rattle.bx_document.specs.declared.history.HistoryStep.{HistoryStep}
use Rattle.bx_document.specs.declared.history.HistoryStep.TheVariants as history
use Rattle.bx_editor.specs.declared.undo_groups.typing.Kind.{Kind}
use Rattle.bx_editor.specs.declared.undo_groups.typing.Kind.TheVariants.{Blank, Separator}
use Rattle.bx_editor.specs.declared.undo_groups.typing.Removal.{Removal}
use Rattle.bx_editor.specs.declared.undo_groups.typing.Typing.{Typing}
use Rattle.bx_editor.specs.undo_groups.Groups.{edited, run_end, run_start, after_insertion, after_removal, goes_on, goes_on_removing, kind_of}
use Rattle.bx_editor.specs.declared.search_state.SearchPurpose.TheVariants as purposes
use Rattle.bx_editor.specs.declared.message.Message.{Message}
use Rattle.bx_editor.specs.declared.message.Message.TheVariants as messages
use Rattle.bx_editor.specs.declared.message.Message.TheVariants.{TextFull, Copied, LineCopied, MarkOff, MarkSet, NothingToCopy, NothingToPut}
use Rattle.bx_editor.specs.declared.cursor.Soft.{Soft}
use Rattle.bx_editor.specs.declared.cursor.Soft.TheVariants as softness
use Rattle.bx_editor.specs.Before.{before}
use Rattle.bx_editor.specs.Editor.{Editor, after_redo, after_step, after_undo, place_after, stored_behind, with_insertion, with_removal}
use Rattle.bx_editor.specs.Editor.{with_typing, by_group, is_changed_at, group_length}
use Rattle.bx_editor.specs.Effects.{SeeksNext, SeeksPrevious}
use Rattle.bx_editor.specs.Effects.{by}
use Rattle.bx_editor.specs.Erasing.{after_erasing, after_erasing_word, after_removing, or_selection, removed_on}
use Rattle.bx_editor.specs.Putting.{after_character, after_new_line, after_put, after_tab, as_line, has_room, new_indent, new_line_end, only_paste, put_in}
use Rattle.bx_editor.specs.Putting.{put_line, puts_line, spaces_on, typed, units_in_line, with_line_put, with_selection_replaced, yielding}
use Rattle.bx_editor.specs.Region.{after_copy, after_cut, after_mark, bytes_in, held_message, is_at_mark, is_empty, is_soft, line, region, taken}
use Rattle.bx_editor.specs.Region.{with_held, is_selection, selecting, unselected, without_hard_mark, without_mark}
use Rattle.bx_editor.specs.Search.{after_beginning, next_or_start, search_back, search_from, sought, sought_alone}
use Rattle.bx_session_laws.proofs.Lasting.{Lasting, having, lasting}

-- ---- edits and steps

-- what they change, whether the session has ended, and where saves go
pub record Work : Type 0 where
  pub content : Edited
  pub undo_groups : List ℕ
  pub stored : Option ℕ
  pub changed : Bool
  pub ended : Bool
  pub name : Option (List ℕ)
  pub home : Bool

abbrev pub work : Editor → Work
work e = record {
  content = e.content;
  undo_groups = e.undo_groups;
  stored = e.stored;
  changed = e.changed;
  ended = e.ended;
  name = e.name;
  home = e.home;
}

-- an edit from one offset to another, by bytes, with the places before and after, that goes on with a run or begins one; one
-- step, or the steps of a run
pub data Deed : Type 0 where
  Edits : ℕ → ℕ → List ℕ → ℕ → ℕ → Bool → Deed
  TakesStep : HistoryStep → Deed
  TakesRun : HistoryStep → Deed

abbrev with_content : Work → Edited → Bool → Work
with_content w content goes_on =
    let n = length w.content.past in
    record w { content = content; undo_groups = edited w.undo_groups n goes_on; stored = stored_behind n w.stored; changed = true }

-- the length of the past to which a run is undone, or redone, and how many edits that takes
abbrev pub end_of : HistoryStep → Work → ℕ
end_of history.Undo w = run_start w.undo_groups (length w.content.past)
end_of history.Redo w = run_end w.undo_groups (length w.content.past) (length w.content.past + length w.content.future)

abbrev pub count : HistoryStep → Work → ℕ
count history.Undo w = length w.content.past - end_of history.Undo w
count history.Redo w = end_of history.Redo w - length w.content.past

abbrev pub after_deed : Deed → Work → Work
after_deed (Edits start stop new before after goes_on) w = with_content w (replaced w.content start stop new before after) goes_on
after_deed (TakesStep step) w = record w { content = stepped step w.content; changed = true }
after_deed (TakesRun step) w = record w { content = stepped_times step (count step w) w.content; changed = is_changed_at (end_of step w) w.stored }

abbrev pub after_deeds : List Deed → Work → Work
after_deeds [] w = w
after_deeds (deed ∷ deeds) w = after_deeds deeds (after_deed deed w)

-- ---- two editors

-- the same lasts of both new editors, which come from the two others by the same deeds
pub record Alike (e new f new' : Editor) : Type 0 where
  pub lasts : lasting new ≡ lasting new'
  pub deeds : List Deed
  pub first : work new ≡ after_deeds deeds (work e)
  pub other : work new' ≡ after_deeds deeds (work f)

pub either_alike : (b : Bool) (e p q f p' q' : Editor) → Alike e p f p' → Alike e q f q' → Alike e (if b then p else q) f (if b then p' else q')
either_alike true e p q f p' q' h k = h
either_alike false e p q f p' q' h k = k

-- no deed
pub idle : (e new f new' : Editor) → lasting new ≡ lasting new' → work new ≡ work e → work new' ≡ work f → Alike e new f new'
idle e new f new' lasts first other = record { lasts = lasts; deeds = []; first = first; other = other }

pub going_on : (typing : Typing) (e new f new' : Editor) → Alike e new f new' → Alike e (with_typing new typing) f (with_typing new' typing)
going_on typing e new f new' h = record {
  lasts = ap (λ (l : Lasting). record l { typing = typing }) h.lasts;
  deeds = h.deeds;
  first = h.first;
  other = h.other;
}

-- no deed behind the others
pub idle_on : (e new left f new' left' : Editor) (F : Lasting → Lasting) → lasting left ≡ F (lasting new) → lasting left' ≡ F (lasting new')
    → work left ≡ work new → work left' ≡ work new' → Alike e new f new' → Alike e left f left'
idle_on e new left f new' left' F one other first second h = record {
  lasts = one ∙ ap F h.lasts ∙ sym other;
  deeds = h.deeds;
  first = first ∙ h.first;
  other = second ∙ h.other;
}

-- ---- edits

pub insertion_alike : (d : Data) (e f : Editor) (new : List ℕ) (goes_on : Bool)
    → Alike e (with_insertion d e new goes_on) (having (lasting e) f) (with_insertion d (having (lasting e) f) new goes_on)
insertion_alike d e f new goes_on =
    let after = place_after d e (splice e.content.text e.place e.place new) (e.place + length new) in
    record { lasts = refl; deeds = Edits e.place e.place new e.place after goes_on ∷ []; first = refl; other = refl }

pub removal_alike : (d : Data) (e f : Editor) (start stop : ℕ) (goes_on : Bool)
    → Alike e (with_removal d e start stop goes_on) (having (lasting e) f) (with_removal d (having (lasting e) f) start stop goes_on)
removal_alike d e f start stop goes_on =
    let after = place_after d e (splice e.content.text start stop []) start in
    record { lasts = refl; deeds = Edits start stop [] e.place after goes_on ∷ []; first = refl; other = refl }

replaced_alike : (d : Data) (e f : Editor) (new : List ℕ)
    → Alike e (with_selection_replaced d e new) (having (lasting e) f) (with_selection_replaced d (having (lasting e) f) new)
replaced_alike d e f new =
    let part = region e in
    let cut = with_removal d e part.0 part.1 false in
    let after = place_after d cut (splice cut.content.text cut.place cut.place new) (cut.place + length new) in
    record {
      lasts = refl;
      deeds = Edits part.0 part.1 [] e.place cut.place false ∷ Edits cut.place cut.place new cut.place after true ∷ [];
      first = refl;
      other = refl;
    }

pub put_in_alike : (d : Data) (e f : Editor) (new : List ℕ) (goes_on : Bool)
    → Alike e (put_in d e new goes_on) (having (lasting e) f) (put_in d (having (lasting e) f) new goes_on)
put_in_alike d e f new goes_on =
    let g = having (lasting e) f in
    let full : Editor = record e { message = Some TextFull } in
    let full' : Editor = record g { message = Some TextFull } in
    either_alike (has_room e new) e (if is_selection e then with_selection_replaced d e new else with_insertion d e new goes_on) full g
    (if is_selection e then with_selection_replaced d g new else with_insertion d g new goes_on) full'
    (either_alike (is_selection e) e (with_selection_replaced d e new) (with_insertion d e new goes_on) g (with_selection_replaced d g new)
    (with_insertion d g new goes_on) (replaced_alike d e f new) (insertion_alike d e f new goes_on)) (idle e full g full' refl refl refl)

typed_alike : (d : Data) (typing : Typing) (e f : Editor) (new : List ℕ) (kind : Kind)
    → Alike e (typed d typing e new kind) (having (lasting e) f) (typed d typing (having (lasting e) f) new kind)
typed_alike d typing e f new kind =
    let g = having (lasting e) f in
    going_on (if has_room e new then after_insertion kind else only_paste typing) e (put_in d e new (goes_on typing kind)) g
    (put_in d g new (goes_on typing kind)) (put_in_alike d e f new (goes_on typing kind))

pub new_line_alike : (d : Data) (typing : Typing) (e f : Editor)
    → Alike e (after_new_line d typing e) (having (lasting e) f) (after_new_line d typing (having (lasting e) f))
new_line_alike d typing e f = typed_alike d typing e f (new_line_end d e ++ new_indent d e) Separator

plain_alike : (d : Data) (typing : Typing) (e f : Editor) (c : ℕ) → let g = having (lasting e) f in
    Alike e (typed d typing e (encode_utf8 c) (kind_of (d.class c))) g (typed d typing g (encode_utf8 c) (kind_of (d.class c)))
plain_alike d typing e f c = typed_alike d typing e f (encode_utf8 c) (kind_of (d.class c))

tab_alike : (d : Data) (typing : Typing) (e f : Editor) → Alike e (after_tab d typing e) (having (lasting e) f) (after_tab d typing (having (lasting e) f))
tab_alike d typing e f =
    let g = having (lasting e) f in
    let spaces = replicate (spaces_on e.tab_width (units_in_line d e (yielding e).0)) 0x20 in
    let tab : Editor → Editor = λ x. typed d typing x (encode_utf8 0x9) (kind_of (d.class 0x9)) in
    either_alike (e.tab_width == 0) e (tab e) (typed d typing e spaces Blank) g (tab g) (typed d typing g spaces Blank) (plain_alike d typing e f 0x9)
    (typed_alike d typing e f spaces Blank)

pub character_alike : (d : Data) (typing : Typing) (e f : Editor) (c : ℕ)
    → Alike e (after_character d typing e c) (having (lasting e) f) (after_character d typing (having (lasting e) f) c)
character_alike d typing e f c =
    let g = having (lasting e) f in
    let plain : Editor → Editor = λ x. typed d typing x (encode_utf8 c) (kind_of (d.class c)) in
    either_alike (c == 0x9) e (after_tab d typing e) (plain e) g (after_tab d typing g) (plain g) (tab_alike d typing e f) (plain_alike d typing e f c)

line_put_alike : (d : Data) (e f : Editor) (new : List ℕ) → Alike e (with_line_put d e new) (having (lasting e) f) (with_line_put d (having (lasting e) f) new)
line_put_alike d e f new =
    let start = (line d e).0 in
    let after = place_after d e (splice e.content.text start start new) (e.place + length new) in
    record { lasts = refl; deeds = Edits start start new e.place after false ∷ []; first = refl; other = refl }

put_line_alike : (d : Data) (e f : Editor) (new : List ℕ) → Alike e (put_line d e new) (having (lasting e) f) (put_line d (having (lasting e) f) new)
put_line_alike d e f new =
    let g = having (lasting e) f in
    let start = (line d e).0 in
    let full : Editor → Editor = λ x. record x { message = Some TextFull } in
    either_alike (fits e.content.text start start new) e (with_line_put d e new) (full e) g (with_line_put d g new) (full g) (line_put_alike d e f new)
    (idle e (full e) g (full g) refl refl refl)

pub put_alike : (d : Data) (e f : Editor) → Alike e (after_put d e) (having (lasting e) f) (after_put d (having (lasting e) f))
put_alike d e f =
    let g = having (lasting e) f in
    let none : Editor → Editor = λ x. record x { message = Some NothingToPut } in
    let over : Editor → Editor = λ x. put_line d x (as_line d e e.held) in
    let here : Editor → Editor = λ x. put_in d x e.held false in
    either_alike (length e.held == 0) e (none e) (if puts_line e then over e else here e) g (none g) (if puts_line e then over g else here g)
    (idle e (none e) g (none g) refl refl refl)
    (either_alike (puts_line e) e (over e) (here e) g (over g) (here g) (put_line_alike d e f (as_line d e e.held)) (put_in_alike d e f e.held false))

selection_alike : (d : Data) (e f other other' : Editor) → Alike e other (having (lasting e) f) other'
    → Alike e (or_selection d e other) (having (lasting e) f) (or_selection d (having (lasting e) f) other')
selection_alike d e f other other' h =
    let g = having (lasting e) f in
    let part = region e in
    either_alike (is_selection e) e (with_removal d e part.0 part.1 false) other g (with_removal d g part.0 part.1 false) other'
    (removal_alike d e f part.0 part.1 false) h

pub erasing_alike : (d : Data) (typing : Typing) (how : Removal) (e f : Editor) (start stop : ℕ)
    → Alike e (after_erasing d typing how e start stop) (having (lasting e) f) (after_erasing d typing how (having (lasting e) f) start stop)
erasing_alike d typing how e f start stop =
    let g = having (lasting e) f in
    let on = goes_on_removing typing how in
    let cut = with_removal d e start stop on in
    let cut' = with_removal d g start stop on in
    selection_alike d e f (removed_on d typing how e start stop) (removed_on d typing how g start stop)
    (either_alike (start == stop) e e (with_typing cut (after_removal how)) g g (with_typing cut' (after_removal how)) (idle e e g g refl refl refl)
    (going_on (after_removal how) e cut g cut' (removal_alike d e f start stop on)))

pub word_alike : (d : Data) (e f : Editor) (start stop : ℕ)
    → Alike e (after_erasing_word d e start stop) (having (lasting e) f) (after_erasing_word d (having (lasting e) f) start stop)
word_alike d e f start stop =
    let g = having (lasting e) f in
    selection_alike d e f (after_removing d e start stop false) (after_removing d g start stop false)
    (either_alike (start == stop) e e (with_removal d e start stop false) g g (with_removal d g start stop false) (idle e e g g refl refl refl)
    (removal_alike d e f start stop false))

-- ---- undo and redo

undo_alike : (e f : Editor) (past : List Edit) → Alike e (after_undo e past) (having (lasting e) f) (after_undo (having (lasting e) f) past)
undo_alike e f [] = idle e (after_undo e []) (having (lasting e) f) (after_undo (having (lasting e) f) []) refl refl refl
undo_alike e f (edit ∷ past) = record { lasts = refl; deeds = TakesStep history.Undo ∷ []; first = refl; other = refl }

redo_alike : (e f : Editor) (future : List Edit) → Alike e (after_redo e future) (having (lasting e) f) (after_redo (having (lasting e) f) future)
redo_alike e f [] = idle e (after_redo e []) (having (lasting e) f) (after_redo (having (lasting e) f) []) refl refl refl
redo_alike e f (edit ∷ future) = record { lasts = refl; deeds = TakesStep history.Redo ∷ []; first = refl; other = refl }

pub step_alike : (step : HistoryStep) (e f : Editor) → Alike e (after_step step e) (having (lasting e) f) (after_step step (having (lasting e) f))
step_alike history.Undo e f = undo_alike e f e.content.past
step_alike history.Redo e f = redo_alike e f e.content.future

run_alike : (step : HistoryStep) (e f : Editor) (change : Option Change)
    → Alike e (by_group step e change) (having (lasting e) f) (by_group step (having (lasting e) f) change)
run_alike step e f None = idle e (by_group step e None) (having (lasting e) f) (by_group step (having (lasting e) f) None) refl refl refl
run_alike history.Undo e f (Some change) = record { lasts = refl; deeds = TakesRun history.Undo ∷ []; first = refl; other = refl }
run_alike history.Redo e f (Some change) = record { lasts = refl; deeds = TakesRun history.Redo ∷ []; first = refl; other = refl }

pub runs_alike : (step : HistoryStep) (e f : Editor)
    → Alike e (by_group step e (next_changes step (group_length step e) e.content)) (having (lasting e) f)
    (by_group step (having (lasting e) f) (next_changes step (group_length step (having (lasting e) f)) e.content))
runs_alike history.Undo e f = run_alike history.Undo e f (next_changes history.Undo (group_length history.Undo e) e.content)
runs_alike history.Redo e f = run_alike history.Redo e f (next_changes history.Redo (group_length history.Redo e) e.content)

-- ---- the mark, and what it marks

pub mark_alike : (e f : Editor) → Alike e (after_mark e) (having (lasting e) f) (after_mark (having (lasting e) f))
mark_alike e f =
    let g = having (lasting e) f in
    let off : Editor → Editor = λ x. record x { mark = None; soft = softness.Off; message = Some MarkOff } in
    let set : Editor → Editor = λ x. record x { mark = Some x.place; soft = softness.Off; message = Some MarkSet } in
    either_alike (is_at_mark e.mark e.place) e (off e) (set e) g (off g) (set g) (idle e (off e) g (off g) refl refl refl)
    (idle e (set e) g (set g) refl refl refl)

pub select_alike : (e f : Editor) (mark : Option ℕ) (soft : Soft)
    → Alike e (selecting e mark soft) (having (lasting e) f) (selecting (having (lasting e) f) mark soft)
select_alike e f None soft = record { lasts = refl; deeds = []; first = refl; other = refl }
select_alike e f (Some mark) softness.Off = record { lasts = refl; deeds = []; first = refl; other = refl }
select_alike e f (Some mark) softness.Fresh = record { lasts = refl; deeds = []; first = refl; other = refl }
select_alike e f (Some mark) softness.Old = record { lasts = refl; deeds = []; first = refl; other = refl }

-- a mark that is no selection's is removed, and all else of a Copy follows
hard_alike : (e f : Editor) → Alike e (without_hard_mark e) (having (lasting e) f) (without_hard_mark (having (lasting e) f))
hard_alike e f =
    let g = having (lasting e) f in
    either_alike (is_soft e.soft) e e (without_mark e) g g (without_mark g) (idle e e g g refl refl refl)
    (idle e (without_mark e) g (without_mark g) refl refl refl)

held_alike : (e new f new' : Editor) (held : List ℕ) (whole_line : Bool) (m m' : Option Message) → Alike e new f new'
    → Alike e (record new { held = held; whole_line = whole_line; message = m }) f (record new' { held = held; whole_line = whole_line; message = m' })
held_alike e new f new' held whole_line m m' h =
    idle_on e new (record new { held = held; whole_line = whole_line; message = m }) f new' (record new' { held = held; whole_line = whole_line; message = m' })
    (λ (l : Lasting). record l { held = held; whole_line = whole_line }) refl refl refl refl h

with_held_alike : (e f : Editor) (held : List ℕ) (whole_line : Bool) (own : Message)
    → Alike e (with_held e held whole_line own) (having (lasting e) f) (with_held (having (lasting e) f) held whole_line own)
with_held_alike e f held whole_line own =
    let g = having (lasting e) f in
    held_alike e (without_hard_mark e) g (without_hard_mark g) held whole_line (held_message e.clipboard held (Some own)) (held_message g.clipboard held (Some own))
    (hard_alike e f)

pub copy_alike : (d : Data) (e f : Editor) → Alike e (after_copy d e) (having (lasting e) f) (after_copy d (having (lasting e) f))
copy_alike d e f =
    let g = having (lasting e) f in
    let none : Editor → Editor = λ x. record (without_hard_mark x) { message = Some NothingToCopy } in
    let one : Editor → Editor = λ x. with_held x (bytes_in e (line d e)) true LineCopied in
    let all : Editor → Editor = λ x. with_held x (bytes_in e (region e)) false Copied in
    either_alike (is_empty (region e)) e (if is_empty (line d e) then none e else one e) (all e) g (if is_empty (line d e) then none g else one g) (all g)
    (either_alike (is_empty (line d e)) e (none e) (one e) g (none g) (one g)
    (idle_on e (without_hard_mark e) (none e) g (without_hard_mark g) (none g) (λ (l : Lasting). l) refl refl refl refl (hard_alike e f))
    (with_held_alike e f (bytes_in e (line d e)) true LineCopied)) (with_held_alike e f (bytes_in e (region e)) false Copied)

pub cut_alike : (d : Data) (e f : Editor) → Alike e (after_cut d e) (having (lasting e) f) (after_cut d (having (lasting e) f))
cut_alike d e f =
    let g = having (lasting e) f in
    let part = taken d e in
    let bytes = bytes_in e part in
    let whole = is_empty (region e) in
    let told : Editor → Option Message = λ x. held_message x.clipboard bytes (Some messages.Cut) in
    let cut : Editor → Editor = λ x. record (with_removal d x part.0 part.1 false) { held = bytes; whole_line = whole; message = told x } in
    either_alike (is_empty part) e (after_copy d e) (cut e) g (after_copy d g) (cut g) (copy_alike d e f)
    (held_alike e (with_removal d e part.0 part.1 false) g (with_removal d g part.0 part.1 false) bytes whole (told e) (told g)
    (removal_alike d e f part.0 part.1 false))

pub next_alike : (d : Data) (e f : Editor) → let g = having (lasting e) f in
    Alike e (by d None (before e) e SeeksNext) g (by d None (before g) g SeeksNext)
next_alike d e f =
    let g = having (lasting e) f in
    let free = unselected e in
    let free' = unselected g in
    let found : Editor → Editor = λ x. search_from d (next_or_start d x) (sought_alone x) in
    either_alike (length (sought d free) == 0) e (after_beginning purposes.Find free) (found free) g (after_beginning purposes.Find free') (found free')
    (idle e (after_beginning purposes.Find free) g (after_beginning purposes.Find free') refl refl refl) (idle e (found free) g (found free') refl refl refl)

pub previous_alike : (d : Data) (e f : Editor) → let g = having (lasting e) f in
    Alike e (by d None (before e) e SeeksPrevious) g (by d None (before g) g SeeksPrevious)
previous_alike d e f =
    let g = having (lasting e) f in
    let free = unselected e in
    let free' = unselected g in
    let found : Editor → Editor = λ x. search_back d (sought_alone x) in
    either_alike (length (sought d free) == 0) e (after_beginning purposes.Find free) (found free) g (after_beginning purposes.Find free') (found free')
    (idle e (after_beginning purposes.Find free) g (after_beginning purposes.Find free') refl refl refl) (idle e (found free) g (found free') refl refl refl)
