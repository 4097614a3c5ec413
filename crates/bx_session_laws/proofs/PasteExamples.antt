-- A worked example, key by key: what a journal that ends in a paste leaves of runs.
use Rattle.std.proofs.Common.{◌≡◌, ℕ, true, List, [], ◌∷◌, ◌++◌, refl, ap, ◌∙◌}
use Rattle.std.specs.Prelude.{codes}
use Rattle.std.specs.Fmt.{digits}
use Rattle.unicode_segmentation.proofs.Computing.{unicode_segmentation}
use Rattle.unicode_width.proofs.Computing.{unicode_width}
use Rattle.bx_common.specs.declared.base.Base.TheVariants.{Auto}
use Rattle.bx_keys.specs.declared.key.Key.{Key}
use Rattle.bx_keys.specs.declared.key.Key.TheVariants.{Insert, PasteStart, Undo}
use Rattle.bx_text.specs.Edits.{Edit, edit_of}
use Rattle.bx_editor.specs.declared.undo_groups.typing.Typing.{Typing}
use Rattle.bx_editor.specs.declared.undo_groups.typing.Typing.TheVariants as typings
use Rattle.bx_editor.specs.Editor.{Editor, at_start}
use Rattle.bx_editor.specs.Putting.{paste_ended}
use Rattle.bx_editor.specs.Replay.{at_replay_end}
use Rattle.bx_editor.proofs.Computed.{tables}
use Rattle.bx_session.specs.Inputs.{keys_in, presses_from}
use Rattle.bx_session.specs.Replaying.{after_all_replayed, after_journal}
use Rattle.bx_session.proofs.Computed.{csi, start}
use Rattle.bx_session.proofs.Replayed.{keys_in_parts, replays_keys}

-- an editor whose text was typed by these edits, the latest first, in runs that begin there
abbrev typed_by : List ℕ → List Edit → ℕ → List ℕ → Typing → Editor
typed_by text past place runs typing = record (at_start [] 2 20 Auto) {
  content = record { text = text; past = past; future = [] };
  place = place;
  undo_groups = runs;
  typing = typing;
  changed = true;
}

abbrev first_edits : List Edit
first_edits = edit_of (codes "ab") 2 2 (codes " ") 2 3 ∷ edit_of (codes "a") 1 1 (codes "b") 1 2 ∷ edit_of [] 0 0 (codes "a") 0 1 ∷ []

abbrev first_word : Editor
first_word = typed_by (codes "ab ") first_edits 3 (0 ∷ []) typings.Blanks

abbrev both_words : Editor
both_words =
    typed_by (codes "ab cd") (edit_of (codes "ab c") 4 4 (codes "d") 4 5 ∷ edit_of (codes "ab ") 3 3 (codes "c") 3 4 ∷ first_edits) 5 (0 ∷ 3 ∷ [])
    typings.Word

abbrev first_keys : List Key
first_keys = Insert 0x61 ∷ Insert 0x62 ∷ Insert 0x20 ∷ []

abbrev next_keys : List Key
next_keys = Insert 0x63 ∷ Insert 0x64 ∷ []

abbrev last_keys : List Key
last_keys = Undo ∷ PasteStart ∷ Insert 0x65 ∷ []

first_typed : after_all_replayed tables (at_start [] 2 20 Auto) first_keys ≡ first_word
unfolding unicode_segmentation unicode_width digits
first_typed = refl

next_typed : after_all_replayed tables first_word next_keys ≡ both_words
unfolding unicode_segmentation unicode_width digits
next_typed = refl

-- text, its future, where runs begin, and what the next edit may go on with
abbrev left : Editor → List ℕ × List Edit × List ℕ × Typing
left e = (e.content.text, e.content.future, e.undo_groups, e.typing)

last_left : left (at_replay_end (paste_ended tables (after_all_replayed tables both_words last_keys))) ≡ (codes "ab e", [], 0 ∷ 3 ∷ [], typings.Off)
unfolding unicode_segmentation unicode_width digits
last_left = refl

-- `ab cd`, Undo, PasteStart, `e`
abbrev journal : List ℕ
journal = codes "ab cd" ++ csi (codes "82~") ++ csi (codes "90~") ++ codes "e"

keys_are : keys_in (presses_from [] journal) ≡ first_keys ++ (next_keys ++ last_keys)
keys_are = refl

pub a_paste_is_over_at_the_end : left (after_journal tables (start [] 2 20) (presses_from [] journal)).editor ≡ (codes "ab e", [], 0 ∷ 3 ∷ [], typings.Off)
a_paste_is_over_at_the_end =
    let opened = at_start [] 2 20 Auto in
    ap (λ (e : Editor). left (at_replay_end (paste_ended tables e)))
    (replays_keys tables (start [] 2 20) (presses_from [] journal) refl
    ∙ ap (after_all_replayed tables opened) keys_are
    ∙ keys_in_parts tables opened first_keys (next_keys ++ last_keys)
    ∙ ap (λ (e : Editor). after_all_replayed tables e (next_keys ++ last_keys)) first_typed
    ∙ keys_in_parts tables first_word next_keys last_keys
    ∙ ap (λ (e : Editor). after_all_replayed tables e last_keys) next_typed)
    ∙ last_left
