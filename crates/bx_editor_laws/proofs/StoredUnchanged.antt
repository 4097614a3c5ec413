-- Undo and Redo find the stored text unchanged as long as it is in reach.
use Rattle.std.proofs.Common.{◌≡◌, ℕ, true, false, List, [], length, replicate, refl, sym, ap, ap₂, ◌∙◌, arith, ne_eqb, inr}
use Rattle.std.specs.Prelude.{◌≢◌, ◌==◌, ◌&&◌, not, None}
use Rattle.std.proofs.lemmas.Bool.Decides.{nat_tests}
use Rattle.bx_keys.specs.declared.key.Key.{Key}
use Rattle.bx_keys.specs.declared.key.Key.TheVariants.{RedoEdit, Redo, UndoEdit, Undo}
use Rattle.bx_editor.specs.declared.answer.Answer.TheVariants as answers
use Rattle.bx_editor.specs.Answering.{answer_of}
use Rattle.bx_text.specs.Edits.{Edit}
use Rattle.bx_ucd.specs.Data.{Data}
use Rattle.bx_editor.specs.Editor.{Editor, at_start, is_changed_at}
use Rattle.bx_editor.specs.Keys.{after_key, is_save}
use Rattle.bx_editor.specs.Functions.{after_keys}
use Rattle.bx_editor_laws.specs.Laws.{after_typing}
use Rattle.bx_editor_laws.specs.RunLaws.{redos, saving_editor, undos}
use Rattle.bx_editor_laws.specs.StoredLaws.{CountsChanges, RunsCountChanges, StoredIsUnchanged, stores}
use Rattle.bx_editor_laws.proofs.ReachEffects.{InReach}
use Rattle.bx_editor_laws.proofs.ReachKeys.{all-stay, key-stays}
use Rattle.bx_editor_laws.proofs.StoredKeys.{told-saves}
use Rattle.bx_editor_laws.proofs.StoredNow.{key-stores}
use Rattle.bx_editor_laws.proofs.RunKeys.{run-keys-are-steps}

module _ (n : ℕ) (d : Data) where
  abbrev counted : Editor → Editor
  counted all = record all { changed = is_changed_at (length all.content.past) all.stored }

  told : (new all : Editor) → InReach n d new → new ≡ counted all → new.changed ≡ not (length new.content.past == n)
  told new all h is =
      ap (λ (x : Editor). x.changed) is
      ∙ ap₂ is_changed_at (sym (ap (λ (x : Editor). length x.content.past) is)) (sym (ap (λ (x : Editor). x.stored) is) ∙ h)

  alike : (m : ℕ) → m ≡ n → not (m == n) ≡ false
  alike m same = grind (arith, nat_tests, same)

  counts : (edits : List Edit) (new : Editor) → (edits ≢ [] → new.changed ≡ not (length new.content.past == n)) → CountsChanges n edits new
  counts edits new is = record {
    stored = λ some same. is some ∙ alike (length new.content.past) same;
    other = λ some apart. is some ∙ ap not (ne_eqb (length new.content.past) n apart);
  }

  -- such a key stores nothing
  run-stores : (e : Editor) (key : Key) → answer_of key ≡ answers.Ends → is_save key ≡ false → stores d e (key, None) ≡ false
  run-stores e key ends plain =
      ap (λ b. b && true) (told-saves (saving_editor d e key) key ends plain)

  runs-count : (e : Editor) → InReach n d e → RunsCountChanges d n e
  runs-count e h settled asked writes =
      let all = run-keys-are-steps d e settled asked writes in
      let undone = after_key d None e Undo in
      let redone = after_key d None e Redo in
      let undone-in : InReach n d undone = key-stays n d None e Undo h (inr (refl, settled)) (run-stores e Undo refl refl) in
      let redone-in : InReach n d redone = key-stays n d None e Redo h (inr (refl, settled)) (run-stores e Redo refl refl) in
      let undos-made = after_keys d None e (replicate (undos e) UndoEdit) in
      let redos-made = after_keys d None e (replicate (redos e) RedoEdit) in (
        counts e.content.past undone (λ some. told undone undos-made undone-in (all.undo.many some)),
        counts e.content.future redone (λ some. told redone redos-made redone-in (all.redo.many some)),
      )

-- ---- the law

pub stored-is-unchanged : StoredIsUnchanged
stored-is-unchanged = record {
  saved =
      λ d e key typed is stays.
      let start = after_key d None e key in
      let n = length start.content.past in
      runs-count n d (after_typing d start typed) (all-stay n d start typed (key-stores d e key is) stays);
  opened =
      λ d text height width base typed stays.
      let start = at_start text height width base in
      runs-count 0 d (after_typing d start typed) (all-stay 0 d start typed refl stays);
}
