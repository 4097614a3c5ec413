-- A key that ends a paste does what it does once the paste has ended.
use Rattle.std.proofs.Common.{◌≡◌, Bool, true, false, List, length, ℕ, Option, Some, None, refl, sym, ap, ◌∙◌, if◌then◌else◌}
use Rattle.std.specs.Prelude.{◌==◌}
use Rattle.bx_keys.specs.declared.key.Key.{Key}
use Rattle.bx_keys.specs.declared.key.Key.TheVariants.{Insert, Repaint}
use Rattle.bx_store.specs.declared.store.StoreFault.{StoreFault}
use Rattle.bx_ucd.specs.Data.{Data}
use Rattle.bx_editor.specs.declared.message.Message.TheVariants.{TextFull}
use Rattle.bx_editor.specs.Editor.{Editor, unpressed, with_insertion, with_typing}
use Rattle.bx_editor.specs.Keys.{after_in_paste, after_key, after_press, after_user, ends_paste}
use Rattle.bx_editor.specs.Putting.{ended_with, paste_ended, without_paste, has_room, put_in, with_selection_replaced}
use Rattle.bx_editor.specs.Region.{is_selection}
use Rattle.bx_editor.specs.declared.undo_groups.typing.Typing.TheVariants as typings
use Rattle.bx_editor_laws.specs.PastingLaws.{KeysEndPastes}
use Rattle.bx_editor.proofs.InSearch.{each-key, pressed-key}
use Rattle.bx_editor.proofs.Pasted.{ended-none}

-- ---- what the end of a paste leaves

either : (P : Editor → Type 0) (b : Bool) (p q : Editor) → P p → P q → P (if b then p else q)
either P true p q h k = h
either P false p q h k = k

module _ (d : Data) (e : Editor) (P : Editor → Type 0) (same : P e) (bare : P (without_paste e))
    (two : (list : List ℕ) → P (with_selection_replaced d (without_paste e) list))
    (one : (list : List ℕ) → P (with_insertion d (without_paste e) list false)) (full : P (record (without_paste e) { message = Some TextFull })) where
  by-list : (pasted : Option (List ℕ)) → P (ended_with d e pasted)
  by-list None = same
  by-list (Some list) =
      let left = without_paste e in
      let replaced = with_selection_replaced d left list in
      let inserted = with_insertion d left list false in
      either P (length list == 0) left (put_in d left list false) bare
      (either P (has_room left list) (if is_selection left then replaced else inserted) (record left { message = Some TextFull })
      (either P (is_selection left) replaced inserted (two list) (one list)) full)

  -- a property that it leaves
  pub ended-by : P (paste_ended d e)
  ended-by = by-list e.pasted

-- ---- the keys that end one

pub in-ends : (d : Data) (fault : Option StoreFault) (e : Editor) (key : Key) → ends_paste key ≡ true
    → after_in_paste d fault e key ≡ after_user d fault (paste_ended d e) key
in-ends d fault e (Insert c) ends = absurd (cc ends)
in-ends d fault e Repaint ends = absurd (cc ends)
in-ends d fault e key ends = refl

-- no paste is under way any more
pub over : (d : Data) (e : Editor) → (paste_ended d e).pasted ≡ None
over d e = ended-none d e e.pasted refl

-- where none is under way the editor is as it was
pub none-ended : (d : Data) (e : Editor) → e.pasted ≡ None → paste_ended d e ≡ e
none-ended d e none = ap (ended_with d e) none

press-ends : (d : Data) (fault : Option StoreFault) (e : Editor) (key : Key) (pasted : Option (List ℕ)) → e.pasted ≡ pasted → ends_paste key ≡ true
    → after_press d fault pasted e key ≡ after_user d fault (paste_ended d e) key
press-ends d fault e key None is ends = ap (λ x. after_user d fault x key) (sym (none-ended d e is))
press-ends d fault e key (Some list) is ends = in-ends d fault e key ends

pub ends-first : (d : Data) (fault : Option StoreFault) (e : Editor) (key : Key) → ends_paste key ≡ true
    → after_key d fault e key ≡ after_key d fault (paste_ended d e) key
ends-first d fault e =
    each-key d fault e (λ k new. ends_paste k ≡ true → new ≡ after_key d fault (paste_ended d e) k)
    (λ height width ends. absurd (cc ends)) (λ notice ends. absurd (cc ends)) (λ ends. absurd (cc ends)) (
      λ ends. absurd (cc ends),
      λ ends. ap (λ (x : Editor). unpressed (with_typing x typings.Off)) (sym (none-ended d (paste_ended d e) (over d e))),
    )
    (λ k small ends.
    press-ends d fault e k e.pasted refl ends
    ∙ sym (pressed-key d fault (paste_ended d e) k small ∙ ap (λ p. after_press d fault p (paste_ended d e) k) (over d e)))

pub keys-end-pastes : KeysEndPastes
keys-end-pastes d fault e key ends = record { same = ends-first d fault e key ends; over = over d e }
