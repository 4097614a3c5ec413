-- Putting back what was copied or cut.
use Rattle.std.proofs.Common.{◌≡◌, ℕ, ◌+◌, ◌-◌, ◌<◌, ◌≤◌, Bool, true, false, nat_le, List, [], ◌∷◌, ◌++◌, length, take, drop, slice_range, Some, None}
use Rattle.std.proofs.Common.{refl, sym, ap, ap₂, subst, ◌∙◌, arith, append_assoc, length-append, length-drop, ⊎_elim}
use Rattle.std.specs.Prelude.{◌==◌, ◌&&◌, not, if◌then◌else◌, unwrap_or}
use Rattle.std.proofs.lemmas.Bool.{cases_lt, le-leb}
use Rattle.std.proofs.lemmas.Bool.Decides.{nat_tests}
use Rattle.std.proofs.lemmas.List.{append-nil, drop-drop, drop_at, length-take-le, take-append-drop, take_at}
use Rattle.bx_common.specs.Characters.{largest_text}
use Rattle.bx_keys.specs.declared.key.Key.TheVariants.{Copy, Cut, Put}
use Rattle.bx_text.specs.Edits.{fits, splice}
use Rattle.bx_editor.specs.declared.message.Message.TheVariants as messages
use Rattle.bx_editor.specs.declared.message.Message.TheVariants.{Copied, LineCopied, NothingToCopy, NothingToPut, TextFull}
use Rattle.bx_ucd.specs.Data.{Data}
use Rattle.bx_editor.specs.Asking.{without_prompt}
use Rattle.bx_editor.specs.Editor.{Editor, cleared, place_after, with_insertion, with_removal}
use Rattle.bx_editor.specs.PasteLaws.{cuts_in}
use Rattle.bx_editor.specs.Putting.{after_put, as_line, put_in, put_line, puts_line, with_selection_replaced}
use Rattle.bx_editor.specs.Region.{is_selection, is_soft, after_copy, bytes_in, held_message, is_empty, line, region, taken, with_held, without_hard_mark, without_mark}
use Rattle.bx_editor.specs.Keys.{after_key}
use Rattle.bx_editor.specs.Functions.{after_keys}
use Rattle.bx_editor_laws.specs.Laws.{CopyPutsTwice, HasPut, IsPart, PutRestoresCut, twice}
use Rattle.bx_editor_laws.proofs.KeyEnds.{behind as left_behind, free-done, plain-done}

-- ---- a part of a list

module _ (text : List ℕ) (a b : ℕ) (order : a ≤ b) (inside : b ≤ length text) where
  abbrev part : List ℕ
  part = slice_range text a b

  behind : part ++ drop b text ≡ drop a text
  behind =
      let there : a + (b - a) ≡ b = omega (arith, order) in
      ap (λ xs. part ++ xs) (sym (drop-drop (b - a) a text ∙ ap (λ n. drop n text) there)) ∙ take-append-drop (b - a) (drop a text)

  whole : take a text ++ (part ++ drop b text) ≡ text
  whole = ap (λ xs. take a text ++ xs) behind ∙ take-append-drop a text

  ahead-length : length (take a text) ≡ a
  ahead-length = length-take-le a text (omega (arith, order, inside))

  part-length : length part ≡ b - a
  part-length = omega (arith, order, inside, ahead-length, length-drop b text, length-append part (drop b text), ap length behind, length-drop a text)

  ahead : take b text ≡ take a text ++ part
  ahead =
      let long : length (take a text ++ part) ≡ b = omega (arith, order, ahead-length, part-length, length-append (take a text) part) in
      ap (take b) (sym whole ∙ sym (append_assoc (take a text) part (drop b text))) ∙ take_at (take a text ++ part) (drop b text) b long

  -- put in again at either end
  twice-at-start : splice text a a part ≡ take a text ++ part ++ part ++ drop b text
  twice-at-start = ap (λ xs. (take a text ++ part) ++ xs) (sym behind) ∙ sym (append_assoc (take a text ++ part) part (drop b text))

  twice-at-end : splice text b b part ≡ take a text ++ part ++ part ++ drop b text
  twice-at-end = ap (λ xs. (xs ++ part) ++ drop b text) ahead

  -- taken out and put in again
  without-part : splice text a b [] ≡ take a text ++ drop b text
  without-part = ap (λ xs. xs ++ drop b text) (append-nil (take a text))

  back : splice (splice text a b []) a a part ≡ text
  back =
      let front = take_at (take a text) (drop b text) a ahead-length in
      let rest = drop_at (take a text) (drop b text) a ahead-length in
      ap (λ t. splice t a a part) without-part ∙ ap₂ (λ xs ys. (xs ++ part) ++ ys) front rest
      ∙ append_assoc (take a text) part (drop b text) ∙ whole

-- ---- Put

is-some : (held : List ℕ) → 0 < length held → (length held == 0) ≡ false
is-some held more = grind (arith, nat_tests)

-- Put inserts held bytes that have room
put-has : (d : Data) (e : Editor) (text : List ℕ) (offset : ℕ) → e.whole_line ≡ false → is_selection e ≡ false → 0 < length e.held → fits e.content.text e.place e.place e.held ≡ true
    → splice e.content.text e.place e.place e.held ≡ text → e.place + length e.held ≡ offset → HasPut d e text offset (after_put d e)
put-has d e text offset part alone some room same at =
    let none : Editor = record e { message = Some NothingToPut } in
    let full : Editor = record e { message = Some TextFull } in
    let in_place = with_selection_replaced d e e.held in
    let done = with_insertion d e e.held false in
    let is : after_put d e ≡ done =
    ap (λ b. if b then none else if puts_line e then put_line d e (as_line d e e.held) else put_in d e e.held false) (is-some e.held some)
    ∙ ap (λ w. if w && not (is_selection e) then put_line d e (as_line d e e.held) else put_in d e e.held false) part
    ∙ ap (λ b. let part = if b then region e else (e.place, e.place) in
    if fits e.content.text part.0 part.1 e.held then (if b then in_place else done) else full) alone
    ∙ ap (λ b. if b then done else full) room in
    subst (HasPut d e text offset) (sym is) (record { text_is = same; place_is = ap₂ (place_after d e) same at; mark_is = refl })

has-room : (text : List ℕ) (place : ℕ) (new : List ℕ) → length text + length new ≤ largest_text → fits text place place new ≡ true
has-room text place new h =
    let e : length text - (place - place) + length new ≡ length text + length new = omega arith in
    ap (λ n. nat_le n largest_text) e ∙ le-leb (length text + length new) largest_text h

is-there : (e : Editor) (part : ℕ × ℕ) → IsPart e part → is_empty part ≡ false
is-there e (a, b) h = let less : a < b = h.some in grind (arith, nat_tests)

-- ---- Copy and Put

pub copy-puts-twice : CopyPutsTwice
copy-puts-twice d e unasked off settled writes hard is fit =
    let text = e.content.text in
    let a = (region e).0 in
    let b = (region e).1 in
    let r = bytes_in e (region e) in
    let was = cleared e in
    let none : Editor = record (without_hard_mark was) { message = Some NothingToCopy } in
    let one = with_held was (bytes_in e (line d e)) true LineCopied in
    let copied-in : Editor → Editor =
    λ x. record x { held = r; whole_line = false; message = held_message e.clipboard r (Some Copied) } in
    let held = left_behind (copied-in (without_mark was)) in
    let order : a ≤ b = omega (arith, is.some) in
    let long : length r ≡ b - a = part-length text a b order is.inside in
    let twice-is : (k : ℕ) → k ≡ a → splice text k k r ≡ twice e (region e) =
    λ k same. subst (λ n. splice text n n r ≡ twice e (region e)) (sym same) (twice-at-start text a b order is.inside) in
    let at-end : (k : ℕ) → k ≡ b → splice text k k r ≡ twice e (region e) =
    λ k same. subst (λ n. splice text n n r ≡ twice e (region e)) (sym same) (twice-at-end text a b order is.inside) in
    let m = unwrap_or e.mark e.place in
    let put : splice text e.place e.place r ≡ twice e (region e) =
    ⊎_elim (λ less. at-end e.place (omega (arith, less))) (λ more. twice-is e.place (omega (arith, more))) (cases_lt m e.place) in
    let size : length text + length r ≡ length (twice e (region e)) =
    omega (
      arith,
      long,
      order,
      is.inside,
      ahead-length text a b order is.inside,
      length-append (take a text ++ r ++ r) (drop b text),
      length-append (take a text ++ r) r,
      length-append (take a text) r,
      length-drop b text,
    ) in
    let copied : after_key d None e Copy ≡ held =
    free-done d None e Copy settled refl refl unasked off writes
    ∙ ap (λ x. left_behind (if x then (if is_empty (line d e) then none else one) else with_held was r false Copied)) (is-there e (region e) is)
    ∙ ap (λ s. left_behind (copied-in (if is_soft s then was else without_mark was))) hard in
    let pressed : after_keys d None e (Copy ∷ Put ∷ []) ≡ left_behind (after_put d (cleared held)) =
    ap (λ new. after_key d None new Put) copied ∙ free-done d None held Put settled refl refl unasked off writes in
    let room = has-room text e.place r (omega (arith, size, fit)) in
    let done = put-has d (cleared held) (twice e (region e)) (e.place + length r) refl refl (omega (arith, long, is.some)) room put refl in
    subst (HasPut d e (twice e (region e)) (e.place + length r)) (sym pressed)
    (record { text_is = done.text_is; place_is = done.place_is; mark_is = done.mark_is })

-- ---- Cut and Put

both-true : (a b : Bool) → (a && not b) ≡ true → (a ≡ true) × (b ≡ false)
both-true true true h = absurd (cc h)
both-true true false h = (refl, refl)
both-true false b h = absurd (cc h)

pub put-restores-cut : PutRestoresCut
put-restores-cut d e settled can is short there =
    let text = e.content.text in
    let a = (region e).0 in
    let b = (region e).1 in
    let r = bytes_in e (region e) in
    let was = without_prompt (cleared e) in
    let works = both-true (cuts_in e.prompt e.search_state) e.read_only can in
    let there-is : is_empty (region e) ≡ false = is-there e (region e) is in
    let after = place_after d was (splice text a b []) a in
    let without = with_removal d was a b false in
    let told = held_message e.clipboard r (Some messages.Cut) in
    let cut = left_behind (record without { held = r; whole_line = false; message = told }) in
    let order : a ≤ b = omega (arith, is.some) in
    let long : length r ≡ b - a = part-length text a b order is.inside in
    let cut-part : ℕ × ℕ → Bool → Editor = λ part whole.
    record (with_removal d was part.0 part.1 false) {
      held = bytes_in e part;
      whole_line = whole;
      message = held_message e.clipboard (bytes_in e part) (Some messages.Cut);
    } in
    let taken-is : taken d e ≡ region e = ap (λ x. if x then line d e else region e) there-is in
    let same : after_key d None e Cut ≡ cut =
    plain-done d None e Cut settled refl refl refl works.0 works.1
    ∙ ap (λ part. left_behind (if is_empty part then after_copy d was else cut-part part (is_empty (region e)))) taken-is
    ∙ ap (λ x. left_behind (if x then after_copy d was else cut-part (region e) x)) there-is in
    let at : after ≡ a = sym (ap (λ (c : Editor). c.place) same) ∙ there in
    let size : length (splice text a b []) + length r ≡ length text =
    omega (
      arith,
      long,
      order,
      is.inside,
      ahead-length text a b order is.inside,
      ap length (without-part text a b order is.inside),
      length-append (take a text) (drop b text),
      length-drop b text,
    ) in
    let pressed : after_keys d None e (Cut ∷ Put ∷ []) ≡ left_behind (after_put d (cleared cut)) =
    ap (λ c. after_key d None c Put) same ∙ free-done d None cut Put settled refl refl refl refl works.1 in
    let put : splice (splice text a b []) after after r ≡ text =
    ap (λ k. splice (splice text a b []) k k r) at ∙ back text a b order is.inside in
    let room = has-room (splice text a b []) after r (omega (arith, size, short)) in
    let done = put-has d (cleared cut) text b refl refl (omega (arith, long, is.some)) room put (omega (arith, at, long, order)) in
    subst (HasPut d e text b) (sym pressed) (record { text_is = done.text_is; place_is = done.place_is; mark_is = done.mark_is })
