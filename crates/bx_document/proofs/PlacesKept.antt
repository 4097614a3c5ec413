-- The places of edits are places of their texts, also after an edit, an undo or a redo.
use Rattle.std.proofs.Common.{◌≡◌, ℕ, zero, suc, ◌+◌, ◌-◌, ◌≤◌, List, [], ◌∷◌, ◌++◌, length, take, drop, map, slice_range, None, Some, All, refl, sym, ap}
use Rattle.std.proofs.Common.{subst, ◌∙◌, append_assoc, arith}
use Rattle.std.proofs.lemmas.List.{drop-append-le, drop-take, length-take-le, take-append-le, take-take}
use Rattle.std.specs.List.{fold, reduce}
use Rattle.std.specs.Prelude.{is_some}
use Rattle.std.proofs.lemmas.List.Elements.{All-cons, All-head, All-nil, All-tail}
use Rattle.std.proofs.lemmas.Option.{none-some, same_Some}
use Rattle.bx_ucd.specs.Data.{Data}
use Rattle.bx_text.specs.declared.change.Change.{Change}
use Rattle.bx_text.specs.Edits.{Edit, Edited, change_back, change_of, edit_of, inserted, redone}
use Rattle.bx_text.specs.Changes.{first_again, first_back, exchanged}
use Rattle.bx_text.specs.Edits.{redone_in, removed, replaced, splice, undone, undone_in, wrapped, merged, next_redos, next_undos}
use Rattle.bx_text.specs.Edits.{redone_times, undone_times}
use Rattle.bx_text.proofs.UndoneTimes.{no_redo, no_undo, nothing_redone, nothing_undone}
use Rattle.bx_view.specs.Places.{IsTextPlace}
use Rattle.bx_document.specs.declared.history.HistoryStep.{HistoryStep}
use Rattle.bx_document.specs.declared.history.HistoryStep.TheVariants.{Undo, Redo}
use Rattle.bx_document.specs.Document.{DocumentState}
use Rattle.bx_document.specs.Swapped.{wrapped_text}
use Rattle.bx_document.specs.History.{next_changes, stepped_times}
use Rattle.bx_document.specs.Past.{next_change, stepped, HasPlaces, KeepsPlaces}

module _ (ucd : Data) where
  abbrev Is : Edit → Type 0
  Is e = HasPlaces ucd e

  keeps_back : (past : List Edit) (t : Edited) → t.past ≡ past → KeepsPlaces ucd t → KeepsPlaces ucd (undone_in t past)
  keeps_back [] t e h = h
  keeps_back (f ∷ past) t e h =
      let all : All Is (f ∷ past) = subst (All Is) e h.past in
      record { past = All-tail Is f past all; future = All-cons Is f t.future (All-head Is f past all) h.future }

  keeps_again : (future : List Edit) (t : Edited) → t.future ≡ future → KeepsPlaces ucd t → KeepsPlaces ucd (redone_in t future)
  keeps_again [] t e h = h
  keeps_again (f ∷ future) t e h =
      let all : All Is (f ∷ future) = subst (All Is) e h.future in
      record { past = All-cons Is f t.past (All-head Is f future all) h.past; future = All-tail Is f future all }

  pub keeps_stepped : (step : HistoryStep) (t u : Edited) → u ≡ stepped step t → KeepsPlaces ucd t → KeepsPlaces ucd u
  keeps_stepped Undo t u e h = subst (KeepsPlaces ucd) (sym e) (keeps_back t.past t refl h)
  keeps_stepped Redo t u e h = subst (KeepsPlaces ucd) (sym e) (keeps_again t.future t refl h)

  place_back : (past : List Edit) (t : Edited) (c : Change) → All Is past → Some c ≡ first_back past → IsTextPlace ucd ((undone_in t past).text) c.place
  place_back [] t c all e = absurd (none-some c (sym e))
  place_back (f ∷ past) t c all e =
      let is : c.place ≡ f.before.place = ap (λ (k : Change). k.place) (same_Some c (change_back f) e) in
      let b : HasPlaces ucd f = All-head Is f past all in subst (IsTextPlace ucd f.before.text) (sym is) b.before

  place_again : (future : List Edit) (t : Edited) (c : Change) → All Is future → Some c ≡ first_again future
      → IsTextPlace ucd ((redone_in t future).text) c.place
  place_again [] t c all e = absurd (none-some c (sym e))
  place_again (f ∷ future) t c all e =
      let is : c.place ≡ f.after.place = ap (λ (k : Change). k.place) (same_Some c (change_of f) e) in
      let b : HasPlaces ucd f = All-head Is f future all in subst (IsTextPlace ucd f.after.text) (sym is) b.after

  -- an undo leads to a place of the text that it restores, and so does a redo
  pub place_stepped : (step : HistoryStep) (t u : Edited) (c : Change) → u ≡ stepped step t → KeepsPlaces ucd t → Some c ≡ next_change step t
      → IsTextPlace ucd u.text c.place
  place_stepped Undo t u c e h f = subst (λ (v : Edited). IsTextPlace ucd v.text c.place) (sym e) (place_back t.past t c h.past f)
  place_stepped Redo t u c e h f = subst (λ (v : Edited). IsTextPlace ucd v.text c.place) (sym e) (place_again t.future t c h.future f)

  -- ---- many steps

  keeps_undone : (n : ℕ) (t : Edited) → KeepsPlaces ucd t → KeepsPlaces ucd (undone_times n t)
  keeps_undone zero t h = h
  keeps_undone (suc n) t h = keeps_undone n (undone t) (keeps_back t.past t refl h)

  keeps_redone : (n : ℕ) (t : Edited) → KeepsPlaces ucd t → KeepsPlaces ucd (redone_times n t)
  keeps_redone zero t h = h
  keeps_redone (suc n) t h = keeps_redone n (redone t) (keeps_again t.future t refl h)

  pub keeps_times : (step : HistoryStep) (n : ℕ) (t u : Edited) → u ≡ stepped_times step n t → KeepsPlaces ucd t → KeepsPlaces ucd u
  keeps_times Undo n t u e h = subst (KeepsPlaces ucd) (sym e) (keeps_undone n t h)
  keeps_times Redo n t u e h = subst (KeepsPlaces ucd) (sym e) (keeps_redone n t h)

  -- the place of the last of many changes
  back_from : (n : ℕ) (past : List Edit) (text : List ℕ) (future : List Edit) (c : Change) → All Is past → IsTextPlace ucd text c.place
      → IsTextPlace ucd ((undone_times n (record { text = text; past = past; future = future })).text)
      ((fold merged c (map change_back (take n past))).place)
  back_from zero past text future c all h = h
  back_from (suc n) [] text future c all h = subst (λ (t : Edited). IsTextPlace ucd t.text c.place) (sym (no_undo n text future)) h
  back_from (suc n) (f ∷ past) text future c all h =
      let b : HasPlaces ucd f = All-head Is f past all in
      back_from n past f.before.text (f ∷ future) (merged c (change_back f)) (All-tail Is f past all) b.before

  again_from : (n : ℕ) (future : List Edit) (text : List ℕ) (past : List Edit) (c : Change) → All Is future → IsTextPlace ucd text c.place
      → IsTextPlace ucd ((redone_times n (record { text = text; past = past; future = future })).text)
      ((fold merged c (map change_of (take n future))).place)
  again_from zero future text past c all h = h
  again_from (suc n) [] text past c all h = subst (λ (t : Edited). IsTextPlace ucd t.text c.place) (sym (no_redo n text past)) h
  again_from (suc n) (f ∷ future) text past c all h =
      let b : HasPlaces ucd f = All-head Is f future all in
      again_from n future f.after.text (f ∷ past) (merged c (change_of f)) (All-tail Is f future all) b.after

  back_first : (n : ℕ) (past : List Edit) (text : List ℕ) (future : List Edit) (c : Change) → All Is past
      → Some c ≡ next_undos n (record { text = text; past = past; future = future })
      → IsTextPlace ucd ((undone_times n (record { text = text; past = past; future = future })).text) c.place
  back_first zero past text future c all e = absurd (none-some c (sym e))
  back_first (suc n) [] text future c all e = absurd (none-some c (sym e))
  back_first (suc n) (f ∷ past) text future c all e =
      let b : HasPlaces ucd f = All-head Is f past all in
      let whole = fold merged (change_back f) (map change_back (take n past)) in
      subst (λ (k : Change). IsTextPlace ucd ((undone_times n (record { text = f.before.text; past = past; future = f ∷ future })).text) k.place)
      (sym (same_Some c whole e)) (back_from n past f.before.text (f ∷ future) (change_back f) (All-tail Is f past all) b.before)

  again_first : (n : ℕ) (future : List Edit) (text : List ℕ) (past : List Edit) (c : Change) → All Is future
      → Some c ≡ next_redos n (record { text = text; past = past; future = future })
      → IsTextPlace ucd ((redone_times n (record { text = text; past = past; future = future })).text) c.place
  again_first zero future text past c all e = absurd (none-some c (sym e))
  again_first (suc n) [] text past c all e = absurd (none-some c (sym e))
  again_first (suc n) (f ∷ future) text past c all e =
      let b : HasPlaces ucd f = All-head Is f future all in
      let whole = fold merged (change_of f) (map change_of (take n future)) in
      subst (λ (k : Change). IsTextPlace ucd ((redone_times n (record { text = f.after.text; past = f ∷ past; future = future })).text) k.place)
      (sym (same_Some c whole e)) (again_from n future f.after.text (f ∷ past) (change_of f) (All-tail Is f future all) b.after)

  pub place_times : (step : HistoryStep) (n : ℕ) (t u : Edited) (c : Change) → u ≡ stepped_times step n t → KeepsPlaces ucd t
      → Some c ≡ next_changes step n t → IsTextPlace ucd u.text c.place
  place_times Undo n t u c e h f =
      subst (λ (v : Edited). IsTextPlace ucd v.text c.place) (sym e) (back_first n t.past t.text t.future c h.past f)
  place_times Redo n t u c e h f =
      subst (λ (v : Edited). IsTextPlace ucd v.text c.place) (sym e) (again_first n t.future t.text t.past c h.future f)

  -- ---- edits

  pub keeps_replaced : (t : Edited) (start stop : ℕ) (new : List ℕ) (before after : ℕ) → KeepsPlaces ucd t → IsTextPlace ucd t.text before
      → IsTextPlace ucd (splice t.text start stop new) after → KeepsPlaces ucd (replaced t start stop new before after)
  keeps_replaced t start stop new before after h was is =
      let edit = edit_of t.text start stop new before after in
      let places : HasPlaces ucd edit = record { before = was; after = is } in
      record { past = All-cons Is edit t.past places h.past; future = All-nil Is }

-- one step is a step
one_back : (past : List Edit) → reduce merged (map change_back (take 1 past)) ≡ first_back past
one_back [] = refl
one_back (f ∷ past) = refl

one_again : (future : List Edit) → reduce merged (map change_of (take 1 future)) ≡ first_again future
one_again [] = refl
one_again (f ∷ future) = refl

pub next_one : (step : HistoryStep) (t : Edited) → next_changes step 1 t ≡ next_change step t
next_one Undo t = one_back t.past
next_one Redo t = one_again t.future

pub stepped_one : (step : HistoryStep) (t : Edited) → stepped_times step 1 t ≡ stepped step t
stepped_one Undo t = refl
stepped_one Redo t = refl

-- where no step is made, nothing changes; `inner` is the opened value of the document `now`
nothing_stepped : (step : HistoryStep) (n : ℕ) (t : Edited) → None ≡ next_changes step n t → t ≡ stepped_times step n t
nothing_stepped Undo n t e = sym (nothing_undone n t.text t.past t.future (ap is_some (sym e)))
nothing_stepped Redo n t e = sym (nothing_redone n t.text t.past t.future (ap is_some (sym e)))

pub nothing_changed : {D : Type 0} (inner now : DocumentState D) (step : HistoryStep) (n : ℕ) → inner ≡ now
    → None ≡ next_changes step n inner.document.content
    → inner ≡ record now { document = record now.document { content = stepped_times step n now.document.content } }
nothing_changed {D} inner now step n same none =
    let t = inner.document in
    let kept : inner.document.content ≡ stepped_times step n inner.document.content = nothing_stepped step n inner.document.content none in
    ap (λ (x : Edited). record inner { document = record t { content = x } }) kept
    ∙ ap (λ (s : DocumentState D). record s { document = record s.document { content = stepped_times step n s.document.content } }) same

-- after an edit with places of both texts; `inner` is the opened value of the document `now`
pub keeps_edited : {D : Type 0} (ucd : D → Data) (inner now : DocumentState D) (u : Edited) (start stop : ℕ) (new : List ℕ) (before after : ℕ)
    → inner ≡ now → u ≡ replaced inner.document.content start stop new before after → KeepsPlaces (ucd inner.tables) inner.document.content
    → IsTextPlace (ucd now.tables) now.document.content.text before
    → IsTextPlace (ucd now.tables) (splice now.document.content.text start stop new) after → KeepsPlaces (ucd inner.tables) u
keeps_edited {D} ucd inner now u start stop new before after same e h was is =
    subst (KeepsPlaces (ucd inner.tables)) (sym e)
    (keeps_replaced (ucd inner.tables) inner.document.content start stop new before after h
    (subst (λ (s : DocumentState D). IsTextPlace (ucd s.tables) s.document.content.text before) (sym same) was)
    (subst (λ (s : DocumentState D). IsTextPlace (ucd s.tables) (splice s.document.content.text start stop new) after) (sym same) is))

-- after bytes were removed, and others inserted at an offset of the text without them
pub keeps_exchanged : {D : Type 0} (ucd : D → Data) (inner now : DocumentState D) (u : Edited) (start stop at : ℕ) (new : List ℕ)
    (place between after : ℕ)
    → inner ≡ now → u ≡ exchanged inner.document.content start stop at new place between after
    → KeepsPlaces (ucd inner.tables) inner.document.content
    → IsTextPlace (ucd now.tables) now.document.content.text place
    → IsTextPlace (ucd now.tables) (splice now.document.content.text start stop []) between
    → IsTextPlace (ucd now.tables) (splice (splice now.document.content.text start stop []) at at new) after → KeepsPlaces (ucd inner.tables) u
keeps_exchanged {D} ucd inner now u start stop at new place between after same e h was mid is =
    let t = inner.document.content in
    let by : Data = ucd inner.tables in
    let was' = subst (λ (s : DocumentState D). IsTextPlace (ucd s.tables) s.document.content.text place) (sym same) was in
    let mid' = subst (λ (s : DocumentState D). IsTextPlace (ucd s.tables) (splice s.document.content.text start stop []) between) (sym same) mid in
    let is' = subst (λ (s : DocumentState D). IsTextPlace (ucd s.tables)
    (splice (splice s.document.content.text start stop []) at at new) after) (sym same) is in
    subst (KeepsPlaces by) (sym e)
    (keeps_replaced by (removed t start stop place between) at at new between after (keeps_replaced by t start stop [] place between h was' mid')
    mid' is')

-- after bytes were wrapped
pub keeps_wrapped : {D : Type 0} (ucd : D → Data) (inner now : DocumentState D) (u : Edited) (start stop : ℕ) (front back : List ℕ)
    (place between after : ℕ)
    → inner ≡ now → u ≡ wrapped inner.document.content start stop front back place between after
    → KeepsPlaces (ucd inner.tables) inner.document.content
    → IsTextPlace (ucd now.tables) now.document.content.text place
    → IsTextPlace (ucd now.tables) (splice now.document.content.text stop stop back) between
    → IsTextPlace (ucd now.tables) (wrapped_text now.document.content.text start stop front back) after → KeepsPlaces (ucd inner.tables) u
keeps_wrapped {D} ucd inner now u start stop front back place between after same e h was mid is =
    let t = inner.document.content in
    let by : Data = ucd inner.tables in
    let was' = subst (λ (s : DocumentState D). IsTextPlace (ucd s.tables) s.document.content.text place) (sym same) was in
    let mid' = subst (λ (s : DocumentState D). IsTextPlace (ucd s.tables) (splice s.document.content.text stop stop back) between) (sym same) mid in
    let is' = subst (λ (s : DocumentState D). IsTextPlace (ucd s.tables) (wrapped_text s.document.content.text start stop front back) after) (sym same) is in
    subst (KeepsPlaces by) (sym e)
    (keeps_replaced by (inserted t stop back place between) start start front between after
    (keeps_replaced by t stop stop back place between h was' mid') mid' is')

-- the text around which both texts stand
pub wrapped_is : (text : List ℕ) (start stop : ℕ) (front back : List ℕ) → start ≤ stop → stop ≤ length text
    → splice text start stop (front ++ slice_range text start stop ++ back) ≡ wrapped_text text start stop front back
wrapped_is text start stop front back order inside =
    let mid = splice text stop stop back in
    let region = slice_range text start stop in
    let rest = back ++ drop stop text in
    let whole : mid ≡ take stop text ++ rest = append_assoc (take stop text) back (drop stop text) in
    let first : take start mid ≡ take start text =
    ap (take start) whole ∙ take-append-le start (take stop text) rest (omega (arith, length-take-le stop text inside))
    ∙ take-take start stop text order in
    let more : stop ≡ start + (stop - start) = omega arith in
    let second : drop start mid ≡ region ++ rest =
    ap (drop start) whole ∙ drop-append-le start (take stop text) rest (omega (arith, length-take-le stop text inside))
    ∙ ap (λ xs. xs ++ rest) (ap (λ n. drop start (take n text)) more ∙ drop-take start (stop - start) text) in
    append_assoc (take start text) (front ++ region ++ back) (drop stop text)
    ∙ ap (λ xs. take start text ++ xs)
    (append_assoc (front ++ region) back (drop stop text) ∙ append_assoc front region rest)
    ∙ sym (append_assoc (take start text) front (region ++ rest))
    ∙ sym (ap (λ xs. xs ++ front ++ drop start mid) first ∙ ap (λ xs. take start text ++ front ++ xs) second)
