-- Find and FindBack go to the nearest match.
use Rattle.std.proofs.Common.{◌≡◌, ◌⊎◌, inl, inr, ℕ, true, length, Option, Some, None, refl, sym, ap, subst}
use Rattle.std.specs.Prelude.{MatchOption, unwrap_or}
use Rattle.bx_ucd.specs.Data.{Data}
use Rattle.bx_editor.specs.declared.questions.answers.Prompt.{Prompt}
use Rattle.bx_editor.specs.declared.questions.answers.Prompt.TheVariants as prompts
use Rattle.bx_find.specs.Nearest.{IsFirst, IsLast}
use Rattle.bx_find.specs.Matches.{first_from, last_before}
use Rattle.bx_find.proofs.Nearest.{first_is, last_is}
use Rattle.bx_keys.specs.declared.key.Key.TheVariants.{Find, FindBack}
use Rattle.bx_editor.specs.declared.matches.Landing.{Landing}
use Rattle.bx_editor.specs.declared.message.Message.TheVariants.{FromEnd, FromStart}
use Rattle.bx_editor.specs.declared.search_state.SearchState.{SearchState}
use Rattle.bx_editor.specs.declared.search_state.SearchState.TheVariants.{Off, Begun, Typed, WithBegun, WithTyped, Replacing}
use Rattle.bx_editor.specs.Editor.{Editor, rows, cleared}
use Rattle.bx_editor.specs.Before.{Before, before}
use Rattle.bx_editor.specs.Keys.{after_any}
use Rattle.bx_editor.specs.Search.{after_find, after_find_back, backward, forward, landed, match_or, next_or_start, not_found, reading, sought}
use Rattle.bx_editor.specs.Origin.{is_queried}
use Rattle.bx_editor_laws.specs.Laws.{FindBackGoesToPrevious, FindGoesToNext, NoneBefore, NoneFrom, Stayed, WentTo}
use Rattle.bx_editor.proofs.InSearch.{any-key}
use Rattle.bx_editor.proofs.Sought.{backward-some, forward-some}

-- in a search
abbrev typed : Editor → Editor
typed e = record (cleared e) { search_state = Typed }

abbrev GoesNext : Data → Editor → Editor → Type 0
GoesNext d e new =
    ((at : ℕ) × IsFirst d (reading e.purpose) (sought d e) e.content.text (next_or_start d e) at × WentTo d e new None at)
    ⊎ ((NoneFrom d e (next_or_start d e) × ((at : ℕ) × IsFirst d (reading e.purpose) (sought d e) e.content.text 0 at × WentTo d e new (Some FromStart) at))
    ⊎ (NoneFrom d e 0 × Stayed e new))

next-of : (d : Data) (e : Editor) (l : Landing) (next all : Option ℕ)
    → MatchOption next (NoneFrom d e (next_or_start d e)) (IsFirst d (reading e.purpose) (sought d e) e.content.text (next_or_start d e))
    → MatchOption all (NoneFrom d e 0) (IsFirst d (reading e.purpose) (sought d e) e.content.text 0)
    → l ≡ match_or (rows d e) None (match_or (rows d e) (Some FromStart) not_found all) next → GoesNext d e (landed (typed e) l)
next-of d e l (Some at) all first any is = inl (at, first, (ap (λ m. unwrap_or m.place e.place) is, ap (λ m. m.message) is))
next-of d e l None (Some at) none first is = inr (inl (none, (at, first, (ap (λ m. unwrap_or m.place e.place) is, ap (λ m. m.message) is))))
next-of d e l None None none nowhere is = inr (inr (nowhere, (ap (λ m. unwrap_or m.place e.place) is, ap (λ m. m.message) is)))

abbrev GoesBack : Data → Editor → Editor → Type 0
GoesBack d e new =
    ((at : ℕ) × IsLast d (reading e.purpose) (sought d e) e.content.text e.place at × WentTo d e new None at)
    ⊎ ((NoneBefore d e e.place × ((at : ℕ) × IsLast d (reading e.purpose) (sought d e) e.content.text (length e.content.text) at × WentTo d e new (Some FromEnd) at))
    ⊎ (NoneBefore d e (length e.content.text) × Stayed e new))

previous-of : (d : Data) (e : Editor) (l : Landing) (previous all : Option ℕ)
    → MatchOption previous (NoneBefore d e e.place) (IsLast d (reading e.purpose) (sought d e) e.content.text e.place)
    → MatchOption all (NoneBefore d e (length e.content.text)) (IsLast d (reading e.purpose) (sought d e) e.content.text (length e.content.text))
    → l ≡ match_or (rows d e) None (match_or (rows d e) (Some FromEnd) not_found all) previous → GoesBack d e (landed (typed e) l)
previous-of d e l (Some at) all last any is = inl (at, last, (ap (λ m. unwrap_or m.place e.place) is, ap (λ m. m.message) is))
previous-of d e l None (Some at) none last is = inr (inl (none, (at, last, (ap (λ m. unwrap_or m.place e.place) is, ap (λ m. m.message) is))))
previous-of d e l None None none nowhere is = inr (inr (nowhere, (ap (λ m. unwrap_or m.place e.place) is, ap (λ m. m.message) is)))

-- whichever state the search is in
on-find : (d : Data) (e : Editor) (was : Before) (prompt : Prompt) (search_state : SearchState) (P : Editor → Type 0) → prompt ≡ prompts.Off → is_queried search_state ≡ true
    → P (after_find d (cleared e)) → P (after_any d None was prompt search_state (cleared e) Find)
on-find d e was prompts.Off Off P unasked on h = absurd (cc on)
on-find d e was prompts.Off Begun P unasked on h = h
on-find d e was prompts.Off Typed P unasked on h = h
on-find d e was prompts.Off WithBegun P unasked on h = absurd (cc on)
on-find d e was prompts.Off WithTyped P unasked on h = absurd (cc on)
on-find d e was prompts.Off Replacing P unasked on h = absurd (cc on)
on-find d e was prompts.Line search_state P unasked on h = absurd (cc unasked)
on-find d e was prompts.Name search_state P unasked on h = absurd (cc unasked)
on-find d e was prompts.Code search_state P unasked on h = absurd (cc unasked)
on-find d e was prompts.File search_state P unasked on h = absurd (cc unasked)
on-find d e was prompts.Overwrite search_state P unasked on h = absurd (cc unasked)

on-find-back : (d : Data) (e : Editor) (was : Before) (prompt : Prompt) (search_state : SearchState) (P : Editor → Type 0) → prompt ≡ prompts.Off → is_queried search_state ≡ true
    → P (after_find_back d (cleared e)) → P (after_any d None was prompt search_state (cleared e) FindBack)
on-find-back d e was prompts.Off Off P unasked on h = absurd (cc on)
on-find-back d e was prompts.Off Begun P unasked on h = h
on-find-back d e was prompts.Off Typed P unasked on h = h
on-find-back d e was prompts.Off WithBegun P unasked on h = absurd (cc on)
on-find-back d e was prompts.Off WithTyped P unasked on h = absurd (cc on)
on-find-back d e was prompts.Off Replacing P unasked on h = absurd (cc on)
on-find-back d e was prompts.Line search_state P unasked on h = absurd (cc unasked)
on-find-back d e was prompts.Name search_state P unasked on h = absurd (cc unasked)
on-find-back d e was prompts.Code search_state P unasked on h = absurd (cc unasked)
on-find-back d e was prompts.File search_state P unasked on h = absurd (cc unasked)
on-find-back d e was prompts.Overwrite search_state P unasked on h = absurd (cc unasked)

pub find-goes-to-next : FindGoesToNext
find-goes-to-next d e seeks =
    let r = reading e.purpose in
    let ls = sought d e in
    let text = e.content.text in
    let x = next_or_start d e in
    subst (GoesNext d e) (sym (any-key d None e Find seeks.settled refl))
    (on-find d e (before e) e.prompt e.search_state (GoesNext d e) seeks.unasked seeks.on
    (next-of d e (forward d r (rows d e) text x e.query ls) (first_from d r ls text x) (first_from d r ls text 0) (first_is d r ls text x seeks.text)
    (first_is d r ls text 0 seeks.text) (forward-some d r (rows d e) text x e.query ls seeks.letters)))

pub find-back-goes-to-previous : FindBackGoesToPrevious
find-back-goes-to-previous d e seeks =
    let r = reading e.purpose in
    let ls = sought d e in
    let text = e.content.text in
    let n = length text in
    subst (GoesBack d e) (sym (any-key d None e FindBack seeks.settled refl))
    (on-find-back d e (before e) e.prompt e.search_state (GoesBack d e) seeks.unasked seeks.on
    (previous-of d e (backward d r (rows d e) text e.place e.query ls) (last_before d r ls text e.place) (last_before d r ls text n)
    (last_is d r ls text e.place seeks.text) (last_is d r ls text n seeks.text) (backward-some d r (rows d e) text e.place e.query ls seeks.letters)))
