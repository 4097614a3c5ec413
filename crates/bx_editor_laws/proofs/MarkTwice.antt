-- Mark twice at one place, and the text's ends.
use Rattle.std.proofs.Common.{◌≡◌, ℕ, Bool, true, false, [], ◌∷◌, length, refl, sym, ap, ap₂, ◌∙◌, arith, ⊎_elim}
use Rattle.std.specs.Prelude.{◌==◌, Option, Some, None, if◌then◌else◌}
use Rattle.std.proofs.lemmas.Bool.Decides.{nat_tests}
use Rattle.bx_keys.specs.declared.key.Key.TheVariants.{Mark, TextStart, TextEnd}
use Rattle.bx_ucd.specs.Data.{Data}
use Rattle.bx_editor.specs.declared.message.Message.{Message}
use Rattle.bx_editor.specs.declared.message.Message.TheVariants.{MarkOff, MarkSet}
use Rattle.bx_editor.specs.declared.cursor.Soft.{Soft}
use Rattle.bx_editor.specs.declared.cursor.Soft.TheVariants as softness
use Rattle.bx_editor.specs.Asking.{without_prompt}
use Rattle.bx_editor.specs.Editor.{Editor, cleared}
use Rattle.bx_editor.specs.Keys.{after_key, as_left}
use Rattle.bx_editor.specs.Functions.{after_keys}
use Rattle.bx_editor.specs.PasteLaws.{cuts_in}
use Rattle.bx_editor_laws.specs.Laws.{GoesToBothEnds, MarkTwiceIsNothing, hard_mark, marked_twice, only_at}
use Rattle.bx_editor.specs.Region.{is_at_mark, aged, mark_left, soft_left}
use Rattle.bx_editor_laws.proofs.KeyEnds.{decides, declined-key, ended-key, plain-key}

-- ---- Mark

-- what Mark leaves, by whether the mark is at the place
abbrev mark-by : Bool → Editor → Editor
mark-by there e =
    if there
    then record e { mark = None; soft = softness.Off; message = Some MarkOff }
    else record e { mark = Some e.place; soft = softness.Off; message = Some MarkSet }

abbrev left : Editor → Bool → Editor
left e there = as_left Mark (mark-by there (without_prompt (cleared e)))

mark-there : (d : Data) (e : Editor) → e.pasted ≡ None → cuts_in e.prompt e.search_state ≡ true → is_at_mark e.mark e.place ≡ true
    → after_key d None e Mark ≡ marked_twice e None (Some MarkOff)
mark-there d e settled out is = plain-key d None e Mark settled refl refl refl out ∙ ap (left e) is

mark-not-there : (d : Data) (e : Editor) → e.pasted ≡ None → cuts_in e.prompt e.search_state ≡ true → is_at_mark e.mark e.place ≡ false
    → after_key d None e Mark ≡ marked_twice e (Some e.place) (Some MarkSet)
mark-not-there d e settled out is = plain-key d None e Mark settled refl refl refl out ∙ ap (left e) is

at-itself : (place : ℕ) → (place == place) ≡ true
at-itself place = grind (arith, nat_tests)

twice-there : (d : Data) (e : Editor) → e.pasted ≡ None → cuts_in e.prompt e.search_state ≡ true → is_at_mark e.mark e.place ≡ true
    → after_keys d None e (Mark ∷ Mark ∷ []) ≡ marked_twice e (Some e.place) (Some MarkSet)
twice-there d e settled out is =
    ap (λ new. after_key d None new Mark) (mark-there d e settled out is) ∙ mark-not-there d (marked_twice e None (Some MarkOff)) settled refl refl

twice-not-there : (d : Data) (e : Editor) → e.pasted ≡ None → cuts_in e.prompt e.search_state ≡ true → is_at_mark e.mark e.place ≡ false
    → after_keys d None e (Mark ∷ Mark ∷ []) ≡ marked_twice e None (Some MarkOff)
twice-not-there d e settled out is =
    ap (λ new. after_key d None new Mark) (mark-not-there d e settled out is)
    ∙ mark-there d (marked_twice e (Some e.place) (Some MarkSet)) settled refl (at-itself e.place)

-- but for the message
but-message : (e new : Editor) (mark now : Option ℕ) (message : Option Message) → new ≡ marked_twice e now message → mark ≡ now
    → new ≡ marked_twice e mark new.message
but-message e new mark now message is same = is ∙ ap₂ (marked_twice e) (sym same) (sym (ap (λ (x : Editor). x.message) is))

pub mark-twice-is-nothing : MarkTwiceIsNothing
mark-twice-is-nothing d e settled out =
    let new = after_keys d None e (Mark ∷ Mark ∷ []) in
    record {
      here =
          ⊎_elim
          (λ none. but-message e new e.mark None (Some MarkOff) (twice-not-there d e settled out (ap (λ m. is_at_mark m e.place) none)) none)
          (λ there. but-message e new e.mark (Some e.place) (Some MarkSet)
          (twice-there d e settled out (ap (λ m. is_at_mark m e.place) there ∙ at-itself e.place)) there);
      elsewhere =
          λ mark is other.
          let far : (mark == e.place) ≡ false = grind (arith, nat_tests) in
          but-message e new None None (Some MarkOff) (twice-not-there d e settled out (ap (λ m. is_at_mark m e.place) is ∙ far)) refl;
    }

-- ---- the text's ends

abbrev at : ℕ → Editor → Option ℕ → Soft → Editor
at place e mark soft = record (only_at place e) { mark = mark; soft = soft }

-- two moves leave no mark of a selection, and neither does a move behind a key that ends a question
no-mark : (soft : Soft) (mark : Option ℕ) → mark_left (aged (soft_left soft)) (mark_left soft mark) ≡ hard_mark soft mark
no-mark softness.Off mark = refl
no-mark softness.Fresh mark = refl
no-mark softness.Old mark = refl

no-selection : (soft : Soft) → aged (soft_left (aged (soft_left soft))) ≡ softness.Off
no-selection softness.Off = refl
no-selection softness.Fresh = refl
no-selection softness.Old = refl

once-no-mark : (soft : Soft) (mark : Option ℕ) → mark_left (aged soft) mark ≡ hard_mark soft mark
once-no-mark softness.Off mark = refl
once-no-mark softness.Fresh mark = refl
once-no-mark softness.Old mark = refl

once-no-selection : (soft : Soft) → aged (soft_left (aged soft)) ≡ softness.Off
once-no-selection softness.Off = refl
once-no-selection softness.Fresh = refl
once-no-selection softness.Old = refl

to-start : (d : Data) (e : Editor) → e.pasted ≡ None → after_keys d None e (TextEnd ∷ TextStart ∷ []) ≡ only_at 0 e
to-start d e settled =
    ⊎_elim
    (λ over.
    ap (λ new. after_key d None new TextStart) (declined-key d None e TextEnd settled refl refl over refl)
    ∙ ended-key d None (as_left TextEnd (without_prompt (cleared e))) TextStart settled refl refl refl (λ no. cc no)
    ∙ ap₂ (at 0 e) (once-no-mark e.soft e.mark) (once-no-selection e.soft))
    (λ other.
    ap (λ new. after_key d None new TextStart) (ended-key d None e TextEnd settled refl refl refl other)
    ∙ ended-key d None (at (length e.content.text) e (mark_left e.soft e.mark) (aged (soft_left e.soft))) TextStart settled refl refl refl (λ no. cc no)
    ∙ ap₂ (at 0 e) (no-mark e.soft e.mark) (no-selection e.soft))
    (decides e.prompt)

to-end : (d : Data) (e : Editor) → e.pasted ≡ None → after_keys d None e (TextStart ∷ TextEnd ∷ []) ≡ only_at (length e.content.text) e
to-end d e settled =
    ⊎_elim
    (λ over.
    ap (λ new. after_key d None new TextEnd) (declined-key d None e TextStart settled refl refl over refl)
    ∙ ended-key d None (as_left TextStart (without_prompt (cleared e))) TextEnd settled refl refl refl (λ no. cc no)
    ∙ ap₂ (at (length e.content.text) e) (once-no-mark e.soft e.mark) (once-no-selection e.soft))
    (λ other.
    ap (λ new. after_key d None new TextEnd) (ended-key d None e TextStart settled refl refl refl other)
    ∙ ended-key d None (at 0 e (mark_left e.soft e.mark) (aged (soft_left e.soft))) TextEnd settled refl refl refl (λ no. cc no)
    ∙ ap₂ (at (length e.content.text) e) (no-mark e.soft e.mark) (no-selection e.soft))
    (decides e.prompt)

pub goes-to-both-ends : GoesToBothEnds
goes-to-both-ends d e settled = record { start = to-start d e settled; end = to-end d e settled }
