-- Whatever is typed, a paste into the text is under way only outside a search and a question.
use Rattle.std.proofs.Common.{◌≡◌, ℕ, Bool, true, false, List, [], ◌∷◌, Option, Some, None, refl, sym, ◌∙◌, inl, inr, ⊎_elim, if◌then◌else◌}
use Rattle.std.specs.Prelude.{◌⊎◌}
use Rattle.bx_keys.specs.declared.key.Key.{Key}
use Rattle.bx_keys.specs.declared.key.Key.TheVariants.{Insert, Repaint}
use Rattle.bx_store.specs.declared.store.StoreFault.{StoreFault}
use Rattle.bx_ucd.specs.Data.{Data}
use Rattle.bx_editor.specs.declared.message.Message.TheVariants.{ViewOnly}
use Rattle.bx_editor.specs.declared.questions.answers.Prompt.{Prompt}
use Rattle.bx_editor.specs.declared.questions.answers.Prompt.TheVariants as prompts
use Rattle.bx_editor.specs.declared.search_state.SearchState.{SearchState}
use Rattle.bx_editor.specs.declared.search_state.SearchState.TheVariants.{Off, Begun, Typed, WithBegun, WithTyped, Replacing}
use Rattle.bx_editor.specs.declared.undo_groups.typing.Typing.TheVariants.{Paste}
use Rattle.bx_editor.specs.Before.{before}
use Rattle.bx_editor.specs.Editor.{Editor, at_start, cleared, unpressed, with_exchange, with_typing}
use Rattle.bx_editor.specs.Keys.{after_any, after_in_paste, after_key, after_press, after_user}
use Rattle.bx_editor.specs.Putting.{paste_begun, paste_ended, refuses_paste}
use Rattle.bx_editor_laws.specs.Laws.{after_typing}
use Rattle.bx_editor_laws.specs.PastingLaws.{PastesAreAlone}
use Rattle.bx_editor.proofs.EffectsKept.{run-keeps, step-keeps}
use Rattle.bx_editor.proofs.InSearch.{each-key}
use Rattle.bx_editor_laws.proofs.KeyKept.{IsKeptByUser, user-keeps}
use Rattle.bx_editor_laws.proofs.PasteEnded.{over}

-- no paste is under way
abbrev pub IsSettled : Editor → Type 0
IsSettled e = e.pasted ≡ None

-- nothing is asked or sought, or no paste is under way
abbrev pub IsAlone : Editor → Type 0
IsAlone e = IsSettled e ⊎ ((e.prompt ≡ prompts.Off) × (e.search_state ≡ Off))

-- ---- keys that begin no paste

exchanged : (d : Data) (e : Editor) (start stop : ℕ) (new : List ℕ) → IsSettled e → IsSettled (with_exchange d e start stop new)
exchanged d e start stop new h = h

settles : (d : Data) → IsKeptByUser d IsSettled
settles d = record {
  inserted = λ e new on h. h;
  lined = λ e new h. h;
  removed = λ e start stop on h. h;
  wrapped = λ e opener closer h. h;
  exchanged = exchanged d;
  stepped = step-keeps IsSettled (λ e content place changed h. h) (λ e message h. h);
  run = run-keeps IsSettled (λ e content place changed h. h) (λ e message h. h);
  same = λ e new content looked pasted h. pasted ∙ h;
}

pub user-settled : (d : Data) (fault : Option StoreFault) (e : Editor) (key : Key) → IsSettled e → IsSettled (after_user d fault e key)
user-settled d fault e key h = user-keeps d IsSettled (settles d) fault e key h

pub either : (P : Editor → Type 0) (b : Bool) (p q : Editor) → P p → P q → P (if b then p else q)
either P true p q h k = h
either P false p q h k = k

-- ---- any key

-- Repaint leaves a paste under way
painted-alone : (d : Data) (fault : Option StoreFault) (e : Editor) (prompt : Prompt) (search_state : SearchState)
    → e.prompt ≡ prompt → e.search_state ≡ search_state → prompt ≡ prompts.Off → search_state ≡ Off
    → IsAlone (after_any d fault (before e) prompt search_state (cleared e) Repaint)
painted-alone d fault e prompts.Off Off asked sought_is unasked unsought = inr (asked, sought_is)
painted-alone d fault e prompts.Off Begun asked sought_is unasked unsought = absurd (cc unsought)
painted-alone d fault e prompts.Off Typed asked sought_is unasked unsought = absurd (cc unsought)
painted-alone d fault e prompts.Off WithBegun asked sought_is unasked unsought = absurd (cc unsought)
painted-alone d fault e prompts.Off WithTyped asked sought_is unasked unsought = absurd (cc unsought)
painted-alone d fault e prompts.Off Replacing asked sought_is unasked unsought = absurd (cc unsought)
painted-alone d fault e prompts.Line search_state asked sought_is unasked unsought = absurd (cc unasked)
painted-alone d fault e prompts.Name search_state asked sought_is unasked unsought = absurd (cc unasked)
painted-alone d fault e prompts.Code search_state asked sought_is unasked unsought = absurd (cc unasked)
painted-alone d fault e prompts.File search_state asked sought_is unasked unsought = absurd (cc unasked)
painted-alone d fault e prompts.Overwrite search_state asked sought_is unasked unsought = absurd (cc unasked)

repaint-alone : (d : Data) (fault : Option StoreFault) (e : Editor) → IsAlone e → IsAlone (after_user d fault e Repaint)
repaint-alone d fault e (inl none) = inl (user-settled d fault e Repaint none)
repaint-alone d fault e (inr free) = painted-alone d fault e e.prompt e.search_state refl refl free.0 free.1

in-paste : (d : Data) (fault : Option StoreFault) (e : Editor) (key : Key) → IsAlone e → (e.prompt ≡ prompts.Off) × (e.search_state ≡ Off)
    → IsAlone (after_in_paste d fault e key)
in-paste d fault e (Insert c) h free = inr free
in-paste d fault e Repaint h free = repaint-alone d fault e h
in-paste d fault e key h free = inl (user-settled d fault (paste_ended d e) key (over d e))

-- where a paste is under way nothing is asked or sought
pub free-in-paste : (e : Editor) (list : List ℕ) → e.pasted ≡ Some list → IsAlone e → (e.prompt ≡ prompts.Off) × (e.search_state ≡ Off)
free-in-paste e list is (inl none) = let no = sym none ∙ is in absurd (cc no)
free-in-paste e list is (inr free) = free

press-alone : (d : Data) (fault : Option StoreFault) (e : Editor) (key : Key) (pasted : Option (List ℕ)) → e.pasted ≡ pasted → IsAlone e
    → IsAlone (after_press d fault pasted e key)
press-alone d fault e key None is h = inl (user-settled d fault e key is)
press-alone d fault e key (Some list) is h = in-paste d fault e key h (free-in-paste e list is h)

begun-alone : (e : Editor) (prompt : Prompt) (search_state : SearchState) (pasted : Option (List ℕ))
    → e.prompt ≡ prompt → e.search_state ≡ search_state → IsAlone e → IsAlone (paste_begun prompt search_state pasted e)
begun-alone e prompts.Off Off None asked sought_is h = inr (asked, sought_is)
begun-alone e prompts.Off Off (Some list) asked sought_is h = h
begun-alone e prompts.Off Begun pasted asked sought_is h = h
begun-alone e prompts.Off Typed pasted asked sought_is h = h
begun-alone e prompts.Off WithBegun pasted asked sought_is h = h
begun-alone e prompts.Off WithTyped pasted asked sought_is h = h
begun-alone e prompts.Off Replacing pasted asked sought_is h = h
begun-alone e prompts.Line search_state pasted asked sought_is h = h
begun-alone e prompts.Name search_state pasted asked sought_is h = h
begun-alone e prompts.Code search_state pasted asked sought_is h = h
begun-alone e prompts.File search_state pasted asked sought_is h = h
begun-alone e prompts.Overwrite search_state pasted asked sought_is h = h

pub key-alone : (d : Data) (fault : Option StoreFault) (e : Editor) (key : Key) → IsAlone e → IsAlone (after_key d fault e key)
key-alone d fault e key h =
    let begun = paste_begun e.prompt e.search_state e.pasted e in
    each-key d fault e (λ k new. IsAlone new) (λ height width. h) (λ notice. h) h (
      either IsAlone (refuses_paste e) (unpressed (record e { message = Some ViewOnly })) (unpressed (with_typing begun Paste)) h
          (begun-alone e e.prompt e.search_state e.pasted refl refl h),
      inl (over d e),
    )
    (λ k other. press-alone d fault e k e.pasted refl h) key

-- ---- whatever is typed

all-alone : (d : Data) (e : Editor) (typed : List (Key × Option StoreFault)) → IsAlone e → IsAlone (after_typing d e typed)
all-alone d e [] h = h
all-alone d e (key ∷ typed) h = all-alone d (after_key d key.1 e key.0) typed (key-alone d key.1 e key.0 h)

pub pastes-are-alone : PastesAreAlone
pastes-are-alone d text height width base typed some =
    let start = at_start text height width base in
    ⊎_elim (λ none. absurd (some none)) (λ free. record { unasked = free.0; unsought = free.1 }) (all-alone d start typed (inl refl))
