-- What Copy and Cut take goes out to a clipboard.
use Rattle.std.proofs.Common.{◌≡◌, ℕ, ◌<◌, ◌≤◌, Bool, true, false, nat_lt, List, length, refl, sym, ap, ap₂, subst, ◌∙◌, arith, inl, inr, if◌then◌else◌}
use Rattle.std.specs.Prelude.{◌≢◌, ◌==◌, ◌⊎◌, ◌&&◌, not, Option, Some, None}
use Rattle.std.proofs.lemmas.Bool.Decides.{nat_tests}
use Rattle.bx_keys.specs.declared.key.Key.{Key}
use Rattle.bx_keys.specs.declared.key.Key.TheVariants.{Copy, Cut}
use Rattle.bx_store.specs.declared.store.StoreFault.{StoreFault}
use Rattle.bx_ucd.specs.Data.{Data}
use Rattle.bx_editor.specs.declared.questions.answers.Prompt.{Prompt}
use Rattle.bx_editor.specs.declared.questions.answers.Prompt.TheVariants as prompts
use Rattle.bx_editor.specs.declared.message.Message.{Message}
use Rattle.bx_editor.specs.declared.message.Message.TheVariants.{Copied, LineCopied, NothingToCopy, TextFull, TooLongForClipboard}
use Rattle.bx_editor.specs.declared.message.Message.TheVariants as messages
use Rattle.bx_editor.specs.declared.search_state.SearchState.{SearchState}
use Rattle.bx_editor.specs.declared.search_state.SearchState.TheVariants as search_states
use Rattle.bx_editor.specs.Region.{clip_of, is_clip, after_copy, after_cut, bytes_in, held_message, is_empty, largest_clip, line, region}
use Rattle.bx_editor.specs.Region.{taken, with_held, is_selection, is_soft, without_hard_mark, without_mark}
use Rattle.bx_editor.specs.Editor.{Editor, cleared, with_insertion, with_removal}
use Rattle.bx_editor.specs.Before.{before}
use Rattle.bx_editor.specs.Effects.{Cuts, Refuses, by}
use Rattle.bx_editor.specs.Keys.{after_any, after_key, after_press, after_user, as_left}
use Rattle.bx_editor.specs.PasteLaws.{CopiesGoOut, SendsCopies, SendsHeld, SendsNothing, cuts_in}
use Rattle.bx_editor.specs.Putting.{ended_with, paste_ended, without_paste, has_room, put_in, with_selection_replaced}

short : (n limit : ℕ) → n ≤ limit → nat_lt limit n ≡ false
short n limit few = grind (arith, nat_tests, few)

long : (n limit : ℕ) → limit < n → nat_lt limit n ≡ true
long n limit more = grind (arith, nat_tests, more)

-- of three editors
each : (b c : Bool) (P : Editor → Type 0) (x y z : Editor) → P x → P y → P z → P (if b then (if c then x else y) else z)
each true true P x y z h k l = h
each true false P x y z h k l = k
each false c P x y z h k l = l

-- ---- what goes out

-- nothing, by a message that tells of no copy, and without a clipboard
quiet : (b : Bool) (held : List ℕ) → (if b && false then Some held else None) ≡ None
quiet true held = refl
quiet false held = refl

no-clip : (new : Editor) (key : Key) → is_clip key new.message ≡ false → clip_of new key ≡ None
no-clip new key other = ap (λ b. if new.clipboard && b then Some new.held else None) other ∙ quiet new.clipboard new.held

without-one : (new : Editor) (key : Key) → new.clipboard ≡ false → clip_of new key ≡ None
without-one new key none = ap (λ b. if b && is_clip key new.message then Some new.held else None) none

-- a key has held the part, with its own message
held-sent : (e : Editor) (part : ℕ × ℕ) (key : Key) (own : Option Message) (new : Editor) → new.clipboard ≡ true → new.held ≡ bytes_in e part
    → new.message ≡ held_message true (bytes_in e part) own → is_clip key own ≡ true → is_clip key (Some TooLongForClipboard) ≡ false
    → is_empty part ≡ false → SendsHeld e part key new
held-sent e part key own new with_one held message tells not_told some =
    let told : Bool → Option Message = λ far. if far then Some TooLongForClipboard else own in
    let clip : Bool → Option Message → Option (List ℕ) = λ b m. if b && is_clip key m then Some new.held else None in
    record {
      held = λ _. held;
      sent = λ _ few. (let own_is = message ∙ ap told (short (length (bytes_in e part)) largest_clip few) in
          ap₂ clip with_one own_is ∙ ap (λ b. if b then Some new.held else None) tells ∙ ap (λ h. Some h) held);
      too_long = λ _ more. (let far = message ∙ ap told (long (length (bytes_in e part)) largest_clip more) in
          (ap₂ clip with_one far ∙ ap (λ b. if b then Some new.held else None) not_told, far));
      nothing = λ none. (let no = sym some ∙ none in absurd (cc no));
    }

-- nothing was held, and another message is told
none-sent : (e : Editor) (part : ℕ × ℕ) (key : Key) (new : Editor) → is_clip key new.message ≡ false → new.held ≡ e.held → is_empty part ≡ true
    → SendsHeld e part key new
none-sent e part key new other held none =
    record {
      held = λ some. (let no = sym none ∙ some in absurd (cc no));
      sent = λ some. (let no = sym none ∙ some in absurd (cc no));
      too_long = λ some. (let no = sym none ∙ some in absurd (cc no));
      nothing = λ _. record { none = no-clip new key other; stays = held };
    }

-- ---- Copy and Cut where no paste is under way

module _ (d : Data) (fault : Option StoreFault) (e : Editor) where
  -- the editor that a key finds, with a question and a search or without
  abbrev was : Prompt → SearchState → Editor
  was prompt search_state = record (cleared e) { prompt = prompt; search_state = search_state }

  -- what Copy takes, by whether the region is empty
  abbrev part : Bool → ℕ × ℕ
  part region_empty = if region_empty then line d e else region e

  -- what Copy leaves, by whether the region is empty, and the line
  abbrev copies : Prompt → SearchState → Bool → Bool → Editor
  copies prompt search_state region_empty line_empty =
      if region_empty
      then (if line_empty
      then record (without_hard_mark (was prompt search_state)) { message = Some NothingToCopy }
      else with_held (was prompt search_state) (bytes_in e (line d e)) true LineCopied)
      else with_held (was prompt search_state) (bytes_in e (region e)) false Copied

  -- what Cut leaves, by whether the part that it takes is empty
  abbrev cuts : Prompt → SearchState → Bool → Editor
  cuts prompt search_state empty =
      if empty
      then after_copy d (was prompt search_state)
      else record (with_removal d (was prompt search_state) ((taken d e).0) ((taken d e).1) false) {
        held = bytes_in e (taken d e);
        whole_line = is_empty (region e);
        message = held_message e.clipboard (bytes_in e (taken d e)) (Some messages.Cut);
      }

  -- what Cut leaves where it does its work, unless the text is only looked at
  abbrev cutting : Prompt → SearchState → Bool → Editor
  cutting prompt search_state looked_at = by d fault (before e) (was prompt search_state) (if looked_at then Refuses else Cuts)

  -- what a key leaves
  abbrev pressed : Key → Prompt → SearchState → Editor
  pressed key prompt search_state = as_left key (after_any d fault (before e) prompt search_state (cleared e) key)

  -- a property of what Cut leaves: `h` where it does its work, `k` where it does not
  module _ (P : Bool → Editor → Type 0) (h : (prompt : Prompt) (search_state : SearchState) → P true (as_left Cut (cutting prompt search_state e.read_only)))
      (k : (prompt : Prompt) (search_state : SearchState) → P false (as_left Cut (was prompt search_state))) where
    each-cut : (prompt : Prompt) (search_state : SearchState) → P (cuts_in prompt search_state) (pressed Cut prompt search_state)
    each-cut prompts.Off search_states.Off = h e.prompt e.search_state
    each-cut prompts.Off search_states.Begun = k e.prompt e.search_state
    each-cut prompts.Off search_states.Typed = k e.prompt e.search_state
    each-cut prompts.Off search_states.WithBegun = k e.prompt e.search_state
    each-cut prompts.Off search_states.WithTyped = k e.prompt e.search_state
    each-cut prompts.Off search_states.Replacing = h e.prompt search_states.Off
    each-cut prompts.Line search_state = k e.prompt e.search_state
    each-cut prompts.Name search_state = h prompts.Off search_states.Off
    each-cut prompts.Code search_state = k e.prompt e.search_state
    each-cut prompts.File search_state = k e.prompt e.search_state
    each-cut prompts.Overwrite search_state = k prompts.Off search_states.Off

  -- ---- with a clipboard

  module _ (with_one : e.clipboard ≡ true) where
    by-clipboard : (part : ℕ × ℕ) (own : Option Message) → held_message e.clipboard (bytes_in e part) own ≡ held_message true (bytes_in e part) own
    by-clipboard part own = ap (λ b. held_message b (bytes_in e part) own) with_one

    -- a mark that is no selection's is taken off, or none is
    held-copied : (selected : Bool) (new : Editor) → (P : Editor → Type 0) → P new → P (without_mark new) → P (if selected then new else without_mark new)
    held-copied true new P h k = h
    held-copied false new P h k = k

    copied-sent : (part : ℕ × ℕ) (whole_line : Bool) (own : Message) → is_clip Copy (Some own) ≡ true → is_empty part ≡ false
        → SendsHeld e part Copy (as_left Copy (with_held (was e.prompt e.search_state) (bytes_in e part) whole_line own))
    copied-sent part whole_line own tells some =
        let told = held_message e.clipboard (bytes_in e part) (Some own) in
        let holding : Editor → Editor = λ x. record x { held = bytes_in e part; whole_line = whole_line; message = told } in
        held-copied (is_soft e.soft) (cleared e) (λ x. SendsHeld e part Copy (as_left Copy (holding x)))
        (held-sent e part Copy (Some own) (as_left Copy (holding (cleared e))) with_one refl (by-clipboard part (Some own)) tells refl some)
        (held-sent e part Copy (Some own) (as_left Copy (holding (without_mark (cleared e)))) with_one refl (by-clipboard part (Some own)) tells refl some)

    copy-sends : (region_empty line_empty : Bool) → is_empty (region e) ≡ region_empty → is_empty (line d e) ≡ line_empty
        → SendsHeld e (part region_empty) Copy (as_left Copy (copies e.prompt e.search_state region_empty line_empty))
    copy-sends true true is line_is =
        held-copied (is_soft e.soft) (cleared e)
        (λ (x : Editor). SendsHeld e (line d e) Copy (as_left Copy (record x { message = Some NothingToCopy })))
        (none-sent e (line d e) Copy (as_left Copy (record (cleared e) { message = Some NothingToCopy })) refl refl line_is)
        (none-sent e (line d e) Copy (as_left Copy (record (without_mark (cleared e)) { message = Some NothingToCopy })) refl refl line_is)
    copy-sends true false is line_is = copied-sent (line d e) true LineCopied refl line_is
    copy-sends false line_empty is line_is = copied-sent (region e) false Copied refl is

    -- where nothing is taken, the region and the line are empty
    nothing-copied : (prompt : Prompt) (search_state : SearchState) (region_empty : Bool) → is_empty (region e) ≡ region_empty → is_empty (part region_empty) ≡ true
        → after_copy d (was prompt search_state) ≡ record (without_hard_mark (was prompt search_state)) { message = Some NothingToCopy }
    nothing-copied prompt search_state true is none = ap₂ (copies prompt search_state) is none
    nothing-copied prompt search_state false is none = let no = sym is ∙ none in absurd (cc no)

    cut-sends : (prompt : Prompt) (search_state : SearchState) (empty : Bool) → is_empty (taken d e) ≡ empty
        → SendsHeld e (taken d e) Cut (as_left Cut (cuts prompt search_state empty))
    cut-sends prompt search_state true none =
        let found = was prompt search_state in
        subst (λ (x : Editor). SendsHeld e (taken d e) Cut (as_left Cut x)) (sym (nothing-copied prompt search_state (is_empty (region e)) refl none))
        (held-copied (is_soft e.soft) found (λ (x : Editor). SendsHeld e (taken d e) Cut (as_left Cut (record x { message = Some NothingToCopy })))
        (none-sent e (taken d e) Cut (as_left Cut (record found { message = Some NothingToCopy })) refl refl none)
        (none-sent e (taken d e) Cut (as_left Cut (record (without_mark found) { message = Some NothingToCopy })) refl refl none))
    cut-sends prompt search_state false some =
        held-sent e (taken d e) Cut (Some messages.Cut) (as_left Cut (cuts prompt search_state false)) with_one refl
        (by-clipboard (taken d e) (Some messages.Cut)) refl refl some

    -- what Cut sends, by whether it does its work, and the text is only looked at
    abbrev CutSends : Bool → Bool → Editor → Type 0
    CutSends works looked_at new =
        (works && not looked_at ≡ true → SendsHeld e (taken d e) Cut new) × (works && not looked_at ≡ false → SendsNothing e Cut new)

    cutting-sends : (looked_at : Bool) (prompt : Prompt) (search_state : SearchState) → CutSends true looked_at (as_left Cut (cutting prompt search_state looked_at))
    cutting-sends true prompt search_state =
        (λ no. absurd (cc no), λ _. record { none = no-clip (as_left Cut (cutting prompt search_state true)) Cut refl; stays = refl })
    cutting-sends false prompt search_state = (λ _. cut-sends prompt search_state (is_empty (taken d e)) refl, λ no. absurd (cc no))

    passing-sends : (looked_at : Bool) (prompt : Prompt) (search_state : SearchState) → CutSends false looked_at (as_left Cut (was prompt search_state))
    passing-sends looked_at prompt search_state =
        (λ no. absurd (cc no), λ _. record { none = no-clip (as_left Cut (was prompt search_state)) Cut refl; stays = refl })

    cut-out : CutSends (cuts_in e.prompt e.search_state) e.read_only (pressed Cut e.prompt e.search_state)
    cut-out = each-cut (λ works new. CutSends works e.read_only new) (cutting-sends e.read_only) (passing-sends e.read_only) e.prompt e.search_state

    -- Copy in a search or a question gives it up
    given-up : (new : Editor) → is_clip Copy new.message ≡ false → new.held ≡ e.held → SendsNothing e Copy new
    given-up new other held = record { none = no-clip new Copy other; stays = held }

    gives-up : (prompt : Prompt) (search_state : SearchState) → (prompt ≢ prompts.Off) ⊎ (search_state ≢ search_states.Off) → SendsNothing e Copy (pressed Copy prompt search_state)
    gives-up prompts.Off search_states.Off (inl other) = absurd (other refl)
    gives-up prompts.Off search_states.Off (inr other) = absurd (other refl)
    gives-up prompts.Off search_states.Begun other = given-up (pressed Copy prompts.Off search_states.Begun) refl refl
    gives-up prompts.Off search_states.Typed other = given-up (pressed Copy prompts.Off search_states.Typed) refl refl
    gives-up prompts.Off search_states.WithBegun other = given-up (pressed Copy prompts.Off search_states.WithBegun) refl refl
    gives-up prompts.Off search_states.WithTyped other = given-up (pressed Copy prompts.Off search_states.WithTyped) refl refl
    gives-up prompts.Off search_states.Replacing other = given-up (pressed Copy prompts.Off search_states.Replacing) refl refl
    gives-up prompts.Line search_state other = given-up (pressed Copy prompts.Line search_state) refl refl
    gives-up prompts.Name search_state other = given-up (pressed Copy prompts.Name search_state) refl refl
    gives-up prompts.Code search_state other = given-up (pressed Copy prompts.Code search_state) refl refl
    gives-up prompts.File search_state other = given-up (pressed Copy prompts.File search_state) refl refl
    gives-up prompts.Overwrite search_state other = given-up (pressed Copy prompts.Overwrite search_state) refl refl

    copy-out : (prompt : Prompt) (search_state : SearchState) → prompt ≡ prompts.Off → search_state ≡ search_states.Off → SendsHeld e (taken d e) Copy (pressed Copy prompt search_state)
    copy-out prompt search_state unasked off =
        subst (SendsHeld e (taken d e) Copy) (sym (ap₂ (pressed Copy) unasked off)) (copy-sends (is_empty (region e)) (is_empty (line d e)) refl refl)

    sends : SendsCopies d e (after_user d fault e Copy) (after_user d fault e Cut)
    sends = record {
      copy = copy-out e.prompt e.search_state;
      given_up = gives-up e.prompt e.search_state;
      cut = cut-out.0;
      uncut = cut-out.1;
    }

  -- ---- without one

  without-hard-keeps : (selected : Bool) (new : Editor) (told : Option Message) → new.clipboard ≡ e.clipboard
      → (let x : Editor = if selected then new else without_mark new in x.clipboard) ≡ e.clipboard
  without-hard-keeps true new told same = same
  without-hard-keeps false new told same = same

  clipboard-after-copy : (prompt : Prompt) (search_state : SearchState) → (after_copy d (was prompt search_state)).clipboard ≡ e.clipboard
  clipboard-after-copy prompt search_state =
      let free = without-hard-keeps (is_soft e.soft) (was prompt search_state) None refl in
      each (is_empty (region e)) (is_empty (line d e)) (λ new. new.clipboard ≡ e.clipboard) (copies prompt search_state true true) (copies prompt search_state true false)
      (copies prompt search_state false true) free free free

  clipboard-after-cut : (prompt : Prompt) (search_state : SearchState) (empty : Bool) → (cuts prompt search_state empty).clipboard ≡ e.clipboard
  clipboard-after-cut prompt search_state true = clipboard-after-copy prompt search_state
  clipboard-after-cut prompt search_state false = refl

  clipboard-after-cutting : (looked_at : Bool) (prompt : Prompt) (search_state : SearchState) → (cutting prompt search_state looked_at).clipboard ≡ e.clipboard
  clipboard-after-cutting true prompt search_state = refl
  clipboard-after-cutting false prompt search_state = clipboard-after-cut prompt search_state (is_empty (taken d e))

  cut-keeps : (prompt : Prompt) (search_state : SearchState) → (pressed Cut prompt search_state).clipboard ≡ e.clipboard
  cut-keeps =
      each-cut (λ _ new. new.clipboard ≡ e.clipboard) (clipboard-after-cutting e.read_only) (λ prompt search_state. refl)

  copy-keeps : (prompt : Prompt) (search_state : SearchState) → (pressed Copy prompt search_state).clipboard ≡ e.clipboard
  copy-keeps prompts.Off search_states.Off = clipboard-after-copy e.prompt e.search_state
  copy-keeps prompts.Off search_states.Begun = refl
  copy-keeps prompts.Off search_states.Typed = refl
  copy-keeps prompts.Off search_states.WithBegun = refl
  copy-keeps prompts.Off search_states.WithTyped = refl
  copy-keeps prompts.Off search_states.Replacing = refl
  copy-keeps prompts.Line search_state = refl
  copy-keeps prompts.Name search_state = refl
  copy-keeps prompts.Code search_state = refl
  copy-keeps prompts.File search_state = refl
  copy-keeps prompts.Overwrite search_state = refl

-- ---- in any state

module _ (d : Data) (fault : Option StoreFault) (e : Editor) where
  put-keeps : (list : List ℕ) (none : Bool) → (if none then without_paste e else put_in d (without_paste e) list false).clipboard ≡ e.clipboard
  put-keeps list true = refl
  put-keeps list false =
      let left = without_paste e in
      each (has_room left list) (is_selection left) (λ new. new.clipboard ≡ e.clipboard) (with_selection_replaced d left list)
      (with_insertion d left list false) (record left { message = Some TextFull }) refl refl refl

  end-keeps : (pasted : Option (List ℕ)) → (ended_with d e pasted).clipboard ≡ e.clipboard
  end-keeps None = refl
  end-keeps (Some list) = put-keeps list (length list == 0)

  -- a paste ends first
  copy-is : (pasted : Option (List ℕ)) → e.pasted ≡ pasted → after_press d fault pasted e Copy ≡ after_user d fault (paste_ended d e) Copy
  copy-is None is = ap (λ p. after_user d fault (ended_with d e p) Copy) (sym is)
  copy-is (Some list) is = refl

  cut-is : (pasted : Option (List ℕ)) → e.pasted ≡ pasted → after_press d fault pasted e Cut ≡ after_user d fault (paste_ended d e) Cut
  cut-is None is = ap (λ p. after_user d fault (ended_with d e p) Cut) (sym is)
  cut-is (Some list) is = refl

  other-key : (key : Key) (message : Option Message) → key ≢ Copy → key ≢ Cut → is_clip key message ≡ false
  other-key Copy message no_copy no_cut = absurd (no_copy refl)
  other-key Cut message no_copy no_cut = absurd (no_cut refl)
  other-key key message no_copy no_cut = refl

  none-out : e.clipboard ≡ false → (key : Key) → clip_of (after_key d fault e key) key ≡ None
  none-out none Copy =
      let left = paste_ended d e in
      without-one (after_key d fault e Copy) Copy
      (ap (λ (new : Editor). new.clipboard) (copy-is e.pasted refl) ∙ copy-keeps d fault left left.prompt left.search_state ∙ end-keeps e.pasted ∙ none)
  none-out none Cut =
      let left = paste_ended d e in
      without-one (after_key d fault e Cut) Cut
      (ap (λ (new : Editor). new.clipboard) (cut-is e.pasted refl) ∙ cut-keeps d fault left left.prompt left.search_state ∙ end-keeps e.pasted ∙ none)
  none-out none key = no-clip (after_key d fault e key) key refl

pub copies-go-out : CopiesGoOut
copies-go-out d fault e =
    let left = paste_ended d e in
    record {
      copies = λ with_one. (let sent = sends d fault left (end-keeps d fault e e.pasted ∙ with_one) in
          subst (λ (new : Editor). SendsCopies d left new (after_key d fault e Cut)) (sym (copy-is d fault e e.pasted refl))
          (subst (SendsCopies d left (after_user d fault left Copy)) (sym (cut-is d fault e e.pasted refl)) sent));
      others = λ key no_copy no_cut. no-clip (after_key d fault e key) key
          (other-key d fault e key ((after_key d fault e key).message) no_copy no_cut);
      without_one = none-out d fault e;
    }
