-- A key in replacing does the same to two editors of which the same lasts.
use Rattle.std.proofs.Common.{◌≡◌, ℕ, true, false, List, [], ◌∷◌, ◌+◌, length, Option, Some, None, refl, sym, ap, ap₂, subst}
use Rattle.std.specs.Prelude.{◌==◌, ◌&&◌, ◌⊎◌, not}
use Rattle.bx_keys.specs.declared.key.Key.{Key}
use Rattle.bx_store.specs.declared.store.StoreFault.{StoreFault}
use Rattle.bx_text.specs.Edits.{fits, splice}
use Rattle.bx_ucd.specs.Data.{Data}
use Rattle.bx_document.specs.Swapped.{behind_character, last_stop, swapped}
use Rattle.bx_editor.specs.declared.undo_groups.typing.Typing.{Typing}
use Rattle.bx_view.specs.Moves.{place_at}
use Rattle.bx_view.specs.TextRows.{text_rows}
use Rattle.bx_editor.specs.declared.answer.Answer.{Answer}
use Rattle.bx_editor.specs.declared.answer.Answer.TheVariants.{Letter, Erases, Moves, PutsIn, Passes, GoesBack, Next, Previous, Replaces, Scrolls, Stays, Ends}
use Rattle.bx_editor.specs.declared.input_line.Erasure.{Erasure}
use Rattle.bx_editor.specs.declared.search_state.SearchPurpose.TheVariants.{Replace}
use Rattle.bx_editor.specs.declared.matches.Landing.{Landing}
use Rattle.bx_editor.specs.declared.message.Message.TheVariants.{TextFull}
use Rattle.bx_editor.specs.declared.search_state.SearchState.TheVariants.{Off, Replacing}
use Rattle.bx_editor.specs.Before.{Before}
use Rattle.bx_editor.specs.Editor.{Editor, place_after, with_exchange}
use Rattle.bx_editor.specs.InputLines.{erases_nothing, is_no_letter, line_lengthened, line_shortened}
use Rattle.bx_editor.specs.Keys.{after_pressing, answered_match, answered_replacement}
use Rattle.bx_editor.specs.LinePuts.{after_line_put}
use Rattle.bx_editor.specs.Putting.{is_paste, only_paste}
use Rattle.bx_editor.specs.Replacing.{after_asking_replacement, after_ending, after_erasing_replacement, after_match_letter, after_passing_over, after_replacement_letter}
use Rattle.bx_editor.specs.Replacing.{after_replacing, after_replacing_all, after_showing, asked_at, at_match, match_stop, matches_on, next_match, on_from}
use Rattle.bx_editor.specs.Replacing.{replacement_line, replacement_typed, shown_at, with_matches_replaced, with_replacement}
use Rattle.bx_editor.specs.Search.{kept, landed, landing_from, longest_query, nothing_sought, sought, without_search}
use Rattle.bx_editor.proofs.TwoEdits.{runs-of-two, stored-of-two}
use Rattle.bx_session_laws.proofs.Lasting.{Lasting, Presses, lasting, having, scrolls}
use Rattle.bx_session_laws.proofs.Alike.{Alike, Edits, either_alike, going_on, idle, work}
use Rattle.bx_session_laws.proofs.PressedAlike.{pressed_alike}
use Rattle.bx_session_laws.proofs.AskedAlike.{scrolled_alike, taking_alike}

-- ---- matches give way

exchange_alike : (d : Data) (e f : Editor) (start stop : ℕ) (new : List ℕ)
    → Alike e (with_exchange d e start stop new) (having (lasting e) f) (with_exchange d (having (lasting e) f) start stop new)
exchange_alike d e f start stop [] =
    let after = place_after d e (splice e.content.text start stop []) start in
    record { lasts = refl; deeds = Edits start stop [] e.place after false ∷ []; first = refl; other = refl }
exchange_alike d e f start stop (b ∷ bs) =
    let g = having (lasting e) f in
    let n = length e.content.past in
    let between = place_after d e (splice e.content.text start stop []) start in
    let two = with_exchange d e start stop (b ∷ bs) in
    let runs = sym (runs-of-two e.undo_groups n) in
    record {
      lasts = refl;
      deeds = Edits start stop [] e.place between false ∷ Edits start start (b ∷ bs) between two.place true ∷ [];
      first = ap₂ (λ rs stored. record (work two) { undo_groups = rs; stored = stored }) runs (sym (stored-of-two n e.stored));
      other = ap₂ (λ rs stored. record (work (with_exchange d g start stop (b ∷ bs))) { undo_groups = rs; stored = stored }) runs (sym (stored-of-two n f.stored));
    }

matches_alike : (d : Data) (e f : Editor) (stop : ℕ) (new : List ℕ) (n : ℕ)
    → Alike e (with_matches_replaced d e stop new n) (having (lasting e) f) (with_matches_replaced d (having (lasting e) f) stop new n)
matches_alike d e f stop new n =
    let out = exchange_alike d e f e.at stop new in
    record {
      lasts = ap (λ (l : Lasting). record l { origin = 0; count = e.count + n }) out.lasts;
      deeds = out.deeds;
      first = out.first;
      other = out.other;
    }

-- ---- the next match

ended_alike : (e new f new' : Editor) → Alike e new f new' → Alike e (after_ending new) f (after_ending new')
ended_alike e new f new' h = record {
  lasts = ap (λ (l : Lasting). record l { search_state = Off }) h.lasts;
  deeds = h.deeds;
  first = h.first;
  other = h.other;
}

at_alike : (d : Data) (at : Option ℕ) (e new f new' : Editor) → Alike e new f new' → Alike e (at_match d new at) f (at_match d new' at)
at_alike d None e new f new' h = ended_alike e new f new' h
at_alike d (Some at) e new f new' h = record {
  lasts = ap (λ (l : Lasting). record l { search_state = Replacing; at = at; place = place_at (text_rows d l.base l.width l.content.text) at }) h.lasts;
  deeds = h.deeds;
  first = h.first;
  other = h.other;
}

on_alike : (d : Data) (z : ℕ) (e new f new' : Editor) → Alike e new f new' → Alike e (on_from d z new) f (on_from d z new')
on_alike d z e new f new' h =
    subst (λ (at : Option ℕ). Alike e (at_match d new (next_match d new z)) f (at_match d new' at))
    (ap (λ (l : Lasting). next_match d (having l e) z) h.lasts)
    (at_alike d (next_match d new z) e new f new' h)

same : (e f : Editor) → Alike e e (having (lasting e) f) (having (lasting e) f)
same e f = idle e e (having (lasting e) f) (having (lasting e) f) refl refl refl

abbrev full : Editor → Editor
full e = record e { message = Some TextFull }

full_alike : (e f : Editor) → Alike e (full e) (having (lasting e) f) (full (having (lasting e) f))
full_alike e f = idle e (full e) (having (lasting e) f) (full (having (lasting e) f)) refl refl refl

-- ---- one match, or all that follow

replacing_alike : (d : Data) (e f : Editor) → Alike e (after_replacing d e) (having (lasting e) f) (after_replacing d (having (lasting e) f))
replacing_alike d e f =
    let g = having (lasting e) f in
    let stop = match_stop d e in
    let one = with_matches_replaced d e stop e.replacement 1 in
    let one' = with_matches_replaced d g stop e.replacement 1 in
    let z = e.at + length e.replacement in
    either_alike (fits e.content.text e.at stop e.replacement) e (on_from d z one) (full e) g (on_from d z one') (full g)
    (on_alike d z e one g one' (matches_alike d e f stop e.replacement 1)) (full_alike e f)

all_alike : (d : Data) (e f : Editor) → Alike e (after_replacing_all d e) (having (lasting e) f) (after_replacing_all d (having (lasting e) f))
all_alike d e f =
    let g = having (lasting e) f in
    let spans = matches_on d e in
    let stop = last_stop e.at spans in
    let new = swapped e.at e.content.text e.replacement spans in
    let all = with_matches_replaced d e stop new (length spans) in
    let all' = with_matches_replaced d g stop new (length spans) in
    either_alike (fits e.content.text e.at stop new) e (after_ending all) (full e) g (after_ending all') (full g)
    (ended_alike e all g all' (matches_alike d e f stop new (length spans))) (full_alike e f)

passing_alike : (d : Data) (e f : Editor) → Alike e (after_passing_over d e) (having (lasting e) f) (after_passing_over d (having (lasting e) f))
passing_alike d e f =
    let g = having (lasting e) f in on_alike d (behind_character e.content.text e.at) e e g g (same e f)

-- ---- the question for the replacement

shown_alike : (e f : Editor) (at : Option ℕ) → Alike e (shown_at e at) (having (lasting e) f) (shown_at (having (lasting e) f) at)
shown_alike e f None = same e f
shown_alike e f (Some at) = record { lasts = refl; deeds = []; first = refl; other = refl }

asked_alike : (e f : Editor) (landing : Landing) (place : Option ℕ) → let g = having (lasting e) f in
    Alike e (asked_at place (landed (record e { purpose = Replace }) landing)) g (asked_at place (landed (record g { purpose = Replace }) landing))
asked_alike e f landing None = record { lasts = refl; deeds = []; first = refl; other = refl }
asked_alike e f landing (Some place) = record { lasts = refl; deeds = []; first = refl; other = refl }

pub asking_alike : (d : Data) (e f : Editor) → Alike e (after_asking_replacement d e) (having (lasting e) f) (after_asking_replacement d (having (lasting e) f))
asking_alike d e f =
    let g = having (lasting e) f in
    let aimed : Editor = record e { purpose = Replace } in
    let aimed' : Editor = record g { purpose = Replace } in
    let landing = landing_from d e.place aimed in
    let none : Editor → Editor = λ x. landed (record x { purpose = Replace }) (nothing_sought e.query) in
    either_alike (length (sought d aimed) == 0) e (none e) (asked_at landing.place (landed aimed landing)) g (none g)
    (asked_at landing.place (landed aimed' landing)) (idle e (none e) g (none g) refl refl refl) (asked_alike e f landing landing.place)

-- ---- keys

-- the search that is left makes no difference
unsought_alike : (e new f new' : Editor) → Alike (without_search e) new (without_search f) new' → Alike e new f new'
unsought_alike e new f new' h = record { lasts = h.lasts; deeds = h.deeds; first = h.first; other = h.other }

pub replacement_typed_alike : (d : Data) (e f : Editor) (c : ℕ)
    → Alike e (replacement_typed d e c) (having (lasting e) f) (replacement_typed d (having (lasting e) f) c)
replacement_typed_alike d e f c =
    let g = having (lasting e) f in
    let longer : Editor → Editor = λ x. with_replacement x (line_lengthened d longest_query (kept e.search_state (replacement_line e)) c) in
    either_alike (is_no_letter d c) e e (longer e) g g (longer g) (same e f) (idle e (longer e) g (longer g) refl refl refl)

replacement_letter_alike : (d : Data) (e f : Editor) (c : ℕ)
    → Alike e (after_replacement_letter d e c) (having (lasting e) f) (after_replacement_letter d (having (lasting e) f) c)
replacement_letter_alike d e f c =
    let g = having (lasting e) f in
    either_alike (c == 0xA) e (after_showing d e) (replacement_typed d e c) g (after_showing d g) (replacement_typed d g c)
    (shown_alike e f (next_match d e e.place)) (replacement_typed_alike d e f c)

erasing_replacement_alike : (d : Data) (e f : Editor) (how : Erasure)
    → Alike e (after_erasing_replacement d e how) (having (lasting e) f) (after_erasing_replacement d (having (lasting e) f) how)
erasing_replacement_alike d e f how =
    let g = having (lasting e) f in
    let shorter : Editor → Editor = λ x. with_replacement x (line_shortened d how (replacement_line e)) in
    either_alike (erases_nothing d how (replacement_line e)) e e (shorter e) g g (shorter g) (same e f) (idle e (shorter e) g (shorter g) refl refl refl)

match_letter_alike : (d : Data) (typing : Typing) (e f : Editor) (c : ℕ)
    → Alike e (after_match_letter d typing e c) (having (lasting e) f) (after_match_letter d typing (having (lasting e) f) c)
match_letter_alike d typing e f c =
    let g = having (lasting e) f in
    either_alike ((c == 0xA) && not (is_paste typing)) e (after_replacing d e) e g (after_replacing d g) g (replacing_alike d e f) (same e f)

-- a key that ends the search
pub ends_search_alike : (d : Data) (fault : Option StoreFault) (was was' : Before) (e f : Editor) (key : Key) → Presses e f key
    → let g = having (lasting e) f in
    Alike e (after_pressing d fault was (without_search e) key) g (after_pressing d None (record was' { typing = was.typing }) (without_search g) key)
ends_search_alike d fault was was' e f key h =
    unsought_alike e _ (having (lasting e) f) _
    (pressed_alike d fault was was' (without_search e) f key
    (record { goes_on = h.goes_on; saves_nothing = h.saves_nothing; rests = h.rests; names = h.names }))

pub replacement_alike : (d : Data) (fault : Option StoreFault) (was was' : Before) (e f : Editor) (key : Key) (answer : Answer) → Presses e f key
    → (scrolls answer ≡ false) ⊎ (f.top ≡ e.top) → Alike e (after_line_put d e) (having (lasting e) f) (after_line_put d (having (lasting e) f))
    → Alike e (answered_replacement d fault was e key answer) (having (lasting e) f)
    (answered_replacement d None (record was' { typing = was.typing }) (having (lasting e) f) key answer)
replacement_alike d fault was was' e f key (Letter c) h r put =
    let g = having (lasting e) f in
    taking_alike d was.typing c e (after_replacement_letter d e c) g (after_replacement_letter d g c) refl (λ taken. replacement_letter_alike d e f c)
replacement_alike d fault was was' e f key (Erases how) h r put = erasing_replacement_alike d e f how
replacement_alike d fault was was' e f key (Moves m) h r put = record { lasts = refl; deeds = []; first = refl; other = refl }
replacement_alike d fault was was' e f key PutsIn h r put = put
replacement_alike d fault was was' e f key Passes h r put = same e f
replacement_alike d fault was was' e f key GoesBack h r put = record { lasts = refl; deeds = []; first = refl; other = refl }
replacement_alike d fault was was' e f key Next h r put = record { lasts = refl; deeds = []; first = refl; other = refl }
replacement_alike d fault was was' e f key Previous h r put = record { lasts = refl; deeds = []; first = refl; other = refl }
replacement_alike d fault was was' e f key Replaces h r put = shown_alike e f (next_match d e e.place)
replacement_alike d fault was was' e f key (Scrolls way) h r put = scrolled_alike d was (record was' { typing = was.typing }) e f way r
replacement_alike d fault was was' e f key Stays h r put = record { lasts = refl; deeds = []; first = refl; other = refl }
replacement_alike d fault was was' e f key Ends h r put = ends_search_alike d fault was was' e f key h

pub match_alike : (d : Data) (fault : Option StoreFault) (was was' : Before) (e f : Editor) (key : Key) (answer : Answer) → Presses e f key
    → (scrolls answer ≡ false) ⊎ (f.top ≡ e.top)
    → Alike e (answered_match d fault was e key answer) (having (lasting e) f)
    (answered_match d None (record was' { typing = was.typing }) (having (lasting e) f) key answer)
match_alike d fault was was' e f key (Letter c) h r =
    let g = having (lasting e) f in
    going_on (only_paste was.typing) e (after_match_letter d was.typing e c) g (after_match_letter d was.typing g c) (match_letter_alike d was.typing e f c)
match_alike d fault was was' e f key (Erases how) h r = same e f
match_alike d fault was was' e f key (Moves m) h r = ends_search_alike d fault was was' e f key h
match_alike d fault was was' e f key PutsIn h r = ends_search_alike d fault was was' e f key h
match_alike d fault was was' e f key Passes h r = ends_search_alike d fault was was' e f key h
match_alike d fault was was' e f key GoesBack h r = ended_alike e e (having (lasting e) f) (having (lasting e) f) (same e f)
match_alike d fault was was' e f key Next h r = passing_alike d e f
match_alike d fault was was' e f key Previous h r = record { lasts = refl; deeds = []; first = refl; other = refl }
match_alike d fault was was' e f key Replaces h r = all_alike d e f
match_alike d fault was was' e f key (Scrolls way) h r = scrolled_alike d was (record was' { typing = was.typing }) e f way r
match_alike d fault was was' e f key Stays h r = record { lasts = refl; deeds = []; first = refl; other = refl }
match_alike d fault was was' e f key Ends h r = ends_search_alike d fault was was' e f key h
