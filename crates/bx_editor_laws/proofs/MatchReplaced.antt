-- What the keys do to a match that is shown.
use Rattle.std.proofs.Common.{◌≡◌, ℕ, ◌+◌, ◌-◌, ◌<◌, ◌≤◌, Bool, true, false, List, [], ◌∷◌, ◌++◌, length, take, drop, Option, Some, None, refl, sym, ap, ap₂, subst, ◌∙◌}
use Rattle.std.proofs.Common.{arith, inl, inr, if◌then◌else◌, append-nil, append_assoc, length-append, IsCharBoundary}
use Rattle.std.specs.Prelude.{◌==◌, ◌&&◌, not, nat_le, slice_range, IsUtf8, MatchOption}
use Rattle.std.proofs.lemmas.Bool.Decides.{nat_tests}
use Rattle.std.proofs.lemmas.List.{drop_at, length-drop, length-take-le, take_at}
use Rattle.std.proofs.lemmas.Str.{IsUtf8-append, IsUtf8-drop, IsUtf8-take}
use Rattle.bx_common.specs.Characters.{largest_text}
use Rattle.bx_keys.specs.declared.key.Key.{Key}
use Rattle.bx_keys.specs.declared.key.Key.TheVariants.{Find, Insert, NewLine, Replace}
use Rattle.bx_text.specs.Edits.{fits, splice}
use Rattle.bx_editor.specs.declared.undo_groups.typing.Typing.{Typing}
use Rattle.bx_ucd.specs.Data.{Data}
use Rattle.bx_editor.specs.declared.questions.answers.Prompt.TheVariants as prompts
use Rattle.bx_find_laws.specs.Laws.{AreSpans}
use Rattle.bx_find.specs.Nearest.{IsFirst, MatchesAt}
use Rattle.bx_find.specs.Matches.{first_from, match_end}
use Rattle.bx_find.specs.declared.letters.Reading.{Reading}
use Rattle.bx_find.specs.declared.letters.Reading.TheVariants.{Close}
use Rattle.bx_find.proofs.Nearest.{first_is}
use Rattle.bx_find_laws.proofs.Following.{spans_are}
use Rattle.bx_document.specs.Swapped.{behind_character, last_stop, swapped}
use Rattle.bx_editor.specs.declared.search_state.SearchPurpose.TheVariants as purposes
use Rattle.bx_editor.specs.declared.message.Message.TheVariants.{TextFull}
use Rattle.bx_editor.specs.declared.search_state.SearchState.TheVariants.{Off, Replacing}
use Rattle.bx_editor_laws.specs.AskingLaws.{is_enter}
use Rattle.bx_editor.specs.Editor.{Editor, cleared, place_after, with_exchange, with_typing}
use Rattle.bx_editor.specs.Before.{before}
use Rattle.bx_editor.specs.Keys.{after_any, after_key, as_left, is_overwrite}
use Rattle.bx_editor.specs.Putting.{is_paste, only_paste}
use Rattle.bx_editor_laws.specs.ReplaceLaws.{AreTheMatches, DoesReplace, EnterReplaces, FindPassesOver, GoesOn, HasReplacedAll, HasReplacedOne}
use Rattle.bx_editor_laws.specs.ReplaceLaws.{IsFull, IsShowing, PassesOver, ReplaceReplacesAll, ReplacesMatch, ReplacesMatches, SameLettersStay}
use Rattle.bx_editor.specs.Replacing.{after_ending, after_match_letter, after_passing_over, after_replacing, after_replacing_all, at_match}
use Rattle.bx_editor.specs.Replacing.{match_stop, matches_on, next_match, on_from, with_matches_replaced}
use Rattle.bx_editor.specs.Search.{reading, sought}
use Rattle.bx_editor.proofs.InSearch.{any-key}
use Rattle.bx_editor_laws.proofs.KeyEnds.{user-key}
use Rattle.bx_editor_laws.proofs.MatchesApart.{all-lie, apart, are-spans, last-after, last-bound, letters-are}
use Rattle.bx_editor_laws.proofs.MatchLetters.{all-swapped, end-letters, match-bound, match-letters, match-some, one-swapped, spelt}

-- ---- which key it is

pub entered : (d : Data) (e : Editor) (enter : Key) → e.pasted ≡ None → e.prompt ≡ prompts.Off → e.search_state ≡ Replacing → is_enter enter ≡ true
    → after_key d None e enter ≡ as_left enter (with_typing (after_match_letter d e.typing (cleared e) 0xA) (only_paste e.typing))
entered d e (Insert c) settled unasked shown end =
    let same : c ≡ 0xA = grind (arith, nat_tests, end) in
    any-key d None e (Insert c) settled refl ∙ ap₂ (λ a s. as_left (Insert c) (after_any d None (before e) a s (cleared e) (Insert c))) unasked shown
    ∙ ap (λ x. as_left (Insert c) (with_typing (after_match_letter d e.typing (cleared e) x) (only_paste e.typing))) same
entered d e NewLine settled unasked shown end =
    any-key d None e NewLine settled refl ∙ ap₂ (λ a s. as_left NewLine (after_any d None (before e) a s (cleared e) NewLine)) unasked shown
entered d e _ settled unasked shown end = absurd (cc end)

pub replaced-on : (d : Data) (e : Editor) → e.pasted ≡ None → e.prompt ≡ prompts.Off → e.search_state ≡ Replacing → e.read_only ≡ false
    → after_key d None e Replace ≡ as_left Replace (after_replacing_all d (cleared e))
replaced-on d e settled unasked shown writes =
    user-key d None e Replace settled refl (ap (λ r. r && not (is_overwrite e.prompt)) writes) ∙ ap₂ (λ a s. as_left Replace (after_any d None (before e) a s (cleared e) Replace)) unasked shown

passed-over : (d : Data) (e : Editor) → e.pasted ≡ None → e.prompt ≡ prompts.Off → e.search_state ≡ Replacing → after_key d None e Find ≡ as_left Find (after_passing_over d (cleared e))
passed-over d e settled unasked shown =
    any-key d None e Find settled refl ∙ ap₂ (λ a s. as_left Find (after_any d None (before e) a s (cleared e) Find)) unasked shown

-- whatever becomes of a match by a line end or by Replace
pub each-replaces : (P : Editor → Type 0) (d : Data) (e : Editor) (key : Key) → e.pasted ≡ None → e.prompt ≡ prompts.Off → e.search_state ≡ Replacing → e.read_only ≡ false → DoesReplace key
    → ((typing : Typing) → P (as_left key (with_typing (cleared e) typing)))
    → ((typing : Typing) → P (as_left key (with_typing (after_replacing d (cleared e)) typing)))
    → P (as_left key (after_replacing_all d (cleared e))) → P (after_key d None e key)
each-replaces P d e key settled unasked shown writes (inl enter) nothing one all =
    let was = cleared e in
    let put = only_paste e.typing in
    subst P (sym (entered d e key settled unasked shown enter))
    (elim ((0xA == 0xA) && not (is_paste e.typing)) as (λ b. P (as_left key (with_typing (if b then after_replacing d was else was) put))) [
      | true ↦ one put
      | false ↦ nothing put
    ])
each-replaces P d e key settled unasked shown writes (inr is) nothing one all =
    subst (λ k. P (as_left k (after_replacing_all d (cleared e))) → P (after_key d None e k)) (sym is)
    (λ h. subst P (sym (replaced-on d e settled unasked shown writes)) h) all

-- ---- a stretch of the text gives way

spliced-again : (text new : List ℕ) (start stop : ℕ) → start ≤ length text → splice (splice text start stop []) start start new ≡ splice text start stop new
spliced-again text new start stop inside =
    let front = length-take-le start text inside in
    let without : splice text start stop [] ≡ take start text ++ drop stop text = ap (λ xs. xs ++ drop stop text) (append-nil (take start text)) in
    ap (λ xs. take start xs ++ new ++ drop start xs) without
    ∙ ap₂ (λ (xs ys : List ℕ). xs ++ new ++ ys) (take_at (take start text) (drop stop text) start front) (drop_at (take start text) (drop stop text) start front)

pub record IsExchanged (d : Data) (e : Editor) (start stop : ℕ) (new : List ℕ) (now : Editor) : Type 0 where
  pub text_is : now.content.text ≡ splice e.content.text start stop new
  pub place_is : now.place ≡ place_after d e (splice e.content.text start stop new) (start + length new)
  pub purpose_is : now.purpose ≡ e.purpose

pub exchanged : (d : Data) (e : Editor) (start stop : ℕ) (new : List ℕ) → start ≤ length e.content.text → IsExchanged d e start stop new (with_exchange d e start stop new)
exchanged d e start stop [] inside = record { text_is = refl; place_is = refl; purpose_is = refl }
exchanged d e start stop (b ∷ bs) inside =
    let again = spliced-again e.content.text (b ∷ bs) start stop inside in
    record { text_is = again; place_is = ap (λ text. place_after d e text (start + length (b ∷ bs))) again; purpose_is = refl }

spliced-utf8 : (text new : List ℕ) (start stop : ℕ) → IsUtf8 text → IsUtf8 new → IsCharBoundary text start → IsCharBoundary text stop
    → IsUtf8 (splice text start stop new)
spliced-utf8 text new start stop u v b c =
    IsUtf8-append (take start text ++ new) (drop stop text) (IsUtf8-append (take start text) new (IsUtf8-take text start u b) v) (IsUtf8-drop text stop u c)

-- ---- whether there is room

sized : (text : List ℕ) (start stop : ℕ) (new : List ℕ) → start ≤ stop → stop ≤ length text
    → length (splice text start stop new) ≡ length text - (stop - start) + length new
sized text start stop new order inside =
    omega (
      arith,
      order,
      inside,
      length-append (take start text ++ new) (drop stop text),
      length-append (take start text) new,
      length-take-le start text (omega (arith, order, inside)),
      length-drop stop text,
    )

within : (n limit : ℕ) → n ≤ limit → nat_le n limit ≡ true
within n limit few = grind (arith, nat_tests, few)

beyond : (n limit : ℕ) → limit < n → nat_le n limit ≡ false
beyond n limit many = grind (arith, nat_tests, many)

has-room : (text : List ℕ) (start stop : ℕ) (new : List ℕ) → start ≤ stop → stop ≤ length text → length (splice text start stop new) ≤ largest_text
    → fits text start stop new ≡ true
has-room text start stop new order inside few =
    within (length text - (stop - start) + length new) largest_text (subst (λ n. n ≤ largest_text) (sized text start stop new order inside) few)

has-none : (text : List ℕ) (start stop : ℕ) (new : List ℕ) → start ≤ stop → stop ≤ length text → largest_text < length (splice text start stop new)
    → fits text start stop new ≡ false
has-none text start stop new order inside many =
    beyond (length text - (stop - start) + length new) largest_text (subst (λ n. largest_text < n) (sized text start stop new order inside) many)

-- ---- on to the next match

record WentOn (d : Data) (e : Editor) (z : ℕ) (new : Editor) : Type 0 where
  pub content_is : new.content ≡ e.content
  pub count_is : new.count ≡ e.count
  pub goes_on : GoesOn d new z
  pub ended : new.search_state ≡ Off → new.place ≡ e.place

went-to : (d : Data) (e : Editor) (z : ℕ) (o : Option ℕ)
    → MatchOption o ((i : ℕ) → z ≤ i → ¬ (MatchesAt d Close (sought d e) e.content.text i)) (IsFirst d Close (sought d e) e.content.text z) → WentOn d e z (at_match d e o)
went-to d e z None none = record { content_is = refl; count_is = refl; goes_on = inr (refl, (refl, none)); ended = λ off. refl }
went-to d e z (Some at) first = record { content_is = refl; count_is = refl; goes_on = inl (refl, (first, refl)); ended = λ off. absurd (cc off) }

went-on : (d : Data) (e : Editor) (z : ℕ) → IsUtf8 e.content.text → e.purpose ≡ purposes.Replace → WentOn d e z (on_from d z e)
went-on d e z u purpose =
    let closely : next_match d e z ≡ first_from d Close (sought d e) e.content.text z = ap (λ a. first_from d (reading a) (sought d e) e.content.text z) purpose in
    subst (λ o. WentOn d e z (at_match d e o)) (sym closely)
    (went-to d e z (first_from d Close (sought d e) e.content.text z) (first_is d Close (sought d e) e.content.text z u))

-- ---- the match

record HasMatch (d : Data) (e : Editor) : Type 0 where
  pub begins : IsCharBoundary e.content.text e.at
  pub ends : IsCharBoundary e.content.text (match_stop d e)
  pub some : e.at < match_stop d e
  pub letters_are : spelt d (slice_range e.content.text e.at (match_stop d e)) ≡ sought d e

has-match : (d : Data) (e : Editor) → IsShowing d e → HasMatch d e
has-match d e h =
    let text = e.content.text in
    let here = h.stands.here in
    let closely : match_stop d e ≡ match_end d Close (sought d e) text e.at = ap (λ a. match_end d (reading a) (sought d e) text e.at) h.stands.purpose_is in
    record {
      begins = here.0;
      ends = subst (IsCharBoundary text) (sym closely) (match-bound d text h.text (sought d e) e.at here);
      some = omega (arith, closely, match-some d text h.text (sought d e) e.at here);
      letters_are = ap (λ n. spelt d (slice_range text e.at n)) closely ∙ match-letters d text h.text (sought d e) e.at here;
    }

follow : (d : Data) (e : Editor) → IsShowing d e → AreSpans d Close (sought d e) e.content.text e.at (matches_on d e)
follow d e h =
    let closely : reading e.purpose ≡ Close = ap reading h.stands.purpose_is in
    subst (λ (r : Reading). AreSpans d r (sought d e) e.content.text e.at (matches_on d e)) closely
    (spans_are d (reading e.purpose) (sought d e) e.content.text h.text e.at)

-- ---- it is replaced

module _ (d : Data) (e : Editor) (h : IsShowing d e) where
  abbrev was : Editor
  was = cleared e

  abbrev there : HasMatch d e
  there = has-match d e h

  full : (key : Key) (typing : Typing) → IsFull e (as_left key (record was { message = Some TextFull; typing = typing }))
  full key typing = record { content_is = refl; place_is = refl; shown = h.shown; at_is = refl; count_is = refl; message_is = refl }

  one-is : (key : Key) (typing : Typing) → fits e.content.text e.at (match_stop d e) e.replacement ≡ true
      → HasReplacedOne d e (as_left key (with_typing (after_replacing d was) typing))
  one-is key typing room =
      let stop = match_stop d e in
      let now = with_matches_replaced d was stop e.replacement 1 in
      let put = exchanged d was e.at stop e.replacement there.begins.0 in
      let utf8 : IsUtf8 now.content.text =
      subst IsUtf8 (sym put.text_is) (spliced-utf8 e.content.text e.replacement e.at stop h.text h.replacement there.begins there.ends) in
      let went = went-on d now (e.at + length e.replacement) utf8 (put.purpose_is ∙ h.stands.purpose_is) in
      subst (λ (x : Editor). HasReplacedOne d e (as_left key (with_typing x typing)))
      (sym (ap (λ b. if b then on_from d (e.at + length e.replacement) now else record was { message = Some TextFull }) room))
      (record {
        letters_are = there.letters_are;
        text_is = ap (λ t. t.text) went.content_is ∙ put.text_is;
        count_is = went.count_is;
        goes_on = went.goes_on;
        ended = λ off. went.ended off ∙ put.place_is;
      })

  one-full : (key : Key) (typing : Typing) → fits e.content.text e.at (match_stop d e) e.replacement ≡ false
      → IsFull e (as_left key (with_typing (after_replacing d was) typing))
  one-full key typing none =
      let now = on_from d (e.at + length e.replacement) (with_matches_replaced d was (match_stop d e) e.replacement 1) in
      subst (λ (x : Editor). IsFull e (as_left key (with_typing x typing))) (sym (ap (λ b. if b then now else record was { message = Some TextFull }) none))
      (full key typing)

  one-replaced : (key : Key) (typing : Typing) → ReplacesMatch d e (as_left key (with_typing (after_replacing d was) typing))
  one-replaced key typing =
      let stop = match_stop d e in
      let order : e.at ≤ stop = omega (arith, there.some) in
      record {
        fits = λ few. one-is key typing (has-room e.content.text e.at stop e.replacement order there.ends.0 few);
        full = λ many. one-full key typing (has-none e.content.text e.at stop e.replacement order there.ends.0 many);
      }

  -- ---- all are replaced

  abbrev all : List (ℕ × ℕ)
  all = matches_on d e

  abbrev put_in : List ℕ
  put_in = swapped e.at e.content.text e.replacement all

  all-is : fits e.content.text e.at (last_stop e.at all) put_in ≡ true → HasReplacedAll d e all (as_left Replace (after_replacing_all d was))
  all-is room =
      let put = exchanged d was e.at (last_stop e.at all) put_in there.begins.0 in
      subst (λ b. HasReplacedAll d e all (as_left Replace (if b then after_ending (with_matches_replaced d was (last_stop e.at all) put_in (length all)) else record was { message = Some TextFull })))
      (sym room)
      (record { text_is = put.text_is; place_is = put.place_is; count_is = refl; search_state_is = refl; message_is = refl })

  all-full : fits e.content.text e.at (last_stop e.at all) put_in ≡ false → IsFull e (as_left Replace (after_replacing_all d was))
  all-full none =
      subst (λ b. IsFull e (as_left Replace (if b then after_ending (with_matches_replaced d was (last_stop e.at all) put_in (length all)) else record was { message = Some TextFull })))
      (sym none) (full Replace was.typing)

  all-order : e.at ≤ last_stop e.at all
  all-order = last-after d (sought d e) e.content.text h.text e.at all (follow d e h)

  all-ends : IsCharBoundary e.content.text (last_stop e.at all)
  all-ends = last-bound d (sought d e) e.content.text h.text e.at all there.begins (follow d e h)

  are-matches : AreTheMatches d e all
  are-matches = record {
    are_matches = are-spans d (sought d e) e.content.text h.text e.at all (follow d e h);
    apart = apart d (sought d e) e.content.text h.text e.at all (follow d e h);
    letters_are = letters-are d (sought d e) e.content.text h.text e.at all (follow d e h);
    all = all-lie d (sought d e) e.content.text h.text e.at all (follow d e h);
  }

  -- ---- the letters stay

  abbrev Same : Editor → Type 0
  Same new = spelt d new.content.text ≡ spelt d e.content.text

  one-same : spelt d e.replacement ≡ sought d e → (room : Bool)
      → Same (if room then on_from d (e.at + length e.replacement) (with_matches_replaced d was (match_stop d e) e.replacement 1) else record was { message = Some TextFull })
  one-same same false = refl
  one-same same true =
      let stop = match_stop d e in
      let text = e.content.text in
      let now = with_matches_replaced d was stop e.replacement 1 in
      let put = exchanged d was e.at stop e.replacement there.begins.0 in
      let order : e.at ≤ stop = omega (arith, there.some) in
      ap (λ t. spelt d t.text) (on-content d now (next_match d now (e.at + length e.replacement))) ∙ ap (spelt d) put.text_is
      ∙ ap (spelt d) (append_assoc (take e.at text) e.replacement (drop stop text))
      ∙ end-letters d text h.text e.at (e.replacement ++ drop stop text) there.begins
      (one-swapped d text h.text e.at stop e.replacement order there.begins there.ends h.replacement (same ∙ sym there.letters_are))
    where
      on-content : (d : Data) (now : Editor) (o : Option ℕ) → (at_match d now o).content ≡ now.content
      on-content d now None = refl
      on-content d now (Some at) = refl

  all-same : spelt d e.replacement ≡ sought d e → (room : Bool)
      → Same (if room then after_ending (with_matches_replaced d was (last_stop e.at all) put_in (length all)) else record was { message = Some TextFull })
  all-same same false = refl
  all-same same true =
      let text = e.content.text in
      let stop = last_stop e.at all in
      let put = exchanged d was e.at stop put_in there.begins.0 in
      ap (spelt d) put.text_is ∙ ap (spelt d) (append_assoc (take e.at text) put_in (drop stop text))
      ∙ end-letters d text h.text e.at (put_in ++ drop stop text) there.begins
      (all-swapped d text h.text (sought d e) e.replacement h.replacement same e.at all there.begins (follow d e h))

-- ---- the laws

pub enter-replaces : EnterReplaces
enter-replaces d e enter h plain end =
    let was = cleared e in
    let put = only_paste e.typing in
    subst (ReplacesMatch d e)
    (sym (entered d e enter h.settled h.unasked h.shown end
    ∙ ap (λ b. as_left enter (with_typing (if (0xA == 0xA) && not b then after_replacing d was else was) put)) plain))
    (one-replaced d e h enter put)

pub find-passes-over : FindPassesOver
find-passes-over d e h =
    let went = went-on d (cleared e) (behind_character e.content.text e.at) h.text h.stands.purpose_is in
    subst (PassesOver d e) (sym (passed-over d e h.settled h.unasked h.shown))
    (record { content_is = went.content_is; count_is = went.count_is; goes_on = went.goes_on; ended = went.ended })

pub replace-replaces-all : ReplaceReplacesAll
replace-replaces-all d e h =
    let stop = last_stop e.at (matches_on d e) in
    let new = swapped e.at e.content.text e.replacement (matches_on d e) in
    let order = all-order d e h in
    let inside = (all-ends d e h).0 in
    subst (ReplacesMatches d e) (sym (replaced-on d e h.settled h.unasked h.shown h.writes))
    (record {
      spans = matches_on d e;
      are = are-matches d e h;
      fits = λ few. all-is d e h (has-room e.content.text e.at stop new order inside few);
      full = λ many. all-full d e h (has-none e.content.text e.at stop new order inside many);
    })

pub same-letters-stay : SameLettersStay
same-letters-stay d e key h does same =
    let was = cleared e in
    each-replaces (λ (new : Editor). spelt d new.content.text ≡ spelt d e.content.text) d e key h.settled h.unasked h.shown h.writes does (λ typing. refl)
    (λ typing. one-same d e h same (fits e.content.text e.at (match_stop d e) e.replacement))
    (all-same d e h same (fits e.content.text e.at (last_stop e.at (matches_on d e)) (swapped e.at e.content.text e.replacement (matches_on d e))))
