-- The next match that is shown once one, or more, were replaced.
use Rattle.std.proofs.Common.{◌≡◌, ◌≤◌, ◌+◌, ◌∙◌, ℕ, true, List, [], ◌∷◌, length, refl, ap, sym}
use Rattle.std.specs.Prelude.{Option, Some, None, option_map, IsUtf8, if◌then◌else◌}
use Rattle.bx_ucd.specs.Data.{Data}
use Rattle.bx_find.specs.Matches.{first_from}
use Rattle.bx_text.specs.Edits.{fits, splice}
use Rattle.bx_text.specs.Changes.{IsRange}
use Rattle.bx_view.specs.Moves.{place_at}
use Rattle.bx_view.specs.TextRows.{TextRow}
use Rattle.bx_editor.specs.declared.search_state.SearchState.TheVariants.{Replacing}
use Rattle.bx_editor.specs.declared.message.Message.TheVariants.{TextFull}
use Rattle.bx_editor.specs.Editor.{Editor, cleared, rows, rows_of}
use Rattle.bx_editor.specs.Replacing.{after_ending, after_replacing, at_match, match_stop, next_match, on_from}
use Rattle.bx_editor.specs.Functions.{next_behind, placed_in}
use Rattle.bx_editor.specs.Replacing.{with_matches_replaced}
use Rattle.bx_editor.specs.Search.{reading, sought}
use Rattle.bx_editor.proofs.Exchanged.{cleared-replaced, out-and-in}
use Rattle.bx_editor.proofs.MovedMatches.{first-behind-new, moved}

module _ (d : Data) (e : Editor) (stop : ℕ) where
  -- the text, and the first match behind the bytes that were put in
  abbrev pub text_with : List ℕ → List ℕ
  text_with new = splice e.content.text e.at stop new

  abbrev pub first_with : List ℕ → Option ℕ
  first_with new = first_from d (reading e.purpose) (sought d e) (text_with new) (e.at + length new)

  match-with : (new : List ℕ) (n z : ℕ) → e.at ≤ length e.content.text
      → next_match d (with_matches_replaced d e stop new n) z ≡ first_from d (reading e.purpose) (sought d e) (text_with new) z
  match-with [] n z inside = refl
  match-with (b ∷ bs) n z inside =
      ap (λ text. first_from d (reading e.purpose) (sought d e) text z) (out-and-in e.content.text e.at stop (b ∷ bs) inside)

  rows-with : (new : List ℕ) (n : ℕ) → e.at ≤ length e.content.text
      → rows d (with_matches_replaced d e stop new n) ≡ rows_of d e (text_with new)
  rows-with [] n inside = refl
  rows-with (b ∷ bs) n inside = ap (rows_of d e) (out-and-in e.content.text e.at stop (b ∷ bs) inside)

  some-placed : (text : List ℕ) (o : Option ℕ) (at place : ℕ) → Some (at, place) ≡ placed_in d e text o
      → (o ≡ Some at) × (place ≡ place_at (rows_of d e text) at)
  some-placed text None at place is = absurd (cc)
  some-placed text (Some x) at place is =
      let same : (at, place) ≡ (x, place_at (rows_of d e text) x) = cc in
      let here : at ≡ x = ap (λ (p : ℕ × ℕ). p.0) same in (
        ap (λ n. Some n) (sym here),
        ap (λ (p : ℕ × ℕ). p.1) same ∙ ap (place_at (rows_of d e text)) (sym here),
      )

  none-placed : (text : List ℕ) (o : Option ℕ) → None ≡ placed_in d e text o → o ≡ None
  none-placed text None is = refl
  none-placed text (Some x) is = absurd (cc)

  -- there is one
  pub found-behind : (new : List ℕ) (at place : ℕ) → Some (at, place) ≡ next_behind d e stop new → Some at ≡ first_with new
  found-behind new at place is = sym (some-placed (text_with new) (first_with new) at place is).0

  pub shown-behind : (new : List ℕ) (n at place : ℕ) → e.at ≤ length e.content.text → Some (at, place) ≡ next_behind d e stop new
      → record (with_matches_replaced d e stop new n) { search_state = Replacing; at = at; place = place }
      ≡ on_from d (e.at + length new) (with_matches_replaced d e stop new n)
  shown-behind new n at place inside is =
      let now = with_matches_replaced d e stop new n in
      let placed = some-placed (text_with new) (first_with new) at place is in
      ap (λ p. record now { search_state = Replacing; at = at; place = p })
      (placed.1 ∙ ap (λ (rs : List TextRow). place_at rs at) (sym (rows-with new n inside)))
      ∙ sym (ap (at_match d now) (match-with new n (e.at + length new) inside ∙ placed.0))

  -- there is none
  pub ended-behind : (new : List ℕ) (n : ℕ) → e.at ≤ length e.content.text → None ≡ next_behind d e stop new
      → after_ending (with_matches_replaced d e stop new n) ≡ on_from d (e.at + length new) (with_matches_replaced d e stop new n)
  ended-behind new n inside is =
      let now = with_matches_replaced d e stop new n in
      sym (ap (at_match d now) (match-with new n (e.at + length new) inside ∙ none-placed (text_with new) (first_with new) is))

  -- it is found in the text of before
  pub placed-behind : (new : List ℕ) (o : Option ℕ) → IsUtf8 e.content.text → IsUtf8 new → IsRange e.content.text e.at stop
      → o ≡ next_match d e stop
      → next_behind d e stop new ≡ placed_in d e (text_with new) (option_map (moved stop (e.at + length new)) o)
  placed-behind new o u v range is =
      ap (placed_in d e (text_with new))
      (first-behind-new d (reading e.purpose) (sought d e) e.content.text e.at stop new u v range
      ∙ ap (option_map (moved stop (e.at + length new))) (sym is))

-- the match has given way to the replacement
module _ (d : Data) (e : Editor) (stop : ℕ) (is : stop ≡ match_stop d e) (room : fits e.content.text e.at stop e.replacement ≡ true) where
  on-is : on_from d (e.at + length e.replacement) (with_matches_replaced d (cleared e) stop e.replacement 1) ≡ after_replacing d (cleared e)
  on-is =
      let on : ℕ → Editor = λ s. on_from d (e.at + length e.replacement) (with_matches_replaced d (cleared e) s e.replacement 1) in
      ap on is
      ∙ ap (λ b. if b then on (match_stop d e) else record (cleared e) { message = Some TextFull })
      (sym (ap (λ s. fits e.content.text e.at s e.replacement) (sym is) ∙ room))

  pub replaced-next : (at place : ℕ) → e.at ≤ length e.content.text → Some (at, place) ≡ next_behind d e stop e.replacement
      → cleared (record (with_matches_replaced d e stop e.replacement 1) { search_state = Replacing; at = at; place = place })
      ≡ after_replacing d (cleared e)
  replaced-next at place inside found =
      ap (λ (x : Editor). (let y : Editor = record x { search_state = Replacing; at = at; place = place } in y))
      (cleared-replaced d e stop e.replacement 1)
      ∙ shown-behind d (cleared e) stop e.replacement 1 at place inside found ∙ on-is

  pub replaced-last : e.at ≤ length e.content.text → None ≡ next_behind d e stop e.replacement
      → after_ending (cleared (with_matches_replaced d e stop e.replacement 1)) ≡ after_replacing d (cleared e)
  replaced-last inside none =
      ap after_ending (cleared-replaced d e stop e.replacement 1) ∙ ended-behind d (cleared e) stop e.replacement 1 inside none ∙ on-is
