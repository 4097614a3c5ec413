-- Worked examples, each from a law of pastes alone.
use Rattle.std.proofs.Common.{◌≡◌, ℕ, ◌<◌, ◌≤◌, true, false, List, [], ◌∷◌, ◌++◌, map, refl, ap, arith}
use Rattle.std.specs.Prelude.{◌≢◌, ◌==◌, ◌&&◌, not, codes, Option, None}
use Rattle.std.specs.Fmt.{digits}
use Rattle.std.proofs.lemmas.List.Elements.{All-cons, All-nil}
use Rattle.ucd_case.proofs.Computing.{ucd_case}
use Rattle.unicode_normalization.proofs.Computing.{unicode_normalization}
use Rattle.unicode_segmentation.proofs.Computing.{unicode_segmentation}
use Rattle.unicode_width.proofs.Computing.{unicode_width}
use Rattle.bx_common.specs.declared.base.Base.TheVariants.{Auto}
use Rattle.bx_keys.specs.declared.key.Key.{Key}
use Rattle.bx_keys.specs.declared.key.Key.TheVariants.{Cancel, Find, Forward, Insert, PasteEnd, PasteStart, Right, Select, Undo}
use Rattle.bx_store.specs.declared.store.StoreFault.{StoreFault}
use Rattle.bx_editor.specs.declared.search_state.SearchState.TheVariants.{Off}
use Rattle.bx_editor.specs.Editor.{Editor}
use Rattle.bx_editor.specs.Putting.{pastes_crlf}
use Rattle.bx_editor_laws.specs.PastingLaws.{KeysEndPastes, PasteComesBack, PasteIsTyping, PastesAreAlone, PastesEndByKeys}
use Rattle.bx_editor.proofs.Computed.{tables, start, after, letters}

-- text and place
abbrev Has : List ℕ → ℕ → Editor → Type 0
Has text place e = (e.content.text ≡ text) × (e.place ≡ place)

-- ---- a key ends it

-- a paste of one letter, of which nothing is in the text
abbrev half : Editor
half = after (start (codes "ab") 2 40) (PasteStart ∷ letters (codes "x"))

pub right_goes_on_behind_the_letter : KeysEndPastes → Has (codes "xab") 2 (after half (Right ∷ []))
unfolding unicode_segmentation unicode_width digits
right_goes_on_behind_the_letter law =
    let same = (law tables None half Right refl).same in (ap (λ (e : Editor). e.content.text) same, ap (λ (e : Editor). e.place) same)

pub after_right_it_is_over : PastesEndByKeys → (after half (Right ∷ [])).pasted ≡ None
unfolding unicode_segmentation unicode_width digits
after_right_it_is_over law = (law tables None half Right (λ none. cc none)).0 refl

pub after_a_letter_it_goes_on : PastesEndByKeys → (after half (letters (codes "y"))).pasted ≢ None
unfolding unicode_segmentation unicode_width digits
after_a_letter_it_goes_on law over =
    let ends : false ≡ true = (law tables None half (Insert 0x79) (λ none. cc none)).1 over in cc ends

-- ---- outside a search

abbrev typed : List Key → List (Key × Option StoreFault)
typed keys = map (λ key. (key, None)) keys

pub it_begins_outside_a_search : PastesAreAlone
    → (after (start (codes "ab ab") 2 40) (Find ∷ Cancel ∷ PasteStart ∷ letters (codes "b\n"))).search_state ≡ Off
unfolding unicode_segmentation unicode_width digits unicode_normalization ucd_case
it_begins_outside_a_search law =
    (law tables (codes "ab ab") 2 40 Auto (typed (Find ∷ Cancel ∷ PasteStart ∷ letters (codes "b\n"))) (λ none. cc none)).unsought

-- ---- what it puts in

-- two of four letters are selected
abbrev two_selected : Editor
two_selected = after (start (codes "abcd") 2 40) (Select ∷ Forward ∷ Select ∷ Forward ∷ [])

pub a_selection_comes_back : PasteComesBack
    → Has (codes "abcd") 2 (after two_selected (PasteStart ∷ letters (codes "xy") ++ PasteEnd ∷ Undo ∷ []))
unfolding unicode_segmentation unicode_width digits
a_selection_comes_back law =
    let back = (law tables two_selected (codes "xy") (record { unasked = refl; unsought = refl }) refl).with_room refl (λ none. cc none) refl in
    (back.text_is, back.unmarked.place_is)

pub a_pasted_line_end_comes_back : PasteComesBack
    → (after (start (codes "xy") 2 40) (Forward ∷ PasteStart ∷ letters (codes "b\nc") ++ PasteEnd ∷ Undo ∷ [])).content.text ≡ codes "xy"
unfolding unicode_segmentation unicode_width digits
a_pasted_line_end_comes_back law =
    let more : 0 < 1 = omega arith in
    let inside = after (start (codes "xy") 2 40) (Forward ∷ []) in
    ((law tables inside (codes "b\nc") (record { unasked = refl; unsought = refl }) refl).back more).text_is

-- between a and b
abbrev between : Editor
between = after (start (codes "ab") 2 40) (Forward ∷ [])

pub two_letters_as_if_typed : PasteIsTyping → Has (codes "axyb") 3 (after between (PasteStart ∷ letters (codes "xy") ++ PasteEnd ∷ []))
unfolding unicode_segmentation unicode_width digits
two_letters_as_if_typed law =
    let Plain = λ (c : ℕ). pastes_crlf tables (codes "ab") c ≡ false in
    let inside : 1 ≤ 2 = omega arith in
    let IsTyped = λ (c : ℕ). ((c == 0x9) && not (between.tab_width == 0)) ≡ false in
    let same = law tables between (codes "xy") (record { unasked = refl; unsought = refl }) refl refl inside
    (All-cons Plain 0x78 (0x79 ∷ []) refl (All-cons Plain 0x79 [] refl (All-nil Plain)))
    (All-cons IsTyped 0x78 (0x79 ∷ []) refl (All-cons IsTyped 0x79 [] refl (All-nil IsTyped))) refl (refl, (refl, tt)) in
    (same.text_is, same.place_is)
