-- A paste is one edit.
use Rattle.std.proofs.Common.{◌≡◌, ℕ, ◌+◌, ◌-◌, ◌<◌, Bool, true, false, nat_le, nat_lt, List, [], ◌∷◌, ◌++◌, length, map, refl, sym, ap, subst, ◌∙◌}
use Rattle.std.proofs.Common.{arith, inl, inr, if◌then◌else◌, append-nil, append_assoc, length-append}
use Rattle.std.specs.Prelude.{◌≢◌, ◌==◌, ◌⊎◌, ◌&&◌, not, Option, Some, None}
use Rattle.std.proofs.lemmas.Bool.{ne_eqb}
use Rattle.std.proofs.lemmas.Bool.Decides.{nat_tests}
use Rattle.bx_keys.specs.declared.key.Key.TheVariants.{Insert, PasteEnd}
use Rattle.bx_common.specs.Characters.{largest_text}
use Rattle.bx_text.specs.Edits.{fits}
use Rattle.bx_ucd.specs.Data.{Data}
use Rattle.bx_editor.specs.declared.questions.answers.Prompt.TheVariants as prompts
use Rattle.bx_editor.specs.declared.undo_groups.typing.Typing.TheVariants as typings
use Rattle.bx_editor.specs.declared.message.Message.TheVariants.{Pasting, TextFull, ViewOnly}
use Rattle.bx_editor.specs.declared.search_state.SearchState.TheVariants as search_states
use Rattle.bx_editor.specs.declared.cursor.Soft.{Soft}
use Rattle.bx_editor.specs.declared.cursor.Soft.TheVariants.{Off, Fresh, Old}
use Rattle.bx_view.specs.declared.moves.Goal.{Goal}
use Rattle.bx_editor.specs.Editor.{Editor, place_after, unpressed, with_insertion, with_typing}
use Rattle.bx_editor.specs.Functions.{after_keys}
use Rattle.bx_editor.specs.PasteLaws.{HasAll, IsOneEdit, IsPaste, PasteIsOneEdit, brought, place_between, written}
use Rattle.bx_editor.specs.Putting.{after_paste_end, after_paste_start, longer, paste_begun, pasted_bytes, pastes_crlf, has_room, put_in}
use Rattle.bx_editor.specs.Putting.{is_free, with_selection_replaced, yielding}
use Rattle.bx_editor.specs.Region.{is_empty, region, aged, is_selection, is_soft}
use Rattle.bx_editor.proofs.TwoEdits.{runs-of-two}

-- the editor while a paste is under way
abbrev in_paste : Editor → List ℕ → Bool → Option Goal → Soft → Editor
in_paste e list again goal soft = record e {
  pasted = Some list;
  typing = typings.Paste;
  message = Some Pasting;
  quit_before = again;
  goal = goal;
  soft = soft;
  clicks = None;
  pressed = None;
}

-- the same once it is over, and before its list is put in
abbrev over : Editor → Bool → Option Goal → Soft → Editor
over e again goal soft = record e {
  pasted = None;
  typing = typings.Off;
  message = None;
  quit_before = again;
  goal = goal;
  soft = soft;
  clicks = None;
  pressed = None;
}

aged-soft : (soft : Soft) → is_soft (aged soft) ≡ is_soft soft
aged-soft Off = refl
aged-soft Fresh = refl
aged-soft Old = refl

none-long : (list : List ℕ) → list ≢ [] → (length list == 0) ≡ false
none-long [] some = absurd (some refl)
none-long (b ∷ bs) some = ne_eqb (length (b ∷ bs)) 0 (λ none. omega (arith, none))

-- ---- nothing is lost

long : (n limit : ℕ) → nat_lt limit n ≡ true → limit < n
long n limit many = grind (arith, nat_tests, many)

no-room : (k n limit : ℕ) → limit < n → nat_le (k + n) limit ≡ false
no-room k n limit many = grind (arith, nat_tests, many)

longer-with : (front back : List ℕ) (limit : ℕ) → limit < length front → limit < length (front ++ back)
longer-with front back limit many = let all = length-append front back in omega (arith, many, all)

module _ (d : Data) (text : List ℕ) where
  -- what is longer than any text stays
  stays : (cs list : List ℕ) → nat_lt largest_text (length list) ≡ true → brought d text list cs ≡ list
  stays [] list many = refl
  stays (c ∷ cs) list many =
      ap (λ b. brought d text (if b then list else list ++ pasted_bytes (pastes_crlf d text c) c) cs) many ∙ stays cs list many

  -- `new`, which a list became, is the list with all of these characters, or both are longer than any text
  abbrev IsAll : List ℕ → List ℕ → Type 0
  IsAll new all = (new ≡ all) ⊎ ((largest_text < length new) × (largest_text < length all))

  brings-by : (c : ℕ) (cs list : List ℕ) (far : Bool) → nat_lt largest_text (length list) ≡ far
      → IsAll (brought d text (list ++ pasted_bytes (pastes_crlf d text c) c) cs) ((list ++ pasted_bytes (pastes_crlf d text c) c) ++ written d text cs)
      → IsAll (brought d text list (c ∷ cs)) (list ++ written d text (c ∷ cs))
  brings-by c cs list true many rest =
      let more = long (length list) largest_text many in
      inr (subst (λ xs. largest_text < length xs) (sym (stays (c ∷ cs) list many)) more, longer-with list (written d text (c ∷ cs)) largest_text more)
  brings-by c cs list false few rest =
      let bytes = pasted_bytes (pastes_crlf d text c) c in
      subst (λ b. IsAll (brought d text (if b then list else list ++ bytes) cs) (list ++ written d text (c ∷ cs))) (sym few)
      (subst (IsAll (brought d text (list ++ bytes) cs)) (append_assoc list bytes (written d text cs)) rest)

  brings : (cs list : List ℕ) → IsAll (brought d text list cs) (list ++ written d text cs)
  brings [] list = inl (sym (append-nil list))
  brings (c ∷ cs) list = brings-by c cs list (nat_lt largest_text (length list)) refl (brings cs (list ++ pasted_bytes (pastes_crlf d text c) c))

has-all-by : (d : Data) (e : Editor) (cs list : List ℕ)
    → (list ≡ written d e.content.text cs) ⊎ ((largest_text < length list) × (largest_text < length (written d e.content.text cs)))
    → HasAll d e cs list
has-all-by d e cs list (inl same) = record { whole = λ _. same; same_room = ap (has_room e) same }
has-all-by d e cs list (inr (more, more_in_all)) =
    let rest = length e.content.text - ((yielding e).1 - (yielding e).0) in
    let none : has_room e list ≡ false = no-room rest (length list) largest_text more in
    record {
      whole = λ room. (let no = sym none ∙ room in absurd (cc no));
      same_room = none ∙ sym (no-room rest (length (written d e.content.text cs)) largest_text more_in_all);
    }

has-all : (d : Data) (e : Editor) (cs : List ℕ) → HasAll d e cs (brought d e.content.text [] cs)
has-all d e cs = has-all-by d e cs (brought d e.content.text [] cs) (brings d e.content.text cs [])

-- ---- one edit

module _ (d : Data) (e : Editor) where
  letters : (P : List ℕ → Editor → Type 0)
      → ((list : List ℕ) (again : Bool) (goal : Option Goal) (soft : Soft) → is_soft soft ≡ is_soft e.soft
      → P list (after_paste_end d (in_paste e list again goal soft)))
      → (cs list : List ℕ) (again : Bool) (goal : Option Goal) (soft : Soft) → is_soft soft ≡ is_soft e.soft
      → P (brought d e.content.text list cs) (after_keys d None (in_paste e list again goal soft) (map Insert cs ++ PasteEnd ∷ []))
  letters P end [] list again goal soft same = end list again goal soft same
  letters P end (c ∷ cs) list again goal soft same =
      letters P end cs (longer (pastes_crlf d e.content.text c) list c) false None (aged soft) (aged-soft soft ∙ same)

  module _ (cs list : List ℕ) (again : Bool) (goal : Option Goal) (soft : Soft) (same : is_soft soft ≡ is_soft e.soft) (all : HasAll d e cs list) where
    abbrev was : Editor
    was = over e again goal soft

    -- what is put in, by whether there is room, and whether a selection gives way
    abbrev shaped : Bool → Bool → Editor
    shaped room selected =
        unpressed (with_typing (if room then (if selected then with_selection_replaced d was list else with_insertion d was list false)
        else record was { message = Some TextFull }) typings.Off)

    same-selection : is_selection was ≡ is_selection e
    same-selection = ap (λ s. s && not (is_empty (region e))) same

    same-room : has_room was list ≡ has_room e list
    same-room =
        ap (λ (s : Bool). (let part = if s then region e else (e.place, e.place) in fits e.content.text part.0 part.1 list)) same-selection

    -- the place after the list, by whether a selection gave way to it
    abbrev place_by : List ℕ → Bool → ℕ
    place_by text selected = place_after d e text ((if selected then place_between d e else e.place) + length list)

    one : (selected : Bool) → is_selection e ≡ selected → IsOneEdit d e list (shaped true selected)
    one true is = record {
      alone = λ none. (let no = sym is ∙ none in absurd (cc no));
      instead = λ some. refl;
      begins = runs-of-two e.undo_groups (length e.content.past);
      place = ap (place_by (shaped true true).content.text) (sym is);
    }
    one false is = record {
      alone = λ none. refl;
      instead = λ some. (let no = sym is ∙ some in absurd (cc no));
      begins = refl;
      place = ap (place_by (shaped true false).content.text) (sym is);
    }

    put : (room selected : Bool) → list ≢ [] → has_room e list ≡ room → is_selection e ≡ selected → IsPaste d e cs list (shaped room selected)
    put true true some fits is = record {
      all = all;
      put = λ _ room. one true is;
      full = λ _ none. (let no = sym fits ∙ none in absurd (cc no));
      empty = λ none. absurd (some none);
      over = refl;
    }
    put true false some fits is = record {
      all = all;
      put = λ _ room. one false is;
      full = λ _ none. (let no = sym fits ∙ none in absurd (cc no));
      empty = λ none. absurd (some none);
      over = refl;
    }
    put false selected some fits is = record {
      all = all;
      put = λ _ room. (let no = sym fits ∙ room in absurd (cc no));
      full = λ _ none. (record { content = refl; place = refl }, refl);
      empty = λ none. absurd (some none);
      over = refl;
    }

    some-put : list ≢ [] → IsPaste d e cs list (after_paste_end d (in_paste e list again goal soft))
    some-put some =
        subst (λ (b : Bool). IsPaste d e cs list (unpressed (with_typing (if b then was else put_in d was list false) typings.Off))) (sym (none-long list some))
        (subst (λ (r : Bool). IsPaste d e cs list (shaped r (is_selection was))) (sym same-room)
        (subst (λ (s : Bool). IsPaste d e cs list (shaped (has_room e list) s)) (sym same-selection)
        (put (has_room e list) (is_selection e) some refl refl)))

  ended : (cs list : List ℕ) (again : Bool) (goal : Option Goal) (soft : Soft) → is_soft soft ≡ is_soft e.soft → HasAll d e cs list
      → IsPaste d e cs list (after_paste_end d (in_paste e list again goal soft))
  ended cs [] again goal soft same all = record {
    all = all;
    put = λ some. absurd (some refl);
    full = λ some. absurd (some refl);
    empty = λ _. record { content = refl; place = refl };
    over = refl;
  }
  ended cs (b ∷ bs) again goal soft same all = some-put cs (b ∷ bs) again goal soft same all (λ none. cc none)

begun : (e : Editor) → e.prompt ≡ prompts.Off → e.search_state ≡ search_states.Off → e.pasted ≡ None → e.read_only ≡ false
    → after_paste_start e ≡ in_paste e [] e.quit_before e.goal e.soft
begun e unasked off none edited =
    let refused : Editor = unpressed (record e { message = Some ViewOnly }) in
    ap (λ b. if b && is_free e.prompt e.search_state e.pasted then refused else unpressed (with_typing (paste_begun e.prompt e.search_state e.pasted e) typings.Paste)) edited
    ∙ ap (λ a. unpressed (with_typing (paste_begun a e.search_state e.pasted e) typings.Paste)) unasked
    ∙ ap (λ s. unpressed (with_typing (paste_begun prompts.Off s e.pasted e) typings.Paste)) off
    ∙ ap (λ p. unpressed (with_typing (paste_begun prompts.Off search_states.Off p e) typings.Paste)) none

pub paste-is-one-edit : PasteIsOneEdit
paste-is-one-edit d e cs unasked off none edited =
    subst (λ (x : Editor). IsPaste d e cs (brought d e.content.text [] cs) (after_keys d None x (map Insert cs ++ PasteEnd ∷ [])))
    (sym (begun e unasked off none edited))
    (letters d e (λ list new. HasAll d e cs list → IsPaste d e cs list new) (ended d e cs) cs [] e.quit_before e.goal e.soft refl (has-all d e cs))
