-- A paste comes back at once, and leaves what the same characters leave when they are typed.
use Rattle.std.proofs.Common.{◌≡◌, ℕ, suc, ◌+◌, ◌-◌, ◌≤◌, ◌<◌, nat_le, nat_lt, Bool, true, false, List, [], ◌∷◌, ◌++◌, length, map, take}
use Rattle.std.proofs.Common.{drop, refl, sym}
use Rattle.std.proofs.Common.{ap, ap₂, subst, ◌∙◌, arith, inl, inr, ⊎_elim, if◌then◌else◌, append-nil, append_assoc, length-append}
use Rattle.std.specs.Prelude.{◌≢◌, ◌⊎◌, ◌==◌, ◌&&◌, not, encode_utf8, encode_utf8_all, All, Option, Some, None}
use Rattle.std.proofs.lemmas.Bool.{cases_lt, ne_eqb}
use Rattle.std.proofs.lemmas.Bool.Decides.{nat_tests}
use Rattle.std.proofs.lemmas.List.{drop_all, drop_at, length-drop, length-take, take_all, take_at}
use Rattle.std.proofs.lemmas.List.Elements.{All-head, All-tail}
use Rattle.unicode_segmentation.proofs.TextLemmas.{encode_utf8_nonempty}
use Rattle.bx_common.specs.Characters.{largest_text}
use Rattle.bx_keys.specs.declared.key.Key.TheVariants.{Insert, PasteEnd}
use Rattle.bx_text.specs.Edits.{Edited, fits, splice}
use Rattle.bx_editor.specs.undo_groups.Groups.{after_insertion, goes_on, kind_of}
use Rattle.bx_editor.specs.declared.undo_groups.typing.Kind.{Kind}
use Rattle.bx_editor.specs.declared.undo_groups.typing.Typing.TheVariants as typings
use Rattle.bx_common.specs.declared.base.Base.{Base}
use Rattle.bx_ucd.specs.Data.{Data}
use Rattle.bx_view.specs.declared.moves.Goal.{Goal}
use Rattle.bx_editor.specs.declared.questions.answers.Prompt.TheVariants as prompts
use Rattle.bx_editor.specs.declared.message.Message.TheVariants.{Pasting, TextFull}
use Rattle.bx_editor.specs.declared.search_state.SearchState.TheVariants as search_states
use Rattle.bx_editor.specs.declared.cursor.Soft.{Soft}
use Rattle.bx_editor.specs.declared.cursor.Soft.TheVariants.{Off, Fresh, Old}
use Rattle.bx_editor.specs.Editor.{Editor, cleared, place_after, unpressed, with_insertion, with_typing}
use Rattle.bx_editor.specs.Keys.{after_key, as_left}
use Rattle.bx_editor.specs.Functions.{after_keys}
use Rattle.bx_editor.specs.PasteLaws.{after_paste, brought, place_between, written}
use Rattle.bx_editor.specs.Putting.{after_paste_end, after_paste_start, longer, paste_begun, pasted_bytes, pastes_crlf, has_room}
use Rattle.bx_editor.specs.Putting.{only_paste, put_in, with_selection_replaced}
use Rattle.bx_editor.specs.Region.{is_empty, region, aged, is_selection, is_soft}
use Rattle.bx_editor_laws.specs.PastingLaws.{EndAtTheirPlaces, IsFree, PasteComesBack, PasteIsTyping}
use Rattle.bx_editor.proofs.OnePaste.{paste-is-one-edit}
use Rattle.bx_editor_laws.proofs.OneRun.{character-is, insert-is, no-selection, paste-is-a-run, start-is}

-- ---- one Undo takes it back

grown : (d : Data) (e : Editor) (cs : List ℕ) (selected : Bool) → is_selection e ≡ selected → IsFree e → e.pasted ≡ None
    → e.read_only ≡ false → brought d e.content.text [] cs ≢ []
    → has_room e (brought d e.content.text [] cs) ≡ true → length e.content.past < length (after_paste d e cs).content.past
grown d e cs true is free settled writes some room =
    let content = ((paste-is-one-edit d e cs free.unasked free.unsought settled writes).put some room).instead is in
    let size : length (after_paste d e cs).content.past ≡ suc (suc (length e.content.past)) = ap (λ (t : Edited). length t.past) content in
    omega (arith, size)
grown d e cs false is free settled writes some room =
    let content = ((paste-is-one-edit d e cs free.unasked free.unsought settled writes).put some room).alone is in
    let size : length (after_paste d e cs).content.past ≡ suc (length e.content.past) = ap (λ (t : Edited). length t.past) content in
    omega (arith, size)

some-bytes : (is_crlf : Bool) (c : ℕ) (more : List ℕ) → pasted_bytes is_crlf c ++ more ≢ []
some-bytes true c more none = cc none
some-bytes false c more none =
    let size : length (encode_utf8 c ++ more) ≡ 0 = ap length none in
    omega (arith, size, length-append (encode_utf8 c) more, encode_utf8_nonempty c)

put-in-grows : (d : Data) (e : Editor) (cs : List ℕ) → IsFree e → e.pasted ≡ None → e.read_only ≡ false → cs ≢ []
    → has_room e (written d e.content.text cs) ≡ true
    → length e.content.past < length (after_paste d e cs).content.past
put-in-grows d e [] free settled writes some room = absurd (some refl)
put-in-grows d e (c ∷ cs) free settled writes some room =
    let text = e.content.text in
    let all = (paste-is-one-edit d e (c ∷ cs) free.unasked free.unsought settled writes).all in
    let fits = all.same_room ∙ room in
    let list-some : brought d text [] (c ∷ cs) ≢ [] =
    λ none. some-bytes (pastes_crlf d text c) c (written d text cs) (sym (all.whole fits) ∙ none) in
    grown d e (c ∷ cs) (is_selection e) refl free settled writes list-some fits

pub paste-comes-back : PasteComesBack
paste-comes-back d e cs free writes = record {
  back = paste-is-a-run d e cs free.unasked free.unsought writes;
  with_room = λ settled some room. paste-is-a-run d e cs free.unasked free.unsought writes (put-in-grows d e cs free settled writes some room);
}

-- ---- what is put in behind what was put in

parts : (xs ys : List ℕ) (n : ℕ) → (length xs ≡ n) ⊎ ((length xs ≤ n) × (ys ≡ [])) → (take n (xs ++ ys) ≡ xs) × (drop n (xs ++ ys) ≡ ys)
parts xs ys n (inl long) = (take_at xs ys n long, drop_at xs ys n long)
parts xs ys n (inr h) =
    let bare : xs ++ ys ≡ xs = ap (λ zs. xs ++ zs) h.1 ∙ append-nil xs in
    (ap (take n) bare ∙ take_all n xs h.0, ap (drop n) bare ∙ drop_all n xs h.0 ∙ sym h.1)

spliced-on : (text one other : List ℕ) (place stop : ℕ) → stop ≡ place + length one
    → splice (splice text place place one) stop stop other ≡ splice text place place (one ++ other)
spliced-on text one other place stop is =
    let front = take place text ++ one in
    let rest = drop place text in
    let size = length-append (take place text) one in
    let both = parts front rest stop (⊎_elim
    (λ past. inr (omega (arith, is, size, length-take place text), drop_all place text (omega (arith, past))))
    (λ inside. inl (omega (arith, is, inside, size, length-take place text)))
    (cases_lt (length text) place)) in
    ap₂ (λ xs ys. (xs ++ other) ++ ys) both.0 both.1 ∙ ap (λ xs. xs ++ rest) (append_assoc (take place text) one other)

size-with : (text new : List ℕ) (at : ℕ) → length (splice text at at new) ≡ length text + length new
size-with text new at =
    omega (arith, length-append (take at text ++ new) (drop at text), length-append (take at text) new, length-take at text, length-drop at text)

size-without : (text : List ℕ) (start stop : ℕ) → start ≤ stop → stop ≤ length text
    → length (splice text start stop []) ≡ length text - (stop - start)
size-without text start stop order inside =
    omega (
      arith,
      order,
      inside,
      length-append (take start text ++ []) (drop stop text),
      length-append (take start text) [],
      length-take start text,
      length-drop stop text,
    )

-- ---- where bytes are put in

-- the text that they are put into, and the place, by whether a selection gives way
abbrev bare : Editor → Bool → List ℕ
bare e selected = if selected then splice e.content.text (region e).0 (region e).1 [] else e.content.text

abbrev from : Data → Editor → Bool → ℕ
from d e selected = if selected then place_between d e else e.place

record IsPut (d : Data) (e : Editor) (selected : Bool) (bytes : List ℕ) (new : Editor) : Type 0 where
  pub text_is : new.content.text ≡ splice (bare e selected) (from d e selected) (from d e selected) bytes
  pub place_is : new.place ≡ place_after d e (splice (bare e selected) (from d e selected) (from d e selected) bytes) (from d e selected + length bytes)

-- as many bytes as are put in have room, and fewer
abbrev gap : Editor → Bool → ℕ × ℕ
gap e selected = if selected then region e else (e.place, e.place)

fewer-fit : (size start stop all some limit : ℕ) → nat_le (size - (stop - start) + all) limit ≡ true → some ≤ all
    → nat_le (size - (stop - start) + some) limit ≡ true
fewer-fit size start stop all some limit fit few = grind (arith, nat_tests, fit, few)

-- ---- a typed character

module _ (d : Data) (e : Editor) (c : ℕ) where
  abbrev was : Editor
  was = cleared e

  abbrev new : List ℕ
  new = encode_utf8 c

  abbrev kind : Kind
  kind = kind_of (d.class c)

  abbrev shaped : Bool → Bool → Editor
  shaped room selected =
      as_left (Insert c) (record (if room then (if selected then with_selection_replaced d was new else with_insertion d was new (goes_on e.typing kind))
      else record was { message = Some TextFull }) {
        typing = if room then after_insertion kind else only_paste e.typing;
      })

  -- the character is put in, and nothing is selected after it
  record Goes (selected : Bool) (x : Editor) : Type 0 where
    pub put : IsPut d e selected new x
    pub free : IsFree x
    pub settled : x.pasted ≡ None
    pub soft : x.soft ≡ Off
    pub base : x.base ≡ e.base
    pub width : x.width ≡ e.width
    pub looked : x.read_only ≡ e.read_only
    pub tabs : x.tab_width ≡ e.tab_width

  goes : (selected : Bool) → IsFree e → e.pasted ≡ None → Goes selected (shaped true selected)
  goes true free settled = record {
    put = record { text_is = refl; place_is = refl };
    free = record { unasked = free.unasked; unsought = refl };
    settled = settled;
    soft = refl;
    base = refl;
    width = refl;
    looked = refl;
    tabs = refl;
  }
  goes false free settled = record {
    put = record { text_is = refl; place_is = refl };
    free = record { unasked = free.unasked; unsought = refl };
    settled = settled;
    soft = refl;
    base = refl;
    width = refl;
    looked = refl;
    tabs = refl;
  }

  one-typed : IsFree e → e.pasted ≡ None → e.read_only ≡ false → ((c == 0x9) && not (e.tab_width == 0)) ≡ false → has_room e new ≡ true → Goes (is_selection e) (after_key d None e (Insert c))
  one-typed free settled writes plain room =
      subst (Goes (is_selection e))
      (sym (insert-is d e c settled free.unasked free.unsought writes
      ∙ ap (as_left (Insert c)) (character-is d e.typing was c kind plain refl)
      ∙ ap (λ r. shaped r (is_selection e)) room))
      (goes (is_selection e) free settled)

-- ---- characters typed one by one

-- bytes put in behind others
put-on : (d : Data) (e x y : Editor) (selected : Bool) (one other : List ℕ) → IsPut d e selected one x
    → x.place ≡ from d e selected + length one → x.base ≡ e.base
    → x.width ≡ e.width → IsPut d x false other y → IsPut d e selected (one ++ other) y
put-on d e x y selected one other first ends base width next =
    let at = from d e selected in
    let text : splice x.content.text x.place x.place other ≡ splice (bare e selected) at at (one ++ other) =
    ap (λ t. splice t x.place x.place other) first.text_is ∙ spliced-on (bare e selected) one other at x.place ends in
    let stop : x.place + length other ≡ at + length (one ++ other) = omega (arith, ends, length-append one other) in
    record {
      text_is = next.text_is ∙ text;
      place_is = next.place_is ∙ ap₂ (place_after d x) text stop
          ∙ ap₂ (λ (b : Base) w. place_after d (record e { base = b; width = w }) (splice (bare e selected) at at (one ++ other)) (at + length (one ++ other))) base width;
    }

-- the text that bytes are put into, with them
size-bare : (e : Editor) (selected : Bool) → (selected ≡ true → (region e).1 ≤ length e.content.text)
    → length (bare e selected) ≡ length e.content.text - ((gap e selected).1 - (gap e selected).0)
size-bare e true inside = size-without e.content.text (region e).0 (region e).1 (omega arith) (inside refl)
size-bare e false inside = omega arith

more-fit : (size start stop one other now place limit : ℕ) → now ≡ size - (stop - start) + one
    → nat_le (size - (stop - start) + (one + other)) limit ≡ true
    → nat_le (now - (place - place) + other) limit ≡ true
more-fit size start stop one other now place limit is fit = grind (arith, nat_tests, is, fit)

room-on : (d : Data) (e x : Editor) (selected : Bool) (one other : List ℕ) → (selected ≡ true → (region e).1 ≤ length e.content.text)
    → fits e.content.text (gap e selected).0 (gap e selected).1 (one ++ other) ≡ true → IsPut d e selected one x → is_selection x ≡ false
    → has_room x other ≡ true
room-on d e x selected one other inside room put none =
    let size = ap length put.text_is ∙ size-with (bare e selected) one (from d e selected) in
    ap (λ (b : Bool). (let part = if b then region x else (x.place, x.place) in fits x.content.text part.0 part.1 other)) none
    ∙ more-fit (length e.content.text) (gap e selected).0 (gap e selected).1 (length one) (length other) (length x.content.text) x.place largest_text
    (omega (arith, size, size-bare e selected inside))
    (subst (λ n. nat_le (length e.content.text - ((gap e selected).1 - (gap e selected).0) + n) largest_text ≡ true) (length-append one other) room)

-- no tab among them becomes spaces
abbrev Plain : ℕ → ℕ → Type 0
Plain width c = ((c == 0x9) && not (width == 0)) ≡ false

all-typed : (d : Data) (cs : List ℕ) (c : ℕ) (e : Editor) → IsFree e → e.pasted ≡ None → e.read_only ≡ false → All (Plain e.tab_width) (c ∷ cs)
    → (is_selection e ≡ true → (region e).1 ≤ length e.content.text)
    → has_room e (encode_utf8_all (c ∷ cs)) ≡ true → EndAtTheirPlaces d e (c ∷ cs)
    → IsPut d e (is_selection e) (encode_utf8_all (c ∷ cs)) (after_keys d None e (map Insert (c ∷ cs)))
all-typed d [] c e free settled writes plain inside room ends =
    let one = one-typed d e c free settled writes (All-head (Plain e.tab_width) c [] plain) (subst (λ bytes. has_room e bytes ≡ true) (append-nil (encode_utf8 c)) room) in
    subst (λ bytes. IsPut d e (is_selection e) bytes (after_key d None e (Insert c))) (sym (append-nil (encode_utf8 c))) one.put
all-typed d (c' ∷ cs) c e free settled writes plain inside room ends =
    let new = encode_utf8 c in
    let rest = encode_utf8_all (c' ∷ cs) in
    let selected = is_selection e in
    let x = after_key d None e (Insert c) in
    let first = one-typed d e c free settled writes (All-head (Plain e.tab_width) c (c' ∷ cs) plain)
    (fewer-fit (length e.content.text) (gap e selected).0 (gap e selected).1 (length (new ++ rest)) (length new) largest_text
    room (omega (arith, length-append new rest))) in
    let none : is_selection x ≡ false = no-selection x first.soft in
    let roomy = room-on d e x selected new rest inside room first.put none in
    let more = all-typed d cs c' x first.free first.settled (first.looked ∙ writes)
    (subst (λ w. All (Plain w) (c' ∷ cs)) (sym first.tabs) (All-tail (Plain e.tab_width) c (c' ∷ cs) plain)) (λ is. (let no = sym none ∙ is in absurd (cc no))) roomy ends.1 in
    put-on d e x (after_keys d None x (map Insert (c' ∷ cs))) selected new rest first.put ends.0 first.base first.width
    (subst (λ b. IsPut d x b rest (after_keys d None x (map Insert (c' ∷ cs)))) none more)

-- ---- the same characters pasted

-- the editor while a paste is under way, and once it is over
abbrev in_paste : Editor → List ℕ → Bool → Option Goal → Soft → Editor
in_paste e list again goal soft =
    record e { pasted = Some list; typing = typings.Paste; message = Some Pasting; quit_before = again; goal = goal; soft = soft; clicks = None; pressed = None }

abbrev over : Editor → Bool → Option Goal → Soft → Editor
over e again goal soft = record e { pasted = None; typing = typings.Off; message = None; quit_before = again; goal = goal; soft = soft; clicks = None; pressed = None }

begun : (e : Editor) → IsFree e → e.pasted ≡ None → e.read_only ≡ false → after_paste_start e ≡ in_paste e [] e.quit_before e.goal e.soft
begun e free none writes =
    start-is e free.unasked free.unsought writes
    ∙ ap (λ p. unpressed (with_typing (paste_begun prompts.Off search_states.Off p e) typings.Paste)) none

aged-soft : (soft : Soft) → is_soft (aged soft) ≡ is_soft soft
aged-soft Off = refl
aged-soft Fresh = refl
aged-soft Old = refl

some-long : (list : List ℕ) → list ≢ [] → (length list == 0) ≡ false
some-long [] some = absurd (some refl)
some-long (b ∷ bs) some = ne_eqb (length (b ∷ bs)) 0 (λ none. omega (arith, none))

module _ (d : Data) (e : Editor) where
  letters : (P : List ℕ → Editor → Type 0)
      → ((list : List ℕ) (again : Bool) (goal : Option Goal) (soft : Soft) → is_soft soft ≡ is_soft e.soft → P list (after_paste_end d (in_paste e list again goal soft)))
      → (cs list : List ℕ) (again : Bool) (goal : Option Goal) (soft : Soft) → is_soft soft ≡ is_soft e.soft
      → P (brought d e.content.text list cs) (after_keys d None (in_paste e list again goal soft) (map Insert cs ++ PasteEnd ∷ []))
  letters P end [] list again goal soft same = end list again goal soft same
  letters P end (c ∷ cs) list again goal soft same =
      letters P end cs (longer (pastes_crlf d e.content.text c) list c) false None (aged soft) (aged-soft soft ∙ same)

  put-by : (list : List ℕ) (again : Bool) (goal : Option Goal) (soft : Soft) (selected : Bool) → let was = over e again goal soft in
      IsPut d e selected list (unpressed (with_typing (if selected then with_selection_replaced d was list else with_insertion d was list false) typings.Off))
  put-by list again goal soft true = record { text_is = refl; place_is = refl }
  put-by list again goal soft false = record { text_is = refl; place_is = refl }

  ended : (list : List ℕ) (again : Bool) (goal : Option Goal) (soft : Soft) → is_soft soft ≡ is_soft e.soft → list ≢ []
      → has_room e list ≡ true
      → IsPut d e (is_selection e) list (after_paste_end d (in_paste e list again goal soft))
  ended list again goal soft same some room =
      let was = over e again goal soft in
      let two = with_selection_replaced d was list in
      let one = with_insertion d was list false in
      let full : Editor = record was { message = Some TextFull } in
      let selection : is_selection was ≡ is_selection e = ap (λ s. s && not (is_empty (region e))) same in
      let roomy : has_room was list ≡ true =
      ap (λ (s : Bool). (let part = if s then region e else (e.place, e.place) in fits e.content.text part.0 part.1 list)) selection ∙ room in
      subst (λ (b : Bool). IsPut d e (is_selection e) list (unpressed (with_typing (if b then was else put_in d was list false) typings.Off))) (sym (some-long list some))
      (subst (λ (r : Bool). IsPut d e (is_selection e) list (unpressed (with_typing (if r then (if is_selection was then two else one) else full) typings.Off))) (sym roomy)
      (subst (λ (s : Bool). IsPut d e (is_selection e) list (unpressed (with_typing (if s then two else one) typings.Off))) (sym selection)
      (put-by list again goal soft (is_selection e))))

-- nothing is pasted as CR LF, and all has room
no-more : (n more limit : ℕ) → n + more ≤ limit → nat_lt limit n ≡ false
no-more n more limit few = grind (arith, nat_tests, few)

brought-all : (d : Data) (text cs list : List ℕ) → All (λ c. pastes_crlf d text c ≡ false) cs
    → length list + length (encode_utf8_all cs) ≤ largest_text
    → brought d text list cs ≡ list ++ encode_utf8_all cs
brought-all d text [] list plain few = sym (append-nil list)
brought-all d text (c ∷ cs) list plain few =
    let Plain = λ (c : ℕ). pastes_crlf d text c ≡ false in
    let short : nat_lt largest_text (length list) ≡ false = no-more (length list) (length (encode_utf8_all (c ∷ cs))) largest_text few in
    let one : longer (pastes_crlf d text c) list c ≡ list ++ encode_utf8 c =
    ap (λ b. if b then list else list ++ pasted_bytes (pastes_crlf d text c) c) short ∙ ap (λ b. list ++ pasted_bytes b c) (All-head Plain c cs plain) in
    ap (λ l. brought d text l cs) one
    ∙ brought-all d text cs (list ++ encode_utf8 c) (All-tail Plain c cs plain)
    (omega (arith, few, length-append list (encode_utf8 c), length-append (encode_utf8 c) (encode_utf8_all cs)))
    ∙ append_assoc list (encode_utf8 c) (encode_utf8_all cs)

few-by : (size start stop new limit : ℕ) → nat_le (size - (stop - start) + new) limit ≡ true → new ≤ limit
few-by size start stop new limit fit = grind (arith, nat_tests, fit)

all-few : (e : Editor) (list : List ℕ) → has_room e list ≡ true → length list ≤ largest_text
all-few e list room = let part = gap e (is_selection e) in few-by (length e.content.text) part.0 part.1 (length list) largest_text room

pasted : (d : Data) (e : Editor) (cs : List ℕ) → IsFree e → e.pasted ≡ None → e.read_only ≡ false → brought d e.content.text [] cs ≢ []
    → has_room e (brought d e.content.text [] cs) ≡ true → IsPut d e (is_selection e) (brought d e.content.text [] cs) (after_paste d e cs)
pasted d e cs free settled writes some room =
    let P = λ (list : List ℕ) (x : Editor). list ≢ [] → has_room e list ≡ true → IsPut d e (is_selection e) list x in
    subst (λ (x : Editor). P (brought d e.content.text [] cs) (after_keys d None x (map Insert cs ++ PasteEnd ∷ []))) (sym (begun e free settled writes))
    (letters d e P (ended d e) cs [] e.quit_before e.goal e.soft refl) some room

-- ---- the law

some-all : (c : ℕ) (cs : List ℕ) → encode_utf8_all (c ∷ cs) ≢ []
some-all c cs none =
    let size : length (encode_utf8_all (c ∷ cs)) ≡ 0 = ap length none in
    omega (arith, size, length-append (encode_utf8 c) (encode_utf8_all cs), encode_utf8_nonempty c)

pub paste-is-typing : PasteIsTyping
paste-is-typing d e [] free settled writes inside plain tabs room ends =
    let stays = (paste-is-one-edit d e [] free.unasked free.unsought settled writes).empty refl in
    record { text_is = ap (λ (t : Edited). t.text) stays.content; place_is = stays.place }
paste-is-typing d e (c ∷ cs) free settled writes inside plain tabs room ends =
    let bytes = encode_utf8_all (c ∷ cs) in
    let list : brought d e.content.text [] (c ∷ cs) ≡ bytes = brought-all d e.content.text (c ∷ cs) [] plain (omega (arith, all-few e bytes room)) in
    let put = subst (λ xs. IsPut d e (is_selection e) xs (after_paste d e (c ∷ cs))) list
    (pasted d e (c ∷ cs) free settled writes (λ none. some-all c cs (sym list ∙ none)) (subst (λ xs. has_room e xs ≡ true) (sym list) room)) in
    let typed = all-typed d cs c e free settled writes tabs (λ is. inside) room ends in
    record { text_is = put.text_is ∙ sym typed.text_is; place_is = put.place_is ∙ sym typed.place_is }
