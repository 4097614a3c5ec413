-- A selection gives way.
use Rattle.std.proofs.Common.{◌≡◌, ℕ, ◌+◌, ◌-◌, ◌≤◌, ◌<◌, Bool, true, false, List, [], ◌∷◌, ◌++◌, length, take, drop, refl, sym, ap, subst, ◌∙◌}
use Rattle.std.proofs.Common.{arith, if◌then◌else◌, append-nil, length-append, ne_eqb}
use Rattle.std.specs.Prelude.{◌≢◌, ◌==◌, ◌&&◌, not, nat_le, encode_utf8, replicate, Some, None}
use Rattle.std.proofs.lemmas.Bool.{eqb-true}
use Rattle.std.proofs.lemmas.Bool.Decides.{nat_tests}
use Rattle.std.proofs.lemmas.List.{length-drop, length-take}
use Rattle.bx_common.specs.Characters.{largest_text}
use Rattle.bx_keys.specs.declared.key.Key.{Key}
use Rattle.bx_keys.specs.declared.key.Key.TheVariants.{Insert, Erase, Delete, EraseWord, DeleteWord, ErasePoint, NewLine, Put}
use Rattle.bx_text.specs.Edits.{fits, splice}
use Rattle.bx_editor.specs.undo_groups.Groups.{goes_on, kind_of}
use Rattle.bx_editor.specs.declared.undo_groups.typing.Kind.{Kind}
use Rattle.bx_editor.specs.declared.undo_groups.typing.Kind.TheVariants.{Blank, Separator}
use Rattle.bx_editor.specs.declared.undo_groups.typing.Typing.{Typing}
use Rattle.bx_ucd.specs.Data.{Data}
use Rattle.bx_editor.specs.declared.questions.answers.Prompt.TheVariants as prompts
use Rattle.bx_editor.specs.declared.message.Message.TheVariants.{NothingToPut, TextFull}
use Rattle.bx_editor.specs.declared.cursor.Soft.{Soft}
use Rattle.bx_editor.specs.declared.cursor.Soft.TheVariants.{Off, Fresh, Old}
use Rattle.bx_editor.specs.Editor.{Editor, cleared, place_after, with_insertion, with_removal}
use Rattle.bx_editor.specs.Effects.{Effect, Removes, RemovesWord, by}
use Rattle.bx_editor.specs.Before.{Before, before}
use Rattle.bx_editor.specs.Erasing.{after_removing, or_selection, removed_on}
use Rattle.bx_editor.specs.Keys.{after_key, as_left, effect_of, refuses_replacing}
use Rattle.bx_editor.specs.Functions.{is_told_key}
use Rattle.bx_editor.specs.Putting.{after_character, after_new_line, as_line, has_room, line_end, new_indent, put_in, put_line, puts_line}
use Rattle.bx_editor.specs.Putting.{spaces_on, typed, units_in_line, with_selection_replaced, yielding}
use Rattle.bx_editor.specs.Region.{is_empty, region, is_selection, is_soft}
use Rattle.bx_editor_laws.specs.SelectionLaws.{bytes_put, is_removal, rest, rest_with, seam, HasSelection, IsRefused, IsReplacedBy, IsRest}
use Rattle.bx_editor_laws.specs.SelectionLaws.{SelectionComesBack, SelectionGivesWay, SelectionIsRemoved}
use Rattle.bx_editor_laws.proofs.KeyEnds.{DoesWork, and-false, free-done}
use Rattle.bx_editor_laws.proofs.OneRun.{goes-back, insert-is, removal-begins, replacement-begins, IsOneRun}

-- ---- a selection

soft-is : (soft : Soft) → soft ≢ Off → is_soft soft ≡ true
soft-is Off some = absurd (some refl)
soft-is Fresh some = refl
soft-is Old some = refl

apart : (a b : ℕ) → a < b → (a == b) ≡ false
apart a b less = grind (arith, nat_tests, less)

selection-is : (e : Editor) → HasSelection e → is_selection e ≡ true
selection-is e has =
    ap (λ s. s && not (is_empty (region e))) (soft-is e.soft has.soft) ∙ ap not (apart (region e).0 (region e).1 has.part.some)

-- ---- it is removed

-- nothing in place of the region leaves the rest
rest-is : (e : Editor) → splice e.content.text (region e).0 (region e).1 [] ≡ rest e
rest-is e = ap (λ xs. xs ++ drop (region e).1 e.content.text) (append-nil (take (region e).0 e.content.text))

or-removed : (d : Data) (e other : Editor) → is_selection e ≡ true → or_selection d e other ≡ with_removal d e (region e).0 (region e).1 false
or-removed d e other selected = ap (λ b. if b then with_removal d e (region e).0 (region e).1 false else other) selected

abbrev removes : Effect → Bool
removes (Removes how start stop) = true
removes (RemovesWord start stop) = true
removes _ = false

removing : (d : Data) (e : Editor) (key : Key) → is_removal key ≡ true
    → (removes (effect_of d e key) ≡ true) × ((is_told_key key ≡ false) × (refuses_replacing e key ≡ false))
removing d e Erase is = (refl, (refl, refl))
removing d e Delete is = (refl, (refl, refl))
removing d e ErasePoint is = (refl, (refl, refl))
removing d e EraseWord is = (refl, (refl, refl))
removing d e DeleteWord is = (refl, (refl, refl))
removing d e _ is = absurd (cc is)

removed : (d : Data) (was : Before) (e : Editor) (one : Effect) → is_selection e ≡ true → removes one ≡ true
    → by d None was e one ≡ with_removal d e (region e).0 (region e).1 false
removed d was e (Removes how start stop) selected is = or-removed d e (removed_on d was.typing how e start stop) selected
removed d was e (RemovesWord start stop) selected is = or-removed d e (after_removing d e start stop false) selected
removed d was e _ selected is = absurd (cc is)

removed-is : (d : Data) (e : Editor) (key : Key) → HasSelection e → is_removal key ≡ true
    → after_key d None e key ≡ as_left key (with_removal d (cleared e) (region e).0 (region e).1 false)
removed-is d e key has is =
    let was = cleared e in
    let keys = removing d was key is in
    free-done d None e key has.no_paste keys.1.0 keys.1.1 has.no_question has.no_search has.writes
    ∙ ap (as_left key) (removed d (before e) was (effect_of d was key) (selection-is e has) keys.0)

pub selection-is-removed : SelectionIsRemoved
selection-is-removed d e key has is =
    subst (IsRest d e) (sym (removed-is d e key has is))
    (record { text_is = rest-is e; place_is = ap (λ text. place_after d e text (region e).0) (rest-is e); mark_is = refl })

-- ---- something is put in its place

-- the bytes stand in its place, of one undo group with its removal, or were refused
record Yields (d : Data) (e : Editor) (bytes : List ℕ) (new : Editor) : Type 0 where
  pub fits : length (rest_with d e bytes) ≤ largest_text → IsReplacedBy d e bytes new
  pub goes : length (rest_with d e bytes) ≤ largest_text → IsOneRun e new × DoesWork new
  pub full : largest_text < length (rest_with d e bytes) → IsRefused e new

size-with : (text new : List ℕ) (at : ℕ) → length (take at text ++ new ++ drop at text) ≡ length text + length new
size-with text new at =
    omega (arith, length-append (take at text ++ new) (drop at text), length-append (take at text) new, length-take at text, length-drop at text)

size-without : (text : List ℕ) (start stop : ℕ) → start < stop → stop ≤ length text
    → length (take start text ++ drop stop text) ≡ length text - (stop - start)
size-without text start stop some inside =
    omega (arith, length-append (take start text) (drop stop text), length-take start text, length-drop stop text, some, inside)

size-is : (d : Data) (e : Editor) (new : List ℕ) → HasSelection e
    → length (rest_with d e new) ≡ length e.content.text - ((region e).1 - (region e).0) + length new
size-is d e new has =
    size-with (rest e) new (seam d e)
    ∙ ap (λ n. n + length new) (size-without e.content.text (region e).0 (region e).1 has.part.some has.part.inside)

room-is : (e : Editor) (new : List ℕ) → HasSelection e → has_room e new ≡ fits e.content.text (region e).0 (region e).1 new
room-is e new has =
    ap (λ (part : ℕ × ℕ). fits e.content.text part.0 part.1 new) (ap (λ b. if b then region e else (e.place, e.place)) (selection-is e has))

below : (n limit : ℕ) → n ≤ limit → nat_le n limit ≡ true
below n limit few = grind (arith, nat_tests, few)

above : (n limit : ℕ) → limit < n → nat_le n limit ≡ false
above n limit many = grind (arith, nat_tests, many)

has-room : (d : Data) (e : Editor) (new : List ℕ) → HasSelection e → length (rest_with d e new) ≤ largest_text → has_room e new ≡ true
has-room d e new has few = room-is e new has ∙ below (length e.content.text - ((region e).1 - (region e).0) + length new) largest_text
    (subst (λ n. n ≤ largest_text) (size-is d e new has) few)

has-none : (d : Data) (e : Editor) (new : List ℕ) → HasSelection e → largest_text < length (rest_with d e new) → has_room e new ≡ false
has-none d e new has many = room-is e new has ∙ above (length e.content.text - ((region e).1 - (region e).0) + length new) largest_text
    (subst (λ n. largest_text < n) (size-is d e new has) many)

put-fits : (d : Data) (e : Editor) (new : List ℕ) (on : Bool) → HasSelection e → length (rest_with d e new) ≤ largest_text
    → put_in d e new on ≡ with_selection_replaced d e new
put-fits d e new on has few =
    ap (λ b. if b then (if is_selection e then with_selection_replaced d e new else with_insertion d e new on) else record e { message = Some TextFull })
    (has-room d e new has few)
    ∙ ap (λ b. if b then with_selection_replaced d e new else with_insertion d e new on) (selection-is e has)

put-full : (d : Data) (e : Editor) (new : List ℕ) (on : Bool) → HasSelection e → largest_text < length (rest_with d e new)
    → put_in d e new on ≡ record e { message = Some TextFull }
put-full d e new on has many =
    ap (λ b. if b then (if is_selection e then with_selection_replaced d e new else with_insertion d e new on) else record e { message = Some TextFull })
    (has-none d e new has many)

still : (e : Editor) → HasSelection e → HasSelection (cleared e)
still e has = record {
  no_question = has.no_question;
  no_search = has.no_search;
  no_paste = has.no_paste;
  writes = has.writes;
  soft = has.soft;
  part = record { some = has.part.some; inside = has.part.inside };
}

replaced : (d : Data) (e : Editor) (key : Key) (typing : Typing) (new : List ℕ)
    → IsReplacedBy d e new (as_left key (record (with_selection_replaced d (cleared e) new) { typing = typing }))
replaced d e key typing new =
    let start = (region e).0 in
    record {
      text_is = ap (λ text. let at = place_after d e text start in splice text at at new) (rest-is e);
      place_is = ap (λ text. let at = place_after d e text start in place_after d e (splice text at at new) (at + length new)) (rest-is e);
      mark_is = refl;
    }

asks-none : (e : Editor) → HasSelection e → e.prompt ≡ prompts.Overwrite → ⊥
asks-none e has over = let both = sym has.no_question ∙ over in cc both

-- whatever a key makes of `typing`
put-yields : (d : Data) (e : Editor) (key : Key) (typing : Typing) (new : List ℕ) (on : Bool) → HasSelection e
    → Yields d e new (as_left key (record (put_in d (cleared e) new on) { typing = typing }))
put-yields d e key typing new on has = record {
  fits = λ few.
      subst (λ (p : Editor). IsReplacedBy d e new (as_left key (record p { typing = typing }))) (sym (put-fits d (cleared e) new on (still e has) few))
      (replaced d e key typing new);
  goes = λ few.
      let begun = replacement-begins d e (cleared e) new (refl, (refl, refl)) in
      subst (λ (p : Editor). let now = as_left key (record p { typing = typing }) in IsOneRun e now × DoesWork now)
      (sym (put-fits d (cleared e) new on (still e has) few)) (
        record { more = begun.more; over = begun.over; start = begun.start },
        record { settled = has.no_paste; other = asks-none e has; writes = has.writes },
      );
  full = λ many.
      subst (λ (p : Editor). IsRefused e (as_left key (record p { typing = typing }))) (sym (put-full d (cleared e) new on (still e has) many))
      (record { content_is = refl; place_is = refl; mark_is = refl; message_is = refl });
}

takes : (d : Data) (e : Editor) (key : Key) (new : Editor) → after_key d None e key ≡ new → Yields d e (bytes_put d e key) new
    → Yields d e (bytes_put d e key) (after_key d None e key)
takes d e key new is yields = subst (Yields d e (bytes_put d e key)) (sym is) yields

typed-yields : (d : Data) (e : Editor) (key : Key) (typing : Typing) (new : List ℕ) (kind : Kind) → HasSelection e
    → Yields d e new (as_left key (typed d typing (cleared e) new kind))
typed-yields d e key typing new kind has =
    put-yields d e key ((typed d typing (cleared e) new kind).typing) new (goes_on typing kind) has

line-yields : (d : Data) (e : Editor) (key : Key) (typing : Typing) → HasSelection e
    → Yields d e (line_end d (rest e) ++ new_indent d e) (as_left key (after_new_line d typing (cleared e)))
line-yields d e key typing has =
    let text = e.content.text in
    let indent = new_indent d e in
    let bytes = line_end d (rest e) ++ indent in
    let selected : yielding e ≡ region e = ap (λ b. if b then region e else (e.place, e.place)) (selection-is e has) in
    subst (λ (part : ℕ × ℕ). Yields d e bytes (as_left key (typed d typing (cleared e) (line_end d (splice text part.0 part.1 []) ++ indent) Separator)))
    (sym selected)
    (subst (λ rest_text. Yields d e bytes (as_left key (typed d typing (cleared e) (line_end d rest_text ++ indent) Separator))) (sym (rest-is e))
    (typed-yields d e key typing bytes Separator has))

insert-by : (d : Data) (e : Editor) (c : ℕ) (tab none : Bool) → (c == 0x9) ≡ tab → HasSelection e
    → let one : ℕ → Editor = λ k. typed d e.typing (cleared e) (encode_utf8 k) (kind_of (d.class k)) in
    let spaces : List ℕ = replicate (spaces_on e.tab_width (units_in_line d e (yielding e).0)) 0x20 in
    Yields d e (if tab && not none then spaces else encode_utf8 c)
    (as_left (Insert c) (if tab then (if none then one 0x9 else typed d e.typing (cleared e) spaces Blank) else one c))
insert-by d e c true true is has =
    subst (λ k. Yields d e (encode_utf8 k) (as_left (Insert c) (typed d e.typing (cleared e) (encode_utf8 0x9) (kind_of (d.class 0x9)))))
    (sym (eqb-true c 0x9 is)) (typed-yields d e (Insert c) e.typing (encode_utf8 0x9) (kind_of (d.class 0x9)) has)
insert-by d e c true false is has =
    typed-yields d e (Insert c) e.typing (replicate (spaces_on e.tab_width (units_in_line d e (yielding e).0)) 0x20) Blank has
insert-by d e c false none is has = typed-yields d e (Insert c) e.typing (encode_utf8 c) (kind_of (d.class c)) has

insert-gives-way : (d : Data) (e : Editor) (c : ℕ) → HasSelection e → Yields d e (bytes_put d e (Insert c)) (after_key d None e (Insert c))
insert-gives-way d e c has =
    takes d e (Insert c) (as_left (Insert c) (after_character d e.typing (cleared e) c))
    (insert-is d e c has.no_paste has.no_question has.no_search has.writes)
    (insert-by d e c (c == 0x9) (e.tab_width == 0) refl has)

new-line-gives-way : (d : Data) (e : Editor) → HasSelection e → Yields d e (bytes_put d e NewLine) (after_key d None e NewLine)
new-line-gives-way d e has =
    takes d e NewLine (as_left NewLine (after_new_line d e.typing (cleared e)))
    (free-done d None e NewLine has.no_paste refl refl has.no_question has.no_search has.writes)
    (line-yields d e NewLine e.typing has)

some-held : (held : List ℕ) → held ≢ [] → (length held == 0) ≡ false
some-held [] some = absurd (some refl)
some-held (b ∷ held) some = ne_eqb (length (b ∷ held)) 0 (λ same. omega (arith, same))

put-gives-way : (d : Data) (e : Editor) → HasSelection e → e.held ≢ [] → Yields d e (bytes_put d e Put) (after_key d None e Put)
put-gives-way d e has some =
    let was = cleared e in
    let over = put_line d was (as_line d was e.held) in
    let here = put_in d was e.held false in
    takes d e Put (as_left Put here)
    (free-done d None e Put has.no_paste refl refl has.no_question has.no_search has.writes
    ∙ ap (λ b. as_left Put (if b then record was { message = Some NothingToPut } else if puts_line was then over else here)) (some-held e.held some)
    ∙ ap (λ s. as_left Put (if e.whole_line && not s then over else here)) (selection-is e has)
    ∙ ap (λ b. as_left Put (if b then over else here)) (and-false e.whole_line))
    (put-yields d e Put (here.typing) e.held false has)

gives-way : (d : Data) (e : Editor) (key : Key) → HasSelection e → bytes_put d e key ≢ [] → Yields d e (bytes_put d e key) (after_key d None e key)
gives-way d e (Insert c) has some = insert-gives-way d e c has
gives-way d e NewLine has some = new-line-gives-way d e has
gives-way d e Put has some = put-gives-way d e has some
gives-way d e _ has some = absurd (some refl)

pub selection-gives-way : SelectionGivesWay
selection-gives-way d e key has some = let yields = gives-way d e key has some in record { fits = yields.fits; full = yields.full }

pub selection-comes-back : SelectionComesBack
selection-comes-back d e key has = record {
  removed = λ is.
      let begun = removal-begins d e (cleared e) (region e).0 (region e).1 (refl, (refl, refl)) in
      let there = removed-is d e key has is in
      let goes = subst (IsOneRun e) (sym there) (record { more = begun.more; over = begun.over; start = begun.start }) in
      let works : DoesWork (as_left key (with_removal d (cleared e) (region e).0 (region e).1 false)) =
      record { settled = has.no_paste; other = asks-none e has; writes = has.writes } in
      goes-back d e (after_key d None e key) (subst DoesWork (sym there) works) goes;
  replaced = λ some few. let goes = (gives-way d e key has some).goes few in goes-back d e (after_key d None e key) goes.1 goes.0;
}
