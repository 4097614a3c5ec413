-- Steps of a run, one after another.
use Rattle.std.proofs.Common.{◌≡◌, ℕ, true, false, List, [], ◌∷◌, ◌++◌, map, None, Option, Result, OnOk}
use Rattle.std.proofs.Common.{refl, sym, ap, subst, ◌∙◌, append_assoc}
use Rattle.std.proofs.lemmas.List.{append-nil, map-append}
use Rattle.bx_ucd.specs.Data.{Data}
use Rattle.bx_session.specs.declared.action.Action.{Action}
use Rattle.bx_session.specs.declared.action.Action.TheVariants.{Append, Write, WriteFailed}
use Rattle.bx_session.specs.declared.status.Refused.{Refused}
use Rattle.bx_session.specs.declared.status.Status.{Status}
use Rattle.bx_keys.specs.declared.key.Key.{Key}
use Rattle.bx_session.specs.Session.{Session, is_painted_press, StoreState}
use Rattle.bx_session.specs.Feeding.{Presses}
use Rattle.bx_session.specs.Inputs.{rest_from}
use Rattle.bx_session.specs.Painting.{PressPaints}
use Rattle.bx_session.specs.Running.{PressAnswer, Sent}
use Rattle.bx_session.specs.Log.{Step, Calls, Obeys, IsCalled, AreTaken, ArePartsFrom, LoggedTurn, Part, parts_of, pressed_in_parts, typed_in_parts}
use Rattle.bx_session.specs.Log.{bytes_by, obeyed_in, read_by, kept_by, written_by, part_steps, sending, turn_steps, turns_steps, run_steps}
use Rattle.bx_session.proofs.Typing.{rest_from_both}

-- ---- what steps read, hand to the journal, obey and write

pub bytes_more : (bytes : Action → List ℕ) (first others : List Step) → bytes_by bytes (first ++ others) ≡ bytes_by bytes first ++ bytes_by bytes others
bytes_more bytes [] others = refl
bytes_more bytes (Calls action ∷ first) others =
    ap (λ xs. bytes action ++ xs) (bytes_more bytes first others) ∙ sym (append_assoc (bytes action) (bytes_by bytes first) (bytes_by bytes others))
bytes_more bytes (Obeys a ∷ first) others = bytes_more bytes first others

pub obeyed_more : (first others : List Step) → obeyed_in (first ++ others) ≡ obeyed_in first ++ obeyed_in others
obeyed_more [] others = refl
obeyed_more (Calls action ∷ first) others = obeyed_more first others
obeyed_more (Obeys a ∷ first) others = ap (λ xs. a ∷ xs) (obeyed_more first others)

none_called : (bytes : Action → List ℕ) (part : List PressAnswer) (more : List Step) → bytes_by bytes (map Obeys part ++ more) ≡ bytes_by bytes more
none_called bytes [] more = refl
none_called bytes (a ∷ part) more = none_called bytes part more

all_obeyed : (part : List PressAnswer) (more : List Step) → obeyed_in (map Obeys part ++ more) ≡ part ++ obeyed_in more
all_obeyed [] more = refl
all_obeyed (a ∷ part) more = ap (λ xs. a ∷ xs) (all_obeyed part more)

pub parts_read : (parts : List Part) → bytes_by read_by (part_steps parts) ≡ []
parts_read [] = refl
parts_read (part ∷ parts) = none_called read_by part.pressed (part_steps parts) ∙ parts_read parts

pub parts_keep : (parts : List Part) → bytes_by kept_by (part_steps parts) ≡ typed_in_parts parts
parts_keep [] = refl
parts_keep (part ∷ parts) = ap (λ xs. part.typed ++ xs) (none_called kept_by part.pressed (part_steps parts) ∙ parts_keep parts)

pub parts_write : (parts : List Part) → bytes_by written_by (part_steps parts) ≡ []
parts_write [] = refl
parts_write (part ∷ parts) = none_called written_by part.pressed (part_steps parts) ∙ parts_write parts

pub parts_obey : (parts : List Part) → obeyed_in (part_steps parts) ≡ pressed_in_parts parts
parts_obey [] = refl
parts_obey (part ∷ parts) = all_obeyed part.pressed (part_steps parts) ∙ ap (λ xs. part.pressed ++ xs) (parts_obey parts)

-- ---- one more part, one more turn

parts_more : (parts : List Part) (part : Part)
    → part_steps (parts ++ part ∷ []) ≡ part_steps parts ++ Calls (Append part.typed) ∷ map Obeys part.pressed
parts_more [] part = ap (λ xs. Calls (Append part.typed) ∷ xs) (append-nil (map Obeys part.pressed))
parts_more (first ∷ parts) part =
    ap (λ xs. Calls (Append first.typed) ∷ (map Obeys first.pressed ++ xs)) (parts_more parts part)
    ∙ ap (λ xs. Calls (Append first.typed) ∷ xs)
    (sym (append_assoc (map Obeys first.pressed) (part_steps parts) (Calls (Append part.typed) ∷ map Obeys part.pressed)))

pub typed_joined : (parts : List Part) (typed : List ℕ) (part : Part) → typed_in_parts parts ≡ typed
    → typed_in_parts (parts ++ part ∷ []) ≡ typed ++ part.typed
typed_joined [] typed part is = append-nil part.typed ∙ ap (λ xs. xs ++ part.typed) is
typed_joined (first ∷ parts) typed part is =
    ap (λ xs. first.typed ++ xs) (typed_joined parts (typed_in_parts parts) part refl)
    ∙ sym (append_assoc first.typed (typed_in_parts parts) part.typed)
    ∙ ap (λ xs. xs ++ part.typed) is

pub pressed_joined : (parts : List Part) (answered : List PressAnswer) (part : Part) → pressed_in_parts parts ≡ answered
    → pressed_in_parts (parts ++ part ∷ []) ≡ answered ++ part.pressed
pressed_joined [] answered part is = append-nil part.pressed ∙ ap (λ xs. xs ++ part.pressed) is
pressed_joined (first ∷ parts) answered part is =
    ap (λ xs. first.pressed ++ xs) (pressed_joined parts (pressed_in_parts parts) part refl)
    ∙ sym (append_assoc first.pressed (pressed_in_parts parts) part.pressed)
    ∙ ap (λ xs. xs ++ part.pressed) is

-- the presses of parts in sequence
pub parts_from_both : (rest : List ℕ) (parts more : List Part) → ArePartsFrom rest parts → ArePartsFrom (rest_from rest (typed_in_parts parts)) more
    → ArePartsFrom rest (parts ++ more)
parts_from_both rest [] more first next = next
parts_from_both rest (part ∷ parts) more first next = (
  first.0,
  parts_from_both (rest_from rest part.typed) parts more first.1
      (subst (λ (xs : List ℕ). ArePartsFrom xs more) (rest_from_both rest part.typed (typed_in_parts parts)) next),
)

pub parts_of_both : (turns more : List LoggedTurn) → parts_of (turns ++ more) ≡ parts_of turns ++ parts_of more
parts_of_both [] more = refl
parts_of_both (first ∷ turns) more =
    ap (λ xs. first.parts ++ xs) (parts_of_both turns more) ∙ sym (append_assoc first.parts (parts_of turns) (parts_of more))

pub typed_parts_both : (parts more : List Part) → typed_in_parts (parts ++ more) ≡ typed_in_parts parts ++ typed_in_parts more
typed_parts_both [] more = refl
typed_parts_both (part ∷ parts) more =
    ap (λ xs. part.typed ++ xs) (typed_parts_both parts more) ∙ sym (append_assoc part.typed (typed_in_parts parts) (typed_in_parts more))

turns_more : (turns : List LoggedTurn) (turn : LoggedTurn) → turns_steps (turns ++ turn ∷ []) ≡ turns_steps turns ++ turn_steps turn
turns_more [] turn = append-nil (turn_steps turn)
turns_more (first ∷ turns) turn =
    ap (λ xs. turn_steps first ++ xs) (turns_more turns turn) ∙ sym (append_assoc (turn_steps first) (turns_steps turns) (turn_steps turn))

pub run_more : (first : List ℕ) (turns : List LoggedTurn) (turn : LoggedTurn) → run_steps first (turns ++ turn ∷ []) ≡ run_steps first turns ++ turn_steps turn
run_more first turns turn = ap (λ xs. sending first ++ xs) (turns_more turns turn)

-- ---- steps of a device and a session

module _ {V : Type 0} (did : V → Action → V → Type 0) (obeyed : V → Session → PressAnswer → V → Session → Type 0) (stored : V → StoreState) where
  module _ (d : Data) where
    pub taken_more : (a b c : V) (old mid new : Session) (first others : List Step) → AreTaken did obeyed stored d a old first b mid
        → AreTaken did obeyed stored d b mid others c new → AreTaken did obeyed stored d a old (first ++ others) c new
    taken_more a b c old mid new [] others h k =
        subst (λ (x : V). AreTaken did obeyed stored d x old others c new) h.0 (subst (λ (x : Session). AreTaken did obeyed stored d b x others c new) h.1 k)
    taken_more a b c old mid new (step ∷ first) others h k = (h.0, h.1, h.2, taken_more h.0 b c h.1 mid new first others h.3 k)

    -- a call that writes nothing leaves the session as it is
    pub unwritten : (device device' : V) (s : Session) (action : Action) → written_by action ≡ [] → did device action device' → stored device' ≡ stored device
        → IsCalled did obeyed stored d device s action device' s
    unwritten device device' s action none does same = record {
      does = does;
      stores = same;
      order = ap (λ xs. xs ++ s.pending) (sym none);
      session = refl;
    }

    -- output was written, and a call came that writes nothing
    pub sent_then : (a b c : V) (old new : Session) (written : List ℕ) (last : Action) → Sent old new None None written → did a (Write written) b
        → stored b ≡ stored a → written_by last ≡ [] → did b last c → stored c ≡ stored b
        → AreTaken did obeyed stored d a old (Calls (Write written) ∷ Calls last ∷ []) c new
    sent_then a b c old new written last sent writes same none lasts same' = (
      b,
      new,
      record { does = writes; stores = same; order = sent.order; session = sent.session },
      (c, new, unwritten b c new last none lasts same', (refl, refl)),
    )

    -- a part of the output was written
    pub sent_part : (a b : V) (old new : Session) (written : List ℕ) → Sent old new None None written → did a (WriteFailed written) b → stored b ≡ stored a
        → AreTaken did obeyed stored d a old (Calls (WriteFailed written) ∷ []) b new
    sent_part a b old new written sent writes same =
        (b, new, record { does = writes; stores = same; order = sent.order; session = sent.session }, (refl, refl))

    -- a part more was handed over and obeyed
    pub part_taken : (a b b1 c : V) (old mid new : Session) (parts : List Part) (part : Part)
        → AreTaken did obeyed stored d a old (part_steps parts) b mid → did b (Append part.typed) b1 → stored b1 ≡ stored b
        → AreTaken did obeyed stored d b1 mid (map Obeys part.pressed) c new
        → AreTaken did obeyed stored d a old (part_steps (parts ++ part ∷ [])) c new
    part_taken a b b1 c old mid new parts part before appends same obeys =
        subst (λ steps. AreTaken did obeyed stored d a old steps c new) (sym (parts_more parts part))
        (taken_more a b c old mid new (part_steps parts) (Calls (Append part.typed) ∷ map Obeys part.pressed) before
        (b1, mid, unwritten b b1 mid (Append part.typed) refl appends same, obeys))

  -- a press more was obeyed; the tables stay the same
  pub obeyed_one_more : {D : Type 0} (ucd : D → Data) (tables tables1 : D) (a b c : V) (old now new : Session) (answered : List PressAnswer)
      (key : Option Key) (answer : Result Status Refused) → AreTaken did obeyed stored (ucd tables) a old (map Obeys answered) b now → tables1 ≡ tables
      → now.editor.ended ≡ false → obeyed b now (key, answer) c new → Presses (ucd tables1) now (stored b) key answer new (stored c)
      → (is_painted_press now key ≡ true → OnOk answer (PressPaints (ucd tables1) now key new))
      → AreTaken did obeyed stored (ucd tables) a old (map Obeys (answered ++ (key, answer) ∷ [])) c new
  obeyed_one_more {D} ucd tables tables1 a b c old now new answered key answer before stay running does feeds paints =
      let d = ucd tables in
      let feeds' : Presses d now (stored b) key answer new (stored c) =
      subst (λ (t : D). Presses (ucd t) now (stored b) key answer new (stored c)) stay feeds in
      let paints' : is_painted_press now key ≡ true → OnOk answer (PressPaints d now key new) =
      subst (λ (t : D). is_painted_press now key ≡ true → OnOk answer (PressPaints (ucd t) now key new)) stay paints in
      subst (λ steps. AreTaken did obeyed stored d a old steps c new) (sym (map-append Obeys answered ((key, answer) ∷ [])))
      (taken_more d a b c old now new (map Obeys answered) (Obeys (key, answer) ∷ []) before
      (c, new, record { does = does; goes_on = running; feeds = feeds'; paints = paints' }, (refl, refl)))
