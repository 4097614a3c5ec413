-- The keys that a machine gives are decoded from their bytes, and so are those of whole runs.
use Rattle.std.proofs.Common.{◌≡◌, ℕ, Bool, true, false, ◌&&◌, ◌||◌, cond, nat_eq, List, [], ◌∷◌, ◌++◌, drop, refl, ap, sym, ◌∙◌, append_assoc, subst}
use Rattle.std.proofs.Common.{Option, Some, None}
use Rattle.std.specs.Prelude.{option_map, option_to_list, find, flat_map}
use Rattle.std.specs.List.{AllByRecursion, slice_split}
use Rattle.std.specs.Str.{bytes_eq, chars}
use Rattle.std.specs.Str.Parse.{digits_value}
use Rattle.std.proofs.lemmas.Bool.{and_parts}
use Rattle.std.proofs.lemmas.List.{append-nil}
use Rattle.std.proofs.lemmas.Option.{cond_some}
use lib.Utf8.{encode}
use Rattle.bx_bytes.specs.declared.fate.Fate.{Fate}
use Rattle.bx_bytes.specs.declared.fate.Fate.TheVariants.{Waits, Ends, Breaks}
use Rattle.bx_common.specs.Characters.{is_side}
use Rattle.bx_keys.specs.Keys.{Decoding, decoding, is_number, is_side_in_digits, key_after, rest_after, head_of, final_byte, before_final}
use Rattle.bx_keys.specs.Waiting as items
use Rattle.bx_keys.specs.declared.key.Key.{Key}
use Rattle.bx_keys.specs.declared.key.Key.TheVariants as keys
use Rattle.bx_keys.proofs.Cuts.{in_pieces, rest_waits}
use Rattle.bx_keys.proofs.Heads.{head_waits}
use Rattle.bx_input.specs.Frames.{Frame}
use Rattle.bx_input.specs.Heard.{all_bytes, frame_bytes, wake}
use Rattle.bx_input.specs.KeyBytes.{key_bytes}
use Rattle.bx_input.specs.Known.{fate, known_keys}
use Rattle.bx_input.specs.Machine.{Event, Typed, Size, Pause, Notice, End, Machine, Moved, begun, quiet, and_then, read, after_parts, settled, to_state, is_none}
use Rattle.bx_input.specs.Machine.{after_scanned, after_all_scanned, after_broken, after_whole, after_first, after_held, after_in_string, after_typed, after_idle}
use Rattle.bx_input.specs.Machine.{all_notices, after_notice, after_last, after_end, after, after_all, after_frame, events_of}
use Rattle.bx_input.specs.Mouse.{Report, opens_report, report_of_numbers, report_of, reported}
use Rattle.bx_input.specs.Paste.{pasted_byte, pasted_part, paste_fate}
use Rattle.bx_input.specs.Scan as scan
use Rattle.bx_input.specs.Scan.{State, Outside, Within, Part, Passed, Known, passed, Step, ended, ended_in_paste, fresh_in_paste, paste_step_by, has_two_escapes, are_escapes}
use Rattle.bx_input.specs.Scan.{idle, is_before, is_in_paste, at_end}
use Rattle.bx_input.specs.Sizes.{opens_size, size_of_numbers, size_of, sized}
use Rattle.bx_input.specs.Strings.{begins_string, ends_string, is_short_string}
use Rattle.bx_input.specs.Table.{Row, fixed_rows, keys_of, paste_end, row_of, rows}
use Rattle.bx_input.specs.declared.pause.Pause as typing
use Rattle.bx_input.proofs.Reports.{semicolon}
use Rattle.bx_input_laws.specs.Hearing.{after_frames}
use Rattle.bx_input_laws.specs.Reading.{IsRead, AreRead, IsReady, KeysAreRead, FramesAreRead, all_events}
use Rattle.bx_input_laws.proofs.Events as events
use Rattle.bx_input_laws.proofs.ReadItems.{fed_read, found_all}
use Rattle.bx_input_laws.proofs.ReadKeys.{size_read, point_read, drag_read}
use Rattle.bx_input_laws.proofs.ReadParts.{read_waits}

joined : (xs ys : List Key) → AreRead xs → AreRead ys → AreRead (xs ++ ys)
joined [] ys h g = g
joined (x ∷ xs) ys h g = (h.0, joined xs ys h.1 g)

-- ---- the keys of known sequences

from_map : {X Y : Type 0} (f : X → Y) (P : Y → Type 0) (o : Option X) (y : Y) → ((x : X) → o ≡ Some x → P (f x)) → option_map f o ≡ Some y → P y
from_map f P None y each h = absurd (cc h)
from_map f P (Some x) y each h = let same : f x ≡ y = cc h in subst P same (each x refl)

-- the cell of a report
abbrev HasCell : Report → Type 0
HasCell r = (is_side r.row ≡ true) × (is_side r.column ≡ true)

three_numbers : (is_release : Bool) (b x y : List ℕ) (r : Report) → report_of_numbers is_release (b ∷ x ∷ y ∷ []) ≡ Some r → HasCell r
three_numbers is_release b x y r h =
    let test : Bool = is_number b && (is_side_in_digits x && is_side_in_digits y) in
    let made : Report = record { button = digits_value 10 b; column = digits_value 10 x; row = digits_value 10 y; is_release = is_release } in
    let is = cond_some test made r h in
    let sides = and_parts (is_number b) (is_side_in_digits x && is_side_in_digits y) is.0 in
    let cell = and_parts (is_side_in_digits x) (is_side_in_digits y) sides.1 in
    subst HasCell is.1 ((and_parts (is_number y) (is_side (digits_value 10 y)) cell.1).1, (and_parts (is_number x) (is_side (digits_value 10 x)) cell.0).1)

by_fields : (is_release : Bool) (fields : List (List ℕ)) (r : Report) → report_of_numbers is_release fields ≡ Some r → HasCell r
by_fields is_release [] r h = absurd (cc h)
by_fields is_release (b ∷ []) r h = absurd (cc h)
by_fields is_release (b ∷ x ∷ []) r h = absurd (cc h)
by_fields is_release (b ∷ x ∷ y ∷ []) r h = three_numbers is_release b x y r h
by_fields is_release (b ∷ x ∷ y ∷ z ∷ fields) r h = absurd (cc h)

given_by : {X : Type 0} (t : Bool) (o : Option X) (x : X) → cond t o None ≡ Some x → o ≡ Some x
given_by true o x h = h
given_by false o x h = absurd (cc h)

has_cell : (ps : List ℕ) (r : Report) → report_of ps ≡ Some r → HasCell r
has_cell ps r h =
    let fields : List (List ℕ) = slice_split semicolon (before_final ps) in
    by_fields (nat_eq (final_byte ps) 0x6D) fields r
    (given_by (nat_eq (final_byte ps) 0x4D || nat_eq (final_byte ps) 0x6D) (report_of_numbers (nat_eq (final_byte ps) 0x6D) fields) r h)

pressed_read : (a b c d e : Bool) (row column : ℕ) → is_side row ≡ true → is_side column ≡ true
    → AreRead (cond a (keys.Point row column ∷ []) (cond b (keys.Select ∷ keys.Point row column ∷ []) (cond c (keys.Drag row column ∷ []) (cond d (keys.ScrollBack ∷ []) (cond e (keys.ScrollOn ∷ []) [])))))
pressed_read true b c d e row column h g = (point_read row column h g, tt)
pressed_read false true c d e row column h g = (refl, (point_read row column h g, tt))
pressed_read false false true d e row column h g = (drag_read row column h g, tt)
pressed_read false false false true e row column h g = (refl, tt)
pressed_read false false false false true row column h g = (refl, tt)
pressed_read false false false false false row column h g = tt

either : (t : Bool) (xs ys : List Key) → AreRead xs → AreRead ys → AreRead (cond t xs ys)
either true xs ys h g = h
either false xs ys h g = g

reported_read : (r : Report) → HasCell r → AreRead (reported r)
reported_read r cell =
    either r.is_release [] _ tt (
    pressed_read (nat_eq r.button 0) (nat_eq r.button 4) (nat_eq r.button 32 || nat_eq r.button 36) (nat_eq r.button 64) (nat_eq r.button 65) r.row r.column cell.0 cell.1)

sides_by : (t : Bool) (h w : List ℕ) (key : Key) → is_side_in_digits h && is_side_in_digits w ≡ t
    → cond t (Some (keys.Size (digits_value 10 h) (digits_value 10 w))) None ≡ Some key → IsRead key
sides_by true h w key e is =
    let sides = and_parts (is_side_in_digits h) (is_side_in_digits w) e in
    let same : keys.Size (digits_value 10 h) (digits_value 10 w) ≡ key = cc is in
    subst IsRead same (size_read (digits_value 10 h) (digits_value 10 w) (and_parts (is_number h) (is_side (digits_value 10 h)) sides.0).1 (and_parts (is_number w) (is_side (digits_value 10 w)) sides.1).1)
sides_by false h w key e is = absurd (cc is)

numbers_read : (fields : List (List ℕ)) (key : Key) → size_of_numbers fields ≡ Some key → IsRead key
numbers_read [] key h = absurd (cc h)
numbers_read (x ∷ []) key h = absurd (cc h)
numbers_read (x ∷ y ∷ []) key h = sides_by (is_side_in_digits x && is_side_in_digits y) x y key refl h
numbers_read (x ∷ y ∷ z ∷ fields) key h = absurd (cc h)

size_keys : (ps : List ℕ) (key : Key) → size_of ps ≡ Some key → AreRead (sized key)
size_keys ps key h =
    let fields : List (List ℕ) = slice_split semicolon (before_final ps) in
    (numbers_read fields key (given_by (nat_eq (final_byte ps) 0x74) (size_of_numbers fields) key h), (refl, tt))

fixed_read : AllByRecursion (λ (r : Row). IsRead r.key) fixed_rows
unfolding chars encode
fixed_read = (refl, (refl, (refl, (refl, (refl, (refl, (refl, (refl, (refl, (refl, (refl, (refl, (refl, (refl, (refl, (refl, (refl, (refl, (refl, (refl, (refl, (refl, (refl, (refl, (refl, (refl, (refl, (refl, (refl, (refl, (refl, (refl, (refl, (refl, (refl, (refl, (refl, (refl, (refl, (refl, (refl, (refl, (refl, (refl, (refl, (refl, (refl, (refl, (refl, (refl, (refl, (refl, (refl, (refl, (refl, (refl, (refl, (refl, (refl, (refl, (refl, (refl, (refl, (refl, (refl, (refl, (refl, (refl, (refl, (refl, (refl, (refl, (refl, (refl, (refl, (refl, (refl, (refl, (refl, (refl, (refl, (refl, (refl, (refl, (refl, (refl, (refl, (refl, (refl, (refl, (refl, (refl, (refl, (refl, (refl, (refl, (refl, (refl, (refl, (refl, (refl, (refl, (refl, (refl, tt))))))))))))))))))))))))))))))))))))))))))))))))))))))))))))))))))))))))))))))))))))))))))))))))))))))))

rows_read : (by_delete : Bool) → AllByRecursion (λ (r : Row). IsRead r.key) (rows by_delete)
rows_read true = (refl, fixed_read)
rows_read false = (refl, fixed_read)

row_keys : (by_delete : Bool) (bs : List ℕ) (r : Row) → row_of by_delete bs ≡ Some r → AreRead (keys_of r)
row_keys by_delete bs r h =
    let key : IsRead r.key = found_all (λ (r : Row). IsRead r.key) (λ (r : Row). bytes_eq r.sequence bs) (rows by_delete) r (rows_read by_delete) h in
    either r.selects (keys.Select ∷ r.key ∷ []) (r.key ∷ []) (refl, (key, tt)) (key, tt)

by_tests : (t s : Bool) (x y z : Option (List Key)) (ks : List Key) → (x ≡ Some ks → AreRead ks) → (y ≡ Some ks → AreRead ks) → (z ≡ Some ks → AreRead ks)
    → cond t x (cond s y z) ≡ Some ks → AreRead ks
by_tests true s x y z ks f g k h = f h
by_tests false true x y z ks f g k h = g h
by_tests false false x y z ks f g k h = k h

known_read : (by_delete : Bool) (bs : List ℕ) (ks : List Key) → known_keys by_delete bs ≡ Some ks → AreRead ks
known_read by_delete bs ks h =
    by_tests (opens_report bs) (opens_size bs) (option_map reported (report_of (drop 3 bs))) (option_map sized (size_of (drop 4 bs))) (option_map keys_of (row_of by_delete bs)) ks
    (from_map reported AreRead (report_of (drop 3 bs)) ks (λ r is. reported_read r (has_cell (drop 3 bs) r is)))
    (from_map sized AreRead (size_of (drop 4 bs)) ks (λ key is. size_keys (drop 4 bs) key is))
    (from_map keys_of AreRead (row_of by_delete bs) ks (λ r is. row_keys by_delete bs r is))
    h

-- ---- parts

abbrev IsGood : Part → Type 0
IsGood (Passed b) = Unit {0}
IsGood (Known ks) = AreRead ks

abbrev AreGood : List Part → Type 0
AreGood parts = AllByRecursion IsGood parts

good_joined : (xs ys : List Part) → AreGood xs → AreGood ys → AreGood (xs ++ ys)
good_joined [] ys h g = g
good_joined (x ∷ xs) ys h g = (h.0, good_joined xs ys h.1 g)

passed_good : (bs : List ℕ) → AreGood (passed bs)
passed_good [] = tt
passed_good (b ∷ bs) = (tt, passed_good bs)

parts_read : (rest : List ℕ) (parts : List Part) → items.fate rest ≡ Waits → AreGood parts → AreRead (read rest parts).keys
parts_read rest [] w good = tt
parts_read rest (Passed b ∷ ps) w good =
    let next : List ℕ = head_of (rest_after rest b) in
    joined (option_to_list (key_after rest b)) (read next ps).keys (fed_read rest b w)
    (parts_read next ps (head_waits (rest_after rest b) (rest_waits (rest ++ b ∷ []))) good.1)
parts_read rest (Known ks ∷ ps) w good = joined ks (read [] ps).keys good.0 (parts_read [] ps refl good.1)

ended_good : (o : Option (List Key)) → ((ks : List Key) → o ≡ Some ks → AreRead ks) → AreGood (ended o).parts
ended_good None each = ((refl, tt), tt)
ended_good (Some ks) each = (each ks refl, tt)

either_good : (t : Bool) (s z : Step) → AreGood s.parts → AreGood z.parts → AreGood (cond t s z).parts
either_good true s z h g = h
either_good false s z h g = g

module _ (by_delete : Bool) where
  fresh_good : (f : Fate) (b : ℕ) → AreGood (scan.fresh by_delete f b).parts
  fresh_good Waits b = tt
  fresh_good Ends b = ended_good (known_keys by_delete (b ∷ [])) (known_read by_delete (b ∷ []))
  fresh_good Breaks b = (tt, tt)

  broken_good : (waiting : List ℕ) (b : ℕ) → AreGood (scan.broken by_delete waiting b).parts
  broken_good waiting b = good_joined (passed waiting) (scan.fresh by_delete (fate (b ∷ [])) b).parts (passed_good waiting) (fresh_good (fate (b ∷ [])) b)

  plain_good : (f : Fate) (waiting : List ℕ) (b : ℕ) → AreGood (scan.plain_step by_delete f waiting b).parts
  plain_good Waits waiting b = tt
  plain_good Ends waiting b = ended_good (known_keys by_delete (waiting ++ b ∷ [])) (known_read by_delete (waiting ++ b ∷ []))
  plain_good Breaks waiting b = broken_good waiting b

  outside_good : (f : Fate) (waiting : List ℕ) (b : ℕ) → AreGood (scan.step_by by_delete f waiting b).parts
  outside_good Waits waiting b = plain_good Waits waiting b
  outside_good Ends waiting b = plain_good Ends waiting b
  outside_good Breaks waiting b =
      let rest : List ℕ = drop 1 waiting in
      either_good (has_two_escapes waiting) (scan.behind_escape by_delete rest b) (scan.broken by_delete waiting b)
      (tt, plain_good (fate (rest ++ b ∷ [])) rest b) (broken_good waiting b)

  fresh_in_paste_good : (f : Fate) (after_return : Bool) (b : ℕ) → AreGood (fresh_in_paste f after_return b).parts
  fresh_in_paste_good Waits after_return b = tt
  fresh_in_paste_good Ends after_return b = passed_good (pasted_byte after_return b)
  fresh_in_paste_good Breaks after_return b = passed_good (pasted_byte after_return b)

  ended_in_paste_good : (is_end : Bool) → AreGood (ended_in_paste is_end).parts
  ended_in_paste_good true = ((refl, tt), tt)
  ended_in_paste_good false = tt

  within_good : (f : Fate) (waiting : List ℕ) (after_return : Bool) (b : ℕ) → AreGood (paste_step_by f waiting after_return b).parts
  within_good Waits waiting after_return b = tt
  within_good Ends waiting after_return b = ended_in_paste_good (bytes_eq (waiting ++ b ∷ []) paste_end)
  within_good Breaks waiting after_return b =
      good_joined (passed (pasted_part waiting)) (fresh_in_paste (paste_fate (b ∷ [])) after_return b).parts (passed_good (pasted_part waiting))
      (fresh_in_paste_good (paste_fate (b ∷ [])) after_return b)

  step_good : (s : State) (b : ℕ) → AreGood (scan.step by_delete s b).parts
  step_good (Outside waiting) b = outside_good (fate (waiting ++ b ∷ [])) waiting b
  step_good (Within waiting after_return) b = within_good (paste_fate (waiting ++ b ∷ [])) waiting after_return b

idle_good : (pause : typing.Pause) (s : State) → AreGood (idle pause s).parts
idle_good pause (Outside waiting) = either_good (are_escapes waiting) (scan.step_to scan.start (Known (keys.Cancel ∷ []) ∷ [])) (scan.step_to (Outside waiting) []) ((refl, tt), tt) tt
idle_good pause (Within waiting after_return) =
    either_good (bytes_eq waiting (0x1B ∷ []) && is_before pause) (scan.step_to scan.start (Known (keys.PasteEnd ∷ []) ∷ [])) (scan.step_to (Within waiting after_return) [])
    ((refl, tt), tt) tt

at_end_good : (s : State) → AreGood (at_end s)
at_end_good (Outside waiting) = passed_good waiting
at_end_good (Within waiting after_return) = passed_good (pasted_part waiting)

-- ---- events

abbrev IsFine : Moved → Type 0
IsFine moved = IsReady moved.machine × AreRead moved.keys

either_fine : (t : Bool) (x y : Moved) → IsFine x → IsFine y → IsFine (cond t x y)
either_fine true x y h g = h
either_fine false x y h g = g

then_fine : (first : Moved) (second : Machine → Moved) → IsFine first → ((m : Machine) → IsReady m → IsFine (second m)) → IsFine (and_then first second)
then_fine first second h each =
    let next = each first.machine h.0 in
    (next.0, joined first.keys (second first.machine).keys h.1 next.1)

parts_fine : (parts : List Part) (m : Machine) → AreGood parts → IsReady m → IsFine (after_parts parts m)
parts_fine parts m good ready = (record { waits = read_waits m.rest parts ready.waits; notice = ready.notice }, parts_read m.rest parts ready.waits good)

settled_fine : (m : Machine) → IsReady m → IsFine (settled m)
settled_fine m ready =
    either_fine (is_in_paste m.state) (quiet m) (record { machine = record m { notice = None }; keys = option_to_list m.notice })
    (ready, tt) (record { waits = ready.waits; notice = tt }, ready.notice)

scanned_fine : (b : ℕ) (m : Machine) → IsReady m → IsFine (after_scanned b m)
scanned_fine b m ready =
    let s : Step = scan.step m.erases_by_delete m.state b in
    then_fine (after_parts s.parts (to_state s.state m)) settled
    (parts_fine s.parts (to_state s.state m) (step_good m.erases_by_delete m.state b) (record { waits = ready.waits; notice = ready.notice })) settled_fine

all_scanned_fine : (bs : List ℕ) (m : Machine) → IsReady m → IsFine (after_all_scanned bs m)
all_scanned_fine [] m ready = (ready, tt)
all_scanned_fine (b ∷ bs) m ready = then_fine (after_scanned b m) (after_all_scanned bs) (scanned_fine b m ready) (all_scanned_fine bs)

broken_fine : (held : List ℕ) (m : Machine) → IsReady m → IsFine (after_broken held m)
broken_fine held m ready = all_scanned_fine held (record m { string = [] }) (record { waits = ready.waits; notice = ready.notice })

first_fine : (b : ℕ) (m : Machine) → IsReady m → IsFine (after_first b m)
first_fine b m ready =
    either_fine (begins_string m.state b) (quiet (record m { string = b ∷ [] })) (after_scanned b m)
    (record { waits = ready.waits; notice = ready.notice }, tt) (scanned_fine b m ready)

held_fine : (held : List ℕ) (m : Machine) → IsReady m → IsFine (after_held held m)
held_fine held m ready =
    either_fine (is_short_string held) (quiet (record m { string = held })) (after_broken held m)
    (record { waits = ready.waits; notice = ready.notice }, tt) (broken_fine held m ready)

in_string_fine : (b : ℕ) (m : Machine) → IsReady m → IsFine (after_in_string b m)
in_string_fine b m ready =
    either_fine (ends_string m.string b) (after_whole m) (after_held (m.string ++ b ∷ []) m)
    (record { waits = refl; notice = ready.notice }, tt) (held_fine (m.string ++ b ∷ []) m ready)

typed_fine : (b : ℕ) (m : Machine) → IsReady m → IsFine (after_typed b m)
typed_fine b m ready = either_fine (is_none m.string) (after_first b m) (after_in_string b m) (first_fine b m ready) (in_string_fine b m ready)

idle_fine : (m : Machine) → IsReady m → IsFine (after_idle m)
idle_fine m ready =
    let s : Step = idle m.pause m.state in
    then_fine _ settled (parts_fine s.parts _ (idle_good m.pause m.state) (record { waits = ready.waits; notice = ready.notice })) settled_fine

size_by : (t : Bool) (rows columns : ℕ) → is_side rows && is_side columns ≡ t → AreRead (option_to_list (cond t (Some (keys.Size rows columns)) None))
size_by true rows columns e = let sides = and_parts (is_side rows) (is_side columns) e in (size_read rows columns sides.0 sides.1, tt)
size_by false rows columns e = tt

notices_read : AllByRecursion (λ (n : ℕ × Key). IsRead n.1) all_notices
notices_read = (refl, (refl, (refl, (refl, (refl, (refl, (refl, (refl, (refl, tt)))))))))

mapped : (o : Option (ℕ × Key)) → ((k : ℕ × Key) → o ≡ Some k → IsRead k.1) → AreRead (option_to_list (option_map (λ (k : ℕ × Key). k.1) o))
mapped None each = tt
mapped (Some k) each = (each k refl, tt)

notice_fine : (number : ℕ) (m : Machine) → IsReady m → IsFine (after_notice number m)
notice_fine number m ready =
    settled_fine _ (record {
      waits = ready.waits;
      notice = mapped (find (λ (n : ℕ × Key). nat_eq n.0 number) all_notices)
          (λ k is. found_all (λ (n : ℕ × Key). IsRead n.1) (λ (n : ℕ × Key). nat_eq n.0 number) all_notices k notices_read is);
    })

last_fine : (m : Machine) → IsReady m → IsFine (after_last m)
last_fine m ready = parts_fine (at_end m.state) _ (at_end_good m.state) (record { waits = ready.waits; notice = ready.notice })

event_fine : (e : Event) (m : Machine) → IsReady m → IsFine (after e m)
event_fine (Typed b) m ready = typed_fine b m ready
event_fine (Size rows columns) m ready =
    (ready, joined _ (keys.Fill ∷ []) (size_by (is_side rows && is_side columns) rows columns refl) (refl, tt))
event_fine Pause m ready = then_fine (after_broken m.string m) after_idle (broken_fine m.string m ready) idle_fine
event_fine (Notice number) m ready = notice_fine number m ready
event_fine End m ready = then_fine (after_broken m.string m) after_last (broken_fine m.string m ready) last_fine

begun_ready : (by_delete : Bool) → IsReady (begun by_delete)
begun_ready by_delete = record { waits = refl; notice = tt }

pub keys_are_read : KeysAreRead
keys_are_read = record {
  begins = begun_ready;
  goes_on = λ e m ready. (event_fine e m ready).0;
  are = λ e m ready. (event_fine e m ready).1;
}

-- ---- whole runs

all_fine : (es : List Event) (m : Machine) → IsReady m → IsFine (after_all es m)
all_fine [] m ready = (ready, tt)
all_fine (e ∷ es) m ready = then_fine (after e m) (after_all es) (event_fine e m ready) (all_fine es)

abbrev whole : List Key → Decoding
whole ks = record { keys = ks; rest = [] }

two : (xs ys : List ℕ) (ks ls : List Key) → decoding xs ≡ whole ks → decoding ys ≡ whole ls → decoding (xs ++ ys) ≡ whole (ks ++ ls)
two xs ys ks ls h g =
    in_pieces xs ys
    ∙ ap (λ (d : Decoding). record { keys = d.keys ++ (decoding (d.rest ++ ys)).keys; rest = (decoding (d.rest ++ ys)).rest }) h
    ∙ ap (λ (d : Decoding). record { keys = ks ++ d.keys; rest = d.rest }) g

bytes_read : (ks : List Key) → AreRead ks → decoding (all_bytes ks) ≡ whole ks
bytes_read [] h = refl
bytes_read (k ∷ ks) h = two (key_bytes k) (all_bytes ks) (k ∷ []) ks h.0 (bytes_read ks h.1)

wakes : (t : Bool) → decoding (cond t wake []) ≡ whole []
wakes true = refl
wakes false = refl

frame_read : (letter : ℕ) (ks : List Key) → AreRead ks → decoding (frame_bytes letter ks) ≡ whole ks
frame_read letter [] h = wakes (nat_eq letter 0x6E)
frame_read letter (k ∷ ks) h = bytes_read (k ∷ ks) h

frames_by : (fs : List Frame) (m : Machine) → IsReady m → decoding (after_frames fs m) ≡ whole (after_all (all_events fs) m).keys
frames_by [] m ready =
    let fine = event_fine End m ready in
    bytes_read (after_end m).keys fine.1 ∙ ap whole (sym (append-nil (after_end m).keys))
frames_by (f ∷ fs) m ready =
    let here : Moved = after_frame f m in
    let fine : IsFine here = all_fine (events_of f) m ready in
    let later : List Key = (after_all (all_events fs) here.machine).keys in
    two (frame_bytes f.letter here.keys) (after_frames fs here.machine) here.keys later (frame_read f.letter here.keys fine.1) (frames_by fs here.machine fine.0)
    ∙ ap (λ (z : Moved). whole z.keys) (sym (events.in_pieces (events_of f) (all_events fs) m))
    ∙ ap (λ es. whole (after_all es m).keys) (sym (append_assoc (events_of f) (flat_map events_of fs) (End ∷ [])))

pub frames_are_read : FramesAreRead
frames_are_read by_delete fs = frames_by fs (begun by_delete) (begun_ready by_delete)
