-- A sequence that is read at once.
use Rattle.std.proofs.Common.{◌≡◌, ℕ, ◌+◌, ◌≤◌, ◌<◌, Bool, true, false, nat_le, ◌&&◌, if◌then◌else◌, List, []}
use Rattle.std.proofs.Common.{◌∷◌, ◌++◌, length, take, drop, get_or, Option, Some, None, refl, ap, sym, ◌∙◌}
use Rattle.std.proofs.Common.{append_assoc, arith, suc, min}
use Rattle.std.proofs.lemmas.List.{take-append-drop, drop_more, get_or-drop, length-drop, length-take-le, drop-drop}
use Rattle.std.specs.List.{list_all}
use Rattle.std.specs.Str.{all_ascii_digits}
use Rattle.std.specs.Str.Parse.{digits_value}
use Rattle.std.proofs.lemmas.Bool.Decides.{nat_tests}
use Rattle.bx_terminal.specs.Capped.{capped}
use Rattle.bx_grid.specs.Columns.{run_columns}
use Rattle.bx_grid.specs.Effects.{Effect}
use Rattle.bx_terminal.specs.Sequences.{BeginWithSequence}
use Rattle.bx_grid.specs.Tokens.{is_param, is_final, params, command_of}
use Rattle.bx_grid.specs.Terminal.{Terminal, reads, run_ended, run_put, all_unknown, after_command}
use Rattle.bx_grid.specs.declared.command.Command.{Command}
use Rattle.bx_grid.specs.declared.command.Command.TheVariants.{Move}
use Rattle.bx_grid.proofs.Doing.{run_is, sequence_does}
use Rattle.bx_terminal.proofs.Halves.{obeyed_capped}
use Rattle.bx_grid.proofs.Reading.{at, reads-append, IsFinal, all-append, digits_are_params, no_semicolon, number_of_digits}
use Rattle.bx_terminal.proofs.RunEnds.{half_ended, ended_early}
use Rattle.bx_terminal.proofs.TextRead.{text_read}
use Rattle.bx_bytes.specs.Utf8.{are_printable}
use Rattle.bx_common.specs.Characters.{largest_side}
use Rattle.std.specs.Str.{IsUtf8}

-- ---- a run that ends leaves the size

record SameSize (t u : Terminal) : Type 0 where
  height : u.height ≡ t.height
  width : u.width ≡ t.width

put_size : (fits : Bool) (t u : Terminal) → SameSize t u → SameSize t (if fits then u else all_unknown t)
put_size true t u h = h
put_size false t u h = record { height = refl; width = refl }

run_size : (t : Terminal) (position : Option (ℕ × ℕ)) (negative : Option Bool) (pending : List ℕ) → SameSize t (run_put t position negative pending)
run_size t position negative [] = record { height = refl; width = refl }
run_size t (Some p) (Some negative) (b ∷ bs) =
    let new = run_columns negative (b ∷ bs) in
    put_size (nat_le 1 (length new) && nat_le (p.1 + length new) t.width) t _ (record { height = refl; width = refl })
run_size t (Some p) None (b ∷ bs) = record { height = refl; width = refl }
run_size t None negative (b ∷ bs) = record { height = refl; width = refl }

-- ---- the sequence

final_is : (f : ℕ) → is_final f ≡ true → IsFinal f
final_is f h = record {
  ends = h;
  no_param = grind (arith, nat_tests);
  no_intermediate = grind (arith, nat_tests);
}

all_by : (t : Bool) (b : ℕ) (bs : List ℕ) → is_param b ≡ t → list_all is_param (params bs) ≡ true → list_all is_param (params (b ∷ bs)) ≡ true
all_by true b bs e more = rw (e, e) more
all_by false b bs e more = rw e refl

all_params : (bs : List ℕ) → list_all is_param (params bs) ≡ true
all_params [] = refl
all_params (b ∷ bs) = all_by (is_param b) b bs refl (all_params bs)

sequence_reads : (t : Terminal) (ps : List ℕ) (f : ℕ) → t.half_read ≡ [] → list_all is_param ps ≡ true → IsFinal f
    → t.height ≤ largest_side → t.width ≤ largest_side
    → reads t (0x1B ∷ 0x5B ∷ (ps ++ f ∷ [])) ≡ after_command (run_ended t) (capped (command_of ps f))
sequence_reads t ps f none all final high wide =
    let u : Terminal = run_ended t in
    let size = run_size t t.position t.negative t.run in
    ap (λ (w : Terminal × List Effect). w.0) (sym (run_is t [] (0x1B ∷ 0x5B ∷ (ps ++ f ∷ []))) ∙ sequence_does t [] ps f none all final)
    ∙ ap (λ half_read. after_command (at u half_read) (command_of ps f)) (sym (half_ended t none))
    ∙ sym (obeyed_capped u (command_of ps f) (omega (arith, size.height, high)) (omega (arith, size.width, wide)))

obeyed_by : (t : Terminal) (ps : List ℕ) (f : ℕ) (after : List ℕ) (command : Command) → t.half_read ≡ [] → list_all is_param ps ≡ true → is_final f ≡ true
    → command ≡ capped (command_of ps f) → t.height ≤ largest_side → t.width ≤ largest_side
    → reads t (0x1B ∷ 0x5B ∷ (ps ++ f ∷ after)) ≡ reads (after_command (run_ended t) command) after
obeyed_by t ps f after command none all final asks high wide =
    let parts : 0x1B ∷ 0x5B ∷ (ps ++ f ∷ after) ≡ (0x1B ∷ 0x5B ∷ (ps ++ f ∷ [])) ++ after =
    ap (λ bs. 0x1B ∷ 0x5B ∷ bs) (sym (append_assoc ps (f ∷ []) after)) in
    ap (reads t) parts
    ∙ reads-append t (0x1B ∷ 0x5B ∷ (ps ++ f ∷ [])) after
    ∙ ap (λ u. reads u after) (sequence_reads t ps f none all (final_is f final) high wide ∙ ap (after_command (run_ended t)) (sym asks))

-- ---- a text

-- a text with no control goes on with the run
pub text_goes_on : (u t : Terminal) (text bytes pending : List ℕ) → u ≡ t → t.half_read ≡ [] → text ≡ bytes → IsUtf8 bytes → are_printable text ≡ true
    → pending ≡ u.run ++ text → record u { run = pending } ≡ reads t bytes
text_goes_on u t text bytes pending same idle is utf8 printed e =
    ap (λ ps. record u { run = ps }) (e ∙ ap (λ bs. u.run ++ bs) is)
    ∙ ap (λ (x : Terminal). record x { run = x.run ++ bytes }) same
    ∙ ap (λ half_read. record t { run = t.run ++ bytes; half_read = half_read }) idle
    ∙ sym (text_read t bytes utf8 (ap are_printable (sym is) ∙ printed) idle)

-- reading in two parts
pub in_two : (t u : Terminal) (bytes : List ℕ) (n : ℕ) → u ≡ reads t (take n bytes) → reads u (drop n bytes) ≡ reads t bytes
in_two t u bytes n e =
    ap (λ x. reads x (drop n bytes)) e ∙ sym (reads-append t (take n bytes) (drop n bytes)) ∙ ap (reads t) (take-append-drop n bytes)

-- a text that is shown before the escape after it is read
pub shown_before : (t u : Terminal) (bytes text : List ℕ) (n : ℕ) → t.half_read ≡ [] → n < length bytes → get_or bytes n 0 ≡ 0x1B
    → text ≡ take n bytes → IsUtf8 (take n bytes) → are_printable text ≡ true → u ≡ run_ended (record t { run = t.run ++ text })
    → reads u (drop n bytes) ≡ reads t bytes
shown_before t u bytes text n idle low escape is utf8 printed e =
    let v : Terminal = record t { run = t.run ++ text; half_read = [] } in
    let read : reads t (take n bytes) ≡ v =
    text_read t (take n bytes) utf8 (ap are_printable (sym is) ∙ printed) idle
    ∙ ap (λ bs. record t { run = t.run ++ bs; half_read = [] }) (sym is) in
    let same : u ≡ run_ended v =
    e ∙ ap (λ half_read. run_ended (record t { run = t.run ++ text; half_read = half_read })) idle in
    let next : drop n bytes ≡ 0x1B ∷ drop (n + 1) bytes = drop_more bytes n 0 low ∙ ap (λ b. b ∷ drop (n + 1) bytes) escape in
    ap (reads u) next
    ∙ ap (λ x. reads x (0x1B ∷ drop (n + 1) bytes)) same
    ∙ ended_early v (drop (n + 1) bytes) 0x1B refl refl
    ∙ ap (reads v) (sym next)
    ∙ in_two t v bytes n (sym read)

-- the sequence of a body whose first bytes are its parameters
pub sequence_told : (body ps rest : List ℕ) (n f : ℕ) (command : Command) → n ≤ length body → take n body ≡ params body → ps ≡ take n body
    → rest ≡ drop n body → 1 ≤ length rest → f ≡ get_or rest 0 0 → is_final f ≡ true → command ≡ capped (command_of ps f)
    → BeginWithSequence (0x1B ∷ 0x5B ∷ body) command (n + 3)
sequence_told body ps rest n f command le fit front back some first final asks =
    let low : n < length body = omega (arith, ap length back, length-drop n body, some) in
    let here : n ≡ n + 0 = omega arith in
    let next : get_or body n 0 ≡ f =
    ap (λ m. get_or body m 0) here ∙ sym (get_or-drop n body 0 0) ∙ ap (λ xs. get_or xs 0 0) (sym back) ∙ sym first in
    let after = drop (n + 1) body in
    let split : body ≡ ps ++ f ∷ after =
    sym (take-append-drop n body)
    ∙ ap (λ xs. xs ++ drop n body) (sym front)
    ∙ ap (λ xs. ps ++ xs) (drop_more body n 0 low ∙ ap (λ b. b ∷ after) next) in
    let all : list_all is_param ps ≡ true = ap (list_all is_param) (front ∙ fit) ∙ all_params body in
    let left : after ≡ drop (n + 3) (0x1B ∷ 0x5B ∷ body) =
    ap (λ m. drop m (0x1B ∷ 0x5B ∷ body)) (let e : suc (suc (n + 1)) ≡ n + 3 = omega arith in e) in
    record {
      some = omega arith;
      within = omega (arith, low);
      obeyed = λ t none high wide.
          ap (λ xs. reads t (0x1B ∷ 0x5B ∷ xs)) split
          ∙ obeyed_by t ps f after command none all final asks high wide
          ∙ ap (reads (after_command (run_ended t) command)) left;
    }

-- ---- a move whose numbers are read once

split_at : (xs : List ℕ) (n f : ℕ) → n < length xs → get_or xs n 0 ≡ f → xs ≡ take n xs ++ f ∷ drop (n + 1) xs
split_at xs n f low is = sym (take-append-drop n xs) ∙ ap (λ ys. take n xs ++ ys) (drop_more xs n 0 low ∙ ap (λ b. b ∷ drop (n + 1) xs) is)

move_asked : (ds es : List ℕ) (line column : ℕ) → 0 < length ds → 0 < length es → all_ascii_digits ds ≡ true → all_ascii_digits es ≡ true
    → line ≡ min 1000 (digits_value 10 ds) → column ≡ min 1000 (digits_value 10 es)
    → Move line column ≡ capped (command_of (ds ++ 0x3B ∷ es) 0x48)
move_asked ds es line column some more all every el ec =
    let parts = no_semicolon ds all es in
    let is : command_of (ds ++ 0x3B ∷ es) 0x48 ≡ Move (digits_value 10 ds) (digits_value 10 es) =
    rw (parts.0, parts.1, number_of_digits ds some all, number_of_digits es more every) refl in
    ap (λ n. Move n column) el ∙ ap (λ n. Move (min 1000 (digits_value 10 ds)) n) ec ∙ sym (ap capped is)

-- two numbers of m and k digits, with a semicolon between them and an H after them
pub move_told : (body rest : List ℕ) (m k line column : ℕ) → 0 < m → m < length body → get_or body m 0 ≡ 0x3B → all_ascii_digits (take m body) ≡ true
    → line ≡ min 1000 (digits_value 10 (take m body)) → rest ≡ drop (m + 1) body → 0 < k → k < length rest → get_or rest k 0 ≡ 0x48
    → all_ascii_digits (take k rest) ≡ true → column ≡ min 1000 (digits_value 10 (take k rest))
    → BeginWithSequence (0x1B ∷ 0x5B ∷ body) (Move line column) (m + k + 4)
move_told body rest m k line column some low semicolon all el back more few last every ec =
    let ds = take m body in
    let es = take k rest in
    let ps = ds ++ 0x3B ∷ es in
    let after = drop (k + 1) rest in
    let split : body ≡ ps ++ 0x48 ∷ after =
    split_at body m 0x3B low semicolon
    ∙ ap (λ xs. ds ++ 0x3B ∷ xs) (sym back ∙ split_at rest k 0x48 few last)
    ∙ sym (append_assoc ds (0x3B ∷ es) (0x48 ∷ after)) in
    let fit : list_all is_param ps ≡ true = all-append is_param ds (0x3B ∷ es) (digits_are_params ds all) (digits_are_params es every) in
    let asks = move_asked ds es line column (omega (arith, length-take-le m body (omega (arith, low)), some))
    (omega (arith, length-take-le k rest (omega (arith, few)), more)) all every el ec in
    let left : after ≡ drop (m + k + 4) (0x1B ∷ 0x5B ∷ body) =
    ap (drop (k + 1)) back ∙ drop-drop (k + 1) (m + 1) body
    ∙ ap (λ n. drop n (0x1B ∷ 0x5B ∷ body)) (let e : suc (suc ((m + 1) + (k + 1))) ≡ m + k + 4 = omega arith in e) in
    record {
      some = omega arith;
      within = omega (arith, low, few, ap length back, length-drop (m + 1) body);
      obeyed = λ t none high wide.
          ap (λ xs. reads t (0x1B ∷ 0x5B ∷ xs)) split
          ∙ obeyed_by t ps 0x48 after (Move line column) none fit refl asks high wide
          ∙ ap (reads (after_command (run_ended t) (Move line column))) left;
    }
