-- Outside a paste: sequences of the table, and all else.
use Rattle.std.proofs.Common.{◌≡◌, ℕ, inl, inr, Bool, true, false, nat_eq, List, [], ◌∷◌, ◌++◌, drop, cond, Option, Some, None, refl, ap, sym, ◌∙◌, append_assoc, subst}
use Rattle.std.proofs.Common.{arith, rules}
use Rattle.std.specs.Prelude.{option_map}
use Rattle.std.specs.List.{AllByRecursion, list_all}
use Rattle.std.specs.Str.{bytes_eq}
use Rattle.std.proofs.lemmas.Bool.{both_ways, cases_Bool, and_parts, or_cases, or_parts}
use Rattle.std.proofs.lemmas.Bool.Decides.{nat_tests}
use Rattle.std.proofs.lemmas.List.{append-nil}
use Rattle.std.proofs.lemmas.Slice.Eq.{bytes_eq-Decides}
use Rattle.bx_bytes.specs.Pattern.{Piece, matches_any}
use Rattle.bx_bytes.specs.declared.fate.Fate.{Fate}
use Rattle.bx_bytes.specs.declared.fate.Fate.TheVariants.{Waits, Ends, Breaks}
use Rattle.bx_input.specs.Scan as scan
use Rattle.bx_input.specs.Table as table
use Rattle.bx_input.specs.Known.{fate}
use Rattle.bx_input.specs.Table.{Row, keys_of, move_rows, typing_rows, function_rows, escape_rows, control_rows, fixed_rows, sequences}
use Rattle.bx_keys.specs.declared.key.Key.{Key}
use Rattle.bx_input.specs.Scan.{State, Outside, Part, Passed, Known, passed, Step, step_to, with_front, ended, start, at_end, has_two_escapes, are_escapes}
use Rattle.bx_input_laws.specs.Laws.{given, longer_by, GivesRow, HasNone, HasNoReport, HasNoSize, is_report, is_size_sequence, OthersPass}
use Rattle.bx_input_laws.proofs.Firsts.{lacks_after_first, lacks_behind}
use Rattle.bx_input_laws.proofs.Known.{is_report_byte, known_breaks_at, known_breaks_behind, whole_says}
use Rattle.bx_input_laws.proofs.Runs.{in_pieces, one_more}
use Rattle.bx_input_laws.proofs.States.{IsSound, run_sound}

-- ---- ESC begins a sequence whatever waits

escape_first : (x y : ℕ) (rest : List ℕ) → has_two_escapes (x ∷ y ∷ rest) ≡ true → x ≡ 0x1B
escape_first x y rest e = let parts = and_parts (nat_eq x 0x1B) (nat_eq y 0x1B) e in grind (arith, nat_tests, parts.0)

-- two ESC and more: behind the first is more than an ESC
no_second : (x y : ℕ) (ys : List ℕ) → bytes_eq (x ∷ y ∷ ys) (0x1B ∷ 0x1B ∷ []) ≡ false → has_two_escapes (x ∷ y ∷ ys) ≡ true → bytes_eq (y ∷ ys) (0x1B ∷ []) ≡ false
no_second x y ys n e = elim (cases_Bool (bytes_eq (y ∷ ys) (0x1B ∷ []))) [
  | inl same ↦ absurd (
      let two : x ∷ y ∷ ys ≡ 0x1B ∷ 0x1B ∷ [] =
      ap (λ z. z ∷ y ∷ ys) (escape_first x y ys e) ∙ ap (λ zs. 0x1B ∷ zs) ((bytes_eq-Decides (y ∷ ys) (0x1B ∷ [])).0 same) in
      both_ways (bytes_eq (x ∷ y ∷ ys) (0x1B ∷ 0x1B ∷ [])) n ((bytes_eq-Decides (x ∷ y ∷ ys) (0x1B ∷ 0x1B ∷ [])).1 two))
  | inr other ↦ other
]

pub none_behind : (patterns : List (List Piece)) (xs ys : List ℕ) → HasNone patterns (xs ++ ys) → HasNone patterns ys
none_behind patterns xs ys h front middle back e = h (xs ++ front) middle back (ap (λ zs. xs ++ zs) e ∙ sym (append_assoc xs front (middle ++ back)))

-- nothing that is known
pub record IsPlain (bs : List ℕ) : Type 0 where
  pub no_sequence : HasNone sequences bs
  pub no_report : HasNoReport bs
  pub no_size : HasNoSize bs

plain_behind : (xs ys : List ℕ) → IsPlain (xs ++ ys) → IsPlain ys
plain_behind xs ys h = record {
  no_sequence = none_behind sequences xs ys h.no_sequence;
  no_report = λ front middle back e. h.no_report (xs ++ front) middle back (ap (λ zs. xs ++ zs) e ∙ sym (append_assoc xs front (middle ++ back)));
  no_size = λ front middle back e. h.no_size (xs ++ front) middle back (ap (λ zs. xs ++ zs) e ∙ sym (append_assoc xs front (middle ++ back)));
}

-- no part of them is whole
not_whole : (bs front middle back : List ℕ) → IsPlain bs → bs ≡ front ++ (middle ++ back) → fate middle ≡ Ends → ⊥
not_whole bs front middle back plain e h = elim (whole_says middle h) [
  | inl sequence ↦ both_ways (matches_any sequences middle) (plain.no_sequence front middle back e) sequence
  | inr (inl report) ↦ both_ways (is_report middle) (plain.no_report front middle back e) report
  | inr (inr size) ↦ both_ways (is_size_sequence middle) (plain.no_size front middle back e) size
]

pub passed_joined : (xs ys : List ℕ) → passed xs ++ passed ys ≡ passed (xs ++ ys)
passed_joined [] ys = refl
passed_joined (x ∷ xs) ys = ap (λ ps. Passed x ∷ ps) (passed_joined xs ys)

-- ---- whether or not the terminal's own erase character is DELETE

module _ (by_delete : Bool) where
  abbrev rows : List Row
  rows = table.rows by_delete

  abbrev row_of : List ℕ → Option Row
  row_of = table.row_of by_delete

  abbrev fresh : Fate → ℕ → Step
  fresh = scan.fresh by_delete

  abbrev broken : List ℕ → ℕ → Step
  broken = scan.broken by_delete

  abbrev plain_step : Fate → List ℕ → ℕ → Step
  plain_step = scan.plain_step by_delete

  abbrev behind_escape : List ℕ → ℕ → Step
  behind_escape = scan.behind_escape by_delete

  abbrev step_by : Fate → List ℕ → ℕ → Step
  step_by = scan.step_by by_delete

  abbrev step : State → ℕ → Step
  step = scan.step by_delete

  abbrev run : State → List ℕ → Step
  run = scan.run by_delete

  abbrev scanned : List ℕ → List Part
  scanned = scan.scanned by_delete

  -- a byte that begins nothing behind the second of two ESC either
  breaks_by : (t : Bool) (waiting : List ℕ) (b : ℕ) → has_two_escapes waiting ≡ t → (t ≡ true → fate (drop 1 waiting ++ b ∷ []) ≡ Breaks)
      → cond t (behind_escape (drop 1 waiting) b) (broken waiting b) ≡ broken waiting b
  breaks_by false waiting b e h = refl
  breaks_by true [] b e h = absurd (cc e)
  breaks_by true (x ∷ []) b e h = absurd (cc e)
  breaks_by true (x ∷ y ∷ rest) b e h =
      ap (λ f. with_front (Passed 0x1B ∷ []) (plain_step f (y ∷ rest) b)) (h refl)
      ∙ ap (λ z. with_front (passed (z ∷ y ∷ rest)) (fresh (fate (b ∷ [])) b)) (sym (escape_first x y rest e))

  breaks_off_all : (waiting : List ℕ) (b : ℕ) → (has_two_escapes waiting ≡ true → fate (drop 1 waiting ++ b ∷ []) ≡ Breaks)
      → step_by Breaks waiting b ≡ broken waiting b
  breaks_off_all waiting b h = breaks_by (has_two_escapes waiting) waiting b refl h

  -- an ESC behind ESC and more
  second_breaks : (x : ℕ) (xs : List ℕ) → bytes_eq (x ∷ xs) (0x1B ∷ 0x1B ∷ []) ≡ false → has_two_escapes (x ∷ xs) ≡ true → fate (xs ++ 0x1B ∷ []) ≡ Breaks
  second_breaks x [] n e = absurd (cc e)
  second_breaks x (y ∷ ys) n e = known_breaks_behind 0x1B y ys 0x1B refl refl (no_second x y ys n e)

  pub at_escape : (waiting : List ℕ) → fate waiting ≡ Waits → are_escapes waiting ≡ false
      → step (Outside waiting) 0x1B ≡ step_to (Outside (0x1B ∷ [])) (passed waiting)
  at_escape [] h n = refl
  at_escape (x ∷ xs) h n =
      let parts = or_parts (bytes_eq (x ∷ xs) (0x1B ∷ [])) (bytes_eq (x ∷ xs) (0x1B ∷ 0x1B ∷ [])) n in
      let breaks : fate (x ∷ (xs ++ 0x1B ∷ [])) ≡ Breaks = known_breaks_behind 0x1B x xs 0x1B refl refl parts.0 in
      ap (λ f. step_by f (x ∷ xs) 0x1B) breaks
      ∙ breaks_off_all (x ∷ xs) 0x1B (second_breaks x xs parts.1)
      ∙ ap (step_to (Outside (0x1B ∷ []))) (append-nil (passed (x ∷ xs)))

  -- ---- a sequence that comes whole

  -- the parts for the bytes after ESC, and after an ESC that waits and another
  abbrev pub EndsSo : Step → List ℕ → Type 0
  EndsSo s rest =
      (run (Outside (0x1B ∷ [])) rest ≡ s)
      × (run (Outside (0x1B ∷ 0x1B ∷ [])) rest ≡ with_front (Passed 0x1B ∷ []) s)

  -- ESC and the rest, by what waits before them
  from_escape : (s : Step) (rest waiting : List ℕ) → EndsSo s rest → fate waiting ≡ Waits
      → run (Outside waiting) (0x1B ∷ rest) ≡ with_front (passed waiting) s
  from_escape s rest waiting h waits = elim (cases_Bool (are_escapes waiting)) [
    | inl escapes ↦ elim (or_cases (bytes_eq waiting (0x1B ∷ [])) (bytes_eq waiting (0x1B ∷ 0x1B ∷ [])) escapes) [
      | inl one ↦ subst (λ w. run (Outside w) (0x1B ∷ rest) ≡ with_front (passed w) s) (sym ((bytes_eq-Decides waiting (0x1B ∷ [])).0 one)) (
          ap (with_front []) h.1)
      | inr two ↦ subst (λ w. run (Outside w) (0x1B ∷ rest) ≡ with_front (passed w) s) (sym ((bytes_eq-Decides waiting (0x1B ∷ 0x1B ∷ [])).0 two)) (
          ap (with_front (Passed 0x1B ∷ [])) h.1)
    ]
    | inr other ↦ (
        ap (λ (x : Step). with_front x.parts (run x.state rest)) (at_escape waiting waits other)
        ∙ ap (with_front (passed waiting)) h.0)
  ]

  -- after any input that ends outside a paste
  behind_input : (went : Step) (sequence bs waiting : List ℕ) → run (Outside waiting) sequence ≡ with_front (passed waiting) went
      → (run start bs).state ≡ Outside waiting
      → run start (bs ++ sequence) ≡ with_front (scanned bs) went
  behind_input went sequence bs waiting here at =
      let before : Step = run start bs in
      in_pieces by_delete start bs sequence
      ∙ ap (λ x. with_front before.parts (run x sequence)) at
      ∙ ap (with_front before.parts) here
      ∙ ap (step_to went.state) (sym (append_assoc before.parts (passed waiting) went.parts))
      ∙ ap (λ x. with_front (before.parts ++ at_end x) went) (sym at)

  pub whole_sequence : (s : Step) (rest bs waiting : List ℕ) → EndsSo s rest → (run start bs).state ≡ Outside waiting
      → run start (bs ++ 0x1B ∷ rest) ≡ with_front (scanned bs) s
  whole_sequence s rest bs waiting h at =
      let waits : fate waiting ≡ Waits = subst IsSound at (run_sound by_delete start bs refl) in
      behind_input s (0x1B ∷ rest) bs waiting (from_escape s rest waiting h waits) at

  -- ---- the rows of the table

  abbrev gives_row : Row → Step
  gives_row r = step_to start (Known (keys_of r) ∷ [])

  -- a sequence of ESC and the rest, and its keys; behind an ESC it is no row
  pub record IsRow (r : Row) : Type 0 where
    pub begins : r.sequence ≡ 0x1B ∷ drop 1 r.sequence
    pub ends : run (Outside (0x1B ∷ [])) (drop 1 r.sequence) ≡ gives_row r
    pub ends_behind : run (Outside (0x1B ∷ 0x1B ∷ [])) (drop 1 r.sequence) ≡ with_front (Passed 0x1B ∷ []) (gives_row r)
    pub alone : row_of (0x1B ∷ r.sequence) ≡ None

  row_given : (r : Row) → IsRow r → GivesRow by_delete r
  row_given r h bs waiting at =
      ap (λ xs. run start (bs ++ xs)) h.begins
      ∙ whole_sequence (gives_row r) (drop 1 r.sequence) bs waiting (h.ends, h.ends_behind) at
      ∙ ap (λ o. step_to start (given by_delete bs waiting r (longer_by waiting o))) (sym h.alone)

  all_rows : (rs : List Row) → AllByRecursion IsRow rs → AllByRecursion (GivesRow by_delete) rs
  all_rows [] h = tt
  all_rows (r ∷ rs) h = (row_given r h.0, all_rows rs h.1)

  all_joined : (P : Row → Type 0) (rs more : List Row) → AllByRecursion P rs → AllByRecursion P more → AllByRecursion P (rs ++ more)
  all_joined P [] more h g = g
  all_joined P (r ∷ rs) more h g = (h.0, all_joined P rs more h.1 g)

  are_move_rows : AllByRecursion IsRow move_rows
  are_move_rows = search rules

  are_typing_rows : AllByRecursion IsRow typing_rows
  are_typing_rows = search rules

  are_function_rows : AllByRecursion IsRow function_rows
  are_function_rows = search rules

  are_rows : AllByRecursion IsRow escape_rows
  are_rows =
      all_joined IsRow move_rows (typing_rows ++ function_rows) are_move_rows (all_joined IsRow typing_rows function_rows are_typing_rows are_function_rows)

  -- ---- the rows of one byte

  abbrev keys_by : Option Row → Option (List Key)
  keys_by o = option_map keys_of o

  pub record IsByteRow (r : Row) : Type 0 where
    pub byte : ℕ
    pub is_byte : r.sequence ≡ byte ∷ []
    pub ends : fate (byte ∷ []) ≡ Ends
    pub is_row : row_of (byte ∷ []) ≡ Some r

  -- the byte breaks what waits, and what waits behind an ESC
  abbrev IsApart : List ℕ → ℕ → Type 0
  IsApart [] b = Unit {0}
  IsApart (x ∷ xs) b = (fate (x ∷ (xs ++ b ∷ [])) ≡ Breaks) × (has_two_escapes (x ∷ xs) ≡ true → fate (xs ++ b ∷ []) ≡ Breaks)

  at_byte : (r : Row) (h : IsByteRow r) (waiting : List ℕ) → IsApart waiting h.byte
      → step (Outside waiting) h.byte ≡ with_front (passed waiting) (gives_row r)
  at_byte r h [] breaks = ap (λ f. step_by f [] h.byte) h.ends ∙ ap (λ o. ended (keys_by o)) h.is_row
  at_byte r h (x ∷ xs) breaks =
      ap (λ f. step_by f (x ∷ xs) h.byte) breaks.0
      ∙ breaks_off_all (x ∷ xs) h.byte breaks.1
      ∙ ap (λ f. with_front (passed (x ∷ xs)) (fresh f h.byte)) h.ends
      ∙ ap (λ o. with_front (passed (x ∷ xs)) (ended (keys_by o))) h.is_row

  byte_apart : (r : Row) (h : IsByteRow r) (bs waiting : List ℕ) → IsApart waiting h.byte → (run start bs).state ≡ Outside waiting
      → run start (bs ++ r.sequence) ≡ step_to start (given by_delete bs waiting r None)
  byte_apart r h bs waiting breaks at =
      let went : Step = gives_row r in
      let here : run (Outside waiting) (h.byte ∷ []) ≡ with_front (passed waiting) went =
      ap (λ (x : Step). step_to x.state (x.parts ++ [])) (at_byte r h waiting breaks)
      ∙ ap (step_to start) (append-nil (passed waiting ++ went.parts)) in
      ap (λ xs. run start (bs ++ xs)) h.is_byte ∙ behind_input went (h.byte ∷ []) bs waiting here at

  -- a byte that no sequence has but as its first
  pub record IsControlRow (r : Row) : Type 0 where
    pub is : IsByteRow r
    pub not_within : list_all (lacks_after_first is.byte) sequences ≡ true
    pub no_report : is_report_byte is.byte ≡ false
    pub alone : row_of (0x1B ∷ r.sequence) ≡ None

  control_apart : (b : ℕ) (waiting : List ℕ) → list_all (lacks_after_first b) sequences ≡ true → is_report_byte b ≡ false → IsApart waiting b
  control_apart b [] n r = tt
  control_apart b (x ∷ []) n r = (known_breaks_at x [] b n r, λ e. absurd (cc e))
  control_apart b (x ∷ y ∷ ys) n r = (known_breaks_at x (y ∷ ys) b n r, λ e. known_breaks_at y ys b n r)

  control_given : (r : Row) → IsControlRow r → GivesRow by_delete r
  control_given r h bs waiting at =
      byte_apart r h.is bs waiting (control_apart h.is.byte waiting h.not_within h.no_report) at
      ∙ ap (λ o. step_to start (given by_delete bs waiting r (longer_by waiting o))) (sym h.alone)

  control_row : (r : Row) (b : ℕ) → r.sequence ≡ b ∷ [] → list_all (lacks_after_first b) sequences ≡ true → is_report_byte b ≡ false → fate (b ∷ []) ≡ Ends
      → row_of (b ∷ []) ≡ Some r → row_of (0x1B ∷ r.sequence) ≡ None → IsControlRow r
  control_row r b e n other f is alone = record {
    is = record { byte = b; is_byte = e; ends = f; is_row = is };
    not_within = n;
    no_report = other;
    alone = alone;
  }

  -- a byte that a sequence has as its first, or behind an ESC alone
  pub record IsEraseRow (r : Row) : Type 0 where
    pub is : IsByteRow r
    pub not_within : list_all (lacks_behind 0x1B is.byte) sequences ≡ true
    pub no_report : is_report_byte is.byte ≡ false
    pub longer : Row
    pub longer_ends : fate (0x1B ∷ is.byte ∷ []) ≡ Ends
    pub is_longer : row_of (0x1B ∷ is.byte ∷ []) ≡ Some longer

  erase_apart : (b : ℕ) (waiting : List ℕ) → list_all (lacks_behind 0x1B b) sequences ≡ true → is_report_byte b ≡ false
      → are_escapes waiting ≡ false → IsApart waiting b
  erase_apart b [] n r other = tt
  erase_apart b (x ∷ []) n r other =
      (known_breaks_behind 0x1B x [] b n r (or_parts (bytes_eq (x ∷ []) (0x1B ∷ [])) (bytes_eq (x ∷ []) (0x1B ∷ 0x1B ∷ [])) other).0, λ e. absurd (cc e))
  erase_apart b (x ∷ y ∷ ys) n r other =
      let parts = or_parts (bytes_eq (x ∷ y ∷ ys) (0x1B ∷ [])) (bytes_eq (x ∷ y ∷ ys) (0x1B ∷ 0x1B ∷ [])) other in
      (known_breaks_behind 0x1B x (y ∷ ys) b n r parts.0, λ e. known_breaks_behind 0x1B y ys b n r (no_second x y ys parts.1 e))

  -- behind one ESC, or two
  escape_ends : (r : Row) (h : IsEraseRow r) (waiting : List ℕ) → are_escapes waiting ≡ true
      → step (Outside waiting) h.is.byte ≡ with_front (passed (drop 1 waiting)) (gives_row h.longer)
  escape_ends r h waiting escapes =
      let b : ℕ = h.is.byte in
      elim (or_cases (bytes_eq waiting (0x1B ∷ [])) (bytes_eq waiting (0x1B ∷ 0x1B ∷ [])) escapes) [
        | inl one ↦ subst (λ w. step (Outside w) b ≡ with_front (passed (drop 1 w)) (gives_row h.longer))
            (sym ((bytes_eq-Decides waiting (0x1B ∷ [])).0 one)) (
            ap (λ f. step_by f (0x1B ∷ []) b) h.longer_ends
            ∙ ap (λ o. ended (keys_by o)) h.is_longer)
        | inr two ↦ subst (λ w. step (Outside w) b ≡ with_front (passed (drop 1 w)) (gives_row h.longer))
            (sym ((bytes_eq-Decides waiting (0x1B ∷ 0x1B ∷ [])).0 two)) (
            ap (λ f. step_by f (0x1B ∷ 0x1B ∷ []) b) (known_breaks_behind 0x1B 0x1B (0x1B ∷ []) b h.not_within h.no_report refl)
            ∙ ap (λ f. with_front (Passed 0x1B ∷ []) (plain_step f (0x1B ∷ []) b)) h.longer_ends
            ∙ ap (λ o. with_front (Passed 0x1B ∷ []) (ended (keys_by o))) h.is_longer)
      ]

  erase_by : (t : Bool) (r : Row) (h : IsEraseRow r) (bs waiting : List ℕ) → are_escapes waiting ≡ t
      → (run start bs).state ≡ Outside waiting
      → run start (bs ++ r.sequence) ≡ step_to start (given by_delete bs waiting r (cond t (Some h.longer) None))
  erase_by false r h bs waiting other at = byte_apart r h.is bs waiting (erase_apart h.is.byte waiting h.not_within h.no_report other) at
  erase_by true r h bs waiting same at =
      let before : Step = run start bs in
      let b : ℕ = h.is.byte in
      ap (λ xs. run start (bs ++ xs)) h.is.is_byte
      ∙ one_more by_delete start bs b
      ∙ ap (λ s. step_to (step s b).state (before.parts ++ (step s b).parts)) at
      ∙ ap (λ (x : Step). step_to x.state (before.parts ++ x.parts)) (escape_ends r h waiting same)
      ∙ ap (step_to start) (sym (append_assoc before.parts (passed (drop 1 waiting)) (Known (keys_of h.longer) ∷ [])))

  erase_given : (r : Row) → IsEraseRow r → GivesRow by_delete r
  erase_given r h bs waiting at =
      let longer : row_of (0x1B ∷ r.sequence) ≡ Some h.longer = ap (λ xs. row_of (0x1B ∷ xs)) h.is.is_byte ∙ h.is_longer in
      erase_by (are_escapes waiting) r h bs waiting refl at
      ∙ ap (λ o. step_to start (given by_delete bs waiting r (longer_by waiting o))) (sym longer)

  erase_row_is : (r longer : Row) (b : ℕ) → r.sequence ≡ b ∷ [] → fate (b ∷ []) ≡ Ends → row_of (b ∷ []) ≡ Some r
      → list_all (lacks_behind 0x1B b) sequences ≡ true → is_report_byte b ≡ false → fate (0x1B ∷ b ∷ []) ≡ Ends → row_of (0x1B ∷ b ∷ []) ≡ Some longer
      → IsEraseRow r
  erase_row_is r longer b e f is n other g is_longer = record {
    is = record { byte = b; is_byte = e; ends = f; is_row = is };
    not_within = n;
    no_report = other;
    longer = longer;
    longer_ends = g;
    is_longer = is_longer;
  }

  are_control_rows : AllByRecursion (GivesRow by_delete) control_rows
  are_control_rows = (control_given _ (control_row _ 0x00 refl refl refl refl refl refl), (control_given _ (control_row _ 0x01 refl refl refl refl refl refl), (control_given _ (control_row _ 0x02 refl refl refl refl refl refl), (control_given _ (control_row _ 0x03 refl refl refl refl refl refl), (control_given _ (control_row _ 0x06 refl refl refl refl refl refl), (control_given _ (control_row _ 0x07 refl refl refl refl refl refl), (control_given _ (control_row _ 0x0B refl refl refl refl refl refl), (control_given _ (control_row _ 0x0F refl refl refl refl refl refl), (control_given _ (control_row _ 0x12 refl refl refl refl refl refl), (control_given _ (control_row _ 0x14 refl refl refl refl refl refl), (control_given _ (control_row _ 0x16 refl refl refl refl refl refl), (control_given _ (control_row _ 0x17 refl refl refl refl refl refl), (control_given _ (control_row _ 0x18 refl refl refl refl refl refl), (control_given _ (control_row _ 0x19 refl refl refl refl refl refl), (control_given _ (control_row _ 0x1A refl refl refl refl refl refl), (control_given _ (control_row _ 0x1C refl refl refl refl refl refl), (control_given _ (control_row _ 0x1F refl refl refl refl refl refl), (control_given _ (control_row _ 0x0D refl refl refl refl refl refl), (erase_given _ (erase_row_is _ _ 0x7F refl refl refl refl refl refl refl), tt)))))))))))))))))))

  pub rows_given : AllByRecursion (GivesRow by_delete) rows
  rows_given = (
    erase_given _ (erase_row_is _ _ 0x08 refl refl refl refl refl refl refl),
    all_joined (GivesRow by_delete) control_rows escape_rows are_control_rows (all_rows escape_rows are_rows),
  )

  -- ---- all else

  -- the rest passes on, whatever waits before it
  abbrev Passes : List ℕ → Type 0
  Passes bs = (w : List ℕ) → IsPlain (w ++ bs) → (run (Outside w) bs).parts ++ at_end (run (Outside w) bs).state ≡ passed (w ++ bs)

  -- all that passes on for a step and more bytes
  abbrev all_parts : Step → List ℕ → List Part
  all_parts s bs = s.parts ++ ((run s.state bs).parts ++ at_end (run s.state bs).state)

  -- the bytes that wait and one that is read afresh
  fresh_passes : (f : Fate) (waiting : List ℕ) (b : ℕ) (bs : List ℕ) → fate (b ∷ []) ≡ f → IsPlain (waiting ++ b ∷ bs) → Passes bs
      → all_parts (with_front (passed waiting) (fresh f b)) bs ≡ passed (waiting ++ b ∷ bs)
  fresh_passes Waits waiting b bs h plain rest =
      ap (λ xs. xs ++ ((run (Outside (b ∷ [])) bs).parts ++ at_end (run (Outside (b ∷ [])) bs).state)) (append-nil (passed waiting))
      ∙ ap (λ xs. passed waiting ++ xs) (rest (b ∷ []) (plain_behind waiting (b ∷ bs) plain))
      ∙ passed_joined waiting (b ∷ bs)
  fresh_passes Ends waiting b bs h plain rest = absurd (not_whole (waiting ++ b ∷ bs) waiting (b ∷ []) bs plain refl h)
  fresh_passes Breaks waiting b bs h plain rest =
      let behind : IsPlain bs = plain_behind (b ∷ []) bs (plain_behind waiting (b ∷ bs) plain) in
      ap (λ xs. (passed waiting ++ Passed b ∷ []) ++ xs) (rest [] behind)
      ∙ append_assoc (passed waiting) (Passed b ∷ []) (passed bs)
      ∙ passed_joined waiting (b ∷ bs)

  plain_passes : (f : Fate) (waiting : List ℕ) (b : ℕ) (bs : List ℕ) → fate (waiting ++ b ∷ []) ≡ f → IsPlain (waiting ++ b ∷ bs) → Passes bs
      → all_parts (plain_step f waiting b) bs ≡ passed (waiting ++ b ∷ bs)
  plain_passes Waits waiting b bs h plain rest =
      let joined : (waiting ++ b ∷ []) ++ bs ≡ waiting ++ b ∷ bs = append_assoc waiting (b ∷ []) bs in
      rest (waiting ++ b ∷ []) (subst IsPlain (sym joined) plain) ∙ ap passed joined
  plain_passes Ends waiting b bs h plain rest =
      absurd (not_whole (waiting ++ b ∷ bs) [] (waiting ++ b ∷ []) bs plain (sym (append_assoc waiting (b ∷ []) bs)) h)
  plain_passes Breaks waiting b bs h plain rest = fresh_passes (fate (b ∷ [])) waiting b bs refl plain rest

  breaks_pass : (t : Bool) (waiting : List ℕ) (b : ℕ) (bs : List ℕ) → has_two_escapes waiting ≡ t → fate (waiting ++ b ∷ []) ≡ Breaks
      → IsPlain (waiting ++ b ∷ bs) → Passes bs
      → all_parts (cond t (behind_escape (drop 1 waiting) b) (broken waiting b)) bs ≡ passed (waiting ++ b ∷ bs)
  breaks_pass false waiting b bs e h plain rest = plain_passes Breaks waiting b bs h plain rest
  breaks_pass true [] b bs e h plain rest = absurd (cc e)
  breaks_pass true (x ∷ []) b bs e h plain rest = absurd (cc e)
  breaks_pass true (x ∷ y ∷ ys) b bs e h plain rest =
      ap (λ xs. Passed 0x1B ∷ xs) (plain_passes (fate (y ∷ (ys ++ b ∷ []))) (y ∷ ys) b bs refl (plain_behind (x ∷ []) (y ∷ (ys ++ b ∷ bs)) plain) rest)
      ∙ ap (λ z. passed (z ∷ y ∷ (ys ++ b ∷ bs))) (sym (escape_first x y ys e))

  pub pass_by : (f : Fate) (waiting : List ℕ) (b : ℕ) (bs : List ℕ) → fate (waiting ++ b ∷ []) ≡ f → IsPlain (waiting ++ b ∷ bs) → Passes bs
      → all_parts (step_by f waiting b) bs ≡ passed (waiting ++ b ∷ bs)
  pass_by Waits waiting b bs h plain rest = plain_passes Waits waiting b bs h plain rest
  pass_by Ends waiting b bs h plain rest = plain_passes Ends waiting b bs h plain rest
  pass_by Breaks waiting b bs h plain rest = breaks_pass (has_two_escapes waiting) waiting b bs refl h plain rest

  pass_all : (waiting bs : List ℕ) → IsPlain (waiting ++ bs) → (run (Outside waiting) bs).parts ++ at_end (run (Outside waiting) bs).state ≡ passed (waiting ++ bs)
  pass_all waiting [] plain = ap passed (sym (append-nil waiting))
  pass_all waiting (b ∷ bs) plain =
      let first : Step = step (Outside waiting) b in
      append_assoc first.parts (run first.state bs).parts (at_end (run first.state bs).state)
      ∙ pass_by (fate (waiting ++ b ∷ [])) waiting b bs refl plain (λ w h. pass_all w bs h)

  pub others_pass : OthersPass by_delete
  others_pass bs none no_report no_size = pass_all [] bs (record { no_sequence = none; no_report = no_report; no_size = no_size })
