-- The keys of mouse reports and of sizes, whatever came before.
use Rattle.std.proofs.Common.{◌≡◌, ℕ, ◌≤◌, Bool, true, ◌&&◌, List, [], ◌∷◌, ◌++◌, length, nat_le, Some, None, ap, sym, ◌∙◌, append_assoc, arith, length-append}
use Rattle.std.specs.Prelude.{option_map}
use Rattle.std.specs.List.{list_all}
use Rattle.std.specs.Str.Parse.{digits_value}
use Rattle.std.proofs.lemmas.Bool.{and_from, and_parts, cond-true, leb-true}
use Rattle.std.proofs.lemmas.Bool.Decides.{nat_tests}
use Rattle.std.proofs.lemmas.List.{append-nil}
use Rattle.std.proofs.lemmas.List.Folds.{list_all-append}
use Rattle.bx_bytes.specs.declared.fate.Fate.TheVariants.{Waits}
use Rattle.bx_keys.specs.Keys.{is_side_in_digits, final_byte, before_final}
use Rattle.bx_keys.specs.declared.key.Key.{Key}
use Rattle.bx_keys.specs.declared.key.Key.TheVariants.{Size}
use Rattle.bx_input.specs.Scan as scan
use Rattle.bx_input.specs.Scan.{State, Outside, Passed, Known, Step, step_to, with_front, ended, start}
use Rattle.bx_input.specs.Mouse.{Report, is_number_byte, begins_report, report_of, report_fate, reported}
use Rattle.bx_input.specs.Sizes.{size_of_numbers, size_of, size_fate, sized}
use Rattle.bx_input.specs.Table.{csi}
use Rattle.bx_input.proofs.Reports.{waits_more, ends_so, side_is}
use Rattle.bx_input.proofs.SizeFields.{of_last}
use Rattle.bx_input_laws.specs.Laws.{AddsReportKeys, AddsSizeKeys, keys}
use Rattle.bx_input_laws.proofs.Passing.{EndsSo, whole_sequence}
use Rattle.bx_input_laws.proofs.ReadParts.{known_last, whole_keys}
use Rattle.bx_input_laws.proofs.ReportFields.{both_all, first_field, has_last, last_apart, last_field, numbers_begin}
use Rattle.bx_input_laws.proofs.SizeFates.{size_waits, size_ends}

begins_front : (xs ys : List ℕ) → begins_report (xs ++ ys) ≡ true → begins_report xs ≡ true
begins_front xs ys h =
    let parts = and_parts (nat_le (length (xs ++ ys)) 11) (list_all is_number_byte (xs ++ ys)) h in
    let few : length (xs ++ ys) ≤ 11 = leb-true (length (xs ++ ys)) 11 parts.0 in
    let fewer : length xs ≤ 11 = omega (arith, few, length-append xs ys) in
    let short : nat_le (length xs) 11 ≡ true = grind (arith, nat_tests, fewer) in
    let all = and_parts (list_all is_number_byte xs) (list_all is_number_byte ys) (sym (list_all-append is_number_byte xs ys) ∙ parts.1) in
    and_from (nat_le (length xs) 11) (list_all is_number_byte xs) short all.0

-- ---- whether or not the terminal's own erase character is DELETE

module _ (by_delete : Bool) where
  abbrev run : State → List ℕ → Step
  run = scan.run by_delete

  abbrev gives : List Key → Step
  gives ks = step_to start (Known ks ∷ [])

  -- a sequence of ESC and the rest, which gives these keys
  keys_behind : (ks : List Key) (rest bs waiting : List ℕ) → EndsSo by_delete (gives ks) rest → (run start bs).state ≡ Outside waiting
      → keys by_delete (bs ++ 0x1B ∷ rest) ≡ keys by_delete bs ++ ks
  keys_behind ks rest bs waiting h at =
      whole_keys by_delete (bs ++ 0x1B ∷ rest) (scan.scanned by_delete bs ++ Known ks ∷ []) (whole_sequence by_delete (gives ks) rest bs waiting h at)
      ∙ known_last (scan.scanned by_delete bs) ks

  -- ---- behind CSI <

  abbrev reports : List ℕ → State
  reports ns = Outside (csi (0x3C ∷ ns))

  report_waits : (more ns front : List ℕ) → begins_report (front ++ ns) ≡ true → run (reports front) (ns ++ more) ≡ run (reports (front ++ ns)) more
  report_waits more [] front h = ap (λ xs. run (reports xs) more) (sym (append-nil front))
  report_waits more (b ∷ ns) front h =
      let joined : (front ++ b ∷ []) ++ ns ≡ front ++ b ∷ ns = append_assoc front (b ∷ []) ns in
      let begins : begins_report ((front ++ b ∷ []) ++ ns) ≡ true = ap begins_report joined ∙ h in
      let waits : report_fate (front ++ b ∷ []) ≡ Waits = waits_more front b (begins_front (front ++ b ∷ []) ns begins) in
      let waiting : List ℕ = csi (0x3C ∷ front) in
      ap (λ f. with_front (scan.step_by by_delete f waiting b).parts (run (scan.step_by by_delete f waiting b).state (ns ++ more))) waits
      ∙ report_waits more ns (front ++ b ∷ []) begins
      ∙ ap (λ xs. run (reports xs) more) joined

  report_last : (ns : List ℕ) (last : ℕ) (r : Report) → report_of (ns ++ last ∷ []) ≡ Some r → run (reports ns) (last ∷ []) ≡ gives (reported r)
  report_last ns last r h =
      let waiting : List ℕ = csi (0x3C ∷ ns) in
      ap (λ f. with_front (scan.step_by by_delete f waiting last).parts (run (scan.step_by by_delete f waiting last).state [])) (ends_so (ns ++ last ∷ []) r h)
      ∙ ap (λ o. with_front (ended (option_map reported o)).parts (run (ended (option_map reported o)).state [])) h

  report_ends : (ps : List ℕ) (r : Report) → report_of ps ≡ Some r → run (reports []) ps ≡ gives (reported r)
  report_ends ps r h =
      let same : before_final ps ++ final_byte ps ∷ [] ≡ ps = last_apart ps (has_last ps r h) in
      ap (run (reports [])) (sym same)
      ∙ report_waits (final_byte ps ∷ []) (before_final ps) [] (numbers_begin ps r h)
      ∙ report_last (before_final ps) (final_byte ps) r (ap report_of same ∙ h)

  pub reports_add_keys : AddsReportKeys by_delete
  reports_add_keys bs waiting ps r at h =
      let ends : run (reports []) ps ≡ gives (reported r) = report_ends ps r h in
      keys_behind (reported r) (0x5B ∷ 0x3C ∷ ps) bs waiting (ends, ap (with_front (Passed 0x1B ∷ [])) ends) at

  -- ---- behind CSI 8 ;

  abbrev sizes : List ℕ → State
  sizes ns = Outside (csi (0x38 ∷ 0x3B ∷ ns))

  sides_wait : (more ns front : List ℕ) → begins_report (front ++ ns) ≡ true → run (sizes front) (ns ++ more) ≡ run (sizes (front ++ ns)) more
  sides_wait more [] front h = ap (λ xs. run (sizes xs) more) (sym (append-nil front))
  sides_wait more (b ∷ ns) front h =
      let joined : (front ++ b ∷ []) ++ ns ≡ front ++ b ∷ ns = append_assoc front (b ∷ []) ns in
      let begins : begins_report ((front ++ b ∷ []) ++ ns) ≡ true = ap begins_report joined ∙ h in
      let waits : size_fate (front ++ b ∷ []) ≡ Waits = size_waits front b (begins_front (front ++ b ∷ []) ns begins) in
      let waiting : List ℕ = csi (0x38 ∷ 0x3B ∷ front) in
      ap (λ f. with_front (scan.step_by by_delete f waiting b).parts (run (scan.step_by by_delete f waiting b).state (ns ++ more))) waits
      ∙ sides_wait more ns (front ++ b ∷ []) begins
      ∙ ap (λ xs. run (sizes xs) more) joined

  size_last : (ns : List ℕ) (key : Key) → size_of (ns ++ 0x74 ∷ []) ≡ Some key → run (sizes ns) (0x74 ∷ []) ≡ gives (sized key)
  size_last ns key h =
      let waiting : List ℕ = csi (0x38 ∷ 0x3B ∷ ns) in
      ap (λ f. with_front (scan.step_by by_delete f waiting 0x74).parts (run (scan.step_by by_delete f waiting 0x74).state [])) (size_ends (ns ++ 0x74 ∷ []) key h)
      ∙ ap (λ o. with_front (ended (option_map sized o)).parts (run (ended (option_map sized o)).state [])) h

  -- rows and columns
  module _ (h w : List ℕ) (is_h : is_side_in_digits h ≡ true) (is_w : is_side_in_digits w ≡ true) where
    begins : begins_report (h ++ 0x3B ∷ w) ≡ true
    begins =
        let rows = side_is h is_h in
        let columns = side_is w is_w in
        let few : length (h ++ 0x3B ∷ w) ≤ 11 = omega (arith, length-append h (0x3B ∷ w), rows.few, columns.few) in
        let short : nat_le (length (h ++ 0x3B ∷ w)) 11 ≡ true = grind (arith, nat_tests, few) in
        and_from (nat_le (length (h ++ 0x3B ∷ w)) 11) (list_all is_number_byte (h ++ 0x3B ∷ w)) short (both_all h w rows.bytes columns.bytes)

    abbrev told : Key
    told = Size (digits_value 10 h) (digits_value 10 w)

    whole : size_of ((h ++ 0x3B ∷ w) ++ 0x74 ∷ []) ≡ Some told
    whole =
        of_last (h ++ 0x3B ∷ w) 0x74
        ∙ ap size_of_numbers (first_field h w (side_is h is_h).digits ∙ ap (λ fields. h ∷ fields) (last_field w (side_is w is_w).digits))
        ∙ cond-true (is_side_in_digits h && is_side_in_digits w) (Some told) None (and_from (is_side_in_digits h) (is_side_in_digits w) is_h is_w)

    size_run : run (sizes []) ((h ++ 0x3B ∷ w) ++ 0x74 ∷ []) ≡ gives (sized told)
    size_run = sides_wait (0x74 ∷ []) (h ++ 0x3B ∷ w) [] begins ∙ size_last (h ++ 0x3B ∷ w) told whole

  pub sizes_add_keys : AddsSizeKeys by_delete
  sizes_add_keys bs waiting h w at is_h is_w =
      let key : Key = Size (digits_value 10 h) (digits_value 10 w) in
      let ends : run (sizes []) ((h ++ 0x3B ∷ w) ++ 0x74 ∷ []) ≡ gives (sized key) = size_run h w is_h is_w in
      keys_behind (sized key) (0x5B ∷ 0x38 ∷ 0x3B ∷ ((h ++ 0x3B ∷ w) ++ 0x74 ∷ [])) bs waiting (ends, ap (with_front (Passed 0x1B ∷ [])) ends) at
