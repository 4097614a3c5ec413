-- What is known outside a paste: the sequences of the table, a paste's start, mouse reports, and sizes. `bs` are bytes.
use Rattle.std.specs.Prelude.{ℕ, Bool, List, drop, Option, option_map, if◌then◌else◌}
use Rattle.bx_bytes.specs.Pattern.{fate_in}
use Rattle.bx_bytes.specs.declared.fate.Fate.{Fate}
use Rattle.bx_keys.specs.declared.key.Key.{Key}
use Rattle.bx_input.specs.Mouse.{opens_report, report_of, report_fate, reported}
use Rattle.bx_input.specs.Sizes.{opens_size, size_of, size_fate, sized}
use Rattle.bx_input.specs.Table.{keys_of, sequences, row_of}

-- whether bytes are a known sequence (Ends), begin one (Waits) or neither (Breaks)
abbrev pub fate : List ℕ → Fate
fate bs =
    if opens_report bs then report_fate (drop 3 bs)
    else if opens_size bs then size_fate (drop 4 bs)
    else fate_in sequences bs

-- the keys of a known sequence; None of a paste's start
abbrev pub known_keys : Bool → List ℕ → Option (List Key)
known_keys erases_by_delete bs =
    if opens_report bs then option_map reported (report_of (drop 3 bs))
    else if opens_size bs then option_map sized (size_of (drop 4 bs))
    else option_map keys_of (row_of erases_by_delete bs)
