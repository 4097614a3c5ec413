-- Control strings (ECMA-48, 5.6), which terminals send as answers: ESC and P, X, ], ^ or _, at most 4,096 bytes, and BEL or ESC and a
-- backslash. They give nothing. `held` are the bytes behind the ESC, `b` is a byte.
use Rattle.std.specs.Prelude.{ℕ, ◌-◌, Bool, false, ◌&&◌, ◌||◌, nat_le, ◌==◌, List, length, slice_index_or}
use Rattle.bx_input.specs.Scan.{State, Outside, Within, are_escapes}

-- the byte that says which control string it is
abbrev pub is_introducer : ℕ → Bool
is_introducer b = (b == 0x50 || b == 0x58) || ((b == 0x5D || b == 0x5E) || b == 0x5F)

-- an ESC waits outside a paste, alone or behind another
abbrev pub awaits_introducer : State → Bool
awaits_introducer (Outside waiting) = are_escapes waiting
awaits_introducer (Within waiting after_return) = false

-- the byte begins a control string
abbrev pub begins_string : State → ℕ → Bool
begins_string s b = awaits_introducer s && is_introducer b

-- the last byte is ESC
abbrev pub ends_by_escape : List ℕ → Bool
ends_by_escape bs = slice_index_or bs (length bs - 1) 0 == 0x1B

-- the byte ends the string
abbrev pub ends_string : List ℕ → ℕ → Bool
ends_string held b = b == 0x07 || (b == 0x5C && ends_by_escape held)

-- the string may go on: it has the introducer and at most 4,096 bytes, or an ESC more
abbrev pub is_short_string : List ℕ → Bool
is_short_string held = nat_le (length held) 4097 || (nat_le (length held) 4098 && ends_by_escape held)
