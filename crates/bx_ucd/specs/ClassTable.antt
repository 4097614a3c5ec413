-- The two-stage table of classes: a code's block of 256 has a number, and the numbered blocks have the classes.
use Rattle.std.specs.Prelude.{ℕ, ◌/◌, ◌%◌, [], slice_index_or, nat_lt, if◌then◌else◌}
use Rattle.bx_ucd.specs.declared.class.Class.{Class}
use Rattle.bx_ucd.specs.declared.class.Class.TheVariants.{L}
use Rattle.bx_ucd.specs.declared.class_table.ClassTable.{ClassTable}

-- the class at the code's index in its numbered block, and L past the last code point
abbrev pub class_in_table : ClassTable → ℕ → Class
class_in_table table code =
    if nat_lt code 0x110000 then slice_index_or (slice_index_or table.stored.items (slice_index_or table.numbers.items (code / 256) 0) []) (code % 256) L else L
