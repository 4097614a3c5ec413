-- Indents, line ends and lines that are put over others, computed.
use Rattle.std.proofs.Common.{◌≡◌, true, false, [], ◌∷◌, refl}
use Rattle.std.specs.Prelude.{codes}
use Rattle.std.specs.Str.{chars}
use Rattle.unicode_segmentation.proofs.Computing.{unicode_segmentation}
use Rattle.unicode_width.proofs.Computing.{unicode_width}
use Rattle.bx_common.specs.declared.base.Base.TheVariants.{Auto}
use Rattle.bx_ucd.specs.SmallTables.{small}
use Rattle.bx_document.specs.Document.{after_insertion_before, at_opening, place_behind_insertion}
use Rattle.bx_document.specs.Line.{ends_with_separator, indent, is_line_empty}

-- blanks and tabs at the line's start alone, of the place's line, and as many as stand before the place
indents : indent small (codes "\t  a") 4 ∷ indent small (codes "a  b") 4 ∷ indent small (codes "   ") 3 ∷ indent small (codes " a\n  b") 6 ∷ indent small (codes "    ab") 2
    ∷ indent small (codes "    ab") 0 ∷ []
    ≡ codes "\t  " ∷ [] ∷ codes "   " ∷ codes "  " ∷ codes "  " ∷ [] ∷ []
unfolding unicode_segmentation
indents = refl

-- a no-break space indents nothing
no_other_blank : indent small (0xc2 ∷ 0xa0 ∷ 0x61 ∷ []) 3 ≡ []
unfolding unicode_segmentation
no_other_blank = refl

line_ends : ends_with_separator small (codes "ab\n") ∷ ends_with_separator small (codes "ab\r\n") ∷ ends_with_separator small (0x61 ∷ 0xe2 ∷ 0x80 ∷ 0xa9 ∷ [])
    ∷ ends_with_separator small (codes "a\nb") ∷ ends_with_separator small [] ∷ []
    ≡ true ∷ true ∷ true ∷ false ∷ false ∷ []
unfolding chars
line_ends = refl

empty_lines : is_line_empty small (codes "a\n\nb") 0 ∷ is_line_empty small (codes "a\n\nb") 2 ∷ is_line_empty small (codes "a\n") 2 ∷ is_line_empty small [] 0 ∷ []
    ≡ false ∷ true ∷ true ∷ true ∷ []
unfolding unicode_segmentation
empty_lines = refl

-- a line that is put over the cursor's: the cursor stays at its character
over_a_line : (after_insertion_before small (at_opening (codes "ab\ncd\n") 20 Auto) 0 (codes "ab\n") 1).content.text ≡ codes "ab\nab\ncd\n"
over_a_line = refl

the_cursor_goes_along : place_behind_insertion small (at_opening (codes "ab\ncd\n") 20 Auto) 0 (codes "ab\n") 1 ≡ 4
unfolding unicode_segmentation unicode_width
the_cursor_goes_along = refl
