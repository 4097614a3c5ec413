-- Whether the first separator of some characters is CR LF, read character by character. `ucd` is what the tables say, `cs` are
-- the codes of the characters that are not read yet.
use Rattle.std.specs.Prelude.{ℕ, ◌==◌, Bool, true, false, ◌&&◌, List, [], ◌∷◌}
use Rattle.bx_ucd.specs.Data.{Data}
use Rattle.bx_text.specs.index.Paragraphs.{begins_with_lf, is_separator}
use Rattle.bx_document.specs.declared.first_separator.Seen.{Seen}
use Rattle.bx_document.specs.declared.first_separator.Seen.TheVariants.{Cr, Known, Nothing}

-- the first separator of some characters is a CR (13) with an LF after it
abbrev pub crlf_first : Data → List ℕ → Bool
crlf_first ucd [] = false
crlf_first ucd (c ∷ cs) = elim (is_separator (ucd.class c)) [ true ↦ (c == 13) && begins_with_lf ucd cs | false ↦ crlf_first ucd cs ]

-- the first separator of a text is CR LF, by what its characters read so far tell (`Seen` of `src/first_separator.rt`), and by
-- those that are left
abbrev pub crlf_from : Data → Seen → List ℕ → Bool
crlf_from ucd Nothing cs = crlf_first ucd cs
crlf_from ucd Cr cs = begins_with_lf ucd cs
crlf_from ucd (Known answer) cs = answer
