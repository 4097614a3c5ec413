-- The first bytes of paragraph separators in UTF-8, at which alone a scan looks closer. `ucd` is Unicode's data.
use Rattle.std.specs.Prelude.{◌≡◌, ℕ, Bool, true, false, List, get_or, encode_utf8}
use Rattle.std.specs.Char.{IsScalar}
use Rattle.bx_ucd.specs.Data.{Data}
use Rattle.bx_text.specs.index.Paragraphs.{is_separator}

-- the first byte of a character
abbrev pub lead_of : ℕ → ℕ
lead_of c = get_or (encode_utf8 c) 0 0

-- the flag of each separator's first byte is set
abbrev pub CoversSeparators : Data → List Bool → Type 0
CoversSeparators ucd flags = (c : ℕ) → IsScalar c → is_separator (ucd.class c) ≡ true → get_or flags (lead_of c) false ≡ true
