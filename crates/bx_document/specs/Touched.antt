-- The paragraphs that an edit touches, as they are after the edit: they determine the place after it, so only they are laid out.
-- `ucd` is what the tables say.
use Rattle.std.specs.Prelude.{ℕ, ◌+◌, ◌-◌, List, ◌++◌, slice_range}
use Rattle.bx_ucd.specs.Data.{Data}
use Rattle.bx_text.specs.index.Paragraphs.{lengths, paragraph_of}
use Rattle.bx_view.specs.Numbers.{start_at}

-- the start of the paragraph with the byte before an offset (its separator may be a CR that the edit makes CR LF); 0 for offset 0
abbrev pub touched_start : Data → List ℕ → ℕ → ℕ
touched_start ucd text start = start_at ucd text (paragraph_of (lengths ucd text) (start - 1))

-- the end of the paragraph that an offset falls in, its separator included
abbrev pub touched_stop : Data → List ℕ → ℕ → ℕ
touched_stop ucd text stop = start_at ucd text (paragraph_of (lengths ucd text) stop + 1)

-- the touched paragraphs' bytes after an edit that replaces the bytes from `start` to `stop` with `new`
abbrev pub touched : Data → List ℕ → ℕ → ℕ → List ℕ → List ℕ
touched ucd text start stop new =
    slice_range text (touched_start ucd text start) start ++ new ++ slice_range text stop (touched_stop ucd text stop)
