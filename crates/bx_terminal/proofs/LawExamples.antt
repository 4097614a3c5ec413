-- A row that follows from each law alone.
use Rattle.std.proofs.Common.{◌≡◌, ◌≢◌, ℕ, true, false, List, [], ◌∷◌, ◌++◌, take, slice_index_or, Option, Some, None, refl, ap, sym, ◌∙◌, arith}
use Rattle.std.specs.Prelude.{codes, flat_map}
use Rattle.std.specs.Str.{chars, IsUtf8}
use Rattle.unicode_width.proofs.Computing.{unicode_width}
use Rattle.std.proofs.lemmas.Bool.{both_ways}
use Rattle.bx_bytes.specs.Utf8.{are_printable}
use Rattle.bx_grid.specs.Columns.{Unknown, Glyph, blank}
use Rattle.bx_terminal.specs.Cutting.{Run, Sequence, cutting, run_token}
use Rattle.bx_grid.specs.Glyphs.{ShareWholeGlyphs, DifferInWholeGlyphs}
use Rattle.bx_terminal.specs.Laws.{ReadsTokens, TokensMakeBytes, RunsAreLongest, are_runs_apart, token_bytes}
use Rattle.bx_grid.specs.Picture.{IsIdle, PictureState}
use Rattle.bx_grid.specs.Grid.{IsPicture}
use Rattle.bx_grid.specs.Terminal.{Terminal, reads, after_resize}
use Rattle.bx_terminal.proofs.Examples.{four, g, wide, wide_row, wide_rows}

-- ---- reading

abbrev pub InAnyPieces : Type 0
InAnyPieces = (t : Terminal) (xs ys : List ℕ) → reads t (xs ++ ys) ≡ reads (reads t xs) ys

abbrev moving : List ℕ → Option (ℕ × ℕ) → Terminal
moving half_read position = record {
  height = 1;
  width = 2;
  columns = blank ∷ blank ∷ [];
  position = position;
  negative = Some false;
  run = [];
  half_read = half_read;
}

-- a move of the cursor that comes in two pieces
pub of_in_any_pieces : InAnyPieces → (t : Terminal) (xs : List ℕ) → reads t xs ≡ moving (codes "\u{1b}[1;2") None
    → reads t (xs ++ codes "H") ≡ moving [] (Some (0, 1))
of_in_any_pieces law t xs e = law t xs (codes "H") ∙ ap (λ s. reads s (codes "H")) e

abbrev pub WindowKeeps : Type 0
WindowKeeps = (t : Terminal) (height width : ℕ) → ((after_resize t height width).run ≡ t.run) × ((after_resize t height width).half_read ≡ t.half_read)

-- the window changes within a sequence
pub of_window_keeps : WindowKeeps → (t : Terminal) → t.half_read ≡ codes "\u{1b}[1;" → (after_resize t 24 80).half_read ≡ codes "\u{1b}[1;"
of_window_keeps law t e = (law t 24 80).1 ∙ e

abbrev pub TextGoesOn : Type 0
TextGoesOn = (t : Terminal) (text : List ℕ) → IsUtf8 text → are_printable text ≡ true → t.half_read ≡ [] → reads t text ≡ record t { run = t.run ++ text }

-- a character of three bytes after a letter
pub of_text_goes_on : TextGoesOn → (t : Terminal) → t.half_read ≡ [] → t.run ≡ codes "a" → (reads t wide).run ≡ codes "a" ++ wide
unfolding chars lib.Utf8.encode
of_text_goes_on law t none e = ap (λ (s : Terminal). s.run) (law t wide (0x4E16 ∷ [], (refl, refl)) refl none) ∙ ap (λ run. run ++ wide) e

-- ---- pictures

abbrev pub ShareWhole : Type 0
ShareWhole = (p q : PictureState) → IsPicture p → IsPicture q → p.height ≡ q.height → p.width ≡ q.width → ShareWholeGlyphs p.columns q.columns

abbrev pub DifferInWhole : Type 0
DifferInWhole = (p q : PictureState) → IsPicture p → IsPicture q → p.height ≡ q.height → p.width ≡ q.width
    → DifferInWholeGlyphs p.columns q.columns × DifferInWholeGlyphs q.columns p.columns

wide_picture : IsPicture (four wide_row)
wide_picture = record {
  grid = record {
    sized = record { low = omega arith; high = omega arith; narrow = omega arith; wide = omega arith; each = refl };
    rows = wide_rows;
  };
  row_inside = omega arith;
  column_inside = omega arith;
}

-- where the first column of a wide glyph stays, its second stays with it
pub of_sharing : ShareWhole → (q : PictureState) → IsPicture q → 1 ≡ q.height → 4 ≡ q.width → Glyph wide 2 0 false ≡ slice_index_or q.columns 0 Unknown
    → take 2 q.columns ≡ Glyph wide 2 0 false ∷ Glyph wide 2 1 false ∷ []
unfolding chars unicode_width
of_sharing law q is h w same = (law (four wide_row) q wide_picture is h w 0 (omega arith) same).1.all

-- if a letter replaces its first column, the second changes too
pub of_differing : DifferInWhole → (q : PictureState) → IsPicture q → 1 ≡ q.height → 4 ≡ q.width → slice_index_or q.columns 0 Unknown ≡ g 0x61
    → Glyph wide 2 1 false ≢ slice_index_or q.columns 1 Unknown
of_differing law q is h w other =
    (law (four wide_row) q wide_picture is h w).0 0 1 (omega arith) (omega arith, omega arith)
    (λ e. let same : Glyph wide 2 0 false ≡ g 0x61 = e ∙ other in cc same)

-- ---- tokens

-- a sequence is read as its token is done
pub of_reads_tokens : ReadsTokens → (t : Terminal) → IsIdle t → reads t (codes "\u{1b}[7m") ≡ record t { negative = Some true; run = []; half_read = [] }
unfolding chars
of_reads_tokens law t idle = law t (codes "\u{1b}[7m") idle

-- no byte is lost
pub of_tokens_make_bytes : TokensMakeBytes → (bs : List ℕ) → (cutting bs).tokens ≡ Sequence (codes "\u{1b}[H") ∷ [] → (cutting bs).run ≡ codes "ab"
    → (cutting bs).rest ≡ [] → codes "\u{1b}[Hab" ≡ bs
of_tokens_make_bytes law bs tokens run rest =
    ap (λ ts. flat_map token_bytes ts ++ codes "ab") (sym tokens)
    ∙ ap (λ xs. flat_map token_bytes (cutting bs).tokens ++ xs) (ap (λ xs. xs ++ []) (sym run) ∙ ap (λ xs. (cutting bs).run ++ xs) (sym rest))
    ∙ law bs

-- letters that follow one another are one run
pub of_runs_are_longest : RunsAreLongest → (bs : List ℕ) → (cutting bs).tokens ≡ Run (codes "a") ∷ [] → (cutting bs).run ≢ codes "b"
of_runs_are_longest law bs tokens run =
    both_ways _ refl (ap (λ ts. are_runs_apart (ts ++ run_token (codes "b"))) (sym tokens)
    ∙ ap (λ xs. are_runs_apart ((cutting bs).tokens ++ run_token xs)) (sym run) ∙ law bs)
