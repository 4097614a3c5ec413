-- Small texts and their places, by computation.
use Rattle.std.proofs.Common.{◌≡◌, ℕ, List, [], ◌∷◌, refl}
use Rattle.std.specs.Prelude.{encode_utf8_all}
use Rattle.unicode_segmentation.proofs.Computing.{unicode_segmentation}
use Rattle.bx_ucd.specs.SmallTables.{small}
use Rattle.bx_view.specs.Places.{text_places}

abbrev of : List ℕ → List ℕ
of cs = text_places small (encode_utf8_all cs)

-- no text has one place
no_text : of [] ≡ 0 ∷ []
unfolding unicode_segmentation
no_text = refl

-- a, CR LF, b: the separator is one piece
around_crlf : of (97 ∷ 13 ∷ 10 ∷ 98 ∷ []) ≡ 0 ∷ 1 ∷ 3 ∷ 4 ∷ []
unfolding unicode_segmentation
around_crlf = refl

-- e with an acute, in three bytes, and LF: the last place is after the separator
behind_lf : of (101 ∷ 0x301 ∷ 10 ∷ []) ≡ 0 ∷ 3 ∷ 4 ∷ []
unfolding unicode_segmentation
behind_lf = refl

-- two LF: an empty paragraph has one place
empty_paragraph : of (10 ∷ 10 ∷ 97 ∷ []) ≡ 0 ∷ 1 ∷ 2 ∷ 3 ∷ []
unfolding unicode_segmentation
empty_paragraph = refl
