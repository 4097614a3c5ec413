-- The definitions, computed on small texts.
use Rattle.std.proofs.Common.{◌≡◌, ℕ, ◌<◌, List, [], ◌∷◌, All, IsUtf8, None, length, refl, sym, subst, map, cond, eqb, ◌||◌, inl, inr, arith}
use Rattle.std.proofs.lemmas.List.Elements.{All-weaker}
use Rattle.std.specs.Str.{chars}
use Rattle.std.specs.Char.{encode_utf8}
use Rattle.bx_ucd.specs.Data.{Data}
use Rattle.bx_ucd.specs.declared.class.Class.{Class}
use Rattle.bx_ucd.specs.declared.class.Class.TheVariants.{B, L}
use Rattle.bx_ucd.specs.declared.joining.Joining.TheVariants.{U}
use Rattle.bx_text.specs.index.Laws.{BodiesHaveNone, EachEnds, EndWithSeparators, IsSeparator, JoinToText, KeepCrLf, KeepEachCrLf, MatchSpans, joined}
use Rattle.bx_text.specs.index.Paragraphs.{Paragraph, paragraphs, lengths, spans, paragraph_of}
use Rattle.bx_text.specs.index.Walk.{separators}
use Rattle.bx_text.specs.index.Scan.{HasNone}

abbrev class : ℕ → Class
class c = cond (eqb c 10 || eqb c 13 || eqb c 0x2029) B L

abbrev ucd : Data
ucd = record { class = class; bracket = λ _. None; mirror = λ _. None; joining = λ _. U; form = λ _ _. None }

abbrev line_ends : List ℕ
line_ends = 49 ∷ 10 ∷ 50 ∷ 13 ∷ 10 ∷ 51 ∷ []

-- 1 LF 2 CR LF 3
spans_between_line_ends : spans (lengths ucd line_ends) ≡ (0, 1) ∷ (2, 3) ∷ (5, 6) ∷ []
unfolding chars encode_utf8
spans_between_line_ends = refl

cr_lf_is_one_separator : separators (lengths ucd line_ends) ≡ 1 ∷ 2 ∷ 0 ∷ []
unfolding chars encode_utf8
cr_lf_is_one_separator = refl

paragraphs_of_offsets : map (paragraph_of (lengths ucd line_ends)) (0 ∷ 1 ∷ 2 ∷ 3 ∷ 4 ∷ 5 ∷ 6 ∷ []) ≡ 0 ∷ 0 ∷ 1 ∷ 1 ∷ 1 ∷ 2 ∷ 2 ∷ []
unfolding chars encode_utf8
paragraphs_of_offsets = refl

-- the same after CR was inserted before the first LF
abbrev cr_put_in : List ℕ
cr_put_in = 49 ∷ 13 ∷ 10 ∷ 50 ∷ 13 ∷ 10 ∷ 51 ∷ []

spans_after_cr : spans (lengths ucd cr_put_in) ≡ (0, 1) ∷ (3, 4) ∷ (6, 7) ∷ []
unfolding chars encode_utf8
spans_after_cr = refl

separators_after_cr : separators (lengths ucd cr_put_in) ≡ 2 ∷ 2 ∷ 0 ∷ []
unfolding chars encode_utf8
separators_after_cr = refl

empty_text_is_one_paragraph : spans (lengths ucd []) ≡ (0, 0) ∷ []
unfolding chars encode_utf8
empty_text_is_one_paragraph = refl

separator_of_three_bytes : paragraphs ucd (97 ∷ 0xE2 ∷ 0x80 ∷ 0xA9 ∷ [])
    ≡ record { body = 97 ∷ []; separator = 0xE2 ∷ 0x80 ∷ 0xA9 ∷ [] } ∷ record { body = []; separator = [] } ∷ []
unfolding chars encode_utf8
separator_of_three_bytes = refl

lf_cr_are_two_separators : separators (lengths ucd (10 ∷ 13 ∷ 13 ∷ 10 ∷ [])) ≡ 1 ∷ 1 ∷ 2 ∷ 0 ∷ []
unfolding chars encode_utf8
lf_cr_are_two_separators = refl

-- ---- rows that follow from each law alone

line_ends_utf8 : IsUtf8 line_ends
unfolding encode_utf8
line_ends_utf8 = (line_ends, (refl, refl))

some_paragraph : (ps : List Paragraph) → joined ps ≡ line_ends → 0 < length ps
some_paragraph [] e = absurd cc
some_paragraph (p ∷ ps) e = omega arith

-- a text that is not empty has a paragraph, whatever separates
text_has_paragraph : JoinToText → (separates : Data) → 0 < length (paragraphs separates line_ends)
text_has_paragraph law separates = some_paragraph (paragraphs separates line_ends) (law separates line_ends line_ends_utf8)

abbrev cr_lf : List ℕ
cr_lf = 13 ∷ 10 ∷ []

cr_lf_utf8 : IsUtf8 cr_lf
unfolding encode_utf8
cr_lf_utf8 = (cr_lf, (refl, refl))

abbrev empty_before : List ℕ → Paragraph
empty_before separator = record { body = []; separator = separator }

-- CR LF is not cut in two, whatever separates
cr_lf_is_whole : KeepEachCrLf → (separates : Data)
    → paragraphs separates cr_lf ≡ empty_before (13 ∷ []) ∷ empty_before (10 ∷ []) ∷ empty_before [] ∷ [] → ⊥
unfolding encode_utf8
cr_lf_is_whole law separates e =
    let kept : KeepCrLf (empty_before (13 ∷ []) ∷ empty_before (10 ∷ []) ∷ empty_before [] ∷ []) = subst KeepCrLf e (law separates cr_lf cr_lf_utf8) in
    kept.0 refl refl refl

-- where no character is a separator
abbrev letters : Data
letters = record { class = λ _. L; bracket = λ _. None; mirror = λ _. None; joining = λ _. U; form = λ _ _. None }

no_separator : (bs : List ℕ) → IsSeparator letters bs → ⊥
no_separator bs (inl s) = let e = s.1 in cc
no_separator bs (inr s) = let e = s.0 in cc

one_alone : (ps : List Paragraph) → EachEnds letters ps → length ps ≡ 1
one_alone [] h = absurd h
one_alone (p ∷ []) h = refl
one_alone (p ∷ q ∷ ps) h = absurd (no_separator p.separator h.0)

-- there each text is one paragraph
one_paragraph : EndWithSeparators → (text : List ℕ) → length (paragraphs letters text) ≡ 1
one_paragraph law text = one_alone (paragraphs letters text) (law letters text)

-- the bodies between the line ends are 1, 2 and 3
bodies_between : MatchSpans → map (λ (p : Paragraph). p.body) (paragraphs ucd line_ends) ≡ (49 ∷ []) ∷ (50 ∷ []) ∷ (51 ∷ []) ∷ []
unfolding chars encode_utf8
bodies_between law = sym (law ucd line_ends line_ends_utf8)

none_in_whole : (bs : List ℕ) → HasNone ucd (chars bs) → bs ≡ line_ends → ⊥
unfolding chars
none_in_whole bs h e = let all : HasNone ucd (chars line_ends) = subst (λ xs. HasNone ucd (chars xs)) e h in let second = all.1.0 in cc

-- none of them is the whole text
no_whole_body : BodiesHaveNone → All (λ (p : Paragraph). p.body ≡ line_ends → ⊥) (paragraphs ucd line_ends)
no_whole_body law =
    All-weaker (λ (p : Paragraph). HasNone ucd (chars p.body)) (λ (p : Paragraph). p.body ≡ line_ends → ⊥) (λ p h. none_in_whole p.body h)
    (paragraphs ucd line_ends) (law ucd line_ends line_ends_utf8)
