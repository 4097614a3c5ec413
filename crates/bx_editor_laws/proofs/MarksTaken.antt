-- A match ends behind all that is attached to its last letter.
use Rattle.std.proofs.Common.{◌≡◌, ◌+◌, ◌-◌, ◌∙◌, ℕ, zero, suc, Bool, true, false, List, [], ◌∷◌, ◌++◌, length, drop, chars, refl, sym}
use Rattle.std.proofs.Common.{ap, subst, arith}
use Rattle.std.specs.Prelude.{encode_utf8}
use Rattle.std.proofs.lemmas.List.{drop-drop}
use Rattle.std.proofs.lemmas.Str.{IsUtf8-drop}
use Rattle.bx_ucd.specs.Data.{Data}
use Rattle.bx_find.specs.declared.letters.Reading.TheVariants.{Close}
use Rattle.bx_find.specs.Letters.{letters_of}
use Rattle.bx_find.specs.Matches.{behind_letters, is_attached}
use Rattle.bx_find.proofs.Nearest.{text_at}
use Rattle.bx_find.proofs.Offsets.{widths, widths-more}
use Rattle.bx_find.proofs.SpansOf.{ends_here, ends_with, goes_on}
use Rattle.bx_editor.specs.Search.{sought}
use Rattle.bx_editor_laws.specs.ReplaceLaws.{MatchTakesMarks}

module _ (d : Data) where
  -- the first of some characters, if there is one, goes with no letter before it
  abbrev IsBare : List ℕ → Type 0
  IsBare [] = Unit {0}
  IsBare (c ∷ cs) = is_attached d c ≡ false

  first-bare : (rest : List ℕ) (c : ℕ) (cs : List ℕ) → IsBare rest → rest ≡ c ∷ cs → is_attached d c ≡ false
  first-bare [] c cs bare is = absurd (cc is)
  first-bare (b ∷ bs) c cs bare is = let same : b ≡ c = cc is in subst (λ x. is_attached d x ≡ false) same bare

  -- the end is behind some characters, and none behind it is attached
  record Cuts (at : ℕ) (cs : List ℕ) (end : ℕ) : Type 0 where
    pub front : List ℕ
    pub rest : List ℕ
    pub whole : cs ≡ front ++ rest
    pub offset : end ≡ at + widths front
    pub bare : IsBare rest

  cuts-here : (at : ℕ) (cs : List ℕ) (end : ℕ) → end ≡ at → IsBare cs → Cuts at cs end
  cuts-here at cs end is bare = record { front = []; rest = cs; whole = refl; offset = omega (arith, is); bare = bare }

  cuts-more : (at c end : ℕ) (cs : List ℕ) → Cuts (at + length (encode_utf8 c)) cs end → Cuts at (c ∷ cs) end
  cuts-more at c end cs h =
      record {
        front = c ∷ h.front;
        rest = h.rest;
        whole = ap (λ ds. c ∷ ds) h.whole;
        offset = omega (arith, h.offset, widths-more c h.front);
        bare = h.bare;
      }

  -- where the end is behind the next character
  cuts-on : (n at c : ℕ) (cs : List ℕ) → (n ≡ 0 → is_attached d c ≡ true)
      → ((m : ℕ) → Cuts (at + length (encode_utf8 c)) cs (behind_letters d Close m (at + length (encode_utf8 c)) cs))
      → Cuts at (c ∷ cs) (behind_letters d Close n at (c ∷ cs))
  cuts-on n at c cs attached more =
      let left = n - length (letters_of d Close c) in
      subst (Cuts at (c ∷ cs)) (sym (goes_on d Close n at c cs attached))
      (cuts-more at c (behind_letters d Close left (at + length (encode_utf8 c)) cs) cs (more left))

  cuts-by : (n at c : ℕ) (cs : List ℕ) (attached : Bool) → is_attached d c ≡ attached
      → ((m : ℕ) → Cuts (at + length (encode_utf8 c)) cs (behind_letters d Close m (at + length (encode_utf8 c)) cs))
      → Cuts at (c ∷ cs) (behind_letters d Close n at (c ∷ cs))
  cuts-by n at c cs true is more = cuts-on n at c cs (λ none. is) more
  cuts-by zero at c cs false is more = cuts-here at (c ∷ cs) (behind_letters d Close 0 at (c ∷ cs)) (ends_here d Close 0 at c cs refl is) is
  cuts-by (suc n) at c cs false is more = cuts-on (suc n) at c cs (λ none. absurd (omega (arith, none))) more

  cuts : (n at : ℕ) (cs : List ℕ) → Cuts at cs (behind_letters d Close n at cs)
  cuts n at [] = cuts-here at [] (behind_letters d Close n at []) (ends_with d Close n at) tt
  cuts n at (c ∷ cs) = cuts-by n at c cs (is_attached d c) refl (λ m. cuts m (at + length (encode_utf8 c)) cs)

pub match-takes-marks : MatchTakesMarks
match-takes-marks d e s utf8 is c cs there =
    let text = e.content.text in
    let from = drop s.0 text in
    let cut = cuts d (length (sought d e)) s.0 (chars from) in
    let behind : chars (drop (widths cut.front) from) ≡ cut.rest =
    text_at from cut.front cut.rest (widths cut.front) (IsUtf8-drop text s.0 utf8 is.0.0) cut.whole refl in
    let stop : s.1 ≡ s.0 + widths cut.front = is.1 ∙ cut.offset in
    let same : drop (widths cut.front) from ≡ drop s.1 text = drop-drop (widths cut.front) s.0 text ∙ ap (λ n. drop n text) (sym stop) in
    first-bare d cut.rest c cs cut.bare (sym behind ∙ ap chars same ∙ there)
