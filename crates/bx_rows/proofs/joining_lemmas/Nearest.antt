-- The nearest character that is not transparent.
use Rattle.std.proofs.Common.{◌≡◌, ℕ, List, [], ◌∷◌, ◌++◌, Option, map, length, reverse, chars, ap, ap₂, sym, ◌∙◌, arith, length-append}
use Rattle.std.specs.List.{zip}
use Rattle.std.proofs.lemmas.List.{length-map, map-append, nil_from_length, reverse-append}
use Rattle.bx_ucd.specs.Data.{Data}
use Rattle.bx_rows.specs.joining.Joining.{Joiner, joiners}
use Rattle.bx_rows.proofs.joining_lemmas.Pairs.{zip-append}
use Rattle.bx_rows.proofs.joining_lemmas.TextForms.{no_chars}

pub no_joiners : (ucd : Data) (text : List ℕ) (levels : List (Option ℕ)) → length text ≡ 0 → joiners ucd text levels ≡ []
no_joiners ucd text levels e = ap (λ cs. zip (map ucd.joining cs) levels) (nil_from_length (chars text) (no_chars text e))

pub last_count : (text before : List ℕ) (c : ℕ) (levels earlier : List (Option ℕ)) (level : Option ℕ) → chars text ≡ chars before ++ c ∷ []
    → levels ≡ earlier ++ level ∷ [] → length levels ≡ length (chars text) → length earlier ≡ length (chars before)
last_count text before c levels earlier level e f h =
    omega (arith, ap length e, ap length f, length-append (chars before) (c ∷ []), length-append earlier (level ∷ []), h)

pub last_joiners : (ucd : Data) (text before : List ℕ) (c : ℕ) (levels earlier : List (Option ℕ)) (level : Option ℕ) → chars text ≡ chars before ++ c ∷ []
    → levels ≡ earlier ++ level ∷ [] → length levels ≡ length (chars text)
    → reverse (joiners ucd text levels) ≡ (ucd.joining c, level) ∷ reverse (joiners ucd before earlier)
last_joiners ucd text before c levels earlier level e f h =
    let own : Joiner = (ucd.joining c, level) in
    let count = last_count text before c levels earlier level e f h in
    let pairs : joiners ucd text levels ≡ joiners ucd before earlier ++ own ∷ [] =
    ap₂ (λ cs ls. zip (map ucd.joining cs) ls) e f
    ∙ ap (λ xs. zip xs (earlier ++ level ∷ [])) (map-append ucd.joining (chars before) (c ∷ []))
    ∙ zip-append (map ucd.joining (chars before)) (ucd.joining c ∷ []) earlier (level ∷ []) (length-map (chars before) ucd.joining ∙ sym count) in
    ap reverse pairs ∙ reverse-append (joiners ucd before earlier) (own ∷ [])
