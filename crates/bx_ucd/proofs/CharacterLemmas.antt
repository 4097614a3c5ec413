-- Lemmas on the fifteen fields of a character.
use Rattle.std.proofs.Common.{◌≡◌, ◌≢◌, ◌==◌, ℕ, false, true, List, [], ◌∷◌, length, get_or, refl, ap, sym, ◌∙◌, arith, eq-eqb, ne_eqb, ◌+◌, drop, length-drop}
use Rattle.std.specs.Prelude.{Ok, Err, None, count_by}
use Rattle.std.proofs.lemmas.List.{get_or-drop, get_or-map, length-map}
use Rattle.std.proofs.lemmas.List.Splits.{length-slice_split}
use Rattle.bx_ucd.specs.CharactersFile.{character_entry, decomposition_entry, semicolon_parts, words}
use Rattle.bx_ucd.specs.Lines.{fields, trimmed}
use Rattle.bx_ucd.specs.declared.error.Cause.TheVariants.{BadLine}

-- the first part, four others, a sixth and the parts of the rest
pub parts_counted : (first sixth rest : List ℕ) (parts more later : List (List ℕ)) (n : ℕ) → parts ≡ first ∷ more → drop 4 more ≡ later
    → later ≡ sixth ∷ semicolon_parts rest → n ≡ count_by (λ b. b == 0x3B) rest → length parts ≡ 7 + n
parts_counted first sixth rest parts more later n one skipped six counts =
    omega (arith, ap length one, length-drop 4 more, ap length skipped, ap length six, length-slice_split (λ b. b == 0x3B) rest, counts)

pub parts_at : (first sixth : List ℕ) (parts more later rest : List (List ℕ)) → parts ≡ first ∷ more → drop 4 more ≡ later → later ≡ sixth ∷ rest
    → (get_or parts 0 [] ≡ first) × (get_or parts 5 [] ≡ sixth)
parts_at first sixth parts more later rest one skipped six = (
  ap (λ ps. get_or ps 0 []) one,
  ap (λ ps. get_or ps 5 []) one ∙ sym (get_or-drop 4 more 0 []) ∙ ap (λ ps. get_or ps 0 []) (skipped ∙ six),
)

-- a line of another number of fields is refused
pub not_fifteen : (text : List ℕ) → length (semicolon_parts text) ≢ 15 → character_entry (fields text) ≡ Err BadLine
not_fifteen text other =
    let e : (length (fields text) == 15) ≡ false = ne_eqb _ _ (λ is. other (sym (length-map (semicolon_parts text) trimmed) ∙ is)) in
    rw e refl

-- a line of fifteen fields
pub fifteen : (text first sixth : List ℕ) → length (semicolon_parts text) ≡ 15 → get_or (semicolon_parts text) 0 [] ≡ first
    → get_or (semicolon_parts text) 5 [] ≡ sixth → character_entry (fields text) ≡ decomposition_entry (trimmed first) (words (trimmed sixth))
fifteen text first sixth count one six =
    let e : (length (fields text) == 15) ≡ true = eq-eqb _ _ (length-map (semicolon_parts text) trimmed ∙ count) in
    let at_one : get_or (fields text) 0 [] ≡ trimmed first = get_or-map trimmed (semicolon_parts text) 0 [] [] (omega arith) ∙ ap trimmed one in
    let at_six : get_or (fields text) 5 [] ≡ trimmed sixth = get_or-map trimmed (semicolon_parts text) 5 [] [] (omega arith) ∙ ap trimmed six in
    rw (e, at_one, at_six) refl

-- without exactly two words there is no entry
pub not_two : (character : List ℕ) (ws : List (List ℕ)) → length ws ≢ 2 → decomposition_entry character ws ≡ Ok None
not_two character [] other = refl
not_two character (tag ∷ []) other = refl
not_two character (tag ∷ letter ∷ []) other = absurd (other refl)
not_two character (tag ∷ letter ∷ more ∷ ws) other = refl
