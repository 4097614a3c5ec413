-- Each level of a paragraph has the direction of its character's type after overrides.
use Rattle.std.proofs.Common.{◌≡◌, ◌≤◌, ◌∙◌, ℕ, zero, suc, List, [], ◌∷◌, length, get_or, map, set, replicate, sym, is_some, Option, Some, None}
use Rattle.bx_ucd.specs.Data.{Data}
use Rattle.bx_ucd.specs.declared.class.Class.{Class}
use Rattle.bx_levels.specs.declared.embedding.entry.ExplicitChar.{ExplicitChar}
use Rattle.bx_levels.specs.embedding.Explicit.{explicit_levels, start}
use Rattle.bx_levels.specs.embedding.ParagraphLevel.{base_level}
use Rattle.bx_levels.specs.embedding.Sequences.{RunSequence, sequences}
use Rattle.bx_levels.specs.resolve.Levels.{chars_at, levels_in, paragraph_levels, type_of, types_at, with_levels, with_sequences}
use Rattle.bx_levels.specs.resolve.Laws.{HasDirection, TypesKeepDirection}
use Rattle.bx_levels.proofs.resolve_lemmas.Directions.{HaveDirections, sequence_directions}
use Rattle.bx_levels.proofs.resolve_lemmas.KeptLevels.{base_low, kept_each, paragraph_kept}

-- a level that is written so far
abbrev Agrees : Class → Option ℕ → Type 0
Agrees t None = Unit {0}
Agrees t (Some level) = HasDirection t (Some level)

abbrev Agree : List (Option ExplicitChar) → List (Option ℕ) → Type 0
Agree [] each = Unit {0}
Agree (k ∷ ks) [] = Unit {0}
Agree (k ∷ ks) (l ∷ ls) = Agrees (type_of k) l × Agree ks ls

agree_set : (kept : List (Option ExplicitChar)) (each : List (Option ℕ)) (p level : ℕ) → HasDirection (type_of (get_or kept p None)) (Some level)
    → Agree kept each → Agree kept (set each p (Some level))
agree_set [] each p level d h = tt
agree_set (k ∷ ks) [] p level d h = tt
agree_set (k ∷ ks) (l ∷ ls) zero level d h = (d, h.1)
agree_set (k ∷ ks) (l ∷ ls) (suc p) level d h = (h.0, agree_set ks ls p level d h.1)

agree_with : (kept : List (Option ExplicitChar)) (ps ls : List ℕ) (each : List (Option ℕ)) → HaveDirections (types_at kept ps) ls
    → Agree kept each → Agree kept (with_levels ps ls each)
agree_with kept [] ls each d h = h
agree_with kept (p ∷ ps) [] each d h = h
agree_with kept (p ∷ ps) (l ∷ ls) each d h = agree_with kept ps ls (set each p (Some l)) d.1 (agree_set kept each p l d.0 h)

none_disagrees : (kept : List (Option ExplicitChar)) (n : ℕ) → Agree kept (replicate n None)
none_disagrees [] n = tt
none_disagrees (k ∷ ks) zero = tt
none_disagrees (k ∷ ks) (suc n) = (tt, none_disagrees ks n)

agree_after : (ucd : Data) (chars : List ℕ) (kept : List (Option ExplicitChar)) (ss : List RunSequence) (each : List (Option ℕ))
    → Agree kept each → Agree kept (with_sequences ucd chars kept ss each)
agree_after ucd chars kept [] each h = h
agree_after ucd chars kept (s ∷ ss) each h = agree_after ucd chars kept ss (with_levels s.indexes (levels_in ucd chars kept s) each)
    (agree_with kept s.indexes (levels_in ucd chars kept s) each
    (sequence_directions ucd s.level s.sos s.eos (chars_at chars s.indexes) (types_at kept s.indexes)) h)

one_at : (k : Option ExplicitChar) (l : Option ℕ) → is_some l ≡ is_some k → Agrees (type_of k) l → HasDirection (type_of k) l
one_at None l e h = tt
one_at (Some c) None e h = absurd (cc)
one_at (Some c) (Some level) e h = h

each_at : (kept : List (Option ExplicitChar)) (each : List (Option ℕ)) (i : ℕ) → map is_some each ≡ map is_some kept → Agree kept each
    → HasDirection (type_of (get_or kept i None)) (get_or each i None)
each_at [] each i e h = tt
each_at (k ∷ ks) [] i e h = absurd (cc)
each_at (k ∷ ks) (l ∷ ls) zero e h = let first : is_some l ≡ is_some k = cc in one_at k l first h.0
each_at (k ∷ ks) (l ∷ ls) (suc i) e h = let rest : map is_some ls ≡ map is_some ks = cc in each_at ks ls i rest h.1

paragraph_directions : (ucd : Data) (level : ℕ) (chars : List ℕ) (i : ℕ) → level ≤ 1
    → HasDirection (type_of (get_or (explicit_levels level (map ucd.class chars)) i None)) (get_or (paragraph_levels ucd level chars) i None)
paragraph_directions ucd level chars i low =
    let cs : List Class = map ucd.class chars in
    let kept : List (Option ExplicitChar) = explicit_levels level cs in
    each_at kept (paragraph_levels ucd level chars) i (paragraph_kept ucd level chars low ∙ sym (kept_each (start level) cs))
    (agree_after ucd chars kept (sequences level cs kept) (replicate (length chars) None) (none_disagrees kept (length chars)))

pub types_keep_direction : TypesKeepDirection
types_keep_direction ucd base chars i =
    let cs : List Class = map ucd.class chars in
    paragraph_directions ucd (base_level base cs) chars i (base_low base cs)
