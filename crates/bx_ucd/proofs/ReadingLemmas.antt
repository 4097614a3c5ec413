-- Lemmas on the order in which files are refused.
use Rattle.std.proofs.Common.{◌≡◌, ◌⊎◌, ℕ, List, Option, Some, None, inl, inr, refl, sym, ap, subst, ◌∙◌}
use Rattle.std.specs.Prelude.{MatchOption}
use Rattle.std.specs.Option.{option_or}
use Rattle.bx_ucd.specs.Lines.{TellsRefusal, first_refusal, no_memory_in}
use Rattle.bx_ucd.specs.ClassFile.{class_lines}
use Rattle.bx_ucd.specs.BracketFile.{bracket_lines}
use Rattle.bx_ucd.specs.MirroringFile.{mirror_lines}
use Rattle.bx_ucd.specs.JoiningFile.{joining_lines}
use Rattle.bx_ucd.specs.CharactersFile.{character_lines}
use Rattle.bx_ucd.specs.Reading.{JoiningTexts, NoMemoryAfter, TellsJoining, bidi_refusal, joining_refusal, refusal}
use Rattle.bx_ucd.specs.declared.error.UcdError.{UcdError}
use Rattle.bx_ucd.specs.declared.error.UcdFile.TheVariants.{Classes, Brackets, Mirroring, Joining, Characters}

after_none : (first second : Option UcdError) → first ≡ None → option_or first second ≡ second
after_none first second e = ap (λ o. option_or o second) e

before_any : (first second : Option UcdError) (e : UcdError) → first ≡ Some e → option_or first second ≡ Some e
before_any first second e is = ap (λ o. option_or o second) is

-- ---- the two files of joined letters

-- neither is refused
pub both_accepted : (texts : JoiningTexts) → first_refusal Joining (joining_lines texts.0) ≡ None → first_refusal Characters (character_lines texts.1) ≡ None
    → joining_refusal texts ≡ None
both_accepted texts one two = after_none _ _ one ∙ two

-- the first is refused, or memory is wanting while it is read
pub first_told : (texts : JoiningTexts) (e : UcdError) → TellsRefusal Joining e (first_refusal Joining (joining_lines texts.0)) → TellsJoining texts e
first_told texts e (inl is) = inl (inl (before_any _ _ e is))
first_told texts e (inr none) = inl (inr none)

-- the second is, once the first is accepted
pub second_told : (texts : JoiningTexts) (e : UcdError) → first_refusal Joining (joining_lines texts.0) ≡ None
    → TellsRefusal Characters e (first_refusal Characters (character_lines texts.1)) → TellsJoining texts e
second_told texts e one (inl is) = inl (inl (after_none _ _ one ∙ is))
second_told texts e one (inr none) = inr (none, one)

-- ---- all files

three_accepted : (classes brackets mirroring : List ℕ) → first_refusal Classes (class_lines classes) ≡ None
    → first_refusal Brackets (bracket_lines brackets) ≡ None → first_refusal Mirroring (mirror_lines mirroring) ≡ None
    → bidi_refusal classes brackets mirroring ≡ None
three_accepted classes brackets mirroring a b c = after_none _ _ a ∙ after_none _ _ b ∙ c

-- the error of reading the two files, if they are given, is one of reading all
pub joined_told : (classes brackets mirroring : List ℕ) (texts : Option JoiningTexts) (e : UcdError) → first_refusal Classes (class_lines classes) ≡ None
    → first_refusal Brackets (bracket_lines brackets) ≡ None → first_refusal Mirroring (mirror_lines mirroring) ≡ None
    → MatchOption texts (e ≡ no_memory_in Mirroring) (λ t. TellsJoining t e)
    → (refusal classes brackets mirroring texts ≡ Some e) ⊎ NoMemoryAfter classes brackets mirroring texts e
joined_told classes brackets mirroring None e a b c none =
    inr (subst (NoMemoryAfter classes brackets mirroring None) (sym none) (refl, (a, b)))
joined_told classes brackets mirroring (Some t) e a b c (inl (inl is)) =
    inl (after_none _ _ (three_accepted classes brackets mirroring a b c) ∙ is)
joined_told classes brackets mirroring (Some t) e a b c (inl (inr none)) =
    inr (subst (NoMemoryAfter classes brackets mirroring (Some t)) (sym none) (refl, three_accepted classes brackets mirroring a b c))
joined_told classes brackets mirroring (Some t) e a b c (inr (none, one)) =
    inr (subst (NoMemoryAfter classes brackets mirroring (Some t)) (sym none) (refl, (three_accepted classes brackets mirroring a b c, one)))
