-- Items that do not begin with ESC are characters.
use Rattle.std.proofs.Common.{◌≡◌, ℕ, ◌≤◌, false, nat_eq, List, [], ◌∷◌, ◌++◌, length, get_or, Some, refl, arith}
use Rattle.std.specs.Str.{chars}
use Rattle.std.proofs.lemmas.Bool.Decides.{nat_tests}
use Rattle.bx_bytes.specs.Pattern.{fate_in}
use Rattle.bx_bytes.specs.Utf8.{characters}
use Rattle.bx_keys.specs.Keys.{key_of}
use Rattle.bx_keys.specs.Waiting.{fate}
use Rattle.bx_keys.specs.declared.key.Key.TheVariants.{Insert}

pub no_escape : (a : ℕ) (bs : List ℕ) → (a ≡ 0x1B → ⊥) → fate (a ∷ bs) ≡ fate_in characters (a ∷ bs)
no_escape a bs n = grind (arith, nat_tests)

pub key_by_chars : (a b : ℕ) (bs : List ℕ) (c : ℕ) → (a ≡ 0x1B → ⊥) → chars (a ∷ b ∷ bs) ≡ c ∷ [] → key_of (a ∷ b ∷ bs) ≡ Some (Insert c)
key_by_chars a b bs c n e =
    let other : nat_eq a 0x1B ≡ false = grind (arith, nat_tests) in
    rw (other, e) refl

-- with one byte more
pub character_key_more : (bs : List ℕ) (b c : ℕ) → 1 ≤ length bs → (get_or bs 0 0 ≡ 0x1B → ⊥) → chars (bs ++ b ∷ []) ≡ c ∷ []
    → key_of (bs ++ b ∷ []) ≡ Some (Insert c)
character_key_more [] b c l n e = absurd (omega arith)
character_key_more (a ∷ []) b c l n e = key_by_chars a b [] c n e
character_key_more (a ∷ x ∷ bs) b c l n e = key_by_chars a x (bs ++ b ∷ []) c n e
