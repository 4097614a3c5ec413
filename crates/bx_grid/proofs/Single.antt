-- Lists of one element, and characters by their bytes.
use Rattle.std.proofs.Common.{◌≡◌, ℕ, [], ◌∷◌, get_or, refl, ap, sym, ◌∙◌}
use Rattle.std.specs.Char.{encode_utf8, IsScalar}
use Rattle.std.specs.Str.{chars}
use Rattle.std.proofs.lemmas.Str.{chars-encodes}
use Rattle.std.proofs.lemmas.List.{append-nil}

pub head_is : (a b : ℕ) → a ∷ [] ≡ b ∷ [] → a ≡ b
head_is a b e = ap (λ xs. get_or xs 0 0) e

pub chars_of : (c : ℕ) → IsScalar c → chars (encode_utf8 c) ≡ c ∷ []
chars_of c h = ap chars (sym (append-nil (encode_utf8 c))) ∙ chars-encodes (c ∷ []) (rw h refl)
