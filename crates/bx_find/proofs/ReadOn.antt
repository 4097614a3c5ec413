-- A list, and a text, read one by one.
use Rattle.std.proofs.Common.{◌≡◌, ◌<◌, ◌+◌, ◌∙◌, ℕ, List, [], ◌∷◌, length, chars, drop, get_or, ap, sym}
use Rattle.std.proofs.lemmas.Str.{chars-nil}
use Rattle.std.proofs.lemmas.List.{nil_from_length, drop_more}

pub next_of : (xs : List ℕ) (i x : ℕ) → i < length xs → x ≡ get_or xs i x → drop i xs ≡ x ∷ drop (i + 1) xs
next_of xs i x inside at = drop_more xs i x inside ∙ ap (λ y. y ∷ drop (i + 1) xs) (sym at)

pub no_chars : (text : List ℕ) → length text ≡ 0 → chars text ≡ []
no_chars text e = ap chars (nil_from_length text e) ∙ chars-nil
