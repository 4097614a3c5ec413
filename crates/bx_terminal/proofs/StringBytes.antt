-- One more byte in a string, and what decodes as base64.
use Rattle.std.proofs.Common.{◌≡◌, ℕ, ◌≤◌, Bool, true, false, nat_eq, List, [], ◌∷◌, ◌++◌, length, get_or, refl, ap, sym, subst, arith}
use Rattle.std.proofs.lemmas.Bool.{ne_eqb}
use Rattle.std.specs.Prelude.{Ok, is_ok}
use Rattle.base64.specs.declared.decode.DecodeAllocError.{DecodeAllocError}
use Rattle.base64.specs.declared.decode.DecodeAllocError.TheVariants.{DecodeError as Failed}
use Rattle.base64.specs.declared.decode.DecodeError.{DecodeError}
use Rattle.base64.specs.GeneralPurpose.{IsDecodeFailure}
use Rattle.base64.specs.Engines.{standard}
use Rattle.bx_common.specs.Characters.{is_ascii_printable}
use Rattle.base64.specs.GeneralPurpose.{decode_of}
use Rattle.bx_grid.specs.Tokens.{is_base64, bell_fate, after_text, escape_fate}
use Rattle.bx_bytes.specs.declared.fate.Fate.TheVariants.{Waits, Ends, Breaks}

text_by : (p : Bool) (x : ℕ) (rest ys : List ℕ) → is_ascii_printable x ≡ p → after_text (x ∷ rest) ≡ []
    → (after_text rest ≡ [] → after_text (rest ++ ys) ≡ after_text ys) → after_text (x ∷ rest ++ ys) ≡ after_text ys
text_by true x rest ys e h more = rw e (more (rw e at h))
text_by false x rest ys e h more = absurd (let g : x ∷ rest ≡ [] = rw e at h in cc g)

text_goes : (body ys : List ℕ) → after_text body ≡ [] → after_text (body ++ ys) ≡ after_text ys
text_goes [] ys h = refl
text_goes (x ∷ body) ys h = text_by (is_ascii_printable x) x body ys refl h (text_goes body ys)

bell_by : (p : Bool) (b : ℕ) → nat_eq b 0x07 ≡ p → bell_fate (b ∷ []) ≡ Waits → b ∷ [] ≡ []
bell_by true b e h = absurd (let g : Ends ≡ Waits = rw e at h in cc g)
bell_by false b e h = absurd (let g : Breaks ≡ Waits = rw e at h in cc g)

bell_waits : (bs : List ℕ) → bell_fate bs ≡ Waits → bs ≡ []
bell_waits [] h = refl
bell_waits (b ∷ []) h = bell_by (nat_eq b 0x07) b refl h
bell_waits (b ∷ c ∷ bs) h = absurd (cc h)

string_by : (p : Bool) (x : ℕ) (body : List ℕ) (b : ℕ) → nat_eq x 0x5D ≡ p → nat_eq x 0x5B ≡ false → escape_fate (x ∷ body) ≡ Waits
    → bell_fate (after_text (b ∷ [])) ≡ escape_fate (x ∷ (body ++ b ∷ []))
string_by true x body b e n h =
    let waits : bell_fate (after_text body) ≡ Waits = rw (n, e) at h in
    rw (n, e) (ap bell_fate (sym (text_goes body (b ∷ []) (bell_waits (after_text body) waits))))
string_by false x body b e n h = absurd (let g : Breaks ≡ Waits = rw (n, e) at h in cc g)

-- the bytes after ESC of a string that waits, and one more byte
pub string_more : (rest : List ℕ) (b : ℕ) → 1 ≤ length rest → (get_or rest 0 0 ≡ 0x5B → ⊥) → escape_fate rest ≡ Waits
    → bell_fate (after_text (b ∷ [])) ≡ escape_fate (rest ++ b ∷ [])
string_more [] b some n h = absurd (omega arith)
string_more (x ∷ body) b some n h = string_by (nat_eq x 0x5D) x body b refl (ne_eqb x 0x5B n) h

-- ---- base64

pub decodes : (text b : List ℕ) → decode_of standard text ≡ Ok b → true ≡ is_base64 text
unfolding is_base64
decodes text b h = ap is_ok (sym h)

pub decodes_not : (text : List ℕ) (failure : DecodeAllocError) (e : DecodeError) → failure ≡ Failed e → IsDecodeFailure standard text failure
    → false ≡ is_base64 text
unfolding is_base64
decodes_not text failure e is fails = ap is_ok (sym (subst (λ f. IsDecodeFailure standard text f) is fails))
