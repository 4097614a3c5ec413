-- For any bytes and any window, exactly one error of an opening has its cause.
use Rattle.std.proofs.Common.{◌≡◌, ℕ, zero, suc, ◌<◌, ◌≤◌, true, false, List, length, take, IsUtf8, refl, sym, ap, subst, ◌∙◌, arith}
use Rattle.std.proofs.Common.{⊎_elim}
use Rattle.std.specs.Str.{is_utf8}
use Rattle.std.proofs.lemmas.Bool.{cases_Bool, cases_lt, cases_order}
use Rattle.std.proofs.lemmas.List.{take_all}
use Rattle.std.proofs.lemmas.Str.{IsUtf8-from_is_utf8, IsUtf8-nil, is_utf8-from_IsUtf8}
use Rattle.bx_common.specs.Characters.{largest_text}
use Rattle.bx_grid.specs.Picture.{is_size}
use Rattle.bx_editor.specs.Editor.{Causes, IsLongestUtf8}
use Rattle.bx_editor.specs.declared.opening.OpenError.{OpenError}
use Rattle.bx_editor.specs.declared.opening.OpenError.TheVariants.{NotUtf8, OutOfMemory, SizeOutOfRange, TooLong}
use Rattle.bx_editor_laws.specs.RefusalLaws.{OpeningHasOneCause}

-- ---- the longest prefix that is UTF-8

is-no-utf8 : (bytes : List ℕ) → is_utf8 bytes ≡ false → ¬ (IsUtf8 bytes)
is-no-utf8 bytes is utf8 = let e : true ≡ false = sym (is_utf8-from_IsUtf8 bytes utf8) ∙ is in cc e

whole : (bytes : List ℕ) → take (length bytes) bytes ≡ bytes
whole bytes = take_all (length bytes) bytes (omega arith)

-- no prefix longer than `k` bytes is UTF-8
abbrev NoneBeyond : List ℕ → ℕ → Type 0
NoneBeyond bytes k = (more : ℕ) → k < more → more ≤ length bytes → ¬ (IsUtf8 (take more bytes))

-- there is a longest one
abbrev Longest : List ℕ → ℕ → Type 0
Longest bytes k = (n : ℕ) × ((n ≤ k) × IsLongestUtf8 bytes n)

one-less : (bytes : List ℕ) (k : ℕ) → NoneBeyond bytes (suc k) → ¬ (IsUtf8 (take (suc k) bytes)) → NoneBeyond bytes k
one-less bytes k beyond bad more above upto =
    ⊎_elim (λ same. subst (λ n. ¬ (IsUtf8 (take n bytes))) same bad)
    (⊎_elim (λ above. beyond more above upto) (λ below. absurd (omega (arith, above, below)))) (cases_order (suc k) more)

longest-upto : (bytes : List ℕ) (k : ℕ) → NoneBeyond bytes k → Longest bytes k
longest-upto bytes zero beyond = (0, (omega arith, record { utf8 = IsUtf8-nil; longest = beyond }))
longest-upto bytes (suc k) beyond =
    ⊎_elim (λ is. (suc k, (omega arith, record { utf8 = IsUtf8-from_is_utf8 (take (suc k) bytes) is; longest = beyond })))
    (λ is.
    let less = longest-upto bytes k (one-less bytes k beyond (is-no-utf8 (take (suc k) bytes) is)) in
    (less.0, (omega (arith, less.1.0), less.1.1)))
    (cases_Bool (is_utf8 (take (suc k) bytes)))

longest : (bytes : List ℕ) → Longest bytes (length bytes)
longest bytes = longest-upto bytes (length bytes) (λ more above upto. absurd (omega (arith, above, upto)))

-- a text that is UTF-8 has no longest prefix that is shorter
not-shorter : (bytes : List ℕ) (n : ℕ) → n < length bytes → IsLongestUtf8 bytes n → ¬ (IsUtf8 bytes)
not-shorter bytes n short is utf8 = is.longest (length bytes) short (omega arith) (subst IsUtf8 (sym (whole bytes)) utf8)

not-longer : (bytes : List ℕ) (n m : ℕ) → m ≤ length bytes → IsLongestUtf8 bytes n → IsLongestUtf8 bytes m → ¬ (n < m)
not-longer bytes n m upto one other less = one.longest m less upto other.utf8

same-longest : (bytes : List ℕ) (n m : ℕ) → n ≤ length bytes → m ≤ length bytes → IsLongestUtf8 bytes n → IsLongestUtf8 bytes m → n ≡ m
same-longest bytes n m low upto one other =
    ⊎_elim (λ same. same)
    (⊎_elim (λ less. absurd (not-longer bytes n m upto one other less)) (λ more. absurd (not-longer bytes m n low other one more)))
    (cases_order n m)

-- ---- the causes exclude one another

same-cause : (bytes : List ℕ) (height width : ℕ) (one other : OpenError) → Causes bytes height width one → Causes bytes height width other → one ≡ other
same-cause bytes height width TooLong TooLong h k = refl
same-cause bytes height width TooLong (NotUtf8 m) h k = absurd (omega (arith, h, k.0))
same-cause bytes height width TooLong SizeOutOfRange h k = absurd (omega (arith, h, k.0))
same-cause bytes height width TooLong OutOfMemory h k = absurd (omega (arith, h, k.0))
same-cause bytes height width (NotUtf8 n) TooLong h k = absurd (omega (arith, k, h.0))
same-cause bytes height width (NotUtf8 n) (NotUtf8 m) h k = ap NotUtf8 (same-longest bytes n m (omega (arith, h.1)) (omega (arith, k.1)) h.2 k.2)
same-cause bytes height width (NotUtf8 n) SizeOutOfRange h k = absurd (not-shorter bytes n h.1 h.2 k.1)
same-cause bytes height width (NotUtf8 n) OutOfMemory h k = absurd (not-shorter bytes n h.1 h.2 k.1)
same-cause bytes height width SizeOutOfRange TooLong h k = absurd (omega (arith, k, h.0))
same-cause bytes height width SizeOutOfRange (NotUtf8 m) h k = absurd (not-shorter bytes m k.1 k.2 h.1)
same-cause bytes height width SizeOutOfRange SizeOutOfRange h k = refl
same-cause bytes height width SizeOutOfRange OutOfMemory h k = let e : false ≡ true = sym h.2 ∙ k.2 in absurd (cc e)
same-cause bytes height width OutOfMemory TooLong h k = absurd (omega (arith, k, h.0))
same-cause bytes height width OutOfMemory (NotUtf8 m) h k = absurd (not-shorter bytes m k.1 k.2 h.1)
same-cause bytes height width OutOfMemory SizeOutOfRange h k = let e : true ≡ false = sym h.2 ∙ k.2 in absurd (cc e)
same-cause bytes height width OutOfMemory OutOfMemory h k = refl

-- ---- one of them holds

abbrev SomeCause : List ℕ → ℕ → ℕ → Type 0
SomeCause bytes height width = (error : OpenError) × Causes bytes height width error

by-window : (bytes : List ℕ) (height width : ℕ) → length bytes ≤ largest_text → IsUtf8 bytes → SomeCause bytes height width
by-window bytes height width short utf8 =
    ⊎_elim (λ in_range. (OutOfMemory, (short, utf8, in_range))) (λ outside. (SizeOutOfRange, (short, utf8, outside))) (cases_Bool (is_size height width))

by-bytes : (bytes : List ℕ) (height width : ℕ) → length bytes ≤ largest_text → SomeCause bytes height width
by-bytes bytes height width short =
    let prefix = longest bytes in
    ⊎_elim (λ less. (NotUtf8 prefix.0, (short, less, prefix.1.1)))
    (λ all.
    let same : prefix.0 ≡ length bytes = omega (arith, all, prefix.1.0) in
    by-window bytes height width short (subst IsUtf8 (ap (λ n. take n bytes) same ∙ whole bytes) prefix.1.1.utf8))
    (cases_lt prefix.0 (length bytes))

some-cause : (bytes : List ℕ) (height width : ℕ) → SomeCause bytes height width
some-cause bytes height width =
    ⊎_elim (λ long. (TooLong, long)) (λ short. by-bytes bytes height width short) (cases_lt largest_text (length bytes))

pub opening-has-one-cause : OpeningHasOneCause
opening-has-one-cause bytes height width =
    let some = some-cause bytes height width in
    record { error = some.0; is_cause = some.1; only = λ other is. same-cause bytes height width other some.0 is some.1 }
