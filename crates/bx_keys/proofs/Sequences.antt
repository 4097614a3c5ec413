-- The state of an escape sequence after one byte more.
use Rattle.std.proofs.Common.{◌≡◌, ℕ, ◌≤◌, Bool, true, false, cond, List, [], ◌∷◌, ◌++◌, length, get_or, refl, ap, sym, ◌∙◌, arith}
use Rattle.std.proofs.lemmas.Bool.Decides.{nat_tests}
use Rattle.bx_bytes.specs.Pattern.{One, is_within, past, fate_in}
use Rattle.bx_bytes.specs.declared.fate.Fate.TheVariants.{Waits}
use Rattle.bx_keys.specs.Waiting.{fate}

-- ---- runs of bytes of a range

pub past_by : (t : Bool) (low high b : ℕ) (bs : List ℕ) → is_within low high b ≡ t → past low high (b ∷ bs) ≡ []
    → (is_within low high b ≡ true) × (past low high bs ≡ [])
past_by true low high b bs e h = (e, rw e at h)
past_by false low high b bs e h = absurd (let g : b ∷ bs ≡ [] = rw e at h in cc g)

past_push : (low high : ℕ) (bs : List ℕ) (b : ℕ) → past low high bs ≡ [] → past low high (bs ++ b ∷ []) ≡ cond (is_within low high b) [] (b ∷ [])
past_push low high [] b h = refl
past_push low high (x ∷ bs) b h =
    let parts = past_by (is_within low high x) low high x bs refl h in
    rw parts.0 (past_push low high bs b parts.1)

-- a last byte that is still to come
pub only_waits : (low high : ℕ) (bs : List ℕ) → fate_in ((One low high ∷ []) ∷ []) bs ≡ Waits → bs ≡ []
only_waits low high [] h = refl
only_waits low high (b ∷ []) h = absurd (grind (arith, nat_tests, h))
only_waits low high (b ∷ c ∷ bs) h = absurd (grind (arith, nat_tests, h))

-- ---- sequences

pub after_intermediate : (m : ℕ) (bs : List ℕ) → 0x20 ≤ m → m ≤ 0x2F → fate (0x1B ∷ m ∷ bs) ≡ fate_in ((One 0x30 0x7E ∷ []) ∷ []) (past 0x20 0x2F bs)
after_intermediate m bs l h = grind (arith, nat_tests)

-- a byte has the same effect after any bytes of a control sequence as right after CSI
pub control_more : (sequence : List ℕ) (b : ℕ) → 1 ≤ length sequence → get_or sequence 0 0 ≡ 0x5B → fate (0x1B ∷ sequence) ≡ Waits
    → fate (0x1B ∷ (sequence ++ b ∷ [])) ≡ fate (0x1B ∷ 0x5B ∷ b ∷ [])
control_more [] b l e h = absurd (omega arith)
control_more (x ∷ bs) b l e h =
    let waits : fate (0x1B ∷ 0x5B ∷ bs) ≡ Waits = rw e at h in
    let none : past 0x20 0x3F bs ≡ [] = only_waits 0x40 0x7E (past 0x20 0x3F bs) waits in
    ap (λ y. fate (0x1B ∷ y ∷ (bs ++ b ∷ []))) e ∙ ap (fate_in ((One 0x40 0x7E ∷ []) ∷ [])) (past_push 0x20 0x3F bs b none)

pub shift_more : (sequence : List ℕ) (b : ℕ) → 1 ≤ length sequence → get_or sequence 0 0 ≡ 0x4F → fate (0x1B ∷ sequence) ≡ Waits
    → fate (0x1B ∷ (sequence ++ b ∷ [])) ≡ fate (0x1B ∷ 0x4F ∷ b ∷ [])
shift_more [] b l e h = absurd (omega arith)
shift_more (x ∷ bs) b l e h =
    let waits : fate (0x1B ∷ 0x4F ∷ bs) ≡ Waits = rw e at h in
    ap (λ y. fate (0x1B ∷ y ∷ (bs ++ b ∷ []))) e ∙ ap (λ ys. fate (0x1B ∷ 0x4F ∷ (ys ++ b ∷ []))) (only_waits 0x20 0x7E bs waits)

-- the bytes after which ESC waits, except those of CSI and SS3
pub after_escape : (x : ℕ) (bs : List ℕ) → (x ≡ 0x5B → ⊥) → (x ≡ 0x4F → ⊥) → fate (0x1B ∷ x ∷ bs) ≡ Waits → (0x20 ≤ x) × (x ≤ 0x2F)
after_escape x bs not_csi not_ss3 h = grind (arith, nat_tests)

pub long_more : (sequence : List ℕ) (b : ℕ) → 1 ≤ length sequence → (get_or sequence 0 0 ≡ 0x5B → ⊥) → (get_or sequence 0 0 ≡ 0x4F → ⊥)
    → fate (0x1B ∷ sequence) ≡ Waits
    → fate (0x1B ∷ (sequence ++ b ∷ [])) ≡ fate (0x1B ∷ 0x20 ∷ b ∷ [])
long_more [] b l n o h = absurd (omega arith)
long_more (x ∷ bs) b l n o h =
    let inside = after_escape x bs n o h in
    let none : past 0x20 0x2F bs ≡ [] = only_waits 0x30 0x7E (past 0x20 0x2F bs) (sym (after_intermediate x bs inside.0 inside.1) ∙ h) in
    after_intermediate x (bs ++ b ∷ []) inside.0 inside.1 ∙ ap (fate_in ((One 0x30 0x7E ∷ []) ∷ [])) (past_push 0x20 0x2F bs b none)
