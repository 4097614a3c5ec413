-- The form of half-read bytes, and the effect of their token.
use Rattle.std.proofs.Common.{◌≡◌, ℕ, ◌≤◌, true, false, nat_le, min, List, [], ◌∷◌, ◌++◌, drop, inl, inr, refl, ap, sym, ◌∙◌, arith}
use Rattle.std.proofs.lemmas.Bool.{cases_lt}
use Rattle.std.proofs.lemmas.Bool.Decides.{nat_tests}
use Rattle.bx_grid.proofs.Reading.{at}
use Rattle.std.proofs.Math.Bool.{and-false}
use Rattle.bx_terminal.specs.Capped.{capped}
use Rattle.bx_grid.specs.Tokens.{escape_command}
use Rattle.bx_grid.specs.Terminal.{Terminal, after_move, after_command, token_read}
use Rattle.bx_common.specs.Characters.{largest_side}
use Rattle.bx_bytes.specs.declared.fate.Fate.TheVariants.{Ends}
use Rattle.bx_bytes.specs.Pattern.{fate_in}
use Rattle.bx_bytes.specs.Utf8.{characters}
use Rattle.bx_bytes.proofs.Encoded.{are_encodings, is_whole}
use Rattle.std.specs.Char.{encode_utf8}
use Rattle.std.specs.Str.{chars}
use Rattle.bx_grid.specs.declared.command.Command.{Command}
use Rattle.bx_grid.specs.declared.command.Command.TheVariants.{Move, Clear, Erase, Render, Clip, Other}
use Rattle.bx_grid.proofs.Single.{chars_of, head_is}

-- ---- commands

columns_capped : (t : Terminal) (line column : ℕ) → t.height ≤ largest_side → t.width ≤ largest_side
    → after_move t line (min 1000 column) ≡ after_move t line column
columns_capped t line column h w = elim (cases_lt 1000 column) [
  | inl big ↦ (
      let a : nat_le 1 column ≡ true = grind (arith, nat_tests) in
      let b : nat_le column t.width ≡ false = grind (arith, nat_tests) in
      let c : min 1000 column ≡ 1000 = omega arith in
      let d : nat_le 1000 t.width ≡ false = grind (arith, nat_tests) in
      rw (c, b, d) (simp and-false))
  | inr small ↦ (
      let c : min 1000 column ≡ column = omega arith in
      rw c refl)
]

moved_capped : (t : Terminal) (line column : ℕ) → t.height ≤ largest_side → t.width ≤ largest_side
    → after_move t (min 1000 line) (min 1000 column) ≡ after_move t line column
moved_capped t line column h w = elim (cases_lt 1000 line) [
  | inl big ↦ (
      let a : nat_le 1 line ≡ true = grind (arith, nat_tests) in
      let b : nat_le line t.height ≡ false = grind (arith, nat_tests) in
      let c : min 1000 line ≡ 1000 = omega arith in
      let d : nat_le 1000 t.height ≡ false = grind (arith, nat_tests) in
      rw (c, a, b, d) refl)
  | inr small ↦ (
      let c : min 1000 line ≡ line = omega arith in
      rw c (columns_capped t line column h w))
]

pub obeyed_capped : (t : Terminal) (c : Command) → t.height ≤ largest_side → t.width ≤ largest_side → after_command t (capped c) ≡ after_command t c
obeyed_capped t (Move line column) h w = moved_capped t line column h w
obeyed_capped t Clear h w = refl
obeyed_capped t Erase h w = refl
obeyed_capped t (Render negative) h w = refl
obeyed_capped t Clip h w = refl
obeyed_capped t Other h w = refl

-- the last byte of a sequence or a string
pub end_read : (t : Terminal) (b : ℕ) (rest : List ℕ) → t.half_read ++ b ∷ [] ≡ 0x1B ∷ drop 1 (t.half_read ++ b ∷ [])
    → rest ≡ drop 1 (t.half_read ++ b ∷ [])
    → t.height ≤ largest_side → t.width ≤ largest_side
    → after_command (at t []) (capped (escape_command rest)) ≡ token_read t (t.half_read ++ b ∷ [])
end_read t b rest h e hh ww =
    obeyed_capped (at t []) (escape_command rest) hh ww
    ∙ ap (λ r. after_command (at t []) (escape_command r)) e
    ∙ ap (token_read t) (sym h)

-- ---- characters

-- the character that the bytes spell has these bytes
pub spelled : (bs : List ℕ) (c : ℕ) → fate_in characters bs ≡ Ends → chars bs ≡ c ∷ [] → encode_utf8 c ≡ bs
spelled bs c h e =
    let found = (are_encodings bs).0 (is_whole bs h) in
    let same : chars bs ≡ found.0 ∷ [] = ap chars (sym found.2) ∙ chars_of found.0 found.1 in
    ap encode_utf8 (head_is c found.0 (sym e ∙ same)) ∙ found.2
