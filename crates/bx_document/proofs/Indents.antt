-- The blanks and tabs with which a text begins.
use Rattle.std.proofs.Common.{◌≡◌, ℕ, ◌+◌, ◌<◌, cond, true, List, length, drop, get_or, ap, ◌∙◌, arith}
use Rattle.std.specs.List.{prefix_len}
use Rattle.std.proofs.lemmas.Bool.Decides.{nat_tests}
use Rattle.std.proofs.lemmas.List.{drop_more}
use Rattle.bx_document.specs.Line.{is_indent}

pub indent-ascii : (b : ℕ) → is_indent b ≡ true → b < 128
indent-ascii b h = grind (arith, nat_tests)

-- one byte more
pub prefix-more : (text : List ℕ) (at : ℕ) → at < length text → is_indent (get_or text at 0) ≡ true
    → prefix_len is_indent (drop at text) ≡ 1 + prefix_len is_indent (drop (at + 1) text)
prefix-more text at within h =
    ap (prefix_len is_indent) (drop_more text at 0 within)
    ∙ ap (λ b. cond b (1 + prefix_len is_indent (drop (at + 1) text)) 0) h
