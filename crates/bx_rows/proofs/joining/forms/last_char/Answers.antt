use Rattle.std.proofs.Common.{◌≡◌, ◌++◌, ◌∙◌, length, sym, ap, arith, length-append}
use Rattle.std.specs.Prelude.{encode_utf8}
use Rattle.std.proofs.lemmas.Str.{length-encode, len_utf8_bounds}
use Rattle.bx_rows.proofs.joining_lemmas.LastChars.{chars_to_last}
use Rattle.bx_rows.proofs.joining.forms.last_char.Goals as goal

pub returns-in-Some : goal.returns-in-Some
returns-in-Some c =
    let last = c.in-Some.c in
    let before = c.as_str.result.now in
    let e : c.args.text.now ≡ before ++ encode_utf8 last =
    sym c.chars-chars.ensures.rest ∙ c.in-Some.ensures.steps ∙ ap (λ t. t ++ encode_utf8 last) (sym c.as_str.ensures) in (
      e,
      omega (arith, ap length e, length-append before (encode_utf8 last), length-encode last, (len_utf8_bounds last).0),
      chars_to_last _ before last c.utf8.text c.as_str.utf8 e,
      c.as_str.utf8,
    )
