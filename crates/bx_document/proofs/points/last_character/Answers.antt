use Rattle.std.proofs.Common.{◌≡◌, ◌++◌, ◌∙◌, sym, ap}
use Rattle.std.specs.Prelude.{encode_utf8}
use Rattle.bx_document.proofs.LastPoints.{chars-to-last}
use Rattle.bx_document.proofs.points.last_character.Goals as goal

pub returns-in-Some : goal.returns-in-Some
returns-in-Some c =
    let last = c.in-Some.c in
    let before = c.as_str.result.now in
    let e : c.args.text.now ≡ before ++ encode_utf8 last =
    sym c.chars-chars.ensures.rest ∙ c.in-Some.ensures.steps ∙ ap (λ t. t ++ encode_utf8 last) (sym c.as_str.ensures) in
    (e, chars-to-last _ before last c.utf8.text c.as_str.utf8 e, c.as_str.utf8)
