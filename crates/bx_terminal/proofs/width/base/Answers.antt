use Rattle.std.proofs.Common.{◌≡◌, ◌∷◌, ◌++◌, ◌∙◌, drop, sym, ap}
use Rattle.std.specs.Prelude.{encode_utf8}
use Rattle.std.specs.List.{list_all}
use Rattle.std.specs.Str.{chars}
use Rattle.std.proofs.lemmas.Str.{chars_past_char}
use Rattle.bx_terminal.specs.Widths.{is_still}
use Rattle.bx_terminal.proofs.width.base.Goals as goal

pub returns-then-are_still : goal.returns-then-are_still
returns-then-are_still c =
    let first = c.in-Some.first in
    let rest = c.as_str.result.now in
    let text : c.args.text.now ≡ encode_utf8 first ++ rest =
    sym c.chars-rest.ensures.rest ∙ c.in-Some.ensures.steps.0 ∙ ap (λ t. encode_utf8 first ++ t) (sym c.as_str.ensures) in
    let spells : chars c.args.text.now ≡ first ∷ chars rest = chars_past_char _ rest first c.utf8.text text in
    let behind : drop 1 (chars c.args.text.now) ≡ chars rest = ap (drop 1) spells in
    record {
      first = spells ∙ ap (λ cs. first ∷ cs) (sym behind);
      high = c.if-first-gt160.true;
      still = ap (list_all is_still) behind ∙ sym c.are_still.ensures ∙ c.if-are_still.true;
    }
