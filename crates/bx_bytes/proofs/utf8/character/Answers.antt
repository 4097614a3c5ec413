use Rattle.std.proofs.Common.{◌∷◌, [], ◌++◌, ap, sym, ◌∙◌}
use Rattle.std.specs.Str.{chars}
use Rattle.bx_bytes.specs.Pattern.{fate_in}
use Rattle.bx_bytes.specs.Utf8.{characters}
use Rattle.bx_bytes.proofs.Codes.{three_before}
use Rattle.bx_bytes.proofs.utf8.character.Goals as goal

pub of_four-requires : goal.of_four-requires
of_four-requires c =
    ap (λ xs. fate_in characters (xs ++ c.args.byte ∷ [])) (sym (three_before c.args.read.now c.args.byte c.in-len3-up.len_at_least c.requires)) ∙ c.requires

pub returns-in-len3-up : goal.returns-in-len3-up
returns-in-len3-up c =
    ap (λ xs. chars (xs ++ c.args.byte ∷ [])) (three_before c.args.read.now c.args.byte c.in-len3-up.len_at_least c.requires) ∙ c.of_four.ensures
