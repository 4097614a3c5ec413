use Rattle.std.proofs.Common.{◌≡◌, ◌∷◌, [], ◌++◌, ℕ, List, ap, sym, ◌∙◌}
use Rattle.std.specs.Str.{chars}
use Rattle.bx_bytes.specs.Pattern.{fate_in}
use Rattle.bx_bytes.specs.Utf8.{characters}
use Rattle.bx_bytes.specs.declared.fate.Fate.TheVariants.{Ends}
use Rattle.bx_grid.specs.Terminal.{Terminal, character_read}
use Rattle.bx_terminal.specs.Live.{terminal_of}
use Rattle.bx_terminal.proofs.Halves.{spelled}
use Rattle.bx_terminal.proofs.RunEnds.{character_is}
use Rattle.bx_terminal.proofs.live.Live.end_character.Goals as goal

pub returns-in_ok-push : goal.returns-in_ok-push
returns-in_ok-push c =
    let u : Terminal = terminal_of c.self.inside in
    let bs : List ℕ = u.half_read ++ c.args.byte ∷ [] in
    let ends : fate_in characters bs ≡ Ends = ap (λ (t : Terminal). fate_in characters (t.half_read ++ c.args.byte ∷ [])) c.self.view_is ∙ c.requires in
    let spells : chars bs ≡ c.character-c.result ∷ [] = ap (λ xs. chars (xs ++ c.args.byte ∷ [])) (sym c.as_slice.ensures.value) ∙ c.character-c.ensures in
    character_is u bs c.character-c.result _ _ spells (sym c.if-is_control.ensures) (spelled bs c.character-c.result ends spells) c.in_ok-push.ensures.bytes
    c.clear.ensures.items
    ∙ ap (λ (t : Terminal). character_read t (t.half_read ++ c.args.byte ∷ [])) c.self.view_is
