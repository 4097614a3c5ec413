use Rattle.std.proofs.Common.{◌≡◌, ◌∙◌, true, false, [], ◌∷◌, chars, ap, ap₂, sym}
use Rattle.bx_common.specs.Characters.{is_direction_mark}
use Rattle.bx_view.specs.Words.{kind_of_characters, kind_of_class, sign_of}
use Rattle.bx_view.specs.declared.moves.unit_kind.UnitKind.TheVariants.{Other}
use Rattle.bx_view.proofs.WordParts.{no-characters}
use Rattle.bx_view.proofs.moves.unit_kind.kind_of.Goals as goal

pub returns-in_default : goal.returns-in_default
returns-in_default g c = sym (ap (kind_of_characters (g.D.BidiData.data c.args.tables.now)) (no-characters c.args.unit.now c.in_default.ensures))

pub returns-in-None : goal.returns-in-None
returns-in-None g c =
    let ucd = g.D.BidiData.data c.args.tables.now in
    let first = c.in-Some.c in
    let alone : chars c.args.unit.now ≡ first ∷ [] =
    c.in-Some.ensures.2 ∙ ap (λ cs. first ∷ cs) (no-characters c.in-Some.rest.now c.in-None.ensures) in
    let no_mark : is_direction_mark first ≡ false = sym c.is_direction_mark.ensures ∙ c.if-is_direction_mark.false in
    c.kind_of_class-in-None.ensures ∙ ap₂ kind_of_class c.class-in-None.ensures c.sign_of.ensures
    ∙ sym (ap (kind_of_characters ucd) alone ∙ ap (λ b. elim b [ true ↦ Other | false ↦ kind_of_class (ucd.class first) (sign_of first) ]) no_mark)
