use Rattle.std.proofs.Common.{◌≡◌, ◌∙◌, ℕ, List, ap, arith, chars, length}
use Rattle.std.proofs.lemmas.List.{length-map}
use Rattle.bx_ucd.specs.declared.class.Class.{Class}
use Rattle.bx_levels.specs.resolve.Levels.{sequence_types}
use Rattle.bx_levels.proofs.resolve_lemmas.PlainLengths.{weak_length}
use Rattle.bx_levels.proofs.resolve_lemmas.PlainLevels.{types_from, found_from}
use Rattle.bx_levels.proofs.resolve_lemmas.Small.{few_chars}
use Rattle.bx_levels.proofs.resolve.resolve.unformatted_levels.Goals as goal

pub resolve_brackets_of-requires-clause-small : goal.resolve_brackets_of-requires-clause-small
resolve_brackets_of-requires-clause-small g c =
    let ucd = g.D.BidiData.data c.args.tables.now in
    let same : length c.resolve_weak.new.types ≡ length c.args.classes.now =
    ap length c.in_ok-resolve_weak.ensures.types ∙ weak_length c.direction-side.result c.args.classes.now in
    let count : length c.args.classes.now ≡ length (chars c.args.body.now) = ap length c.requires.classes ∙ length-map (chars c.args.body.now) ucd.class in
    omega (arith, same, count, few_chars c.args.body.now c.utf8.body, c.requires.small)

pub returns-clause-each : goal.returns-clause-each
returns-clause-each g c =
    let ucd = g.D.BidiData.data c.args.tables.now in
    let text : List ℕ = chars c.args.body.now in
    let ts : List Class = c.args.classes.now in
    let side : Class = c.direction-side.result in
    let types : c.resolve_neutral.new.types ≡ sequence_types ucd c.args.paragraph side side text ts =
    types_from ucd c.args.paragraph side side text ts c.resolve_weak.new.types c.resolve_brackets_of.new.types c.resolve_neutral.new.types
    c.resolve_weak.new.self.nsms.items c.in_ok-resolve_weak.ensures.types c.in_ok-resolve_weak.ensures.nsms c.in_ok-resolve_brackets_of.ensures
    c.resolve_neutral.ensures in
    found_from ucd c.args.paragraph text ts c.resolve_neutral.new.types side c.in_ok-each.each.items
    c.requires.classes c.requires.unformatted c.direction-side.ensures types c.in_ok-each.ensures
