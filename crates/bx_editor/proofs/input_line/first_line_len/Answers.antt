use Rattle.std.proofs.Common.{◌≡◌, ◌-◌, false, length, refl, rules}
use Rattle.std.proofs.lemmas.Str.{IsUtf8-past_char}
use Rattle.bx_editor.proofs.FirstLine.{at-seam, first-utf8, is_end, more-read, none-read}
use Rattle.bx_editor.proofs.input_line.first_line_len.Goals as goal

pub loop-c-init : goal.loop-c-init
loop-c-init g c = record { text = search rules; read = none-read (g.D.BidiData.data c.args.document.now.tables) c.args.text.now }

pub returns-then-c-eq10-clause-boundary : goal.returns-then-c-eq10-clause-boundary
returns-then-c-eq10-clause-boundary g c =
    at-seam (g.D.BidiData.data c.args.document.now.tables) c.args.text.now c.loop-c.rest.now
    (length c.args.text.now - length c.loop-c.rest.now) c.loop-c.invariant.read c.loop-c.invariant.text refl

pub loop-c-preserved : goal.loop-c-preserved
loop-c-preserved g c =
    let inv = c.loop-c.invariant in
    let d = g.D.BidiData.data c.args.document.now.tables in
    let letter = c.in-Some.c in
    let rest = c.loop-c.rest.now in
    let behind = c.in-Some.behind.now in
    let goes-on : is_end d letter ≡ false = search rules in
    let text = IsUtf8-past_char rest behind letter inv.text c.in-Some.ensures.0 in
    let one = first-utf8 rest behind letter inv.text text c.in-Some.ensures.0 in
    record { text = text; read = more-read d c.args.text.now rest behind letter inv.read c.in-Some.ensures.0 c.in-Some.ensures.2 one goes-on }
