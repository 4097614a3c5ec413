use Rattle.std.proofs.Common.{◌≡◌, ◌<◌, ◌≤◌, ◌+◌, ◌∙◌, ℕ, IsUtf8, ap, arith, chars, encode_utf8, length, rules, string_bytes, subst, sym}
use Rattle.std.proofs.lemmas.Str.{IsUtf8-encode, IsUtf8-string_bytes}
use Rattle.bx_text.specs.Changes.{IsRange}
use Rattle.bx_text.specs.Edits.{splice}
use Rattle.bx_ucd.specs.Data.{Data}
use Rattle.bx_view.specs.Places.{IsTextPlace}
use Rattle.bx_view.proofs.TextPlaces.{place-between}
use Rattle.bx_editor.specs.LineState.{LineState}
use Rattle.bx_editor.proofs.LineLength.{one-longer}
use Rattle.bx_editor.proofs.input_line.InputLine.insert.Goals as goal

at-cursor : (d : Data) (l : LineState) (cursor : ℕ) → cursor ≡ l.cursor → IsUtf8 l.text → IsTextPlace d l.text l.cursor → IsRange l.text cursor cursor
at-cursor d l cursor same utf8 place =
    let bounds = place-between d l.text l.cursor utf8 place in
    subst (λ n. IsRange l.text n n) (sym same) (record { start_bounds = bounds; stop_bounds = bounds; in_order = omega arith })

pub exchange-requires : goal.exchange-requires
exchange-requires g c =
    let d = g.D.BidiData.data c.args.document.now.tables in
    let l : LineState = c.args.self.now in
    let utf8 = subst (λ (x : LineState). IsUtf8 x.text) c.self.view_is (IsUtf8-string_bytes c.self.inside.text) in
    record { range = at-cursor d l c.exchange.inside.cursor (ap (λ (x : LineState). x.cursor) c.exchange.view_is) utf8 c.requires.place }

pub returns-clause-few : goal.returns-clause-few
returns-clause-few g c =
    let d = g.D.BidiData.data c.args.document.now.tables in
    let l : LineState = c.args.self.now in
    let cursor = c.exchange.inside.cursor in
    let utf8 = subst (λ (x : LineState). IsUtf8 x.text) c.self.view_is (IsUtf8-string_bytes c.self.inside.text) in
    let range = at-cursor d l cursor (ap (λ (x : LineState). x.cursor) c.exchange.view_is) utf8 c.requires.place in
    let longer = one-longer l.text cursor c.args.c utf8 range (IsUtf8-encode c.args.c c.ranges.c.0) in
    let text = ap (λ (x : LineState). length (chars x.text)) c.in_ok-exchange.ensures.line in
    let new = ap (λ t. length (chars (splice l.text cursor cursor t))) c.encode_utf8-new.ensures.value in
    let count = c.char_count.ensures ∙ ap (λ t. length (chars t)) c.as_str.ensures.value ∙ ap (λ (x : LineState). length (chars x.text)) c.self.view_is in
    let less : c.char_count.result < c.args.limit = search rules in
    omega (arith, text, new, longer, count, less)
