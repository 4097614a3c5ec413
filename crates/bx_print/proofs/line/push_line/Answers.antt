use Rattle.std.proofs.Common.{rules, ◌≡◌, ◌∙◌, ◌++◌, ap, length, map}
use Rattle.std.specs.Prelude.{flat_map}
use Rattle.bx_rows.specs.Shown.{glyph_of}
use Rattle.bx_print.specs.Page.{glyph_bytes}
use Rattle.bx_print.proofs.Trimmed.{trimmed-behind}
use Rattle.bx_print.proofs.line.push_line.Goals as goal

pub returns : goal.returns
returns c =
    let old = c.args.page.now.items in
    let at : c.len-start.result ≡ length old = search rules in
    let bytes = glyph_bytes c.args.placeholders in
    c.truncate.ensures.items
    ∙ trimmed-behind _ c.deref-2.result.now old (flat_map bytes (map glyph_of c.args.picture.now.glyphs.items)) _ _
    (c.in_ok-push_glyphs.ensures ∙ ap (λ gs. old ++ flat_map bytes (map glyph_of gs)) c.deref.ensures.value) c.deref-2.ensures.value
    at c.trimmed_len-len.ensures.trimmed
