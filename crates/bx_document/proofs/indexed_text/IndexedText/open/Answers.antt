use Rattle.std.proofs.Common.{IsUtf8, ap, subst, sym}
use Rattle.std.proofs.lemmas.Str.{IsUtf8-string_bytes}
use Rattle.bx_text.specs.index.Index.{IndexState}
use Rattle.bx_text.specs.Text.{TextState}
use Rattle.bx_document.proofs.indexed_text.IndexedText.open.Goals as goal

pub invariant_of-result : goal.invariant_of-result
invariant_of-result g c = (
  ap (λ (i : IndexState). i.paragraphs) c.in_ok-index.ensures,
  subst (λ (t : TextState). IsUtf8 t.edited.text) (sym c.in-Ok.ensures.ok) (IsUtf8-string_bytes c.args.text),
)
