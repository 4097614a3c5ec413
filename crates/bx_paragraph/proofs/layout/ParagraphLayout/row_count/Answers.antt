use Rattle.std.proofs.Common.{subst}
use Rattle.std.proofs.lemmas.Str.{IsUtf8-string_bytes}
use Rattle.bx_paragraph.specs.Layout.{IsSound}
use Rattle.bx_paragraph.proofs.layout.ParagraphLayout.row_count.Goals as goal

pub returns-clause-sound : goal.returns-clause-sound
returns-clause-sound c =
    subst IsSound c.self.view_is (record { side = c.self.invariant.0; utf8 = IsUtf8-string_bytes c.self.inside.body })
