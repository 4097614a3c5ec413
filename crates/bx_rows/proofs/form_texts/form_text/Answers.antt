use Rattle.std.proofs.Common.{refl}
use Rattle.std.specs.Char.{encode_utf8}
use Rattle.bx_rows.proofs.form_texts.form_text.Goals as goal

pub text_in-requires-clause-texts : goal.text_in-requires-clause-texts
unfolding encode_utf8
text_in-requires-clause-texts c = refl

pub text_in-requires-else-c-lt65152-clause-texts : goal.text_in-requires-else-c-lt65152-clause-texts
unfolding encode_utf8
text_in-requires-else-c-lt65152-clause-texts c = refl
