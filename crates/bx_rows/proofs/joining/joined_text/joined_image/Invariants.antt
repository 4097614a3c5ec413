-- What is left of the text stands in the body, and gives the rest of the image.
use Rattle.std.proofs.Common.{◌≡◌, ◌++◌, length, chars}
use Rattle.std.specs.Prelude.{string_bytes}
use denote.Text.{Utf8}
use denote.Shadow.{shadow}
use Rattle.bx_rows.specs.joining.JoinedText.{joined_image}
use Rattle.bx_rows.specs.joining.Joining.{text_forms}
use Rattle.bx_rows.specs.joining.Places.{StandsAt}
use Rattle.bx_rows.proofs.joining.joined_text.joined_image.Given as goal

abbrev pub invariant-loop-letter : goal.invariant-loop-letter
invariant-loop-letter g l =
    let ucd = g.D.BidiData.data l.tables in
    let body = l.fn.at.body.text.now in
    let each = l.fn.at.body.each.now in
    record {
      text : shadow (Utf8 l.rest);
      shown : shadow (Utf8 l.left);
      stands : StandsAt body l.rest l.offset l.number;
      count : length (chars l.left) ≡ length (chars l.rest);
      whole : joined_image ucd (text_forms ucd body each l.fn.at.number l.fn.text) l.fn.text l.fn.shown
          ≡ string_bytes l.other ++ joined_image ucd (text_forms ucd body each l.number l.rest) l.rest l.left;
    }

abbrev pub decreases-loop-letter : goal.decreases-loop-letter
decreases-loop-letter g l = length l.rest
