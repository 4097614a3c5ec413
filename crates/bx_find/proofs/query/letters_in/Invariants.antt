-- The letters so far, and the text after them.
use Rattle.std.proofs.Common.{◌≡◌, ◌≤◌, ◌+◌, ◌*◌, ◌++◌, chars, length}
use denote.Text.{Utf8}
use denote.Shadow.{shadow}
use Rattle.bx_find.specs.Letters.{letters}
use Rattle.bx_find.proofs.query.letters_in.Given as goal

abbrev pub invariant-loop-c : goal.invariant-loop-c
invariant-loop-c g l = record {
  text : shadow (Utf8 l.rest);
  whole : l.letters.items ++ letters (g.D.BidiData.data l.tables) l.reading (chars l.rest)
      ≡ letters (g.D.BidiData.data l.tables) l.reading (chars l.text);
  fits : length l.letters.items + 4 * length (chars l.rest) ≤ 256;
}

abbrev pub decreases-loop-c : goal.decreases-loop-c
decreases-loop-c g l = length l.rest
