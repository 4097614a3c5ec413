-- The offsets so far, and the text after them.
use Rattle.std.proofs.Common.{◌≡◌, ◌*◌, drop, chars, length}
use denote.Text.{Utf8}
use denote.Shadow.{shadow}
use Rattle.bx_levels.specs.resolve.Body.{IsEndOf, AreOffsets}
use Rattle.bx_levels.proofs.resolve.body.offsets_of.Given as goal

abbrev pub invariant-loop-rest : goal.invariant-loop-rest
invariant-loop-rest l = record {
  text : shadow (Utf8 l.rest);
  chars_are : chars l.rest ≡ drop (length l.offsets.items * 8) (chars l.text);
  end : IsEndOf l.text l.rest;
  offsets_are : AreOffsets l.text l.offsets.items;
}

abbrev pub decreases-loop-rest : goal.decreases-loop-rest
decreases-loop-rest l = length l.rest
