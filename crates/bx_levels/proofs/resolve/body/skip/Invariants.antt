-- The rest, and the number of its characters still to be skipped.
use Rattle.std.proofs.Common.{◌≡◌, ◌<◌, ◌≤◌, drop, chars, length}
use denote.Text.{Utf8}
use denote.Shadow.{shadow}
use Rattle.bx_levels.specs.resolve.Body.{IsEndOf}
use Rattle.bx_levels.proofs.resolve.body.skip.Given as goal

abbrev pub invariant-loop-left : goal.invariant-loop-left
invariant-loop-left l = record {
  text : shadow (Utf8 l.rest);
  fewer : l.left ≤ l.count;
  chars_are : drop l.left (chars l.rest) ≡ drop l.count (chars l.text);
  end : IsEndOf l.text l.rest;
  shorter : l.left < l.count → length l.rest < length l.text;
}

abbrev pub decreases-loop-left : goal.decreases-loop-left
decreases-loop-left l = l.left
