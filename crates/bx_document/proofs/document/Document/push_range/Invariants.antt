-- What is left is to be copied.
use Rattle.std.proofs.Common.{◌≡◌, ◌-◌, ◌++◌, slice_range, string_bytes}
use Rattle.bx_text.specs.Changes.{IsRange}
use Rattle.bx_document.proofs.document.Document.push_range.Given as goal

abbrev pub invariant-loop-at : goal.invariant-loop-at
invariant-loop-at g l = record {
  range : IsRange l.self.document.content.text l.at l.stop;
  whole : string_bytes l.copy ++ slice_range l.self.document.content.text l.at l.stop
      ≡ string_bytes l.initial.copy ++ slice_range l.self.document.content.text l.start l.stop;
}

abbrev pub decreases-loop-at : goal.decreases-loop-at
decreases-loop-at g l = l.stop - l.at
