-- The row is `left` rows past the start of the walk's current paragraph.
use Rattle.std.proofs.Common.{◌≡◌, ◌+◌, ◌-◌, ◌<◌}
use Rattle.bx_text.specs.index.Paragraphs.{lengths}
use Rattle.bx_view.specs.TextRef.{bytes, count}
use Rattle.bx_view.specs.Standing.{rows_ahead}
use Rattle.bx_view_laws.proofs.library.first.Given as goal

abbrev pub invariant-loop-done : goal.invariant-loop-done
invariant-loop-done g l =
    let ucd = g.D.BidiData.data l.text_ref.tables.now in
    let text = bytes l.text_ref in
    record {
      paragraphs : l.walk.paragraphs ≡ lengths ucd text;
      number : l.done < count l.text_ref → l.walk.number ≡ l.done;
      ahead : l.left + rows_ahead ucd l.fn.view.base l.w text l.done ≡ l.fn.row;
    }

abbrev pub decreases-loop-done : goal.decreases-loop-done
decreases-loop-done g l = l.count - l.done
