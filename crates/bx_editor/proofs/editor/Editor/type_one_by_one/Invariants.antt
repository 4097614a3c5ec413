-- The rest of the characters leads where all of them lead from the first state.
use Rattle.std.proofs.Common.{◌≡◌, true, chars, length}
use Rattle.std.specs.Prelude.{fold}
use Rattle.std.specs.List.{list_all}
use denote.Text.{Utf8}
use denote.Shadow.{shadow}
use Rattle.bx_editor.specs.LinePuts.{is_in_line, typed_alone, with_typed_of}
use Rattle.bx_editor.proofs.editor.Editor.type_one_by_one.Given as goal

abbrev pub invariant-loop-c : goal.invariant-loop-c
invariant-loop-c g l = record {
  text : shadow (Utf8 l.rest);
  tables : l.self.tables ≡ l.initial.self.tables;
  typed : fold (typed_alone (g.D.BidiData.data l.self.tables)) l.self.editor (chars l.rest)
      ≡ fold (typed_alone (g.D.BidiData.data l.initial.self.tables)) l.initial.self.editor (chars l.letters);
  left : with_typed_of l.initial.self.editor l.self.editor ≡ l.initial.self.editor;
  letters : list_all is_in_line (chars l.rest) ≡ true;
}

abbrev pub decreases-loop-c : goal.decreases-loop-c
decreases-loop-c g l = length l.rest
