-- The keys that ask, whatever was on before.
use Rattle.std.proofs.Common.{◌≡◌, false, [], refl}
use Rattle.std.specs.Prelude.{None}
use Rattle.bx_editor.specs.declared.questions.answers.Prompt.TheVariants as prompts
use Rattle.bx_keys.specs.declared.key.Key.TheVariants.{GoTo, Name}
use Rattle.bx_ucd.specs.Data.{Data}
use Rattle.bx_editor.specs.declared.search_state.SearchState.TheVariants.{Off}
use Rattle.bx_editor.specs.Editor.{Editor, cleared}
use Rattle.bx_editor.specs.Keys.{after_key}
use Rattle.bx_editor.specs.Region.{aged, unselected}
use Rattle.bx_editor_laws.proofs.KeyEnds.{ended-done, ended-key}

-- a character, or a line, is asked for
abbrev pub asked_name : Editor → Editor
asked_name e = record (cleared e) {
  prompt = prompts.Name;
  answer = [];
  input_cursor = 0;
  search_state = Off;
  goal = None;
  soft = aged e.soft;
  clicks = None;
  pressed = None;
}

abbrev pub asked_line : Editor → Editor
asked_line e = record (cleared (unselected e)) {
  prompt = prompts.Line;
  answer = [];
  input_cursor = 0;
  search_state = Off;
  goal = None;
  soft = aged (unselected e).soft;
  clicks = None;
  pressed = None;
}

pub name-is : (d : Data) (e : Editor) → e.pasted ≡ None → (e.prompt ≡ prompts.Overwrite → ⊥) → e.read_only ≡ false → after_key d None e Name ≡ asked_name e
name-is d e settled other writes = ended-done d None e Name settled refl refl refl other writes

pub line-is : (d : Data) (e : Editor) → e.pasted ≡ None → (e.prompt ≡ prompts.Overwrite → ⊥) → after_key d None e GoTo ≡ asked_line e
line-is d e settled other = ended-key d None e GoTo settled refl refl refl other
