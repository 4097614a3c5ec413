use Rattle.std.proofs.Common.{◌≡◌, ◌∙◌, ◌∷◌, ℕ, List, true, ap, ap₂, chars, refl, rules, subst, sym}
use Rattle.std.specs.Prelude.{fold}
use Rattle.std.specs.List.{list_all}
use Rattle.std.proofs.lemmas.Str.{IsUtf8-past_char}
use Rattle.bx_editor.specs.Editor.{Editor}
use Rattle.bx_editor.specs.Functions.{EditorState}
use Rattle.bx_editor.specs.LinePuts.{is_in_line, typed_alone, with_typed_of}
use Rattle.bx_editor.proofs.LinePutsLeft.{alone-leaves, first-of, others-of}
use Rattle.bx_editor.proofs.questions_lemmas.OneMore.{no-chars}
use Rattle.bx_editor.proofs.editor.Editor.type_one_by_one.Goals as goal

pub loop-c-init : goal.loop-c-init
loop-c-init g c = record { text = search rules; tables = refl; typed = refl; left = refl; letters = c.requires.letters }

pub loop-c-preserved : goal.loop-c-preserved
loop-c-preserved g c =
    let inv = c.loop-c.invariant in
    let now : EditorState g.row.D.Denot = c.loop-c.self in
    let old : EditorState g.row.D.Denot = c.args.self.now in
    let d = g.D.BidiData.data now.tables in
    let letter : ℕ = c.in-Some.c in
    let behind = chars c.in-Some.behind.now in
    let read = c.in-Some.ensures.2 in
    let typed = c.in_ok-type_alone.ensures.ok in
    let letters : list_all is_in_line (letter ∷ behind) ≡ true = subst (λ (cs : List ℕ). list_all is_in_line cs ≡ true) read inv.letters in
    record {
      text = IsUtf8-past_char c.loop-c.rest.now c.in-Some.behind.now letter inv.text c.in-Some.ensures.0;
      tables = ap (λ (s : EditorState g.row.D.Denot). s.tables) typed ∙ inv.tables;
      typed = ap (λ (s : EditorState g.row.D.Denot). fold (typed_alone (g.D.BidiData.data s.tables)) s.editor behind) typed
          ∙ ap (λ (cs : List ℕ). fold (typed_alone d) now.editor cs) (sym read) ∙ inv.typed;
      left = ap (λ (s : EditorState g.row.D.Denot). with_typed_of old.editor s.editor) typed
          ∙ alone-leaves d old.editor now.editor letter (first-of letter behind letters) inv.left;
      letters = others-of letter behind letters;
    }

pub returns-clause-ok : goal.returns-clause-ok
returns-clause-ok g c =
    let inv = c.loop-c.invariant in
    let now : EditorState g.row.D.Denot = c.loop-c.self in
    let none = no-chars c.loop-c.rest.now c.in_default.ensures in
    let editor = sym (ap (λ (cs : List ℕ). fold (typed_alone (g.D.BidiData.data now.tables)) now.editor cs) none) ∙ inv.typed in
    ap₂ (λ (t : g.row.D.Denot) (e : Editor). (let s : EditorState g.row.D.Denot = record { tables = t; editor = e } in s)) inv.tables editor
