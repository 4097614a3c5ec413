use Rattle.std.proofs.Common.{◌≡◌, ◌∙◌, true, false, ap, sym}
use Rattle.std.specs.Prelude.{is_some}
use Rattle.bx_editor.specs.Keys.{after_key, after_user}
use Rattle.bx_editor.specs.Putting.{paste_ended}
use Rattle.bx_editor.proofs.Stores.{pasted-key}
use Rattle.bx_editor.proofs.editor.Editor.apply.Goals as goal
use Rattle.bx_editor.proofs.editor.Editor.apply.Goals.{in_default-via-in-Insert+else-is_pasting, in_default-via-in_default}

pub returns-in_ok-press_behind_paste-in_default-clause-ok : goal.returns-in_ok-press_behind_paste-in_default-clause-ok
returns-in_ok-press_behind_paste-in_default-clause-ok g c =
    let d = g.D.BidiData.data c.args.self.now.tables in
    let e = c.args.self.now.editor in
    let pasting : is_some e.pasted ≡ true = sym c.is_pasting-2.ensures ∙ c.if-is_pasting-2.true in
    elim c.in_default.branch as (λ _. c.press_behind_paste.new.self.editor ≡ after_key d c.args.fault e c.args.key) [
      | in_default-via-in-Insert+else-is_pasting w ↦
          let idle : is_some e.pasted ≡ false = sym w.is_pasting.ensures ∙ w.if-is_pasting.false in
          absurd (cc (sym pasting ∙ idle))
      | in_default-via-in_default w ↦
          let not = w.in_default in
          c.in_ok-press_behind_paste-in_default.ensures.ok
          ∙ ap (after_user d c.args.fault (paste_ended d e)) w.key-is
          ∙ sym (pasted-key d c.args.fault e c.args.key pasting not.not-Insert not.not-Repaint not.not-Fill not.not-PasteStart not.not-PasteEnd not.not-Size not.not-Notice)
    ]
