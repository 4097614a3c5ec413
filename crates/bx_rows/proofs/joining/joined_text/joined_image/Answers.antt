use Rattle.std.proofs.Common.{◌≡◌, ◌+◌, ◌++◌, ℕ, List, Fits, IsUtf8, append-nil, append_assoc, get_or, length, rules, subst, sym, w64, ap, ◌∙◌, arith}
use Rattle.std.specs.Prelude.{encode_utf8, string_bytes, unwrap_or}
use Rattle.std.proofs.lemmas.Str.{IsUtf8-past_char}
use Rattle.bx_ucd.specs.declared.joining.Form.TheVariants.{Isolated}
use Rattle.bx_rows.specs.joining.JoinedText.{joined_image}
use Rattle.bx_rows.specs.joining.Joining.{body_forms, text_forms}
use Rattle.bx_rows.specs.joining.Places.{StandsAt}
use Rattle.bx_rows.proofs.joining_lemmas.StandOn.{counted_within, stand_on}
use Rattle.bx_rows.proofs.joining_lemmas.TextForms.{image_none, image_step, no_chars}
use Rattle.bx_rows.proofs.joining.joined_text.joined_image.Goals as goal

pub returns-in_default-first_char : goal.returns-in_default-first_char
returns-in_default-first_char g c =
    let ucd = g.D.BidiData.data c.args.tables.now in
    let at = c.args.at in
    let forms = text_forms ucd at.body.text.now at.body.each.now c.loop-letter.number c.loop-letter.rest.now in
    let done = string_bytes c.loop-letter.other in
    sym (c.loop-letter.invariant.whole
    ∙ ap (λ (bs : List ℕ). done ++ bs) (image_none ucd forms c.loop-letter.rest.now c.loop-letter.left.now (no_chars c.loop-letter.left.now c.in_default-first_char.ensures))
    ∙ append-nil done)

pub overflow_add-number : goal.overflow_add-number
overflow_add-number g c =
    let body = c.args.at.body.text.now in
    let u : IsUtf8 body = subst IsUtf8 c.text.ensures c.text.utf8 in
    let next = stand_on body c.loop-letter.rest.now c.in-Some.after.now c.loop-letter.offset c.loop-letter.number c.in-Some.letter u c.loop-letter.invariant.stands c.in-Some.ensures.0 in
    let within = counted_within body c.in-Some.after.now _ _ u next in
    let fits : Fits w64 (c.loop-letter.offset + c.len_utf8-offset.result) = search rules in
    omega (arith, within, c.len_utf8-offset.ensures.value, fits)

pub loop-letter-preserved : goal.loop-letter-preserved
loop-letter-preserved g c =
    let ucd = g.D.BidiData.data c.args.tables.now in
    let at = c.args.at in
    let body = at.body.text.now in
    let each = at.body.each.now in
    let number = c.loop-letter.number in
    let letter = c.in-Some.letter in
    let old = c.in-Some-first_char.c in
    let rest = c.loop-letter.rest.now in
    let left = c.loop-letter.left.now in
    let after = c.in-Some.after.now in
    let behind = c.in-Some-first_char.behind.now in
    let read = c.in-Some.ensures in
    let shown = c.in-Some-first_char.ensures in
    let u : IsUtf8 body = subst IsUtf8 c.text.ensures c.text.utf8 in
    let next = stand_on body rest after c.loop-letter.offset number letter u c.loop-letter.invariant.stands read.0 in
    let done = string_bytes c.loop-letter.other in
    let more = joined_image ucd (text_forms ucd body each (number + 1) after) after behind in
    let form : c.shown_form.result ≡ ucd.form letter (get_or (body_forms ucd body each) number Isolated) =
    c.shown_form.ensures ∙ ap (λ (t : List ℕ). ucd.form letter (get_or (body_forms ucd t each) number Isolated)) c.text.ensures in
    let one = encode_utf8 (unwrap_or (ucd.form letter (get_or (body_forms ucd body each) number Isolated)) old) in
    let pushed : string_bytes c.push.new.self ≡ done ++ one =
    c.in_ok-push.ensures.bytes ∙ ap (λ x. done ++ encode_utf8 x) (c.unwrap_or.ensures ∙ ap (λ o. unwrap_or o old) form) in
    record {
      text = IsUtf8-past_char rest after letter c.loop-letter.invariant.text read.0;
      shown = IsUtf8-past_char left behind old c.loop-letter.invariant.shown shown.0;
      stands = subst (λ n. StandsAt body after (c.loop-letter.offset + n) (number + 1)) (sym c.len_utf8-offset.ensures.value) next;
      count = omega (arith, c.loop-letter.invariant.count, ap length read.2, ap length shown.2);
      whole = c.loop-letter.invariant.whole
          ∙ ap (λ (bs : List ℕ). done ++ bs) (image_step ucd body each number letter old rest after left behind read.2 shown.2)
          ∙ sym (append_assoc done one more) ∙ ap (λ (bs : List ℕ). bs ++ more) (sym pushed);
    }

pub returns : goal.returns
returns g c =
    let ucd = g.D.BidiData.data c.args.tables.now in
    let at = c.args.at in
    let forms = text_forms ucd at.body.text.now at.body.each.now c.loop-letter.number c.loop-letter.rest.now in
    let done = string_bytes c.loop-letter.other in
    sym (c.loop-letter.invariant.whole
    ∙ ap (λ (bs : List ℕ). done ++ bs)
    (image_none ucd forms c.loop-letter.rest.now c.loop-letter.left.now (c.loop-letter.invariant.count ∙ no_chars c.loop-letter.rest.now c.in_default.ensures))
    ∙ append-nil done)
