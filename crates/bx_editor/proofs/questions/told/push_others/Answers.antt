use Rattle.std.proofs.Common.{◌≡◌, ◌∙◌, ◌++◌, ℕ, true, false, List, [], chars, string_bytes, ap, sym, rules, append_assoc, append-nil}
use Rattle.std.specs.Prelude.{codes, is_some, if◌then◌else◌}
use Rattle.bx_editor.proofs.questions_lemmas.Others.{three, three-written, fifth-is}
use Rattle.bx_editor.proofs.questions.told.push_others.Goals as goal

pub returns-in_ok-push_str : goal.returns-in_ok-push_str
returns-in_ok-push_str g c =
    let ucd = g.D.BidiData.data c.args.tables.now in
    let cs = chars c.args.others.now in
    let old = string_bytes c.args.line.now in
    let third : List ℕ = string_bytes c.push_behind-3.new.line in
    let written = three-written ucd cs _ _ old _ _ _ _ _ _ c.next_char-second.ensures.first c.next_char-second.ensures.others
    c.next_char-third.ensures.first c.next_char-third.ensures.others c.next_char-fourth.ensures.first
    c.in_ok-push_behind.ensures c.in_ok-push_behind-2.ensures c.in_ok-push_behind-3.ensures in
    let fifth = fifth-is cs _ _ _ _ c.next_char-second.ensures.others c.next_char-third.ensures.others c.next_char-fourth.ensures.others
    c.next_char-fifth.ensures.first in
    let there : is_some c.next_char-fifth.result.0 ≡ true = search rules in
    let last : string_bytes c.push_str.new.self ≡ third ++ codes " ..." = search rules in
    last ∙ ap (λ (xs : List ℕ). xs ++ codes " ...") written ∙ append_assoc old (three ucd cs) (codes " ...")
    ∙ ap (λ b. old ++ (three ucd cs ++ (if b then codes " ..." else []))) (sym (fifth ∙ there))

pub returns-else-is_some : goal.returns-else-is_some
returns-else-is_some g c =
    let ucd = g.D.BidiData.data c.args.tables.now in
    let cs = chars c.args.others.now in
    let old = string_bytes c.args.line.now in
    let written = three-written ucd cs _ _ old _ _ _ _ _ _ c.next_char-second.ensures.first c.next_char-second.ensures.others
    c.next_char-third.ensures.first c.next_char-third.ensures.others c.next_char-fourth.ensures.first
    c.in_ok-push_behind.ensures c.in_ok-push_behind-2.ensures c.in_ok-push_behind-3.ensures in
    let fifth = fifth-is cs _ _ _ _ c.next_char-second.ensures.others c.next_char-third.ensures.others c.next_char-fourth.ensures.others
    c.next_char-fifth.ensures.first in
    let none : is_some c.next_char-fifth.result.0 ≡ false = search rules in
    written ∙ ap (λ (xs : List ℕ). old ++ xs) (sym (append-nil (three ucd cs)))
    ∙ ap (λ b. old ++ (three ucd cs ++ (if b then codes " ..." else []))) (sym (fifth ∙ none))
