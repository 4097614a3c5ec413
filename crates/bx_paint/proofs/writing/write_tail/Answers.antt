use Rattle.std.proofs.Common.{◌≡◌, ◌+◌, ◌++◌, append_assoc, ap, sym, ◌∙◌, true, false, refl}
use Rattle.std.proofs.lemmas.List.{append-nil, length-map}
use Rattle.std.specs.List.{list_all}
use Rattle.bx_grid.specs.Columns.{is_blank}
use Rattle.bx_grid.specs.Seen.{seen, all_seen}
use Rattle.bx_paint.specs.Painting.{leading_blanks, move_bytes, render_change, erase_bytes}
use Rattle.bx_paint.proofs.Sent.{all_blank_is, some_not_blank}
use Rattle.bx_paint.proofs.writing.write_tail.Goals as goal

all_blank : (c : goal.Then-blanks-old) → list_all is_blank (all_seen c.args.old.now) ≡ true
all_blank c = all_blank_is (all_seen c.args.old.now) (sym c.blanks_len-blanks.ensures.blanks ∙ c.if-blanks-old.true ∙ sym (length-map c.args.old.now seen))

pub returns-then-blanks-old-clause-bytes : goal.returns-then-blanks-old-clause-bytes
returns-then-blanks-old-clause-bytes c = rw (all_blank c) (sym (append-nil c.args.out.now.painting))

pub returns-then-blanks-old-clause-rendition : goal.returns-then-blanks-old-clause-rendition
returns-then-blanks-old-clause-rendition c = rw (all_blank c) refl

some_left : (c : goal.In_ok-append) → list_all is_blank (all_seen c.args.old.now) ≡ false
some_left c =
    let old = c.args.old.now in
    some_not_blank (all_seen old) (λ e. c.if-blanks-old.false (c.blanks_len-blanks.ensures.blanks ∙ e ∙ length-map old seen))

pub returns-clause-bytes : goal.returns-clause-bytes
returns-clause-bytes c =
    let out = c.args.out.now.painting in
    let blanks = leading_blanks (all_seen c.args.old.now) in
    let move = move_bytes c.args.row (c.args.column + blanks) in
    let turn = render_change c.args.negative false in
    let moved : c.write_move.new.out.painting ≡ out ++ move =
    c.in_ok-write_move.ensures.bytes ∙ ap (λ n. out ++ move_bytes c.args.row (c.args.column + n)) c.blanks_len-blanks.ensures.blanks in
    rw (some_left c)
    (c.in_ok-append.ensures.bytes
    ∙ ap (λ xs. xs ++ erase_bytes) (c.in_ok-write_rendition.ensures.bytes ∙ ap (λ xs. xs ++ turn) moved)
    ∙ append_assoc (out ++ move) turn erase_bytes
    ∙ append_assoc out move (turn ++ erase_bytes))

pub returns-clause-rendition : goal.returns-clause-rendition
returns-clause-rendition c = rw (some_left c) refl
