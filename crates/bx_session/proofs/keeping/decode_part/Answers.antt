use Rattle.std.proofs.Common.{◌∙◌, ◌+◌, ap, drop, get_or, take, Option, subst, sym}
use Rattle.std.proofs.lemmas.List.{drop_more, take_more}
use Rattle.std.proofs.lemmas.List.Elements.{All-push}
use Rattle.std.specs.Prelude.{IfSome, All}
use Rattle.bx_keys.specs.Decoder.{HasSides}
use Rattle.bx_keys.specs.declared.key.Key.{Key}
use Rattle.bx_session.specs.Inputs.{presses_from, rest_from}
use Rattle.bx_session.specs.Parts.{part_length}
use Rattle.bx_session.proofs.QuitParts.{left_more}
use Rattle.bx_session.proofs.Typing.{decoded_more}
use Rattle.bx_session.proofs.keeping.decode_part.Goals as goal

pub returns-then-is_quit-clause-presses : goal.returns-then-is_quit-clause-presses
returns-then-is_quit-clause-presses c =
    let was = c.loop-byte.invariant in
    let at = c.loop-byte.byte-index in
    let bytes = c.args.bytes.now in
    let on =
    decoded_more c.args.decoder.now bytes c.loop-byte.decoder c.feed-key.new.self at (get_or bytes at 0) c.loop-byte.presses.items c.push.new.self.items
    c.feed-key.result was.presses was.waits (take_more bytes at 0 c.loop-byte-test.true) (c.feed-key.ensures.key c.loop-byte.decoder c.feed-key.ensures.own)
    (c.feed-key.ensures.rest c.loop-byte.decoder c.feed-key.ensures.own).is_head c.push.ensures.items in
    on.0 ∙ ap (λ n. presses_from c.args.decoder.now (take (n + 1) bytes)) (sym was.count)

pub returns-then-is_quit-clause-waits : goal.returns-then-is_quit-clause-waits
returns-then-is_quit-clause-waits c =
    let was = c.loop-byte.invariant in
    let at = c.loop-byte.byte-index in
    let bytes = c.args.bytes.now in
    let on =
    decoded_more c.args.decoder.now bytes c.loop-byte.decoder c.feed-key.new.self at (get_or bytes at 0) c.loop-byte.presses.items c.push.new.self.items
    c.feed-key.result was.presses was.waits (take_more bytes at 0 c.loop-byte-test.true) (c.feed-key.ensures.key c.loop-byte.decoder c.feed-key.ensures.own)
    (c.feed-key.ensures.rest c.loop-byte.decoder c.feed-key.ensures.own).is_head c.push.ensures.items in
    on.1 ∙ ap (λ n. rest_from c.args.decoder.now (take (n + 1) bytes)) (sym was.count)

pub returns-then-is_quit-clause-sides : goal.returns-then-is_quit-clause-sides
returns-then-is_quit-clause-sides c =
    subst (All (λ (key : Option Key). IfSome key HasSides)) (sym c.push.ensures.items)
    (All-push (λ (key : Option Key). IfSome key HasSides) c.loop-byte.presses.items c.feed-key.result c.loop-byte.invariant.sides c.feed-key.ensures.sides)

pub loop-byte-preserved : goal.loop-byte-preserved
loop-byte-preserved c =
    let was = c.loop-byte.invariant in
    let at = c.loop-byte.byte-index in
    let bytes = c.args.bytes.now in
    let on =
    decoded_more c.args.decoder.now bytes c.loop-byte.decoder c.feed-key.new.self at (get_or bytes at 0) c.loop-byte.presses.items c.push.new.self.items
    c.feed-key.result was.presses was.waits (take_more bytes at 0 c.loop-byte-test.true) (c.feed-key.ensures.key c.loop-byte.decoder c.feed-key.ensures.own)
    (c.feed-key.ensures.rest c.loop-byte.decoder c.feed-key.ensures.own).is_head c.push.ensures.items in record {
      count = ap (λ n. n + 1) was.count;
      room = c.push.ensures.len ∙ ap (λ n. n + 1) was.room;
      left = left_more c.loop-byte.decoder c.feed-key.new.self (get_or bytes at 0) (drop (at + 1) bytes) c.feed-key.result c.loop-byte.count
          (part_length c.args.decoder.now bytes)
          (ap (λ xs. c.loop-byte.count + part_length c.loop-byte.decoder xs) (sym (drop_more bytes at 0 c.loop-byte-test.true)) ∙ was.left)
          (sym c.is_quit.ensures ∙ c.if-is_quit.false) (c.feed-key.ensures.key c.loop-byte.decoder c.feed-key.ensures.own)
          (c.feed-key.ensures.rest c.loop-byte.decoder c.feed-key.ensures.own).is_head;
      presses = on.0;
      waits = on.1;
      sides = subst (All (λ (key : Option Key). IfSome key HasSides)) (sym c.push.ensures.items)
          (All-push (λ (key : Option Key). IfSome key HasSides) c.loop-byte.presses.items c.feed-key.result was.sides c.feed-key.ensures.sides);
    }
