use Rattle.std.proofs.Common.{◌≡◌, Some, [], arith, rules}
use Rattle.bx_input.specs.Frames.{Frame, first_frame}
use Rattle.bx_input.specs.Heard.{Reading}
use Rattle.bx_input.proofs.Hearing.{takes, whole}
use Rattle.bx_input.proofs.inbox.Inbox.take_frame.Goals as goal

pub returns-clause-left : goal.returns-clause-left
returns-clause-left c =
    let f : Frame = record { letter = c.in-Some.frame.letter; bytes = c.in-Some.frame.bytes.now } in
    let new : Reading = record {
      machine = c.translate.new.machine;
      held = c.drop-drain.new.self.0.items;
      ready = c.translate.new.out.items;
      is_over = c.self.inside.is_over;
    } in
    takes c.args.self.now new f c.requires.ready c.requires.open (search rules) (search rules) (search rules) (search rules) (search rules)

pub drain-requires-clause-in_bounds : goal.drain-requires-clause-in_bounds
drain-requires-clause-in_bounds c =
    let f : Frame = record { letter = c.in-Some.frame.letter; bytes = c.in-Some.frame.bytes.now } in
    let is : first_frame c.as_slice.result.now ≡ Some f = c.in-Some.ensures in
    let fits = (whole c.as_slice.result.now [] f is).fits in
    omega (arith, fits, c.as_slice.ensures.len)
