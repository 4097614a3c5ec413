use Rattle.std.proofs.Common.{◌≡◌, subst, ◌∙◌}
use Rattle.std.specs.Prelude.{OnOk}
use Rattle.bx_paint.proofs.Clips.{clip_is}
use Rattle.bx_paint.proofs.clip.write_clip.Goals as goal

pub returns-clause-bytes : goal.returns-clause-bytes
returns-clause-bytes c =
    subst (λ all. OnOk c.push.result (c.push.new.self.painting ≡ all))
    (clip_is c.args.out.now.painting c.append.new.self.painting c.append-2.new.self.painting c.as_bytes.result.now c.args.held.now c.requires
    c.in_ok-append.ensures.bytes c.in_ok-append-2.ensures.bytes (c.as_bytes.ensures.value ∙ c.in_ok-base64.ensures.text))
    c.push.ensures.bytes
