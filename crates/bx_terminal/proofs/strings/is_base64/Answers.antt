use Rattle.bx_terminal.proofs.StringBytes.{decodes, decodes_not}
use Rattle.bx_terminal.proofs.strings.is_base64.Goals as goal

pub returns-in-Ok : goal.returns-in-Ok
returns-in-Ok c = decodes c.args.text.now _ c.in-Ok.ensures.ok

pub returns-in-Err-DecodeError : goal.returns-in-Err-DecodeError
returns-in-Err-DecodeError c =
    let failed = c.in-Err-DecodeError in decodes_not c.args.text.now failed.field-0 failed.field-0-0 failed.field-0-is failed.ensures.err
