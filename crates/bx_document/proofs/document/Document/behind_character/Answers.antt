use Rattle.std.proofs.Common.{◌≡◌, ◌+◌, ◌∙◌, IsCharBoundary, IsUtf8, ap, arith, drop, length, subst, sym, take}
use Rattle.bx_document.specs.Swapped.{behind_character}
use Rattle.bx_document.proofs.NextCharacters.{behind-bounds, behind-end, behind-first}
use Rattle.bx_document.proofs.document.Document.behind_character.Goals as goal
use Rattle.bx_document.proofs.document.Document.behind_character.Goals.{After-len_utf8}

pub returns-then-offset-stop-clause-behind : goal.returns-then-offset-stop-clause-behind
returns-then-offset-stop-clause-behind g c =
    let len = c.len-stop.ensures.len ∙ ap (λ s. length s.document.content.text) c.self.view_is in
    behind-end c.args.self.now.document.content.text c.args.offset (omega (arith, len, c.if-offset-stop.true))

-- behind a character that is read
behind : (g : _) (c : After-len_utf8 g)
    → c.args.offset + c.len_utf8.result ≡ behind_character c.args.self.now.document.content.text c.args.offset
behind g c =
    let part = c.part_at.result.now in
    let bytes = subst (λ s. take (length part) (drop c.args.offset s.document.content.text) ≡ part)
    c.self.view_is c.part_at.ensures.bytes in
    let first = behind-first c.args.self.now.document.content.text part c.in-Some.field-0-1.now c.args.offset c.in-Some.c
    c.part_at.utf8 bytes c.in-Some.ensures.2 in
    omega (arith, first, c.len_utf8.ensures.len)

pub returns-in-Some-clause-behind : goal.returns-in-Some-clause-behind
returns-in-Some-clause-behind g c = behind g ((goal.at.returns-in-Some-clause-behind g c).After-len_utf8)

pub returns-in-Some-clause-boundary : goal.returns-in-Some-clause-boundary
returns-in-Some-clause-boundary g c =
    let text = c.args.self.now.document.content.text in
    let utf8 = subst (λ s. IsUtf8 s.document.content.text) c.self.view_is c.len-stop.ensures.utf8 in
    subst (IsCharBoundary text) (sym (behind g ((goal.at.returns-in-Some-clause-boundary g c).After-len_utf8)))
    (behind-bounds text c.args.offset utf8 c.requires.bounds)
