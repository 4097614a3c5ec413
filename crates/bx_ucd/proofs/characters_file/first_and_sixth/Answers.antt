-- Five parts, the sixth, and nine of the rest.
use Rattle.std.proofs.Common.{◌≡◌, ◌+◌, arith, length}
use Rattle.bx_ucd.specs.CharactersFile.{semicolon_parts}
use Rattle.bx_ucd.proofs.CharacterLemmas.{parts_at, parts_counted}
use Rattle.bx_ucd.proofs.characters_file.first_and_sixth.Goals as goal

pub returns-then-separators-ne8 : goal.returns-then-separators-ne8
returns-then-separators-ne8 c count =
    let total : length (semicolon_parts c.args.text.now) ≡ 7 + c.separators.result =
    parts_counted _ _ c.in_ok-sixth.rest.now _ _ _ _ c.in_ok-first.ensures c.in_ok-skip_parts.ensures c.in_ok-sixth.ensures c.separators.ensures in
    c.if-separators-ne8.true (omega (arith, total, count))

pub returns : goal.returns
returns c =
    let total : length (semicolon_parts c.args.text.now) ≡ 7 + c.separators.result =
    parts_counted _ _ c.in_ok-sixth.rest.now _ _ _ _ c.in_ok-first.ensures c.in_ok-skip_parts.ensures c.in_ok-sixth.ensures c.separators.ensures in
    let at = parts_at _ _ _ _ _ _ c.in_ok-first.ensures c.in_ok-skip_parts.ensures c.in_ok-sixth.ensures in
    (omega (arith, total, c.if-separators-ne8.false), at.0, at.1)
