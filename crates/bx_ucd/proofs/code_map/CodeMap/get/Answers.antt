use Rattle.std.proofs.Common.{◌≡◌, ◌%◌, ◌<◌, ◌∙◌, ℕ, None, Some, ap, arith, get_or, length, sym}
use Rattle.std.specs.BTreeMap.{get}
use Rattle.std.specs.Ordering.{nat_cmp}
use Rattle.std.proofs.lemmas.List.{get_or_default}
use Rattle.bx_ucd.proofs.code_map.CodeMap.get.Goals as goal

pub returns-then-found-c : goal.returns-then-found-c
returns-then-found-c g c =
    let map = c.args.self.now in
    let k : ℕ = c.args.c % 8192 in
    let within : k < length map.slots.items = omega (arith, map.complete) in
    let slot : get_or map.slots.items k None ≡ Some (c.in_ok-found.found, c.in_ok-found.value) =
    get_or_default map.slots.items k None c.index.result.now within ∙ sym c.index.ensures ∙ c.in_ok-found.was in
    let kept = map.kept k (c.in_ok-found.found, c.in_ok-found.value) slot in
    sym kept.1 ∙ ap (get nat_cmp map.each) c.if-found-c.true
