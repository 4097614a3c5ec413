use Rattle.std.proofs.Common.{ℕ, List, ◌≡◌, ◌+◌, ◌++◌, ◌∙◌, [], ◌∷◌, ap, sym, drop, append_assoc, append-nil}
use Rattle.std.proofs.lemmas.List.{drop_all}
use Rattle.bx_find.specs.Letters.{letters_of_parts}
use Rattle.bx_find.proofs.LettersOf.{by_parts, parts_more, room}
use Rattle.bx_find.proofs.ReadOn.{next_of}
use Rattle.bx_find.proofs.letters.wide_letters.Goals as goal

pub loop-part-init : goal.loop-part-init
loop-part-init g c =
    ap (λ (ls : List ℕ). ls ++ letters_of_parts (g.D.BidiData.data c.args.tables.now) c.decomposition-part-items.result.now) c.new-letters.ensures

pub push_part-requires : goal.push_part-requires
push_part-requires g c =
    let parts = c.decomposition-part-items.result.now in
    let next = next_of parts c.loop-part.part-index c.part-item.result c.loop-part-test.true c.part-item.is in
    room (g.D.BidiData.data c.args.tables.now) c.args.c c.loop-part.part-index c.part-item.result parts c.loop-part.letters.items
    c.decomposition-part-items.ensures.value next c.loop-part.invariant

pub loop-part-preserved : goal.loop-part-preserved
loop-part-preserved g c =
    let ucd = g.D.BidiData.data c.args.tables.now in
    let parts = c.decomposition-part-items.result.now in
    let behind = letters_of_parts ucd (drop (c.loop-part.part-index + 1) parts) in
    let next = next_of parts c.loop-part.part-index c.part-item.result c.loop-part-test.true c.part-item.is in
    ap (λ (ls : List ℕ). ls ++ behind) c.push_part.ensures
    ∙ append_assoc c.loop-part.letters.items (letters_of_parts ucd (c.part-item.result ∷ [])) behind
    ∙ ap (λ (ls : List ℕ). c.loop-part.letters.items ++ ls)
    (sym (ap (letters_of_parts ucd) next ∙ parts_more ucd c.part-item.result (drop (c.loop-part.part-index + 1) parts)))
    ∙ c.loop-part.invariant

pub returns : goal.returns
returns g c =
    let ucd = g.D.BidiData.data c.args.tables.now in
    let parts = c.decomposition-part-items.result.now in
    let none : drop c.loop-part.part-index parts ≡ [] = drop_all c.loop-part.part-index parts c.loop-part-test.false in
    sym (append-nil c.loop-part.letters.items)
    ∙ ap (λ (cs : List ℕ). c.loop-part.letters.items ++ letters_of_parts ucd cs) (sym none) ∙ c.loop-part.invariant
    ∙ ap (letters_of_parts ucd) c.decomposition-part-items.ensures.value ∙ sym (by_parts ucd c.args.c)
