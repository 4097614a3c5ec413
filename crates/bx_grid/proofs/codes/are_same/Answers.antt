use Rattle.std.proofs.Common.{◌≡◌, true, nat_lt, sym, ◌∙◌, arith}
use Rattle.std.proofs.lemmas.Bool.Decides.{nat_tests}
use Rattle.bx_grid.specs.Codes.{no_code}
use Rattle.std.proofs.lemmas.List.{length-map}
use Rattle.bx_grid.specs.Seen.{seen, all_seen}
use Rattle.bx_grid.proofs.Coded.{as_many, same_by_codes, differ_by_codes}
use Rattle.bx_grid.proofs.Equal.{unequal_lengths}
use Rattle.bx_grid.proofs.codes.are_same.Goals as goal

pub bits_of-bits-requires : goal.bits_of-bits-requires
bits_of-bits-requires c =
    as_many c.args.columns.now c.args.others.now c.args.codes.now c.args.other_codes.now c.if-columns-others.false c.requires.codes c.requires.others

pub returns-then-columns-others : goal.returns-then-columns-others
returns-then-columns-others c =
    let columns = c.args.columns.now in
    let others = c.args.others.now in
    sym (unequal_lengths (all_seen columns) (all_seen others)
    (λ e. c.if-columns-others.true (sym (length-map columns seen) ∙ e ∙ length-map others seen)))

pub returns-then-bits-ne0 : goal.returns-then-bits-ne0
returns-then-bits-ne0 c =
    differ_by_codes (all_seen c.args.columns.now) (all_seen c.args.others.now) c.args.codes.now c.args.other_codes.now c.requires.codes c.requires.others
    (λ e. c.if-bits-ne0.true (c.bits_of-bits.ensures.none e))

pub returns-then-bits-lt-NO_CODE : goal.returns-then-bits-lt-NO_CODE
returns-then-bits-lt-NO_CODE c =
    let told : nat_lt c.bits_of-bits.result.any no_code ≡ true = grind (arith, nat_tests) in
    told ∙ sym (same_by_codes (all_seen c.args.columns.now) (all_seen c.args.others.now) c.args.codes.now c.args.other_codes.now c.requires.codes
    c.requires.others (c.bits_of-bits.ensures.same c.if-bits-ne0.false) (c.bits_of-bits.ensures.told c.if-bits-lt-NO_CODE.true))
