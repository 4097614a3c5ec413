use Rattle.std.proofs.Common.{map, option_map, option_to_list}
use Rattle.bx_input.specs.Models.{keys_in}
use Rattle.bx_input.specs.Scan.{Known, passed}
use Rattle.bx_input.proofs.Parts.{rest_of_three, keys_of_three}
use Rattle.bx_input.proofs.machine.read_parts.Goals as goal

pub returns-clause-rest : goal.returns-clause-rest
returns-clause-rest c =
    rest_of_three c.args.items.now c.pass_all.new.items c.pass_one.new.items c.give.new.items
    (passed c.args.waiting.now) (passed (option_to_list c.args.byte)) (map Known (option_to_list (option_map keys_in c.args.known)))
    c.in_ok-pass_all.ensures.rest c.in_ok-pass_one.ensures.rest c.in_ok-give.ensures.rest

pub returns-clause-keys : goal.returns-clause-keys
returns-clause-keys c =
    keys_of_three c.args.items.now c.pass_all.new.items c.pass_one.new.items c.give.new.items
    (passed c.args.waiting.now) (passed (option_to_list c.args.byte)) (map Known (option_to_list (option_map keys_in c.args.known)))
    c.in_ok-pass_all.ensures.rest c.in_ok-pass_one.ensures.rest
    c.args.out.now.items c.pass_all.new.out.items c.pass_one.new.out.items c.give.new.out.items
    c.in_ok-pass_all.ensures.keys c.in_ok-pass_one.ensures.keys c.in_ok-give.ensures.keys
