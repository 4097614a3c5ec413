use Rattle.std.proofs.Common.{◌∙◌, ap, arith}
use Rattle.bx_text.specs.index.Flat.{flat}
use Rattle.bx_text.proofs.index_lemmas.Spliced.{total_outside, length_outside, put_between}
use Rattle.bx_text.proofs.index.rescan.replace.Goals as goal

pub insert_scanned-position-requires-clause-short : goal.insert_scanned-position-requires-clause-short
insert_scanned-position-requires-clause-short g c =
    omega (
      arith,
      c.requires.short,
      total_outside c.take_out-position.new.self.blocks (flat c.args.blocks.now.blocks) c.take_out-position.result
          c.args.from.number c.args.to c.take_out-position.ensures.front c.take_out-position.ensures.back c.requires.order,
    )

pub insert_scanned-position-requires-clause-few : goal.insert_scanned-position-requires-clause-few
insert_scanned-position-requires-clause-few g c =
    omega (
      arith,
      c.requires.few,
      length_outside c.take_out-position.new.self.blocks (flat c.args.blocks.now.blocks) c.take_out-position.result
          c.args.from.number c.args.to c.take_out-position.ensures.front c.take_out-position.ensures.back c.requires.order,
    )

pub returns-clause-paragraphs : goal.returns-clause-paragraphs
returns-clause-paragraphs g c =
    ap flat c.release.ensures
    ∙ c.join.ensures.paragraphs
    ∙ put_between c.insert_scanned-position.new.blocks.blocks c.insert_scanned-position.result.0 _ _ _ _ _ c.insert_scanned-position.ensures.front c.take_out-position.ensures.front
    c.insert_scanned-position.ensures.back c.take_out-position.ensures.back
