-- One more entry is inserted.
use Rattle.std.proofs.Common.{◌∙◌}
use Rattle.bx_ucd.specs.CodeMap.{value_in}
use Rattle.bx_ucd.proofs.MapLemmas.{put_more}
use Rattle.bx_ucd.proofs.tables.bracket_map.Goals as goal

pub loop-entry-preserved : goal.loop-entry-preserved
loop-entry-preserved c code =
    c.loop-entry.invariant code
    ∙ put_more (λ e. e.bracket) (λ e. (e.side, e.paired)) c.args.entries.now c.loop-entry.entry-index _ code (value_in c.loop-entry.brackets code)
    (value_in c.insert.new.self code) c.loop-entry-test.true
    (c.in_ok-insert.ensures code)
