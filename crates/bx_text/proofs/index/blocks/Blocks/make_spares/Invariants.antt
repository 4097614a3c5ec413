-- The blocks stay, and each turn makes one more ahead.
use Rattle.std.proofs.Common.{◌≡◌, ◌≤◌}
use Rattle.bx_text.proofs.index.blocks.Blocks.make_spares.Given as goal

abbrev pub invariant-loop-made : goal.invariant-loop-made
invariant-loop-made l = record {
  blocks : l.self.blocks ≡ l.fn.self.blocks;
  no_fewer : l.fn.self.spares ≤ l.self.spares;
  made : l._made ≤ l.self.spares;
}
