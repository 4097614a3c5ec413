use Rattle.std.proofs.Common.{◌≡◌, ◌*◌, length, ap, ◌∙◌, sym}
use Rattle.std.proofs.lemmas.List.{length-map, length-replicate}
use Rattle.bx_grid.specs.Columns.{Unknown}
use Rattle.bx_grid.specs.Seen.{seen}
use Rattle.bx_grid.specs.Tokens.{fate}
use Rattle.bx_terminal.proofs.Uncut.{uncut_along, uncut_unknown}
use Rattle.bx_terminal.proofs.live.Live.new.Goals as goal

pub invariant_of-result : goal.invariant_of-result
invariant_of-result c =
    let is = c.in_ok-columns.ensures in
    let count : length c.in_ok-columns.columns.items ≡ c.args.height * c.args.width =
    sym (length-map c.in_ok-columns.columns.items seen) ∙ ap length is ∙ length-replicate (c.args.height * c.args.width) Unknown in
    record {
      sized = record { low = c.requires.tall.0; high = c.requires.tall.1; narrow = c.requires.wide.0; wide = c.requires.wide.1; each = count };
      position = tt;
      waits = ap fate c.new-2.ensures.items;
      uncut = uncut_along c.args.height c.args.width _ _ (sym is) (uncut_unknown c.args.height c.args.width);
    }
