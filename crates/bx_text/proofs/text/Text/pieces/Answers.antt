use Rattle.std.proofs.Common.{◌≡◌, ℕ, List, length, ap, sym, subst, ◌∙◌, arith}
use Rattle.std.proofs.lemmas.Str.{IsCharBoundary-start, IsCharBoundary-end}
use Rattle.std.specs.Prelude.{slice_range}
use Rattle.std.specs.Str.{IsCharBoundary}
use Rattle.bx_text.proofs.Lent.{range_whole, joined_all}
use Rattle.bx_text.proofs.text.Text.pieces.Goals as goal

pub new-requires : goal.new-requires
new-requires c =
    let text : List ℕ = c.args.self.now.edited.text in
    record {
      start_bounds = IsCharBoundary-start text c.len.ensures.utf8;
      stop_bounds = subst (IsCharBoundary text) (sym c.len.ensures.len) (IsCharBoundary-end text);
      in_order = omega arith;
    }

whole : (text : List ℕ) (n : ℕ) → n ≡ length text → slice_range text 0 n ≡ text
whole text n e = ap (slice_range text 0) e ∙ range_whole text

pub returns-clause-text : goal.returns-clause-text
returns-clause-text c = c.new.ensures ∙ whole c.args.self.now.edited.text c.len.result c.len.ensures.len

pub returns-clause-joined : goal.returns-clause-joined
returns-clause-joined c slices all =
    joined_all slices c.new.result all ∙ c.new.ensures ∙ whole c.args.self.now.edited.text c.len.result c.len.ensures.len
