use Rattle.std.proofs.Common.{◌≡◌, ℕ, ◌+◌, ◌-◌, ◌∙◌, ap, sym, arith, drop, length}
use Rattle.std.proofs.Math.ListN.{length-set}
use Rattle.bx_levels.specs.embedding.ParagraphLevel.{isolate_level}
use Rattle.bx_levels.specs.embedding.TextLevels.{first_level}
use Rattle.bx_levels.proofs.embedding_lemmas.Texts.{texts-first}
use Rattle.bx_levels.proofs.embedding_lemmas.Backward.{done_more, texts_back}
use Rattle.bx_levels.proofs.embedding.isolates.isolate_levels.Goals as goal

pub loop-i-preserved : goal.loop-i-preserved
loop-i-preserved c =
    let j : ℕ = c.loop-i.i - 1 in
    let e : j + 1 ≡ c.loop-i.i = omega arith in
    let first : c.first.result ≡ isolate_level (drop (j + 1) c.args.classes.now) = c.first.ensures ∙ ap first_level c.loop-i.invariant.texts
    ∙ texts-first (drop c.loop-i.i c.args.classes.now) ∙ ap (λ k. isolate_level (drop k c.args.classes.now)) (sym e) in
    record {
      few = omega arith;
      as_long = length-set c.loop-i.levels.items j c.first.result ∙ c.loop-i.invariant.as_long;
      texts = texts_back c.args.classes.now c.loop-i.i j c.loop-i.texts c.put_before.new.self e c.loop-i.invariant.few c.loop-i.invariant.texts
          c.in_ok-put_before.ensures;
      done = done_more (λ k. isolate_level (drop (k + 1) c.args.classes.now)) c.loop-i.levels.items c.loop-i.i j (length c.args.classes.now) c.first.result 0 e
          c.loop-i.invariant.few c.loop-i.invariant.as_long first c.loop-i.invariant.done;
    }
