use Rattle.std.proofs.Common.{◌≡◌, ◌≢◌, ℕ, ◌<◌, ◌∷◌, length, sym, ap, ◌∙◌, arith}
use Rattle.std.proofs.lemmas.List.Elements.{All-rest}
use Rattle.memchr.specs.Find.{Passes, is_byte}
use Rattle.memchr.proofs.lemmas.CallerLemmas.{All-places}
use Rattle.bx_command.proofs.Starts.{at_first, behind_a_feed, last_start}
use Rattle.bx_command.proofs.line.start_of_line.Goals as goal

pub loop-left-init : goal.loop-left-init
loop-left-init c = (
  rw (c.memchr_iter-feeds.ensures.value, c.saturating_sub-left.ensures) (at_first c.args.text.now c.args.line),
  rw c.memchr_iter-feeds.ensures.value (All-places (is_byte 0x0a) c.args.text.now),
)

pub loop-left-preserved : goal.loop-left-preserved
loop-left-preserved c =
    let feed = c.in-Some.feed in
    let rest = c.next.new.self in
    let step : c.loop-left.feeds ≡ feed ∷ rest = c.in-Some.ensures.steps in
    let some : c.loop-left.left ≢ 0 = λ e. omega (arith, e, c.loop-left-test.true) in (
      sym (behind_a_feed feed rest c.loop-left.start c.loop-left.left some)
          ∙ ap (λ feeds. last_start feeds c.loop-left.start c.loop-left.left) (sym step)
          ∙ c.loop-left.invariant.0,
      All-rest (λ (k : ℕ). (k < length c.args.text.now) × Passes (is_byte 0x0a) c.args.text.now k) feed rest c.loop-left.feeds step c.loop-left.invariant.1,
    )
