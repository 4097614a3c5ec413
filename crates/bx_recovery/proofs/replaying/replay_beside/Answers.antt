use Rattle.std.proofs.Common.{◌≡◌, ◌≤◌, ◌+◌, ◌⊎◌, ◌↔◌, Contains, IsTrue, List, [], ℕ, drop, get_or, length, refl, sym, ap, subst, ◌∙◌, arith}
use Rattle.std.proofs.lemmas.List.{drop_all, drop_more, take_all, take_more}
use Rattle.bx_ucd.specs.Data.{Data}
use Rattle.bx_keys.specs.Keys.{head_of, key_after, rest_after}
use Rattle.bx_session.specs.Inputs.{keys_in, presses_from}
use Rattle.bx_session.specs.Feeding.{SessionState}
use Rattle.bx_session.specs.Replaying.{after_replayed_press}
use Rattle.bx_recovery.proofs.Replays.{HasMet, holds_beside, journal_is, met_at_first, met_byte, met_more, one_key_at_most, replayed_one}
use Rattle.bx_recovery.specs.Recovery.{known_texts, texts_at_saves}
use Rattle.bx_recovery.proofs.replaying.replay_beside.Goals as goal

pub loop-byte-init : goal.loop-byte-init
loop-byte-init g c =
    let ucd : g.row.D.Denot → Data = g.D.BidiData.data in
    let old = c.args.session.now in
    let all = presses_from [] c.args.keys.now in record {
      goes = (record { session = refl; rest = c.new-decoder.ensures.is_head }, refl);
      met = subst (λ waits. HasMet (ucd old.tables) old.session old.session all (presses_from waits c.args.keys.now) c.args.file.now c.has_text.result 0)
          (sym c.new-decoder.ensures.is_head)
          (met_at_first (ucd old.tables) old.session all c.args.file.now c.has_text.result c.has_text.ensures);
      few = omega arith;
    }

pub loop-byte-preserved : goal.loop-byte-preserved
loop-byte-preserved g c =
    let ucd : g.row.D.Denot → Data = g.D.BidiData.data in
    let old = c.args.session.now in
    let mid = c.loop-byte.session in
    let was = c.loop-byte.invariant in
    let keys = c.args.keys.now in
    let all = presses_from [] keys in
    let at = c.loop-byte.byte-index in
    let b = get_or keys at 0 in
    let d = ucd old.tables in
    let waits = c.loop-byte.decoder in
    let waits_now = c.feed-key.new.self in
    let key = c.feed-key.result in
    let gives : key ≡ key_after waits b = c.feed-key.ensures.key waits c.feed-key.ensures.own in
    let keeps : waits_now ≡ head_of (rest_after waits b) = (c.feed-key.ensures.rest waits c.feed-key.ensures.own).is_head in
    let next : c.press_again.new.self.session ≡ after_replayed_press d mid.session key =
    ap (λ (s : SessionState g.row.D.Denot). s.session) c.in_ok-press_again.ensures.after_press
    ∙ ap (λ (t : g.row.D.Denot). after_replayed_press (ucd t) mid.session key) was.goes.1 in
    let met = met_byte d old.session mid.session all (drop at keys) (drop (at + 1) keys) c.args.file.now waits waits_now b key
    c.loop-byte.met.is_known c.loop-byte.met.keys was.met (drop_more keys at 0 c.loop-byte-test.true) gives keeps in record {
      goes = replayed_one ucd old.tables mid c.press_again.new.self old.session keys at b waits waits_now key was.goes
          (take_more keys at 0 c.loop-byte-test.true) gives keeps c.in_ok-press_again.ensures.after_press;
      met = met_more d old.session mid.session c.press_again.new.self.session all (presses_from waits_now (drop (at + 1) keys)) c.args.file.now key
          c.stores-stores.result c.loop-byte.met.is_known _ c.loop-byte.met.keys _ met c.stores-stores.ensures c.met_with-met.ensures.known
          c.met_with-met.ensures.keys next;
      few = let one = one_key_at_most key in omega (arith, one, was.few, c.met_with-met.ensures.keys);
    }

pub returns-clause-replays : goal.returns-clause-replays
returns-clause-replays g c =
    let ucd : g.row.D.Denot → Data = g.D.BidiData.data in
    let keys = c.args.keys.now in
    journal_is ucd c.args.session.now.tables c.loop-byte.session c.end_replay.new.self c.args.session.now.session keys _ c.loop-byte.decoder
    c.loop-byte.invariant.goes (take_all c.loop-byte.byte-index keys (omega (arith, c.loop-byte-test.false))) c.in_ok-end_replay.ensures.ok

pub returns-clause-holds : goal.returns-clause-holds
returns-clause-holds g c =
    let d = g.D.BidiData.data c.args.session.now.tables in
    let old = c.args.session.now.session in
    let keys = c.args.keys.now in
    let all = presses_from [] keys in
    let file = c.args.file.now in
    let known = c.loop-byte.met.is_known in
    let knows = subst
    (λ (more : List ℕ). (IsTrue known ⊎ Contains (texts_at_saves d c.loop-byte.session.session (presses_from c.loop-byte.decoder more)) file)
    ↔ Contains (known_texts d old all) file)
    (drop_all c.loop-byte.byte-index keys (omega (arith, c.loop-byte-test.false))) c.loop-byte.invariant.met.known in
    holds_beside d old c.end_replay.new.self.session all file c.has_text-2.result known c.held_by.result (returns-clause-replays g c) c.has_text-2.ensures knows
    c.held_by.ensures.same c.held_by.ensures.known c.held_by.ensures.foreign

pub returns-clause-keys : goal.returns-clause-keys
returns-clause-keys g c =
    let keys = c.args.keys.now in
    let none : length (keys_in (presses_from c.loop-byte.decoder (drop c.loop-byte.byte-index keys))) ≡ 0 =
    ap (λ (more : List ℕ). length (keys_in (presses_from c.loop-byte.decoder more)))
    (drop_all c.loop-byte.byte-index keys (omega (arith, c.loop-byte-test.false))) in
    omega (arith, none, c.loop-byte.invariant.met.keys)
