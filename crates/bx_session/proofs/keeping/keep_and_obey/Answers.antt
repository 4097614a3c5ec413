use Rattle.std.proofs.Common.{◌≡◌, ◌≤◌, ◌∷◌, [], ◌++◌, ℕ, List, length, map, refl, rules, subst, sym, ap, ◌∙◌, arith}
use Rattle.std.proofs.lemmas.List.{length-append}
use Rattle.bx_ucd.specs.Data.{Data}
use Rattle.bx_session.specs.Inputs.{presses_from, rest_from}
use Rattle.bx_session.specs.Log.{AreTaken, Obeys, Part}
use Rattle.bx_session.specs.Running.{PressesAll}
use Rattle.bx_session.specs.Session.{StoreState}
use Rattle.bx_session.proofs.QuitParts.{part_more, part_most, part_some}
use Rattle.bx_session.proofs.Steps.{part_taken, parts_from_both, pressed_joined, typed_joined}
use Rattle.bx_session.proofs.keeping.keep_and_obey.Goals as goal

pub parts-init : goal.parts-init
parts-init g c = (([], [], [], (refl, refl), refl, refl, refl, (refl, refl), tt, refl, refl), refl)

-- what is left of a read is no longer than the read
few_left : (bytes typed left : List ℕ) → bytes ≡ typed ++ left → length bytes ≤ 256 → length left ≤ 256
few_left bytes typed left is few = omega (arith, few, ap (λ (xs : List ℕ). length xs) is, length-append typed left)

pub decode_part-count-requires-clause-few : goal.decode_part-count-requires-clause-few
decode_part-count-requires-clause-few g c = few_left c.args.bytes.now c.parts.invariant.0.0 c.parts.rest.now c.parts.invariant.0.6 c.requires.few

pub split_at-requires : goal.split_at-requires
split_at-requires g c =
    subst (λ n. n ≤ length c.parts.rest.now) (sym c.decode_part-count.ensures.count) (part_most c.parts.decoder c.parts.rest.now)

pub parts-preserved : goal.parts-preserved
parts-preserved g c =
    let ucd : g.row.D.Denot → Data = g.D.BidiData.data in
    let device = g.V.Device in
    let d = ucd c.args.session.now.tables in
    let stay = c.parts.invariant.1 in
    let run = c.parts.invariant.0 in
    let fed = c.obey_all.ensures.presses in
    let part = c.split_at.result.0.now in
    let now = c.parts.session.session in
    let new = c.obey_all.new.session.session in
    let feeds : PressesAll (ucd c.parts.session.tables) now (device.stored c.parts.device) fed.0 new (device.stored c.obey_all.new.device) =
    subst (λ (x : StoreState). PressesAll (ucd c.parts.session.tables) now x fed.0 new (device.stored c.obey_all.new.device)) c.append.ensures.stored fed.4 in
    let more =
    part_more ucd c.args.session.now.tables c.parts.session.tables c.args.session.now.session now new _ _ _ c.args.decoder.now c.parts.decoder
    c.decode_part-count.new.decoder c.args.bytes.now c.parts.rest.now part c.split_at.result.1.now run.0 c.decode_part-count.result
    c.as_slice.result.now fed.1 run.1 fed.0 run.3 stay run.4 run.5 run.6 (sym c.ended.ensures ∙ c.if-ended.false) c.decode_part-count.ensures.count
    c.split_at.ensures.front c.split_at.ensures.back (c.as_slice.ensures.value ∙ c.decode_part-count.ensures.presses) c.decode_part-count.ensures.waits
    fed.2 fed.3 feeds in
    let this : Part = record { typed = part; pressed = fed.0 } in
    let obeyed : AreTaken device.did device.obeyed device.stored d c.append.new.self now (map Obeys fed.0) c.obey_all.new.device new =
    subst (λ (t : g.row.D.Denot). AreTaken device.did device.obeyed device.stored (ucd t) c.append.new.self now (map Obeys fed.0) c.obey_all.new.device new)
    stay fed.5 in (
      (
        run.0 ++ part,
        run.1 ++ fed.0,
        run.2 ++ this ∷ [],
        more.0,
        more.1,
        more.2,
        more.3,
        part_taken device.did device.obeyed device.stored d c.args.device.now c.parts.device c.append.new.self c.obey_all.new.device c.args.session.now.session
            now new run.2 this run.7 c.append.ensures.did c.append.ensures.stored obeyed,
        parts_from_both c.args.decoder.now run.2 (this ∷ []) run.8
            (more.4 ∙ ap (λ xs. presses_from xs part) (run.5 ∙ ap (rest_from c.args.decoder.now) (sym run.9)), tt),
        typed_joined run.2 run.0 this run.9,
        pressed_joined run.2 run.1 this run.10,
      ),
      c.obey_all.ensures.tables ∙ stay,
    )

pub parts-smaller : goal.parts-smaller
parts-smaller g c =
    let some : 1 ≤ length c.parts.rest.now = search rules in
    let count : 1 ≤ c.decode_part-count.result =
    subst (λ n. 1 ≤ n) (sym c.decode_part-count.ensures.count) (part_some c.parts.decoder c.parts.rest.now some) in
    omega (arith, count, c.split_at.ensures.back_len)

pub returns-then-ended-clause-bytes : goal.returns-then-ended-clause-bytes
returns-then-ended-clause-bytes g c =
    let run = c.parts.invariant.0 in (
      run.0,
      run.1,
      c.parts.rest.now,
      run.2,
      record { all = run.6; presses = run.4; feeds = run.3; drops = λ some. sym c.ended.ensures ∙ c.if-ended.true },
      run.7,
      run.8,
      run.9,
      run.10,
      run.5,
    )
