use Rattle.std.proofs.Common.{◌∙◌, ℕ, ◌+◌, ◌≤◌, ◌++◌, ◌∷◌, [], List, length, reverse, ap, sym, subst, arith}
use Rattle.std.specs.Prelude.{string_bytes, string_len, None}
use Rattle.bx_text.specs.pieces.Pieces.{front, back}
use Rattle.bx_text.specs.declared.step.Step.{Step}
use Rattle.bx_text.specs.Buffers.{Buffers, bytes_of}
use Rattle.bx_text.specs.Edits.{Edited, largest_text}
use Rattle.bx_text.specs.Changes.{IsChange, IsRange}
use Rattle.bx_text.specs.Replacements.{made, text_after}
use Rattle.bx_text.specs.Steps.{future_of}
use Rattle.bx_text.specs.Text.{TextState, buffers_of, bytes_in}
use Rattle.bx_text.proofs.Bytes.{IsAddressable-in_buffers, length-bytes_of}
use Rattle.bx_text.proofs.Replaced.{IsReplaced}
use Rattle.bx_text.proofs.ReplacedTwice.{IsMade, is_made, made_sound, made_text, made_length, twice_sound, twice_view, twice_leads}
use Rattle.bx_text.proofs.text.Text.replace_twice.Goals as goal
use Rattle.bx_text.proofs.text.Text.replace_twice.Goals.{After-make, After-make-2}

module _ (c : After-make) where
  sound : IsReplaced (buffers_of c.self.inside) c.self.inside.pieces (reverse c.self.inside.past.items)
  sound = record { in_buffers = c.self.invariant.in_buffers; short = c.self.invariant.short; steps = c.self.invariant.past_steps }

  abbrev buffers : Buffers
  buffers = record { opened = string_bytes c.self.inside.opened; added = string_bytes c.make.new.added }

  first_made : IsMade (buffers_of c.self.inside) c.self.inside.pieces c.self.inside.past.items c.args.first.now
      buffers c.make.new.pieces c.make.new.past.items
  first_made =
      let t = c.self.inside in
      let r = c.args.first.now in
      let step : Step = record {
        start = r.start;
        span = front (back t.pieces r.start) r.len;
        len = length r.text.now;
        before = r.before;
        after = r.after;
      } in
      is_made (string_bytes t.opened) (string_bytes t.added) (string_bytes c.make.new.added) t.pieces c.make.new.pieces
      t.past.items c.make.new.past.items r (string_len c.make_room.new.added)
      (c.make.ensures.buffer ∙ ap (λ xs. xs ++ r.text.now) c.make_room.ensures.buffer)
      c.make.ensures.pieces
      (c.make_room.ensures.len ∙ t.added.bytes.ok.0)
      (c.make.ensures.past ∙ ap (λ ss. ss ++ step ∷ []) c.make_room.ensures.items)

  first_range : IsRange (bytes_in c.self.inside) c.args.first.now.start (c.args.first.now.start + c.args.first.now.len)
  first_range = subst (λ (x : TextState). IsRange x.edited.text c.args.first.now.start (c.args.first.now.start + c.args.first.now.len))
      (sym c.self.view_is) c.requires.first

  second_range : IsRange (text_after (bytes_in c.self.inside) c.args.first.now) c.args.second.now.start
      (c.args.second.now.start + c.args.second.now.len)
  second_range =
      subst (λ (x : TextState). IsRange (text_after x.edited.text c.args.first.now) c.args.second.now.start
      (c.args.second.now.start + c.args.second.now.len)) (sym c.self.view_is) c.requires.second

  fits : length (bytes_in c.self.inside) + length c.args.first.now.text.now ≤ largest_text + c.args.first.now.len
  fits = omega (arith, c.requires.short, ap (λ (x : TextState). length x.edited.text) c.self.view_is)

  both_fit : length (bytes_in c.self.inside) + length c.args.first.now.text.now + length c.args.second.now.text.now
      ≤ largest_text + c.args.first.now.len + c.args.second.now.len
  both_fit = omega (arith, c.requires.both_short, ap (λ (x : TextState). length x.edited.text) c.self.view_is)

  between : IsReplaced buffers c.make.new.pieces (reverse c.make.new.past.items)
  between =
      let t = c.self.inside in
      made_sound (buffers_of t) t.pieces t.past.items c.args.first.now buffers c.make.new.pieces c.make.new.past.items
      first_made sound c.requires.utf8.0 first_range fits

  few : length (bytes_of buffers c.make.new.pieces) + length c.args.second.now.text.now ≤ largest_text + c.args.second.now.len
  few =
      let t = c.self.inside in
      omega (
        arith,
        both_fit,
        made_length (buffers_of t) t.pieces t.past.items c.args.first.now buffers c.make.new.pieces c.make.new.past.items
            first_made sound c.requires.utf8.0 first_range,
      )

  inside : c.args.second.now.start + c.args.second.now.len ≤ length (bytes_of buffers c.make.new.pieces)
  inside =
      let t = c.self.inside in
      omega (
        arith,
        second_range.stop_bounds.0,
        ap length (made_text (buffers_of t) t.pieces t.past.items c.args.first.now buffers c.make.new.pieces c.make.new.past.items
            first_made sound c.requires.utf8.0 first_range),
      )

module _ (c : After-make-2) where
  abbrev mid : Buffers
  mid = record { opened = string_bytes c.self.inside.opened; added = string_bytes c.make.new.added }

  abbrev last : Buffers
  last = record { opened = string_bytes c.self.inside.opened; added = string_bytes c.make-2.new.added }

  second_made : IsMade mid c.make.new.pieces c.make.new.past.items c.args.second.now last c.make-2.new.pieces c.make-2.new.past.items
  second_made =
      is_made (string_bytes c.self.inside.opened) (string_bytes c.make.new.added) (string_bytes c.make-2.new.added)
      c.make.new.pieces c.make-2.new.pieces c.make.new.past.items c.make-2.new.past.items c.args.second.now (string_len c.make.new.added)
      c.make-2.ensures.buffer c.make-2.ensures.pieces c.make.new.added.bytes.ok.0 c.make-2.ensures.past

pub make-requires-clause-fits : goal.make-requires-clause-fits
make-requires-clause-fits c =
    let t = c.self.inside in
    IsAddressable-in_buffers (buffers_of t) t.pieces
    (omega (arith, t.opened.bytes.small, t.opened.bytes.ok)) (omega (arith, t.added.bytes.small, t.added.bytes.ok)) c.self.invariant.in_buffers

pub make-requires-clause-small : goal.make-requires-clause-small
make-requires-clause-small c =
    let t = c.self.inside in
    omega (
      arith,
      c.self.invariant.short,
      length-bytes_of (buffers_of t) t.pieces c.self.invariant.in_buffers,
      c.requires.short,
      c.requires.first.stop_bounds.0,
      ap (λ (x : TextState). length x.edited.text) c.self.view_is,
    )

pub make-requires-2-clause-fits : goal.make-requires-2-clause-fits
make-requires-2-clause-fits c =
    let a = (goal.at.make-requires-2-clause-fits c).After-make in
    IsAddressable-in_buffers (buffers a) c.make.new.pieces
    (omega (arith, c.self.inside.opened.bytes.small, c.self.inside.opened.bytes.ok))
    (omega (arith, c.make.new.added.bytes.small, c.make.new.added.bytes.ok)) (between a).in_buffers

pub make-requires-2-clause-small : goal.make-requires-2-clause-small
make-requires-2-clause-small c =
    let a = (goal.at.make-requires-2-clause-small c).After-make in
    omega (arith, (between a).short, length-bytes_of (buffers a) c.make.new.pieces (between a).in_buffers, few a, inside a)

pub invariant_of-self-2 : goal.invariant_of-self-2
invariant_of-self-2 c =
    let t = c.self.inside in
    let a = (goal.at.invariant_of-self-2 c).After-make in
    let z = (goal.at.invariant_of-self-2 c).After-make-2 in
    let sound = twice_sound (buffers_of t) (buffers a) (last z) t.pieces c.make.new.pieces c.make-2.new.pieces
    t.past.items c.make.new.past.items c.make-2.new.past.items c.args.first.now c.args.second.now (first_made a) (second_made z) (sound a)
    c.requires.utf8.0 c.requires.utf8.1 (first_range a) (second_range a) (fits a) (both_fit a) in
    record {
      in_buffers = sound.in_buffers;
      short = sound.short;
      past_steps = sound.steps;
      future_steps = rw c.clear.ensures.items tt;
      has_room = tt;
    }

pub returns-clause-ok : goal.returns-clause-ok
returns-clause-ok c =
    let t = c.self.inside in
    let a = (goal.at.returns-clause-ok c).After-make in
    let z = (goal.at.returns-clause-ok c).After-make-2 in
    let same = twice_view (buffers_of t) (buffers a) (last z) t.pieces c.make.new.pieces c.make-2.new.pieces
    t.past.items c.make.new.past.items c.make-2.new.past.items c.args.first.now c.args.second.now (first_made a) (second_made z) (sound a)
    c.requires.utf8.0 c.requires.utf8.1 (first_range a) (second_range a) (fits a) (both_fit a)
    (future_of (buffers_of t) (bytes_in t) (reverse t.future.items)) in
    rw c.clear.ensures.items (ap (λ (e : Edited). record { edited = e; room = None }) same)
    ∙ ap (λ (x : TextState). record { edited = made (made x.edited c.args.first.now) c.args.second.now; room = None }) c.self.view_is

pub returns-clause-is_change : goal.returns-clause-is_change
returns-clause-is_change c =
    let t = c.self.inside in
    let a = (goal.at.returns-clause-is_change c).After-make in
    let z = (goal.at.returns-clause-is_change c).After-make-2 in
    let after : List ℕ = bytes_of (last z) c.make-2.new.pieces in
    let leads = twice_leads (buffers_of t) (buffers a) (last z) t.pieces c.make.new.pieces c.make-2.new.pieces
    t.past.items c.make.new.past.items c.make-2.new.past.items c.args.first.now c.args.second.now (first_made a) (second_made z) (sound a)
    c.requires.utf8.0 c.requires.utf8.1 (first_range a) (second_range a) (fits a) (both_fit a) in
    subst (λ (x : TextState). IsChange x.edited.text c.merge.result after) c.self.view_is
    (rw (c.merge.ensures, c.change.ensures, c.change-2.ensures) leads)
