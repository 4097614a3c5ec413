use Rattle.std.proofs.Common.{◌≡◌, ℕ, ◌+◌, ◌∷◌, ◌++◌, [], ◌∙◌, List, length, reverse, sym, ap, subst, arith}
use Rattle.std.specs.Prelude.{string_bytes, string_len, None}
use Rattle.std.proofs.lemmas.List.{reverse-append}
use Rattle.bx_text.specs.declared.pieces.piece.Piece.{Piece}
use Rattle.bx_text.specs.pieces.Pieces.{front, back}
use Rattle.bx_text.specs.declared.step.Step.{Step}
use Rattle.bx_text.specs.Buffers.{Buffers, bytes_of, with_added}
use Rattle.bx_text.specs.Edits.{Edited, replaced}
use Rattle.bx_text.specs.Changes.{IsRange, IsChange}
use Rattle.bx_text.specs.Steps.{future_of}
use Rattle.std.specs.Str.{IsUtf8}
use Rattle.bx_text.proofs.Versions.{grown, splice_leads}
use Rattle.bx_text.specs.Text.{TextState, buffers_of}
use Rattle.bx_text.proofs.Bytes.{IsAddressable-in_buffers, length-bytes_of, IsUtf8-bytes_of}
use Rattle.bx_text.proofs.Replaced.{edited_after, sound_after, pieces_after, step_back}
use Rattle.bx_text.proofs.text.Text.replace.Goals as goal

-- the buffers, the pieces and the steps after the edit
buffers_are : (opened added added' more : List ℕ) → added' ≡ added ++ more
    → record { opened = opened; added = added' } ≡ grown (record { opened = opened; added = added }) more
buffers_are opened added added' more e = ap (λ (x : List ℕ). record { opened = opened; added = x }) e

pieces_are : (b : Buffers) (ps P : List Piece) (more : List ℕ) (start len at : ℕ) → P ≡ with_added (front ps start) at (length more) ++ back (back ps start) len
    → at ≡ length b.added → P ≡ pieces_after b ps more start len
pieces_are b ps P more start len at e f = e ∙ ap (λ n. with_added (front ps start) n (length more) ++ back (back ps start) len) f

steps_are : (ps span : List Piece) (more : List ℕ) (past items : List Step) (start len before after : ℕ)
    → items ≡ past ++ record { start = start; span = span; len = length more; before = before; after = after } ∷ [] → span ≡ front (back ps start) len
    → reverse items ≡ step_back ps more start len before after ∷ reverse past
steps_are ps span more past items start len before after e f =
    ap reverse e ∙ reverse-append past (record { start = start; span = span; len = length more; before = before; after = after } ∷ [])
    ∙ ap (λ (x : List Piece). record { start = start; span = x; len = length more; before = before; after = after } ∷ reverse past) f

pub put-old-requires-clause-fits : goal.put-old-requires-clause-fits
put-old-requires-clause-fits c =
    IsAddressable-in_buffers (buffers_of c.self.inside) c.self.inside.pieces
    (omega (arith, c.self.inside.opened.bytes.small, c.self.inside.opened.bytes.ok))
    (omega (arith, c.self.inside.added.bytes.small, c.self.inside.added.bytes.ok))
    c.self.invariant.in_buffers

pub put-old-requires-clause-small : goal.put-old-requires-clause-small
put-old-requires-clause-small c =
    omega (
      arith,
      c.self.invariant.short,
      length-bytes_of (buffers_of c.self.inside) c.self.inside.pieces c.self.invariant.in_buffers,
      c.requires.short,
      c.requires.range.stop_bounds.0,
      ap (λ (x : TextState). length x.edited.text) c.self.view_is,
    )

pub invariant_of-self : goal.invariant_of-self
invariant_of-self c =
    let t = c.self.inside in
    let more = c.args.text.now in
    let items = rw c.unwrap.ensures at c.push.ensures.items in
    let sound = sound_after (buffers_of t) t.pieces more c.args.start c.args.len c.args.before c.args.after c.self.invariant.in_buffers c.utf8.text
    (subst (λ (x : TextState). IsRange x.edited.text c.args.start (c.args.start + c.args.len)) (sym c.self.view_is) c.requires.range)
    (reverse t.past.items) c.self.invariant.short
    (omega (arith, c.requires.short, ap (λ (x : TextState). length x.edited.text) c.self.view_is))
    c.self.invariant.past_steps
    (record { opened = string_bytes t.opened; added = string_bytes c.put-old.new.added }) c.put-old.new.pieces (reverse c.push.new.self.items)
    (buffers_are (string_bytes t.opened) (string_bytes t.added) (string_bytes c.put-old.new.added) more c.put-old.ensures.buffer)
    (pieces_are (buffers_of t) t.pieces c.put-old.new.pieces more c.args.start c.args.len (string_len t.added)
    c.put-old.ensures.pieces t.added.bytes.ok.0)
    (steps_are t.pieces c.put-old.result more t.past.items c.push.new.self.items c.args.start c.args.len c.args.before c.args.after items
    c.put-old.ensures.span) in
    record {
      in_buffers = sound.in_buffers;
      short = sound.short;
      past_steps = sound.steps;
      future_steps = rw c.clear.ensures.items tt;
      has_room = tt;
    }

pub returns-clause-text : goal.returns-clause-text
returns-clause-text c =
    let t = c.self.inside in
    let more = c.args.text.now in
    let items = rw c.unwrap.ensures at c.push.ensures.items in
    let same = edited_after (buffers_of t) t.pieces more c.args.start c.args.len c.args.before c.args.after c.self.invariant.in_buffers c.utf8.text
    (subst (λ (x : TextState). IsRange x.edited.text c.args.start (c.args.start + c.args.len)) (sym c.self.view_is) c.requires.range)
    (reverse t.past.items) (future_of (buffers_of t) (bytes_of (buffers_of t) t.pieces) (reverse t.future.items))
    c.self.invariant.past_steps
    (record { opened = string_bytes t.opened; added = string_bytes c.put-old.new.added }) c.put-old.new.pieces (reverse c.push.new.self.items)
    (buffers_are (string_bytes t.opened) (string_bytes t.added) (string_bytes c.put-old.new.added) more c.put-old.ensures.buffer)
    (pieces_are (buffers_of t) t.pieces c.put-old.new.pieces more c.args.start c.args.len (string_len t.added)
    c.put-old.ensures.pieces t.added.bytes.ok.0)
    (steps_are t.pieces c.put-old.result more t.past.items c.push.new.self.items c.args.start c.args.len c.args.before c.args.after items
    c.put-old.ensures.span) in
    rw c.clear.ensures.items (ap (λ (e : Edited). record { edited = e; room = None }) same)
    ∙ ap (λ (x : TextState). record { edited = replaced x.edited c.args.start (c.args.start + c.args.len) more c.args.before c.args.after; room = None })
    c.self.view_is

pub returns-clause-is_change : goal.returns-clause-is_change
returns-clause-is_change c =
    let t = c.self.inside in
    let utf8 : IsUtf8 c.args.self.now.edited.text =
    subst (λ (x : TextState). IsUtf8 x.edited.text) c.self.view_is (IsUtf8-bytes_of (buffers_of t) t.pieces c.self.invariant.in_buffers) in
    subst (λ (x : List ℕ). IsChange c.args.self.now.edited.text
    (record { start = c.args.start; removed = c.args.len; added = length c.args.text.now; place = c.args.after }) x)
    (sym (ap (λ (x : TextState). x.edited.text) (returns-clause-text c)))
    (splice_leads c.args.self.now.edited.text c.args.text.now c.args.start c.args.len c.args.after utf8 c.utf8.text c.requires.range)
