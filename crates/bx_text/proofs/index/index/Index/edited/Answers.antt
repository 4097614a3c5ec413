use Rattle.std.proofs.Common.{◌≡◌, ◌≤◌, ◌∙◌, ◌+◌, ◌-◌, [], ◌∷◌, None, ap, sym, subst, arith}
use Rattle.bx_text.specs.Edits.{largest_text}
use Rattle.bx_text.specs.Text.{HasRoomFor}
use Rattle.bx_text.specs.index.Paragraphs.{total}
use Rattle.bx_text.specs.index.Flat.{flat}
use Rattle.bx_text.specs.index.Index.{IndexState}
use Rattle.bx_text.proofs.index_lemmas.Cuts.{unended}
use Rattle.bx_text.proofs.index_lemmas.Totals.{total_append, total_front}
use Rattle.bx_text.proofs.index_lemmas.Turns.{total_lengths}
use Rattle.bx_text.proofs.index_lemmas.Followed.{inside, at_end, in_order, no_end, has_end, closed_inside, closed_at_end, few_in, added_separators, few_added, has_spares}
use Rattle.bx_text.proofs.index_lemmas.Followed.{added_in}
use Rattle.bx_text.proofs.index.index.Index.edited.Goals as goal

pub touched-reached-requires-clause-was : goal.touched-reached-requires-clause-was
touched-reached-requires-clause-was g c =
    (c.requires.was.0, c.requires.was.1, ap (λ (s : IndexState). s.paragraphs) c.self.view_is ∙ c.requires.was.2, c.requires.was.3)

-- ---- where a paragraph ends after the change

pub overflow_sub-behind : goal.overflow_sub-behind
overflow_sub-behind g c =
    let t = has_end (flat c.self.inside.front.blocks) _ c.touched-reached.result.1 c.in-Some.end c.touched-reached.ensures.1.last_is c.in-Some.is in
    omega (arith, t.past)

pub overflow_add-behind : goal.overflow_add-behind
overflow_add-behind g c =
    let touched = c.touched-reached.ensures.1 in
    let blocks = flat c.self.inside.front.blocks in
    let t = has_end blocks _ c.touched-reached.result.1 c.in-Some.end touched.last_is c.in-Some.is in
    omega (
      arith,
      t.end,
      total_front (c.touched-reached.result.1.number + 1) blocks,
      total_append blocks (unended c.self.inside.last ∷ []),
      c.self.invariant.short,
      added_in touched,
      c.len-len.ensures.short,
    )

pub replace-requires-clause-bounds : goal.replace-requires-clause-bounds
replace-requires-clause-bounds g c = (inside c.touched-reached.ensures.1 c.in-Some.end c.in-Some.is).bounds

pub replace-requires-clause-order : goal.replace-requires-clause-order
replace-requires-clause-order g c = in_order c.touched-reached.ensures.1 c.in-Some.end c.in-Some.is

pub replace-requires-clause-room : goal.replace-requires-clause-room
replace-requires-clause-room g c =
    let touched = c.touched-reached.ensures.1 in
    let f = inside touched c.in-Some.end c.in-Some.is in
    let room = subst (λ r. HasRoomFor r (added_separators touched)) (sym (ap (λ (s : IndexState). s.room) c.self.view_is)) c.requires.room in
    let few : added_separators touched ≤ largest_text = omega (arith, few_added touched, added_in touched, c.len-len.ensures.short) in
    omega (arith, f.few, has_spares c.self.inside.room c.self.inside.front.spares (added_separators touched) c.self.invariant.has_room room few)

pub replace-requires-clause-short : goal.replace-requires-clause-short
replace-requires-clause-short g c =
    let f = inside c.touched-reached.ensures.1 c.in-Some.end c.in-Some.is in
    omega (arith, f.bytes, total_append (flat c.self.inside.front.blocks) (unended c.self.inside.last ∷ []), c.self.invariant.short, c.len-len.ensures.short)

pub replace-requires-clause-few : goal.replace-requires-clause-few
replace-requires-clause-few g c =
    let touched = c.touched-reached.ensures.1 in
    let f = inside touched c.in-Some.end c.in-Some.is in
    omega (arith, f.few, c.self.invariant.few, few_added touched, added_in touched, c.len-len.ensures.short)

pub invariant_of-self : goal.invariant_of-self
invariant_of-self g c =
    let touched = c.touched-reached.ensures.1 in
    let f = inside touched c.in-Some.end c.in-Some.is in
    let same = closed_inside touched _ _ _ f c.replace.ensures.paragraphs in
    let bytes = total_lengths (g.D.BidiData.data c.args.tables.now) c.args.text.now.edited.text c.len-len.ensures.utf8 in
    record {
      short = omega (arith, ap total same, bytes, c.len-len.ensures.short);
      few = omega (arith, few_in touched _ _ same, c.len-len.ensures.short);
      has_room = tt;
    }

pub returns-in-Some : goal.returns-in-Some
returns-in-Some g c =
    let touched = c.touched-reached.ensures.1 in
    let f = inside touched c.in-Some.end c.in-Some.is in
    ap (λ ps. record { paragraphs = ps; room = None }) (closed_inside touched _ _ _ f c.replace.ensures.paragraphs)

-- ---- where the change reaches into the last paragraph

pub replace-at-requires-clause-bounds : goal.replace-at-requires-clause-bounds
replace-at-requires-clause-bounds g c = (at_end c.touched-reached.ensures.1 c.len-len.result c.len-len.ensures.len c.in_default.is).1.bounds

pub replace-at-requires-clause-room : goal.replace-at-requires-clause-room
replace-at-requires-clause-room g c =
    let touched = c.touched-reached.ensures.1 in
    let (r, f) = at_end touched c.len-len.result c.len-len.ensures.len c.in_default.is in
    let room = subst (λ r. HasRoomFor r (added_separators touched)) (sym (ap (λ (s : IndexState). s.room) c.self.view_is)) c.requires.room in
    let few : added_separators touched ≤ largest_text = omega (arith, few_added touched, added_in touched, c.len-len.ensures.short) in
    omega (arith, f.few, has_spares c.self.inside.room c.self.inside.front.spares (added_separators touched) c.self.invariant.has_room room few)

pub replace-at-requires-clause-short : goal.replace-at-requires-clause-short
replace-at-requires-clause-short g c =
    let (r, f) = at_end c.touched-reached.ensures.1 c.len-len.result c.len-len.ensures.len c.in_default.is in
    omega (arith, f.bytes, total_append (flat c.self.inside.front.blocks) (unended c.self.inside.last ∷ []), c.self.invariant.short, c.len-len.ensures.short)

pub replace-at-requires-clause-few : goal.replace-at-requires-clause-few
replace-at-requires-clause-few g c =
    let touched = c.touched-reached.ensures.1 in
    let (r, f) = at_end touched c.len-len.result c.len-len.ensures.len c.in_default.is in
    omega (arith, f.few, c.self.invariant.few, few_added touched, added_in touched, c.len-len.ensures.short)

pub overflow_sub-self : goal.overflow_sub-self
overflow_sub-self g c =
    let (r, f) = at_end c.touched-reached.ensures.1 c.len-len.result c.len-len.ensures.len c.in_default.is in
    omega (arith, f.bytes, c.replace-at.ensures.stop, c.len-len.ensures.len)

pub invariant_of-self-2 : goal.invariant_of-self-2
invariant_of-self-2 g c =
    let touched = c.touched-reached.ensures.1 in
    let (r, f) = at_end touched c.len-len.result c.len-len.ensures.len c.in_default.is in
    let last = no_end (flat c.self.inside.front.blocks) _ c.touched-reached.result.1 touched.last_is c.in_default.is in
    let left : c.len-len.result - c.replace-at.result ≡ r = omega (arith, f.bytes, c.replace-at.ensures.stop, c.len-len.ensures.len) in
    let same = closed_at_end touched c.len-len.result c.touched-reached.result.1.number r (c.len-len.result - c.replace-at.result) _ last left f
    c.replace-at.ensures.paragraphs in
    let bytes = total_lengths (g.D.BidiData.data c.args.tables.now) c.args.text.now.edited.text c.len-len.ensures.utf8 in
    record {
      short = omega (arith, ap total same, bytes, c.len-len.ensures.short);
      few = omega (arith, few_in touched _ _ same, c.len-len.ensures.short);
      has_room = tt;
    }

pub returns : goal.returns
returns g c =
    let touched = c.touched-reached.ensures.1 in
    let (r, f) = at_end touched c.len-len.result c.len-len.ensures.len c.in_default.is in
    let last = no_end (flat c.self.inside.front.blocks) _ c.touched-reached.result.1 touched.last_is c.in_default.is in
    let left : c.len-len.result - c.replace-at.result ≡ r = omega (arith, f.bytes, c.replace-at.ensures.stop, c.len-len.ensures.len) in
    ap (λ ps. record { paragraphs = ps; room = None })
    (closed_at_end touched c.len-len.result c.touched-reached.result.1.number r (c.len-len.result - c.replace-at.result) _ last left f
    c.replace-at.ensures.paragraphs)
