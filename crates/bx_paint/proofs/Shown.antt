-- A run that is half read while a row is half painted: its effect on the row, and the effect of a glyph's text after it.
use Rattle.std.proofs.Common.{◌≡◌, ℕ, ◌+◌, ◌*◌, ◌<◌, ◌≤◌, Bool, true, false, nat_le, nat_eq, List, [], ◌∷◌, ◌++◌, length, drop, Option, Some, refl, ap}
use Rattle.std.proofs.Common.{sym, ◌∙◌, append_assoc, length-append, arith}
use Rattle.std.proofs.lemmas.Bool.Decides.{nat_tests}
use Rattle.std.proofs.lemmas.List.{append-nil, drop-drop}
use Rattle.bx_grid.specs.Columns.{Col, Unknown, Glyph, put, run_columns}
use Rattle.bx_grid.specs.Effects.{Effect, Puts, pending_effects, put_effects, glyphs_at}
use Rattle.bx_grid.specs.Glyphs.{WholeGlyph, IsGlyph, whole_columns}
use Rattle.bx_grid.specs.Terminal.{Terminal, run_ended, glyphs_put, within}
use Rattle.bx_grid.specs.Picture.{PictureState}
use Rattle.bx_grid.proofs.Doing.{run}
use Rattle.bx_grid.proofs.Texts.{glyph_does}
use Rattle.bx_grid.proofs.Whole.{columns_some, glyph_effects}
use Rattle.bx_grid.proofs.RunEnds.{within_at}
use Rattle.bx_paint.proofs.Rest.{partly, IsAtColumn, put_partly}
use Rattle.bx_paint.proofs.Sequences.{screen, Leaves}

-- ---- a run that is pending

room_put : (t : Terminal) (r c : ℕ) (new : List Col) → 1 ≤ length new → c + length new ≤ t.width
    → (glyphs_put t (r, c) new ≡ record t { columns = put t.width t.columns r c new; position = within t.width r (c + length new); run = [] })
    × (put_effects t (r, c) new ≡ glyphs_at (r * t.width + c) new)
room_put t r c new some fits =
    let a : nat_le 1 (length new) ≡ true = grind (arith, nat_tests) in
    let b : nat_le (c + length new) t.width ≡ true = grind (arith, nat_tests) in
    (rw (a, b) refl, rw (a, b) refl)

-- a run, taken to its effect
record Flushed (p : PictureState) (t : Terminal) (columns : List Col) (r c : ℕ) (negative : Bool) (effects : List Effect) : Type 0 where
  pub position : Option (ℕ × ℕ)
  pub effect : run_ended t ≡ screen p columns position negative []
  pub effects_are : pending_effects t ≡ effects
  pub at_column : c < p.width → position ≡ Some (r, c)

flushed : (p : PictureState) (above start over below : List Col) (r from : ℕ) (negative : Bool) (pending : List ℕ)
    → IsAtColumn r from p.width above start over → (1 ≤ length pending → 1 ≤ length (run_columns negative pending))
    → from + length (run_columns negative pending) ≤ p.width
    → Flushed p (screen p (partly above start over below) (Some (r, from)) negative pending)
    (partly above (start ++ run_columns negative pending) (drop (length (run_columns negative pending)) over) below) r
    (from + length (run_columns negative pending)) negative
    (glyphs_at (r * p.width + from) (run_columns negative pending))
flushed p above start over below r from negative [] index some fits = record {
  position = Some (r, from);
  effect = ap (λ xs. screen p (partly above xs over below) (Some (r, from)) negative []) (sym (append-nil start));
  effects_are = refl;
  at_column = λ _. ap (λ x. Some (r, x)) (let e : from ≡ from + 0 = omega arith in e);
}
flushed p above start over below r from negative (b ∷ bs) index some fits =
    let new = run_columns negative (b ∷ bs) in
    let t = screen p (partly above start over below) (Some (r, from)) negative (b ∷ bs) in
    let does = room_put t r from new (some (omega arith)) fits in
    record {
      position = within p.width r (from + length new);
      effect = does.0 ∙ ap (λ cs. screen p cs (within p.width r (from + length new)) negative []) (put_partly above start over below new r from p.width index);
      effects_are = does.1;
      at_column = within_at p.width r (from + length new);
    }

-- ---- the state before a text

-- a run is half read, or nothing is, from an index in this row on; once it has taken effect the row is done up to column c
pub record Ready (p : PictureState) (w : Terminal × List Effect) (negative : Bool) (above done rest below : List Col) (r c : ℕ) (all : List Effect) : Type 0
  where
    pub pending : List ℕ
    pub from : ℕ
    pub start : List Col
    pub over : List Col
    pub is : w.0 ≡ screen p (partly above start over below) (Some (r, from)) negative pending
    pub index : IsAtColumn r from p.width above start over
    pub some : 1 ≤ length pending → 1 ≤ length (run_columns negative pending)
    pub done_is : start ++ run_columns negative pending ≡ done
    pub rest_is : drop (length (run_columns negative pending)) over ≡ rest
    pub column : from + length (run_columns negative pending) ≡ c
    pub fits : c ≤ p.width
    pub told : w.1 ++ glyphs_at (r * p.width + from) (run_columns negative pending) ≡ all

pub ready_leaves : (p : PictureState) (w : Terminal × List Effect) (negative : Bool) (above done rest below : List Col) (r c : ℕ) (all : List Effect)
    → Ready p w negative above done rest below r c all
    → (q : Option (ℕ × ℕ)) × Leaves p w (partly above done rest below) q negative all × (c < p.width → q ≡ Some (r, c))
ready_leaves p w negative above done rest below r c all h =
    let new = run_columns negative h.pending in
    let f = flushed p above h.start h.over below r h.from negative h.pending h.index h.some (omega (arith, h.column, h.fits)) in (
      f.position,
      record {
        no_token = ap (λ (u : Terminal). u.half_read) h.is;
        effect =
            ap run_ended h.is ∙ f.effect
            ∙ ap (λ xs. screen p (partly above xs (drop (length new) h.over) below) f.position negative []) h.done_is
            ∙ ap (λ xs. screen p (partly above done xs below) f.position negative []) h.rest_is;
        told = ap (λ ds. w.1 ++ ds) (ap pending_effects h.is ∙ f.effects_are) ∙ h.told;
      },
      λ small. f.at_column (omega (arith, h.column, small)) ∙ ap (λ x. Some (r, x)) h.column,
    )

-- nothing is half read
pub column_ready : (p : PictureState) (w : Terminal × List Effect) (negative : Bool) (above done rest below : List Col) (r c : ℕ) (all : List Effect)
    → IsAtColumn r c p.width above done rest → w ≡ (screen p (partly above done rest below) (Some (r, c)) negative [], all)
    → (h : Ready p w negative above done rest below r c all) × (h.pending ≡ [])
column_ready p w negative above done rest below r c all index is = (
  record {
    pending = [];
    from = c;
    start = done;
    over = rest;
    is = ap (λ (v : Terminal × List Effect). v.0) is;
    index = index;
    some = λ none. absurd (omega (arith, none));
    done_is = append-nil done;
    rest_is = refl;
    column = omega arith;
    fits = omega (arith, index.wide);
    told = append-nil w.1 ∙ ap (λ (v : Terminal × List Effect). v.1) is;
  },
  refl,
)

-- ---- a text is read

glyphs_by : (t : Bool) (index : ℕ) (text : List ℕ) (columns offset : ℕ) (negative : Bool) (xs ys : List Col) → nat_eq offset 0 ≡ t
    → glyphs_at (index + 1) (xs ++ ys) ≡ glyphs_at (index + 1) xs ++ glyphs_at (index + 1 + length xs) ys
    → glyphs_at index (Glyph text columns offset negative ∷ xs ++ ys)
    ≡ glyphs_at index (Glyph text columns offset negative ∷ xs) ++ glyphs_at (index + 1 + length xs) ys
glyphs_by true index text columns offset negative xs ys e more = rw e (ap (λ ds. Puts index text negative ∷ ds) more)
glyphs_by false index text columns offset negative xs ys e more = rw e more

glyphs_at-append : (index : ℕ) (xs ys : List Col) → glyphs_at index (xs ++ ys) ≡ glyphs_at index xs ++ glyphs_at (index + length xs) ys
glyphs_at-append index [] ys = ap (λ n. glyphs_at n ys) (let e : index ≡ index + 0 = omega arith in e)
glyphs_at-append index (Unknown ∷ xs) ys =
    glyphs_at-append (index + 1) xs ys
    ∙ ap (λ n. glyphs_at (index + 1) xs ++ glyphs_at n ys) (let e : (index + 1) + length xs ≡ index + length (Unknown ∷ xs) = omega arith in e)
glyphs_at-append index (Glyph text columns offset negative ∷ xs) ys =
    glyphs_by (nat_eq offset 0) index text columns offset negative xs ys refl (glyphs_at-append (index + 1) xs ys)
    ∙ ap (λ n. glyphs_at index (Glyph text columns offset negative ∷ xs) ++ glyphs_at n ys)
    (let e : (index + 1) + length xs ≡ index + length (Glyph text columns offset negative ∷ xs) = omega arith in e)

pub ready_text : (p : PictureState) (w : Terminal × List Effect) (g : WholeGlyph) (above done rest below : List Col) (r c : ℕ) (all : List Effect)
    → IsGlyph g → (h : Ready p w g.negative above done rest below r c all)
    → run_columns g.negative (h.pending ++ g.text) ≡ run_columns g.negative h.pending ++ whole_columns g → c + length (whole_columns g) ≤ p.width
    → (k : Ready p (run w g.text) g.negative above (done ++ whole_columns g) (drop (length (whole_columns g)) rest) below r (c + length (whole_columns g))
    (all ++ Puts (r * p.width + c) g.text g.negative ∷ [])) × (k.pending ≡ h.pending ++ g.text)
ready_text p w g above done rest below r c all is h joins fits =
    let a = run_columns g.negative h.pending in
    let b = whole_columns g in
    let index = r * p.width + h.from in
    let idle : w.0.half_read ≡ [] = ap (λ (u : Terminal). u.half_read) h.is in
    let next : run w g.text ≡ (record (w.0) { run = w.0.run ++ g.text; half_read = [] }, w.1) =
    glyph_does w.0 w.1 g is idle in
    let count : length (run_columns g.negative (h.pending ++ g.text)) ≡ length a + length b = ap length joins ∙ length-append a b in
    let end : index + length a ≡ r * p.width + c = omega (arith, h.column) in
    let some : 1 ≤ length b = columns_some g is in (
      record {
        pending = h.pending ++ g.text;
        from = h.from;
        start = h.start;
        over = h.over;
        is = ap (λ (v : Terminal × List Effect). v.0) next ∙ ap (λ (u : Terminal). record u { run = u.run ++ g.text; half_read = [] }) h.is;
        index = h.index;
        some = λ _. omega (arith, count, some);
        done_is = ap (λ xs. h.start ++ xs) joins ∙ sym (append_assoc h.start a b) ∙ ap (λ xs. xs ++ b) h.done_is;
        rest_is = ap (λ n. drop n h.over) count ∙ sym (drop-drop (length b) (length a) h.over) ∙ ap (drop (length b)) h.rest_is;
        column = omega (arith, count, h.column);
        fits = fits;
        told =
            ap (λ (v : Terminal × List Effect). v.1 ++ glyphs_at index (run_columns g.negative (h.pending ++ g.text))) next
            ∙ ap (λ xs. w.1 ++ glyphs_at index xs) joins
            ∙ ap (λ ds. w.1 ++ ds) (glyphs_at-append index a b)
            ∙ sym (append_assoc w.1 (glyphs_at index a) (glyphs_at (index + length a) b))
            ∙ ap (λ ds. ds ++ glyphs_at (index + length a) b) h.told
            ∙ ap (λ n. all ++ glyphs_at n b) end
            ∙ ap (λ ds. all ++ ds) (glyph_effects (r * p.width + c) g is);
      },
      refl,
    )
