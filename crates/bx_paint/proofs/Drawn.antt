-- A terminal that reads the bytes sent for the glyphs of a row.
use Rattle.std.proofs.Common.{◌≡◌, ℕ, ◌+◌, ◌*◌, ◌<◌, ◌≤◌, Bool, true, false, ◌&&◌, List, [], ◌∷◌, ◌++◌, length, take, drop, Option, Some, refl, ap, sym, ◌∙◌}
use Rattle.std.proofs.Common.{append_assoc, length-append, arith}
use Rattle.std.specs.List.{All}
use Rattle.std.proofs.lemmas.List.{append-nil, map-append, take-append-drop, length-drop, drop-append-le, nil_from_length}
use Rattle.std.proofs.lemmas.List.Elements.{All-head, All-tail}
use Rattle.bx_grid.specs.Columns.{Col, Glyph, is_ascii_glyph, are_equal, cut_after, run_columns, are_ascii_printable}
use Rattle.bx_grid.specs.Columns.{is_ascii_printable}
use Rattle.bx_grid.specs.Effects.{Effect, Puts}
use Rattle.bx_grid.specs.Glyphs.{WholeGlyph, IsGlyph, whole_columns, all_columns, AreWhole}
use Rattle.bx_grid.specs.Terminal.{Terminal}
use Rattle.bx_grid.specs.Picture.{PictureState}
use Rattle.bx_grid.proofs.Doing.{run, run-append}
use Rattle.bx_grid.proofs.Equal.{lists_are}
use Rattle.bx_grid.proofs.Reading.{and_left, and_right, all-push}
use Rattle.bx_grid.proofs.Whole.{columns_some, whole-append, whole_along, whole_glyph}
use Rattle.bx_paint.proofs.Rest.{partly, IsAtColumn, kept}
use Rattle.bx_paint.proofs.Glyphs.{glyph_sent, glyph_effect, by_glyph}
use Rattle.bx_paint.proofs.Sequences.{screen, Leaves, Fits, moves, turned, renders}
use Rattle.bx_paint.proofs.Shown.{Ready, ready_leaves, column_ready, ready_text}
use Rattle.bx_paint.specs.Painting.{Sent, then_sent, move_bytes, render_bytes, render_change, glyph_bytes, columns_sent}
use Rattle.bx_paint.specs.Changed.{glyphs_changed}

-- ---- a text after a run

joins_none : (negative : Bool) (pending text : List ℕ) → pending ≡ []
    → run_columns negative (pending ++ text) ≡ run_columns negative pending ++ run_columns negative text
joins_none negative pending text e = rw e refl

plain_more : (pending text : List ℕ) → are_ascii_printable pending ≡ true → is_ascii_glyph text ≡ true → are_ascii_printable (pending ++ text) ≡ true
plain_more pending [] h e = absurd (cc e)
plain_more pending (b ∷ []) h e = all-push is_ascii_printable pending b h e
plain_more pending (b ∷ c ∷ rest) h e = absurd (cc e)

joins_near : (negative : Bool) (pending text : List ℕ) → are_ascii_printable pending ≡ true → is_ascii_glyph text ≡ true
    → run_columns negative (pending ++ text) ≡ run_columns negative pending ++ run_columns negative text
joins_near negative pending [] h e = absurd (cc e)
joins_near negative pending (b ∷ []) h e = rw (all-push is_ascii_printable pending b h e, h, e)
    (map-append (λ x. Glyph (x ∷ []) 1 0 negative) pending (b ∷ []))
joins_near negative pending (b ∷ c ∷ rest) h e = absurd (cc e)

-- ---- the state while a row is painted

-- a run of characters from SPACE to TILDE may go on
pub record Near (p : PictureState) (w : Terminal × List Effect) (negative : Bool) (above done rest below : List Col) (r c : ℕ) (all : List Effect) : Type 0
  where
    pub ready : Ready p w negative above done rest below r c all
    pub plain : are_ascii_printable ready.pending ≡ true

-- the row is done up to column c; where the column before was just sent as a character from SPACE to TILDE, its run may go on
pub record Stands (p : PictureState) (w : Terminal × List Effect) (near negative : Bool) (above done rest below : List Col) (r c : ℕ) (all : List Effect) : Type
    0 where
  pub position : Option (ℕ × ℕ)
  pub leaves : Leaves p w (partly above done rest below) position negative all
  pub near_by : near ≡ true → Near p w negative above done rest below r c all

inverted : (p : PictureState) (w : Terminal × List Effect) (negative glyph_negative : Bool) (above done rest below : List Col) (r c : ℕ) (all : List Effect)
    → IsAtColumn r c p.width above done rest → c < p.width → Near p w negative above done rest below r c all
    → Near p (run w (render_bytes glyph_negative)) glyph_negative above done rest below r c all
inverted p w negative glyph_negative above done rest below r c all index small n =
    let columns = partly above done rest below in
    let l = ready_leaves p w negative above done rest below r c all n.ready in
    let h = column_ready p (run w (render_bytes glyph_negative)) glyph_negative above done rest below r c all index
    (renders p w columns l.0 negative glyph_negative all l.1 ∙ ap (λ q. (screen p columns q glyph_negative [], all)) (l.2 small)) in
    record { ready = h.0; plain = ap (are_ascii_printable) h.1 }

rendered : (p : PictureState) (w : Terminal × List Effect) (negative glyph_negative : Bool) (above done rest below : List Col) (r c : ℕ) (all : List Effect)
    → IsAtColumn r c p.width above done rest → c < p.width → Near p w negative above done rest below r c all
    → Near p (run w (render_change negative glyph_negative)) glyph_negative above done rest below r c all
rendered p w true true above done rest below r c all index small n = n
rendered p w true false above done rest below r c all index small n = inverted p w true false above done rest below r c all index small n
rendered p w false true above done rest below r c all index small n = inverted p w false true above done rest below r c all index small n
rendered p w false false above done rest below r c all index small n = n

-- ---- a glyph

text_stands : (p : PictureState) (w : Terminal × List Effect) (g : WholeGlyph) (above done rest below : List Col) (r c : ℕ) (all : List Effect)
    → IsGlyph g → (h : Ready p w g.negative above done rest below r c all)
    → run_columns g.negative (h.pending ++ g.text) ≡ run_columns g.negative h.pending ++ whole_columns g → c + length (whole_columns g) ≤ p.width
    → are_ascii_printable h.pending ≡ true
    → Stands p (run w g.text) (is_ascii_glyph g.text) g.negative above (done ++ whole_columns g) (drop (length (whole_columns g)) rest) below r
    (c + length (whole_columns g))
    (all ++ Puts (r * p.width + c) g.text g.negative ∷ [])
text_stands p w g above done rest below r c all is h joins fits plain =
    let k = ready_text p w g above done rest below r c all is h joins fits in
    let n = length (whole_columns g) in
    let l = ready_leaves p (run w g.text) g.negative above (done ++ whole_columns g) (drop n rest) below r (c + n)
    (all ++ Puts (r * p.width + c) g.text g.negative ∷ []) k.0 in
    record {
      position = l.0;
      leaves = l.1;
      near_by = λ e. record { ready = k.0; plain = ap (are_ascii_printable) k.1 ∙ plain_more h.pending g.text plain e };
    }

drawn_by : (t : Bool) (p : PictureState) (w : Terminal × List Effect) (near negative : Bool) (g : WholeGlyph) (above done rest below : List Col) (r c : ℕ)
    (all : List Effect)
    → Fits p → r < p.height → IsGlyph g → IsAtColumn r c p.width above done rest → length (whole_columns g) ≤ length rest
    → near && is_ascii_glyph g.text ≡ t → Stands p w near negative above done rest below r c all
    → Stands p (run w (glyph_bytes r c near negative g.text g.negative)) (is_ascii_glyph g.text) g.negative above (done ++ whole_columns g)
    (drop (length (whole_columns g)) rest) below r (c + length (whole_columns g)) (all ++ Puts (r * p.width + c) g.text g.negative ∷ [])
drawn_by true p w near negative g above done rest below r c all fits rh is index room e s =
    let some : 1 ≤ length (whole_columns g) = columns_some g is in
    let change = render_change negative g.negative in
    let n = rendered p w negative g.negative above done rest below r c all index (omega (arith, some, room, index.wide))
    (s.near_by (and_left near (is_ascii_glyph g.text) e)) in
    let printed : is_ascii_glyph g.text ≡ true = and_right near (is_ascii_glyph g.text) e in
    let after = text_stands p (run w change) g above done rest below r c all is n.ready (joins_near g.negative n.ready.pending g.text n.plain printed)
    (omega (arith, room, index.wide)) n.plain in
    rw (e, run-append w change g.text) after
drawn_by false p w near negative g above done rest below r c all fits rh is index room e s =
    let some : 1 ≤ length (whole_columns g) = columns_some g is in
    let columns = partly above done rest below in
    let move = move_bytes r c in
    let change = render_change negative g.negative in
    let there : run (run w move) change ≡ (screen p columns (Some (r, c)) g.negative [], all) =
    ap (λ v. run v change) (moves p w columns s.position negative all r c s.leaves rh (omega (arith, some, room, index.wide)) fits.height fits.width)
    ∙ turned p columns (Some (r, c)) negative g.negative all in
    let h = column_ready p (run (run w move) change) g.negative above done rest below r c all index there in
    let after = text_stands p (run (run w move) change) g above done rest below r c all is h.0 (joins_none g.negative h.0.pending g.text h.1)
    (omega (arith, room, index.wide)) (ap (are_ascii_printable) h.1) in
    rw (e, run-append w move (change ++ g.text), run-append (run w move) change g.text) after

-- ---- the glyphs of a row

-- a terminal that comes to these columns, with these effects
abbrev pub Comes : PictureState → Terminal × List Effect → List Col → Bool → List Effect → Type 0
Comes p w columns negative all = (q : Option (ℕ × ℕ)) × Leaves p w columns q negative all

pub come_by : (p : PictureState) (w : Terminal × List Effect) (s s' : Sent) (columns columns' : List Col) (effects effects' : List Effect)
    → s ≡ s' → columns ≡ columns' → effects ≡ effects'
    → Comes p (run w s'.bytes) columns' s'.negative effects' → Comes p (run w s.bytes) columns s.negative effects
come_by p w s s' columns columns' effects effects' es ec ed h = rw (es, ec, ed) h

pub come_after : (p : PictureState) (w : Terminal × List Effect) (first second : List ℕ) (columns : List Col) (negative : Bool) (effects : List Effect)
    → Comes p (run (run w first) second) columns negative effects → Comes p (run w (first ++ second)) columns negative effects
come_after p w first second columns negative effects h = rw (run-append w first second) h

-- a glyph whose columns do not differ is there already
stays : (p : PictureState) (w : Terminal × List Effect) (near negative : Bool) (g : WholeGlyph) (above done before ys below : List Col) (r c d : ℕ)
    (all : List Effect)
    → IsGlyph g → AreWhole (before ++ (whole_columns g ++ ys)) → Stands p w near negative above done (whole_columns g ++ ys) below r c all
    → Stands p w false negative above (done ++ whole_columns g) ys below r d (all ++ [])
stays p w near negative g above done before ys below r c d all is whole s =
    let shift : done ++ cut_after 0 (whole_columns g ++ ys) ≡ (done ++ whole_columns g) ++ cut_after 0 ys =
    ap (λ xs. done ++ xs) (kept before ys g is whole) ∙ sym (append_assoc done (whole_columns g) (cut_after 0 ys)) in
    record {
      position = s.position;
      leaves = record {
        no_token = s.leaves.no_token;
        effect = s.leaves.effect ∙ ap (λ xs. screen p (above ++ (xs ++ below)) s.position negative []) shift;
        told = s.leaves.told ∙ sym (append-nil all);
      };
      near_by = λ e. absurd (cc e);
    }

stands_by : (same : Bool) (p : PictureState) (w : Terminal × List Effect) (near negative : Bool) (g : WholeGlyph) (above done before olds over below : List Col)
    (r c : ℕ) (all : List Effect)
    → Fits p → r < p.height → IsGlyph g → IsAtColumn r c p.width above done (olds ++ over) → AreWhole (before ++ (olds ++ over))
    → length (whole_columns g) ≤ length olds → are_equal (take (length (whole_columns g)) olds) (whole_columns g) ≡ same
    → Stands p w near negative above done (olds ++ over) below r c all
    → Stands p (run w (glyph_sent r c near negative same g).bytes) (glyph_sent r c near negative same g).near (glyph_sent r c near negative same g).negative
    above (done ++ whole_columns g) (drop (length (whole_columns g)) olds ++ over) below r (c + length (whole_columns g)) (all ++ glyph_effect (r * p.width + c) same g)
stands_by true p w near negative g above done before olds over below r c all fits rh is index whole room e s =
    let n = length (whole_columns g) in
    let split : olds ++ over ≡ whole_columns g ++ (drop n olds ++ over) =
    ap (λ xs. xs ++ over) (sym (take-append-drop n olds) ∙ ap (λ xs. xs ++ drop n olds) (lists_are (take n olds) (whole_columns g) e))
    ∙ append_assoc (whole_columns g) (drop n olds) over in
    stays p w near negative g above done before (drop n olds ++ over) below r c (c + n) all is
    (whole_along (before ++ (olds ++ over)) (before ++ (whole_columns g ++ (drop n olds ++ over))) (ap (λ xs. before ++ xs) split) whole)
    (rw split at s)
stands_by false p w near negative g above done before olds over below r c all fits rh is index whole room e s =
    let n = length (whole_columns g) in
    let rest : drop n (olds ++ over) ≡ drop n olds ++ over = drop-append-le n olds over room in
    let after = drawn_by (near && is_ascii_glyph g.text) p w near negative g above done (olds ++ over) below r c all fits rh is index
    (omega (arith, room, length-append olds over)) refl s in
    rw rest at after

-- the bytes sent for these columns of the new row, from any index on
abbrev Goal : PictureState → ℕ → List Col → List Col → List Col → List Col → Type 0
Goal p r above over below news = (olds done before : List Col) (w : Terminal × List Effect) (c : ℕ) (near negative : Bool) (all : List Effect)
    → IsAtColumn r c p.width above done (olds ++ over) → AreWhole (before ++ (olds ++ over)) → length olds ≡ length news
    → Stands p w near negative above done (olds ++ over) below r c all
    → Comes p (run w (columns_sent r c near negative olds news).bytes) (partly above (done ++ news) over below)
    (columns_sent r c near negative olds news).negative (all ++ glyphs_changed (r * p.width + c) olds news)

no_more : (p : PictureState) (r : ℕ) (above over below : List Col) → Goal p r above over below []
no_more p r above over below olds done before w c near negative all index whole same s =
    let none : olds ≡ [] = nil_from_length olds same in
    let full : done ++ [] ≡ done = append-nil done in
    let told : all ++ [] ≡ all = append-nil all in
    let leaves = rw none at s.leaves in
    rw (full, told) (s.position, leaves)

one_more : (p : PictureState) (r : ℕ) (above over below : List Col) (g : WholeGlyph) (xs : List Col) → Fits p → r < p.height → IsGlyph g
    → Goal p r above over below xs → Goal p r above over below (whole_columns g ++ xs)
one_more p r above over below g xs fits rh is more olds done before w c near negative all index whole same s =
    let cg = whole_columns g in
    let n = length cg in
    let alike = are_equal (take n olds) cg in
    let sent = glyph_sent r c near negative alike g in
    let effects = all ++ glyph_effect (r * p.width + c) alike g in
    let count : length olds ≡ n + length xs = same ∙ length-append cg xs in
    let by = by_glyph alike g olds xs is refl in
    let after = stands_by alike p w near negative g above done before olds over below r c all fits rh is index whole (omega (arith, count)) refl s in
    let index' : IsAtColumn r (c + n) p.width above (done ++ cg) (drop n olds ++ over) = record {
      high = index.high;
      at = length-append done cg ∙ omega (arith, index.at);
      wide = omega (arith, index.wide, length-append olds over, length-append (drop n olds) over, length-drop n olds, count);
      whole = whole-append done cg index.whole (whole_glyph g is);
    } in
    let split : before ++ (olds ++ over) ≡ (before ++ take n olds) ++ (drop n olds ++ over) =
    ap (λ ys. before ++ (ys ++ over)) (sym (take-append-drop n olds)) ∙ ap (λ ys. before ++ ys) (append_assoc (take n olds) (drop n olds) over)
    ∙ sym (append_assoc before (take n olds) (drop n olds ++ over)) in
    let rest = more (drop n olds) (done ++ cg) (before ++ take n olds) (run w sent.bytes) (c + n) sent.near sent.negative effects index'
    (whole_along (before ++ (olds ++ over)) ((before ++ take n olds) ++ (drop n olds ++ over)) split whole) (length-drop n olds ∙ omega (arith, count)) after in
    let last = columns_sent r (c + n) sent.near sent.negative (drop n olds) xs in
    let next : (r * p.width + c) + n ≡ r * p.width + (c + n) = omega arith in
    come_by p w (columns_sent r c near negative olds (cg ++ xs)) (then_sent sent.bytes last)
    (partly above (done ++ (cg ++ xs)) over below) (partly above ((done ++ cg) ++ xs) over below)
    (all ++ glyphs_changed (r * p.width + c) olds (cg ++ xs)) (effects ++ glyphs_changed (r * p.width + (c + n)) (drop n olds) xs)
    (by.sent r c near negative) (ap (λ ys. partly above ys over below) (sym (append_assoc done cg xs)))
    (ap (λ ds. all ++ ds) (by.changed (r * p.width + c) ∙ ap (λ k. glyph_effect (r * p.width + c) alike g ++ glyphs_changed k (drop n olds) xs) next)
    ∙ sym (append_assoc all (glyph_effect (r * p.width + c) alike g) (glyphs_changed (r * p.width + (c + n)) (drop n olds) xs)))
    (come_after p w sent.bytes last.bytes _ _ _ rest)

glyphs_do : (p : PictureState) (r : ℕ) (above over below : List Col) (gs : List WholeGlyph) → Fits p → r < p.height → All IsGlyph gs
    → Goal p r above over below (all_columns gs)
glyphs_do p r above over below [] fits rh each = no_more p r above over below
glyphs_do p r above over below (g ∷ gs) fits rh each =
    one_more p r above over below g (all_columns gs) fits rh (All-head IsGlyph g gs each)
    (glyphs_do p r above over below gs fits rh (All-tail IsGlyph g gs each))

pub columns_do : (p : PictureState) (r : ℕ) (above over below news : List Col) → Fits p → r < p.height → AreWhole news → Goal p r above over below news
columns_do p r above over below news fits rh whole = rw whole.are at (glyphs_do p r above over below whole.glyphs fits rh whole.each)
