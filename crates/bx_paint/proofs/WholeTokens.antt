-- A painting is whole sequences and whole characters, with a sequence last: nothing stays half read.
use Rattle.std.proofs.Common.{◌≡◌, ℕ, ◌+◌, ◌*◌, ◌<◌, ◌^◌, Bool, true, false, List, [], ◌∷◌, ◌++◌, length, take}
use Rattle.std.proofs.Common.{drop, zero, suc, refl, ap, sym, ◌∙◌, ◌&&◌, ◌-◌, replicate, min, arith, if◌then◌else◌}
use Rattle.std.specs.List.{list_all, All}
use Rattle.std.proofs.lemmas.List.{length-take, length-drop}
use Rattle.std.proofs.lemmas.List.Elements.{All-nil, All-cons, All-head, All-tail, All-append, All-take, All-drop}
use Rattle.bx_grid.specs.Columns.{Col, Unknown, Glyph, blank, is_blank, is_ascii_glyph, glyph_columns_from}
use Rattle.bx_grid.specs.Effects.{Effect}
use Rattle.bx_grid.specs.Glyphs.{WholeGlyph, IsGlyph, whole_columns, all_columns, AreWhole}
use Rattle.bx_grid.specs.Picture.{PictureState, IsIdle}
use Rattle.bx_grid.specs.Grid.{AreWholeTokens, IsPicture}
use Rattle.bx_grid.specs.Terminal.{Terminal, reads, run_ended, after_command}
use Rattle.bx_grid.specs.Tokens.{is_param, command_of}
use Rattle.bx_grid.proofs.Doing.{run_is, sequence_does}
use Rattle.bx_grid.proofs.Reading.{at, IsFinal, move_params, move_params_fit, reads-append}
use Rattle.bx_grid.proofs.Texts.{glyph_does}
use Rattle.bx_grid.proofs.Whole.{columns_form, rows_whole}
use Rattle.bx_grid.proofs.Idle.{idle_command}
use Rattle.bx_grid.proofs.RunEnds.{no_run}
use Rattle.bx_paint.specs.Painting.{Step, Sent, nothing_sent, move_bytes, render_bytes, render_change, erase_bytes, before_tail}
use Rattle.bx_paint.specs.Painting.{leading_blanks, is_sent, glyph_bytes, column_sent, columns_sent}
use Rattle.bx_paint.specs.Painting.{tail_sent, row_sent, rows_sent, columns_changed, ended, is_none}
use Rattle.bx_paint.specs.Painting.{is_at_cursor_of, changes_bytes, whole_bytes}
use Rattle.bx_paint.proofs.Sequences.{final_H, final_K, final_J, final_m}
use Rattle.bx_paint.proofs.Tails.{front_le}
use Rattle.bx_paint.proofs.Sent.{leading_blanks_le}

-- no token stays half read, and after the second no run either
abbrev EndTokens : List ℕ → Type 0
EndTokens bytes = (t : Terminal) → t.half_read ≡ [] → (reads t bytes).half_read ≡ []

abbrev EndAll : List ℕ → Type 0
EndAll bytes = (t : Terminal) → t.half_read ≡ [] → IsIdle (reads t bytes)

ends_all : (bytes : List ℕ) → EndAll bytes → EndTokens bytes
ends_all bytes h t g = (h t g).no_token

ends_nothing : EndTokens []
ends_nothing t g = g

ends_append : (xs ys : List ℕ) → EndTokens xs → EndTokens ys → EndTokens (xs ++ ys)
ends_append xs ys a b t g = ap (λ (u : Terminal). u.half_read) (reads-append t xs ys) ∙ b (reads t xs) (a t g)

all_append : (xs ys : List ℕ) → EndTokens xs → EndAll ys → EndAll (xs ++ ys)
all_append xs ys a b t g = rw (reads-append t xs ys) (b (reads t xs) (a t g))

-- ---- sequences

sequence_ends : (ps : List ℕ) (f : ℕ) → list_all is_param ps ≡ true → IsFinal f → EndAll (0x1B ∷ 0x5B ∷ (ps ++ f ∷ []))
sequence_ends ps f fit final t g =
    let bytes = 0x1B ∷ 0x5B ∷ (ps ++ f ∷ []) in
    let u : Terminal = at (run_ended t) [] in
    let state : reads t bytes ≡ after_command u (command_of ps f) =
    ap (λ (v : Terminal × List Effect). v.0) (sym (run_is t [] bytes) ∙ sequence_does t [] ps f g fit final) in
    let idle : IsIdle u = record { no_run = no_run t t.position t.negative t.run refl; no_token = refl } in
    rw state (idle_command u (command_of ps f) idle)

move_ends : (row column : ℕ) → row < 2 ^ 63 → column < 2 ^ 63 → EndAll (move_bytes row column)
move_ends row column r c =
    let r64 : row + 1 < 2 ^ 64 = omega arith in
    let c64 : column + 1 < 2 ^ 64 = omega arith in
    sequence_ends (move_params (row + 1) (column + 1)) 0x48 (move_params_fit (row + 1) (column + 1) r64 c64) final_H

render_ends : (negative : Bool) → EndAll (render_bytes negative)
render_ends true = sequence_ends (0x37 ∷ []) 0x6D refl final_m
render_ends false = sequence_ends (0x30 ∷ []) 0x6D refl final_m

change_ends : (negative other : Bool) → EndTokens (render_change negative other)
change_ends true true = ends_nothing
change_ends true false = ends_all (render_bytes false) (render_ends false)
change_ends false true = ends_all (render_bytes true) (render_ends true)
change_ends false false = ends_nothing

erase_ends : EndAll erase_bytes
erase_ends = sequence_ends (0x30 ∷ []) 0x4B refl final_K

-- ---- the texts of glyphs

-- a column's glyph has a text that leaves nothing half read
abbrev IsText : Col → Type 0
IsText Unknown = Unit {0}
IsText (Glyph text columns offset negative) = EndTokens text

text_ends : (g : WholeGlyph) → IsGlyph g → EndTokens g.text
text_ends g h t idle = ap (λ (w : Terminal × List Effect). w.0.half_read) (sym (run_is t [] g.text) ∙ glyph_does t [] g h idle)

columns_texts : (text : List ℕ) (columns : ℕ) (negative : Bool) (offset count : ℕ) → EndTokens text
    → All IsText (glyph_columns_from text columns negative offset count)
columns_texts text columns negative offset zero h = All-nil IsText
columns_texts text columns negative offset (suc count) h =
    All-cons IsText (Glyph text columns offset negative) (glyph_columns_from text columns negative (offset + 1) count) h
    (columns_texts text columns negative (offset + 1) count h)

glyph_texts : (g : WholeGlyph) → IsGlyph g → All IsText (whole_columns g)
glyph_texts g h =
    let form = columns_form g h in
    rw form.2 (columns_texts g.text form.0 g.negative 0 form.0 (text_ends g h))

glyphs_texts : (gs : List WholeGlyph) → All IsGlyph gs → All IsText (all_columns gs)
glyphs_texts [] h = All-nil IsText
glyphs_texts (g ∷ gs) h =
    All-append IsText (whole_columns g) (all_columns gs) (glyph_texts g (All-head IsGlyph g gs h)) (glyphs_texts gs (All-tail IsGlyph g gs h))

whole_texts : (columns : List Col) → AreWhole columns → All IsText columns
whole_texts columns h = rw (← h.are) (glyphs_texts h.glyphs h.each)

front_by : (all : Bool) (c : Col) (cs : List Col) → IsText c → All IsText (before_tail cs) → All IsText (if all then [] else c ∷ before_tail cs)
front_by true c cs h more = All-nil IsText
front_by false c cs h more = All-cons IsText c (before_tail cs) h more

front_texts : (cs : List Col) → All IsText cs → All IsText (before_tail cs)
front_texts [] h = All-nil IsText
front_texts (c ∷ cs) h =
    front_by (list_all is_blank (c ∷ cs)) c cs (All-head IsText c cs h) (front_texts cs (All-tail IsText c cs h))

-- ---- a row

position_ends : (near : Bool) (row column : ℕ) → row < 2 ^ 63 → column < 2 ^ 63 → EndTokens (if near then [] else move_bytes row column)
position_ends true row column r c = ends_nothing
position_ends false row column r c = ends_all (move_bytes row column) (move_ends row column r c)

glyph_ends : (row column : ℕ) (near negative : Bool) (text : List ℕ) (glyph_negative : Bool) → row < 2 ^ 63 → column < 2 ^ 63 → EndTokens text
    → EndTokens (glyph_bytes row column near negative text glyph_negative)
glyph_ends row column near negative text glyph_negative r c h =
    let at_once = near && is_ascii_glyph text in
    ends_append (if at_once then [] else move_bytes row column) (render_change negative glyph_negative ++ text)
    (position_ends at_once row column r c)
    (ends_append (render_change negative glyph_negative) text (change_ends negative glyph_negative) h)

step_by : (sent : Bool) (s : Step) (negative : Bool) → EndTokens s.bytes → EndTokens (if sent then s else nothing_sent negative).bytes
step_by true s negative h = h
step_by false s negative h = ends_nothing

column_ends : (row column : ℕ) (near negative : Bool) (old : List Col) (c : Col) (cs : List Col) → row < 2 ^ 63 → column < 2 ^ 63 → IsText c
    → EndTokens (column_sent row column near negative old (c ∷ cs)).bytes
column_ends row column near negative old Unknown cs r k h = ends_nothing
column_ends row column near negative old (Glyph text columns offset glyph_negative) cs r k h =
    step_by (is_sent old (Glyph text columns offset glyph_negative ∷ cs))
    (record { bytes = glyph_bytes row column near negative text glyph_negative; near = is_ascii_glyph text; negative = glyph_negative }) negative
    (glyph_ends row column near negative text glyph_negative r k h)

columns_end : (row column : ℕ) (near negative : Bool) (old cs : List Col) → row < 2 ^ 63 → column + length cs < 2 ^ 63 → All IsText cs
    → EndTokens (columns_sent row column near negative old cs).bytes
columns_end row column near negative old [] r k h = ends_nothing
columns_end row column near negative old (c ∷ cs) r k h =
    let s = column_sent row column near negative old (c ∷ cs) in
    let here : column < 2 ^ 63 = omega (arith, k) in
    let next : (column + 1) + length cs < 2 ^ 63 = omega (arith, k) in
    ends_append s.bytes (columns_sent row (column + 1) s.near s.negative (drop 1 old) cs).bytes
    (column_ends row column near negative old c cs r here (All-head IsText c cs h))
    (columns_end row (column + 1) s.near s.negative (drop 1 old) cs r next (All-tail IsText c cs h))

either_ends : (first : Bool) (s u : Sent) → EndTokens s.bytes → EndTokens u.bytes → EndTokens (if first then s else u).bytes
either_ends true s u a b = a
either_ends false s u a b = b

tail_ends : (row column : ℕ) (negative : Bool) (old : List Col) → row < 2 ^ 63 → column + length old < 2 ^ 63
    → EndTokens (tail_sent row column negative old).bytes
tail_ends row column negative old r k =
    let few = leading_blanks_le old in
    let low : column + leading_blanks old < 2 ^ 63 = omega (arith, few, k) in
    let move = move_bytes row (column + leading_blanks old) in
    let rest = render_change negative false ++ erase_bytes in
    either_ends (list_all is_blank old) (record { bytes = []; negative = negative }) (record { bytes = move ++ rest; negative = false })
    ends_nothing
    (ends_append move rest (ends_all move (move_ends row (column + leading_blanks old) r low))
    (ends_append (render_change negative false) erase_bytes (change_ends negative false) (ends_all erase_bytes erase_ends)))

row_ends : (row : ℕ) (negative : Bool) (old new : List Col) → row < 2 ^ 63 → length old < 2 ^ 62 → length new < 2 ^ 62 → All IsText new
    → EndTokens (row_sent row negative old new).bytes
row_ends row negative old new r o n h =
    let front = before_tail new in
    let s = columns_sent row 0 false negative (take (length front) old) front in
    let le = front_le new in
    let low : 0 + length front < 2 ^ 63 = omega (arith, le, n) in
    let rest : length (drop (length front) old) ≡ length old - length front = length-drop (length front) old in
    let right : length front + length (drop (length front) old) < 2 ^ 63 = omega (arith, le, rest, o, n) in
    ends_append s.bytes (tail_sent row (length front) s.negative (drop (length front) old)).bytes
    (columns_end row 0 false negative (take (length front) old) front r low (front_texts new h))
    (tail_ends row (length front) s.negative (drop (length front) old) r right)

take_few : (width : ℕ) (xs : List Col) → width < 2 ^ 62 → length (take width xs) < 2 ^ 62
take_few width xs h = let few : length (take width xs) ≡ min width (length xs) = length-take width xs in omega (arith, few, h)

rows_end : (count row width : ℕ) (negative : Bool) (old new : List Col) → row + count < 2 ^ 63 → width < 2 ^ 62 → All IsText new
    → EndTokens (rows_sent count row width negative old new).bytes
rows_end zero row width negative old new r w h = ends_nothing
rows_end (suc count) row width negative old new r w h =
    let s = row_sent row negative (take width old) (take width new) in
    let here : row < 2 ^ 63 = omega (arith, r) in
    let next : (row + 1) + count < 2 ^ 63 = omega (arith, r) in
    ends_append s.bytes (rows_sent count (row + 1) width s.negative (drop width old) (drop width new)).bytes
    (row_ends row negative (take width old) (take width new) here (take_few width old w) (take_few width new w) (All-take IsText width new h))
    (rows_end count (row + 1) width s.negative (drop width old) (drop width new) next w (All-drop IsText width new h))

-- ---- a picture

changed_ends : (old : List Col) (p : PictureState) → IsPicture p → EndTokens (columns_changed old p).bytes
changed_ends old p is =
    let tall : 0 + p.height < 2 ^ 63 = omega (arith, is.grid.sized.high) in
    let wide : p.width < 2 ^ 62 = omega (arith, is.grid.sized.wide) in
    let texts = whole_texts p.columns (rows_whole p.height p.width p.columns is.grid.sized.each is.grid.rows) in
    rows_end p.height 0 p.width false old p.columns tall wide texts

painting_ends : (old : List Col) (p : PictureState) → IsPicture p → EndAll (ended p (columns_changed old p))
painting_ends old p is =
    let s = columns_changed old p in
    let row : p.row < 2 ^ 63 = omega (arith, is.row_inside, is.grid.sized.high) in
    let column : p.column < 2 ^ 63 = omega (arith, is.column_inside, is.grid.sized.wide) in
    all_append s.bytes (render_change s.negative false ++ move_bytes p.row p.column) (changed_ends old p is)
    (all_append (render_change s.negative false) (move_bytes p.row p.column) (change_ends s.negative false) (move_ends p.row p.column row column))

clear_ends : EndAll (0x1B ∷ 0x5B ∷ 0x32 ∷ 0x4A ∷ [])
clear_ends = sequence_ends (0x32 ∷ []) 0x4A refl final_J

pub whole_tokens : (p : PictureState) → IsPicture p → AreWholeTokens (whole_bytes p)
whole_tokens p is t idle =
    let blanks = replicate (p.height * p.width) blank in
    let clear = 0x1B ∷ 0x5B ∷ 0x32 ∷ 0x4A ∷ [] in
    all_append (render_bytes false) (clear ++ ended p (columns_changed blanks p)) (ends_all (render_bytes false) (render_ends false))
    (all_append clear (ended p (columns_changed blanks p)) (ends_all clear clear_ends) (painting_ends blanks p is))
    t idle.no_token

changes_by : (none : Bool) (bytes : List ℕ) → EndAll bytes → AreWholeTokens (if none then [] else bytes)
changes_by true bytes h t idle = idle
changes_by false bytes h t idle = h t idle.no_token

pub changes_tokens : (old new : PictureState) → IsPicture new → AreWholeTokens (changes_bytes old new)
changes_tokens old new is =
    let s = columns_changed old.columns new in
    changes_by (is_none s.bytes && is_at_cursor_of old new) (ended new s) (painting_ends old.columns new is)
