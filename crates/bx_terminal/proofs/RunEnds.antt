-- A run that takes effect, and a character that goes on with one.
use Rattle.std.proofs.Common.{◌≡◌, ℕ, ◌+◌, ◌<◌, ◌≤◌, ◌⊎◌, Bool, true, false, ◌&&◌, nat_le, nat_lt, nat_eq, List, [], ◌∷◌, ◌++◌, length, Option, Some, None, inl}
use Rattle.std.proofs.Common.{inr, refl, ap, sym, ◌∙◌, arith}
use Rattle.std.specs.Str.{chars}
use Rattle.std.specs.Char.{encode_utf8}
use Rattle.std.proofs.Math.Bool.{and-false}
use Rattle.std.proofs.lemmas.Bool.Decides.{nat_tests}
use Rattle.bx_bytes.specs.Utf8.{is_control, are_printable}
use Rattle.bx_grid.specs.Columns.{Col, put, run_columns}
use Rattle.bx_common.specs.Glyphs.{run_width}
use Rattle.bx_grid.specs.Terminal.{Terminal, all_unknown, within, glyphs_put, run_put, run_ended, character_read, after_first_byte, read_after, byte_read}
use Rattle.bx_grid.specs.Terminal.{reads}
use Rattle.bx_grid.proofs.Puts.{run_length}
use Rattle.bx_grid.proofs.RunEnds.{no_run}

pub no_room : (t : Terminal) (row column : ℕ) (new : List Col) → (length new < 1) ⊎ (t.width < column + length new)
    → glyphs_put t (row, column) new ≡ all_unknown t
no_room t row column new (inl few) =
    let test : nat_le 1 (length new) ≡ false = grind (arith, nat_tests) in
    rw test refl
no_room t row column new (inr many) =
    let test : nat_le (column + length new) t.width ≡ false = grind (arith, nat_tests) in
    rw (test, and-false (nat_le 1 (length new))) refl

pub within_past : (w r c : ℕ) → w ≤ c → within w r c ≡ None
within_past w r c h = let test : nat_lt c w ≡ false = grind (arith, nat_tests) in rw test refl

pub put_is : (u : Terminal) (row column count : ℕ) (negative : Bool) (text : List ℕ) (columns : List Col) (position : Option (ℕ × ℕ)) (run : List ℕ)
    → count ≡ run_width text → 1 ≤ count → column + count ≤ u.width
    → columns ≡ put u.width u.columns row column (run_columns negative text) → position ≡ within u.width row (column + count) → run ≡ []
    → record u { columns = columns; position = position; run = run } ≡ glyphs_put u (row, column) (run_columns negative text)
put_is u row column count negative text columns position run counted some fits ec ep er =
    let len : length (run_columns negative text) ≡ count = run_length negative text ∙ sym counted in
    let a : nat_le 1 count ≡ true = grind (arith, nat_tests) in
    let b : nat_le (column + count) u.width ≡ true = grind (arith, nat_tests) in
    rw (ec, ep, er, len, a, b) refl

put_by : (t : Terminal) (p : ℕ × ℕ) (negative : Bool) (run : List ℕ) → 0 < length run
    → run_put t (Some p) (Some negative) run ≡ glyphs_put t p (run_columns negative run)
put_by t p negative [] h = absurd (omega arith)
put_by t p negative (b ∷ bs) h = refl

pub ends_put : (t : Terminal) (p : ℕ × ℕ) (negative : Bool) → t.position ≡ Some p → t.negative ≡ Some negative → 0 < length t.run
    → run_ended t ≡ glyphs_put t p (run_columns negative t.run)
ends_put t p negative ep en some =
    ap (λ q. run_put t q t.negative t.run) ep ∙ ap (λ n. run_put t (Some p) n t.run) en ∙ put_by t p negative t.run some

put_nowhere : (t : Terminal) (negative : Option Bool) (run : List ℕ) → 0 < length run → run_put t None negative run ≡ all_unknown t
put_nowhere t negative [] h = absurd (omega arith)
put_nowhere t negative (b ∷ bs) h = refl

pub ends_nowhere : (t : Terminal) → t.position ≡ None → 0 < length t.run → run_ended t ≡ all_unknown t
ends_nowhere t e some = ap (λ q. run_put t q t.negative t.run) e ∙ put_nowhere t t.negative t.run some

put_half : (t : Terminal) (p : ℕ × ℕ) (fits : Bool) (new : List Col) → t.half_read ≡ [] → nat_le 1 (length new) && nat_le (p.1 + length new) t.width ≡ fits
    → (glyphs_put t p new).half_read ≡ []
put_half t p true new h e = rw e h
put_half t p false new h e = rw e refl

half_by : (t : Terminal) (q : Option (ℕ × ℕ)) (n : Option Bool) (run : List ℕ) → t.half_read ≡ [] → (run_put t q n run).half_read ≡ []
half_by t q n [] h = h
half_by t (Some p) (Some negative) (b ∷ bs) h =
    let new = run_columns negative (b ∷ bs) in put_half t p (nat_le 1 (length new) && nat_le (p.1 + length new) t.width) new h refl
half_by t (Some p) None (b ∷ bs) h = refl
half_by t None n (b ∷ bs) h = refl

-- nothing is half read after it where nothing was
pub half_ended : (t : Terminal) → t.half_read ≡ [] → (run_ended t).half_read ≡ []
half_ended t h = half_by t t.position t.negative t.run h

pub character_is : (u : Terminal) (bs : List ℕ) (c : ℕ) (run half_read : List ℕ) → chars bs ≡ c ∷ [] → is_control c ≡ false → encode_utf8 c ≡ bs
    → run ≡ u.run ++ encode_utf8 c → half_read ≡ [] → record u { run = run; half_read = half_read } ≡ character_read u bs
character_is u bs c run half_read spells fine bytes er eh =
    let printed : are_printable bs ≡ true = rw (spells, fine) refl in
    rw (er, eh, printed, bytes) refl

pub escape_begun : (u t : Terminal) (b : ℕ) (half_read : List ℕ) → u ≡ run_ended t → b ≡ 0x1B → half_read ≡ b ∷ []
    → record u { half_read = half_read } ≡ after_first_byte t b
escape_begun u t b half_read e is eh =
    let test : nat_eq b 0x1B ≡ true = grind (arith, nat_tests) in
    rw (e, eh, test) refl

ended_twice : (t : Terminal) → run_ended (run_ended t) ≡ run_ended t
ended_twice t =
    let u : Terminal = run_ended t in
    ap (run_put u u.position u.negative) (no_run t t.position t.negative t.run refl)

escape_after : (t : Terminal) (b : ℕ) → t.half_read ≡ [] → b ≡ 0x1B → byte_read t b ≡ record (run_ended t) { half_read = b ∷ [] }
escape_after t b idle is =
    let test : nat_eq b 0x1B ≡ true = grind (arith, nat_tests) in
    ap (read_after t b) idle ∙ rw test refl

-- where an escape comes next, it makes no difference that the run took effect before it
pub ended_early : (t : Terminal) (rest : List ℕ) (b : ℕ) → t.half_read ≡ [] → b ≡ 0x1B → reads (run_ended t) (b ∷ rest) ≡ reads t (b ∷ rest)
ended_early t rest b idle is =
    ap (λ u. reads u rest)
    (escape_after (run_ended t) b (half_ended t idle) is
    ∙ ap (λ (u : Terminal). record u { half_read = b ∷ [] }) (ended_twice t)
    ∙ sym (escape_after t b idle is))
