-- The terminal after bytes of an item: after a beginning, after the whole, and after a byte that breaks it off.
use Rattle.std.proofs.Common.{◌≡◌, ℕ, ◌+◌, ◌*◌, ◌<◌, ◌&&◌, Bool, true, false, cond, nat_eq, nat_le, List, [], ◌∷◌, ◌++◌, length, drop, replicate, Option, Some, None}
use Rattle.std.proofs.Common.{refl, ap, ap₂, sym, ◌∙◌, arith, append_assoc, length-append}
use Rattle.std.proofs.lemmas.Bool.{cond-true, cond-false, eqb-true}
use Rattle.std.proofs.lemmas.List.{append-nil}
use Rattle.bx_bytes.specs.Utf8.{are_printable}
use Rattle.bx_bytes.specs.declared.fate.Fate.TheVariants.{Waits, Ends, Breaks}
use Rattle.bx_grid.specs.Columns.{Col, Unknown, run_columns}
use Rattle.bx_terminal.specs.Cutting.{Token, Run, Sequence, Other, token_of}
use Rattle.bx_grid.specs.Terminal.{Terminal, all_unknown, after_command, glyphs_put, run_put, run_ended, character_read, token_read, after_first_byte}
use Rattle.bx_grid.specs.Terminal.{after_first_byte_as, after_next_byte, read_after, byte_read, reads}
use Rattle.bx_grid.specs.Tokens.{escape_command, fate}
use Rattle.bx_terminal.proofs.Items.{waits_before, waits_before_end}
use Rattle.bx_grid.proofs.Reading.{reads-append}
use Rattle.bx_terminal.proofs.RunEnds.{half_ended}

-- ---- an item that is begun

-- a terminal that has these bytes half read, where an escape has ended a run
abbrev pub begun : Bool → Terminal → List ℕ → Terminal
begun true t half_read = record (run_ended t) { half_read = half_read }
begun false t half_read = record t { half_read = half_read }

begun_half : (b : Bool) (t : Terminal) (h : List ℕ) → (begun b t h).half_read ≡ h
begun_half true t h = refl
begun_half false t h = refl

begun_more : (b : Bool) (t : Terminal) (h k : List ℕ) → record (begun b t h) { half_read = k } ≡ begun b t k
begun_more true t h k = refl
begun_more false t h k = refl

first_by : (e : Bool) (t : Terminal) (b : ℕ) → nat_eq b 0x1B ≡ e → fate (b ∷ []) ≡ Waits → after_first_byte t b ≡ begun e t (b ∷ [])
first_by true t b e w = cond-true (nat_eq b 0x1B) (record (run_ended t) { half_read = b ∷ [] }) (after_first_byte_as t b (fate (b ∷ []))) e
first_by false t b e w =
    cond-false (nat_eq b 0x1B) (record (run_ended t) { half_read = b ∷ [] }) (after_first_byte_as t b (fate (b ∷ []))) e ∙ ap (after_first_byte_as t b) w

first_waits : (t : Terminal) (b : ℕ) → t.half_read ≡ [] → fate (b ∷ []) ≡ Waits → byte_read t b ≡ begun (nat_eq b 0x1B) t (b ∷ [])
first_waits t b idle w = ap (read_after t b) idle ∙ first_by (nat_eq b 0x1B) t b refl w

next_by : (u : Terminal) (h : List ℕ) (b : ℕ) → u.half_read ≡ h → 0 < length h → byte_read u b ≡ after_next_byte u b (fate (h ++ b ∷ []))
next_by u [] b e some = absurd (omega (arith, some))
next_by u (c ∷ h) b e some = ap (read_after u b) e

next_waits : (u : Terminal) (h : List ℕ) (b : ℕ) → u.half_read ≡ h → 0 < length h → fate (h ++ b ∷ []) ≡ Waits
    → byte_read u b ≡ record u { half_read = h ++ b ∷ [] }
next_waits u h b e some w = next_by u h b e some ∙ ap (after_next_byte u b) w ∙ ap (λ k. record u { half_read = k ++ b ∷ [] }) e

longer : (h : List ℕ) (b : ℕ) → 0 < length (h ++ b ∷ [])
longer [] b = omega arith
longer (c ∷ h) b = omega arith

more_waits : (u : Terminal) (h bs : List ℕ) → u.half_read ≡ h → 0 < length h → fate (h ++ bs) ≡ Waits → reads u bs ≡ record u { half_read = h ++ bs }
more_waits u h [] e some w = ap (λ k. record u { half_read = k }) (e ∙ sym (append-nil h))
more_waits u h (b ∷ bs) e some w =
    let all : (h ++ b ∷ []) ++ bs ≡ h ++ b ∷ bs = append_assoc h (b ∷ []) bs in
    let rest : fate ((h ++ b ∷ []) ++ bs) ≡ Waits = ap fate all ∙ w in
    ap (λ v. reads v bs) (next_waits u h b e some (waits_before (h ++ b ∷ []) bs rest))
    ∙ more_waits (record u { half_read = h ++ b ∷ [] }) (h ++ b ∷ []) bs refl (longer h b) rest
    ∙ ap (λ k. record u { half_read = k }) all

pub all_waits : (t : Terminal) (b : ℕ) (bs : List ℕ) → t.half_read ≡ [] → fate (b ∷ bs) ≡ Waits → reads t (b ∷ bs) ≡ begun (nat_eq b 0x1B) t (b ∷ bs)
all_waits t b bs idle w =
    let e = nat_eq b 0x1B in
    ap (λ v. reads v bs) (first_waits t b idle (waits_before (b ∷ []) bs w))
    ∙ more_waits (begun e t (b ∷ [])) (b ∷ []) bs (begun_half e t (b ∷ [])) (omega arith) w
    ∙ begun_more e t (b ∷ []) (b ∷ bs)

-- ---- an item that is whole

-- the effect of a token that is read after a run
abbrev pub token_met : Terminal → Token → Terminal
token_met t (Run text) = record t { run = t.run ++ text }
token_met t (Sequence bytes) = after_command (run_ended t) (escape_command (drop 1 bytes))
token_met t (Other bytes) = all_unknown t

unread : (u : Terminal) (k bs : List ℕ) → 0 < length bs → token_read (record u { half_read = k }) bs ≡ token_read u bs
unread u k [] some = absurd (omega (arith, some))
unread u k (b ∷ bs) some = refl

next_ends : (u : Terminal) (h : List ℕ) (b : ℕ) → u.half_read ≡ h → 0 < length h → fate (h ++ b ∷ []) ≡ Ends → byte_read u b ≡ token_read u (h ++ b ∷ [])
next_ends u h b e some w = next_by u h b e some ∙ ap (after_next_byte u b) w ∙ ap (λ k. token_read u (k ++ b ∷ [])) e

more_ends : (u : Terminal) (h : List ℕ) (b : ℕ) (bs : List ℕ) → u.half_read ≡ h → 0 < length h → fate (h ++ b ∷ bs) ≡ Ends
    → reads u (b ∷ bs) ≡ token_read u (h ++ b ∷ bs)
more_ends u h b [] e some w = next_ends u h b e some w
more_ends u h b (c ∷ bs) e some w =
    let all : (h ++ b ∷ []) ++ c ∷ bs ≡ h ++ b ∷ c ∷ bs = append_assoc h (b ∷ []) (c ∷ bs) in
    let rest : fate ((h ++ b ∷ []) ++ c ∷ bs) ≡ Ends = ap fate all ∙ w in
    ap (λ v. reads v (c ∷ bs)) (next_waits u h b e some (waits_before_end (h ++ b ∷ []) c bs rest))
    ∙ more_ends (record u { half_read = h ++ b ∷ [] }) (h ++ b ∷ []) c bs refl (longer h b) rest
    ∙ ap (token_read (record u { half_read = h ++ b ∷ [] })) all
    ∙ unread u (h ++ b ∷ []) (h ++ b ∷ c ∷ bs) (let n = length-append h (b ∷ c ∷ bs) in omega (arith, n))

met_by : (p : Bool) (t : Terminal) (bs : List ℕ) → t.half_read ≡ [] → are_printable bs ≡ p
    → character_read t bs ≡ token_met t (cond p (Run bs) (Other bs))
met_by true t bs idle e =
    cond-true (are_printable bs) (record t { run = t.run ++ bs; half_read = [] }) (all_unknown t) e
    ∙ ap (λ k. record t { run = t.run ++ bs; half_read = k }) (sym idle)
met_by false t bs idle e = cond-false (are_printable bs) (record t { run = t.run ++ bs; half_read = [] }) (all_unknown t) e

token_by : (e : Bool) (t : Terminal) (b : ℕ) (bs : List ℕ) → t.half_read ≡ [] → nat_eq b 0x1B ≡ e
    → token_read (begun e t (b ∷ [])) (b ∷ bs) ≡ token_met t (token_of (b ∷ bs))
token_by true t b bs idle e =
    let all : List ℕ = b ∷ bs in
    cond-true (nat_eq b 0x1B) (after_command (record (run_ended t) { half_read = [] }) (escape_command bs)) (character_read (run_ended t) all) e
    ∙ ap (λ k. after_command (record (run_ended t) { half_read = k }) (escape_command bs)) (sym (half_ended t idle))
    ∙ ap (token_met t) (sym (cond-true (nat_eq b 0x1B) (Sequence all) (cond (are_printable all) (Run all) (Other all)) e))
token_by false t b bs idle e =
    let all : List ℕ = b ∷ bs in
    cond-false (nat_eq b 0x1B) (after_command (record t { half_read = [] }) (escape_command bs)) (character_read t all) e
    ∙ met_by (are_printable all) t all idle refl
    ∙ ap (token_met t) (sym (cond-false (nat_eq b 0x1B) (Sequence all) (cond (are_printable all) (Run all) (Other all)) e))

escape_waits : (b : ℕ) → nat_eq b 0x1B ≡ true → fate (b ∷ []) ≡ Ends → ⊥
escape_waits b e w = let no : Waits ≡ Ends = ap (λ x. fate (x ∷ [])) (sym (eqb-true b 0x1B e)) ∙ w in cc no

alone_by : (e : Bool) (t : Terminal) (b : ℕ) → t.half_read ≡ [] → nat_eq b 0x1B ≡ e → fate (b ∷ []) ≡ Ends
    → after_first_byte t b ≡ token_met t (token_of (b ∷ []))
alone_by true t b idle e w = absurd (escape_waits b e w)
alone_by false t b idle e w =
    let all : List ℕ = b ∷ [] in
    cond-false (nat_eq b 0x1B) (record (run_ended t) { half_read = all }) (after_first_byte_as t b (fate all)) e
    ∙ ap (after_first_byte_as t b) w
    ∙ cond-false (nat_eq b 0x1B) (after_command (record t { half_read = [] }) (escape_command [])) (character_read t all) e
    ∙ met_by (are_printable all) t all idle refl
    ∙ ap (token_met t) (sym (cond-false (nat_eq b 0x1B) (Sequence all) (cond (are_printable all) (Run all) (Other all)) e))

pub item_read : (t : Terminal) (bs : List ℕ) → t.half_read ≡ [] → fate bs ≡ Ends → reads t bs ≡ token_met t (token_of bs)
item_read t [] idle w = absurd (let no : Waits ≡ Ends = w in cc no)
item_read t (b ∷ []) idle w = ap (read_after t b) idle ∙ alone_by (nat_eq b 0x1B) t b idle refl w
item_read t (b ∷ c ∷ bs) idle w =
    let e = nat_eq b 0x1B in
    ap (λ v. reads v (c ∷ bs)) (first_waits t b idle (waits_before_end (b ∷ []) c bs w))
    ∙ more_ends (begun e t (b ∷ [])) (b ∷ []) c bs (begun_half e t (b ∷ [])) (omega arith) w
    ∙ token_by e t b (c ∷ bs) idle refl

-- ---- the size stays

pub record IsSame (t u : Terminal) : Type 0 where
  pub height : u.height ≡ t.height
  pub width : u.width ≡ t.width

same_put : (b : Bool) (t : Terminal) (p : ℕ × ℕ) (new : List Col) → nat_le 1 (length new) && nat_le (p.1 + length new) t.width ≡ b → IsSame t (glyphs_put t p new)
same_put true t p new e = record { height = rw e refl; width = rw e refl }
same_put false t p new e = record { height = rw e refl; width = rw e refl }

pub same_run : (t : Terminal) (q : Option (ℕ × ℕ)) (n : Option Bool) (run : List ℕ) → IsSame t (run_put t q n run)
same_run t q n [] = record { height = refl; width = refl }
same_run t (Some p) (Some negative) (b ∷ bs) =
    let new = run_columns negative (b ∷ bs) in same_put (nat_le 1 (length new) && nat_le (p.1 + length new) t.width) t p new refl
same_run t (Some p) None (b ∷ bs) = record { height = refl; width = refl }
same_run t None n (b ∷ bs) = record { height = refl; width = refl }

pub unknown_same : (t u : Terminal) → IsSame t u → all_unknown u ≡ all_unknown t
unknown_same t u s = ap₂ (λ h w. record {
  height = h;
  width = w;
  columns = replicate (h * w) Unknown;
  position = None;
  negative = None;
  run = [];
  half_read = [];
}) s.height s.width

begun_unknown : (e : Bool) (t : Terminal) (h : List ℕ) → all_unknown (begun e t h) ≡ all_unknown t
begun_unknown true t h = unknown_same t (run_ended t) (same_run t t.position t.negative t.run)
begun_unknown false t h = refl

-- ---- an item that is broken off

pub first_breaks : (e : Bool) (t : Terminal) (b : ℕ) → nat_eq b 0x1B ≡ e → fate (b ∷ []) ≡ Breaks → after_first_byte t b ≡ all_unknown t
first_breaks true t b e w = absurd (let no : Waits ≡ Breaks = ap (λ x. fate (x ∷ [])) (sym (eqb-true b 0x1B e)) ∙ w in cc no)
first_breaks false t b e w =
    cond-false (nat_eq b 0x1B) (record (run_ended t) { half_read = b ∷ [] }) (after_first_byte_as t b (fate (b ∷ []))) e ∙ ap (after_first_byte_as t b) w

-- the byte that breaks an item off is read afresh
pub break_read : (t : Terminal) (bs : List ℕ) (b : ℕ) (more : List ℕ) → t.half_read ≡ [] → 0 < length bs → fate bs ≡ Waits → fate (bs ++ b ∷ []) ≡ Breaks
    → reads t (bs ++ b ∷ more) ≡ reads (all_unknown t) (b ∷ more)
break_read t [] b more idle some w k = absurd (omega (arith, some))
break_read t (a ∷ bs) b more idle some w k =
    let e = nat_eq a 0x1B in
    let u = begun e t (a ∷ bs) in
    reads-append t (a ∷ bs) (b ∷ more) ∙ ap (λ v. reads v (b ∷ more)) (all_waits t a bs idle w)
    ∙ ap (λ v. reads v more) (next_by u (a ∷ bs) b (begun_half e t (a ∷ bs)) some ∙ ap (after_next_byte u b) k)
    ∙ ap (λ v. reads (after_first_byte v b) more) (begun_unknown e t (a ∷ bs))
