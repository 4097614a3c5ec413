-- A terminal that reads bytes does what their tokens do.
use Rattle.std.proofs.Common.{◌≡◌, ℕ, zero, suc, ◌+◌, ◌<◌, ◌≤◌, max, ◌&&◌, Bool, true, false, cond, nat_eq, nat_le, List, [], ◌∷◌, ◌++◌, length, take, drop}
use Rattle.std.proofs.Common.{get_or, fold, Option, Some, None, inl, inr, refl, ap, sym, ◌∙◌, arith, length-drop, length-take-le, take-append-drop, take_all}
use Rattle.std.proofs.Common.{drop-cons}
use Rattle.std.proofs.lemmas.Bool.{cases_eq, cases_Bool, cond-true, cond-false, eq-eqb, ne_eqb}
use Rattle.std.proofs.lemmas.List.{take_more}
use Rattle.bx_bytes.specs.declared.fate.Fate.TheVariants.{Waits, Breaks}
use Rattle.bx_grid.specs.Columns.{Col, run_columns}
use Rattle.bx_terminal.specs.Cutting.{Cut, Cutting, Token, Run, Sequence, Other, is_item, beginning, token_of, with_token, cut_within, run_token, with_tokens}
use Rattle.bx_terminal.specs.Cutting.{last_run, joined, cutting}
use Rattle.bx_terminal.specs.Laws.{token_done, tokens_done}
use Rattle.bx_grid.specs.Picture.{IsIdle}
use Rattle.bx_grid.specs.Terminal.{Terminal, all_unknown, after_command, glyphs_put, read_after, reads, run_ended, run_put}
use Rattle.bx_grid.specs.Tokens.{escape_command, fate}
use Rattle.bx_terminal.proofs.Items.{waits_if, ends_if, long_begins, long_le, next_breaks, item_some}
use Rattle.bx_terminal.proofs.ItemsRead.{IsSame, all_waits, begun, break_read, first_breaks, item_read, same_run, token_met, unknown_same}
use Rattle.bx_grid.proofs.Reading.{reads-append}
use Rattle.bx_terminal.proofs.RunEnds.{half_ended}
use Rattle.bx_grid.proofs.RunEnds.{no_run}
use Rattle.bx_grid.proofs.Idle.{idle_command}

-- ---- runs

idle_put : (b : Bool) (t : Terminal) (p : ℕ × ℕ) (new : List Col) → IsIdle t → nat_le 1 (length new) && nat_le (p.1 + length new) t.width ≡ b
    → IsIdle (glyphs_put t p new)
idle_put true t p new i e = record { no_run = rw e refl; no_token = rw e i.no_token }
idle_put false t p new i e = record { no_run = rw e refl; no_token = rw e refl }

idle_run : (t : Terminal) (q : Option (ℕ × ℕ)) (n : Option Bool) (run : List ℕ) → IsIdle t → IsIdle (run_put t q n run)
idle_run t q n [] i = i
idle_run t (Some p) (Some negative) (b ∷ bs) i =
    let new = run_columns negative (b ∷ bs) in idle_put (nat_le 1 (length new) && nat_le (p.1 + length new) t.width) t p new i refl
idle_run t (Some p) None (b ∷ bs) i = record { no_run = refl; no_token = refl }
idle_run t None n (b ∷ bs) i = record { no_run = refl; no_token = refl }

put_alike : (b : Bool) (t : Terminal) (p : ℕ × ℕ) (new : List Col) (run : List ℕ) → nat_le 1 (length new) && nat_le (p.1 + length new) t.width ≡ b
    → glyphs_put (record t { run = run }) p new ≡ glyphs_put t p new
put_alike true t p new run e = rw e refl
put_alike false t p new run e = rw e refl

run_alike : (t : Terminal) (q : Option (ℕ × ℕ)) (n : Option Bool) (b : ℕ) (bs run : List ℕ)
    → run_put (record t { run = run }) q n (b ∷ bs) ≡ run_put t q n (b ∷ bs)
run_alike t (Some p) (Some negative) b bs run =
    let new = run_columns negative (b ∷ bs) in put_alike (nat_le 1 (length new) && nat_le (p.1 + length new) t.width) t p new run refl
run_alike t (Some p) None b bs run = refl
run_alike t None n b bs run = refl

-- the run that a terminal has is a token
ended_done : (t : Terminal) (run : List ℕ) → t.run ≡ [] → run_ended (record t { run = run }) ≡ tokens_done t (run_token run)
ended_done t [] none = ap (λ r. record t { run = r }) (sym none)
ended_done t (b ∷ bs) none = run_alike t t.position t.negative b bs (b ∷ bs)

idle_done : (t : Terminal) (run : List ℕ) → IsIdle t → IsIdle (tokens_done t (run_token run))
idle_done t [] i = i
idle_done t (b ∷ bs) i = idle_run t t.position t.negative (b ∷ bs) i

same_done : (t : Terminal) (run : List ℕ) → IsSame t (tokens_done t (run_token run))
same_done t [] = record { height = refl; width = refl }
same_done t (b ∷ bs) = same_run t t.position t.negative (b ∷ bs)

done_behind : (t : Terminal) (run : List ℕ) (token : Token) (tokens : List Token)
    → tokens_done t ((run_token run ++ token ∷ []) ++ tokens) ≡ tokens_done (token_done (tokens_done t (run_token run)) token) tokens
done_behind t [] token tokens = refl
done_behind t (b ∷ bs) token tokens = refl

-- ---- tokens in which each printable character is a run

abbrev rest_begun : Terminal → List ℕ → Terminal
rest_begun t [] = t
rest_begun t (b ∷ bs) = begun (nat_eq b 0x1B) t (b ∷ bs)

-- a terminal with the rest of a cutting half read
abbrev left : Terminal → Cutting → Terminal
left t c = record (tokens_done t c.tokens) { run = c.run; half_read = c.rest }

last_by : (e : Bool) (t : Terminal) (run : List ℕ) (b : ℕ) (bs : List ℕ) → IsIdle t → nat_eq b 0x1B ≡ e
    → begun e (record t { run = run }) (b ∷ bs) ≡ left t (last_run run (b ∷ bs))
last_by true t run b bs i e =
    let done = tokens_done t (run_token run) in
    let ended : Cutting = record { tokens = run_token run; run = []; rest = b ∷ bs } in
    let open_run : Cutting = record { tokens = []; run = run; rest = b ∷ bs } in
    ap (λ (u : Terminal). record u { half_read = b ∷ bs }) (ended_done t run i.no_run)
    ∙ ap (λ r. record done { run = r; half_read = b ∷ bs }) ((idle_done t run i).no_run)
    ∙ ap (left t) (sym (cond-true (nat_eq b 0x1B) ended open_run e))
last_by false t run b bs i e =
    let ended : Cutting = record { tokens = run_token run; run = []; rest = b ∷ bs } in
    let open_run : Cutting = record { tokens = []; run = run; rest = b ∷ bs } in
    ap (left t) (sym (cond-false (nat_eq b 0x1B) ended open_run e))

last_is : (t : Terminal) (run rest : List ℕ) → IsIdle t → rest_begun (record t { run = run }) rest ≡ left t (last_run run rest)
last_is t run [] i = ap (λ k. record t { run = run; half_read = k }) i.no_token
last_is t run (b ∷ bs) i = last_by (nat_eq b 0x1B) t run b bs i refl

left_behind : (t : Terminal) (run : List ℕ) (token : Token) (c : Cutting)
    → left (token_done (tokens_done t (run_token run)) token) c ≡ left t (with_tokens (run_token run ++ token ∷ []) c)
left_behind t run token c = ap (λ (u : Terminal). record u { run = c.run; half_read = c.rest }) (sym (done_behind t run token c.tokens))

met_done : (t : Terminal) (run : List ℕ) (tokens : List Token) (rest : List ℕ) → IsIdle t
    → rest_begun (fold token_met (record t { run = run }) tokens) rest ≡ left t (joined run tokens rest)
met_done t run [] rest i = last_is t run rest i
met_done t run (Run text ∷ tokens) rest i = met_done t (run ++ text) tokens rest i
met_done t run (Sequence bytes ∷ tokens) rest i =
    let c = escape_command (drop 1 bytes) in
    let done = tokens_done t (run_token run) in
    let u = after_command done c in
    let idle : IsIdle u = idle_command done c (idle_done t run i) in
    ap (λ v. rest_begun (fold token_met (after_command v c) tokens) rest) (ended_done t run i.no_run)
    ∙ ap (λ r. rest_begun (fold token_met (record u { run = r }) tokens) rest) idle.no_run
    ∙ met_done u [] tokens rest idle
    ∙ left_behind t run (Sequence bytes) (joined [] tokens rest)
met_done t run (Other bytes ∷ tokens) rest i =
    let done = tokens_done t (run_token run) in
    met_done (all_unknown t) [] tokens rest (record { no_run = refl; no_token = refl })
    ∙ ap (λ u. left u (joined [] tokens rest)) (sym (unknown_same t done (same_done t run)))
    ∙ left_behind t run (Other bytes) (joined [] tokens rest)

-- ---- cuts

-- a run that has taken effect leaves nothing half read
idle_ended : (t : Terminal) → t.half_read ≡ [] → IsIdle (run_ended t)
idle_ended t h = record { no_run = no_run t t.position t.negative t.run refl; no_token = half_ended t h }

half_met : (t : Terminal) (token : Token) → t.half_read ≡ [] → (token_met t token).half_read ≡ []
half_met t (Run text) h = h
half_met t (Sequence bytes) h = (idle_command (run_ended t) (escape_command (drop 1 bytes)) (idle_ended t h)).no_token
half_met t (Other bytes) h = refl

broken_read : (t : Terminal) (b : ℕ) (bs : List ℕ) → t.half_read ≡ [] → is_item (take (beginning (b ∷ bs)) (b ∷ bs)) ≡ false
    → beginning (b ∷ bs) < length (b ∷ bs) → reads t (b ∷ bs) ≡ reads (all_unknown t) (drop (max 1 (beginning (b ∷ bs))) (b ∷ bs))
broken_read t b bs idle none less =
    let all : List ℕ = b ∷ bs in
    let long = beginning all in
    let next = get_or all long 0 in
    let stops = next_breaks all less in
    elim (cases_eq long 0) [
      | inl zeros ↦ (
          let alone : fate (b ∷ []) ≡ Breaks = ap (λ k. fate (take (k + 1) all)) (sym zeros) ∙ stops in
          ap (λ v. reads v bs) (ap (read_after t b) idle ∙ first_breaks (nat_eq b 0x1B) t b refl alone)
          ∙ ap (λ k. reads (all_unknown t) (drop (max 1 k) all)) (sym zeros))
      | inr other ↦ (
          let some : 1 ≤ long = omega (arith, other) in
          let most : long ≡ max 1 long = omega (arith, some) in
          let behind : drop long all ≡ next ∷ drop (suc long) all = drop-cons all long 0 less in
          let count : length (take long all) ≡ long = length-take-le long all (omega (arith, less)) in
          let broken : fate (take long all ++ next ∷ []) ≡ Breaks = ap fate (sym (take_more all long 0 less)) ∙ stops in
          ap (reads t) (sym (take-append-drop long all) ∙ ap (λ ys. take long all ++ ys) behind)
          ∙ break_read t (take long all) next (drop (suc long) all) idle (omega (arith, count, some)) (waits_if (take long all) none (long_begins all)) broken
          ∙ ap (reads (all_unknown t)) (sym behind)
          ∙ ap (λ k. reads (all_unknown t) (drop k all)) most)
    ]

drop_fewer : (k n : ℕ) (b : ℕ) (bs : List ℕ) → 1 ≤ k → length (b ∷ bs) ≤ suc n → length (drop k (b ∷ bs)) ≤ n
drop_fewer k n b bs l h = omega (arith, length-drop k (b ∷ bs), l, h)

abbrev met : Terminal → Cut → Terminal
met t c = rest_begun (fold token_met t c.tokens) c.rest

cut_read : (n : ℕ) (bs : List ℕ) (t : Terminal) → length bs ≤ n → t.half_read ≡ [] → reads t bs ≡ met t (cut_within n bs)
cut_read zero [] t h idle = refl
cut_read (suc n) [] t h idle = refl
cut_read zero (b ∷ bs) t h idle = absurd (omega (arith, h))
cut_read (suc n) (b ∷ bs) t h idle =
    let all : List ℕ = b ∷ bs in
    let long = beginning all in
    let front = take long all in
    let k = max 1 long in
    let whole = with_token (token_of front) (cut_within n (drop long all)) in
    let broken = with_token (Other (take k all)) (cut_within n (drop k all)) in
    let waiting : Cut = record { tokens = []; rest = all } in
    let otherwise = cond (nat_eq long (length all)) waiting broken in
    elim (cases_Bool (is_item front)) [
      | inl item ↦ (
          let some = item_some long all item in
          let u = token_met t (token_of front) in
          ap (reads t) (sym (take-append-drop long all)) ∙ reads-append t front (drop long all)
          ∙ ap (λ v. reads v (drop long all)) (item_read t front idle (ends_if front item))
          ∙ cut_read n (drop long all) u (drop_fewer long n b bs some h) (half_met t (token_of front) idle)
          ∙ ap (met t) (sym (cond-true (is_item front) whole otherwise item)))
      | inr none ↦ elim (cases_eq long (length all)) [
        | inl last ↦ (
            let is : front ≡ all = ap (λ j. take j all) last ∙ take_all (length all) all (omega arith) in
            let waits : fate all ≡ Waits = ap fate (sym is) ∙ waits_if front none (long_begins all) in
            all_waits t b bs idle waits
            ∙ ap (met t) (sym (cond-false (is_item front) whole otherwise none ∙ cond-true (nat_eq long (length all)) waiting broken (eq-eqb long (length all) last))))
        | inr less ↦ (
            let more : long < length all = omega (arith, less, long_le all) in
            broken_read t b bs idle none more
            ∙ cut_read n (drop k all) (all_unknown t) (drop_fewer k n b bs (omega arith) h) refl
            ∙ ap (met t) (sym (cond-false (is_item front) whole otherwise none ∙ cond-false (nat_eq long (length all)) waiting broken (ne_eqb long (length all) less))))
      ]
    ]

pub reads-tokens : (t : Terminal) (bs : List ℕ) → IsIdle t
    → let c : Cutting = cutting bs in reads t bs ≡ record (tokens_done t c.tokens) { run = c.run; half_read = c.rest }
reads-tokens t bs i =
    let c = cut_within (length bs) bs in
    cut_read (length bs) bs t (omega arith) i.no_token
    ∙ ap (λ r. rest_begun (fold token_met (record t { run = r }) c.tokens) c.rest) i.no_run
    ∙ met_done t [] c.tokens c.rest i
