-- The starts of lines, from the places of line feeds.
use Rattle.std.proofs.Common.{◌≡◌, ◌≢◌, ◌+◌, ◌-◌, ℕ, zero, suc, Bool, true, false, List, [], ◌∷◌, length, take, drop, get_or, refl, sym, ap, ◌∙◌, arith}
use Rattle.std.specs.Prelude.{◌==◌, if◌then◌else◌}
use Rattle.std.proofs.Math.ListN.{drop_of_length-le}
use Rattle.std.proofs.lemmas.List.{drop_more}
use Rattle.memchr.specs.Find.{is_byte, places, places_from}
use Rattle.bx_command.specs.Lines.{behind_feeds, last_from, start_of_line, with_start}

-- the offsets after these
abbrev pub behind_all : List ℕ → List ℕ
behind_all [] = []
behind_all (at ∷ feeds) = (at + 1) ∷ behind_all feeds

-- the last of the first `left` starts after these line feeds
abbrev pub last_start : List ℕ → ℕ → ℕ → ℕ
last_start feeds start left = last_from start (take left (behind_all feeds))

with_place : (is_feed : Bool) (at : ℕ) (feeds : List ℕ) → behind_all (if is_feed then at ∷ feeds else feeds) ≡ with_start is_feed (at + 1) (behind_all feeds)
with_place true at feeds = refl
with_place false at feeds = refl

feeds_from : (text : List ℕ) (at n : ℕ) → at + n ≡ length text → behind_all (places_from (is_byte 0x0a) text at n) ≡ behind_feeds at (drop at text)
unfolding places_from
feeds_from text at zero e = sym (ap (behind_feeds at) (drop_of_length-le text (omega (arith, e))))
feeds_from text at (suc n) e =
    let is_feed = get_or text at 0 == 0x0a in
    with_place is_feed at (places_from (is_byte 0x0a) text (at + 1) n)
    ∙ ap (with_start is_feed (at + 1)) (feeds_from text (at + 1) n (omega (arith, e)))
    ∙ sym (ap (behind_feeds at) (drop_more text at 0 (omega (arith, e))))

less_one : (line : ℕ) (starts : List ℕ) → last_from 0 (take (line - 1) starts) ≡ last_from 0 (take line (0 ∷ starts))
less_one zero starts = refl
less_one (suc n) starts = let e : suc n - 1 ≡ n = omega arith in ap (λ k. last_from 0 (take k starts)) e

pub at_first : (text : List ℕ) (line : ℕ) → last_start (places (is_byte 0x0a) text) 0 (line - 1) ≡ start_of_line text line
at_first text line =
    ap (λ starts. last_from 0 (take (line - 1) starts)) (feeds_from text 0 (length text - 0) (omega arith)) ∙ less_one line (behind_feeds 0 text)

pub none_left : (feeds : List ℕ) (start : ℕ) → last_start feeds start 0 ≡ start
none_left feeds start = refl

pub none_found : (start left : ℕ) → last_start [] start left ≡ start
none_found start zero = refl
none_found start (suc n) = refl

-- after a line feed there is one start less
pub behind_a_feed : (at : ℕ) (feeds : List ℕ) (start left : ℕ) → left ≢ 0 → last_start (at ∷ feeds) start left ≡ last_start feeds (at + 1) (left - 1)
behind_a_feed at feeds start zero some = absurd (some refl)
behind_a_feed at feeds start (suc n) some = let e : n ≡ suc n - 1 = omega arith in ap (λ k. last_start feeds (at + 1) k) e
