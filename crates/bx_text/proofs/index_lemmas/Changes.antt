-- The paragraphs of a text after a change.
use Rattle.std.proofs.Common.{◌≡◌, ◌≤◌, ◌+◌, ◌-◌, ◌∙◌, ℕ, true, List, [], ◌∷◌, ◌++◌, length, take, drop, chars, encode_utf8_all, IsUtf8, IsCharBoundary, refl}
use Rattle.std.proofs.Common.{ap, sym, subst, arith, length-append}
use Rattle.std.proofs.lemmas.Bool.Decides.{nat_tests}
use Rattle.std.proofs.lemmas.List.{take-append-drop, length-drop, length-take-le, drop-drop}
use Rattle.std.proofs.lemmas.Str.{chars-append, chars-encodes, encodes-chars, encodes-append, scalars-chars, IsUtf8-take, IsUtf8-between}
use Rattle.std.proofs.lemmas.Str.{IsCharBoundary-at_seam}
use Rattle.std.proofs.Math.Seq.{drop-append_seam}
use lib.Utf8.{scalars}
use Rattle.bx_text.specs.declared.change.Change.{Change}
use Rattle.bx_text.specs.Changes.{IsChange}
use Rattle.bx_text.proofs.index_lemmas.Cuts.{widths}

-- ---- a text cut between its characters

pub scalars_back : (x m : List ℕ) → scalars (x ++ m) ≡ true → scalars m ≡ true
scalars_back [] m e = e
scalars_back (c ∷ x) m e = scalars_back x m (grind (arith, nat_tests))

-- a text and its characters, cut at an offset
pub record IsCutAt (text : List ℕ) (at : ℕ) (m : List ℕ) : Type 0 where
  pub bounds : IsCharBoundary text at
  pub rest : chars (drop at text) ≡ m
  pub bytes : length text ≡ at + widths m

pub cut_at : (text x m : List ℕ) (at : ℕ) → IsUtf8 text → chars text ≡ x ++ m → widths x ≡ at → IsCutAt text at m
cut_at text x m at utf8 e w =
    let spelt : text ≡ encode_utf8_all x ++ encode_utf8_all m = sym (encodes-chars text utf8) ∙ ap encode_utf8_all e ∙ encodes-append x m in
    let sound : scalars m ≡ true = scalars_back x m (ap scalars (sym e) ∙ scalars-chars text utf8) in
    let behind : drop at text ≡ encode_utf8_all m =
    ap (λ n. drop n text) (sym w) ∙ ap (drop (widths x)) spelt ∙ drop-append_seam (encode_utf8_all x) (encode_utf8_all m) in
    record {
      bounds = subst (IsCharBoundary text) w (IsCharBoundary-at_seam text (encode_utf8_all x) (encode_utf8_all m) spelt (m, (sound, refl)));
      rest = ap chars behind ∙ chars-encodes m sound;
      bytes = omega (arith, ap length spelt, length-append (encode_utf8_all x) (encode_utf8_all m));
    }

-- ---- a change of a text

-- the characters of two texts around a change
pub record AreAround (old : List ℕ) (c : Change) (new : List ℕ) (a o n d : List ℕ) : Type 0 where
  pub old_chars : chars old ≡ a ++ (o ++ d)
  pub new_chars : chars new ≡ a ++ (n ++ d)
  pub before : widths a ≡ c.start
  pub gone : widths o ≡ c.removed
  pub come : widths n ≡ c.added

pub spelt : (bs : List ℕ) → IsUtf8 bs → widths (chars bs) ≡ length bs
spelt bs utf8 = ap length (encodes-chars bs utf8)

pub between : (text : List ℕ) (i j : ℕ) → IsUtf8 text → IsCharBoundary text i → IsCharBoundary text (i + j) → IsUtf8 (take j (drop i text))
between text i j utf8 b e =
    let len : (i + j) - i ≡ j = omega arith in
    subst (λ n. IsUtf8 (take n (drop i text))) len (IsUtf8-between text i (i + j) utf8 (omega arith) b e)

three : (text : List ℕ) (i j : ℕ) → IsUtf8 text → IsCharBoundary text i → IsCharBoundary text (i + j)
    → chars text ≡ chars (take i text) ++ (chars (take j (drop i text)) ++ chars (drop (i + j) text))
three text i j utf8 b e =
    let first : text ≡ take i text ++ drop i text = sym (take-append-drop i text) in
    let second : drop i text ≡ take j (drop i text) ++ drop (i + j) text = sym (take-append-drop j (drop i text))
    ∙ ap (λ r. take j (drop i text) ++ r) (drop-drop j i text) in
    ap chars first ∙ chars-append (take i text) (drop i text) (IsUtf8-take text i utf8 b)
    ∙ ap (λ r. chars (take i text) ++ r) (ap chars second ∙ chars-append (take j (drop i text)) (drop (i + j) text) (between text i j utf8 b e))

pub front_len : (text : List ℕ) (i : ℕ) → IsUtf8 text → IsCharBoundary text i → widths (chars (take i text)) ≡ i
front_len text i utf8 b = let inside : i ≤ length text = b.0 in spelt (take i text) (IsUtf8-take text i utf8 b) ∙ length-take-le i text inside

middle_len : (text : List ℕ) (i j : ℕ) → IsUtf8 text → IsCharBoundary text i → IsCharBoundary text (i + j) → widths (chars (take j (drop i text))) ≡ j
middle_len text i j utf8 b e =
    let inside : i + j ≤ length text = e.0 in
    spelt (take j (drop i text)) (between text i j utf8 b e) ∙ length-take-le j (drop i text) (omega (arith, length-drop i text))

pub around : (old : List ℕ) (c : Change) (new : List ℕ) → IsUtf8 old → IsUtf8 new → IsChange old c new
    → AreAround old c new (chars (take c.start old)) (chars (take c.removed (drop c.start old))) (chars (take c.added (drop c.start new)))
    (chars (drop (c.start + c.removed) old))
around old c new utf8 utf8' h =
    let b = h.new_range.start_bounds in
    record {
      old_chars = three old c.start c.removed utf8 h.old_range.start_bounds h.old_range.stop_bounds;
      new_chars = three new c.start c.added utf8' b h.new_range.stop_bounds
          ∙ ap (λ f. chars f ++ (chars (take c.added (drop c.start new)) ++ chars (drop (c.start + c.added) new))) h.same_before
          ∙ ap (λ r. chars (take c.start old) ++ (chars (take c.added (drop c.start new)) ++ chars r)) h.same_after;
      before = front_len old c.start utf8 h.old_range.start_bounds;
      gone = middle_len old c.start c.removed utf8 h.old_range.start_bounds h.old_range.stop_bounds;
      come = middle_len new c.start c.added utf8' b h.new_range.stop_bounds;
    }
