-- A cut at a paragraph's start: each part has its own paragraphs.
use Rattle.std.proofs.Common.{◌≡◌, ◌<◌, ◌∙◌, ℕ, Bool, true, false, List, [], ◌∷◌, ◌++◌, length, encode_utf8, encode_utf8_all, refl, ap, sym, arith}
use Rattle.std.specs.List.{list_any}
use Rattle.std.proofs.lemmas.Bool.Decides.{nat_tests}
use Rattle.bx_ucd.specs.Data.{Data}
use Rattle.bx_text.specs.index.Paragraphs.{Paragraph, after_character, after_cr, bare, cut, is_separator}
use Rattle.bx_text.specs.index.Scan.{HasNone}
use Rattle.bx_text.proofs.index_lemmas.Bodies.{cut_ended, cut_paired, cut_plain}
use Rattle.bx_text.proofs.index_lemmas.Cuts.{ends, is_paired, parts, parts_append, parts_same}

module _ (ucd : Data) where
  -- ---- where a paragraph begins

  -- characters part as before if the same ones follow
  pub parts_ahead : (x h r s : List ℕ) → 0 < length h → parts ucd x (h ++ r) ≡ true → parts ucd x (h ++ s) ≡ true
  parts_ahead x [] r s some p = absurd (omega (arith, some))
  parts_ahead x (c ∷ h) r s some p = parts_same ucd x (c ∷ h ++ s) (c ∷ h ++ r) refl ∙ p

  -- and if the same ones precede
  pub parts_behind : (g s t y : List ℕ) → 0 < length t → parts ucd (s ++ t) y ≡ true → parts ucd (g ++ t) y ≡ true
  parts_behind g s [] y some p = absurd (omega (arith, some))
  parts_behind g s (c ∷ t) y some p = parts_append ucd g c t y ∙ sym (parts_append ucd s c t y) ∙ p

  -- ---- the paragraphs on both sides

  record JoinsAt (c : ℕ) (w z : List ℕ) : Type 0 where
    first : Paragraph
    others : List Paragraph
    alone : cut ucd (c ∷ w) ≡ first ∷ (others ++ bare [] ∷ [])
    together : cut ucd (c ∷ w ++ z) ≡ first ∷ (others ++ cut ucd z)

  joins_at : (c d : ℕ) (w z : List ℕ) (ended paired : Bool) → ends ucd c ≡ ended → is_paired ucd c (d ∷ w) ≡ paired → JoinsAt d w z → JoinsAt c (d ∷ w) z
  joins_at c d w z false paired e p j = record {
    first = record j.first { body = encode_utf8 c ++ j.first.body };
    others = j.others;
    alone = cut_plain ucd c (d ∷ w) e ∙ ap (after_character c) j.alone;
    together = cut_plain ucd c (d ∷ w ++ z) e ∙ ap (after_character c) j.together;
  }
  joins_at c d w z true true e p j = record {
    first = record j.first { separator = encode_utf8 13 ++ j.first.separator };
    others = j.others;
    alone = cut_paired ucd c (d ∷ w) e p ∙ ap after_cr j.alone;
    together = cut_paired ucd c (d ∷ w ++ z) e p ∙ ap after_cr j.together;
  }
  joins_at c d w z true false e p j = record {
    first = bare (encode_utf8 c);
    others = j.first ∷ j.others;
    alone = cut_ended ucd c (d ∷ w) e p ∙ ap (λ ps. bare (encode_utf8 c) ∷ ps) j.alone;
    together = cut_ended ucd c (d ∷ w ++ z) e p ∙ ap (λ ps. bare (encode_utf8 c) ∷ ps) j.together;
  }

  joins_from : (c : ℕ) (w z : List ℕ) → parts ucd (c ∷ w) z ≡ true → JoinsAt c w z
  joins_from c [] z p =
      let e : ends ucd c ≡ true = grind (arith, nat_tests) in
      let single : is_paired ucd c z ≡ false = grind (arith, nat_tests) in
      let alone : is_paired ucd c [] ≡ false = grind (arith, nat_tests) in
      record { first = bare (encode_utf8 c); others = []; alone = cut_ended ucd c [] e alone; together = cut_ended ucd c z e single }
  joins_from c (d ∷ w) z p = joins_at c d w z (ends ucd c) (is_paired ucd c (d ∷ w)) refl refl (joins_from d w z p)

  -- the paragraphs of the characters before a seam: those that end, and an empty one
  pub record Joins (w z : List ℕ) : Type 0 where
    pub front : List Paragraph
    pub alone : cut ucd w ≡ front ++ bare [] ∷ []
    pub together : cut ucd (w ++ z) ≡ front ++ cut ucd z

  pub joins : (w z : List ℕ) → parts ucd w z ≡ true → Joins w z
  joins [] z p = record { front = []; alone = refl; together = refl }
  joins (c ∷ w) z p = let j = joins_from c w z p in record { front = j.first ∷ j.others; alone = j.alone; together = j.together }

  -- ---- the first paragraph

  -- a separator in front is a paragraph of no body
  ended_by : (c : ℕ) (cs : List ℕ) (paired : Bool) → ends ucd c ≡ true → is_paired ucd c cs ≡ paired
      → (q : List ℕ) × (others : List Paragraph) × (cut ucd (c ∷ cs) ≡ bare q ∷ others)
  ended_by c cs false e p = (encode_utf8 c, cut ucd cs, cut_ended ucd c cs e p)
  ended_by c [] true e p = absurd (grind (arith, nat_tests))
  ended_by c (d ∷ cs) true e p =
      let lf : d ≡ 10 = grind (arith, nat_tests) in
      let f : ends ucd d ≡ true = grind (arith, nat_tests) in
      let single : is_paired ucd d cs ≡ false = grind (arith, nat_tests) in
      (encode_utf8 13 ++ encode_utf8 d, cut ucd cs, cut_paired ucd c (d ∷ cs) e p ∙ ap after_cr (cut_ended ucd d cs f single))

  -- characters without a separator are in the body of the first paragraph
  pub quiet_cut : (cs ds q : List ℕ) (others : List Paragraph) → HasNone ucd cs → cut ucd ds ≡ bare q ∷ others
      → cut ucd (cs ++ ds) ≡ record { body = encode_utf8_all cs; separator = q } ∷ others
  quiet_cut [] ds q others none e = e
  quiet_cut (c ∷ cs) ds q others none e = cut_plain ucd c (cs ++ ds) none.0 ∙ ap (after_character c) (quiet_cut cs ds q others none.1 e)

  -- the characters of the first body, and those after it
  pub record Opens (cs : List ℕ) : Type 0 where
    pub body : List ℕ
    pub rest : List ℕ
    pub separator : List ℕ
    pub others : List Paragraph
    pub whole : cs ≡ body ++ rest
    pub none : HasNone ucd body
    pub behind : cut ucd rest ≡ bare separator ∷ others

  opens_at : (c : ℕ) (cs : List ℕ) (ended : Bool) → ends ucd c ≡ ended → Opens cs → Opens (c ∷ cs)
  opens_at c cs false e o = record {
    body = c ∷ o.body;
    rest = o.rest;
    separator = o.separator;
    others = o.others;
    whole = ap (λ v. c ∷ v) o.whole;
    none = (e, o.none);
    behind = o.behind;
  }
  opens_at c cs true e o =
      let (q, others, f) = ended_by c cs (is_paired ucd c cs) e refl in
      record { body = []; rest = c ∷ cs; separator = q; others = others; whole = refl; none = tt; behind = f }

  pub opens : (cs : List ℕ) → Opens cs
  opens [] = record { body = []; rest = []; separator = []; others = []; whole = refl; none = tt; behind = refl }
  opens (c ∷ cs) = opens_at c cs (ends ucd c) refl (opens cs)

  -- ---- characters without a separator

  pub none_front : (cs ds : List ℕ) → HasNone ucd (cs ++ ds) → HasNone ucd cs
  none_front [] ds h = tt
  none_front (c ∷ cs) ds h = (h.0, none_front cs ds h.1)

  pub none_back : (cs ds : List ℕ) → HasNone ucd (cs ++ ds) → HasNone ucd ds
  none_back [] ds h = h
  none_back (c ∷ cs) ds h = none_back cs ds h.1

  pub none_joined : (cs ds : List ℕ) → HasNone ucd cs → HasNone ucd ds → HasNone ucd (cs ++ ds)
  none_joined [] ds h k = k
  none_joined (c ∷ cs) ds h k = (h.0, none_joined cs ds h.1 k)

  pub none_found : (cs : List ℕ) → list_any (λ c. is_separator (ucd.class c)) cs ≡ false → HasNone ucd cs
  none_found [] e = tt
  none_found (c ∷ cs) e =
      let first : is_separator (ucd.class c) ≡ false = grind (arith, nat_tests) in
      let others : list_any (λ d. is_separator (ucd.class d)) cs ≡ false = grind (arith, nat_tests) in
      (first, none_found cs others)
