-- Columns pasted over others: both sides stay, and whole glyphs over blanks.
use Rattle.std.proofs.Common.{◌≡◌, false, refl, ℕ, ◌+◌, ◌*◌, ◌-◌, ◌<◌, ◌≤◌, List, [], ◌∷◌, ◌++◌, length, take, drop, replicate, zero, suc, Result, Ok, Err, OnErr}
use Rattle.std.proofs.Common.{subst, ap, sym, ◌∙◌, append_assoc, length-append, arith}
use Rattle.std.proofs.Math.Seq.{take-append-add, drop-append-add}
use Rattle.std.proofs.lemmas.List.{take-append-drop, take-append-le, drop-append-le, take_at, drop_at, drop-drop, length-drop, length-take-le, length-replicate}
use Rattle.bx_grid.specs.Columns.{Col, blank}
use Rattle.bx_grid.specs.Grid.{paste, AreBlank, AreSameAround}
use Rattle.bx_grid.specs.Glyphs.{AreWhole, AreWholeRows}
use Rattle.bx_grid.proofs.Whole.{space, space_is, whole_along, whole-append, whole_after, whole_split}

-- ---- both sides

-- the columns before stay
pub paste_after : (a b news : List Col) (k q : ℕ) → k ≡ length a + q → paste (a ++ b) k news ≡ a ++ paste b q news
paste_after a b news k q e =
    let there : k + length news ≡ length a + (q + length news) = omega (arith, e) in
    ap (λ n. paste (a ++ b) n news) e
    ∙ ap (λ n. (take (length a + q) (a ++ b) ++ news) ++ drop n (a ++ b)) (let r : length a + q + length news ≡ length a + (q + length news) = omega arith in r)
    ∙ rw (take-append-add a b q, drop-append-add a b (q + length news))
    (append_assoc (a ++ take q b) news (drop (q + length news) b) ∙ append_assoc a (take q b) (news ++ drop (q + length news) b)
    ∙ ap (λ cs. a ++ cs) (sym (append_assoc (take q b) news (drop (q + length news) b))))

-- the columns after stay
pub paste_before : (a b news : List Col) (k : ℕ) → k + length news ≤ length a → paste (a ++ b) k news ≡ paste a k news ++ b
paste_before a b news k fits =
    let low : k ≤ length a = omega arith in
    rw (take-append-le k a b low, drop-append-le (k + length news) a b fits) (sym (append_assoc (take k a ++ news) (drop (k + length news) a) b))

-- the parts of a list before, in and after a span
pub three_parts : (xs : List Col) (k n : ℕ) → xs ≡ take k xs ++ (take n (drop k xs) ++ drop (k + n) xs)
three_parts xs k n =
    sym (ap (λ cs. take k xs ++ (take n (drop k xs) ++ cs)) (sym (drop-drop n k xs))
    ∙ ap (λ cs. take k xs ++ cs) (take-append-drop n (drop k xs))
    ∙ take-append-drop k xs)

pub length-paste : (xs news : List Col) (k : ℕ) → k + length news ≤ length xs → length (paste xs k news) ≡ length xs
length-paste xs news k fits =
    length-append (take k xs ++ news) (drop (k + length news) xs)
    ∙ omega (arith, length-append (take k xs) news, length-take-le k xs (let low : k ≤ length xs = omega arith in low), length-drop (k + length news) xs)

-- nothing else changes
pub paste_around : (xs news : List Col) (k n : ℕ) → length news ≤ n → k + n ≤ length xs → AreSameAround k n xs (paste xs k news)
paste_around xs news k n few fits =
    let low : k ≤ length xs = omega arith in
    let m = length news in
    let front : length (take k xs ++ news) ≡ k + m = length-append (take k xs) news ∙ ap (λ l. l + m) (length-take-le k xs low) in
    let rest : n - m + (k + m) ≡ k + n = omega arith in
    let past : k + n ≡ length (take k xs ++ news) + (n - m) = omega (arith, front) in
    record {
      before = ap (take k) (append_assoc (take k xs) news (drop (k + m) xs)) ∙ take_at (take k xs) (news ++ drop (k + m) xs) k (length-take-le k xs low);
      after = ap (λ l. drop l (paste xs k news)) past ∙ drop-append-add (take k xs ++ news) (drop (k + m) xs) (n - m) ∙ drop-drop (n - m) (k + m) xs
          ∙ ap (λ l. drop l xs) (omega arith);
    }

-- blanks over blanks leave all as it was
pub blanked_back : (xs ys : List Col) (k n : ℕ) → AreSameAround k n xs ys → AreBlank k n xs → paste ys k (replicate n blank) ≡ xs
blanked_back xs ys k n same blanks =
    let len : k + length (replicate n blank) ≡ k + n = omega (arith, length-replicate n blank) in
    rw (len, same.before, same.after)
    (append_assoc (take k xs) (replicate n blank) (drop (k + n) xs)
    ∙ ap (λ cs. take k xs ++ (cs ++ drop (k + n) xs)) (sym blanks)
    ∙ sym (three_parts xs k n))

-- the columns under a paste do not matter
pub pasted_around : (xs ys news : List Col) (k n : ℕ) → AreSameAround k n xs ys → length news ≡ n → paste ys k news ≡ paste xs k news
pasted_around xs ys news k n same len = rw (len, same.before, same.after) refl

pub err_always : {T E : Type 0} (r : Result T E) (P : Type 0) → P → OnErr r P
err_always (Ok x) P h = tt
err_always (Err e) P h = h

-- ---- whole glyphs over blanks

pub past_blanks : (n : ℕ) (ys : List Col) → AreWhole (replicate n blank ++ ys) → AreWhole ys
past_blanks zero ys a = a
past_blanks (suc n) ys a = past_blanks n ys (whole_after space (replicate n blank ++ ys) space_is a)

cut_blanks : (xs : List Col) (n : ℕ) (ys : List Col) → 1 ≤ n → AreWhole (xs ++ (replicate n blank ++ ys)) → AreWhole xs × AreWhole ys
cut_blanks xs zero ys low a = absurd (omega arith)
cut_blanks xs (suc n) ys low a =
    let both = whole_split xs (32 ∷ []) 1 false (replicate n blank ++ ys) a in
    (both.0, past_blanks (suc n) ys both.1)

pub whole_paste : (row news : List Col) (k : ℕ) → 1 ≤ length news → AreBlank k (length news) row → AreWhole news → AreWhole row → AreWhole (paste row k news)
whole_paste row news k low blanks new a =
    let n = length news in
    let split : row ≡ take k row ++ (replicate n blank ++ drop (k + n) row) =
    three_parts row k n ∙ ap (λ cs. take k row ++ (cs ++ drop (k + n) row)) blanks in
    let both = cut_blanks (take k row) n (drop (k + n) row) low (whole_along row _ split a) in
    whole-append (take k row ++ news) (drop (k + n) row) (whole-append (take k row) news both.0 new) both.1

-- ---- rows

blank_before : (a b : List Col) (k n : ℕ) → k + n ≤ length a → AreBlank k n (a ++ b) → AreBlank k n a
blank_before a b k n fits h =
    let low : k ≤ length a = omega arith in
    let room : n ≤ length (drop k a) = omega (arith, length-drop k a) in
    sym (take-append-le n (drop k a) b room) ∙ ap (take n) (sym (drop-append-le k a b low)) ∙ h

blank_after : (a b : List Col) (k q n : ℕ) → k ≡ length a + q → AreBlank k n (a ++ b) → AreBlank q n b
blank_after a b k q n e h = ap (take n) (sym (drop-append-add a b q) ∙ ap (λ m. drop m (a ++ b)) (sym e)) ∙ h

rows_first : (h w k : ℕ) (a b news : List Col) → length a ≡ w → k + length news ≤ w → 1 ≤ length news → AreBlank k (length news) (a ++ b) → AreWhole news
    → AreWhole a → AreWholeRows h w b → AreWholeRows (suc h) w (paste (a ++ b) k news)
rows_first h w k a b news wide fits low blanks new first rest =
    let fits' : k + length news ≤ length a = omega arith in
    let len : length (paste a k news) ≡ w = length-paste a news k fits' ∙ wide in
    rw (paste_before a b news k fits', take_at (paste a k news) b w len, drop_at (paste a k news) b w len)
    (whole_paste a news k low (blank_before a b k (length news) fits' blanks) new first, rest)

pub rows_next : (h w k q : ℕ) (a b news : List Col) → length a ≡ w → k ≡ w + q → AreWhole a → AreWholeRows h w (paste b q news)
    → AreWholeRows (suc h) w (paste (a ++ b) k news)
rows_next h w k q a b news wide at first rest =
    rw (paste_after a b news k q (omega arith), take_at a (paste b q news) w wide, drop_at a (paste b q news) w wide) (first, rest)

pub rows_along : (h w : ℕ) (xs ys : List Col) → xs ≡ ys → AreWholeRows h w xs → AreWholeRows h w ys
rows_along h w xs ys e rows = let P : List Col → Type 0 = λ cs. AreWholeRows h w cs in subst P e rows

-- a glyph put over blanks leaves rows of whole glyphs
pub rows_paste : (h w r k : ℕ) (cs news : List Col) → length cs ≡ h * w → r < h → k + length news ≤ w → 1 ≤ length news → AreBlank (r * w + k) (length news) cs
    → AreWhole news
    → AreWholeRows h w cs → AreWholeRows h w (paste cs (r * w + k) news)
rows_paste zero w r k cs news len below fits low blanks new rows = absurd (omega arith)
rows_paste (suc h) w zero k cs news len below fits low blanks new rows =
    let start : k ≡ zero * w + k = omega arith in
    let wide : length (take w cs) ≡ w = length-take-le w cs (omega (arith, len)) in
    let split : take w cs ++ drop w cs ≡ cs = take-append-drop w cs in
    let there : AreBlank k (length news) (take w cs ++ drop w cs) = ap (λ c. take (length news) (drop k c)) split
    ∙ ap (λ m. take (length news) (drop m cs)) start ∙ blanks in
    rows_along (suc h) w _ _ (ap (λ c. paste c k news) split ∙ ap (λ m. paste cs m news) start)
    (rows_first h w k (take w cs) (drop w cs) news wide fits low there new rows.0 rows.1)
rows_paste (suc h) w (suc r) k cs news len below fits low blanks new rows =
    let next : suc r * w + k ≡ w + (r * w + k) = omega arith in
    let wide : length (take w cs) ≡ w = length-take-le w cs (omega (arith, len)) in
    let split : take w cs ++ drop w cs ≡ cs = take-append-drop w cs in
    let there : AreBlank (suc r * w + k) (length news) (take w cs ++ drop w cs) = ap (λ c. take (length news) (drop (suc r * w + k) c)) split ∙ blanks in
    let rest = rows_paste h w r k (drop w cs) news (length-drop w cs ∙ omega (arith, len)) (omega arith) fits low
    (blank_after (take w cs) (drop w cs) (suc r * w + k) (r * w + k) (length news) (omega (arith, next, wide)) there) new rows.1 in
    rows_along (suc h) w _ _ (ap (λ c. paste c (suc r * w + k) news) split)
    (rows_next h w (suc r * w + k) (r * w + k) (take w cs) (drop w cs) news wide next rows.0 rest)
