-- Runs of units of one column each: their growth, and a row that takes one.
use Rattle.std.proofs.Common.{◌≡◌, ℕ, zero, suc, ◌+◌, ◌-◌, ◌<◌, ◌≤◌, Bool, true, false, cond, Some, None, List, [], ◌∷◌, ◌++◌, length, drop}
use Rattle.std.proofs.Common.{refl, sym, ap, subst, ◌∙◌, ⊎_elim, arith, append_assoc, encode_utf8}
use Rattle.std.specs.Str.{IsCharBoundary, IsUtf8}
use Rattle.std.proofs.lemmas.Bool.{cases_lt}
use Rattle.std.proofs.lemmas.List.{length_push, drop_all}
use Rattle.bx_ucd.specs.Data.{Data}
use Rattle.bx_rows.specs.declared.cells.unit.Unit.{Unit}
use Rattle.bx_rows.specs.cells.Simple.{begins, is_mark, own_columns}
use Rattle.bx_rows.specs.cells.SimpleAt.{IsSimpleAt}
use Rattle.bx_rows.specs.cells.SimpleFace.{simple_face}
use Rattle.bx_rows.specs.cells.UnitFacts.{units_from}
use Rattle.bx_rows.proofs.cells_lemmas.OpenCluster.{IsOpen, open-first, open-mark, open-left, at-next, at-last}
use Rattle.bx_rows.specs.declared.narrow_run.NarrowRun.{NarrowRun}
use Rattle.bx_rows.specs.NarrowRuns.{AreNarrow, IsNarrowRun, IsRunIn, grown}
use Rattle.bx_rows.specs.declared.row_scan.Scan.{Scan}
use Rattle.bx_rows.specs.declared.start_search.RowStart.{RowStart}
use Rattle.bx_rows.specs.RowScan.{IsRead, IsScan, with_run}
use Rattle.bx_rows.proofs.Scans.{Fits, ends-push, none-append, one-passes, scan-more, scan-break}
use Rattle.bx_rows.specs.Wrapping.{columns_at, is_blank, is_break, is_one_blank, up_to_last}
use Rattle.bx_rows.proofs.RowsFit.{last-length}
use Rattle.bx_rows.proofs.RowUnits.{one-column}

pub run-none : (ucd : Data) (w : ℕ) (body : List ℕ) (at : ℕ) → IsNarrowRun ucd w body at (record { stop = at; count = 0; last = 0; next = at })
run-none ucd w body at = record { us = []; units = refl; narrow = tt; count_is = refl; last_is = refl; next_is = refl }

narrow_push : (w : ℕ) (us : List Unit) (u : Unit) → AreNarrow w us → ((c : ℕ) → columns_at w c u.face ≡ 1) → AreNarrow w (us ++ u ∷ [])
narrow_push w [] u h one = (one, tt)
narrow_push w (x ∷ us) u h one = (h.0, narrow_push w us u h.1 one)

drop_push : (us : List Unit) (n : ℕ) (u : Unit) → n ≤ length us → drop n (us ++ u ∷ []) ≡ drop n us ++ u ∷ []
drop_push us zero u h = refl
drop_push [] (suc n) u h = absurd (omega (arith, h))
drop_push (x ∷ us) (suc n) u h = drop_push us n u (omega (arith, h))

-- one more unit
pub run-grown : (ucd : Data) (w : ℕ) (body : List ℕ) (at : ℕ) (r : NarrowRun) (first stop : ℕ) (k b : Bool) → IsNarrowRun ucd w body at r
    → IsSimpleAt body r.stop (record { first = first; columns = 1; is_marked = k; stop = stop })
    → b ≡ is_one_blank ucd (cond k None (Some first)) → IsNarrowRun ucd w body at (grown r stop b)
run-grown ucd w body at r first stop k true n s may_end =
    let p = is_break ucd body in
    let u : Unit = record { start = r.stop; stop = stop; face = simple_face ucd w first k } in
    let passes : p u ≡ true = ap (is_one_blank ucd) s.only ∙ sym may_end in
    let size = length_push n.us u in
    let none = drop_all (r.count + 1) (n.us ++ u ∷ []) (omega (arith, size, n.count_is)) in
    record {
      us = n.us ++ u ∷ [];
      units = n.units ∙ ap (λ x. n.us ++ x) (s.units ucd w) ∙ sym (append_assoc n.us (u ∷ []) (units_from ucd w body stop));
      narrow = narrow_push w n.us u n.narrow (one-column ucd w first k s.columns);
      count_is = size ∙ ap (λ m. m + 1) n.count_is;
      last_is = ends-push p n.us u passes ∙ omega (arith, n.count_is);
      next_is = sym (ap (λ x. x ++ units_from ucd w body stop) none);
    }
run-grown ucd w body at r first stop k false n s no_end =
    let p = is_break ucd body in
    let u : Unit = record { start = r.stop; stop = stop; face = simple_face ucd w first k } in
    let passes : p u ≡ false = ap (is_one_blank ucd) s.only ∙ sym no_end in
    let rest = units_from ucd w body stop in
    record {
      us = n.us ++ u ∷ [];
      units = n.units ∙ ap (λ x. n.us ++ x) (s.units ucd w) ∙ sym (append_assoc n.us (u ∷ []) rest);
      narrow = narrow_push w n.us u n.narrow (one-column ucd w first k s.columns);
      count_is = length_push n.us u ∙ ap (λ m. m + 1) n.count_is;
      last_is = none-append p n.us (u ∷ []) (one-passes p u false passes) ∙ n.last_is;
      next_is = n.next_is ∙ ap (λ x. drop r.last n.us ++ x) (s.units ucd w) ∙ sym (append_assoc (drop r.last n.us) (u ∷ []) rest)
          ∙ sym (ap (λ x. x ++ rest) (drop_push n.us r.last u (omega (arith, last-length p n.us, n.last_is))));
    }

-- its bounds
pub run-in-none : (body : List ℕ) (at : ℕ) → IsCharBoundary body at → IsRunIn body at (record { stop = at; count = 0; last = 0; next = at })
run-in-none body at b =
    record { last = omega arith; from = omega arith; order = omega arith; next = b; sum = omega arith; boundary = b }

pub run-in-grown : (body : List ℕ) (at : ℕ) (r : NarrowRun) (stop : ℕ) (b : Bool) → IsRunIn body at r → r.stop < stop → IsCharBoundary body stop
    → IsRunIn body at (grown r stop b)
run-in-grown body at r stop true i more b =
    let sum = i.sum in let from = i.from in let order = i.order in
    record { last = omega arith; from = omega (arith, from, order, more); order = omega arith; next = b; sum = omega (arith, sum, more); boundary = b }
run-in-grown body at r stop false i more b =
    let sum = i.sum in let last = i.last in let order = i.order in
    record { last = omega (arith, last); from = i.from; order = omega (arith, order, more); next = i.next; sum = omega (arith, sum, more); boundary = b }

-- a cluster of one column is open; the flag tells whether a row may end after it so far
pub record HasOpen (ucd : Data) (body : List ℕ) (start : ℕ) (b : Bool) (rest : List ℕ) : Type 0 where
  pub first : ℕ
  pub is_marked : Bool
  pub cluster : IsOpen body start first is_marked rest
  pub columns : own_columns first ≡ 1
  pub end : b ≡ is_one_blank ucd (cond is_marked None (Some first))

pub open-narrow : (ucd : Data) (body : List ℕ) (start c : ℕ) (b : Bool) (rest : List ℕ) → drop start body ≡ encode_utf8 c ++ rest
    → (begins c ≡ true) × (own_columns c ≡ 1) → b ≡ is_blank (ucd.class c) → HasOpen ucd body start b rest
open-narrow ucd body start c b rest e h k =
    record { first = c; is_marked = false; cluster = open-first body start c rest e h.0; columns = h.1; end = k }

pub mark-narrow : (ucd : Data) (body : List ℕ) (start m : ℕ) (b : Bool) (rest more : List ℕ) → HasOpen ucd body start b rest
    → rest ≡ encode_utf8 m ++ more → is_mark m ≡ true → HasOpen ucd body start false more
mark-narrow ucd body start m b rest more o e h = record {
  first = o.first;
  is_marked = true;
  cluster = open-mark body start o.first o.is_marked rest m more o.cluster e h;
  columns = o.columns;
  end = refl;
}

-- the run with the open cluster, which the next character or the body's end closes
pub record IsLonger (ucd : Data) (body : List ℕ) (at : ℕ) (r : NarrowRun) : Type 0 where
  pub bounds : IsRunIn body at r
  pub units : (w : ℕ) → IsNarrowRun ucd w body at r

longer : (ucd : Data) (body : List ℕ) (at : ℕ) (r : NarrowRun) (first stop : ℕ) (k b : Bool) → IsRunIn body at r
    → ((w : ℕ) → IsNarrowRun ucd w body at r) → IsSimpleAt body r.stop (record { first = first; columns = 1; is_marked = k; stop = stop })
    → b ≡ is_one_blank ucd (cond k None (Some first)) → IsLonger ucd body at (grown r stop b)
longer ucd body at r first stop k b bounds units s e = record {
  bounds = run-in-grown body at r stop b bounds s.grows s.boundary;
  units = λ w. run-grown ucd w body at r first stop k b (units w) s e;
}

pub longer-next : (ucd : Data) (body : List ℕ) (at : ℕ) (r q : NarrowRun) (b : Bool) (rest more : List ℕ) (stop d : ℕ) → IsUtf8 body
    → IsRunIn body at r → ((w : ℕ) → IsNarrowRun ucd w body at r) → HasOpen ucd body r.stop b rest → stop + length rest ≡ length body
    → rest ≡ encode_utf8 d ++ more → begins d ≡ true → q ≡ grown r stop b → IsLonger ucd body at q
longer-next ucd body at r q b rest more stop d u bounds units o e next begin is =
    subst (IsLonger ucd body at) (sym is)
    (longer ucd body at r o.first stop o.is_marked b bounds units
    (at-next body r.stop o.first o.is_marked rest u bounds.boundary o.cluster stop d 1 more e next begin o.columns) o.end)

pub longer-last : (ucd : Data) (body : List ℕ) (at : ℕ) (r q : NarrowRun) (b : Bool) (rest : List ℕ) → IsUtf8 body → IsRunIn body at r
    → ((w : ℕ) → IsNarrowRun ucd w body at r) → HasOpen ucd body r.stop b rest → length rest ≡ 0 → q ≡ grown r (length body) b
    → IsLonger ucd body at q
longer-last ucd body at r q b rest u bounds units o none is =
    subst (IsLonger ucd body at) (sym is)
    (longer ucd body at r o.first (length body) o.is_marked b bounds units
    (at-last body r.stop o.first o.is_marked rest u bounds.boundary o.cluster (length body) 1 refl none o.columns) o.end)

pub grown-stop : (r q : NarrowRun) (stop : ℕ) (b : Bool) → q ≡ grown r stop b → q.stop ≡ stop
grown-stop r q stop true e = ap (λ x. x.stop) e
grown-stop r q stop false e = ap (λ x. x.stop) e

-- the next cluster is open
pub open-behind : (ucd : Data) (body : List ℕ) (r q : NarrowRun) (b k : Bool) (rest more : List ℕ) (stop d : ℕ) → IsUtf8 body
    → IsCharBoundary body r.stop → HasOpen ucd body r.stop b rest → stop + length rest ≡ length body → rest ≡ encode_utf8 d ++ more
    → (begins d ≡ true) × (own_columns d ≡ 1) → k ≡ is_blank (ucd.class d) → q ≡ grown r stop b → HasOpen ucd body q.stop k more
open-behind ucd body r q b k rest more stop d u boundary o e next begin blank is =
    subst (λ x. HasOpen ucd body x k more) (sym (grown-stop r q stop b is))
    (open-narrow ucd body stop d k more (open-left body r.stop o.first o.is_marked rest u boundary o.cluster stop e ∙ next) begin blank)

pub grown-count : (r : NarrowRun) (stop : ℕ) (b : Bool) → (grown r stop b).count ≡ r.count + 1
grown-count r stop true = refl
grown-count r stop false = refl

-- it is not full
pub grown-less : (r q : NarrowRun) (stop most : ℕ) (b : Bool) → q ≡ grown r stop b → r.count < most → (q.count ≡ most → ⊥) → q.count < most
grown-less r q stop most b e less full =
    let count : q.count ≡ r.count + 1 = ap (λ x. x.count) e ∙ grown-count r stop b in
    ⊎_elim (λ h. h) (λ h. absurd (full (omega (arith, count, less, h)))) (cases_lt q.count most)

-- ---- a row takes a run

module _ (p : Unit → Bool) (w : ℕ) (here rest : List Unit) where
  scan-same : (behind : List Unit) (c l n s c' l' n' s' : ℕ) → c' ≡ c → l' ≡ l → n' ≡ n → s' ≡ s → IsScan p w here behind rest c l n s
      → IsScan p w here behind rest c' l' n' s'
  scan-same behind c l n s c' l' n' s' e f g h scan =
      subst (λ x. IsScan p w here behind rest x l' n' s') (sym e)
      (subst (λ x. IsScan p w here behind rest c x n' s') (sym f)
      (subst (λ x. IsScan p w here behind rest c l x s') (sym g)
      (subst (λ x. IsScan p w here behind rest c l n x) (sym h) scan)))

  -- where it has a break at number m, or none
  abbrev Taken : List Unit → List Unit → ℕ → ℕ → ℕ → ℕ → ℕ → Type 0
  Taken behind us zero c l n s = IsScan p w here behind rest (c + length us) l (n + length us) (s + length us)
  Taken behind us (suc m) c l n s = IsScan p w here (drop (suc m) us ++ rest) rest (c + length us) (l + n + suc m) (length us - suc m) (length us - suc m)

  taken-more : (behind us : List Unit) (u : Unit) (m : ℕ) (b : Bool) (c l n s : ℕ)
      → (b ≡ true → Taken (us ++ rest) us m (c + 1) (l + n + 1) 0 0) → (b ≡ false → Taken behind us m (c + 1) l (n + 1) (s + 1))
      → Taken behind (u ∷ us) (elim m [ suc k ↦ suc (suc k) | zero ↦ elim b [ true ↦ 1 | false ↦ 0 ] ]) c l n s
  taken-more behind us u zero true c l n s at after =
      let k = length us in
      scan-same (us ++ rest) (c + 1 + k) (l + n + 1) (0 + k) (0 + k) (c + suc k) (l + n + 1) (suc k - 1) (suc k - 1)
      (omega arith) refl (omega arith) (omega arith) (at refl)
  taken-more behind us u zero false c l n s at after =
      let k = length us in
      scan-same behind (c + 1 + k) l (n + 1 + k) (s + 1 + k) (c + suc k) l (n + suc k) (s + suc k) (omega arith) refl (omega arith) (omega arith) (after refl)
  taken-more behind us u (suc m) true c l n s at after =
      let k = length us in
      scan-same (drop (suc m) us ++ rest) (c + 1 + k) (l + n + 1 + 0 + suc m) (k - suc m) (k - suc m) (c + suc k) (l + n + suc (suc m)) (suc k - suc (suc m))
      (suc k - suc (suc m)) (omega arith) (omega arith) (omega arith) (omega arith) (at refl)
  taken-more behind us u (suc m) false c l n s at after =
      let k = length us in
      scan-same (drop (suc m) us ++ rest) (c + 1 + k) (l + (n + 1) + suc m) (k - suc m) (k - suc m) (c + suc k) (l + n + suc (suc m)) (suc k - suc (suc m))
      (suc k - suc (suc m)) (omega arith) (omega arith) (omega arith) (omega arith) (after refl)

  taken : (behind us : List Unit) (c l n s : ℕ) → AreNarrow w us → c + length us ≤ w → IsScan p w here behind (us ++ rest) c l n s
      → Taken behind us (up_to_last p us) c l n s
  taken behind [] c l n s narrow within scan =
      scan-same behind c l n s (c + 0) l (n + 0) (s + 0) (omega arith) refl (omega arith) (omega arith) scan
  taken behind (u ∷ us) c l n s narrow within scan =
      let one = narrow.0 in
      let size : length (u ∷ us) ≡ suc (length us) = refl in
      let fit : Fits w c u = (omega (arith, within, size), omega (arith, within, size, one c)) in
      taken-more behind us u (up_to_last p us) (p u) c l n s
      (λ e. taken (us ++ rest) us (c + 1) (l + n + 1) 0 0 narrow.1 (omega (arith, within, size))
      (subst (λ x. IsScan p w here (us ++ rest) (us ++ rest) (c + x) (l + n + 1) 0 0) (one c)
      (scan-break p w here behind u (us ++ rest) c l n s scan fit e)))
      (λ e. taken behind us (c + 1) l (n + 1) (s + 1) narrow.1 (omega (arith, within, size))
      (subst (λ x. IsScan p w here behind (us ++ rest) (c + 1) l (n + 1) (s + x)) (one s)
      (subst (λ x. IsScan p w here behind (us ++ rest) (c + x) l (n + 1) (s + columns_at w s u.face)) (one c)
      (scan-more p w here behind u (us ++ rest) c l n s scan fit e))))

-- the row that is being read takes a run, by the number of the run's last break
run-read : (ucd : Data) (w : ℕ) (body : List ℕ) (starts : List RowStart) (s : Scan) (rest : List Unit) (us : List Unit) (m count next : ℕ)
    → length us ≡ count → units_from ucd w body next ≡ drop m us ++ rest → IsRead ucd w body starts s (us ++ rest)
    → Taken (is_break ucd body) w (units_from ucd w body s.start.offset) rest (units_from ucd w body s.next) us m s.columns s.last s.count s.since
    → IsRead ucd w body starts (with_run s count m next) rest
run-read ucd w body starts s rest us zero count next size behind read scan = record {
  scan = subst (λ k. IsScan (is_break ucd body) w (units_from ucd w body s.start.offset) (units_from ucd w body s.next) rest (s.columns + k) s.last
      (s.count + k) (s.since + k)) size scan;
  number = read.number;
  chars = read.chars;
  done = read.done;
}
run-read ucd w body starts s rest us (suc m) count next size behind read scan = record {
  scan = subst (λ k. IsScan (is_break ucd body) w (units_from ucd w body s.start.offset) (units_from ucd w body next) rest (s.columns + k)
      (s.last + s.count + suc m) (k - suc m) (k - suc m)) size
      (subst (λ x. IsScan (is_break ucd body) w (units_from ucd w body s.start.offset) x rest (s.columns + length us)
      (s.last + s.count + suc m) (length us - suc m) (length us - suc m)) (sym behind) scan);
  number = read.number;
  chars = read.chars;
  done = read.done;
}

-- the row that is being read takes a run
pub read-run : (ucd : Data) (w : ℕ) (body : List ℕ) (starts : List RowStart) (s : Scan) (at : ℕ) (r : NarrowRun)
    → IsNarrowRun ucd w body at r → s.columns + r.count ≤ w → IsRead ucd w body starts s (units_from ucd w body at)
    → IsRead ucd w body starts (with_run s r.count r.last r.next) (units_from ucd w body r.stop)
read-run ucd w body starts s at r n within read =
    let p = is_break ucd body in
    let here = units_from ucd w body s.start.offset in
    let behind = units_from ucd w body s.next in
    let rest = units_from ucd w body r.stop in
    let now = subst (IsRead ucd w body starts s) n.units read in
    let all = taken p w here rest behind n.us s.columns s.last s.count s.since n.narrow (omega (arith, within, n.count_is)) now.scan in
    run-read ucd w body starts s rest n.us r.last r.count r.next n.count_is n.next_is now
    (subst (λ m. Taken p w here rest behind n.us m s.columns s.last s.count s.since) n.last_is all)
