-- The bytes that a recorder appends, holds and loses.
use Rattle.std.proofs.Common.{◌≡◌, ◌≢◌, ◌≤◌, ◌<◌, ◌+◌, ℕ, zero, suc, Bool, true, false, List, [], ◌++◌, Option, drop, take, length}
use Rattle.std.proofs.Common.{refl, sym, ap, subst, ◌∙◌, append_assoc, ◌⊎◌, inl, inr, arith}
use Rattle.std.specs.Prelude.{vec_items}
use Rattle.std.specs.Io.KnownBytes.{Appends}
use Rattle.std.proofs.KnownBytes.{Appends-nil, Appends-trans}
use Rattle.std.proofs.lemmas.List.{append-nil, append_cancel_right, length-append, length-drop, take-append-drop}
use Rattle.bx_store.specs.Faults.{one_more}
use Rattle.bx_session.specs.declared.journal.Backlog.{Backlog}
use Rattle.bx_session.specs.declared.journal.Backlog.TheVariants.{Empty, Waiting, Lost}
use Rattle.bx_session.specs.Journal.{RecorderState, AppendsNew, HasKept, HasTried, Holds, is_lost, room, waiting, after_faults}

-- ---- one call

unlike : (b : Bool) → b ≡ false → b ≡ true → ⊥
unlike b off on = let both : false ≡ true = sym off ∙ on in cc both

empty_is_whole : (k : Backlog) → k ≡ Empty → is_lost k ≡ true → ⊥
empty_is_whole k is lost = unlike (is_lost k) (ap is_lost is) lost

lost_full : (held : Backlog) (space : ℕ) (waited fresh : List ℕ) → Holds space waited fresh held → is_lost held ≡ true
    → (waiting held ≡ waited) × (space < length (waited ++ fresh))
lost_full Empty space waited fresh holds is = absurd holds
lost_full (Waiting held) space waited fresh holds is = absurd (cc is)
lost_full (Lost held) space waited fresh holds is = holds

module _ {J : Type 0} (contents : J → Option (List ℕ)) (failures : J → ℕ) (old new : RecorderState J) (bytes : List ℕ) where
  -- all is appended
  pub kept_all : new.backlog ≡ Empty → Appends (contents old.journal) (contents new.journal) (waiting old.backlog ++ bytes)
      → failures new.journal ≡ failures old.journal → is_lost old.backlog ≡ false → HasKept contents failures old new bytes
  kept_all is grows well there = record {
    appended = waiting old.backlog ++ bytes;
    lost = [];
    faults = 0;
    order = sym (ap (λ k. (waiting old.backlog ++ bytes) ++ (waiting k ++ [])) is ∙ append-nil (waiting old.backlog ++ bytes));
    grows = grows;
    all = λ h. refl;
    few = omega arith;
    stays = λ h. absurd (unlike (is_lost old.backlog) there h);
    counted = well;
    fault = λ h k. absurd (k is);
    first = λ h k. absurd (empty_is_whole new.backlog is k);
  }

  pub tried_all : new.backlog ≡ Empty → is_lost old.backlog ≡ false → HasTried contents failures old new bytes
  tried_all is there = record {
    fails = λ h k. absurd (k is);
    waits_on = λ h k. absurd (unlike (is_lost old.backlog) there h);
    full = λ h k. absurd (empty_is_whole new.backlog is k);
  }

  -- the first ones are appended, and the others held, if there is memory for them
  pub kept_part : (space : ℕ) (appended waited fresh : List ℕ) → waiting old.backlog ++ bytes ≡ appended ++ (waited ++ fresh)
      → length fresh ≤ length bytes → Holds space waited fresh new.backlog → Appends (contents old.journal) (contents new.journal) appended
      → failures new.journal ≡ one_more (failures old.journal) → is_lost old.backlog ≡ false → HasKept contents failures old new bytes
  kept_part space appended waited fresh order few holds grows fault there = by_held new.backlog refl where
    by_held : (k : Backlog) → new.backlog ≡ k → HasKept contents failures old new bytes
    by_held Empty e = absurd (subst (Holds space waited fresh) e holds)
    by_held (Waiting held) e =
        let is : vec_items held ≡ waited ++ fresh = subst (Holds space waited fresh) e holds in record {
          appended = appended;
          lost = [];
          faults = 1;
          order = order
              ∙ ap (λ xs. appended ++ xs) (sym (append-nil (waited ++ fresh)))
              ∙ ap (λ xs. appended ++ (xs ++ [])) (sym is)
              ∙ ap (λ x. appended ++ (waiting x ++ [])) (sym e);
          grows = grows;
          all = λ h. refl;
          few = omega arith;
          stays = λ h. absurd (unlike (is_lost old.backlog) there h);
          counted = fault;
          fault = λ h k. omega arith;
          first = λ h k. omega arith;
        }
    by_held (Lost held) e =
        let is = subst (Holds space waited fresh) e holds in record {
          appended = appended;
          lost = fresh;
          faults = 1;
          order = order
              ∙ ap (λ xs. appended ++ (xs ++ fresh)) (sym is.0)
              ∙ ap (λ x. appended ++ (waiting x ++ fresh)) (sym e);
          grows = grows;
          all = λ h. absurd (unlike (is_lost new.backlog) h (ap is_lost e));
          few = few;
          stays = λ h. absurd (unlike (is_lost old.backlog) there h);
          counted = fault;
          fault = λ h k. omega arith;
          first = λ h k. omega arith;
        }

  pub tried_part : (space : ℕ) (appended waited fresh : List ℕ) → waiting old.backlog ++ bytes ≡ appended ++ (waited ++ fresh)
      → room old.backlog ≤ space → Holds space waited fresh new.backlog → Appends (contents old.journal) (contents new.journal) appended
      → failures new.journal ≡ one_more (failures old.journal) → is_lost old.backlog ≡ false → HasTried contents failures old new bytes
  tried_part space appended waited fresh order more holds grows fault there = record {
    fails = λ h k. fault;
    waits_on = λ h k. fault;
    full = λ h k.
        let full = lost_full new.backlog space waited fresh holds k in (
          appended,
          fresh,
          order ∙ ap (λ xs. appended ++ (xs ++ fresh)) (sym full.0),
          grows,
          subst (λ xs. room old.backlog < length (xs ++ fresh)) (sym full.0) (omega (arith, more, full.1)),
        );
  }

  -- after a loss only bytes that wait are appended
  pub kept_last : (faults : ℕ) (appended : List ℕ) → is_lost old.backlog ≡ true → is_lost new.backlog ≡ true
      → waiting old.backlog ≡ appended ++ waiting new.backlog → Appends (contents old.journal) (contents new.journal) appended
      → failures new.journal ≡ after_faults faults (failures old.journal) → HasKept contents failures old new bytes
  kept_last faults appended was is order grows counted = record {
    appended = appended;
    lost = bytes;
    faults = faults;
    order = ap (λ xs. xs ++ bytes) order ∙ append_assoc appended (waiting new.backlog) bytes;
    grows = grows;
    all = λ h. absurd (unlike (is_lost new.backlog) h is);
    few = omega arith;
    stays = λ h. (is, refl);
    counted = counted;
    fault = λ h k. absurd (empty_is_whole old.backlog h was);
    first = λ h k. absurd (unlike (is_lost old.backlog) h was);
  }

  pub tried_last : is_lost old.backlog ≡ true → (waiting new.backlog ≢ [] → failures new.journal ≡ one_more (failures old.journal))
      → HasTried contents failures old new bytes
  tried_last was fails = record {
    fails = λ h k. absurd (unlike (is_lost old.backlog) h was);
    waits_on = λ h k. fails k;
    full = λ h k. absurd (unlike (is_lost old.backlog) h was);
  }

  -- the waiting bytes were appended, and then the new ones as far as the journal took them
  pub kept_new : (space : ℕ) (mid : J) (k : Backlog) → new.backlog ≡ k → Appends (contents old.journal) (contents mid) (waiting old.backlog)
      → failures mid ≡ failures old.journal → AppendsNew contents failures mid new.journal space k bytes → is_lost old.backlog ≡ false
      → HasKept contents failures old new bytes
  kept_new space mid Empty e before same more there =
      kept_all e (Appends-trans (contents old.journal) (contents mid) (contents new.journal) (waiting old.backlog) bytes before more.0) (more.1 ∙ same) there
  kept_new space mid (Waiting held) e before same more there =
      let n = more.0 in
      kept_part space (waiting old.backlog ++ take n bytes) [] (drop n bytes)
      (ap (λ xs. waiting old.backlog ++ xs) (sym (take-append-drop n bytes)) ∙ sym (append_assoc (waiting old.backlog) (take n bytes) (drop n bytes)))
      (omega (arith, length-drop n bytes)) (subst (Holds space [] (drop n bytes)) (sym e) more.2)
      (Appends-trans (contents old.journal) (contents mid) (contents new.journal) (waiting old.backlog) (take n bytes) before more.1)
      (more.3 ∙ ap one_more same) there
  kept_new space mid (Lost held) e before same more there =
      let n = more.0 in
      kept_part space (waiting old.backlog ++ take n bytes) [] (drop n bytes)
      (ap (λ xs. waiting old.backlog ++ xs) (sym (take-append-drop n bytes)) ∙ sym (append_assoc (waiting old.backlog) (take n bytes) (drop n bytes)))
      (omega (arith, length-drop n bytes)) (subst (Holds space [] (drop n bytes)) (sym e) more.2)
      (Appends-trans (contents old.journal) (contents mid) (contents new.journal) (waiting old.backlog) (take n bytes) before more.1)
      (more.3 ∙ ap one_more same) there

  pub tried_new : (space : ℕ) (mid : J) (k : Backlog) → new.backlog ≡ k → room old.backlog ≤ space
      → Appends (contents old.journal) (contents mid) (waiting old.backlog) → failures mid ≡ failures old.journal
      → AppendsNew contents failures mid new.journal space k bytes → is_lost old.backlog ≡ false → HasTried contents failures old new bytes
  tried_new space mid Empty e more before same appends there = tried_all e there
  tried_new space mid (Waiting held) e more before same appends there =
      let n = appends.0 in
      tried_part space (waiting old.backlog ++ take n bytes) [] (drop n bytes)
      (ap (λ xs. waiting old.backlog ++ xs) (sym (take-append-drop n bytes)) ∙ sym (append_assoc (waiting old.backlog) (take n bytes) (drop n bytes)))
      more (subst (Holds space [] (drop n bytes)) (sym e) appends.2)
      (Appends-trans (contents old.journal) (contents mid) (contents new.journal) (waiting old.backlog) (take n bytes) before appends.1)
      (appends.3 ∙ ap one_more same) there
  tried_new space mid (Lost held) e more before same appends there =
      let n = appends.0 in
      tried_part space (waiting old.backlog ++ take n bytes) [] (drop n bytes)
      (ap (λ xs. waiting old.backlog ++ xs) (sym (take-append-drop n bytes)) ∙ sym (append_assoc (waiting old.backlog) (take n bytes) (drop n bytes)))
      more (subst (Holds space [] (drop n bytes)) (sym e) appends.2)
      (Appends-trans (contents old.journal) (contents mid) (contents new.journal) (waiting old.backlog) (take n bytes) before appends.1)
      (appends.3 ∙ ap one_more same) there

-- ---- calls in sequence

-- nothing was read
pub kept_nothing : {J : Type 0} (contents : J → Option (List ℕ)) (failures : J → ℕ) (s : RecorderState J) → HasKept contents failures s s []
kept_nothing contents failures s = record {
  appended = [];
  lost = [];
  faults = 0;
  order = refl;
  grows = Appends-nil (contents s.journal);
  all = λ h. refl;
  few = omega arith;
  stays = λ h. (h, refl);
  counted = refl;
  fault = λ h k. absurd (k h);
  first = λ h k. absurd (unlike (is_lost s.backlog) h k);
}

faults_more : (n m count : ℕ) → after_faults n (after_faults m count) ≡ after_faults (n + m) count
faults_more zero m count = let same : m ≡ 0 + m = omega arith in ap (λ k. after_faults k count) same
faults_more (suc n) m count =
    let same : suc (n + m) ≡ suc n + m = omega arith in ap one_more (faults_more n m count) ∙ ap (λ k. after_faults k count) same

pub has_none : (k : Backlog) → (k ≡ Empty) ⊎ (k ≢ Empty)
has_none Empty = inl refl
has_none (Waiting held) = inr (λ h. cc h)
has_none (Lost held) = inr (λ h. cc h)

-- bytes after others
pub kept_more : {J : Type 0} (contents : J → Option (List ℕ)) (failures : J → ℕ) (old mid new : RecorderState J) (bytes more : List ℕ)
    → HasKept contents failures old mid bytes → HasKept contents failures mid new more → HasKept contents failures old new (bytes ++ more)
kept_more {J} contents failures old mid new bytes more begun next = by_mid (is_lost mid.backlog) refl where
  counts : failures new.journal ≡ after_faults (next.faults + begun.faults) (failures old.journal)
  counts = next.counted ∙ ap (after_faults next.faults) begun.counted ∙ faults_more next.faults begun.faults (failures old.journal)

  faulty : old.backlog ≡ Empty → new.backlog ≢ Empty → 1 ≤ next.faults + begun.faults
  faulty h k = elim (has_none mid.backlog) [
    | inl whole ↦ let some = next.fault whole k in omega (arith, some)
    | inr part ↦ let some = begun.fault h part in omega (arith, some)
  ]

  joined : Appends (contents old.journal) (contents new.journal) (begun.appended ++ next.appended)
  joined = Appends-trans (contents old.journal) (contents mid.journal) (contents new.journal) begun.appended next.appended begun.grows next.grows

  sizes : length (bytes ++ more) ≡ length bytes + length more
  sizes = length-append bytes more

  by_mid : (lost : Bool) → is_lost mid.backlog ≡ lost → HasKept contents failures old new (bytes ++ more)
  by_mid true cut =
      let stays = next.stays cut in
      let rest : waiting mid.backlog ≡ next.appended ++ waiting new.backlog =
      append_cancel_right (waiting mid.backlog) (next.appended ++ waiting new.backlog) more
      (next.order ∙ ap (λ xs. next.appended ++ (waiting new.backlog ++ xs)) stays.1 ∙ sym (append_assoc next.appended (waiting new.backlog) more)) in record {
        appended = begun.appended ++ next.appended;
        lost = begun.lost ++ more;
        faults = next.faults + begun.faults;
        order = sym (append_assoc (waiting old.backlog) bytes more)
            ∙ ap (λ xs. xs ++ more) begun.order
            ∙ append_assoc begun.appended (waiting mid.backlog ++ begun.lost) more
            ∙ ap (λ xs. begun.appended ++ xs) (append_assoc (waiting mid.backlog) begun.lost more)
            ∙ ap (λ xs. begun.appended ++ (xs ++ (begun.lost ++ more))) rest
            ∙ ap (λ xs. begun.appended ++ xs) (append_assoc next.appended (waiting new.backlog) (begun.lost ++ more))
            ∙ sym (append_assoc begun.appended next.appended (waiting new.backlog ++ (begun.lost ++ more)));
        grows = joined;
        all = λ h. absurd (unlike (is_lost new.backlog) h stays.0);
        few = omega (arith, begun.few, sizes, length-append begun.lost more);
        stays = λ h. (stays.0, ap (λ xs. xs ++ more) (begun.stays h).1);
        counted = counts;
        fault = faulty;
        first = λ h k. let some = begun.first h cut in omega (arith, some);
      }
  by_mid false there =
      let none : begun.lost ≡ [] = begun.all there in record {
        appended = begun.appended ++ next.appended;
        lost = next.lost;
        faults = next.faults + begun.faults;
        order = sym (append_assoc (waiting old.backlog) bytes more)
            ∙ ap (λ xs. xs ++ more) begun.order
            ∙ ap (λ xs. (begun.appended ++ (waiting mid.backlog ++ xs)) ++ more) none
            ∙ ap (λ xs. (begun.appended ++ xs) ++ more) (append-nil (waiting mid.backlog))
            ∙ append_assoc begun.appended (waiting mid.backlog) more
            ∙ ap (λ xs. begun.appended ++ xs) next.order
            ∙ sym (append_assoc begun.appended next.appended (waiting new.backlog ++ next.lost));
        grows = joined;
        all = next.all;
        few = omega (arith, next.few, sizes);
        stays = λ h. absurd (unlike (is_lost mid.backlog) there (begun.stays h).0);
        counted = counts;
        fault = faulty;
        first = λ h k. let some = next.first there k in omega (arith, some);
      }
