-- The held text that is put in an input line does the same to two editors of which the same lasts.
use Rattle.std.proofs.Common.{◌≡◌, ℕ, ◌+◌, suc, Bool, true, false, List, [], ◌∷◌, ◌++◌, length, Some, None, refl, sym, ap, subst, ◌∙◌, arith}
use Rattle.std.specs.Prelude.{◌==◌, ◌||◌, ◌&&◌, not, chars, fold}
use Rattle.std.specs.List.{before_first, position_or_len}
use Rattle.bx_ucd.specs.Data.{Data}
use Rattle.bx_editor.specs.declared.message.Message.TheVariants.{NothingToPut}
use Rattle.bx_editor.specs.declared.questions.answers.Prompt.{Prompt}
use Rattle.bx_editor.specs.declared.questions.answers.Prompt.TheVariants as prompts
use Rattle.bx_editor.specs.declared.search_state.SearchState.{SearchState}
use Rattle.bx_editor.specs.declared.search_state.SearchState.TheVariants.{Off, Begun, Typed, WithBegun, WithTyped, Replacing}
use Rattle.bx_editor.specs.Editor.{Editor, cleared}
use Rattle.bx_editor.specs.InputLines.{first_line, is_at_end, is_no_letter, line_lengthened}
use Rattle.bx_editor.specs.LinePuts.{after_line_put, typed_alone, typed_in, typed_in_search, typed_one_by_one}
use Rattle.bx_editor.specs.Search.{after_letter, kept, longest_query, query_line, search_on, with_query}
use Rattle.bx_session_laws.proofs.Lasting.{Lasting, having, lasting, own}
use Rattle.bx_session_laws.proofs.Alike.{Alike, Deed, Work, after_deed, after_deeds, either_alike, idle, work}
use Rattle.bx_session_laws.proofs.AskedAlike.{answer_letter_alike}
use Rattle.bx_session_laws.proofs.ReplacingAlike.{replacement_typed_alike}

pub letter_alike : (d : Data) (e f : Editor) (c : ℕ) → Alike e (after_letter d e c) (having (lasting e) f) (after_letter d (having (lasting e) f) c)
letter_alike d e f c =
    let g = having (lasting e) f in
    let l = kept e.search_state (query_line e) in
    let longer : Editor → Editor = λ x. search_on d (is_at_end l) (with_query x (line_lengthened d longest_query l c)) in
    let grows = is_at_end l in
    either_alike (is_no_letter d c) e e (longer e) g g (longer g) (idle e e g g refl refl refl) (searched grows)
  where
    searched : (grows : Bool) → let g = having (lasting e) f in
        let l = kept e.search_state (query_line e) in
        let longer : Editor → Editor = λ x. search_on d grows (with_query x (line_lengthened d longest_query l c)) in
        Alike e (longer e) g (longer g)
    searched true = record { lasts = refl; deeds = []; first = refl; other = refl }
    searched false = record { lasts = refl; deeds = []; first = refl; other = refl }

-- ---- characters that end no line

abbrev NoEnds : List ℕ → Type 0
NoEnds [] = Unit {0}
NoEnds (c ∷ cs) = ((c == 0xA) ≡ false) × NoEnds cs

before_here : (p : ℕ → Bool) (c : ℕ) (cs : List ℕ) → p c ≡ true → before_first p (c ∷ cs) ≡ []
before_here p c cs h = rw h refl

before_more : (p : ℕ → Bool) (c : ℕ) (cs : List ℕ) → p c ≡ false → before_first p (c ∷ cs) ≡ c ∷ before_first p cs
before_more p c cs h =
    let n = position_or_len p cs in
    let e : 1 + n ≡ suc n = omega arith in
    rw (h, e) refl

neither : (a b : Bool) → (a || b) ≡ false → a ≡ false
neither true b h = absurd (cc h)
neither false b h = refl

no_ends_by : (d : Data) (c : ℕ) (cs : List ℕ) (ends : Bool) → ((c == 0xA) || is_no_letter d c) ≡ ends
    → let p : ℕ → Bool = λ x. (x == 0xA) || is_no_letter d x in NoEnds (before_first p cs) → NoEnds (before_first p (c ∷ cs))
no_ends_by d c cs true is more =
    let p : ℕ → Bool = λ x. (x == 0xA) || is_no_letter d x in subst NoEnds (sym (before_here p c cs is)) tt
no_ends_by d c cs false is more =
    let p : ℕ → Bool = λ x. (x == 0xA) || is_no_letter d x in
    subst NoEnds (sym (before_more p c cs is)) (neither (c == 0xA) (is_no_letter d c) is, more)

no_ends : (d : Data) (cs : List ℕ) → NoEnds (before_first (λ x. (x == 0xA) || is_no_letter d x) cs)
no_ends d [] = tt
no_ends d (c ∷ cs) = no_ends_by d c cs ((c == 0xA) || is_no_letter d c) refl (no_ends d cs)

-- ---- a character

sought_alike : (d : Data) (search_state : SearchState) (e f : Editor) (c : ℕ)
    → Alike e (typed_in_search d search_state e c) (having (lasting e) f) (typed_in_search d search_state (having (lasting e) f) c)
sought_alike d Off e f c = record { lasts = refl; deeds = []; first = refl; other = refl }
sought_alike d Begun e f c = letter_alike d e f c
sought_alike d Typed e f c = letter_alike d e f c
sought_alike d WithBegun e f c = replacement_typed_alike d e f c
sought_alike d WithTyped e f c = replacement_typed_alike d e f c
sought_alike d Replacing e f c = record { lasts = refl; deeds = []; first = refl; other = refl }

unended : (a b : Bool) → a ≡ false → (a && b) ≡ false
unended true b h = absurd (cc h)
unended false b h = refl

typed_alike : (d : Data) (prompt : Prompt) (search_state : SearchState) (e f : Editor) (c : ℕ) → (c == 0xA) ≡ false
    → Alike e (typed_in d prompt search_state e c) (having (lasting e) f) (typed_in d prompt search_state (having (lasting e) f) c)
typed_alike d prompts.Off search_state e f c h = sought_alike d search_state e f c
typed_alike d prompts.Line search_state e f c h = answer_letter_alike d None prompts.Line e f c (λ is. unended (c == 0xA) (not (length e.answer == 0)) h)
typed_alike d prompts.Name search_state e f c h = answer_letter_alike d None prompts.Name e f c (λ is. unended (c == 0xA) (not (length e.answer == 0)) h)
typed_alike d prompts.Code search_state e f c h = answer_letter_alike d None prompts.Code e f c (λ is. unended (c == 0xA) (not (length e.answer == 0)) h)
typed_alike d prompts.File search_state e f c h = answer_letter_alike d None prompts.File e f c (λ is. unended (c == 0xA) (not (length e.answer == 0)) h)
typed_alike d prompts.Overwrite search_state e f c h =
    answer_letter_alike d None prompts.Overwrite e f c (λ is. unended (c == 0xA) (not (length e.answer == 0)) h)

alone_alike : (d : Data) (e f : Editor) (c : ℕ) → (c == 0xA) ≡ false
    → Alike e (typed_alone d e c) (having (lasting e) f) (typed_alone d (having (lasting e) f) c)
alone_alike d e f c h =
    let one = typed_alike d e.prompt e.search_state (cleared e) (cleared f) c h in
    record { lasts = one.lasts; deeds = one.deeds; first = one.first; other = one.other }

-- ---- one after the other

deeds_on : (one more : List Deed) (w : Work) → after_deeds (one ++ more) w ≡ after_deeds more (after_deeds one w)
deeds_on [] more w = refl
deeds_on (deed ∷ one) more w = deeds_on one more (after_deed deed w)

pub then_alike : (e mid new f mid' new' : Editor) → Alike e mid f mid' → Alike mid new mid' new' → Alike e new f new'
then_alike e mid new f mid' new' one more = record {
  lasts = more.lasts;
  deeds = one.deeds ++ more.deeds;
  first = more.first ∙ ap (after_deeds more.deeds) one.first ∙ sym (deeds_on one.deeds more.deeds (work e));
  other = more.other ∙ ap (after_deeds more.deeds) one.other ∙ sym (deeds_on one.deeds more.deeds (work f));
}

one_alike : (d : Data) (e f : Editor) (c : ℕ) → lasting e ≡ lasting f → (c == 0xA) ≡ false → Alike e (typed_alone d e c) f (typed_alone d f c)
one_alike d e f c same h = subst (λ (x : Editor). Alike e (typed_alone d e c) x (typed_alone d x c)) (own e f same) (alone_alike d e f c h)

many_alike : (d : Data) (e f : Editor) (cs : List ℕ) → lasting e ≡ lasting f → NoEnds cs → Alike e (fold (typed_alone d) e cs) f (fold (typed_alone d) f cs)
many_alike d e f [] same h = idle e e f f same refl refl
many_alike d e f (c ∷ cs) same h =
    let one = one_alike d e f c same h.0 in
    let e' = typed_alone d e c in
    let f' = typed_alone d f c in
    then_alike e e' (fold (typed_alone d) e' cs) f f' (fold (typed_alone d) f' cs) one (many_alike d e' f' cs one.lasts h.1)

one_by_one_alike : (d : Data) (e f : Editor) (cs : List ℕ) → lasting e ≡ lasting f → NoEnds cs
    → Alike e (typed_one_by_one d e cs) f (typed_one_by_one d f cs)
one_by_one_alike d e f [] same h =
    let told : Editor → Editor = λ x. record (cleared x) { message = Some NothingToPut } in
    idle e (told e) f (told f) (ap (λ (l : Lasting). record l { typing = (cleared e).typing }) same) refl refl
one_by_one_alike d e f (c ∷ cs) same h = many_alike d e f (c ∷ cs) same h

pub line_put_in_alike : (d : Data) (e f : Editor) → Alike e (after_line_put d e) (having (lasting e) f) (after_line_put d (having (lasting e) f))
line_put_in_alike d e f = one_by_one_alike d e (having (lasting e) f) (first_line d e.held) refl (no_ends d (chars e.held))
