-- Where a search leads, and where it starts.
use Rattle.std.proofs.Common.{◌≡◌, ℕ, ◌<◌, Bool, true, false, nat_lt, cond, List, [], ◌∷◌, length, Some, None, refl, ap, sym, ◌∙◌, arith}
use Rattle.std.proofs.Common.{ltb-true, if◌then◌else◌}
use Rattle.std.proofs.lemmas.Bool.{ne_eqb}
use Rattle.std.specs.Prelude.{◌==◌, ◌↔◌, IsNone, Option, find, is_some, not, unwrap_or}
use Rattle.bx_ucd.specs.Data.{Data}
use Rattle.bx_find.specs.declared.letters.Reading.{Reading}
use Rattle.bx_find.specs.Matches.{first_from, last_before}
use Rattle.bx_view.specs.Places.{IsTextPlace}
use Rattle.bx_view.specs.TextRows.{TextRow}
use Rattle.bx_editor.specs.declared.search_state.SearchPurpose.TheVariants as purposes
use Rattle.bx_editor.specs.declared.message.Message.TheVariants.{FromEnd, FromStart}
use Rattle.bx_editor.specs.declared.search_state.SearchState.{SearchState}
use Rattle.bx_editor.specs.declared.search_state.SearchState.TheVariants.{Off, Begun, Typed, WithBegun, WithTyped, Replacing}
use Rattle.bx_editor.specs.Origin.{BeganAt}
use Rattle.bx_editor.specs.Editor.{Editor, with_place}
use Rattle.bx_editor.specs.declared.input_line.Erasure.{Erasure}
use Rattle.bx_editor.specs.InputLines.{erases_nothing, is_at_end, is_no_letter, line_lengthened, line_shortened}
use Rattle.bx_editor.specs.Search.{after_beginning, after_erasing_query, after_find_next, after_find_previous, after_letter, backward, forward}
use Rattle.bx_editor.specs.Search.{kept, longest_query, match_or, next_or_start, not_found, nothing_sought, query_line, search_back, search_from, search_on}
use Rattle.bx_editor.specs.Search.{sought, sought_alone, with_query}

pub began : (d : Data) (text : List ℕ) (search_state : SearchState) (origin : ℕ) → IsTextPlace d text origin → BeganAt d text search_state origin
began d text Off origin is = tt
began d text Begun origin is = is
began d text Typed origin is = is
began d text WithBegun origin is = is
began d text WithTyped origin is = is
began d text Replacing origin is = is

-- ---- some letters are sought

pub forward-some : (d : Data) (r : Reading) (rows : List TextRow) (text : List ℕ) (x : ℕ) (query sought : List ℕ) → (sought ≡ [] → ⊥)
    → forward d r rows text x query sought
    ≡ match_or rows None (match_or rows (Some FromStart) not_found (first_from d r sought text 0))
    (first_from d r sought text x)
forward-some d r rows text x query [] some = absurd (some refl)
forward-some d r rows text x query (c ∷ cs) some = refl

pub backward-some : (d : Data) (r : Reading) (rows : List TextRow) (text : List ℕ) (x : ℕ) (query sought : List ℕ) → (sought ≡ [] → ⊥)
    → backward d r rows text x query sought
    ≡ match_or rows None (match_or rows (Some FromEnd) not_found (last_before d r sought text (length text)))
    (last_before d r sought text x)
backward-some d r rows text x query [] some = absurd (some refl)
backward-some d r rows text x query (c ∷ cs) some = refl

-- ---- the next place

abbrev next : ℕ → List ℕ → ℕ → ℕ
next place ps otherwise = unwrap_or (find (nat_lt place) ps) otherwise

found : (place p : ℕ) (ps : List ℕ) (b : Bool) → nat_lt place p ≡ b
    → (place < next place ps place → next place ps place ≡ next place ps 0)
    → place < unwrap_or (cond b (Some p) (find (nat_lt place) ps)) place
    → unwrap_or (cond b (Some p) (find (nat_lt place) ps)) place ≡ unwrap_or (cond b (Some p) (find (nat_lt place) ps)) 0
found place p ps true e on less = refl
found place p ps false e on less = on less

pub next-is : (place : ℕ) (ps : List ℕ) → place < next place ps place → next place ps place ≡ next place ps 0
next-is place [] less = absurd (omega (arith, less))
next-is place (p ∷ ps) less = found place p ps (nat_lt place p) refl (next-is place ps) less

over : (place p : ℕ) (ps : List ℕ) (b : Bool) → nat_lt place p ≡ b → (¬ (place < next place ps place) → next place ps 0 ≡ 0)
    → ¬ (place < unwrap_or (cond b (Some p) (find (nat_lt place) ps)) place)
    → unwrap_or (cond b (Some p) (find (nat_lt place) ps)) 0 ≡ 0
over place p ps true e on not-less = absurd (not-less (ltb-true place p e))
over place p ps false e on not-less = on not-less

pub next-is-start : (place : ℕ) (ps : List ℕ) → ¬ (place < next place ps place) → next place ps 0 ≡ 0
next-is-start place [] not-less = refl
next-is-start place (p ∷ ps) not-less = over place p ps (nat_lt place p) refl (next-is-start place ps) not-less

-- ---- what a key seeks

-- without letters
pub forward-none : (d : Data) (r : Reading) (rows : List TextRow) (text : List ℕ) (x : ℕ) (query sought : List ℕ) → sought ≡ []
    → forward d r rows text x query sought ≡ nothing_sought query
forward-none d r rows text x query [] none = refl
forward-none d r rows text x query (c ∷ cs) none = absurd (cc none)

pub backward-none : (d : Data) (r : Reading) (rows : List TextRow) (text : List ℕ) (x : ℕ) (query sought : List ℕ) → sought ≡ []
    → backward d r rows text x query sought ≡ nothing_sought query
backward-none d r rows text x query [] none = refl
backward-none d r rows text x query (c ∷ cs) none = absurd (cc none)

-- the query is sought from the place on, or from where the search began
pub sought-on : (d : Data) (e : Editor) (b : Bool) (grows : Bool) (from : ℕ) → grows ≡ b → from ≡ (if b then e.place else e.origin)
    → search_from d from (with_place e from) ≡ search_on d grows e
sought-on d e true grows from is at =
    ap (λ x. search_from d x (with_place e x)) at ∙ sym (ap (λ b. search_on d b e) is)
sought-on d e false grows from is at =
    ap (λ x. search_from d x (with_place e x)) at ∙ sym (ap (λ b. search_on d b e) is)

pub letter-sought : (d : Data) (e : Editor) (c : ℕ) → is_no_letter d c ≡ false
    → after_letter d e c
    ≡ search_on d (is_at_end (kept e.search_state (query_line e)))
    (with_query e (line_lengthened d longest_query (kept e.search_state (query_line e)) c))
letter-sought d e c plain =
    ap (λ b. if b then e else search_on d (is_at_end (kept e.search_state (query_line e)))
    (with_query e (line_lengthened d longest_query (kept e.search_state (query_line e)) c))) plain

pub erasing-sought : (d : Data) (e : Editor) (how : Erasure) → erases_nothing d how (query_line e) ≡ false
    → after_erasing_query d e how ≡ search_on d false (with_query e (line_shortened d how (query_line e)))
erasing-sought d e how some =
    ap (λ b. if b then e else search_on d false (with_query e (line_shortened d how (query_line e)))) some

pub find-next-sought : (d : Data) (e : Editor) → (length (sought d e) == 0) ≡ false
    → after_find_next d e ≡ search_from d (next_or_start d e) (sought_alone e)
find-next-sought d e some =
    ap (λ b. if b then after_beginning purposes.Find e else search_from d (next_or_start d e) (sought_alone e)) some

pub find-previous-sought : (d : Data) (e : Editor) → (length (sought d e) == 0) ≡ false
    → after_find_previous d e ≡ search_back d (sought_alone e)
find-previous-sought d e some =
    ap (λ b. if b then after_beginning purposes.Find e else search_back d (sought_alone e)) some

pub not-true : (b : Bool) → not b ≡ true → b ≡ false
not-true true h = absurd (cc h)
not-true false h = refl

-- a query is there where there are letters
pub some-query : {A : Type 0} (o : Option A) (letters : List ℕ) → (IsNone o ↔ (letters ≡ [])) → is_some o ≡ not (length letters == 0)
some-query None [] h = refl
some-query None (c ∷ cs) h = absurd (cc (h.0 refl))
some-query (Some a) [] h = absurd (cc (h.1 refl))
some-query (Some a) (c ∷ cs) h =
    let some : length (c ∷ cs) ≡ 0 → ⊥ = λ e. omega (arith, e) in ap not (sym (ne_eqb (length (c ∷ cs)) 0 some))
