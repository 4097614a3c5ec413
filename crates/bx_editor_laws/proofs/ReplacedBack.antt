-- One Undo takes back all that a key replaced.
use Rattle.std.proofs.Common.{◌≡◌, ℕ, suc, ◌+◌, ◌<◌, Bool, true, false, List, [], ◌∷◌, length, Option, Some, None, refl, ap, sym, ◌∙◌, arith, inl, inr, if◌then◌else◌}
use Rattle.std.specs.Prelude.{◌⊎◌}
use Rattle.bx_keys.specs.declared.key.Key.TheVariants.{Undo}
use Rattle.bx_text.specs.Edits.{Edit, fits}
use Rattle.bx_editor.specs.undo_groups.Groups.{edited, run_start}
use Rattle.bx_editor.proofs.TwoEdits.{runs-of-two}
use Rattle.bx_editor.proofs.undo_groups_lemmas.RunLaws.{edit-is-of-its-run}
use Rattle.bx_ucd.specs.Data.{Data}
use Rattle.bx_document.specs.Swapped.{last_stop, swapped}
use Rattle.bx_view.specs.Moves.{place_at}
use Rattle.bx_editor.specs.declared.message.Message.TheVariants.{TextFull}
use Rattle.bx_editor.specs.Editor.{Editor, cleared, rows, with_exchange, with_removal}
use Rattle.bx_editor.specs.Keys.{after_key}
use Rattle.bx_editor_laws.specs.ReplaceLaws.{ReplacedComesBack}
use Rattle.bx_editor.specs.Replacing.{after_ending, at_match, match_stop, matches_on, next_match, on_from, with_matches_replaced}
use Rattle.bx_editor_laws.specs.RunLaws.{IsBackBefore}
use Rattle.bx_editor.specs.declared.questions.answers.Prompt.TheVariants as prompts
use Rattle.bx_editor_laws.proofs.KeyEnds.{DoesWork}
use Rattle.bx_editor_laws.proofs.OneRun.{goes-back, removal-begins, IsOneRun, IsOver, Nothing}
use Rattle.bx_editor_laws.proofs.MatchReplaced.{each-replaces}

-- nothing was edited, or edits of one undo group were made
abbrev InRun : Editor → Editor → Type 0
InRun first e = Nothing first e ⊎ IsOneRun first e

goes-on : (numbers : List ℕ) (n : ℕ) → run_start (edited numbers n true) (suc n) ≡ run_start numbers n
goes-on numbers n = let same : suc n ≡ n + 1 = omega arith in ap (run_start (edited numbers n true)) same ∙ edit-is-of-its-run numbers n true

exchange-begins : (d : Data) (first e : Editor) (start stop : ℕ) (new : List ℕ) → Nothing first e → IsOneRun first (with_exchange d e start stop new)
exchange-begins d first e start stop [] h =
    let begun = removal-begins d first e start stop h in record { more = begun.more; over = begun.over; start = begun.start }
exchange-begins d first e start stop (b ∷ bs) h =
    let without = with_removal d e start stop false in
    let begun = removal-begins d first e start stop h in
    let past = length without.content.past in
    let same = ap (λ groups. run_start groups (suc past)) (sym (runs-of-two e.undo_groups (length e.content.past))) in
    record { more = suc begun.more; over = begun.over; start = same ∙ goes-on without.undo_groups past ∙ begun.start }

-- text and place do not matter behind an edit
elsewhere : (first : Editor) (n : ℕ) (text other : List ℕ) (place there : ℕ) (past : List Edit) → IsOver first (suc n) text place past
    → IsOver first (suc n) other there past
elsewhere first n text other place there [] h = h
elsewhere first n text other place there (edit ∷ past) h = h

went-on : (d : Data) (first e : Editor) (o : Option ℕ) → IsOneRun first e → IsOneRun first (at_match d e o)
went-on d first e None h = record { more = h.more; over = h.over; start = h.start }
went-on d first e (Some at) h =
    record {
      more = h.more;
      over = elsewhere first h.more e.content.text e.content.text e.place (place_at (rows d e) at) e.content.past h.over;
      start = h.start;
    }

module _ (d : Data) (first e : Editor) (h : Nothing first e) where
  replaces : (stop n : ℕ) (new : List ℕ) → IsOneRun first (with_matches_replaced d e stop new n)
  replaces stop n new = let goes = exchange-begins d first e e.at stop new h in record { more = goes.more; over = goes.over; start = goes.start }

  one-in-run : (room : Bool) → let now = with_matches_replaced d e (match_stop d e) e.replacement 1 in
      InRun first (if room then on_from d (e.at + length e.replacement) now else record e { message = Some TextFull })
  one-in-run false = inl h
  one-in-run true =
      let now = with_matches_replaced d e (match_stop d e) e.replacement 1 in
      inr (went-on d first now (next_match d now (e.at + length e.replacement)) (replaces (match_stop d e) 1 e.replacement))

  all-in-run : (stop n : ℕ) (new : List ℕ) (room : Bool)
      → InRun first (if room then after_ending (with_matches_replaced d e stop new n) else record e { message = Some TextFull })
  all-in-run stop n new false = inl h
  all-in-run stop n new true = let goes = replaces stop n new in inr (record { more = goes.more; over = goes.over; start = goes.start })

-- ---- no paste begins, nothing is asked, and the text may be changed

abbrev IsOpen : Editor → Type 0
IsOpen e = (e.pasted ≡ None) × ((e.prompt ≡ prompts.Off) × (e.read_only ≡ false))

match-open : (d : Data) (e : Editor) (o : Option ℕ) → IsOpen e → IsOpen (at_match d e o)
match-open d e None h = h
match-open d e (Some at) h = h

module _ (d : Data) (e : Editor) (h : IsOpen e) where
  one-open : (room : Bool) → let now = with_matches_replaced d e (match_stop d e) e.replacement 1 in
      IsOpen (if room then on_from d (e.at + length e.replacement) now else record e { message = Some TextFull })
  one-open false = h
  one-open true =
      let now = with_matches_replaced d e (match_stop d e) e.replacement 1 in
      match-open d now (next_match d now (e.at + length e.replacement)) h

  all-open : (stop n : ℕ) (new : List ℕ) (room : Bool)
      → IsOpen (if room then after_ending (with_matches_replaced d e stop new n) else record e { message = Some TextFull })
  all-open stop n new false = h
  all-open stop n new true = h

-- ---- the law

works : (e : Editor) → IsOpen e → DoesWork e
works e h = record { settled = h.0; other = λ over. let both = sym h.1.0 ∙ over in cc both; writes = h.1.1 }

came-back : (d : Data) (first e : Editor) → DoesWork e → InRun first e → length first.content.past < length e.content.past → IsBackBefore first (after_key d None e Undo)
came-back d first e working (inl h) more = absurd (omega (arith, more, ap length h.1.1))
came-back d first e working (inr h) more = goes-back d first e working h

pub replaced-comes-back : ReplacedComesBack
replaced-comes-back d e key unasked shown settled writes does more =
    let was = cleared e in
    let all = matches_on d e in
    let stop = last_stop e.at all in
    let new = swapped e.at e.content.text e.replacement all in
    let none : Nothing e was = (refl, (refl, refl)) in
    let open-was : IsOpen was = (settled, (unasked, writes)) in
    let left = each-replaces IsOpen d e key settled unasked shown writes does (λ typing. open-was)
    (λ typing. one-open d was open-was (fits e.content.text e.at (match_stop d e) e.replacement))
    (all-open d was open-was stop (length all) new (fits e.content.text e.at stop new)) in
    came-back d e (after_key d None e key) (works (after_key d None e key) left)
    (each-replaces (InRun e) d e key settled unasked shown writes does (λ typing. inl none)
    (λ typing. one-in-run d e was none (fits e.content.text e.at (match_stop d e) e.replacement))
    (all-in-run d e was none stop (length all) new (fits e.content.text e.at stop new)))
    more
