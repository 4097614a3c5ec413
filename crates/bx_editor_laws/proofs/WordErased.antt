-- EraseWord and DeleteWord erase between the place and the stop to which a move by a word leads.
use Rattle.std.proofs.Common.{◌≡◌, ℕ, ◌<◌, Bool, true, false, ◌++◌, take, drop, refl, sym, ap, subst, ◌∙◌, arith}
use Rattle.std.proofs.Common.{append-nil, if◌then◌else◌}
use Rattle.std.specs.Prelude.{◌==◌, None}
use Rattle.std.proofs.lemmas.Bool.Decides.{nat_tests}
use Rattle.bx_keys.specs.declared.key.Key.TheVariants.{DeleteWord, EraseWord}
use Rattle.bx_ucd.specs.Data.{Data}
use Rattle.bx_editor.specs.declared.questions.answers.Prompt.TheVariants as prompts
use Rattle.bx_view.specs.declared.moves.Logical.TheVariants.{Back, Forward}
use Rattle.bx_view.specs.Words.{step_word}
use Rattle.bx_view.proofs.WordsOn.{words-go-on}
use Rattle.bx_editor.specs.Editor.{Editor, cleared, with_removal}
use Rattle.bx_editor.specs.Erasing.{after_removing}
use Rattle.bx_editor.specs.Keys.{after_key}
use Rattle.bx_editor.specs.Region.{region}
use Rattle.bx_editor_laws.proofs.KeyEnds.{DoesWork, behind, free-done}
use Rattle.bx_editor_laws.specs.WordLaws.{Erases, ErasesNothing, ErasesWordBefore, ErasesWordBehind, IsPlain, WordKeysErase}
use Rattle.bx_editor_laws.proofs.OneRun.{goes-back, removal-begins, IsOneRun}

-- ---- bytes removed, some or none

apart : (a b : ℕ) → a < b → (a == b) ≡ false
apart a b less = grind (arith, nat_tests, less)

alike : (a b : ℕ) → a ≡ b → (a == b) ≡ true
alike a b same = grind (arith, nat_tests, same)

erases : (d : Data) (e new : Editor) (start stop : ℕ) → e.pasted ≡ None → e.read_only ≡ false → (e.prompt ≡ prompts.Overwrite → ⊥) → start < stop
    → new ≡ behind (after_removing d (cleared e) start stop false)
    → Erases d e start stop new
erases d e new start stop settled writes other some is =
    let was = cleared e in
    let gone = with_removal d was start stop false in
    let there : new ≡ behind gone = is ∙ ap (λ b. behind (if b then was else gone)) (apart start stop some) in
    let text : gone.content.text ≡ take start e.content.text ++ drop stop e.content.text =
    ap (λ xs. xs ++ drop stop e.content.text) (append-nil (take start e.content.text)) in
    let run = removal-begins d e was start stop (refl, (refl, refl)) in
    let works : DoesWork (behind gone) = record { settled = settled; other = λ over. other over; writes = writes } in
    let left : IsOneRun e (behind gone) = record { more = run.more; over = run.over; start = run.start } in
    subst (Erases d e start stop) (sym there)
    (record { text_is = text; place_is = refl; mark_is = refl; comes_back = goes-back d e (behind gone) works left })

stays : (d : Data) (e new : Editor) (start stop : ℕ) → start ≡ stop → new ≡ behind (after_removing d (cleared e) start stop false)
    → ErasesNothing e new
stays d e new start stop same is =
    let was = cleared e in
    let there : new ≡ behind was = is ∙ ap (λ b. behind (if b then was else with_removal d was start stop false)) (alike start stop same) in
    record { content_is = ap (λ (x : Editor). x.content) there; place_is = ap (λ (x : Editor). x.place) there }

-- ---- the keys

module _ (d : Data) (e : Editor) (plain : IsPlain e) where
  abbrev was : Editor
  was = cleared e

  -- the stops to which a move by a word leads
  abbrev front : ℕ
  front = step_word d e.content.text Back e.place

  abbrev back : ℕ
  back = step_word d e.content.text Forward e.place

  abbrev or-selected : ℕ → ℕ → Bool → Editor
  or-selected start stop selected =
      behind (if selected then with_removal d was (region e).0 (region e).1 false else after_removing d was start stop false)

  asks-none : e.prompt ≡ prompts.Overwrite → ⊥
  asks-none over = let both = sym plain.unasked ∙ over in cc both

  erase-is : after_key d None e EraseWord ≡ behind (after_removing d was front e.place false)
  erase-is =
      free-done d None e EraseWord plain.settled refl refl plain.unasked plain.unsought plain.writes
      ∙ ap (or-selected front e.place) plain.unselected

  delete-is : after_key d None e DeleteWord ≡ behind (after_removing d was e.place back false)
  delete-is =
      free-done d None e DeleteWord plain.settled refl refl plain.unasked plain.unsought plain.writes
      ∙ ap (or-selected e.place back) plain.unselected

  word-before : ErasesWordBefore d e (after_key d None e EraseWord)
  word-before =
      let on = words-go-on d e.content.text plain.text in
      record {
        word =
            λ some.
            let stop = on.back e.place some in
            (front, stop, erases d e (after_key d None e EraseWord) front e.place plain.settled plain.writes asks-none stop.before erase-is);
        at_start =
            λ first.
            let none : front ≡ e.place = ap (step_word d e.content.text Back) first ∙ on.at_start ∙ sym first in
            stays d e (after_key d None e EraseWord) front e.place none erase-is;
      }

  word-behind : ErasesWordBehind d e (after_key d None e DeleteWord)
  word-behind =
      let on = words-go-on d e.content.text plain.text in
      record {
        word =
            λ more.
            let stop = on.forward e.place more in
            (back, stop, erases d e (after_key d None e DeleteWord) e.place back plain.settled plain.writes asks-none stop.behind delete-is);
        at_end = λ last. stays d e (after_key d None e DeleteWord) e.place back (sym (on.at_end e.place last)) delete-is;
      }

pub word-keys-erase : WordKeysErase
word-keys-erase = record { before = word-before; behind = word-behind }
