-- Where saves go, in a session and in its replay.
use Rattle.std.proofs.Common.{◌≡◌, ℕ, Bool, true, false, List, [], ◌∷◌, Option, Some, None, length, refl, sym, ap, subst, ◌∙◌, if◌then◌else◌}
use Rattle.std.specs.Prelude.{◌==◌, ◌&&◌, ◌||◌, not, is_some}
use Rattle.bx_store.specs.declared.store.StoreFault.{StoreFault}
use Rattle.bx_ucd.specs.Data.{Data}
use Rattle.bx_keys.specs.declared.key.Key.{Key}
use Rattle.bx_editor.specs.declared.questions.answers.Prompt.TheVariants as prompts
use Rattle.bx_editor.specs.Asking.{without_prompt}
use Rattle.bx_editor.specs.Editor.{Editor, cleared}
use Rattle.bx_editor.specs.Keys.{after_key}
use Rattle.bx_editor.specs.Putting.{paste_ended}
use Rattle.bx_editor.specs.Replay.{after_passed_answer, after_passed_save}
use Rattle.bx_editor.specs.Saving.{after_save, is_empty_name, is_nameless, takes_name, with_answered_name, without_answer, is_changed}
use Rattle.bx_session.specs.Replaying.{after_passed}
use Rattle.bx_session.proofs.Ending.{Place, same_place}
use Rattle.bx_session_laws.specs.Recovery.{NamesAgree}
use Rattle.bx_session_laws.proofs.Alike.{Deed, Edits, TakesStep, TakesRun, Work, after_deed, after_deeds}
use Rattle.bx_session_laws.proofs.Lasting.{having, lasting}
use Rattle.bx_session_laws.proofs.SavedAlike.{BySave, ByName, ByDecision, Stored, at_answer, at_decision, at_save, passed_by_save, passed_here}

-- ---- edits and steps leave it

deed_stays : (deed : Deed) (w : Work) → ((after_deed deed w).name ≡ w.name) × ((after_deed deed w).home ≡ w.home)
deed_stays (Edits start stop new before after goes_on) w = (refl, refl)
deed_stays (TakesStep step) w = (refl, refl)
deed_stays (TakesRun step) w = (refl, refl)

pub deeds_stay : (deeds : List Deed) (w : Work) → ((after_deeds deeds w).name ≡ w.name) × ((after_deeds deeds w).home ≡ w.home)
deeds_stay [] w = (refl, refl)
deeds_stay (deed ∷ deeds) w =
    let more = deeds_stay deeds (after_deed deed w) in
    let one = deed_stays deed w in
    (more.0 ∙ one.0, more.1 ∙ one.1)

-- ---- the names of two editors, and whether saves go to a file

abbrev pub Agree : Option (List ℕ) → Bool → Option (List ℕ) → Bool → Type 0
Agree name home name' home' =
    (is_empty_name name' ≡ is_empty_name name) × (home ≡ false → (home' ≡ false) × (name' ≡ name)) × (home ≡ true → is_empty_name name ≡ false)
    × (home' ≡ true → is_empty_name name' ≡ false)

pub agrees : (e f : Editor) → NamesAgree e f → Agree e.name e.home f.name f.home
agrees e f h = (h.nameless, h.name, h.had_file, h.replayed_file)

pub agreed : (e f : Editor) → Agree e.name e.home f.name f.home → NamesAgree e f
agreed e f h = record { nameless = h.0; name = h.1; had_file = h.2; replayed_file = h.3 }

pub agree_by : (new new' : Editor) (name name' : Option (List ℕ)) (home home' : Bool) → new.name ≡ name → new.home ≡ home → new'.name ≡ name'
    → new'.home ≡ home' → Agree name home name' home' → NamesAgree new new'
agree_by new new' name name' home home' is at is' at' h =
    let one : Agree new.name home name' home' = subst (λ n. Agree n home name' home') (sym is) h in
    let two : Agree new.name new.home name' home' = subst (λ b. Agree new.name b name' home') (sym at) one in
    let three : Agree new.name new.home new'.name home' = subst (λ n. Agree new.name new.home n home') (sym is') two in
    agreed new new' (subst (λ b. Agree new.name new.home new'.name b) (sym at') three)

pub agree_on : (e f new new' : Editor) → new.name ≡ e.name → new.home ≡ e.home → new'.name ≡ f.name → new'.home ≡ f.home → NamesAgree e f
    → NamesAgree new new'
agree_on e f new new' is at is' at' h = agree_by new new' e.name f.name e.home f.home is at is' at' (agrees e f h)

-- ---- a save

-- where it succeeds, saves go to a file
abbrev home_after : Option StoreFault → Bool → Bool
home_after None home = true
home_after (Some fault) home = home

over_home : (e : Editor) (found : Bool) → (if found then record e { prompt = prompts.Overwrite } else e).home ≡ e.home
over_home e true = refl
over_home e false = refl

over_name : (e : Editor) (found : Bool) → (if found then record e { prompt = prompts.Overwrite } else e).name ≡ e.name
over_name e true = refl
over_name e false = refl

saved_home : (e : Editor) (fault : Option StoreFault) → (after_save e fault).home ≡ home_after fault e.home
saved_home e None = refl
saved_home e (Some fault) = over_home e (is_changed fault.cause)

saved_name : (e : Editor) (fault : Option StoreFault) → (after_save e fault).name ≡ e.name
saved_name e None = refl
saved_name e (Some fault) = over_name e (is_changed fault.cause)

-- by its own name, which the text has
own_saved : (fault : Option StoreFault) (name name' : Option (List ℕ)) (home home' : Bool) → is_empty_name name ≡ false → Agree name home name' home'
    → Agree name (home_after fault home) name' home'
own_saved None name name' home home' some h = (h.0, λ off. absurd (cc off), λ on. some, h.3)
own_saved (Some fault) name name' home home' some h = h

-- under an answer, which is not empty
abbrev taken_name : Bool → List ℕ → Option (List ℕ) → Option (List ℕ)
taken_name takes answer name = if takes then Some answer else name

-- once saves go to a file
at_home : (name : Option (List ℕ)) (takes : Bool) (answer : List ℕ) → (length answer == 0) ≡ false → is_empty_name name ≡ false
    → is_empty_name (taken_name takes answer name) ≡ false
at_home name true answer some h = some
at_home name false answer some h = h

replayed_some : (name' : Option (List ℕ)) (home' : Bool) (answer : List ℕ) → (length answer == 0) ≡ false → (home' ≡ true → is_empty_name name' ≡ false)
    → is_empty_name (taken_name (is_some name' && not home') answer name') ≡ false
replayed_some None home' answer some h = refl
replayed_some (Some name') true answer some h = h refl
replayed_some (Some name') false answer some h = some

-- before that, both have the same name
same_named : (fault : Option StoreFault) (name : Option (List ℕ)) (answer : List ℕ) → (length answer == 0) ≡ false
    → Agree (taken_name (is_some name && (not false || not (is_some fault))) answer name) (home_after fault false) (taken_name (is_some name && not false) answer name) false
same_named None None answer some = (refl, λ off. absurd (cc off), λ on. refl, λ on. refl)
same_named None (Some name) answer some = (refl, λ off. absurd (cc off), λ on. some, λ on. some)
same_named (Some fault) None answer some = (refl, λ off. (refl, refl), λ on. refl, λ on. refl)
same_named (Some fault) (Some name) answer some = (refl, λ off. (refl, refl), λ on. some, λ on. some)

on_off : (b : Bool) → b ≡ true → b ≡ false → ⊥
on_off true on off = cc off
on_off false on off = cc on

home_on : (fault : Option StoreFault) → home_after fault true ≡ true
home_on None = refl
home_on (Some fault) = refl

answer_saved : (fault : Option StoreFault) (name name' : Option (List ℕ)) (home home' : Bool) (answer : List ℕ) → (length answer == 0) ≡ false
    → Agree name home name' home'
    → Agree (taken_name (is_some name && (not home || not (is_some fault))) answer name) (home_after fault home)
    (taken_name (is_some name' && not home') answer name') home'
answer_saved fault name name' true home' answer some h =
    let takes = is_some name && (not true || not (is_some fault)) in
    let had = at_home name takes answer some (h.2 refl) in
    let has = replayed_some name' home' answer some h.3 in
    (has ∙ sym had, λ off. absurd (on_off (home_after fault true) (home_on fault) off), λ on. had, λ on. has)
answer_saved fault name name' false home' answer some h =
    let same = h.1 refl in
    subst (λ n. Agree (taken_name (is_some name && (not false || not (is_some fault))) answer name) (home_after fault false) (taken_name (is_some n && not home') answer n) home')
    (sym same.1)
    (subst (λ b. Agree (taken_name (is_some name && (not false || not (is_some fault))) answer name) (home_after fault false) (taken_name (is_some name && not b) answer name) b)
    (sym same.0) (same_named fault name answer some))

-- ---- a key that stores the text

writes : (reads nameless : Bool) → not (reads || nameless) ≡ true → nameless ≡ false
writes true nameless h = absurd (cc h)
writes false true h = absurd (cc h)
writes false false h = refl

pub ended_name : (d : Data) (e : Editor) → (paste_ended d e).name ≡ e.name
ended_name d e = ap (λ (at : Place). at.name) (same_place d e)

pub ended_home : (d : Data) (e : Editor) → (paste_ended d e).home ≡ e.home
ended_home d e = ap (λ (at : Place). at.home) (same_place d e)

taken_by : (b : Bool) (z : Editor) → (if b then with_answered_name z else without_answer z).name ≡ taken_name b z.answer z.name
taken_by true z = refl
taken_by false z = refl

taken_home : (b : Bool) (z : Editor) → (if b then with_answered_name z else without_answer z).home ≡ z.home
taken_home true z = refl
taken_home false z = refl

pub stored_names : (d : Data) (fault : Option StoreFault) (e f : Editor) (key : Key) → NamesAgree e f → Stored d fault e key
    → let y : Editor = paste_ended d (having (lasting e) f) in NamesAgree (after_key d fault e key) (after_passed y.prompt key y)
stored_names d fault e f key h (BySave saves can asks is) =
    let y : Editor = paste_ended d (having (lasting e) f) in
    let x = at_save d e in
    let new = after_key d fault e key in
    let passed : after_passed y.prompt key y ≡ after_passed_save y = ap (λ k. after_passed y.prompt k y) saves ∙ passed_by_save y.prompt y in
    agree_by new (after_passed y.prompt key y) e.name f.name (home_after fault e.home) f.home
    (ap (λ (z : Editor). z.name) is ∙ saved_name x fault ∙ ended_name d e)
    (ap (λ (z : Editor). z.home) is ∙ saved_home x fault ∙ ap (home_after fault) (ended_home d e))
    (ap (λ (z : Editor). z.name) passed ∙ ended_name d (having (lasting e) f))
    (ap (λ (z : Editor). z.home) passed ∙ ended_home d (having (lasting e) f))
    (own_saved fault e.name f.name e.home f.home (writes e.read_only (is_nameless e) can) (agrees e f h))
stored_names d fault e f key h (ByName c letter none asked answers is) =
    let g = having (lasting e) f in
    let y : Editor = paste_ended d g in
    let z = without_prompt (cleared e) in
    let new = after_key d fault e key in
    let takes = takes_name z fault in
    let takes' = is_some f.name && not f.home in
    let passed : after_passed y.prompt key y ≡ after_passed_answer g = passed_here d g key prompts.File none asked ∙ letter.passed g in
    agree_by new (after_passed y.prompt key y) (taken_name takes e.answer e.name) (taken_name takes' e.answer f.name) (home_after fault e.home) f.home
    (ap (λ (x : Editor). x.name) is ∙ saved_name (at_answer fault e) fault ∙ taken_by takes z)
    (ap (λ (x : Editor). x.home) is ∙ saved_home (at_answer fault e) fault ∙ ap (home_after fault) (taken_home takes z))
    (ap (λ (x : Editor). x.name) passed ∙ taken_by takes' g)
    (ap (λ (x : Editor). x.home) passed ∙ taken_home takes' g)
    (answer_saved fault e.name f.name e.home f.home e.answer answers (agrees e f h))
stored_names d fault e f key h (ByDecision c letter none asked can is) =
    let g = having (lasting e) f in
    let y : Editor = paste_ended d g in
    let new = after_key d fault e key in
    let passed : after_passed y.prompt key y ≡ after_passed_save g = passed_here d g key prompts.Overwrite none asked in
    agree_by new (after_passed y.prompt key y) e.name f.name (home_after fault e.home) f.home
    (ap (λ (x : Editor). x.name) is ∙ saved_name (at_decision e) fault)
    (ap (λ (x : Editor). x.home) is ∙ saved_home (at_decision e) fault)
    (ap (λ (x : Editor). x.name) passed)
    (ap (λ (x : Editor). x.home) passed)
    (own_saved fault e.name f.name e.home f.home (writes e.read_only (is_nameless e) can) (agrees e f h))
