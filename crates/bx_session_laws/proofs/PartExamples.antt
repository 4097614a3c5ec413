-- Worked examples of the laws of parts and of a store in memory, each from a law alone.
use Rattle.std.proofs.Common.{◌≡◌, ℕ, zero, suc, ◌<◌, List, [], ◌∷◌, ◌++◌, Some, None, refl, arith}
use Rattle.std.specs.Prelude.{◌≢◌, codes}
use Rattle.std.proofs.lemmas.List.Elements.{All-head, All-tail}
use Rattle.bx_keys.specs.declared.key.Key.{Key}
use Rattle.bx_keys.specs.declared.key.Key.TheVariants.{Insert, Quit}
use Rattle.bx_store.specs.Stores.{MemoryState, after_commit, after_failure}
use Rattle.bx_store.specs.declared.store.StoreFault.{StoreFault}
use Rattle.bx_session.specs.Parts.{part_length}
use Rattle.bx_session_laws.specs.Memory.{MemoryStoresWholeSaves, begun}
use Rattle.bx_session_laws.specs.Parts.{IsPart, PartsEndAtQuits}

-- ---- parts

-- a letter, Quit and a letter
abbrev quit_between : List ℕ
quit_between = 0x78 ∷ 0x11 ∷ 0x79 ∷ []

no_quit_alone : (before : List Key) → Insert 0x78 ∷ [] ≡ before ++ Quit ∷ [] → ⊥
no_quit_alone [] is = cc is
no_quit_alone (key ∷ []) is = cc is
no_quit_alone (key ∷ other ∷ keys) is = cc is

not_one : IsPart [] quit_between 1 → ⊥
not_one part =
    let short : 1 < 3 = omega arith in
    let quit = part.ends short in
    no_quit_alone quit.before quit.whole

not_three : IsPart [] quit_between 3 → ⊥
not_three part =
    let IsOther = λ (key : Key). key ≢ Quit in
    let short : 2 < 3 = omega arith in
    let both = part.no_earlier 2 short in
    All-head IsOther Quit [] (All-tail IsOther (Insert 0x78) (Quit ∷ []) both) refl

two_of_it : (n : ℕ) → IsPart [] quit_between n → n ≡ 2
two_of_it zero part = absurd (omega (arith, part.some (λ none. cc none)))
two_of_it (suc zero) part = absurd (not_one part)
two_of_it (suc (suc zero)) part = refl
two_of_it (suc (suc (suc zero))) part = absurd (not_three part)
two_of_it (suc (suc (suc (suc n)))) part = absurd (omega (arith, part.within))

pub the_first_part_ends_behind_quit : PartsEndAtQuits → part_length [] quit_between ≡ 2
the_first_part_ends_behind_quit law = two_of_it (part_length [] quit_between) (law [] quit_between)

-- ---- a store in memory

pub both_puts_are_stored : MemoryStoresWholeSaves → (s : MemoryState)
    → (after_commit (begun None ((2, codes "ab") ∷ (3, codes "c") ∷ []) s)).contents ≡ codes "abc"
both_puts_are_stored law s = (law s None ((2, codes "ab") ∷ (3, codes "c") ∷ [])).stored

pub a_failed_save_stores_nothing : MemoryStoresWholeSaves → (s : MemoryState) (fault : StoreFault)
    → (after_failure fault (begun None ((2, codes "ab") ∷ []) s)).contents ≡ s.contents
a_failed_save_stores_nothing law s fault = (law s None ((2, codes "ab") ∷ [])).failed fault

pub a_save_under_a_name_leaves_what_was_there : MemoryStoresWholeSaves → (s : MemoryState)
    → (after_commit (begun (Some (codes "n")) ((2, codes "ab") ∷ []) s)).elsewhere ≡ s.elsewhere ++ record { name = s.name; text = s.contents } ∷ []
a_save_under_a_name_leaves_what_was_there law s = (law s (Some (codes "n")) ((2, codes "ab") ∷ [])).elsewhere
