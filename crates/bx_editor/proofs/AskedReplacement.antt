-- Whether the replacement is asked for.
use Rattle.std.proofs.Common.{◌≡◌, ◌∙◌, ℕ, Bool, true, false, List, [], ◌∷◌, length, refl, ap, sym}
use Rattle.std.specs.Prelude.{◌==◌, not, None, Some, if◌then◌else◌}
use Rattle.bx_ucd.specs.Data.{Data}
use Rattle.bx_editor.specs.declared.search_state.SearchPurpose.TheVariants.{Replace}
use Rattle.bx_editor.specs.declared.matches.Landing.{Landing}
use Rattle.bx_editor.specs.declared.search_state.SearchState.TheVariants.{Typed, WithBegun}
use Rattle.bx_editor.specs.Editor.{Editor}
use Rattle.bx_editor.specs.Replacing.{after_asking_replacement, asked_at}
use Rattle.bx_editor.specs.Search.{landed, landing_from, nothing_sought, sought}

pub is-false : (b : Bool) → not b ≡ true → b ≡ false
is-false true h = absurd (cc)
is-false false h = refl

pub not-empty : (ls : List ℕ) → (length ls == 0) ≡ false → ls ≡ [] → ⊥
not-empty [] h none = absurd (cc)
not-empty (c ∷ cs) h none = absurd (cc)

module _ (d : Data) (e : Editor) where
  abbrev aimed : Editor
  aimed = record e { purpose = Replace }

  abbrev asked-by : Bool → Editor
  asked-by b =
      if b then landed aimed (nothing_sought aimed.query)
      else let l = landing_from d aimed.place aimed in asked_at l.place (landed aimed l)

  -- the query has no letters
  pub asked-nothing : (length (sought d aimed) == 0) ≡ true → landed aimed (nothing_sought aimed.query) ≡ after_asking_replacement d e
  asked-nothing none = sym (ap asked-by none)

  -- it is nowhere, or somewhere
  pub asked-there : (landing : Landing) → (length (sought d aimed) == 0) ≡ false → landing ≡ landing_from d e.place aimed
      → asked_at landing.place (landed aimed landing) ≡ after_asking_replacement d e
  asked-there landing some is =
      ap (λ (l : Landing). asked_at l.place (landed aimed l)) is ∙ sym (ap asked-by some)

  pub asked-nowhere : (landing : Landing) → (length (sought d aimed) == 0) ≡ false → landing ≡ landing_from d e.place aimed → landing.place ≡ None
      → record (landed aimed landing) { search_state = Typed } ≡ after_asking_replacement d e
  asked-nowhere landing some is none =
      ap (λ o. asked_at o (landed aimed landing)) (sym none) ∙ asked-there landing some is

  pub asked-somewhere : (landing : Landing) (place : ℕ) → (length (sought d aimed) == 0) ≡ false → landing ≡ landing_from d e.place aimed
      → landing.place ≡ Some place
      → record (landed aimed landing) { search_state = WithBegun; count = 0; input_cursor = length e.replacement } ≡ after_asking_replacement d e
  asked-somewhere landing place some is there =
      ap (λ o. asked_at o (landed aimed landing)) (sym there) ∙ asked-there landing some is
