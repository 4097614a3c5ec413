-- A character's form says which sides it joins.
use Rattle.std.proofs.Common.{◌≡◌, ◌↔◌, ◌<◌, Bool, true, false, List, [], ◌∷◌, ◌++◌, Option, Some, length, reverse, append-nil, arith, length-append, subst, sym, ap, ◌∙◌, refl}
use Rattle.std.specs.Prelude.{slice_get}
use Rattle.std.proofs.lemmas.Option.{slice_get-get_or}
use Rattle.bx_ucd.specs.declared.joining.Form.{Form}
use Rattle.bx_ucd.specs.declared.joining.Form.TheVariants.{Isolated, Initial, Medial, Final}
use Rattle.bx_rows.specs.joining.Joining.{Joiner, body_forms, form_if, forms_behind, joins_after, joins_before}
use Rattle.bx_rows.specs.joining.Laws.{FormsGoByJoining}
use Rattle.bx_rows.proofs.joining_lemmas.FormsAt.{form_between, length-forms}

-- which form it is, and what is joined
record Says (form : Option Form) (back on : Bool) : Type 0 where
  pub medial : (form ≡ Some Medial) ↔ ((back ≡ true) × (on ≡ true))
  pub final : (form ≡ Some Final) ↔ ((back ≡ true) × (on ≡ false))
  pub initial : (form ≡ Some Initial) ↔ ((back ≡ false) × (on ≡ true))
  pub isolated : (form ≡ Some Isolated) ↔ ((back ≡ false) × (on ≡ false))

says_if : (back on : Bool) → Says (Some (form_if back on)) back on
says_if true true = record {
  medial = ((λ _. (refl, refl)), (λ _. refl));
  final = ((λ e. absurd (cc e)), (λ p. absurd (cc p.1)));
  initial = ((λ e. absurd (cc e)), (λ p. absurd (cc p.0)));
  isolated = ((λ e. absurd (cc e)), (λ p. absurd (cc p.0)));
}
says_if true false = record {
  medial = ((λ e. absurd (cc e)), (λ p. absurd (cc p.1)));
  final = ((λ _. (refl, refl)), (λ _. refl));
  initial = ((λ e. absurd (cc e)), (λ p. absurd (cc p.0)));
  isolated = ((λ e. absurd (cc e)), (λ p. absurd (cc p.0)));
}
says_if false true = record {
  medial = ((λ e. absurd (cc e)), (λ p. absurd (cc p.0)));
  final = ((λ e. absurd (cc e)), (λ p. absurd (cc p.0)));
  initial = ((λ _. (refl, refl)), (λ _. refl));
  isolated = ((λ e. absurd (cc e)), (λ p. absurd (cc p.1)));
}
says_if false false = record {
  medial = ((λ e. absurd (cc e)), (λ p. absurd (cc p.0)));
  final = ((λ e. absurd (cc e)), (λ p. absurd (cc p.0)));
  initial = ((λ e. absurd (cc e)), (λ p. absurd (cc p.1)));
  isolated = ((λ _. (refl, refl)), (λ _. refl));
}

form_there : (before after : List Joiner) (c : Joiner)
    → slice_get (forms_behind [] (before ++ c ∷ after)) (length before) ≡ Some (form_if (joins_before (reverse before) c) (joins_after c after))
form_there before after c =
    let forms = forms_behind [] (before ++ c ∷ after) in
    let within : length before < length forms = omega (arith, length-forms [] (before ++ c ∷ after), length-append before (c ∷ after)) in
    slice_get-get_or forms (length before) Isolated within
    ∙ ap Some (form_between [] before c after ∙ ap (λ xs. form_if (joins_before xs c) (joins_after c after)) (append-nil (reverse before)))

pub by_joining : FormsGoByJoining
by_joining ucd body each before after c split =
    let there : slice_get (body_forms ucd body each) (length before) ≡ Some (form_if (joins_before (reverse before) c) (joins_after c after)) =
    ap (λ cs. slice_get (forms_behind [] cs) (length before)) split ∙ form_there before after c in
    let all = subst (λ o. Says o (joins_before (reverse before) c) (joins_after c after)) (sym there)
    (says_if (joins_before (reverse before) c) (joins_after c after)) in
    record { medial = all.medial; final = all.final; initial = all.initial; isolated = all.isolated }
