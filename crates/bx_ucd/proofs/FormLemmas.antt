-- Lemmas on stored forms and joining types.
use Rattle.std.proofs.Common.{◌≡◌, ◌<◌, ◌+◌, ℕ, Bool, true, false, cond, List, length, get_or, drop, Option, Some, None, refl, ap, ◌∙◌, sym}
use Rattle.std.specs.Prelude.{◌==◌, ◌&&◌, option_map, unwrap_or, if◌then◌else◌}
use Rattle.std.specs.Option.{option_or}
use Rattle.std.specs.Ordering.{nat_cmp, is_eq}
use Rattle.std.proofs.lemmas.Bool.{eqb-true}
use Rattle.bx_ucd.specs.Answers.{find_last}
use Rattle.bx_ucd.specs.Forms.{form_if_any, form_in}
use Rattle.bx_ucd.specs.Joining.{counted, counted_by_lines, form_by_lines, has_form, is_for, is_same, joining_by_class}
use Rattle.bx_ucd.specs.Joining.{joining_by_lines}
use Rattle.bx_ucd.specs.declared.class.Class.{Class}
use Rattle.bx_ucd.specs.declared.characters_file.FormEntry.{FormEntry}
use Rattle.bx_ucd.specs.declared.forms.Forms.{Forms}
use Rattle.bx_ucd.specs.declared.joining.Form.{Form}
use Rattle.bx_ucd.specs.declared.joining.Form.TheVariants.{Isolated, Initial, Medial, Final}
use Rattle.bx_ucd.specs.declared.joining.Joining.{Joining}
use Rattle.bx_ucd.specs.declared.joining.Joining.TheVariants.{U, T}
use Rattle.bx_ucd.specs.declared.joining_file.JoiningEntry.{JoiningEntry}
use Rattle.bx_ucd.proofs.MapLemmas.{is_eq-nat_cmp, put_more_if}

-- ---- a form is set

known_form : (stored : Option Forms) (none : Forms) (form : Form) → ((f : Form) → form_in none f ≡ None)
    → form_in (unwrap_or stored none) form ≡ form_if_any stored form
known_form None none form empty = empty form
known_form (Some forms) none form empty = refl

set_one : (same : Bool) (e : FormEntry) (letter : ℕ) (form : Form) (before after put : Option Forms) → (e.letter == letter) ≡ same
    → (same ≡ true → form_if_any put form ≡ (if is_same e.form form then Some e.shown else form_if_any before form))
    → after ≡ cond same put before
    → form_if_any after form ≡ (if same && is_same e.form form then Some e.shown else form_if_any before form)
set_one true e letter form before after put is set stored = ap (λ o. form_if_any o form) stored ∙ set refl
set_one false e letter form before after put is set stored = ap (λ o. form_if_any o form) stored

-- the forms of all letters after one is set
pub set_form : (e : FormEntry) (letter : ℕ) (form : Form) (at : ℕ → Option Forms) (none known put : Forms) (after : Option Forms)
    → ((f : Form) → form_in none f ≡ None) → known ≡ unwrap_or (at e.letter) none
    → ((f : Form) → form_in put f ≡ (if is_same e.form f then Some e.shown else form_in known f))
    → after ≡ cond (is_eq (nat_cmp e.letter letter)) (Some put) (at letter)
    → form_if_any after form ≡ (if is_for letter form e then Some e.shown else form_if_any (at letter) form)
set_form e letter form at none known put after empty is set stored =
    set_one (e.letter == letter) e letter form (at letter) after (Some put) refl
    (λ same. set form ∙ ap (λ o. if is_same e.form form then Some e.shown else o)
    (ap (λ k. form_in k form) is ∙ known_form (at e.letter) none form empty ∙ ap (λ c. form_if_any (at c) form) (eqb-true e.letter letter same)))
    (stored ∙ ap (λ b. cond b (Some put) (at letter)) (is_eq-nat_cmp e.letter letter))

-- one more entry is set
pub form_more : (es : List FormEntry) (i : ℕ) (d : FormEntry) (letter : ℕ) (form : Form) (old new : Option ℕ) → i < length es
    → new ≡ (if is_for letter form (get_or es i d) then Some (get_or es i d).shown else old)
    → option_or (form_by_lines (drop i es) letter form) old ≡ option_or (form_by_lines (drop (i + 1) es) letter form) new
form_more es i d letter form old new lt set = put_more_if (is_for letter form) (λ e. e.shown) es i d old new lt set

-- ---- joining types

-- equal forms are had alike
pub has_form-same : (f g : Form → Option ℕ) → ((form : Form) → f form ≡ g form) → has_form f ≡ has_form g
has_form-same f g same = rw (same Isolated, same Initial, same Medial, same Final) refl

type_one : (same : Bool) (e : JoiningEntry) (c : ℕ) (forms : ℕ → Form → Option ℕ) (new old : Option Joining) → (e.character == c) ≡ same
    → new ≡ cond same (Some (counted e.joining (has_form (forms e.character)))) old
    → new ≡ cond same (Some (counted e.joining (has_form (forms c)))) old
type_one true e c forms new old is put = put ∙ ap (λ k. Some (counted e.joining (has_form (forms k)))) (eqb-true e.character c is)
type_one false e c forms new old is put = put

-- one more type is set
pub type_more : (es : List JoiningEntry) (i : ℕ) (d : JoiningEntry) (c : ℕ) (forms : ℕ → Form → Option ℕ) (had : Bool) (joining : Joining)
    (old new : Option Joining) → i < length es → had ≡ has_form (forms (get_or es i d).character) → joining ≡ counted (get_or es i d).joining had
    → new ≡ cond (is_eq (nat_cmp (get_or es i d).character c)) (Some joining) old
    → option_or (counted_by_lines (drop i es) forms c) old ≡ option_or (counted_by_lines (drop (i + 1) es) forms c) new
type_more es i d c forms had joining old new lt has counts put =
    put_more_if (λ e. e.character == c) (λ e. counted e.joining (has_form (forms c))) es i d old new lt
    (type_one ((get_or es i d).character == c) (get_or es i d) c forms new old refl
    (put ∙ ap (λ b. cond b (Some joining) old) (is_eq-nat_cmp (get_or es i d).character c)
    ∙ ap (λ j. cond ((get_or es i d).character == c) (Some j) old) (counts ∙ ap (counted (get_or es i d).joining) has)))

counted_if : (transparent had : Bool) → counted (if transparent then T else U) had ≡ (if transparent then T else U)
counted_if true had = refl
counted_if false true = refl
counted_if false false = refl

line_or : (found : Option JoiningEntry) (class : Joining) (had : Bool) → counted class had ≡ class
    → unwrap_or (option_map (λ e. counted e.joining had) found) class ≡ counted (unwrap_or (option_map (λ e. e.joining) found) class) had
line_or None class had same = sym same
line_or (Some e) class had same = refl

-- the counted type by the stored types is the counted type by the lines
pub types_are : (es : List JoiningEntry) (forms told : ℕ → Form → Option ℕ) (class : Class) (c : ℕ) (stored : Option Joining)
    → stored ≡ counted_by_lines es forms c → ((form : Form) → forms c form ≡ told c form)
    → unwrap_or stored (joining_by_class class c) ≡ counted (unwrap_or (joining_by_lines es c) (joining_by_class class c)) (has_form (told c))
types_are es forms told class c stored is same =
    ap (λ o. unwrap_or o (joining_by_class class c)) is
    ∙ line_or (find_last (λ e. e.character == c) es) (joining_by_class class c) (has_form (forms c)) (counted_if _ (has_form (forms c)))
    ∙ ap (counted (unwrap_or (joining_by_lines es c) (joining_by_class class c))) (has_form-same (forms c) (told c) same)
