-- The forms of a body's letters. Which letters join is decided by the joining types and levels of neighbours, and of what is between them.
-- `ucd` is Unicode's data.
use Rattle.std.specs.Prelude.{ℕ, zero, suc, ◌%◌, ◌==◌, ◌&&◌, ◌||◌, not, nat_lt, Bool, true, false, List, [], ◌∷◌, map, length, drop, Option, Some, None, chars}
use Rattle.std.specs.List.{list_any, zip}
use Rattle.std.specs.Prelude.{unwrap_or}
use Rattle.bx_ucd.specs.Data.{Data}
use Rattle.bx_ucd.specs.declared.joining.Joining.{Joining}
use Rattle.bx_ucd.specs.declared.joining.Joining.TheVariants.{R, L, D, C, T}
use Rattle.bx_ucd.specs.declared.joining.Form.{Form}
use Rattle.bx_ucd.specs.declared.joining.Form.TheVariants.{Isolated, Initial, Medial, Final}

-- a character's joining type, and its level unless X9 removes it
abbrev pub Joiner : Type 0
Joiner = Joining × Option ℕ

abbrev pub is_transparent : Joining → Bool
is_transparent T = true
is_transparent _ = false

-- a type that joins the character before it
abbrev pub joins_back : Joining → Bool
joins_back D = true
joins_back R = true
joins_back C = true
joins_back _ = false

-- a type that joins the character after it
abbrev pub joins_on : Joining → Bool
joins_on D = true
joins_on L = true
joins_on C = true
joins_on _ = false

-- the nearest character that is not transparent, in a list from the nearest on: letters join across transparent ones (type T)
abbrev pub neighbour : List Joiner → Option Joiner
neighbour [] = None
neighbour (x ∷ xs) = elim (is_transparent x.0) [ true ↦ neighbour xs | false ↦ Some x ]

-- the transparent characters nearer than the one that `neighbour` gives, or all if it gives none
abbrev pub passed_over : List Joiner → List Joiner
passed_over [] = []
passed_over (x ∷ xs) = elim (is_transparent x.0) [ true ↦ x ∷ passed_over xs | false ↦ [] ]

abbrev pub is_odd : ℕ → Bool
is_odd level = level % 2 == 1

-- the levels of two characters are odd and equal, as far as they have one: joined letters run from right to left, side by side
abbrev pub are_one_odd : Option ℕ → Option ℕ → Bool
are_one_odd None None = true
are_one_odd (Some level) None = is_odd level
are_one_odd None (Some level) = is_odd level
are_one_odd (Some level) (Some other) = is_odd level && (level == other)

-- a level is lower than another; a character that X9 removes has none
abbrev pub is_lower : Option ℕ → Option ℕ → Bool
is_lower (Some level) (Some other) = nat_lt level other
is_lower _ _ = false

-- none of the characters between two has a lower level than one of these two, so that reordering keeps them side by side
abbrev pub none_is_lower : List Joiner → Joiner → Joiner → Bool
none_is_lower between first second = not (list_any (λ x. is_lower x.1 first.1 || is_lower x.1 second.1) between)

-- two neighbours join, the first before the second, with the characters `between` between them
abbrev pub join : Joiner → List Joiner → Joiner → Bool
join first between second = (joins_on first.0 && joins_back second.0) && are_one_odd first.1 second.1 && none_is_lower between first second

-- a character joins the one before it, given those before it, the nearest first
abbrev pub joins_before : List Joiner → Joiner → Bool
joins_before before c = elim (neighbour before) [ None ↦ false | Some first ↦ join first (passed_over before) c ]

-- a character joins the one after it
abbrev pub joins_after : Joiner → List Joiner → Bool
joins_after c after = elim (neighbour after) [ None ↦ false | Some second ↦ join c (passed_over after) second ]

-- the form of a character, given whether it joins the one before it, and whether it joins the one after it
abbrev pub form_if : Bool → Bool → Form
form_if true true = Medial
form_if true false = Final
form_if false true = Initial
form_if false false = Isolated

-- the forms of characters, given those before them, the nearest first
abbrev pub forms_behind : List Joiner → List Joiner → List Form
forms_behind before [] = []
forms_behind before (c ∷ cs) = form_if (joins_before before c) (joins_after c cs) ∷ forms_behind (c ∷ before) cs

-- the joining types and the levels of a text's characters, which have the levels `each`
abbrev pub joiners : Data → List ℕ → List (Option ℕ) → List Joiner
joiners ucd text each = zip (map ucd.joining (chars text)) each

-- the forms of a body's characters, which have the levels `each`
abbrev pub body_forms : Data → List ℕ → List (Option ℕ) → List Form
body_forms ucd body each = forms_behind [] (joiners ucd body each)

-- the first `n` of the forms, followed by isolated ones if there are fewer
abbrev pub first_forms : ℕ → List Form → List Form
first_forms zero forms = []
first_forms (suc n) [] = Isolated ∷ first_forms n []
first_forms (suc n) (f ∷ fs) = f ∷ first_forms n fs

-- the forms of the characters of a text that is in the body after its first `number` characters
abbrev pub text_forms : Data → List ℕ → List (Option ℕ) → ℕ → List ℕ → List Form
text_forms ucd body each number text = first_forms (length (chars text)) (drop number (body_forms ucd body each))

-- each letter in the form that the first list has for it, or, if the letter has no such form, the character that the last list has for it
abbrev pub in_forms : Data → List Form → List ℕ → List ℕ → List ℕ
in_forms ucd (f ∷ fs) (letter ∷ letters) (c ∷ cs) = unwrap_or (ucd.form letter f) c ∷ in_forms ucd fs letters cs
in_forms ucd _ _ cs = cs
