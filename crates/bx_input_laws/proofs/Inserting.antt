-- The editor's keys for text in UTF-8 are its characters.
use Rattle.std.proofs.Common.{◌≡◌, ◌≢◌, ℕ, true, List, [], ◌∷◌, ◌++◌, Some, map, refl, ap, sym, ◌∙◌, subst, arith}
use Rattle.std.specs.Prelude.{option_to_list}
use Rattle.std.specs.List.{list_all}
use Rattle.std.specs.Str.{chars, IsUtf8}
use Rattle.std.proofs.lemmas.Bool.{and_parts, both_ways}
use Rattle.std.proofs.lemmas.Bool.Decides.{nat_tests}
use Rattle.std.proofs.lemmas.List.{append-nil}
use Rattle.std.proofs.lemmas.List.Folds.{list_all-append}
use Rattle.std.proofs.lemmas.Str.{chars-encodes}
use lib.Utf8.{scalar, scalars, encode, encodes}
use Rattle.bx_bytes.specs.Utf8.{characters}
use Rattle.bx_bytes.proofs.Encoded.{begins_character, are_encodings, ends, ends_by}
use Rattle.bx_bytes.specs.Grammar.{is_character}
use Rattle.bx_bytes.specs.declared.fate.Fate.TheVariants.{Waits}
use Rattle.bx_bytes.proofs.Codes.{chars_of_one}
use Rattle.bx_bytes.proofs.Patterns.{begins_any_front, matches_any_begins}
use Rattle.bx_keys.specs.Items.{is_item, begins_item}
use Rattle.bx_keys.specs.Keys.{Decoding, decoding, key_of, single_key}
use Rattle.bx_keys.specs.Waiting.{fate}
use Rattle.bx_keys.specs.declared.key.Key.TheVariants.{Insert}
use Rattle.bx_keys.proofs.Characters.{no_escape, key_by_chars}
use Rattle.bx_keys.proofs.Cuts.{in_pieces}
use Rattle.bx_keys.proofs.Feeding.{item_decoding, waits_decoding}
use Rattle.bx_input_laws.specs.Laws.{is_text_byte, IsText}
use Rattle.bx_input_laws.proofs.Decoding.{IsFree, anew_in_text, text_not_escape}
use Rattle.bx_input_laws.proofs.Firsts.{lacks_after_first}

-- ---- one character

single_text : (b : ℕ) → is_text_byte b ≡ true → is_character (b ∷ []) ≡ true → single_key b ≡ Some (Insert b)
single_text b t n = grind (arith, nat_tests)

key_by_bytes : (bs : List ℕ) (c : ℕ) → is_character bs ≡ true → chars bs ≡ c ∷ [] → IsText bs → key_of bs ≡ Some (Insert c)
key_by_bytes [] c is e t = absurd (both_ways (is_character []) refl is)
key_by_bytes (a ∷ []) c is e t =
    let text : is_text_byte a ≡ true = (and_parts (is_text_byte a) true t).0 in
    let same : a ∷ [] ≡ c ∷ [] = sym (chars_of_one a (ends (a ∷ []) is)) ∙ e in
    let one : a ≡ c = cc same in
    single_text a text is ∙ ap (λ x. Some (Insert x)) one
key_by_bytes (a ∷ b ∷ bs) c is e t =
    key_by_chars a b bs c (text_not_escape a (and_parts (is_text_byte a) (list_all is_text_byte (b ∷ bs)) t).0) e

item_by_bytes : (bs : List ℕ) → is_character bs ≡ true → IsText bs → is_item bs ≡ true
item_by_bytes [] is t = absurd (both_ways (is_character []) refl is)
item_by_bytes (a ∷ bs) is t =
    let other : a ≢ 0x1B = text_not_escape a (and_parts (is_text_byte a) (list_all is_text_byte bs) t).0 in
    ends_by (is_item (a ∷ bs)) (begins_item (a ∷ bs)) (no_escape a bs other ∙ ends (a ∷ bs) is)

character_of : (c : ℕ) → scalar c ≡ true → is_character (encode c) ≡ true
character_of c s = (are_encodings (encode c)).1 (c, s, refl)

chars_of : (c : ℕ) → scalar c ≡ true → chars (encode c) ≡ c ∷ []
chars_of c s = ap chars (sym (append-nil (encode c))) ∙ chars-encodes (c ∷ []) (grind (arith, nat_tests))

one_character : (c : ℕ) → scalar c ≡ true → IsText (encode c) → decoding (encode c) ≡ record { keys = Insert c ∷ []; rest = [] }
one_character c s t =
    let is : is_character (encode c) ≡ true = character_of c s in
    item_decoding (encode c) (item_by_bytes (encode c) is t)
    ∙ ap (λ key. record { keys = option_to_list key; rest = [] }) (key_by_bytes (encode c) c is (chars_of c s) t)

-- ---- all of them

parts_of_text : (xs ys : List ℕ) → IsText (xs ++ ys) → IsText xs × IsText ys
parts_of_text xs ys t = and_parts (list_all is_text_byte xs) (list_all is_text_byte ys) (sym (list_all-append is_text_byte xs ys) ∙ t)

text_of : (cs : List ℕ) → scalars cs ≡ true → IsText (encodes cs) → decoding (encodes cs) ≡ record { keys = map Insert cs; rest = [] }
text_of [] s t = refl
text_of (c ∷ cs) s t =
    let each = and_parts (scalar c) (scalars cs) s in
    let text = parts_of_text (encode c) (encodes cs) t in
    in_pieces (encode c) (encodes cs)
    ∙ ap (λ (d : Decoding). record { keys = d.keys ++ (decoding (d.rest ++ encodes cs)).keys; rest = (decoding (d.rest ++ encodes cs)).rest })
    (one_character c each.0 text.0)
    ∙ ap (λ (d : Decoding). record { keys = Insert c ∷ d.keys; rest = d.rest }) (text_of cs each.1 text.1)

-- ---- after the waiting bytes

first_anew : (b : ℕ) → begins_character (b ∷ []) ≡ true → list_all (lacks_after_first b) characters ≡ true
first_anew b h = grind (arith, nat_tests)

front_anew : (rest front more : List ℕ) → is_character front ≡ true → fate rest ≡ Waits → IsFree rest → decoding (rest ++ (front ++ more)) ≡ decoding (front ++ more)
front_anew rest [] more is w free = absurd (both_ways (is_character []) refl is)
front_anew rest (b ∷ bs) more is w free =
    let begun : begins_character (b ∷ []) ≡ true = begins_any_front characters (b ∷ []) bs (matches_any_begins characters (b ∷ bs) is) in
    anew_in_text rest b (bs ++ more) (first_anew b begun) w free

keys_behind : (cs rest : List ℕ) → scalars cs ≡ true → IsText (encodes cs) → fate rest ≡ Waits → IsFree rest
    → (decoding (rest ++ encodes cs)).keys ≡ map Insert cs
keys_behind [] rest s t w free = ap (λ xs. (decoding xs).keys) (append-nil rest) ∙ ap (λ (d : Decoding). d.keys) (waits_decoding rest w)
keys_behind (c ∷ cs) rest s t w free =
    ap (λ (d : Decoding). d.keys) (front_anew rest (encode c) (encodes cs) (character_of c (and_parts (scalar c) (scalars cs) s).0) w free)
    ∙ ap (λ (d : Decoding). d.keys) (text_of (c ∷ cs) s t)

-- whatever character may be half read
pub utf8_inserts : (rest text : List ℕ) → IsUtf8 text → IsText text → fate rest ≡ Waits → IsFree rest
    → (decoding (rest ++ text)).keys ≡ map Insert (chars text)
utf8_inserts rest text u t w free =
    let keys = keys_behind u.0 rest u.1.0 (subst IsText (sym u.1.1) t) w free in
    ap (λ xs. (decoding (rest ++ xs)).keys) (sym u.1.1) ∙ keys ∙ ap (map Insert) (sym (chars-encodes u.0 u.1.0) ∙ ap chars u.1.1)
