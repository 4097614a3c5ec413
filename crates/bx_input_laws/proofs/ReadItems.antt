-- The bytes of the keys of items are decoded as these keys.
use Rattle.std.proofs.Common.{◌≡◌, ◌≢◌, ℕ, inl, inr, Bool, true, false, ◌&&◌, cond, nat_eq, List, [], ◌∷◌, ◌++◌, refl, ap, sym, ◌∙◌, subst, arith}
use Rattle.std.proofs.Common.{Option, Some, None}
use Rattle.std.specs.Prelude.{codes, option_map, option_to_list, find}
use Rattle.std.specs.List.{AllByRecursion, slice_split}
use Rattle.std.specs.Str.{bytes_eq, chars}
use Rattle.std.specs.Str.Parse.{digits_value}
use Rattle.std.proofs.lemmas.Bool.{and_parts, cases_eq, cond-true}
use Rattle.std.proofs.lemmas.Bool.Decides.{nat_tests}
use Rattle.std.proofs.lemmas.List.{append-nil}
use Rattle.std.proofs.lemmas.Str.{chars-encodes, encode_ascii}
use lib.Utf8.{scalar, encode}
use Rattle.bx_bytes.specs.Utf8.{characters, is_ascii_printable}
use Rattle.bx_bytes.specs.Grammar.{is_character}
use Rattle.bx_bytes.specs.declared.fate.Fate.{Fate}
use Rattle.bx_bytes.specs.declared.fate.Fate.TheVariants.{Waits, Ends, Breaks}
use Rattle.bx_bytes.proofs.Encoded.{are_encodings}
use Rattle.bx_common.specs.Characters.{is_side}
use Rattle.bx_keys.specs.Items.{items, is_item}
use Rattle.bx_keys.specs.Keys.{decoding, control_keys, sequence_keys, single_key, key_by_kind, sides_key, final_byte, before_final, sequence_key, key_of, key_after, is_side_in_digits}
use Rattle.bx_keys.specs.Waiting.{fate}
use Rattle.bx_keys.specs.declared.key.Key.{Key}
use Rattle.bx_keys.specs.declared.key.Key.TheVariants.{Insert, Size, Point, Drag}
use Rattle.bx_keys.proofs.Characters.{no_escape, key_by_chars}
use Rattle.bx_keys.proofs.Feeding.{item_decoding, feeds_waiting, feeds_end, feeds_break, feeds_alone}
use Rattle.bx_input.proofs.Reports.{semicolon}
use Rattle.bx_input_laws.specs.Reading.{IsRead, AreRead}
use Rattle.bx_input_laws.proofs.Firsts.{ends_says}
use Rattle.bx_input_laws.proofs.ReadKeys.{size_read, point_read, drag_read}

-- ---- what a table has

found_by : {X : Type 0} (P : X → Type 0) (t : Bool) (y x : X) (rest : Option X) → P y → (rest ≡ Some x → P x) → cond t (Some y) rest ≡ Some x → P x
found_by P true y x rest here later h = let same : y ≡ x = cc h in subst P same here
found_by P false y x rest here later h = later h

pub found_all : {X : Type 0} (P : X → Type 0) (p : X → Bool) (xs : List X) (x : X) → AllByRecursion P xs → find p xs ≡ Some x → P x
found_all P p [] x all h = absurd (cc h)
found_all P p (y ∷ ys) x all h = found_by P (p y) y x (find p ys) all.0 (found_all P p ys x all.1) h

mapped : {X : Type 0} (o : Option (X × Key)) → ((k : X × Key) → o ≡ Some k → IsRead k.1) → AreRead (option_to_list (option_map (λ (k : X × Key). k.1) o))
mapped None each = tt
mapped (Some k) each = (each k refl, tt)

control_read : AllByRecursion (λ (k : ℕ × Key). IsRead k.1) control_keys
unfolding chars encode
control_read = (refl, (refl, (refl, (refl, (refl, (refl, (refl, (refl, (refl, (refl, (refl, (refl, tt))))))))))))

sequences_read : AllByRecursion (λ (k : List ℕ × Key). IsRead k.1) sequence_keys
sequences_read = (refl, (refl, (refl, (refl, (refl, (refl, (refl, (refl, (refl, (refl, (refl, (refl, (refl, (refl, (refl, (refl, (refl, (refl, (refl, (refl, (refl, (refl, (refl, (refl, (refl, (refl, (refl, (refl, (refl, (refl, (refl, (refl, (refl, (refl, (refl, (refl, (refl, (refl, (refl, (refl, (refl, (refl, (refl, (refl, (refl, (refl, (refl, (refl, (refl, (refl, (refl, (refl, (refl, (refl, (refl, (refl, (refl, (refl, tt))))))))))))))))))))))))))))))))))))))))))))))))))))))))))

-- ---- one byte

printable_item : (b : ℕ) → is_ascii_printable b ≡ true → is_item (b ∷ []) ≡ true
printable_item b h = grind (arith, nat_tests)

printable_read : (b : ℕ) → is_ascii_printable b ≡ true → IsRead (Insert b)
printable_read b h =
    ap decoding (encode_ascii b (grind (arith, nat_tests)))
    ∙ item_decoding (b ∷ []) (printable_item b h)
    ∙ ap (λ o. record { keys = option_to_list o; rest = [] }) (cond-true (is_ascii_printable b) (Some (Insert b)) _ h)

by_printable : (t : Bool) (b : ℕ) → (t ≡ true → IsRead (Insert b))
    → AreRead (option_to_list (cond t (Some (Insert b)) (option_map (λ (k : ℕ × Key). k.1) (find (λ (k : ℕ × Key). nat_eq k.0 b) control_keys))))
by_printable true b h = (h refl, tt)
by_printable false b h =
    mapped (find (λ (k : ℕ × Key). nat_eq k.0 b) control_keys)
    (λ k is. found_all (λ (k : ℕ × Key). IsRead k.1) (λ (k : ℕ × Key). nat_eq k.0 b) control_keys k control_read is)

single_read : (b : ℕ) → AreRead (option_to_list (single_key b))
single_read b = by_printable (is_ascii_printable b) b (printable_read b)

-- ---- sequences

kind_read : (a b c : Bool) (h w : ℕ) → is_side h ≡ true → is_side w ≡ true
    → AreRead (option_to_list (cond a (Some (Size h w)) (cond b (Some (Point h w)) (cond c (Some (Drag h w)) None))))
kind_read true b c h w is_h is_w = (size_read h w is_h is_w, tt)
kind_read false true c h w is_h is_w = (point_read h w is_h is_w, tt)
kind_read false false true h w is_h is_w = (drag_read h w is_h is_w, tt)
kind_read false false false h w is_h is_w = tt

fields_read : (t : Bool) (kind h w : List ℕ) → is_side_in_digits h && is_side_in_digits w ≡ t
    → AreRead (option_to_list (cond t (key_by_kind kind (digits_value 10 h) (digits_value 10 w)) None))
fields_read true kind h w e =
    let sides = and_parts (is_side_in_digits h) (is_side_in_digits w) e in
    kind_read (bytes_eq kind (codes "8")) (bytes_eq kind (codes "7")) (bytes_eq kind (codes "9")) (digits_value 10 h) (digits_value 10 w)
    (and_parts _ (is_side (digits_value 10 h)) sides.0).1 (and_parts _ (is_side (digits_value 10 w)) sides.1).1
fields_read false kind h w e = tt

sides_all : (fields : List (List ℕ)) → AreRead (option_to_list (sides_key fields))
sides_all [] = tt
sides_all (kind ∷ []) = tt
sides_all (kind ∷ h ∷ []) = tt
sides_all (kind ∷ h ∷ w ∷ []) = fields_read (is_side_in_digits h && is_side_in_digits w) kind h w refl
sides_all (kind ∷ h ∷ w ∷ x ∷ fields) = tt

either_read : (t : Bool) (x y : Option Key) → AreRead (option_to_list x) → AreRead (option_to_list y) → AreRead (option_to_list (cond t x y))
either_read true x y h g = h
either_read false x y h g = g

sequence_read : (body : List ℕ) → AreRead (option_to_list (sequence_key body))
sequence_read body =
    either_read (nat_eq (final_byte body) 0x74) (sides_key (slice_split semicolon (before_final body)))
    (option_map (λ (k : List ℕ × Key). k.1) (find (λ (k : List ℕ × Key). bytes_eq k.0 body) sequence_keys))
    (sides_all (slice_split semicolon (before_final body)))
    (mapped (find (λ (k : List ℕ × Key). bytes_eq k.0 body) sequence_keys)
    (λ k is. found_all (λ (k : List ℕ × Key). IsRead k.1) (λ (k : List ℕ × Key). bytes_eq k.0 body) sequence_keys k sequences_read is))

-- ---- characters

chars_of : (c : ℕ) → scalar c ≡ true → chars (encode c) ≡ c ∷ []
chars_of c s = ap chars (sym (append-nil (encode c))) ∙ chars-encodes (c ∷ []) (grind (arith, nat_tests))

character_of_item : (a b : ℕ) (bs : List ℕ) → a ≢ 0x1B → is_item (a ∷ b ∷ bs) ≡ true → is_character (a ∷ b ∷ bs) ≡ true
character_of_item a b bs n is =
    let ends : fate (a ∷ b ∷ bs) ≡ Ends = cond-true (is_item (a ∷ b ∷ bs)) Ends _ is in
    ends_says characters (a ∷ b ∷ bs) (sym (no_escape a (b ∷ bs) n) ∙ ends)

long_read : (a b : ℕ) (bs : List ℕ) → a ≢ 0x1B → is_item (a ∷ b ∷ bs) ≡ true → AreRead (option_to_list (key_of (a ∷ b ∷ bs)))
long_read a b bs n is =
    let found = (are_encodings (a ∷ b ∷ bs)).0 (character_of_item a b bs n is) in
    let c : ℕ = found.0 in
    let same : encode c ≡ a ∷ b ∷ bs = found.2 in
    let key : key_of (a ∷ b ∷ bs) ≡ Some (Insert c) = key_by_chars a b bs c n (ap chars (sym same) ∙ chars_of c found.1) in
    let read : IsRead (Insert c) =
    ap decoding same ∙ item_decoding (a ∷ b ∷ bs) is ∙ ap (λ o. record { keys = option_to_list o; rest = [] }) key in
    subst (λ o. AreRead (option_to_list o)) (sym key) (read, tt)

-- ---- all items

item_read : (bs : List ℕ) → is_item bs ≡ true → AreRead (option_to_list (key_of bs))
item_read [] is = tt
item_read (b ∷ []) is = single_read b
item_read (b ∷ c ∷ rest) is = elim (cases_eq b 0x1B) [
  | inl escape ↦ subst (λ x. AreRead (option_to_list (key_of (x ∷ c ∷ rest)))) (sym escape) (
      either_read (nat_eq c 0x5B) (sequence_key rest) None (sequence_read rest) tt)
  | inr other ↦ long_read b c rest other is
]

fed_alone : (f : Fate) (b : ℕ) → fate (b ∷ []) ≡ f → AreRead (option_to_list (key_after [] b))
fed_alone Waits b h = subst (λ o. AreRead (option_to_list o)) (sym (feeds_waiting [] b h).is_key) tt
fed_alone Ends b h = subst (λ o. AreRead (option_to_list o)) (sym (feeds_end [] b h).is_key) (item_read (b ∷ []) (ends_says items (b ∷ []) h))
fed_alone Breaks b h = subst (λ o. AreRead (option_to_list o)) (sym (feeds_alone b h).is_key) tt

fed_by : (f : Fate) (rest : List ℕ) (b : ℕ) → fate rest ≡ Waits → fate (rest ++ b ∷ []) ≡ f → AreRead (option_to_list (key_after rest b))
fed_by Waits rest b w h = subst (λ o. AreRead (option_to_list o)) (sym (feeds_waiting rest b h).is_key) tt
fed_by Ends rest b w h = subst (λ o. AreRead (option_to_list o)) (sym (feeds_end rest b h).is_key) (item_read (rest ++ b ∷ []) (ends_says items (rest ++ b ∷ []) h))
fed_by Breaks rest b w h = subst (λ o. AreRead (option_to_list o)) (sym (feeds_break rest b w h).is_key) (fed_alone (fate (b ∷ [])) b refl)

-- the key that a byte completes
pub fed_read : (rest : List ℕ) (b : ℕ) → fate rest ≡ Waits → AreRead (option_to_list (key_after rest b))
fed_read rest b w = fed_by (fate (rest ++ b ∷ [])) rest b w refl
