-- The grammar of items, where a character begins anew and where text comes.
use Rattle.std.proofs.Common.{◌≡◌, ◌≢◌, ℕ, Bool, true, false, nat_eq, List, [], ◌∷◌, ◌++◌, get_or, Option, Some, None, refl, ap, sym, ◌∙◌, append_assoc, subst, arith}
use Rattle.std.specs.Option.{option_to_list}
use Rattle.std.specs.List.{list_all}
use Rattle.std.specs.Str.{chars}
use Rattle.std.proofs.lemmas.Bool.{and_from, and_parts}
use Rattle.std.proofs.lemmas.Bool.Decides.{nat_tests}
use Rattle.std.proofs.lemmas.List.{append-nil}
use Rattle.std.proofs.lemmas.List.Folds.{list_all-append}
use Rattle.bx_bytes.specs.Utf8.{characters}
use Rattle.bx_bytes.specs.declared.fate.Fate.{Fate}
use Rattle.bx_bytes.specs.declared.fate.Fate.TheVariants.{Waits, Ends, Breaks}
use Rattle.bx_keys.specs.Keys.{Decoding, decoding, key_of, single_key, character_key, key_after, rest_after}
use Rattle.bx_keys.specs.Waiting.{fate}
use Rattle.bx_keys.specs.declared.key.Key.{Key}
use Rattle.bx_keys.proofs.Cuts.{in_pieces, one_key, rest_waits}
use Rattle.bx_keys.proofs.Feeding.{broken_decoding, feeds_waiting, feeds_end, feeds_break, feeds_alone, waits_decoding}
use Rattle.bx_keys.proofs.Characters.{no_escape}
use Rattle.bx_input_laws.specs.Laws.{is_text_byte, IsText, is_insert}
use Rattle.bx_input_laws.proofs.Firsts.{lacks_after_first, breaks_at}

-- the waiting bytes are no escape sequence
abbrev pub IsFree : List ℕ → Type 0
IsFree rest = get_or rest 0 0 ≢ 0x1B

abbrev after_keys : Decoding → List ℕ → Decoding
after_keys d more = record { keys = d.keys ++ (decoding (d.rest ++ more)).keys; rest = (decoding (d.rest ++ more)).rest }

-- ---- bytes that begin anew

broken_anew : (rest : List ℕ) (b : ℕ) (more : List ℕ) → decoding (rest ++ b ∷ []) ≡ decoding (b ∷ []) → decoding (rest ++ b ∷ more) ≡ decoding (b ∷ more)
broken_anew rest b more h =
    ap decoding (sym (append_assoc rest (b ∷ []) more))
    ∙ in_pieces (rest ++ b ∷ []) more
    ∙ ap (λ d. after_keys d more) h
    ∙ sym (in_pieces (b ∷ []) more)

-- a byte that no character has but as its first, where no escape sequence waits
pub anew_in_text : (rest : List ℕ) (b : ℕ) (more : List ℕ) → list_all (lacks_after_first b) characters ≡ true → fate rest ≡ Waits → IsFree rest
    → decoding (rest ++ b ∷ more) ≡ decoding (b ∷ more)
anew_in_text [] b more l h n = refl
anew_in_text (x ∷ xs) b more l h n =
    let breaks : fate (x ∷ (xs ++ b ∷ [])) ≡ Breaks = no_escape x (xs ++ b ∷ []) n ∙ breaks_at characters x xs b l in
    broken_anew (x ∷ xs) b more (broken_decoding (x ∷ xs) b h breaks)

-- ---- the bytes that wait after a byte

alone_by : (f : Fate) (b : ℕ) → fate (b ∷ []) ≡ f → b ≢ 0x1B → IsFree (rest_after [] b)
alone_by Waits b h n = subst IsFree (sym (feeds_waiting [] b h).is_rest) n
alone_by Ends b h n = subst IsFree (sym (feeds_end [] b h).is_rest) (λ e. omega (arith, e))
alone_by Breaks b h n = subst IsFree (sym (feeds_alone b h).is_rest) (λ e. omega (arith, e))

pub alone_free : (b : ℕ) → b ≢ 0x1B → IsFree (rest_after [] b)
alone_free b n = alone_by (fate (b ∷ [])) b refl n

-- no more of an escape sequence comes
free_by : (f : Fate) (rest : List ℕ) (b : ℕ) → fate rest ≡ Waits → fate (rest ++ b ∷ []) ≡ f → f ≢ Waits → b ≢ 0x1B → IsFree (rest_after rest b)
free_by Waits rest b w h ends n = absurd (ends refl)
free_by Ends rest b w h ends n = subst IsFree (sym (feeds_end rest b h).is_rest) (λ e. omega (arith, e))
free_by Breaks rest b w h ends n = subst IsFree (sym (feeds_break rest b w h).is_rest) (alone_free b n)

-- where no escape sequence is, none begins
still_free_by : (f : Fate) (rest : List ℕ) (b : ℕ) → fate rest ≡ Waits → fate (rest ++ b ∷ []) ≡ f → IsFree rest → b ≢ 0x1B → IsFree (rest_after rest b)
still_free_by Waits [] b w h free n = subst IsFree (sym (feeds_waiting [] b h).is_rest) n
still_free_by Waits (x ∷ xs) b w h free n = subst IsFree (sym (feeds_waiting (x ∷ xs) b h).is_rest) free
still_free_by Ends rest b w h free n = free_by Ends rest b w h (λ e. cc e) n
still_free_by Breaks rest b w h free n = free_by Breaks rest b w h (λ e. cc e) n

pub still_free : (rest : List ℕ) (b : ℕ) → fate rest ≡ Waits → IsFree rest → b ≢ 0x1B → IsFree (rest_after rest b)
still_free rest b w free n = still_free_by (fate (rest ++ b ∷ [])) rest b w refl free n

-- ---- text

abbrev is_insert_or_none : Option Key → Bool
is_insert_or_none None = true
is_insert_or_none (Some key) = is_insert key

single_inserts : (b : ℕ) → is_text_byte b ≡ true → is_insert_or_none (single_key b) ≡ true
single_inserts b h = grind (arith, nat_tests)

character_inserts : (cs : List ℕ) → is_insert_or_none (character_key cs) ≡ true
character_inserts [] = refl
character_inserts (c ∷ cs) = refl

long_inserts : (x y : ℕ) (rest : List ℕ) → x ≢ 0x1B → is_insert_or_none (key_of (x ∷ y ∷ rest)) ≡ true
long_inserts x y rest n =
    let other : nat_eq x 0x1B ≡ false = grind (arith, nat_tests) in
    rw other (character_inserts (chars (x ∷ y ∷ rest)))

item_inserts : (rest : List ℕ) (b : ℕ) → IsFree rest → is_text_byte b ≡ true → is_insert_or_none (key_of (rest ++ b ∷ [])) ≡ true
item_inserts [] b free h = single_inserts b h
item_inserts (x ∷ []) b free h = long_inserts x b [] free
item_inserts (x ∷ y ∷ xs) b free h = long_inserts x y (xs ++ b ∷ []) free

alone_inserts : (f : Fate) (b : ℕ) → fate (b ∷ []) ≡ f → is_text_byte b ≡ true → is_insert_or_none (key_after [] b) ≡ true
alone_inserts Waits b h t = ap is_insert_or_none (feeds_waiting [] b h).is_key
alone_inserts Ends b h t = ap is_insert_or_none (feeds_end [] b h).is_key ∙ single_inserts b t
alone_inserts Breaks b h t = ap is_insert_or_none (feeds_alone b h).is_key

byte_inserts : (f : Fate) (rest : List ℕ) (b : ℕ) → fate rest ≡ Waits → fate (rest ++ b ∷ []) ≡ f → IsFree rest → is_text_byte b ≡ true
    → is_insert_or_none (key_after rest b) ≡ true
byte_inserts Waits rest b w h free t = ap is_insert_or_none (feeds_waiting rest b h).is_key
byte_inserts Ends rest b w h free t = ap is_insert_or_none (feeds_end rest b h).is_key ∙ item_inserts rest b free t
byte_inserts Breaks rest b w h free t = ap is_insert_or_none (feeds_break rest b w h).is_key ∙ alone_inserts (fate (b ∷ [])) b refl t

option_inserts : (key : Option Key) → is_insert_or_none key ≡ true → list_all is_insert (option_to_list key) ≡ true
option_inserts None h = refl
option_inserts (Some key) h = and_from (is_insert key) true h refl

pub text_not_escape : (b : ℕ) → is_text_byte b ≡ true → b ≢ 0x1B
text_not_escape b t e = grind (arith, nat_tests)

both_insert : (xs ys : List Key) → list_all is_insert xs ≡ true → list_all is_insert ys ≡ true → list_all is_insert (xs ++ ys) ≡ true
both_insert xs ys h g = list_all-append is_insert xs ys ∙ and_from (list_all is_insert xs) (list_all is_insert ys) h g

-- the keys of text are its characters
pub text_inserts : (rest bs : List ℕ) → fate rest ≡ Waits → IsFree rest → IsText bs → list_all is_insert (decoding (rest ++ bs)).keys ≡ true
text_inserts rest [] w free t = ap (λ xs. list_all is_insert (decoding xs).keys) (append-nil rest) ∙ ap (λ (d : Decoding). list_all is_insert d.keys) (waits_decoding rest w)
text_inserts rest (b ∷ bs) w free t =
    let parts = and_parts (is_text_byte b) (list_all is_text_byte bs) t in
    let next : List ℕ = rest_after rest b in
    let waits : fate next ≡ Waits = rest_waits (rest ++ b ∷ []) in
    let more = text_inserts next bs waits (still_free rest b w free (text_not_escape b parts.0)) parts.1 in
    let first = option_inserts (key_after rest b) (byte_inserts (fate (rest ++ b ∷ [])) rest b w refl free parts.0) in
    ap (λ xs. list_all is_insert (decoding xs).keys) (sym (append_assoc rest (b ∷ []) bs))
    ∙ ap (λ (d : Decoding). list_all is_insert d.keys) (in_pieces (rest ++ b ∷ []) bs)
    ∙ ap (λ keys. list_all is_insert (keys ++ (decoding (next ++ bs)).keys)) (one_key rest b w)
    ∙ both_insert (option_to_list (key_after rest b)) (decoding (next ++ bs)).keys first more
