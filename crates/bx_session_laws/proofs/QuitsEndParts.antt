-- A part of the bytes of a read ends with its first Quit.
use Rattle.std.proofs.Common.{◌≡◌, ℕ, zero, suc, ◌<◌, ◌≤◌, Bool, true, false, List, [], ◌∷◌, ◌++◌, length, take, refl, sym, ap, ◌∙◌}
use Rattle.std.proofs.Common.{append_assoc, arith, if◌then◌else◌}
use Rattle.std.specs.Prelude.{◌≢◌, All, Option, Some, None, option_to_list}
use Rattle.std.proofs.lemmas.List.Elements.{All-cons, All-nil}
use Rattle.bx_keys.specs.declared.key.Key.{Key}
use Rattle.bx_keys.specs.declared.key.Key.TheVariants.{Quit}
use Rattle.bx_keys.specs.Keys.{head_of, key_after, rest_after}
use Rattle.bx_keys.specs.Waiting.{keys_from}
use Rattle.bx_session.specs.Parts.{is_quit, part_length}
use Rattle.bx_session.proofs.QuitParts.{part_most, part_some}
use Rattle.bx_session_laws.specs.Parts.{EndsWithQuit, PartsEndAtQuits}

abbrev IsOther : Key → Type 0
IsOther key = key ≢ Quit

quit-is : (key : Option Key) → is_quit key ≡ true → key ≡ Some Quit
quit-is None is = absurd (cc is)
quit-is (Some Quit) is = refl
quit-is (Some key) is = absurd (cc is)

-- a key that is no Quit, if there is one, before others
others : (key : Option Key) (keys : List Key) → is_quit key ≡ false → All IsOther keys → All IsOther (option_to_list key ++ keys)
others None keys is all = all
others (Some key) keys is all =
    All-cons IsOther key keys (λ same. (let quits : true ≡ false = sym (ap (λ k. is_quit (Some k)) same) ∙ is in cc quits)) all

module _ (rest : List ℕ) (b : ℕ) (bs : List ℕ) where
  abbrev next : List ℕ
  next = head_of (rest_after rest b)

  abbrev key : Option Key
  key = key_after rest b

  none-by : (quits : Bool) → is_quit key ≡ quits → ((m : ℕ) → m < part_length next bs → All IsOther (keys_from next (take m bs)))
      → (m : ℕ) → m < (if quits then 1 else suc (part_length next bs)) → All IsOther (keys_from rest (take m (b ∷ bs)))
  none-by quits is more zero short = All-nil IsOther
  none-by true is more (suc m) short = absurd (omega (arith, short))
  none-by false is more (suc m) short = others key (keys_from next (take m bs)) is (more m (omega (arith, short)))

  ends-by : (quits : Bool) → is_quit key ≡ quits
      → (part_length next bs < length bs → EndsWithQuit (keys_from next (take (part_length next bs) bs)))
      → (if quits then 1 else suc (part_length next bs)) < length (b ∷ bs)
      → EndsWithQuit (keys_from rest (take (if quits then 1 else suc (part_length next bs)) (b ∷ bs)))
  ends-by true is more short =
      record { before = []; whole = ap (λ k. option_to_list k ++ []) (quit-is key is) }
  ends-by false is more short =
      let h = more (omega (arith, short)) in
      record {
        before = option_to_list key ++ h.before;
        whole = ap (λ keys. option_to_list key ++ keys) h.whole ∙ sym (append_assoc (option_to_list key) h.before (Quit ∷ []));
      }

no-earlier : (rest bytes : List ℕ) (m : ℕ) → m < part_length rest bytes → All IsOther (keys_from rest (take m bytes))
no-earlier rest [] m short = absurd (omega (arith, short))
no-earlier rest (b ∷ bs) m short =
    none-by rest b bs (is_quit (key_after rest b)) refl (no-earlier (head_of (rest_after rest b)) bs) m short

ends : (rest bytes : List ℕ) → part_length rest bytes < length bytes → EndsWithQuit (keys_from rest (take (part_length rest bytes) bytes))
ends rest [] short = absurd (omega (arith, short))
ends rest (b ∷ bs) short = ends-by rest b bs (is_quit (key_after rest b)) refl (ends (head_of (rest_after rest b)) bs) short

length-some : (bytes : List ℕ) → bytes ≢ [] → 1 ≤ length bytes
length-some [] some = absurd (some refl)
length-some (b ∷ bs) some = omega arith

pub parts-end-at-quits : PartsEndAtQuits
parts-end-at-quits rest bytes = record {
  within = part_most rest bytes;
  some = λ some. part_some rest bytes (length-some bytes some);
  no_earlier = no-earlier rest bytes;
  ends = ends rest bytes;
}
