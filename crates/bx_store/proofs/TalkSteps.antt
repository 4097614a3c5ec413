-- What a save does to a talk, known or not.
use Rattle.std.proofs.Common.{◌≡◌, ◌∙◌, ℕ, append-nil, drop, take, true, List, [], ◌++◌, Option, Some, None, option_map, Result, Ok, Err, OnErr, is_some, refl, ap, append_assoc}
use Rattle.std.proofs.lemmas.List.{take-append-drop}
use Rattle.bx_store.specs.Stores.{with_bytes}
use Rattle.bx_store.specs.Talk.{Talk, after_done, asked, draft_by, is_begun_by, lost, sent, stored_by, text_or_none, told}
use Rattle.bx_store.specs.declared.saver.Answer.TheVariants.{Done}

-- a frame of the text is a piece that is told
told_twice : (xs ys : List ℕ) (text : Option (List ℕ)) → with_bytes ys (with_bytes xs text) ≡ with_bytes (xs ++ ys) text
told_twice xs ys None = refl
told_twice xs ys (Some text) = ap Some (append_assoc text xs ys)

pub told_after : (xs ys : List ℕ) (talk : Option Talk) → option_map (told ys) (option_map (sent 0x50 xs) talk) ≡ option_map (told (xs ++ ys)) talk
told_after xs ys None = refl
told_after xs ys (Some t) = ap (λ text. Some (record t { written = record t.written { text = text } })) (told_twice xs ys t.written.text)

-- the first bytes of a text are told, and then the rest
pub told_front : (count : ℕ) (bytes front back : List ℕ) (talk talk' : Option Talk) → front ≡ take count bytes → back ≡ drop count bytes
    → talk' ≡ option_map (sent 0x50 front) talk → option_map (told back) talk' ≡ option_map (told bytes) talk
told_front count bytes front back talk talk' is_front is_back is_sent =
    let whole : front ++ back ≡ bytes = rw is_front (rw is_back (take-append-drop count bytes)) in
    rw is_sent (told_after front back talk ∙ ap (λ all. option_map (told all) talk) whole)

untold : (text : Option (List ℕ)) → with_bytes [] text ≡ text
untold None = refl
untold (Some text) = ap Some (append-nil text)

pub told_nothing : (talk : Option Talk) → option_map (told []) talk ≡ talk
told_nothing None = refl
told_nothing (Some t) = ap (λ text. Some (record t { written = record t.written { text = text } })) (untold t.written.text)

-- only DONE stores a text
pub sent_stored : (letter : ℕ) (bytes : List ℕ) (talk talk' : Option Talk) → talk' ≡ option_map (sent letter bytes) talk → stored_by talk' ≡ stored_by talk
sent_stored letter bytes None talk' h = ap stored_by h
sent_stored letter bytes (Some t) talk' h = ap stored_by h

pub lost_stored : (talk : Option Talk) → stored_by (option_map lost talk) ≡ stored_by talk
lost_stored None = refl
lost_stored (Some t) = refl

stored_text : (text : Option (List ℕ)) (stored : List ℕ) → is_some text ≡ true → after_done text stored ≡ text_or_none text
stored_text None stored h = absurd (cc h)
stored_text (Some text) stored h = refl

-- a COMMIT that is answered by DONE stores the text of the save in progress
pub commit_stores : (talk : Option Talk) → is_begun_by talk ≡ true → stored_by (option_map (asked 0x43 [] Done) talk) ≡ draft_by talk
commit_stores None h = refl
commit_stores (Some t) h = ap Some (stored_text t.written.text t.stored h)

-- a fact that holds holds of an error
pub on_any : {T E P : Type 0} (r : Result T E) → P → OnErr r P
on_any (Ok x) p = search
on_any (Err e) p = p
