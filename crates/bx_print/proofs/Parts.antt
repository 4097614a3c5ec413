-- A text written part by part; its first byte is dropped.
use Rattle.std.proofs.Common.{◌≡◌, ℕ, ◌+◌, ◌<◌, ◌≤◌, List, [], ◌∷◌, ◌++◌, length, take, drop, get_or, Option, refl, sym, ap, subst, ◌∙◌, arith}
use Rattle.std.proofs.Common.{append_assoc, length-append, take_all}
use Rattle.std.proofs.Common.{Result, Ok, Err, OnOk}
use Rattle.std.specs.Prelude.{flat_map}
use Rattle.std.specs.Io.KnownBytes.{Appends}
use Rattle.std.proofs.KnownBytes.{Appends-nil, Appends-trans}
use Rattle.std.proofs.lemmas.List.{append-nil, take-append-drop, take_more}
use Rattle.std.proofs.lemmas.List.Concat.{flat_map-append, flat_map-cons}
use Rattle.bx_bytes.specs.Writing.{IsWritten, WritesFront}

-- the first byte of the first part
pub drop-one : (xs ys : List ℕ) → 0 < length xs → drop 1 (xs ++ ys) ≡ drop 1 xs ++ ys
drop-one [] ys some = absurd (omega (arith, some))
drop-one (x ∷ xs) ys some = refl

-- the consequence if all parts were written
pub then-ok : {T E : Type 0} (r : Result T E) (P Q : Type 0) → (P → Q) → OnOk r P → OnOk r Q
then-ok (Ok x) P Q f p = f p
then-ok (Err e) P Q f p = p

module _ {X : Type 0} (f : X → List ℕ) (ps : List X) where
  abbrev pub whole : List ℕ
  whole = drop 1 (flat_map f ps)

  -- the first `n` parts were written, except the pending bytes
  pub record IsSent (old new : Option (List ℕ)) (pending : List ℕ) (n : ℕ) (written : List ℕ) : Type 0 where
    pub some : 0 < length (flat_map f (take n ps))
    pub parts : drop 1 (flat_map f (take n ps)) ≡ written ++ pending
    pub appends : Appends old new written

  next-part : (n : ℕ) (d : X) → n < length ps → flat_map f (take (n + 1) ps) ≡ flat_map f (take n ps) ++ f (get_or ps n d)
  next-part n d within =
      ap (flat_map f) (take_more ps n d within) ∙ flat_map-append f (take n ps) (get_or ps n d ∷ [])
      ∙ ap (λ bs. flat_map f (take n ps) ++ bs) (flat_map-cons f (get_or ps n d) [] ∙ append-nil (f (get_or ps n d)))

  module _ (a b : Option (List ℕ)) (pending : List ℕ) (n : ℕ) (written : List ℕ) (is : IsSent a b pending n written) where
    -- one more part is pending
    pub more-sent : (d : X) (later : List ℕ) → n < length ps → later ≡ pending ++ f (get_or ps n d) → IsSent a b later (n + 1) written
    more-sent d later within grown =
        let next = next-part n d within in
        let some = is.some in
        record {
          some = omega (arith, some, ap length next, length-append (flat_map f (take n ps)) (f (get_or ps n d)));
          parts = ap (drop 1) next ∙ drop-one (flat_map f (take n ps)) (f (get_or ps n d)) some ∙ ap (λ bs. bs ++ f (get_or ps n d)) is.parts
              ∙ append_assoc written pending (f (get_or ps n d)) ∙ ap (λ bs. written ++ bs) (sym grown);
          appends = is.appends;
        }

    -- a prefix of the pending bytes was written
    pub some-sent : (c : Option (List ℕ)) (later front rest : List ℕ) → IsWritten pending b c front rest → later ≡ rest
        → IsSent a c later n (written ++ front)
    some-sent c later front rest is-written same = record {
      some = is.some;
      parts = is.parts ∙ ap (λ bs. written ++ bs) (is-written.parts ∙ ap (λ bs. front ++ bs) (sym same)) ∙ sym (append_assoc written front later);
      appends = Appends-trans a b c written front is.appends is-written.appends;
    }

    -- all was
    pub all-sent : (c : Option (List ℕ)) → length ps ≤ n → Appends b c pending → Appends a c whole
    all-sent c all last =
        subst (Appends a c) (sym is.parts ∙ ap (λ qs. drop 1 (flat_map f qs)) (take_all n ps all))
        (Appends-trans a b c written pending is.appends last)

    whole-is : whole ≡ written ++ pending ++ flat_map f (drop n ps)
    whole-is =
        ap (λ qs. drop 1 (flat_map f qs)) (sym (take-append-drop n ps)) ∙ ap (drop 1) (flat_map-append f (take n ps) (drop n ps))
        ∙ drop-one (flat_map f (take n ps)) (flat_map f (drop n ps)) is.some ∙ ap (λ bs. bs ++ flat_map f (drop n ps)) is.parts

    -- any prefix of it is a prefix of the whole
    pub front-sent : (c : Option (List ℕ)) → WritesFront pending b c → WritesFront whole a c
    front-sent c front =
        let w = front.0 in
        let rest = front.1 in
        let left = flat_map f (drop n ps) in (
          written ++ w,
          rest ++ left,
          record {
            parts = whole-is ∙ ap (λ bs. written ++ bs ++ left) (front.2.parts) ∙ ap (λ bs. bs ++ left) (sym (append_assoc written w rest))
                ∙ append_assoc (written ++ w) rest left;
            appends = Appends-trans a b c written w is.appends front.2.appends;
          },
        )

    pub none-sent : WritesFront whole a b
    none-sent = front-sent b ([], pending, record { parts = refl; appends = Appends-nil b })
