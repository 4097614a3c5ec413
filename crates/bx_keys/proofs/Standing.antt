-- A decoder that keeps bytes that wait reads a byte as the definition does.
use Rattle.std.proofs.Common.{◌≡◌, ℕ, ◌≤◌, List, [], ◌∷◌, ◌++◌, length, None, refl, ap, sym, ◌∙◌}
use Rattle.std.proofs.lemmas.List.{take_all}
use Rattle.bx_bytes.specs.declared.fate.Fate.{Fate}
use Rattle.bx_bytes.specs.declared.fate.Fate.TheVariants.{Waits, Ends, Breaks}
use Rattle.bx_keys.specs.Keys.{key_of, key_after, rest_after}
use Rattle.bx_keys.specs.Waiting.{fate, head_of, StandsFor}
use Rattle.bx_keys.proofs.Feeding.{feeds_waiting, feeds_end, feeds_break, feeds_alone}
use Rattle.bx_keys.proofs.Heads.{head_fate, head_key, head_more}

pub stands_for_itself : (v : List ℕ) → fate v ≡ Waits → length v ≤ 12 → StandsFor v v
stands_for_itself v h l = record { waits = h; is_head = sym (take_all 12 v l) }

same_fate : (v rest : List ℕ) (b : ℕ) → StandsFor v rest → fate (rest ++ b ∷ []) ≡ fate (v ++ b ∷ [])
same_fate v rest b s = sym (head_fate rest b s.waits) ∙ ap (λ bs. fate (bs ++ b ∷ [])) (sym s.is_head)

-- ---- a byte that waits

pub waiting_key : (v rest : List ℕ) (b : ℕ) → StandsFor v rest → fate (v ++ b ∷ []) ≡ Waits → None ≡ key_after rest b
waiting_key v rest b s h = sym ((feeds_waiting rest b (same_fate v rest b s ∙ h)).is_key)

pub waiting_rest : (v rest : List ℕ) (b : ℕ) → StandsFor v rest → fate (v ++ b ∷ []) ≡ Waits → StandsFor (head_of (v ++ b ∷ [])) (rest_after rest b)
waiting_rest v rest b s h =
    let waits : fate (rest ++ b ∷ []) ≡ Waits = same_fate v rest b s ∙ h in
    let left : rest_after rest b ≡ rest ++ b ∷ [] = (feeds_waiting rest b waits).is_rest in
    record {
      waits = ap fate left ∙ waits;
      is_head = ap (λ bs. head_of (bs ++ b ∷ [])) s.is_head ∙ head_more rest b ∙ ap head_of (sym left);
    }

-- ---- a byte that ends an item

pub ending_key : (v rest : List ℕ) (b : ℕ) → StandsFor v rest → fate (v ++ b ∷ []) ≡ Ends → key_of (v ++ b ∷ []) ≡ key_after rest b
ending_key v rest b s h =
    ap (λ bs. key_of (bs ++ b ∷ [])) s.is_head ∙ head_key rest b s.waits ∙ sym ((feeds_end rest b (same_fate v rest b s ∙ h)).is_key)

pub ending_rest : (v rest : List ℕ) (b : ℕ) → StandsFor v rest → fate (v ++ b ∷ []) ≡ Ends → StandsFor [] (rest_after rest b)
ending_rest v rest b s h =
    let left : rest_after rest b ≡ [] = (feeds_end rest b (same_fate v rest b s ∙ h)).is_rest in
    record { waits = ap fate left; is_head = ap head_of (sym left) }

-- ---- a byte that breaks off the waiting bytes

fresh_by : (f : Fate) (b : ℕ) → fate (b ∷ []) ≡ f → StandsFor (rest_after [] b) (rest_after [] b)
fresh_by Waits b h =
    let left : rest_after [] b ≡ b ∷ [] = (feeds_waiting [] b h).is_rest in
    record { waits = ap fate left ∙ h; is_head = left ∙ ap head_of (sym left) }
fresh_by Ends b h =
    let left : rest_after [] b ≡ [] = (feeds_end [] b h).is_rest in
    record { waits = ap fate left; is_head = left ∙ ap head_of (sym left) }
fresh_by Breaks b h =
    let left : rest_after [] b ≡ [] = (feeds_alone b h).is_rest in
    record { waits = ap fate left; is_head = left ∙ ap head_of (sym left) }

pub breaking_key : (v rest : List ℕ) (b : ℕ) → StandsFor v rest → fate (v ++ b ∷ []) ≡ Breaks → key_after [] b ≡ key_after rest b
breaking_key v rest b s h = sym ((feeds_break rest b s.waits (same_fate v rest b s ∙ h)).is_key)

pub breaking_rest : (v rest : List ℕ) (b : ℕ) → StandsFor v rest → fate (v ++ b ∷ []) ≡ Breaks → StandsFor (rest_after [] b) (rest_after rest b)
breaking_rest v rest b s h =
    let left : rest_after rest b ≡ rest_after [] b = (feeds_break rest b s.waits (same_fate v rest b s ∙ h)).is_rest in
    let fresh = fresh_by (fate (b ∷ [])) b refl in
    record { waits = ap fate left ∙ fresh.waits; is_head = fresh.is_head ∙ ap head_of (sym left) }
