-- Replay of a journal's keys in order, and what it meets.
use Rattle.std.proofs.Common.{◌≡◌, ◌≢◌, ◌≤◌, ◌+◌, ℕ, Bool, true, false, List, [], ◌∷◌, ◌++◌, take, length, Option, Some, None}
use Rattle.std.proofs.Common.{Contains, ◌⊎◌, ⊎_elim, inl, inr, ◌↔◌, IsTrue, IsFalse, refl, sym, ap, subst, ◌∙◌, zero-add, add_assoc, length-append, arith}
use Rattle.std.specs.Prelude.{option_to_list}
use Rattle.bx_keys.specs.declared.key.Key.{Key}
use Rattle.bx_keys.specs.Keys.{key_after, rest_after}
use Rattle.bx_keys.specs.Waiting.{head_of}
use Rattle.bx_ucd.specs.Data.{Data}
use Rattle.bx_session.specs.Inputs.{keys_in, presses_from, rest_from}
use Rattle.bx_session.specs.Session.{Session, is_save_press}
use Rattle.bx_session.specs.Feeding.{SessionState}
use Rattle.bx_session.specs.Replaying.{after_journal, after_replayed_press, after_replaying, at_replay_end}
use Rattle.bx_session.proofs.Replayed.{replayed_more}
use Rattle.bx_session.proofs.Typing.{presses_from_both, rest_from_both}
use Rattle.bx_recovery.specs.declared.replaying.FileText.{FileText}
use Rattle.bx_recovery.specs.declared.replaying.FileText.TheVariants.{Same, Known, Foreign}
use Rattle.bx_recovery.specs.Recovery.{HoldsBeside, known_texts, replayed_text, texts_at_saves, with_text_if}
use Rattle.bx_recovery.proofs.Texts.{no_text_is_there, first_or_later, first_is_there, later_is_there, saved_or_later, saved_is_there, passed_is_there}

-- these bytes of a journal were replayed
pub record HasReplayed (d : Data) (old : Session) (bytes : List ℕ) (now : Session) (waits : List ℕ) : Type 0 where
  pub session : now ≡ after_replaying d old (presses_from [] bytes)
  pub rest : waits ≡ rest_from [] bytes

-- one byte more
one_more : (d : Data) (old now new : Session) (keys : List ℕ) (i b : ℕ) (waits waits' : List ℕ) (key : Option Key)
    → HasReplayed d old (take i keys) now waits → take (i + 1) keys ≡ take i keys ++ b ∷ [] → key ≡ key_after waits b
    → waits' ≡ head_of (rest_after waits b) → new ≡ after_replayed_press d now key → HasReplayed d old (take (i + 1) keys) new waits'
one_more d old now new keys i b waits waits' key was more gives keeps is =
    let first = take i keys in
    let press : key ≡ key_after (rest_from [] first) b = gives ∙ ap (λ rest. key_after rest b) was.rest in record {
      session = is
          ∙ ap (λ (s : Session). after_replayed_press d s key) was.session
          ∙ sym (replayed_more d old (presses_from [] first) key)
          ∙ ap (λ k. after_replaying d old (presses_from [] first ++ k ∷ [])) press
          ∙ ap (after_replaying d old) (sym (presses_from_both [] first (b ∷ [])) ∙ ap (presses_from []) (sym more));
      rest = keeps
          ∙ ap (λ rest. head_of (rest_after rest b)) was.rest
          ∙ sym (rest_from_both [] first (b ∷ []))
          ∙ ap (rest_from []) (sym more);
    }

-- the tables stay the same
pub replayed_one : {D : Type 0} (ucd : D → Data) (tables : D) (mid new : SessionState D) (old : Session) (keys : List ℕ) (i b : ℕ)
    (waits waits' : List ℕ) (key : Option Key) → HasReplayed (ucd tables) old (take i keys) mid.session waits × (mid.tables ≡ tables)
    → take (i + 1) keys ≡ take i keys ++ b ∷ [] → key ≡ key_after waits b → waits' ≡ head_of (rest_after waits b)
    → new ≡ record mid { session = after_replayed_press (ucd mid.tables) mid.session key }
    → HasReplayed (ucd tables) old (take (i + 1) keys) new.session waits' × (new.tables ≡ tables)
replayed_one {D} ucd tables mid new old keys i b waits waits' key was more gives keeps is = (
  one_more (ucd tables) old mid.session new.session keys i b waits waits' key was.0 more gives keeps
      (ap (λ (x : SessionState D). x.session) is ∙ ap (λ (t : D). after_replayed_press (ucd t) mid.session key) was.1),
  ap (λ (x : SessionState D). x.tables) is ∙ was.1,
)

-- all bytes, and the end
pub journal_is : {D : Type 0} (ucd : D → Data) (tables : D) (mid new : SessionState D) (old : Session) (keys bytes waits : List ℕ)
    → HasReplayed (ucd tables) old bytes mid.session waits × (mid.tables ≡ tables) → bytes ≡ keys
    → new ≡ record mid { session = at_replay_end (ucd mid.tables) mid.session } → new.session ≡ after_journal (ucd tables) old (presses_from [] keys)
journal_is {D} ucd tables mid new old keys bytes waits was all is =
    ap (λ (x : SessionState D). x.session) is
    ∙ ap (λ (t : D). at_replay_end (ucd t) mid.session) was.1
    ∙ ap (at_replay_end (ucd tables)) (was.0.session ∙ ap (λ xs. after_replaying (ucd tables) old (presses_from [] xs)) all)

pub waits_are : {d : Data} {old now : Session} (keys bytes waits : List ℕ) → HasReplayed d old bytes now waits → bytes ≡ keys
    → waits ≡ rest_from [] keys
waits_are keys bytes waits was all = was.rest ∙ ap (rest_from []) all

-- ---- what a replay meets

-- of all presses of the journal, `left` are left; `is_known` tells whether the file was met, and `count` counts the keys
pub record HasMet (d : Data) (old now : Session) (all left : List (Option Key)) (file : List ℕ) (is_known : Bool) (count : ℕ) : Type 0 where
  pub known : (IsTrue is_known ⊎ Contains (texts_at_saves d now left) file) ↔ Contains (known_texts d old all) file
  pub keys : count + length (keys_in left) ≡ length (keys_in all)

pub met_at_first : (d : Data) (s : Session) (all : List (Option Key)) (file : List ℕ) (known : Bool) → (IsTrue known ↔ (s.editor.content.text ≡ file))
    → HasMet d s s all all file known 0
met_at_first d s all file known is = record {
  known = (
    ⊎_elim (λ e. first_is_there s.editor.content.text file (texts_at_saves d s all) (is.0 e)) (later_is_there s.editor.content.text file (texts_at_saves d s all)),
    λ c. ⊎_elim (λ e. inl (is.1 e)) inr (first_or_later s.editor.content.text file (texts_at_saves d s all) c),
  );
  keys = zero-add (length (keys_in all));
}

-- the replay of a press may have met a text that was stored
saved_now : (d : Data) (now new : Session) (file : List ℕ) (key : Option Key) (stores known known' : Bool) → stores ≡ is_save_press now key
    → new ≡ after_replayed_press d now key
    → (IsTrue known' ↔ (IsTrue known ⊎ ((stores ≡ true) × (new.editor.content.text ≡ file))))
    → (IsTrue known' ↔ (IsTrue known ⊎ ((is_save_press now key ≡ true) × ((after_replayed_press d now key).editor.content.text ≡ file))))
saved_now d now new file key stores known known' told is met =
    subst (λ (s : Session). IsTrue known' ↔ (IsTrue known ⊎ ((is_save_press now key ≡ true) × (s.editor.content.text ≡ file)))) is
    (subst (λ (saves : Bool). IsTrue known' ↔ (IsTrue known ⊎ ((saves ≡ true) × (new.editor.content.text ≡ file)))) told met)

pub met_more : (d : Data) (old now new : Session) (all left : List (Option Key)) (file : List ℕ) (key : Option Key) (stores known known' : Bool)
    (count count' : ℕ) → HasMet d old now all (key ∷ left) file known count → stores ≡ is_save_press now key
    → (IsTrue known' ↔ (IsTrue known ⊎ ((stores ≡ true) × (new.editor.content.text ≡ file))))
    → count' ≡ count + length (option_to_list key) → new ≡ after_replayed_press d now key
    → HasMet d old new all left file known' count'
met_more d old now new all left file key stores known known' count count' was told met_by counted is =
    let save = is_save_press now key in
    let text = (after_replayed_press d now key).editor.content.text in
    let met = saved_now d now new file key stores known known' told is met_by in
    let later : List (List ℕ) = texts_at_saves d (after_replayed_press d now key) left in
    let known_next : (IsTrue known' ⊎ Contains later file) ↔ Contains (known_texts d old all) file = (
      λ c. was.known.0 (⊎_elim
          (λ e. ⊎_elim inl (λ here. inr (saved_is_there save text file later here.0 here.1)) (met.0 e))
          (λ more. inr (passed_is_there save text file later more)) c),
      λ c. ⊎_elim (λ e. inl (met.1 (inl e))) (λ more. ⊎_elim (λ here. inl (met.1 (inr here))) inr (saved_or_later save text file later more))
          (was.known.1 c),
    ) in
    let first = option_to_list key in
    subst (λ (s : Session). HasMet d old s all left file known' count') (sym is) (record {
      known = known_next;
      keys = ap (λ n. n + length (keys_in left)) counted
          ∙ add_assoc count (length first) (length (keys_in left))
          ∙ ap (λ n. count + n) (sym (length-append first (keys_in left)))
          ∙ was.keys;
    })

-- a byte more of the journal's, by its press
pub met_byte : (d : Data) (old now : Session) (all : List (Option Key)) (bytes more file waits waits' : List ℕ) (b : ℕ) (key : Option Key) (known : Bool)
    (count : ℕ) → HasMet d old now all (presses_from waits bytes) file known count → bytes ≡ b ∷ more → key ≡ key_after waits b
    → waits' ≡ head_of (rest_after waits b) → HasMet d old now all (key ∷ presses_from waits' more) file known count
met_byte d old now all bytes more file waits waits' b key known count was is gives keeps =
    subst (λ k. HasMet d old now all (k ∷ presses_from waits' more) file known count) (sym gives)
    (subst (λ rest. HasMet d old now all (key_after waits b ∷ presses_from rest more) file known count) (sym keeps)
    (subst (λ bs. HasMet d old now all (presses_from waits bs) file known count) is was))

pub one_key_at_most : (key : Option Key) → length (option_to_list key) ≤ 1
one_key_at_most None = omega arith
one_key_at_most (Some key) = omega arith

-- ---- what the file holds

differs : (d : Data) (s new : Session) (presses : List (Option Key)) (file : List ℕ) (same : Bool) → new ≡ after_journal d s presses
    → (IsTrue same ↔ (new.editor.content.text ≡ file)) → IsFalse same → file ≢ replayed_text d s presses
differs d s new presses file same is tells no_same =
    λ e. absurd (let h : IsTrue same = tells.1 (ap (λ (x : Session). x.editor.content.text) is ∙ sym e) in cc (no_same, h))

pub holds_beside : (d : Data) (s new : Session) (presses : List (Option Key)) (file : List ℕ) (same known : Bool) (held : FileText) → new ≡ after_journal d s presses
    → (IsTrue same ↔ (new.editor.content.text ≡ file)) → ((IsTrue known ⊎ Contains [] file) ↔ Contains (known_texts d s presses) file)
    → (IsTrue same → held ≡ Same) → (IsFalse same → IsTrue known → held ≡ Known) → (IsFalse same → IsFalse known → held ≡ Foreign)
    → HoldsBeside d s presses file held
holds_beside d s new presses file true known held is tells knows if_same if_known if_foreign =
    subst (HoldsBeside d s presses file) (sym (if_same refl)) (sym (tells.0 refl) ∙ ap (λ (x : Session). x.editor.content.text) is)
holds_beside d s new presses file false true held is tells knows if_same if_known if_foreign =
    subst (HoldsBeside d s presses file) (sym (if_known refl refl)) (differs d s new presses file false is tells refl, knows.0 (inl refl))
holds_beside d s new presses file false false held is tells knows if_same if_known if_foreign =
    subst (HoldsBeside d s presses file) (sym (if_foreign refl refl)) (
      differs d s new presses file false is tells refl,
      λ c. ⊎_elim (λ e. absurd (cc e)) no_text_is_there (knows.1 c),
    )
