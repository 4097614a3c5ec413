-- What a store in memory has after a save.
use Rattle.std.proofs.Common.{◌≡◌, ℕ, List, [], ◌∷◌, ◌++◌, Option, Some, None, map, refl, sym, ap, ◌∙◌, append_assoc, append-nil}
use Rattle.std.specs.List.{concat}
use Rattle.bx_store.specs.Stores.{Kept, MemoryState, after_begin, after_begin_as, after_put, renamed, with_room}
use Rattle.bx_session_laws.specs.Memory.{MemoryStoresWholeSaves, after_puts, begun}

drafted : (s : MemoryState) (puts : List (ℕ × List ℕ)) → (after_puts puts s).draft ≡ s.draft ++ concat (map (λ put. put.1) puts)
drafted s [] = sym (append-nil s.draft)
drafted s (put ∷ puts) =
    drafted (with_room put.0 (after_put put.1 s)) puts ∙ append_assoc s.draft put.1 (concat (map (λ put. put.1) puts))

-- what puts leave
record Left : Type 0 where
  pub contents : List ℕ
  pub name : Option (List ℕ)
  pub new_name : Option (List ℕ)
  pub elsewhere : List Kept

abbrev left_of : MemoryState → Left
left_of s = record { contents = s.contents; name = s.name; new_name = s.new_name; elsewhere = s.elsewhere }

kept : (s : MemoryState) (puts : List (ℕ × List ℕ)) → left_of (after_puts puts s) ≡ left_of s
kept s [] = refl
kept s (put ∷ puts) = kept (with_room put.0 (after_put put.1 s)) puts

-- a new name leaves the draft
same_draft : (name : Option (List ℕ)) (s : MemoryState) → (renamed name s).draft ≡ s.draft
same_draft None s = refl
same_draft (Some name) s = refl

abbrev name_of : Option (List ℕ) → Left → Option (List ℕ)
name_of None l = l.name
name_of (Some name) l = Some name

abbrev elsewhere_of : Option (List ℕ) → Left → List Kept
elsewhere_of None l = l.elsewhere
elsewhere_of (Some name) l = l.elsewhere ++ record { name = l.name; text = l.contents } ∷ []

named : (name : Option (List ℕ)) (s : MemoryState) → (renamed name s).name ≡ name_of name (left_of s)
named None s = refl
named (Some name) s = refl

elsewhere : (name : Option (List ℕ)) (s : MemoryState) → (renamed name s).elsewhere ≡ elsewhere_of name (left_of s)
elsewhere None s = refl
elsewhere (Some name) s = refl

pub memory-stores-whole-saves : MemoryStoresWholeSaves
memory-stores-whole-saves s None puts =
    let x : MemoryState = begun None puts s in
    let same = kept (after_begin s) puts in record {
      stored = same_draft x.new_name x ∙ drafted (after_begin s) puts;
      named = named x.new_name x ∙ ap (λ (l : Left). name_of l.new_name l) same;
      elsewhere = elsewhere x.new_name x ∙ ap (λ (l : Left). elsewhere_of l.new_name l) same;
      kept = ap (λ (l : Left). l.contents) same;
      failed = λ fault. ap (λ (l : Left). l.contents) same;
      ended = λ fault. refl;
    }
memory-stores-whole-saves s (Some name) puts =
    let x : MemoryState = begun (Some name) puts s in
    let same = kept (after_begin_as name s) puts in record {
      stored = same_draft x.new_name x ∙ drafted (after_begin_as name s) puts;
      named = named x.new_name x ∙ ap (λ (l : Left). name_of l.new_name l) same;
      elsewhere = elsewhere x.new_name x ∙ ap (λ (l : Left). elsewhere_of l.new_name l) same;
      kept = ap (λ (l : Left). l.contents) same;
      failed = λ fault. ap (λ (l : Left). l.contents) same;
      ended = λ fault. refl;
    }
