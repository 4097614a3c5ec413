-- The bytes that a journal's file holds, as far as they are known: those of a file that is open, if a journal is kept.
use Rattle.std.specs.Prelude.{ℕ, List, Option, Some, None}
use Rattle.std.specs.Borrow.{Bor}

abbrev pub contents_of : {F : Type 0} → (F → Option (List ℕ)) → Option F → Option (List ℕ)
contents_of contents None = None
contents_of contents (Some file) = contents file

abbrev pub contents_if : Option (Bor (List ℕ)) → Option (List ℕ) → Option (List ℕ)
contents_if None contents = None
contents_if (Some path) contents = contents
