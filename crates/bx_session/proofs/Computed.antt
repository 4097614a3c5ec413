-- A session computed with the small tables.
use Rattle.std.proofs.Common.{ℕ, List, [], ◌∷◌, None, Option}
use Rattle.bx_common.specs.declared.base.Base.TheVariants.{Auto}
use Rattle.bx_editor.proofs.Computed.{tables}
use Rattle.bx_keys.specs.declared.key.Key.{Key}
use Rattle.bx_session.specs.Inputs.{presses_from}
use Rattle.bx_session.specs.Session.{Session, at_opening, after_press}

-- opened with a text of these bytes
abbrev pub start : List ℕ → ℕ → ℕ → Session
start text height width = at_opening tables text height width Auto

-- all pending bytes were sent
abbrev pub with_all_sent : Session → Session
with_all_sent s = record s { pending = [] }

-- after these presses; each is answered Ok, and each Save succeeds
abbrev pub after_presses : Session → List (Option Key) → Session
after_presses s [] = s
after_presses s (key ∷ more) = after_presses (after_press tables None s key) more

-- after these bytes, where none wait before them
abbrev pub after : Session → List ℕ → Session
after s bs = after_presses s (presses_from [] bs)

-- the bytes that each of these inputs queues
abbrev pub outputs : Session → List (List ℕ) → List (List ℕ)
outputs s [] = []
outputs s (bs ∷ more) = let next = after (with_all_sent s) bs in next.pending ∷ outputs next more

-- CSI followed by these characters
abbrev pub csi : List ℕ → List ℕ
csi body = 0x1b ∷ 0x5b ∷ body
