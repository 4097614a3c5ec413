-- Laws of a terminal that reads any bytes: it obeys the tokens of `Cutting.antt`, in order.
use Rattle.std.specs.Prelude.{◌≡◌, ℕ, Bool, true, false, not, ◌&&◌, List, [], ◌∷◌, ◌++◌, drop, flat_map, fold}
use Rattle.bx_terminal.specs.Cutting.{Cutting, Token, Run, Sequence, Other, cutting, run_token}
use Rattle.bx_grid.specs.Picture.{IsIdle}
use Rattle.bx_grid.specs.Terminal.{Terminal, all_unknown, after_command, reads, run_put}
use Rattle.bx_grid.specs.Tokens.{escape_command}

-- the terminal `t` after a token: a run puts its glyphs, and a sequence or a string has its command obeyed, which the bytes after
-- ESC tell
abbrev pub token_done : Terminal → Token → Terminal
token_done t (Run text) = run_put t t.position t.negative text
token_done t (Sequence bytes) = after_command t (escape_command (drop 1 bytes))
token_done t (Other bytes) = all_unknown t

-- the terminal after tokens, in order
abbrev pub tokens_done : Terminal → List Token → Terminal
tokens_done t tokens = fold token_done t tokens

-- a terminal with nothing half read obeys the tokens of the bytes in order; the remaining bytes are then half read
abbrev pub ReadsTokens : Type 0
ReadsTokens = (t : Terminal) (bs : List ℕ) → IsIdle t →
    let c : Cutting = cutting bs in
    reads t bs ≡ record (tokens_done t c.tokens) { run = c.run; half_read = c.rest }

-- the bytes of which a token is made
abbrev pub token_bytes : Token → List ℕ
token_bytes (Run text) = text
token_bytes (Sequence bytes) = bytes
token_bytes (Other bytes) = bytes

-- the tokens and the remaining bytes, concatenated, are the bytes
abbrev pub TokensMakeBytes : Type 0
TokensMakeBytes = (bs : List ℕ) → let c : Cutting = cutting bs in flat_map token_bytes c.tokens ++ (c.run ++ c.rest) ≡ bs

-- the first token is a run
abbrev pub begins_with_run : List Token → Bool
begins_with_run (Run text ∷ tokens) = true
begins_with_run _ = false

-- no two runs are adjacent
abbrev pub are_runs_apart : List Token → Bool
are_runs_apart [] = true
are_runs_apart (Run text ∷ tokens) = not (begins_with_run tokens) && are_runs_apart tokens
are_runs_apart (Sequence bytes ∷ tokens) = are_runs_apart tokens
are_runs_apart (Other bytes ∷ tokens) = are_runs_apart tokens

-- each run is as long as possible, also the last one, which later characters may extend
abbrev pub RunsAreLongest : Type 0
RunsAreLongest = (bs : List ℕ) → let c : Cutting = cutting bs in are_runs_apart (c.tokens ++ run_token c.run) ≡ true
