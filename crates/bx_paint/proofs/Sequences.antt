-- A terminal that reads the sequences of a painting: a cell, a rendition, an erasure.
use Rattle.std.proofs.Common.{◌≡◌, ℕ, ◌+◌, ◌*◌, ◌<◌, ◌^◌, Bool, true, false, nat_le, List, [], ◌∷◌, ◌++◌, replicate, ◌-◌, Option, Some, None, refl, ap, ◌∙◌}
use Rattle.std.proofs.Common.{arith}
use Rattle.std.specs.List.{list_all}
use Rattle.std.proofs.lemmas.Bool.Decides.{nat_tests}
use Rattle.std.proofs.lemmas.List.{append-nil}
use Rattle.bx_grid.specs.Columns.{Col, blank, put}
use Rattle.bx_grid.specs.declared.command.Command.{Command}
use Rattle.bx_grid.specs.declared.command.Command.TheVariants.{Move}
use Rattle.bx_grid.specs.Tokens.{is_param, command_of}
use Rattle.bx_grid.specs.Effects.{Effect, Erases, pending_effects, command_effects}
use Rattle.bx_grid.specs.Terminal.{Terminal, run_ended, after_command}
use Rattle.bx_grid.specs.Picture.{PictureState}
use Rattle.bx_grid.proofs.Reading.{at, IsFinal, move_params, move_params_fit, command_of-index}
use Rattle.bx_grid.proofs.Doing.{run, sequence_does}
use Rattle.bx_paint.specs.Painting.{move_bytes, render_bytes, render_change, erase_bytes}

-- a terminal of the picture's size, with at most a run half read
abbrev pub screen : PictureState → List Col → Option (ℕ × ℕ) → Bool → List ℕ → Terminal
screen p columns position negative pending = record {
  height = p.height;
  width = p.width;
  columns = columns;
  position = position;
  negative = Some negative;
  run = pending;
  half_read = [];
}

-- a terminal whose run, once it has taken effect, leaves these columns, and whose effects are then these
pub record Leaves (p : PictureState) (w : Terminal × List Effect) (columns : List Col) (q : Option (ℕ × ℕ)) (negative : Bool) (all : List Effect) : Type 0 where
  pub no_token : w.0.half_read ≡ []
  pub effect : run_ended w.0 ≡ screen p columns q negative []
  pub told : w.1 ++ pending_effects w.0 ≡ all

-- one that has nothing half read
pub plain_leaves : (p : PictureState) (columns : List Col) (q : Option (ℕ × ℕ)) (negative : Bool) (all : List Effect)
    → Leaves p (screen p columns q negative [], all) columns q negative all
plain_leaves p columns q negative all = record { no_token = refl; effect = refl; told = append-nil all }

-- ---- sequences

pub final_H : IsFinal 0x48
final_H = record { ends = refl; no_param = refl; no_intermediate = refl }

pub final_m : IsFinal 0x6D
final_m = record { ends = refl; no_param = refl; no_intermediate = refl }

pub final_K : IsFinal 0x4B
final_K = record { ends = refl; no_param = refl; no_intermediate = refl }

pub final_J : IsFinal 0x4A
final_J = record { ends = refl; no_param = refl; no_intermediate = refl }

abbrev pair : Terminal → List Effect → Terminal × List Effect
pair t effects = (t, effects)

moved_is : (p : PictureState) (columns : List Col) (q : Option (ℕ × ℕ)) (negative : Bool) (half_read : List ℕ) (all : List Effect) (r c : ℕ)
    → r < p.height → c < p.width
    → pair (after_command (screen p columns q negative []) (Move (r + 1) (c + 1)))
    (all ++ command_effects (at (screen p columns q negative []) half_read) (Move (r + 1) (c + 1)))
    ≡ pair (screen p columns (Some (r, c)) negative []) all
moved_is p columns q negative half_read all r c h w =
    let t1 : nat_le 1 (r + 1) ≡ true = grind (arith, nat_tests) in
    let t2 : nat_le (r + 1) p.height ≡ true = grind (arith, nat_tests) in
    let t3 : nat_le 1 (c + 1) ≡ true = grind (arith, nat_tests) in
    let t4 : nat_le (c + 1) p.width ≡ true = grind (arith, nat_tests) in
    let e1 : (r + 1) - 1 ≡ r = omega arith in
    let e2 : (c + 1) - 1 ≡ c = omega arith in
    rw (t1, t2, t3, t4, e1, e2, append-nil all) refl

-- a sequence, where a run that is half read takes effect first
obeys : (p : PictureState) (w : Terminal × List Effect) (columns : List Col) (q : Option (ℕ × ℕ)) (negative : Bool) (all : List Effect) (ps : List ℕ) (f : ℕ)
    (command : Command)
    → Leaves p w columns q negative all → list_all is_param ps ≡ true → IsFinal f → command_of ps f ≡ command
    → run w (0x1B ∷ 0x5B ∷ (ps ++ f ∷ []))
    ≡ (after_command (screen p columns q negative []) command, all ++ command_effects (at (screen p columns q negative []) (0x1B ∷ 0x5B ∷ ps)) command)
obeys p w columns q negative all ps f command h fit final is =
    let half_read = 0x1B ∷ 0x5B ∷ ps in
    let after : Terminal → List Effect → Command → Terminal × List Effect = λ u log k. (after_command (at u []) k, log ++ command_effects (at u half_read) k) in
    let u : Terminal = run_ended w.0 in
    let done : List Effect = w.1 ++ pending_effects w.0 in
    sequence_does w.0 w.1 ps f h.no_token fit final
    ∙ ap (after u done) is
    ∙ ap (λ v. after v done command) h.effect
    ∙ ap (λ log. after (screen p columns q negative []) log command) h.told

pub moves : (p : PictureState) (w : Terminal × List Effect) (columns : List Col) (q : Option (ℕ × ℕ)) (negative : Bool) (all : List Effect) (r c : ℕ)
    → Leaves p w columns q negative all → r < p.height → c < p.width → p.height < 2 ^ 16 → p.width < 2 ^ 16
    → run w (move_bytes r c) ≡ (screen p columns (Some (r, c)) negative [], all)
moves p w columns q negative all r c h rh cw ph pw =
    let r64 : r + 1 < 2 ^ 64 = omega arith in
    let c64 : c + 1 < 2 ^ 64 = omega arith in
    obeys p w columns q negative all (move_params (r + 1) (c + 1)) 0x48 (Move (r + 1) (c + 1)) h
    (move_params_fit (r + 1) (c + 1) r64 c64) final_H (command_of-index (r + 1) (c + 1) r64 c64)
    ∙ moved_is p columns q negative (0x1B ∷ 0x5B ∷ move_params (r + 1) (c + 1)) all r c rh cw

pub renders : (p : PictureState) (w : Terminal × List Effect) (columns : List Col) (q : Option (ℕ × ℕ)) (negative glyph_negative : Bool) (all : List Effect)
    → Leaves p w columns q negative all
    → run w (render_bytes glyph_negative) ≡ (screen p columns q glyph_negative [], all)
renders p w columns q negative true all h =
    obeys p w columns q negative all (0x37 ∷ []) 0x6D _ h refl final_m refl ∙ ap (λ log. (screen p columns q true [], log)) (append-nil all)
renders p w columns q negative false all h =
    obeys p w columns q negative all (0x30 ∷ []) 0x6D _ h refl final_m refl ∙ ap (λ log. (screen p columns q false [], log)) (append-nil all)

pub turned : (p : PictureState) (columns : List Col) (q : Option (ℕ × ℕ)) (negative glyph_negative : Bool) (all : List Effect)
    → run (screen p columns q negative [], all) (render_change negative glyph_negative) ≡ (screen p columns q glyph_negative [], all)
turned p columns q true true all = refl
turned p columns q true false all = renders p (screen p columns q true [], all) columns q true false all (plain_leaves p columns q true all)
turned p columns q false true all = renders p (screen p columns q false [], all) columns q false true all (plain_leaves p columns q false all)
turned p columns q false false all = refl

pub erases : (p : PictureState) (columns : List Col) (r c : ℕ) (all : List Effect)
    → run (screen p columns (Some (r, c)) false [], all) erase_bytes
    ≡ (screen p (put p.width columns r c (replicate (p.width - c) blank)) None false [], all ++ Erases (r * p.width + c) ∷ [])
erases p columns r c all =
    obeys p (screen p columns (Some (r, c)) false [], all) columns (Some (r, c)) false all (0x30 ∷ []) 0x4B _ (plain_leaves p columns (Some (r, c)) false all)
    refl final_K refl

-- the cursor has a cell, and each number of it has few digits
pub record Fits (p : PictureState) : Type 0 where
  pub height : p.height < 2 ^ 16
  pub width : p.width < 2 ^ 16
  pub row : p.row < p.height
  pub column : p.column < p.width
