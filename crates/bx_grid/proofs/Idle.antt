-- A command leaves nothing half read where nothing was.
use Rattle.std.proofs.Common.{◌≡◌, ℕ, ◌&&◌, Bool, true, false, nat_le, Option, Some, None, refl}
use Rattle.bx_grid.specs.Picture.{IsIdle}
use Rattle.bx_grid.specs.Terminal.{Terminal, after_clear, after_command, after_erase}
use Rattle.bx_grid.specs.declared.command.Command.{Command}
use Rattle.bx_grid.specs.declared.command.Command.TheVariants.{Move, Clear, Erase, Render, Clip, Other as Unread}

idle_move : (b : Bool) (t : Terminal) (line column : ℕ) → IsIdle t
    → nat_le 1 line && nat_le line t.height && nat_le 1 column && nat_le column t.width ≡ b → IsIdle (after_command t (Move line column))
idle_move true t line column i e = record { no_run = rw e i.no_run; no_token = rw e i.no_token }
idle_move false t line column i e = record { no_run = rw e refl; no_token = rw e refl }

idle_clear : (t : Terminal) (n : Option Bool) → IsIdle t → IsIdle (after_clear t n)
idle_clear t (Some false) i = record { no_run = i.no_run; no_token = i.no_token }
idle_clear t (Some true) i = record { no_run = refl; no_token = refl }
idle_clear t None i = record { no_run = refl; no_token = refl }

idle_erase : (t : Terminal) (q : Option (ℕ × ℕ)) (n : Option Bool) → IsIdle t → IsIdle (after_erase t q n)
idle_erase t (Some p) (Some false) i = record { no_run = i.no_run; no_token = i.no_token }
idle_erase t (Some p) (Some true) i = record { no_run = refl; no_token = refl }
idle_erase t (Some p) None i = record { no_run = refl; no_token = refl }
idle_erase t None n i = record { no_run = refl; no_token = refl }

pub idle_command : (t : Terminal) (c : Command) → IsIdle t → IsIdle (after_command t c)
idle_command t (Move line column) i =
    idle_move (nat_le 1 line && nat_le line t.height && nat_le 1 column && nat_le column t.width) t line column i refl
idle_command t Clear i = idle_clear t t.negative i
idle_command t Erase i = idle_erase t t.position t.negative i
idle_command t (Render negative) i = record { no_run = i.no_run; no_token = i.no_token }
idle_command t Clip i = i
idle_command t Unread i = record { no_run = refl; no_token = refl }
