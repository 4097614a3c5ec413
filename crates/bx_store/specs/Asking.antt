-- Savers and disks of which nothing is known.
use Rattle.std.specs.Prelude.{Option, None}
use Rattle.bx_store.specs.Disk.{DiskState}
use Rattle.bx_store.specs.Talk.{Talk}

-- of two pipes
abbrev pub no_talk : Option Talk
no_talk = None

-- of the system's files
abbrev pub no_state : Option DiskState
no_state = None
