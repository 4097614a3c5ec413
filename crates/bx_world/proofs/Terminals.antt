-- What reading keeps of a terminal: its size, and that what is half read does not depend on what is shown.
use Rattle.std.proofs.Common.{◌≡◌, ℕ, Bool, true, false, List, [], ◌∷◌, ◌++◌, length, Option, Some, None, refl, sym, ap, subst, ◌∙◌, ◌==◌, if◌then◌else◌}
use Rattle.bx_bytes.specs.Utf8.{are_printable}
use Rattle.bx_bytes.specs.declared.fate.Fate.{Fate}
use Rattle.bx_bytes.specs.declared.fate.Fate.TheVariants.{Waits, Ends, Breaks}
use Rattle.std.specs.Prelude.{nat_le, ◌&&◌, ◌+◌}
use Rattle.bx_grid.specs.Columns.{run_columns}
use Rattle.bx_grid.specs.Picture.{IsIdle}
use Rattle.bx_grid.specs.Tokens.{fate, escape_command}
use Rattle.bx_grid.specs.declared.command.Command.{Command}
use Rattle.bx_grid.specs.declared.command.Command.TheVariants.{Move, Clear, Erase, Render, Clip, Other}
use Rattle.bx_grid.specs.Terminal.{Terminal, all_unknown, after_clear, after_erase, after_command, run_put, run_ended}
use Rattle.bx_grid.specs.Terminal.{character_read, token_read, after_first_byte_as, after_first_byte, after_next_byte, read_after, byte_read, reads}
use Rattle.bx_world.specs.Showing.{begins_sequence, NoRunInSequence, HasSize}

-- ---- the size

abbrev SameSize : Terminal → Terminal → Type 0
SameSize t u = HasSize t.height t.width u

size_if : (g : Bool) (t a b : Terminal) → SameSize t a → SameSize t b → SameSize t (if g then a else b)
size_if true t a b x y = x
size_if false t a b x y = y

clear_size : (t : Terminal) (negative : Option Bool) → SameSize t (after_clear t negative)
clear_size t (Some false) = (refl, refl)
clear_size t (Some true) = (refl, refl)
clear_size t None = (refl, refl)

erase_size : (t : Terminal) (position : Option (ℕ × ℕ)) (negative : Option Bool) → SameSize t (after_erase t position negative)
erase_size t (Some p) (Some false) = (refl, refl)
erase_size t (Some p) (Some true) = (refl, refl)
erase_size t (Some p) None = (refl, refl)
erase_size t None negative = (refl, refl)

command_size : (t : Terminal) (c : Command) → SameSize t (after_command t c)
command_size t (Move line column) = size_if (nat_le 1 line && nat_le line t.height && nat_le 1 column && nat_le column t.width) t _ _ (refl, refl) (refl, refl)
command_size t Clear = clear_size t t.negative
command_size t Erase = erase_size t t.position t.negative
command_size t (Render negative) = (refl, refl)
command_size t Clip = (refl, refl)
command_size t Other = (refl, refl)

put_size : (t : Terminal) (position : Option (ℕ × ℕ)) (negative : Option Bool) (run : List ℕ) → SameSize t (run_put t position negative run)
put_size t position negative [] = (refl, refl)
put_size t (Some p) (Some negative) (b ∷ bs) =
    let new = run_columns negative (b ∷ bs) in
    size_if (nat_le 1 (length new) && nat_le (p.1 + length new) t.width) t _ _ (refl, refl) (refl, refl)
put_size t (Some p) None (b ∷ bs) = (refl, refl)
put_size t None (Some negative) (b ∷ bs) = (refl, refl)
put_size t None None (b ∷ bs) = (refl, refl)

token_size : (t : Terminal) (bs : List ℕ) → SameSize t (token_read t bs)
token_size t [] = (refl, refl)
token_size t (b ∷ rest) =
    size_if (b == 0x1B) t _ _ (command_size (record t { half_read = [] }) (escape_command rest))
    (size_if (are_printable (b ∷ rest)) t _ _ (refl, refl) (refl, refl))

first_as_size : (t : Terminal) (b : ℕ) (f : Fate) → SameSize t (after_first_byte_as t b f)
first_as_size t b Waits = (refl, refl)
first_as_size t b Ends = token_size t (b ∷ [])
first_as_size t b Breaks = (refl, refl)

first_size : (t : Terminal) (b : ℕ) → SameSize t (after_first_byte t b)
first_size t b =
    let put = put_size t t.position t.negative t.run in
    size_if (b == 0x1B) t _ _ (put.0, put.1) (first_as_size t b (fate (b ∷ [])))

next_size : (t : Terminal) (b : ℕ) (f : Fate) → SameSize t (after_next_byte t b f)
next_size t b Waits = (refl, refl)
next_size t b Ends = token_size t (t.half_read ++ b ∷ [])
next_size t b Breaks = first_size (all_unknown t) b

after_size : (t : Terminal) (b : ℕ) (half_read : List ℕ) → SameSize t (read_after t b half_read)
after_size t b [] = first_size t b
after_size t b (h ∷ half_read) = next_size t b (fate (h ∷ half_read ++ b ∷ []))

pub reads_size : (t : Terminal) (bs : List ℕ) → SameSize t (reads t bs)
reads_size t [] = (refl, refl)
reads_size t (b ∷ bs) =
    let one = after_size t b t.half_read in
    let all = reads_size (byte_read t b) bs in
    (all.0 ∙ one.0, all.1 ∙ one.1)

-- ---- what is half read

-- the same is half read in both
pub record ReadAlike (t u : Terminal) : Type 0 where
  pub run : t.run ≡ u.run
  pub half_read : t.half_read ≡ u.half_read

pub idle_as : (t u : Terminal) → ReadAlike t u → IsIdle t → IsIdle u
idle_as t u alike idle = record {
  no_run = sym alike.run ∙ idle.no_run;
  no_token = sym alike.half_read ∙ idle.no_token;
}

both_idle : (t u : Terminal) → IsIdle t → IsIdle u → ReadAlike t u
both_idle t u a b = record { run = a.no_run ∙ sym b.no_run; half_read = a.no_token ∙ sym b.no_token }

idle_if : (g : Bool) (a b : Terminal) → IsIdle a → IsIdle b → IsIdle (if g then a else b)
idle_if true a b x y = x
idle_if false a b x y = y

unknown_idle : (t : Terminal) → IsIdle (all_unknown t)
unknown_idle t = record { no_run = refl; no_token = refl }

clear_idle : (t : Terminal) (negative : Option Bool) → IsIdle t → IsIdle (after_clear t negative)
clear_idle t (Some false) idle = record { no_run = idle.no_run; no_token = idle.no_token }
clear_idle t (Some true) idle = unknown_idle t
clear_idle t None idle = unknown_idle t

erase_idle : (t : Terminal) (position : Option (ℕ × ℕ)) (negative : Option Bool) → IsIdle t → IsIdle (after_erase t position negative)
erase_idle t (Some p) (Some false) idle = record { no_run = idle.no_run; no_token = idle.no_token }
erase_idle t (Some p) (Some true) idle = unknown_idle t
erase_idle t (Some p) None idle = unknown_idle t
erase_idle t None negative idle = unknown_idle t

command_idle : (t : Terminal) (c : Command) → IsIdle t → IsIdle (after_command t c)
command_idle t (Move line column) idle =
    idle_if (nat_le 1 line && nat_le line t.height && nat_le 1 column && nat_le column t.width) _ _
    (record { no_run = idle.no_run; no_token = idle.no_token }) (unknown_idle t)
command_idle t Clear idle = clear_idle t t.negative idle
command_idle t Erase idle = erase_idle t t.position t.negative idle
command_idle t (Render negative) idle = record { no_run = idle.no_run; no_token = idle.no_token }
command_idle t Clip idle = idle
command_idle t Other idle = unknown_idle t

-- a whole sequence, where there is no run
sequence_idle : (t : Terminal) (c : Command) → t.run ≡ [] → IsIdle (after_command (record t { half_read = [] }) c)
sequence_idle t c no_run = command_idle (record t { half_read = [] }) c (record { no_run = no_run; no_token = refl })

-- an ended run is none
no_run_if : (g : Bool) (a b : Terminal) → a.run ≡ [] → b.run ≡ [] → (if g then a else b).run ≡ []
no_run_if true a b x y = x
no_run_if false a b x y = y

put_ends : (t : Terminal) (position : Option (ℕ × ℕ)) (negative : Option Bool) (run : List ℕ) → t.run ≡ run → (run_put t position negative run).run ≡ []
put_ends t position negative [] is = is
put_ends t (Some p) (Some negative) (b ∷ bs) is =
    let new = run_columns negative (b ∷ bs) in
    no_run_if (nat_le 1 (length new) && nat_le (p.1 + length new) t.width) _ _ refl refl
put_ends t (Some p) None (b ∷ bs) is = refl
put_ends t None (Some negative) (b ∷ bs) is = refl
put_ends t None None (b ∷ bs) is = refl

character_alike : (g : Bool) (t u : Terminal) (bs : List ℕ) → t.run ≡ u.run
    → ReadAlike (if g then record t { run = t.run ++ bs; half_read = [] } else all_unknown t)
    (if g then record u { run = u.run ++ bs; half_read = [] } else all_unknown u)
character_alike true t u bs same = record { run = ap (λ run. run ++ bs) same; half_read = refl }
character_alike false t u bs same = record { run = refl; half_read = refl }

token_if : (g : Bool) (t u : Terminal) (c : Command) (bs : List ℕ) → (g ≡ true → t.run ≡ []) → t.run ≡ u.run
    → ReadAlike (if g then after_command (record t { half_read = [] }) c else character_read t bs)
    (if g then after_command (record u { half_read = [] }) c else character_read u bs)
token_if true t u c bs no_run same = both_idle _ _ (sequence_idle t c (no_run refl)) (sequence_idle u c (sym same ∙ no_run refl))
token_if false t u c bs no_run same = character_alike (are_printable bs) t u bs same

token_alike : (t u : Terminal) (bs : List ℕ) → (begins_sequence bs ≡ true → t.run ≡ []) → ReadAlike t u → ReadAlike (token_read t bs) (token_read u bs)
token_alike t u [] no_run alike = alike
token_alike t u (b ∷ rest) no_run alike = token_if (b == 0x1B) t u (escape_command rest) (b ∷ rest) no_run alike.run

not_true : {A : Type 0} (g : Bool) → g ≡ false → g ≡ true → A
not_true true off on = absurd (cc off)
not_true false off on = absurd (cc on)

first_as_alike : (t u : Terminal) (b : ℕ) (f : Fate) → b == 0x1B ≡ false → ReadAlike t u → ReadAlike (after_first_byte_as t b f) (after_first_byte_as u b f)
first_as_alike t u b Waits other alike = record { run = alike.run; half_read = refl }
first_as_alike t u b Ends other alike = token_alike t u (b ∷ []) (not_true (b == 0x1B) other) alike
first_as_alike t u b Breaks other alike = record { run = refl; half_read = refl }

first_if : (g : Bool) (t u : Terminal) (b : ℕ) → b == 0x1B ≡ g → ReadAlike t u
    → ReadAlike (if g then record (run_ended t) { half_read = b ∷ [] } else after_first_byte_as t b (fate (b ∷ [])))
    (if g then record (run_ended u) { half_read = b ∷ [] } else after_first_byte_as u b (fate (b ∷ [])))
first_if true t u b is alike = record {
  run = put_ends t t.position t.negative t.run refl ∙ sym (put_ends u u.position u.negative u.run refl);
  half_read = refl;
}
first_if false t u b is alike = first_as_alike t u b (fate (b ∷ [])) is alike

first_alike : (t u : Terminal) (b : ℕ) → ReadAlike t u → ReadAlike (after_first_byte t b) (after_first_byte u b)
first_alike t u b alike = first_if (b == 0x1B) t u b refl alike

begins_more : (xs : List ℕ) (h : ℕ) (rest : List ℕ) (b : ℕ) → xs ≡ h ∷ rest → begins_sequence (xs ++ b ∷ []) ≡ begins_sequence xs
begins_more xs h rest b is = rw is refl

next_alike : (t u : Terminal) (b : ℕ) (f : Fate) → NoRunInSequence t → (begins_sequence (t.half_read ++ b ∷ []) ≡ begins_sequence t.half_read) → ReadAlike t u
    → ReadAlike (after_next_byte t b f) (after_next_byte u b f)
next_alike t u b Waits no_run begins alike = record { run = alike.run; half_read = ap (λ half_read. half_read ++ b ∷ []) alike.half_read }
next_alike t u b Ends no_run begins alike =
    subst (λ xs. ReadAlike (token_read t (t.half_read ++ b ∷ [])) (token_read u (xs ++ b ∷ []))) alike.half_read
    (token_alike t u (t.half_read ++ b ∷ []) (λ is. no_run (sym begins ∙ is)) alike)
next_alike t u b Breaks no_run begins alike = first_alike (all_unknown t) (all_unknown u) b (record { run = refl; half_read = refl })

after_alike : (t u : Terminal) (b : ℕ) (half_read : List ℕ) → t.half_read ≡ half_read → NoRunInSequence t → ReadAlike t u
    → ReadAlike (read_after t b half_read) (read_after u b half_read)
after_alike t u b [] is no_run alike = first_alike t u b alike
after_alike t u b (h ∷ half_read) is no_run alike =
    next_alike t u b (fate (h ∷ half_read ++ b ∷ [])) no_run (begins_more t.half_read h half_read b is) alike

byte_alike : (t u : Terminal) (b : ℕ) → NoRunInSequence t → ReadAlike t u → ReadAlike (byte_read t b) (byte_read u b)
byte_alike t u b no_run alike =
    subst (λ xs. ReadAlike (byte_read t b) (read_after u b xs)) alike.half_read (after_alike t u b t.half_read refl no_run alike)

-- ---- where a sequence is half read there is no run

token_waits : (g : Bool) (t : Terminal) (c : Command) (bs : List ℕ) → (g ≡ true → t.run ≡ [])
    → (if g then after_command (record t { half_read = [] }) c else character_read t bs).half_read ≡ []
token_waits true t c bs no_run = (sequence_idle t c (no_run refl)).no_token
token_waits false t c bs no_run = either (are_printable bs) where
  either : (p : Bool) → (if p then record t { run = t.run ++ bs; half_read = [] } else all_unknown t).half_read ≡ []
  either true = refl
  either false = refl

no_sequence : (t : Terminal) → t.half_read ≡ [] → NoRunInSequence t
no_sequence t is begins = absurd (cc (is, begins))

first_as_no_run : (t : Terminal) (b : ℕ) (f : Fate) → b == 0x1B ≡ false → NoRunInSequence (after_first_byte_as t b f)
first_as_no_run t b Waits other = not_true (b == 0x1B) other
first_as_no_run t b Ends other = no_sequence (token_read t (b ∷ [])) (token_waits (b == 0x1B) t (escape_command []) (b ∷ []) (not_true (b == 0x1B) other))
first_as_no_run t b Breaks other = no_sequence (all_unknown t) refl

first_no_run_if : (g : Bool) (t : Terminal) (b : ℕ) → b == 0x1B ≡ g
    → NoRunInSequence (if g then record (run_ended t) { half_read = b ∷ [] } else after_first_byte_as t b (fate (b ∷ [])))
first_no_run_if true t b is = λ begins. put_ends t t.position t.negative t.run refl
first_no_run_if false t b is = first_as_no_run t b (fate (b ∷ [])) is

first_no_run : (t : Terminal) (b : ℕ) → NoRunInSequence (after_first_byte t b)
first_no_run t b = first_no_run_if (b == 0x1B) t b refl

token_no_run : (t : Terminal) (bs : List ℕ) (b : ℕ) (rest : List ℕ) → bs ≡ b ∷ rest
    → (begins_sequence bs ≡ true → t.run ≡ []) → NoRunInSequence (token_read t bs)
token_no_run t bs b rest is no_run =
    rw is (no_sequence (token_read t (b ∷ rest)) (token_waits (b == 0x1B) t (escape_command rest) (b ∷ rest) (λ on. no_run (ap begins_sequence is ∙ on))))

next_no_run : (t : Terminal) (b : ℕ) (f : Fate) (h : ℕ) (rest : List ℕ) → t.half_read ≡ h ∷ rest → NoRunInSequence t → NoRunInSequence (after_next_byte t b f)
next_no_run t b Waits h rest is no_run = λ begins. no_run (sym (begins_more t.half_read h rest b is) ∙ begins)
next_no_run t b Ends h rest is no_run =
    token_no_run t (t.half_read ++ b ∷ []) h (rest ++ b ∷ []) (ap (λ xs. xs ++ b ∷ []) is)
    (λ on. no_run (sym (begins_more t.half_read h rest b is) ∙ on))
next_no_run t b Breaks h rest is no_run = first_no_run (all_unknown t) b

after_no_run : (t : Terminal) (b : ℕ) (half_read : List ℕ) → t.half_read ≡ half_read → NoRunInSequence t → NoRunInSequence (read_after t b half_read)
after_no_run t b [] is no_run = first_no_run t b
after_no_run t b (h ∷ half_read) is no_run = next_no_run t b (fate (h ∷ half_read ++ b ∷ [])) h half_read is no_run

pub reads_no_run : (t : Terminal) (bs : List ℕ) → NoRunInSequence t → NoRunInSequence (reads t bs)
reads_no_run t [] no_run = no_run
reads_no_run t (b ∷ bs) no_run = reads_no_run (byte_read t b) bs (after_no_run t b t.half_read refl no_run)

pub reads_alike : (t u : Terminal) (bs : List ℕ) → NoRunInSequence t → ReadAlike t u → ReadAlike (reads t bs) (reads u bs)
reads_alike t u [] no_run alike = alike
reads_alike t u (b ∷ bs) no_run alike =
    reads_alike (byte_read t b) (byte_read u b) bs (after_no_run t b t.half_read refl no_run) (byte_alike t u b no_run alike)
