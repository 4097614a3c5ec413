-- What is heard of the pipe's bytes, frame by frame.
use Rattle.std.proofs.Common.{◌≡◌, ◌≤◌, ◌<◌, ◌+◌, ◌*◌, ℕ, zero, suc, Bool, true, false, List, [], ◌∷◌, ◌++◌, length, take, drop, Option, None, Some, refl, ap, sym, ◌∙◌, subst, arith, append_assoc, inl, inr}
use Rattle.std.specs.Prelude.{option_map, if◌then◌else◌}
use Rattle.std.specs.Io.KnownBytes.{Consumes, IsAtEnd, Keeps}
use Rattle.std.proofs.lemmas.List.{length-append, length-drop, length-take-le, take-append-le, take-append-drop, take_all, take-take, drop-append-le}
use Rattle.std.proofs.Math.Seq.{take-append-add}
use Rattle.std.proofs.lemmas.Bool.Decides.{leb_tells}
use Rattle.bx_input.specs.Frames.{Frame, frame_of, first_frame}
use Rattle.bx_input.specs.Machine.{Machine}
use Rattle.bx_input.specs.Heard.{Reading, written, at_end, behind_frame, heard_by, heard_within, heard, left}

-- ---- more frames than there are bytes change nothing

no_frame : (later : List ℕ → Machine → List ℕ) (bs : List ℕ) (t : Machine) → length bs ≤ 0 → heard_by later bs t (first_frame bs) ≡ at_end t
no_frame later [] t h = refl
no_frame later (b ∷ bs) t h = absurd (omega (arith, h))

same_by : (later other : List ℕ → Machine → List ℕ) (bs : List ℕ) (t : Machine) (found : Option Frame)
    → ((f : Frame) (s : Machine) → later (behind_frame f bs) s ≡ other (behind_frame f bs) s) → heard_by later bs t found ≡ heard_by other bs t found
same_by later other bs t None same = refl
same_by later other bs t (Some f) same = ap (λ more. (written f t).output ++ more) (same f (written f t).state)

pub enough : (n m : ℕ) (bs : List ℕ) (t : Machine) → length bs ≤ n → length bs ≤ m → heard_within n bs t ≡ heard_within m bs t
enough zero zero bs t h k = refl
enough zero (suc m) bs t h k = sym (no_frame (heard_within m) bs t h)
enough (suc n) zero bs t h k = no_frame (heard_within n) bs t k
enough (suc n) (suc m) bs t h k = same_by (heard_within n) (heard_within m) bs t (first_frame bs) (λ f s.
    enough n m (behind_frame f bs) s
    (let count = length-drop (3 + length f.bytes) bs in omega (arith, count, h))
    (let count = length-drop (3 + length f.bytes) bs in omega (arith, count, k)))

-- ---- a frame stays the first one where more bytes follow

-- a frame that is taken has its bytes there
pub record IsWhole (f : Frame) (held rest : List ℕ) : Type 0 where
  pub fits : 3 + length f.bytes ≤ length held
  pub stays : first_frame (held ++ rest) ≡ Some f

-- a frame of `count` bytes, by whether these are there
framed : (letter count : ℕ) (more : List ℕ) (is_there : Bool) → Option Frame
framed letter count more true = Some (record { letter = letter; bytes = take count more })
framed letter count more false = None

pub there : (letter count : ℕ) (more : List ℕ) → count ≤ length more → frame_of letter count more ≡ Some (record { letter = letter; bytes = take count more })
there letter count more h = elim (leb_tells count (length more)) as (λ _. frame_of letter count more ≡ Some (record { letter = letter; bytes = take count more })) [
  | inl is ↦ rw is.0 refl
  | inr is ↦ absurd (omega (arith, h, is.1))
]

not_there : (letter count : ℕ) (more : List ℕ) → length more < count → frame_of letter count more ≡ None
not_there letter count more h = elim (leb_tells count (length more)) as (λ _. frame_of letter count more ≡ None) [
  | inl is ↦ absurd (omega (arith, h, is.1))
  | inr is ↦ rw is.0 refl
]

pub whole : (held rest : List ℕ) (f : Frame) → first_frame held ≡ Some f → IsWhole f held rest
whole [] rest f is = absurd (cc is)
whole (l ∷ []) rest f is = absurd (cc is)
whole (l ∷ h ∷ []) rest f is = absurd (cc is)
whole (l ∷ h ∷ low ∷ more) rest f is =
    let count : ℕ = h * 256 + low in
    elim (leb_tells count (length more)) as (λ _. IsWhole f (l ∷ h ∷ low ∷ more) rest) [
      | inl fits ↦
          let made : Frame = record { letter = l; bytes = take count more } in
          let same : made ≡ f = cc (there l count more fits.1, is) in
          let few : length (take count more) ≡ count = length-take-le count more fits.1 in
          let long : count ≤ length (more ++ rest) = (let sum = length-append more rest in omega (arith, sum, fits.1)) in
          subst (λ f. IsWhole f (l ∷ h ∷ low ∷ more) rest) same (record {
            fits = omega (arith, few, fits.1);
            stays = there l count (more ++ rest) long ∙ ap (λ bytes. Some (record { letter = l; bytes = bytes })) (take-append-le count more rest fits.1);
          })
      | inr lacks ↦ absurd (cc (not_there l count more lacks.1, is))
    ]

-- the first frame is heard, and then all behind it
pub taken : (held rest : List ℕ) (t : Machine) (f : Frame) → first_frame held ≡ Some f
    → heard (held ++ rest) t ≡ (written f t).output ++ heard (behind_frame f held ++ rest) (written f t).state
taken held rest t f is =
    let w : IsWhole f held rest = whole held rest f is in
    let n : ℕ = length held + length rest in
    let sum : length (held ++ rest) ≡ n = length-append held rest in
    let behind : drop (3 + length f.bytes) (held ++ rest) ≡ behind_frame f held ++ rest = drop-append-le (3 + length f.bytes) held rest w.fits in
    let left_over : length (behind_frame f held ++ rest) ≤ n = (let a = length-append (behind_frame f held) rest in let b = length-drop (3 + length f.bytes) held in omega (arith, a, b)) in
    enough (length (held ++ rest)) (suc n) (held ++ rest) t (omega arith) (omega (arith, sum))
    ∙ ap (heard_by (heard_within n) (held ++ rest) t) w.stays
    ∙ ap (λ bs. (written f t).output ++ heard_within n bs (written f t).state) behind
    ∙ ap (λ more. (written f t).output ++ more)
    (enough n (length (behind_frame f held ++ rest)) (behind_frame f held ++ rest) (written f t).state left_over (omega arith))

-- a reading takes a frame: it hears the same as before
pub takes : (s new : Reading) (f : Frame) → s.ready ≡ [] → s.is_over ≡ false → first_frame s.held ≡ Some f
    → new.machine ≡ (written f s.machine).state → new.ready ≡ (written f s.machine).output → new.is_over ≡ false
    → new.held ≡ behind_frame f s.held → (rest : List ℕ) → left new rest ≡ left s rest
takes s new f ready is_before is state output is_open held rest =
    rw (ready, is_before, state, output, is_open, held) (sym (taken s.held rest s.machine f is))

-- more bytes of the pipe are held: the same is heard
pub holds : (s : Reading) (bytes rest : List ℕ) → left (record s { held = s.held ++ bytes }) rest ≡ left s (bytes ++ rest)
holds s bytes rest = rw (append_assoc s.held bytes rest) refl

pub holds_known : (s : Reading) (bytes : List ℕ) (old new : Option (List ℕ)) → Consumes old new bytes
    → Keeps (option_map (left s) old) (option_map (left (record s { held = s.held ++ bytes })) new)
holds_known s bytes None new h = tt
holds_known s bytes (Some xs) None h = absurd h
holds_known s bytes (Some xs) (Some ys) h = holds s bytes ys ∙ ap (left s) (sym h)

-- the bytes that a read took are held
pub hears : (s new : Reading) (bytes : List ℕ) (before after : Option (List ℕ)) → new.held ≡ s.held ++ bytes → new.machine ≡ s.machine
    → new.ready ≡ s.ready → new.is_over ≡ s.is_over → Consumes before after bytes → Keeps (option_map (left s) before) (option_map (left new) after)
hears s new bytes before after held machine ready over h =
    let known = holds_known s bytes before after h in
    subst (λ held. Keeps (option_map (left s) before) (option_map (left (record new { held = held })) after)) (sym held)
    (subst (λ t. Keeps (option_map (left s) before) (option_map (left (record { machine = t; held = s.held ++ bytes; ready = new.ready; is_over = new.is_over })) after)) (sym machine)
    (subst (λ ready. Keeps (option_map (left s) before) (option_map (left (record { machine = s.machine; held = s.held ++ bytes; ready = ready; is_over = new.is_over })) after)) (sym ready)
    (subst (λ over. Keeps (option_map (left s) before) (option_map (left (record { machine = s.machine; held = s.held ++ bytes; ready = s.ready; is_over = over })) after)) (sym over)
    known)))

-- a read that failed took nothing
pub kept_consumes : (before after : Option (List ℕ)) → Keeps before after → Consumes before after []
kept_consumes None after h = tt
kept_consumes (Some xs) None h = absurd h
kept_consumes (Some xs) (Some ys) h = sym h

-- bytes that were held stand before those that make room for a read
pub held_first : (held grown more : List ℕ) (start room : ℕ) → start ≡ length held → grown ≡ take (start + room) held ++ more → take start grown ≡ held
held_first held grown more start room is grown_is =
    let all : take (start + room) held ≡ held = take_all (start + room) held (omega (arith, is)) in
    ap (λ bs. take start bs) (grown_is ∙ ap (λ bs. bs ++ more) all)
    ∙ take-append-le start held more (omega (arith, is))
    ∙ take_all start held (omega (arith, is))

-- what is cut off behind the bytes that a read gave
pub cut_back : (held front given post rest : List ℕ) (start count total : ℕ) → front ≡ held → start ≡ length held → count ≤ length given → start + count ≤ total
    → take (start + count) (take total ((front ++ (given ++ post)) ++ rest)) ≡ held ++ take count given
cut_back held front given post rest start count total front_is is h k =
    take-take (start + count) total ((front ++ (given ++ post)) ++ rest) k
    ∙ ap (λ front. take (start + count) ((front ++ (given ++ post)) ++ rest)) front_is
    ∙ ap (λ n. take (n + count) ((held ++ (given ++ post)) ++ rest)) is
    ∙ ap (λ bs. take (length held + count) bs) (append_assoc held (given ++ post) rest)
    ∙ take-append-add held ((given ++ post) ++ rest) count
    ∙ ap (λ bs. held ++ take count bs) (append_assoc given post rest)
    ∙ ap (λ bs. held ++ bs) (take-append-le count given (post ++ rest) h)

-- the pipe has ended, and the reading too
pub finished : (s new : Reading) (known : Option (List ℕ)) → IsAtEnd known → left new [] ≡ left s [] → Keeps (option_map (left s) known) (option_map (left new) known)
finished s new None h is = tt
finished s new (Some xs) h is = subst (λ xs. left new xs ≡ left s xs) (sym h) is

-- the same is heard of whatever the pipe has left
pub same_known : (s new : Reading) (known : Option (List ℕ)) → ((rest : List ℕ) → left new rest ≡ left s rest) → Keeps (option_map (left s) known) (option_map (left new) known)
same_known s new None same = tt
same_known s new (Some xs) same = same xs

-- ---- what is given is heard first

-- bytes that were copied to the front of a buffer
pub copied_first : (count : ℕ) (copied behind ready : List ℕ) → copied ≡ take count ready → count ≤ length ready → take count (copied ++ behind) ≡ take count ready
copied_first count copied behind ready is h =
    let few : length (take count ready) ≡ count = length-take-le count ready h in
    ap (λ bs. take count (bs ++ behind)) is
    ∙ take-append-le count (take count ready) behind (omega (arith, few))
    ∙ take_all count (take count ready) (omega (arith, few))

-- the session takes the first bytes of what is ready
pub gives : (s new : Reading) (count : ℕ) (given : List ℕ) → given ≡ take count s.ready → new.ready ≡ drop count s.ready
    → new.machine ≡ s.machine → new.held ≡ s.held → new.is_over ≡ s.is_over → (rest : List ℕ) → left s rest ≡ given ++ left new rest
gives s new count given is ready machine held over rest =
    let later : List ℕ = if s.is_over then [] else heard (s.held ++ rest) s.machine in
    ap (λ bs. bs ++ later) (sym (take-append-drop count s.ready))
    ∙ append_assoc (take count s.ready) (drop count s.ready) later
    ∙ rw (is, ready, machine, held, over) refl
