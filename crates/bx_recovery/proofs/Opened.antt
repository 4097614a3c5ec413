-- A session opened from its files, and what a recovery from it says.
use Rattle.std.proofs.Common.{◌≡◌, ℕ, List, [], Option, None, Some, Result, Ok, Err, sym, ap, subst, ◌∙◌}
use Rattle.std.specs.Prelude.{IfOk, vec_items, unwrap_or}
use Rattle.std.specs.Global.{Vec}
use Rattle.bx_ucd.specs.Data.{Data}
use Rattle.bx_command.specs.shared.Tables.{AreOfFiles}
use Rattle.bx_command.specs.declared.shared.unicode.UnicodeFiles.{UnicodeFiles}
use Rattle.bx_session.specs.Session.{Session, at_opening, clipboard_if, with_settings, StoreState}
use Rattle.bx_session.specs.Feeding.{SessionState}
use Rattle.bx_session.specs.Painting.{QueuesPicture}
use Rattle.bx_session.specs.Beginning.{Beginning, after_going_to, at_offset, changed_if, opened}
use Rattle.bx_recovery.specs.declared.replaying.Replayed.{Replayed}
use Rattle.bx_recovery.specs.Beginnings.{IsOpened, bytes_of}
use Rattle.bx_recovery.specs.Recovery.{RecoversFrom, Recovers}

pub bytes_or_none : (text : Option (Vec ℕ)) (none result : Vec ℕ) → vec_items none ≡ [] → result ≡ unwrap_or text none → vec_items result ≡ bytes_of text
bytes_or_none None none result empty is = ap (λ (v : Vec ℕ). vec_items v) is ∙ empty
bytes_or_none (Some bytes) none result empty is = ap (λ (v : Vec ℕ). vec_items v) is

-- a session that was opened and told its settings, and what came before its keys
pub opened_is : {D : Type 0} (ucd : D → Data) (tables : D) (first set new : SessionState D) (text : List ℕ) (b : Beginning) (offset : Option ℕ)
    → first ≡ record { tables = tables; session = at_opening (ucd tables) text b.height b.width b.base } → set.tables ≡ first.tables
    → set.session ≡ with_settings (ucd first.tables) first.session b.settings → QueuesPicture (ucd first.tables) [] None set.session
    → text ≡ b.text → offset ≡ b.offset
    → new ≡ record set { session = changed_if b.unsaved (after_going_to (ucd set.tables) (clipboard_if b.clipboard set.session) offset) }
    → IsOpened (ucd new.tables) b new.session
opened_is {D} ucd tables first set new text b offset is kept told queued same sent gone =
    let stays : first.tables ≡ tables = ap (λ (x : SessionState D). x.tables) is in
    let last : new.tables ≡ tables = ap (λ (x : SessionState D). x.tables) gone ∙ kept ∙ stays in
    let begins : set.session ≡ opened (ucd tables) b =
    told
    ∙ ap (λ (x : SessionState D). with_settings (ucd x.tables) x.session b.settings) is
    ∙ ap (λ (t : List ℕ). with_settings (ucd tables) (at_opening (ucd tables) t b.height b.width b.base) b.settings) same in
    let there : IsOpened (ucd tables) b new.session = record {
      session = ap (λ (x : SessionState D). x.session) gone
          ∙ ap (λ (o : Option ℕ). changed_if b.unsaved (after_going_to (ucd set.tables) (clipboard_if b.clipboard set.session) o)) sent
          ∙ ap (λ (t : D). changed_if b.unsaved (after_going_to (ucd t) (clipboard_if b.clipboard set.session) b.offset)) (kept ∙ stays)
          ∙ ap (λ (s : Session). changed_if b.unsaved (after_going_to (ucd tables) (clipboard_if b.clipboard s) b.offset)) begins;
      paints = subst (QueuesPicture (ucd tables) [] None) begins (subst (λ (t : D). QueuesPicture (ucd t) [] None set.session) stays queued);
    } in subst (λ (t : D). IsOpened (ucd t) b new.session) (sym last) there

-- ---- what is recovered

pub recovers_of : {E : Type 0} (b : Beginning) (files : UnicodeFiles (Vec ℕ)) (file : List ℕ) (d : Data) (s : Session) (r : Result Replayed E)
    (store store' : StoreState) → AreOfFiles d files → IsOpened d b s
    → IfOk r (λ x. RecoversFrom d s b.journal file x store store') → IfOk r (λ x. Recovers b files file x store store')
recovers_of b files file d s (Err fault) store store' are begins recovers = tt
recovers_of b files file d s (Ok x) store store' are begins recovers =
    let from : RecoversFrom d (at_offset d b) b.journal file x store store' =
    subst (λ (t : Session). RecoversFrom d t b.journal file x store store') begins.session recovers in record {
      tables = d;
      answers = are;
      stored = from.stored;
      holds = from.holds;
      keys = from.keys;
    }
