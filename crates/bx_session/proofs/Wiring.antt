-- The calls of a reader, a recorder and a writer.
use Rattle.std.proofs.Common.{◌≡◌, ◌≤◌, ℕ, List, [], length, take, Option, Result, Ok, Err, ap, subst, arith}
use Rattle.std.specs.Prelude.{IfErr}
use Rattle.std.specs.Io.KnownBytes.{Appends, Consumes, IsAtEnd, Keeps}
use Rattle.std.proofs.KnownBytes.{Consumes-nil, Consumes-kept, Appends-nil, Appends-kept}
use Rattle.std.proofs.lemmas.List.{length-take-le}
use Rattle.bx_session.specs.declared.action.Action.{Action}
use Rattle.bx_session.specs.declared.action.Action.TheVariants.{Read, ReadFailed, Append, Write, WriteFailed, Flush, FlushFailed}
use Rattle.bx_session.specs.declared.wired.Wired.{Wired}
use Rattle.bx_session.specs.Journal.{HasKept, HasTried}
use Rattle.bx_session.specs.Log.{read_by, kept_by}
use Rattle.bx_session.specs.Wire.{AreSameParts, DidWired}
use Rattle.bx_session.proofs.Recorded.{kept_nothing}

pub if_err : {A E : Type 0} (P Q : E → Type 0) (r : Result A E) → ((fault : E) → P fault → Q fault) → IfErr r P → IfErr r Q
if_err P Q (Ok value) more h = h
if_err P Q (Err fault) more h = more fault h

nothing_at_end : (buffer : List ℕ) (count : ℕ) (End : Type 0) → count ≤ length buffer → (count ≡ 0 → End) → Read (take count buffer) ≡ Read [] → End
nothing_at_end buffer count End bound end is =
    end (let none = ap (λ (a : Action). length (read_by a)) is in omega (arith, none, length-take-le count buffer bound))

module _ {R J W S : Type 0} (remaining : R → Option (List ℕ)) (contents : J → Option (List ℕ)) (failures : J → ℕ) (out : W → Option (List ℕ))
    (old new : Wired R J W S) (same : AreSameParts old new) (store : new.store.now ≡ old.store.now) where
  pub did_read : (buffer : List ℕ) (count : ℕ) → new.recorder.now ≡ old.recorder.now → new.writer.now ≡ old.writer.now → count ≤ length buffer
      → Consumes (remaining old.reader.now) (remaining new.reader.now) (take count buffer) → (count ≡ 0 → IsAtEnd (remaining new.reader.now))
      → DidWired remaining contents failures out old (Read (take count buffer)) new
  did_read buffer count recorder writer bound reads end = record {
    moves = record {
      same = same;
      reads = reads;
      keeps = rw recorder (kept_nothing contents failures old.recorder.now);
      writes = rw writer (Appends-nil (out old.writer.now));
    };
    others = (recorder, writer);
    store = store;
    end = nothing_at_end buffer count (IsAtEnd (remaining new.reader.now)) bound end;
    tries = λ bytes h. absurd (cc h);
  }

  pub did_read_failed : new.recorder.now ≡ old.recorder.now → new.writer.now ≡ old.writer.now → Keeps (remaining old.reader.now) (remaining new.reader.now)
      → DidWired remaining contents failures out old ReadFailed new
  did_read_failed recorder writer keeps = record {
    moves = record {
      same = same;
      reads = Consumes-kept (remaining old.reader.now) (remaining old.reader.now) (remaining new.reader.now) [] (Consumes-nil (remaining old.reader.now)) keeps;
      keeps = rw recorder (kept_nothing contents failures old.recorder.now);
      writes = rw writer (Appends-nil (out old.writer.now));
    };
    others = (recorder, writer);
    store = store;
    end = λ h. absurd (cc h);
    tries = λ bytes h. absurd (cc h);
  }

  pub did_append : (bytes : List ℕ) → new.reader.now ≡ old.reader.now → new.writer.now ≡ old.writer.now
      → HasKept contents failures old.recorder.now new.recorder.now bytes → HasTried contents failures old.recorder.now new.recorder.now bytes
      → DidWired remaining contents failures out old (Append bytes) new
  did_append bytes reader writer keeps tries = record {
    moves = record {
      same = same;
      reads = rw reader (Consumes-nil (remaining old.reader.now));
      keeps = keeps;
      writes = rw writer (Appends-nil (out old.writer.now));
    };
    others = (reader, writer);
    store = store;
    end = λ h. absurd (cc h);
    tries = λ new_bytes is.
        subst (HasTried contents failures old.recorder.now new.recorder.now) (ap kept_by is) tries;
  }

  module _ (reader : new.reader.now ≡ old.reader.now) (recorder : new.recorder.now ≡ old.recorder.now) where
    pub did_write : (bytes : List ℕ) → Appends (out old.writer.now) (out new.writer.now) bytes
        → DidWired remaining contents failures out old (Write bytes) new
    did_write bytes writes = record {
      moves = record {
        same = same;
        reads = rw reader (Consumes-nil (remaining old.reader.now));
        keeps = rw recorder (kept_nothing contents failures old.recorder.now);
        writes = writes;
      };
      others = (reader, recorder);
      store = store;
      end = λ h. absurd (cc h);
      tries = λ bytes h. absurd (cc h);
    }

    pub did_write_part : (bytes : List ℕ) → Appends (out old.writer.now) (out new.writer.now) bytes
        → DidWired remaining contents failures out old (WriteFailed bytes) new
    did_write_part bytes writes = record {
      moves = record {
        same = same;
        reads = rw reader (Consumes-nil (remaining old.reader.now));
        keeps = rw recorder (kept_nothing contents failures old.recorder.now);
        writes = writes;
      };
      others = (reader, recorder);
      store = store;
      end = λ h. absurd (cc h);
      tries = λ bytes h. absurd (cc h);
    }

    pub did_flush : Keeps (out old.writer.now) (out new.writer.now) → DidWired remaining contents failures out old Flush new
    did_flush keeps = record {
      moves = record {
        same = same;
        reads = rw reader (Consumes-nil (remaining old.reader.now));
        keeps = rw recorder (kept_nothing contents failures old.recorder.now);
        writes = Appends-kept (out old.writer.now) (out old.writer.now) (out new.writer.now) [] (Appends-nil (out old.writer.now)) keeps;
      };
      others = (reader, recorder);
      store = store;
      end = λ h. absurd (cc h);
      tries = λ bytes h. absurd (cc h);
    }

    pub did_flush_failed : Keeps (out old.writer.now) (out new.writer.now) → DidWired remaining contents failures out old FlushFailed new
    did_flush_failed keeps = record {
      moves = record {
        same = same;
        reads = rw reader (Consumes-nil (remaining old.reader.now));
        keeps = rw recorder (kept_nothing contents failures old.recorder.now);
        writes = Appends-kept (out old.writer.now) (out old.writer.now) (out new.writer.now) [] (Appends-nil (out old.writer.now)) keeps;
      };
      others = (reader, recorder);
      store = store;
      end = λ h. absurd (cc h);
      tries = λ bytes h. absurd (cc h);
    }
