-- Worked examples: what a reader makes of the bytes of a save, and what a disk has of a draft.
use Rattle.std.proofs.Common.{◌≡◌, false, [], ◌∷◌, ◌++◌, Some, None, refl}
use Rattle.std.specs.Prelude.{codes}
use Rattle.bx_store.specs.Disk.{DiskState, created, placed, synced, wrote}
use Rattle.bx_store.specs.Frames.{nothing_read, reading_of}
use Rattle.bx_store.specs.Talk.{Talk, asked, heard, sent}
use Rattle.bx_store.specs.declared.saver.Answer.TheVariants.{Done, Failed}

-- BEGIN, `ab` and `c`, and COMMIT
pub a_save_is_read : reading_of (codes "B" ++ (0 ∷ 0 ∷ codes "P" ++ (0 ∷ 2 ∷ codes "abP" ++ (0 ∷ 1 ∷ codes "cC" ++ (0 ∷ 0 ∷ []))))) ≡ record { start = []; text = None; asked = Some (codes "abc") }
a_save_is_read = refl

-- before the COMMIT nothing is asked for
pub a_text_alone_asks_for_nothing : (reading_of (codes "B" ++ (0 ∷ 0 ∷ codes "P" ++ (0 ∷ 2 ∷ codes "ab")))).asked ≡ None
a_text_alone_asks_for_nothing = refl

-- a piece that says three bytes and has two is not read
pub half_a_frame_is_not_read : (reading_of (codes "B" ++ (0 ∷ 0 ∷ codes "P" ++ (0 ∷ 3 ∷ codes "ab")))).text ≡ Some []
half_a_frame_is_not_read = refl

-- ---- a talk

abbrev start : Talk
start = record { written = nothing_read; flushed = nothing_read; answer = None; stored = codes "old" }

abbrev told : Talk
told = sent 0x50 (codes "new") (asked 0x42 [] Done start)

pub a_save_that_is_done_stores_its_text : (asked 0x43 [] Done told).stored ≡ codes "new"
a_save_that_is_done_stores_its_text = refl

pub a_save_that_failed_stores_nothing : (asked 0x43 [] (Failed 1) told).stored ≡ codes "old"
a_save_that_failed_stores_nothing = refl

-- an answer to a COMMIT that was not flushed stores nothing
pub an_answer_before_the_flush_stores_nothing : (heard Done (sent 0x43 [] told)).stored ≡ codes "old"
an_answer_before_the_flush_stores_nothing = refl

-- ---- a draft

abbrev disk : DiskState
disk = wrote (codes "ab") (created (codes "f.bx") (record { path = []; draft = None; is_synced = false; stored_at = codes "f"; stored = codes "old" }))

pub a_synced_draft_is_stored : (placed (codes "f.bx") (codes "f") (synced disk)).stored ≡ codes "ab"
a_synced_draft_is_stored = refl

pub an_unsynced_draft_stores_nothing : (placed (codes "f.bx") (codes "f") disk).stored ≡ []
an_unsynced_draft_stores_nothing = refl
