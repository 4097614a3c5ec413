-- What a store and its saver told each other: what the saver has of the frames, what it answered, and what is stored for that reason.
use Rattle.std.specs.Prelude.{ℕ, Bool, true, List, [], Option, Some, None, option_map, is_some}
use Rattle.bx_store.specs.Stores.{with_bytes}
use Rattle.bx_store.specs.Frames.{Reading, nothing_read, obeyed}
use Rattle.bx_store.specs.declared.saver.Answer.{Answer}
use Rattle.bx_store.specs.declared.saver.Answer.TheVariants.{Done, Failed}

-- What a reader of all frames that were written has, and one of those that were flushed; the answer to the frames that were flushed
-- last; and the text of the save that was answered by DONE last, empty before the first.
pub record Talk : Type 0 where
  pub written : Reading
  pub flushed : Reading
  pub answer : Option Answer
  pub stored : List ℕ

-- a frame is written, and what was written is flushed
abbrev pub sent : ℕ → List ℕ → Talk → Talk
sent letter bytes t = record t { written = obeyed letter bytes t.written }

abbrev pub flushed : Talk → Talk
flushed t = record t { flushed = t.written; answer = None }

-- the text that was asked for is stored
abbrev pub after_done : Option (List ℕ) → List ℕ → List ℕ
after_done None stored = stored
after_done (Some text) stored = text

-- the answer comes: only DONE stores a text, and only one whose COMMIT was flushed
abbrev pub heard : Answer → Talk → Talk
heard Done t = record t { answer = Some Done; stored = after_done t.flushed.asked t.stored }
heard (Failed cause) t = record t { answer = Some (Failed cause) }

-- a call failed: nobody knows what the saver has
abbrev pub lost : Talk → Talk
lost t = record t { written = nothing_read; flushed = nothing_read; answer = None }

-- a frame is written and flushed, and this is its answer
abbrev pub asked : ℕ → List ℕ → Answer → Talk → Talk
asked letter bytes answer t = heard answer (flushed (sent letter bytes t))

-- pieces of a text are written, which have these bytes together
abbrev pub told : List ℕ → Talk → Talk
told bytes t = record t { written = record t.written { text = with_bytes bytes t.written.text } }

-- ---- what a store has by it

abbrev pub text_or_none : Option (List ℕ) → List ℕ
text_or_none None = []
text_or_none (Some text) = text

-- what is stored, if that is known
abbrev pub stored_by : Option Talk → Option (List ℕ)
stored_by talk = option_map (λ t. t.stored) talk

-- the text since the save began
abbrev pub draft_by : Option Talk → Option (List ℕ)
draft_by talk = option_map (λ t. text_or_none t.written.text) talk

-- a save is in progress, as far as that is known
abbrev pub is_begun_by : Option Talk → Bool
is_begun_by None = true
is_begun_by (Some t) = is_some t.written.text

abbrev pub answer_by : Option Talk → Option (Option Answer)
answer_by talk = option_map (λ t. t.answer) talk

-- the bytes of the BEGIN that the saver has, and those of one that was sent
abbrev pub start_by : Option Talk → Option (List ℕ)
start_by talk = option_map (λ t. t.flushed.start) talk

abbrev pub started : List ℕ → Option Talk → Option (List ℕ)
started start talk = option_map (λ _. start) talk
