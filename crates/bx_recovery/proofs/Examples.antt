-- Worked examples, each from a clause alone: what a file holds beside a replay, and where the cursor is sent.
use Rattle.std.proofs.Common.{◌≡◌, ◌≢◌, ℕ, Bool, true, false, List, [], ◌∷◌, Option, Some, None, Contains, IsTrue, ◌↔◌, refl, sym, subst, ◌∙◌}
use Rattle.std.specs.Prelude.{codes}
use Rattle.std.specs.Fmt.{digits}
use Rattle.unicode_segmentation.proofs.Computing.{unicode_segmentation}
use Rattle.unicode_width.proofs.Computing.{unicode_width}
use Rattle.bx_keys.specs.declared.key.Key.{Key}
use Rattle.bx_session.proofs.Computed.{start}
use Rattle.bx_session.specs.Inputs.{presses_from}
use Rattle.bx_editor.proofs.Computed.{tables}
use Rattle.bx_session.specs.Session.{Session}
use Rattle.bx_recovery.specs.declared.replaying.FileText.{FileText}
use Rattle.bx_recovery.specs.declared.replaying.FileText.TheVariants.{Same, Known, Foreign}
use Rattle.bx_recovery.specs.Beginnings.{bytes_of, offset_of}
use Rattle.bx_recovery.specs.Recovery.{HoldsBeside, known_texts, replayed_text}
use Rattle.bx_recovery.proofs.Texts.{first_is_there, later_is_there}

-- the text ab in a window of one row and five columns
abbrev opened : Session
opened = start (codes "ab") 1 5

-- the presses of x, Save, y
abbrev journal : List (Option Key)
journal = presses_from [] (0x78 ∷ 0x13 ∷ 0x79 ∷ [])

pub the_replay_types_on : replayed_text tables opened journal ≡ codes "xyab"
unfolding unicode_segmentation unicode_width digits
the_replay_types_on = refl

-- the opened text, and the one at the Save
pub the_texts_that_it_knows : known_texts tables opened journal ≡ codes "ab" ∷ codes "xab" ∷ []
unfolding unicode_segmentation unicode_width digits
the_texts_that_it_knows = refl

-- x, and the text is saved under the name n: SaveAs is CSI 103~, and a line end completes the answer; then y
abbrev named : List (Option Key)
named = presses_from [] (0x78 ∷ 0x1B ∷ 0x5B ∷ 0x31 ∷ 0x30 ∷ 0x33 ∷ 0x7E ∷ 0x6E ∷ 0x0A ∷ 0x79 ∷ [])

-- the opened text, and the one that the answer stored
pub an_answer_stores_too : known_texts tables opened named ≡ codes "ab" ∷ codes "xab" ∷ []
unfolding unicode_segmentation unicode_width digits
an_answer_stores_too = refl

-- ---- what is told of a file

-- it is told to be the same only if it has the replayed text
pub the_same_is_the_replayed_text : (file : List ℕ) → HoldsBeside tables opened journal file Same → file ≡ codes "xyab"
the_same_is_the_replayed_text file holds = holds ∙ the_replay_types_on

pub not_the_same : HoldsBeside tables opened journal (codes "xab") Same → ⊥
not_the_same holds = let e : codes "xab" ≡ codes "xyab" = the_same_is_the_replayed_text (codes "xab") holds in cc e

-- a text that a Save stored is not told to be foreign
pub a_saved_text_is_not_foreign : HoldsBeside tables opened journal (codes "xab") Foreign → ⊥
a_saved_text_is_not_foreign holds =
    holds.1 (subst (λ texts. Contains texts (codes "xab")) (sym the_texts_that_it_knows)
    (later_is_there (codes "ab") (codes "xab") (codes "xab" ∷ []) (first_is_there (codes "xab") (codes "xab") [] refl)))

-- nor is the opened text
pub the_opened_text_is_not_foreign : HoldsBeside tables opened journal (codes "ab") Foreign → ⊥
the_opened_text_is_not_foreign holds =
    holds.1 (subst (λ texts. Contains texts (codes "ab")) (sym the_texts_that_it_knows)
    (first_is_there (codes "ab") (codes "ab") (codes "xab" ∷ []) refl))

-- ---- where the cursor is sent

pub to_the_second_line : offset_of (codes "ab\ncd") (Some 2) ≡ Some 3
to_the_second_line = refl

pub nowhere_without_a_line : offset_of (codes "ab\ncd") None ≡ None
nowhere_without_a_line = refl

pub no_file_is_an_empty_text : bytes_of None ≡ []
no_file_is_an_empty_text = refl
