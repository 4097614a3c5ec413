-- Worked examples: the bytes queued after input.
use Rattle.std.proofs.Common.{◌≡◌, ℕ, List, [], ◌∷◌, ◌++◌, None, Some, refl}
use Rattle.std.specs.Prelude.{codes}
use Rattle.std.specs.Fmt.{digits}
use Rattle.unicode_segmentation.proofs.Computing.{unicode_segmentation}
use Rattle.unicode_width.proofs.Computing.{unicode_width}
use Rattle.bx_keys.specs.declared.key.Key.TheVariants.{Insert}
use Rattle.bx_editor.proofs.Computed.{tables}
use Rattle.bx_session.specs.declared.status.Status.TheVariants.{Running, Ended}
use Rattle.bx_session.specs.Session.{Session, after_press, owing_after_press, after_told, owing_after_told}
use Rattle.bx_session.specs.Feeding.{status_of}
use Rattle.bx_session.proofs.Computed.{start, with_all_sent, after, outputs, csi}

abbrev text_and_place : Session → List ℕ × ℕ
text_and_place s = (s.editor.content.text, s.editor.place)

-- ---- painting

pub an_empty_file_is_painted_whole : (start [] 2 10).pending ≡ codes "\u{1b}[0m\u{1b}[2J\u{1b}[2;1H-\u{1b}[2;3H1:1\u{1b}[1;1H"
unfolding unicode_segmentation unicode_width digits
an_empty_file_is_painted_whole = refl

pub the_end_is_painted_whole : (after (start (codes "ab") 1 5) (0x11 ∷ [])).pending
    ≡ codes "\u{1b}[0m\u{1b}[2J\u{1b}[1;1Hab\u{1b}[1;1H\u{1b}[0m\u{1b}[2J\u{1b}[1;1H"
unfolding unicode_segmentation unicode_width digits
the_end_is_painted_whole = refl

pub only_what_differs_is_painted : outputs (start (codes "ab") 1 5) ((0x78 ∷ []) ∷ csi (codes "F") ∷ (0x7f ∷ []) ∷ csi (codes "C") ∷ [])
    ≡ codes "\u{1b}[1;1Hxab\u{1b}[1;2H" ∷ codes "\u{1b}[1;4H" ∷ codes "\u{1b}[1;3H\u{1b}[0K\u{1b}[1;3H" ∷ [] ∷ []
unfolding unicode_segmentation unicode_width digits
only_what_differs_is_painted = refl

-- U+4E16
pub a_wide_glyph_is_painted_apart : outputs (start (0xe4 ∷ 0xb8 ∷ 0x96 ∷ []) 1 4) ((0x78 ∷ []) ∷ [])
    ≡ (codes "\u{1b}[1;1Hx\u{1b}[1;2H" ++ (0xe4 ∷ 0xb8 ∷ 0x96 ∷ codes "\u{1b}[1;2H")) ∷ []
unfolding unicode_segmentation unicode_width digits
a_wide_glyph_is_painted_apart = refl

pub a_long_line_is_painted_in_rows : (start (codes "abcdef") 3 4).pending
    ≡ codes "\u{1b}[0m\u{1b}[2J\u{1b}[1;1Habcd\u{1b}[2;1Hef\u{1b}[3;1H-\u{1b}[3;3H1:\u{1b}[1;1H"
unfolding unicode_segmentation unicode_width digits
a_long_line_is_painted_in_rows = refl

-- ---- a painting that was refused

abbrev owing : Session
owing = owing_after_press tables None (with_all_sent (start (codes "ab") 1 5)) (Some (Insert 0x78))

pub nothing_is_queued_by_a_refusal : owing.pending ≡ []
unfolding unicode_segmentation unicode_width digits
nothing_is_queued_by_a_refusal = refl

pub the_key_was_applied : text_and_place owing ≡ (codes "xab", 1)
unfolding unicode_segmentation unicode_width digits
the_key_was_applied = refl

pub the_next_key_paints_both : (after_press tables None owing (Some (Insert 0x79))).pending ≡ codes "\u{1b}[1;1Hxyab\u{1b}[1;3H"
unfolding unicode_segmentation unicode_width digits
the_next_key_paints_both = refl

pub a_press_without_a_key_paints_what_is_owed : (after_press tables None owing None).pending ≡ codes "\u{1b}[1;1Hxab\u{1b}[1;2H"
unfolding unicode_segmentation unicode_width digits
a_press_without_a_key_paints_what_is_owed = refl

-- ---- sizes

pub a_size_is_painted_whole : outputs (start (codes "ab") 1 5) (csi (codes "8;0;5t") ∷ csi (codes "8;2;10t") ∷ [])
    ≡ [] ∷ codes "\u{1b}[0m\u{1b}[2J\u{1b}[1;1Hab\u{1b}[2;1H-\u{1b}[2;3H1:1\u{1b}[1;1H" ∷ []
unfolding unicode_segmentation unicode_width digits
a_size_is_painted_whole = refl

pub a_size_that_is_owed_is_painted_whole : (after_press tables None (owing_after_told (with_all_sent (start (codes "ab") 1 5)) 2 10) None).pending
    ≡ codes "\u{1b}[0m\u{1b}[2J\u{1b}[1;1Hab\u{1b}[2;1H-\u{1b}[2;3H1:1\u{1b}[1;1H"
unfolding unicode_segmentation unicode_width digits
a_size_that_is_owed_is_painted_whole = refl

abbrev over : Session
over = with_all_sent (after (start (codes "ab") 1 5) (0x11 ∷ []))

pub a_size_after_the_end_is_painted_blank : (after_told tables over 2 10).pending ≡ codes "\u{1b}[0m\u{1b}[2J\u{1b}[1;1H"
unfolding unicode_segmentation unicode_width digits
a_size_after_the_end_is_painted_blank = refl

pub a_key_after_the_end_queues_nothing : (after_press tables None over (Some (Insert 0x78))).pending ≡ []
unfolding unicode_segmentation unicode_width digits
a_key_after_the_end_queues_nothing = refl

pub it_stays_ended : status_of (after_press tables None over (Some (Insert 0x78))) ≡ Ended
unfolding unicode_segmentation unicode_width digits
it_stays_ended = refl

-- ---- keys of several bytes

pub keys_come_in_pieces : text_and_place (after (start (codes "ab") 2 10) (csi (codes "F") ++ (csi (codes "D") ++ (csi (codes "99z") ++ (0xd7 ∷ 0x78 ∷ [])))))
    ≡ (codes "axb", 2)
unfolding unicode_segmentation unicode_width digits
keys_come_in_pieces = refl

pub a_size_between_two_quits_does_not_count : status_of (after (start (codes "ab") 1 5) (0x78 ∷ 0x11 ∷ (csi (codes "8;2;30t") ++ (0x11 ∷ [])))) ≡ Ended
unfolding unicode_segmentation unicode_width digits
a_size_between_two_quits_does_not_count = refl

pub a_direction_between_two_quits_counts : status_of (after (start (codes "ab") 1 5) (0x78 ∷ 0x11 ∷ (csi (codes "9~") ++ (0x11 ∷ [])))) ≡ Running
unfolding unicode_segmentation unicode_width digits
a_direction_between_two_quits_counts = refl
