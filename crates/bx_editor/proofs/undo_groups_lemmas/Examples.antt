-- Worked examples: which edits are of one group.
use Rattle.std.proofs.Common.{◌≡◌, ℕ, ◌+◌, true, false, List, [], ◌∷◌, map, replicate, refl}
use Rattle.std.specs.List.{fold}
use Rattle.bx_ucd.specs.declared.class.Class.TheVariants.{B, S, WS, L, R, EN, ON, NSM, LRI}
use Rattle.bx_editor.specs.declared.undo_groups.typing.Kind.{Kind}
use Rattle.bx_editor.specs.declared.undo_groups.typing.Kind.TheVariants.{Separator, Blank, Letter}
use Rattle.bx_editor.specs.declared.undo_groups.typing.Removal.{Removal}
use Rattle.bx_editor.specs.declared.undo_groups.typing.Removal.TheVariants.{Erase, Delete}
use Rattle.bx_editor.specs.declared.undo_groups.typing.Typing.{Typing}
use Rattle.bx_editor.specs.declared.undo_groups.typing.Typing.TheVariants.{Off, Word, Blanks, Erasing}
use Rattle.bx_editor.specs.undo_groups.Groups.{kind_of, goes_on, after_insertion, goes_on_removing, after_removal, edited, run_start, run_end}
use Rattle.bx_editor.specs.undo_groups.Laws.{undone, redone}

-- blanks and separators have kinds of their own; whatever else there is, is of a word
kinds_of_classes : map kind_of (B ∷ WS ∷ S ∷ L ∷ R ∷ EN ∷ ON ∷ NSM ∷ LRI ∷ []) ≡ Separator ∷ Blank ∷ Blank ∷ replicate 6 Letter
kinds_of_classes = refl

-- ---- typing: what was typed last, the past's length, and where groups begin

record Typed : Type 0 where
  typing : Typing
  past : ℕ
  begins : List ℕ

abbrev nothing : Typed
nothing = record { typing = Off; past = 0; begins = [] }

abbrev put : Typed → Kind → Typed
put t kind = record { typing = after_insertion kind; past = t.past + 1; begins = edited t.begins t.past (goes_on t.typing kind) }

abbrev put_all : Typed → List Kind → Typed
put_all t kinds = fold put t kinds

abbrev take_out : Typed → Removal → Typed
take_out t removal =
    record { typing = after_removal removal; past = t.past + 1; begins = edited t.begins t.past (goes_on_removing t.typing removal) }

-- `ab cd`
abbrev two_words : List Kind
two_words = Letter ∷ Letter ∷ Blank ∷ Letter ∷ Letter ∷ []

-- a word with the blanks after it is a group
word_and_blanks : put_all nothing two_words ≡ record { typing = Word; past = 5; begins = 0 ∷ 3 ∷ [] }
word_and_blanks = refl

-- blanks before a word are a group
blanks_first : put_all nothing (Blank ∷ Blank ∷ Letter ∷ Blank ∷ Blank ∷ []) ≡ record { typing = Blanks; past = 5; begins = 0 ∷ 2 ∷ [] }
blanks_first = refl

letter_behind_blanks : (put_all nothing (Blank ∷ Blank ∷ Letter ∷ Blank ∷ Blank ∷ Letter ∷ [])).begins ≡ 0 ∷ 2 ∷ 5 ∷ []
letter_behind_blanks = refl

-- `a`, two line feeds, `b `, a line feed: a separator is a group of its own
separators : put_all nothing (Letter ∷ Separator ∷ Separator ∷ Letter ∷ Blank ∷ Separator ∷ [])
    ≡ record { typing = Off; past = 6; begins = 0 ∷ 1 ∷ 2 ∷ 3 ∷ 5 ∷ [] }
separators = refl

-- erasures are a group; a letter between them begins one, and so does the erasure after it
erasures : fold take_out (put (fold take_out nothing (Erase ∷ Erase ∷ [])) Letter) (Erase ∷ Erase ∷ [])
    ≡ record { typing = Erasing; past = 5; begins = 0 ∷ 2 ∷ 3 ∷ [] }
erasures = refl

-- erasures and deletions are none together
either_way : (fold take_out nothing (Erase ∷ Delete ∷ Erase ∷ Erase ∷ [])).begins ≡ 0 ∷ 1 ∷ 2 ∷ []
either_way = refl

-- ---- back and forth over `ab cd ef`, whose groups begin at 0, 3 and 6

abbrev three_words : List ℕ
three_words = 0 ∷ 3 ∷ 6 ∷ []

backward : map (run_start three_words) (8 ∷ 7 ∷ 6 ∷ 4 ∷ 3 ∷ 1 ∷ 0 ∷ []) ≡ 6 ∷ 6 ∷ 3 ∷ 3 ∷ 0 ∷ 0 ∷ 0 ∷ []
backward = refl

forward : map (λ n. run_end three_words n 8) (0 ∷ 2 ∷ 3 ∷ 5 ∷ 6 ∷ 8 ∷ []) ≡ 3 ∷ 3 ∷ 6 ∷ 6 ∷ 8 ∷ 8 ∷ []
forward = refl

edit_by_edit : map (undone three_words) (8 ∷ 6 ∷ 3 ∷ 0 ∷ []) ≡ 6 ∷ 3 ∷ 0 ∷ 0 ∷ []
edit_by_edit = refl

edit_by_edit_forward : map (λ left. redone three_words 3 left) (0 ∷ 1 ∷ 3 ∷ 5 ∷ []) ≡ 3 ∷ 4 ∷ 6 ∷ 6 ∷ []
edit_by_edit_forward = refl

-- a new word at the length 3: the numbers there and after are gone
typed_over : fold (λ rs n. edited rs n true) (edited three_words 3 false) (4 ∷ 5 ∷ 6 ∷ []) ≡ 0 ∷ 3 ∷ []
typed_over = refl

-- in the middle of a group a new one begins
inside_a_run : edited (0 ∷ []) 2 false ≡ 0 ∷ 2 ∷ []
inside_a_run = refl

undone_in_two : map (run_start (0 ∷ 2 ∷ [])) (3 ∷ 2 ∷ []) ≡ 2 ∷ 0 ∷ []
undone_in_two = refl
