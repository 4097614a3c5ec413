-- The first word is what stands before the first blank.
use Rattle.std.proofs.Common.{sym, ap, ◌∙◌}
use Rattle.std.proofs.lemmas.Bool.{eqb-true}
use Rattle.std.proofs.lemmas.List.{nil_from_length}
use Rattle.bx_ucd.specs.CharactersFile.{words}
use Rattle.bx_ucd.proofs.WordLemmas.{not_zero, words_after, words_past_blanks}
use Rattle.bx_ucd.proofs.words.next_word.Goals as goal

pub returns-then-is_empty : goal.returns-then-is_empty
returns-then-is_empty c =
    sym (words_past_blanks c.args.text.now)
    ∙ ap words (sym c.without_leading_blanks-text.ensures ∙ nil_from_length c.without_leading_blanks-text.result.now (eqb-true _ 0 (sym c.if-is_empty.ensures)))

pub returns : goal.returns
returns c =
    words_after c.args.text.now c.without_leading_blanks-text.result.now c.word_len.result _ _ c.without_leading_blanks-text.ensures
    (not_zero _ c.if-is_empty.ensures) c.word_len.ensures.first c.split_at.ensures.front c.split_at.ensures.back
