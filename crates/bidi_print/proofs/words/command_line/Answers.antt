use Rattle.std.proofs.Common.{◌≡◌, ◌∙◌, ap, subst, List}
use Rattle.clap.specs.Words.{App, HasMatchesOf, Text, app_of, is_simple, matches_of}
use Rattle.clap.specs.declared.parser.matches.ArgMatches.{ArgMatches}
use Rattle.bx_command.specs.shared.Arguments.{rows_in}
use Rattle.bx_command.specs.shared.Rules.{DirectionWords}
use Rattle.bidi_print.specs.Command.{AreOptionsIn, printer_app}
use Rattle.bidi_print.proofs.words.command_line.Goals as goal

by_words : (app : App) (directions : DirectionWords) (words : List Text) (matches : ArgMatches) → app ≡ printer_app directions → HasMatchesOf app words matches
    → rows_in matches ≡ matches_of (printer_app directions) words
by_words app directions words matches is has = (has (ap is_simple is)).0 ∙ ap (λ a. matches_of a words) is

pub returns-in-Some : goal.returns-in-Some
returns-in-Some g c =
    let made = c.in_ok-command.ensures in
    let matches = c.in_ok-matches.matches in
    let rows = by_words (app_of c.in_ok-command.command) made.0 _ matches made.1 c.in_ok-matches.ensures.ok.2 in
    (made.0, subst (λ rows. AreOptionsIn rows c.in-Some.options) rows c.in-Some.ensures)
