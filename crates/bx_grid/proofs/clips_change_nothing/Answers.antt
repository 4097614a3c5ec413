use Rattle.bx_grid.proofs.Clips.{clip_changes_nothing, clip_has_no_effect, clip_ends_run, clip_is_whole}
use Rattle.bx_grid.proofs.Encodings.{are_base64, encoded_decodes}
use Rattle.bx_grid.proofs.clips_change_nothing.Goals as goal

pub returns-clause-same : goal.returns-clause-same
returns-clause-same c = clip_changes_nothing

pub returns-clause-effects : goal.returns-clause-effects
returns-clause-effects c = clip_has_no_effect

pub returns-clause-run : goal.returns-clause-run
returns-clause-run c = clip_ends_run

pub returns-clause-tokens : goal.returns-clause-tokens
returns-clause-tokens c = clip_is_whole

pub returns-clause-gives : goal.returns-clause-gives
returns-clause-gives c = encoded_decodes

pub returns-clause-base64 : goal.returns-clause-base64
returns-clause-base64 c = are_base64
