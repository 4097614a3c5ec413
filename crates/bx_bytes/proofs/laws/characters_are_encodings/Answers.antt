use Rattle.bx_bytes.proofs.Encoded.{are_encodings}
use Rattle.bx_bytes.proofs.laws.characters_are_encodings.Goals as goal

pub returns-clause-encodings : goal.returns-clause-encodings
returns-clause-encodings c = are_encodings
