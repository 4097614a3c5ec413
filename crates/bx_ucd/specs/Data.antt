-- Unicode's properties of characters. The definitions of other crates take a value of `Data`, which they call `ucd` or `d`.
use Rattle.std.specs.Prelude.{ℕ, Option}
use Rattle.bx_ucd.specs.declared.class.Class.{Class}
use Rattle.bx_ucd.specs.declared.data.Side.{Side}
use Rattle.bx_ucd.specs.declared.joining.Joining.{Joining}
use Rattle.bx_ucd.specs.declared.joining.Form.{Form}

-- a character's class, its side and counterpart if it is a bracket, its mirror image, its joining type, and its forms
pub record Data : Type 0 where
  pub class : ℕ → Class
  pub bracket : ℕ → Option (Side × ℕ)
  pub mirror : ℕ → Option ℕ
  pub joining : ℕ → Joining
  pub form : ℕ → Form → Option ℕ
