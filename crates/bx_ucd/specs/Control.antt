-- For the laws that no mirror and no form is a control character.
use Rattle.std.specs.Prelude.{◌≡◌, ℕ, false, Option, Some, None, IfSome, refl}
use Rattle.std.specs.Option.{ForSome}
pub use Rattle.bx_common.specs.Characters.{is_control}

-- if an option cannot hold a control, its value, if it has one, is not a control
pub no_control_if_some : (o : Option ℕ) → ForSome o (λ m. is_control m ≡ false) → IfSome o (λ m. is_control m ≡ false)
no_control_if_some None no_control = tt
no_control_if_some (Some m) no_control = no_control m refl
