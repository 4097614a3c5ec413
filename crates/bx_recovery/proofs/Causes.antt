-- The causes of a refused opening and of a refused recovery, from the contracts of the calls within.
use Rattle.std.proofs.Common.{◌≡◌, ◌≤◌, ℕ, List, None, Result, Ok, Err, IfErr, IsErrAnd, IsUtf8, length, subst, sym, ◌∙◌}
use Rattle.bx_common.specs.Characters.{largest_text}
use Rattle.bx_command.specs.shared.Tables.{refused_line}
use Rattle.bx_store.specs.declared.faults.Faults.{Faults}
use Rattle.bx_recovery.specs.declared.beginning.Beginning.{Beginning}
use Rattle.bx_recovery.specs.declared.fault.RecoveryFault.{RecoveryFault}
use Rattle.bx_recovery.specs.declared.fault.RecoveryFault.TheVariants.{Tables, Open, Unwritten, OutOfMemory}
use Rattle.bx_recovery.specs.Beginnings.{bytes_of}
use Rattle.bx_recovery.specs.Refusals.{CanOpen, IsFirstCause, IsLaterCause, IsRecoveryCause, IsText}

pub can_open : (b : Beginning) (text : List ℕ) → text ≡ bytes_of b.text → refused_line b.unicode.now ≡ None → length text ≤ largest_text
    → IsUtf8 text → CanOpen b
can_open b text is accepted short utf8 = record {
  accepted = accepted;
  text = subst IsText is (record { short = short; utf8 = utf8 });
}

-- memory ran out once the session was opened
pub ran_out : {A : Type 0} (b : Beginning) (r : Result A RecoveryFault) (fault : RecoveryFault) → IsErrAnd r (λ e. e ≡ fault)
    → fault ≡ OutOfMemory → CanOpen b → IfErr r (IsFirstCause b)
ran_out b (Ok opened) fault is out can = absurd is
ran_out b (Err e) fault is out can = subst (IsFirstCause b) (sym (is ∙ out)) can

later_cause : (b : Beginning) (faults faults' : Faults) (fault : RecoveryFault) → CanOpen b → IsLaterCause faults faults' fault
    → IsRecoveryCause b faults faults' fault
later_cause b faults faults' (Tables error) can cause = absurd cause
later_cause b faults faults' (Open error) can cause = absurd cause
later_cause b faults faults' Unwritten can cause = (can, cause)
later_cause b faults faults' OutOfMemory can cause = (can, cause)

-- the session was opened
pub once_opened : {A : Type 0} (b : Beginning) (faults faults' : Faults) (r : Result A RecoveryFault) → CanOpen b
    → IfErr r (IsLaterCause faults faults') → IfErr r (IsRecoveryCause b faults faults')
once_opened b faults faults' (Ok replayed) can cause = tt
once_opened b faults faults' (Err fault) can cause = later_cause b faults faults' fault can cause
