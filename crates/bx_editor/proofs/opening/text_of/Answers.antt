use Rattle.std.proofs.Common.{◌≡◌, ℕ, List, sym, subst}
use Rattle.std.specs.Str.{IsValidUpTo}
use Rattle.bx_editor.specs.Editor.{IsLongestUtf8}
use Rattle.bx_editor.proofs.opening.text_of.Goals as goal

longest : (read bytes : List ℕ) (front count : ℕ) → read ≡ bytes → count ≡ front → IsValidUpTo read front → IsLongestUtf8 bytes count
longest read bytes front count same is valid =
    subst (IsLongestUtf8 bytes) (sym is) (subst (λ (bs : List ℕ). IsLongestUtf8 bs front) same (record {
      utf8 = valid.front;
      longest = λ more above within. valid.longest more above;
    }))

pub returns-in-Err-clause-longest : goal.returns-in-Err-clause-longest
returns-in-Err-clause-longest c = longest _ _ _ _ c.as_slice.ensures.value c.valid_up_to.ensures c.in-Err.ensures.cases.1
