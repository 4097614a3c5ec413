-- What is typed at the end of an input line goes in there, and the cursor stays at the end.
use Rattle.std.proofs.Common.{◌≡◌, ℕ, ◌+◌, ◌<◌, ◌≤◌, true, nat_lt, List, [], ◌∷◌, ◌++◌, length, append-nil, length-append, sym, ap, ap₂, ◌∙◌, arith}
use Rattle.std.specs.Prelude.{encode_utf8, IsAscii, IsUtf8, if◌then◌else◌}
use Rattle.std.proofs.lemmas.List.{drop_all, take_all}
use Rattle.std.proofs.lemmas.Str.{chars-IsAscii, encode_ascii, IsUtf8-from_ascii}
use Rattle.bx_common.specs.declared.base.Base.TheVariants.{Auto}
use Rattle.bx_document.specs.InputLine.{line_rows}
use Rattle.bx_text.specs.Edits.{splice}
use Rattle.bx_ucd.specs.Data.{Data}
use Rattle.bx_view.specs.Moves.{place_from}
use Rattle.bx_view.proofs.PlacesOn.{finds-least}
use Rattle.bx_editor.specs.InputLines.{line_at_end, line_edited, line_lengthened, line_with}
use Rattle.bx_editor.proofs.InLine.{end-is-text-place}

end-from : (d : Data) (line : List ℕ) → IsUtf8 line → place_from (line_rows d line) (length line) ≡ length line
end-from d line utf8 =
    let some : 1 ≤ 500 = omega arith in
    let here : length line ≤ length line = omega arith in
    let least = (finds-least d Auto 500 some line utf8).inside (length line) here in
    omega (arith, least.not_before, least.least (length line) (end-is-text-place d line utf8) here)

spliced-end : (line new : List ℕ) → splice line (length line) (length line) new ≡ line ++ new
spliced-end line new =
    let here : length line ≤ length line = omega arith in
    ap₂ (λ xs ys. (xs ++ new) ++ ys) (take_all (length line) line here) (drop_all (length line) line here) ∙ append-nil (line ++ new)

edited-end : (d : Data) (line new : List ℕ) → IsUtf8 (line ++ new) → line_edited d (line_at_end line) (length line) (length line) new ≡ line_at_end (line ++ new)
edited-end d line new utf8 =
    ap (λ t. line_with t (place_from (line_rows d t) (length line + length new))) (spliced-end line new)
    ∙ ap (line_with (line ++ new)) (ap (place_from (line_rows d (line ++ new))) (sym (length-append line new)) ∙ end-from d (line ++ new) utf8)

-- an ASCII character behind others, where there is room
pub typed-at-end : (d : Data) (limit : ℕ) (line : List ℕ) (c : ℕ) → IsAscii line → IsAscii (line ++ c ∷ []) → c < 128 → nat_lt (length line) limit ≡ true
    → line_lengthened d limit (line_at_end line) c ≡ line_at_end (line ++ c ∷ [])
typed-at-end d limit line c plain more low room =
    let l = line_at_end line in
    let n = length line in
    ap (λ cs. if nat_lt (length cs) limit then line_edited d l n n (encode_utf8 c) else l) (chars-IsAscii line plain)
    ∙ ap (λ b. if b then line_edited d l n n (encode_utf8 c) else l) room
    ∙ ap (line_edited d l n n) (encode_ascii c low)
    ∙ edited-end d line (c ∷ []) (IsUtf8-from_ascii (line ++ c ∷ []) more)
