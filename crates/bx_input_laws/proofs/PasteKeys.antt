-- The keys of a paste, whatever came before.
use Rattle.std.proofs.Common.{Bool, List, [], ◌∷◌, ◌++◌, refl, ap, ◌∙◌}
use Rattle.bx_keys.specs.declared.key.Key.TheVariants.{PasteStart, PasteEnd}
use Rattle.bx_input.specs.Machine.{read}
use Rattle.bx_input.specs.Paste.{pasted}
use Rattle.bx_input.specs.Scan as scan
use Rattle.bx_input.specs.Scan.{Part, Known, passed}
use Rattle.bx_input.specs.Table.{paste_start, paste_end}
use Rattle.bx_input.proofs.Parts.{keys_of_two}
use Rattle.bx_input_laws.specs.Laws.{PastesInsert}
use Rattle.bx_input_laws.proofs.Clean.{pastes_clean}
use Rattle.bx_input_laws.proofs.Decoding.{IsFree, text_inserts}
use Rattle.bx_input_laws.proofs.Inserting.{utf8_inserts}
use Rattle.bx_input_laws.proofs.Pastes.{pastes_text}
use Rattle.bx_input_laws.proofs.ReadParts.{known_last, passed_are_decoded, whole_keys}

nothing_free : IsFree []
nothing_free e = cc e

pub pastes_insert : (by_delete : Bool) → PastesInsert by_delete
pastes_insert by_delete bs waiting text at none =
    let before : List Part = scan.scanned by_delete bs in
    let inside : List Part = passed (pasted text) ++ Known (PasteEnd ∷ []) ∷ [] in
    let text_is = (pastes_clean by_delete).whole text in (
      whole_keys by_delete (bs ++ (paste_start ++ (text ++ paste_end))) (before ++ Known (PasteStart ∷ []) ∷ inside) (pastes_text by_delete bs waiting text at none)
          ∙ keys_of_two [] before (Known (PasteStart ∷ []) ∷ inside)
          ∙ ap (λ ks. (read [] before).keys ++ PasteStart ∷ ks) (
          known_last (passed (pasted text)) (PasteEnd ∷ [])
          ∙ ap (λ ks. ks ++ PasteEnd ∷ []) (passed_are_decoded (pasted text))),
      text_inserts [] (pasted text) refl nothing_free text_is,
      λ utf8. utf8_inserts [] (pasted text) utf8 text_is refl nothing_free,
    )
