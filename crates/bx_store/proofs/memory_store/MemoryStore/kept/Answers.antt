use Rattle.std.proofs.Common.{◌≡◌, false, List, ℕ, Option, map, option_map, sym, ap, ◌∙◌}
use Rattle.std.specs.Prelude.{find}
use Rattle.bx_store.specs.Kept.{kept_of}
use Rattle.bx_store.specs.Stores as spec
use Rattle.bx_store.specs.Stores.{MemoryState, is_at}
use Rattle.bx_store.specs.declared.kept.Kept.{Kept}
use Rattle.bx_store.proofs.Elsewhere.{found_kept, not_here}
use Rattle.bx_store.proofs.memory_store.MemoryStore.kept.Goals as goal

pub returns : goal.returns
returns c =
    let place : Option (List ℕ) = option_map (λ n. n.now) c.args.name in
    let s : MemoryState = c.args.self.now in
    let same : map kept_of c.self.inside.elsewhere.items ≡ s.elsewhere = ap (λ (x : MemoryState). x.elsewhere) c.self.view_is in
    let other : is_at place s.name ≡ false = ap (is_at place) (sym (ap (λ (x : MemoryState). x.name) c.self.view_is)) ∙ sym c.is_at.ensures ∙ c.if-is_at.false in
    c.text_at.ensures
    ∙ ap (λ (xs : List Kept). option_map (λ k. (kept_of k).text) (find (λ k. is_at place (kept_of k).name) xs)) c.as_slice-2.ensures.value
    ∙ found_kept place c.self.inside.elsewhere.items
    ∙ ap (λ (xs : List spec.Kept). option_map (λ (k : spec.Kept). k.text) (find (λ k. is_at place k.name) xs)) same
    ∙ not_here place s other
