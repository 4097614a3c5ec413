use Rattle.std.proofs.Common.{◌≡◌, false, List, map, sym, ap, ◌∙◌}
use Rattle.std.specs.List.{list_any}
use Rattle.bx_store.specs.Kept.{kept_of}
use Rattle.bx_store.specs.Stores.{MemoryState, has_name}
use Rattle.bx_store.specs.declared.kept.Kept.{Kept}
use Rattle.bx_store.proofs.Elsewhere.{any_kept, not_named}
use Rattle.bx_store.proofs.memory_store.MemoryStore.is_taken.Goals as goal

pub returns-else-has_name : goal.returns-else-has_name
returns-else-has_name c =
    let name = c.args.name.now in
    let s : MemoryState = c.args.self.now in
    let same : map kept_of c.self.inside.elsewhere.items ≡ s.elsewhere = ap (λ (x : MemoryState). x.elsewhere) c.self.view_is in
    let other : has_name name s.name ≡ false =
    ap (has_name name) (sym (ap (λ (x : MemoryState). x.name) c.self.view_is)) ∙ sym c.has_name.ensures ∙ c.if-has_name.false in
    c.is_among.ensures
    ∙ ap (λ (xs : List Kept). list_any (λ k. has_name name (kept_of k).name) xs) c.as_slice.ensures.value
    ∙ any_kept name c.self.inside.elsewhere.items
    ∙ ap (list_any (λ k. has_name name k.name)) same
    ∙ not_named name s other
