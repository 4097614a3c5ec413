use Rattle.std.proofs.Common.{◌≡◌, ◌+◌, ◌-◌, length, refl, arith}
use Rattle.std.proofs.lemmas.Str.{IsUtf8-past_char}
use Rattle.bx_rows.proofs.cells_lemmas.OpenCluster.{open-mark, at-next, at-last}
use Rattle.bx_rows.proofs.cells.simple_clusters.simple_cluster.Goals as goal

pub returns-in-Begins-simple_kind : goal.returns-in-Begins-simple_kind
returns-in-Begins-simple_kind c =
    let body = c.args.body.now in
    let rest = c.loop-c.rest.now in
    let i = c.loop-c.invariant in
    let within = i.within in
    let stop = length body - length rest in
    let e : stop + length rest ≡ length body = omega arith in
    at-next body c.args.at c.in_ok-first.first c.loop-c.is_marked rest c.utf8.body c.requires i.cluster stop c.in-Some.c c.in-Begins.columns c.in-Some.behind.now
    e c.in-Some.ensures.0 c.in-Begins-simple_kind.ensures.0 c.in-Begins.ensures.1

pub loop-c-preserved : goal.loop-c-preserved
loop-c-preserved c =
    let i = c.loop-c.invariant in
    let next = c.in-Some.ensures in
    let shorter = next.1 in
    let within = i.within in
    record {
      text = IsUtf8-past_char c.loop-c.rest.now _ c.in-Some.c i.text next.0;
      cluster = open-mark c.args.body.now c.args.at c.in_ok-first.first c.loop-c.is_marked c.loop-c.rest.now c.in-Some.c _ i.cluster next.0 c.in-Extends.ensures;
      within = omega arith;
    }

pub returns : goal.returns
returns c =
    let i = c.loop-c.invariant in
    at-last c.args.body.now c.args.at c.in_ok-first.first c.loop-c.is_marked c.loop-c.rest.now c.utf8.body c.requires i.cluster (length c.args.body.now)
    c.in-Begins.columns refl c.in_default-first_char.ensures c.in-Begins.ensures.1
