use Rattle.std.proofs.Common.{rules, ◌≡◌, sym, ◌∙◌, ap, subst, map, List, ℕ}
use Rattle.newt_graph.specs.Graph.{IsGraph}
use Rattle.newt_soupdir.specs.Bare.{bare_store}
use Rattle.newt_spec_store.specs.Cost.{directory_bytes}
use Rattle.newt_backup.specs.Contents.{text_of}
use Rattle.newt_backup.specs.Backup.{packed, CanPack}
use Rattle.newt_backup.proofs.Contents.{directory-formed, can-pack, entries-small, backup-same}
use Rattle.newt_backup.proofs.Graph.{packed-graph}
use Rattle.newt_backup.proofs.Packing.{root-at}
use Rattle.newt_backup.proofs.pack.pack_backup.Goals as goal

pub write_directory-requires : goal.write_directory-requires
write_directory-requires c = let formed = directory-formed c.args.directory.now c.args.entries.now c.requires in search (rules, formed)

pub pack_nodes-requires : goal.pack_nodes-requires
pack_nodes-requires c =
    let same : c.deref.result.now ≡ directory_bytes (bare_store c.args.directory.now) = search rules in
    record {
      can = subst (λ (b : List ℕ). CanPack b (map text_of c.args.entries.now)) (sym same) (can-pack c.args.directory.now c.args.entries.now c.requires);
      fit = entries-small c.args.directory.now c.args.entries.now c.requires;
    }

pub of-requires : goal.of-requires
of-requires c =
    let same : c.deref.result.now ≡ directory_bytes (bare_store c.args.directory.now) = search rules in
    let can = subst (λ (b : List ℕ). CanPack b (map text_of c.args.entries.now)) (sym same) (can-pack c.args.directory.now c.args.entries.now c.requires) in
    let nodes : c.in_ok-nodes.nodes.items ≡ (packed c.deref.result.now (map text_of c.args.entries.now)).nodes = search rules in
    subst IsGraph (sym (root-at c.in_ok-nodes.nodes.items c.deref.result.now (map text_of c.args.entries.now) nodes)) (packed-graph c.deref.result.now (map text_of c.args.entries.now) can)

pub returns : goal.returns
returns c =
    let same : c.deref.result.now ≡ directory_bytes (bare_store c.args.directory.now) = search rules in
    let nodes : c.in_ok-nodes.nodes.items ≡ (packed c.deref.result.now (map text_of c.args.entries.now)).nodes = search rules in
    c.of.ensures ∙ root-at c.in_ok-nodes.nodes.items c.deref.result.now (map text_of c.args.entries.now) nodes
    ∙ ap (λ b. packed b (map text_of c.args.entries.now)) same ∙ backup-same c.args.directory.now c.args.entries.now c.requires
