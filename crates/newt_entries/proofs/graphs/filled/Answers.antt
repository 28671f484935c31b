use Rattle.std.proofs.Common.{◌∙◌, ap, List, ℕ, length, map, Vec, Global}
use Rattle.std.proofs.lemmas.Simd.{map-map}
use Rattle.newt_graph.specs.declared.node.Node.{Node}
use Rattle.newt_graph.specs.Graph.{RawGraph}
use Rattle.newt_spec_store.specs.Valid.{valid_entry}
use Rattle.newt_entries.specs.Filling.{put_in}
use Rattle.newt_entries.proofs.Fits.{made-is_graph, filled-valid}
use Rattle.newt_entries.proofs.graphs.filled.Goals as goal

abbrev items_of : List (Vec ℕ Global) → List (List ℕ)
items_of larges = map (λ bytes. bytes.items) larges

pub of-requires : goal.of-requires
of-requires c =
    let bs = items_of c.args.larges.items in
    (made-is_graph c.args.row.now.larges c.args.row.now.skeleton bs c.in_ok-nodes.nodes.items c.root.result c.nodes.ensures.graph c.requires.fit
    (map-map (λ (b : List ℕ). length b) (λ (bytes : Vec ℕ Global). bytes.items) c.args.larges.items ∙ c.requires.lengths)
    (c.in_ok-nodes.ensures.value ∙ ap (λ (ns : List Node). put_in ns bs) c.nodes.ensures.value) c.in_ok-nodes.ensures.bytes c.root.ensures.value).1

pub returns-clause-valid : goal.returns-clause-valid
returns-clause-valid c =
    let bs = items_of c.args.larges.items in
    let long = map-map (λ (b : List ℕ). length b) (λ (bytes : Vec ℕ Global). bytes.items) c.args.larges.items ∙ c.requires.lengths in
    let made = made-is_graph c.args.row.now.larges c.args.row.now.skeleton bs c.in_ok-nodes.nodes.items c.root.result c.nodes.ensures.graph c.requires.fit long
    (c.in_ok-nodes.ensures.value ∙ ap (λ (ns : List Node). put_in ns bs) c.nodes.ensures.value) c.in_ok-nodes.ensures.bytes c.root.ensures.value in
    ap (λ (k : RawGraph). valid_entry (record { uid = c.args.row.now.uid; time = c.args.row.now.time; graph = k })) (c.of.ensures ∙ made.0)
    ∙ filled-valid c.args.row.now.larges c.args.row.now.skeleton bs c.args.row.now.uid c.args.row.now.time c.nodes.ensures.graph c.requires.fit long

pub returns-clause-value : goal.returns-clause-value
returns-clause-value c =
    let bs = items_of c.args.larges.items in
    c.of.ensures
    ∙ (made-is_graph c.args.row.now.larges c.args.row.now.skeleton bs c.in_ok-nodes.nodes.items c.root.result c.nodes.ensures.graph c.requires.fit
    (map-map (λ (b : List ℕ). length b) (λ (bytes : Vec ℕ Global). bytes.items) c.args.larges.items ∙ c.requires.lengths)
    (c.in_ok-nodes.ensures.value ∙ ap (λ (ns : List Node). put_in ns bs) c.nodes.ensures.value) c.in_ok-nodes.ensures.bytes c.root.ensures.value).0
