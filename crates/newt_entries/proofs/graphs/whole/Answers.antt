use Rattle.std.proofs.Common.{arith, ◌≡◌, sym, ◌∙◌, ap, ℕ, List, length, map, Vec, Global}
use Rattle.std.proofs.lemmas.Bool.{eqb-true}
use Rattle.std.proofs.lemmas.Simd.{map-map}
use Rattle.newt_graph.specs.Graph.{RawGraph}
use Rattle.newt_spec_store.specs.Valid.{valid_entry}
use Rattle.newt_entries.specs.Entry.{row_at, filled}
use Rattle.newt_entries.proofs.Fits.{filled-valid, nothing-filled}
use Rattle.newt_entries.proofs.graphs.whole.Goals as goal

abbrev items_of : List (Vec ℕ Global) → List (List ℕ)
items_of larges = map (λ bytes. bytes.items) larges

pub returns-clause-value : goal.returns-clause-value
returns-clause-value c = nothing-filled (map row_at c.args.row.larges) c.args.row.skeleton c.args.larges.items (omega (arith, eqb-true _ 0 (sym c.is_empty.ensures ∙ c.if-not-is_empty.false), c.args.larges.ok.0))

pub returns-clause-valid : goal.returns-clause-valid
returns-clause-valid c =
    let bs = items_of c.args.larges.items in
    let same : c.args.row.skeleton ≡ filled (map row_at c.args.row.larges) c.args.row.skeleton bs =
    nothing-filled (map row_at c.args.row.larges) c.args.row.skeleton c.args.larges.items (omega (arith, eqb-true _ 0 (sym c.is_empty.ensures ∙ c.if-not-is_empty.false), c.args.larges.ok.0)) in
    ap (λ (k : RawGraph). valid_entry (record { uid = c.args.row.uid; time = c.args.row.time; graph = k })) same
    ∙ filled-valid c.args.row.larges c.args.row.skeleton bs c.args.row.uid c.args.row.time c.root-root.ensures.graph c.requires.fit
    (map-map (λ (b : List ℕ). length b) (λ (bytes : Vec ℕ Global). bytes.items) c.args.larges.items ∙ c.requires.lengths)
