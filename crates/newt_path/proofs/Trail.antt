-- The steps of a builder to which a graph, a name and a value are given, one after another.
use Rattle.std.proofs.Common.{◌≡◌, ℕ, ◌<◌, List, [], length, Option, Some, None, sym, ap, subst, ◌∙◌, arith, Result, Ok, Err}
use Rattle.std.specs.Prelude.{set, IfOk, IsErrOf}
use Rattle.std.proofs.lemmas.Option.{slice_get_within, none-some, some_pair_parts}
use Rattle.newt_graph.specs.declared.node.Node.{Node}
use Rattle.newt_graph.specs.declared.node.Node.TheVariants.{Frame}
use Rattle.newt_graph.specs.declared.node.Ref.{Ref}
use Rattle.newt_graph.specs.declared.fault.GraphFault.{GraphFault}
use Rattle.newt_graph.specs.declared.fault.GraphFault.TheVariants.{Limit, Memory}
use Rattle.newt_graph.specs.Graph.{RawGraph, IsGraph}
use Rattle.newt_graph.specs.Raw.{IsNormalForm}
use Rattle.newt_graph.specs.Meeting.{Fails, Gives, normal_form}
use Rattle.newt_graph.specs.Draft.{IsJoined, with_symbol, with_set}
use Rattle.newt_graph.specs.Import.{with_graph}
use Rattle.newt_spec_graph.specs.Slots.{put_into}
use Rattle.newt_path.specs.Put.{IsFormOf, PassesALimit, IsFrameOf}
use Rattle.newt_path.proofs.Numbers.{graph_alone, graph_after}
use Rattle.newt_path.proofs.Named.{named, IsNamedBy, named_is, named_small}
use Rattle.newt_path.proofs.Puts.{IsPlace, all_of, root_of, frame_of, named_at, set_gives, set_refuses, put_joined, full_passes, made_form, made_none}

same_pair : {A B : Type 0} {a x : A} {b y : B} {o : Option (A × B)} → o ≡ Some (a, b) → o ≡ Some (x, y) → (a ≡ x) × (b ≡ y)
same_pair {A} {B} {a} {x} {b} {y} {o} e f = some_pair_parts a x b y (sym e ∙ f)

pub fails_none : {Y : Type 0} (e : GraphFault) (read : Option Y) → Fails e read → e ≡ Limit → read ≡ None
fails_none Limit read fails is = fails
fails_none Memory read fails is = absurd cc

-- the builder after its first three steps
pub record Stands (g : RawGraph) (name : List ℕ) (v : RawGraph) (tag : ℕ) (value : Ref) (nodes : List Node) : Type 0 where
  pub by : IsNamedBy g.nodes name tag
  pub value_is : value ≡ root_of g name v
  pub nodes_are : nodes ≡ all_of g name v

pub alone : (g : RawGraph) (first second : List Node) (root : Ref) → IsGraph g → first ≡ [] → with_graph first g ≡ Some (root, second) → second ≡ g.nodes
alone g first second root graph none e =
    let made : with_graph first g ≡ Some (g.root, g.nodes) = ap (λ (ns : List Node). with_graph ns g) none ∙ graph_alone g graph in
    (same_pair e made).1

pub alone_fits : (g : RawGraph) (first : List Node) → IsGraph g → first ≡ [] → with_graph first g ≡ None → ⊥
alone_fits g first graph none e = none-some _ (sym e ∙ (ap (λ (ns : List Node). with_graph ns g) none ∙ graph_alone g graph))

named_by : (g : RawGraph) (name : List ℕ) → IsGraph g → (tag : ℕ) × IsNamedBy g.nodes name tag
named_by g name graph = named_is g.nodes name graph.few graph.folded_once

pub named_fits : (g : RawGraph) (name : List ℕ) (nodes : List Node) → IsGraph g → nodes ≡ g.nodes → with_symbol nodes name ≡ None → ⊥
named_fits g name nodes graph same e =
    let n = named_by g name graph in
    none-some _ (sym e ∙ (ap (λ (ns : List Node). with_symbol ns name) same ∙ n.1.made))

pub record NamedSo (g : RawGraph) (name : List ℕ) (tag : ℕ) (nodes : List Node) : Type 0 where
  pub by : IsNamedBy g.nodes name tag
  pub nodes_are : nodes ≡ named g.nodes name

pub named_so : (g : RawGraph) (name : List ℕ) (nodes more : List Node) (tag : ℕ) → IsGraph g → nodes ≡ g.nodes → with_symbol nodes name ≡ Some (tag, more) → NamedSo g name tag more
named_so g name nodes more tag graph same e =
    let n = named_by g name graph in
    let p = same_pair e (ap (λ (ns : List Node). with_symbol ns name) same ∙ n.1.made) in
    record { by = subst (IsNamedBy g.nodes name) (sym p.0) n.1; nodes_are = p.1 }

value_after : (g : RawGraph) (name : List ℕ) (tag : ℕ) (nodes : List Node) (v : RawGraph) → IsGraph g → IsGraph v → NamedSo g name tag nodes → with_graph nodes v ≡ Some (root_of g name v, all_of g name v)
value_after g name tag nodes v graph other so =
    let small = named_small g.nodes name tag so.by in
    ap (λ (ns : List Node). with_graph ns v) so.nodes_are ∙ graph_after (named g.nodes name) v other (omega (arith, small.few, graph.few)) (omega (arith, small.light, graph.light))

pub value_fits : (g : RawGraph) (name : List ℕ) (tag : ℕ) (nodes : List Node) (v : RawGraph) → IsGraph g → IsGraph v → NamedSo g name tag nodes → with_graph nodes v ≡ None → ⊥
value_fits g name tag nodes v graph other so e = none-some _ (sym e ∙ value_after g name tag nodes v graph other so)

pub stands : (g : RawGraph) (name : List ℕ) (tag : ℕ) (nodes more : List Node) (v : RawGraph) (value : Ref) → IsGraph g → IsGraph v → NamedSo g name tag nodes → with_graph nodes v ≡ Some (value, more) → Stands g name v tag value more
stands g name tag nodes more v value graph other so e =
    let p = same_pair e (value_after g name tag nodes v graph other so) in
    record { by = so.by; value_is = p.0; nodes_are = p.1 }

place_of : (g : RawGraph) (name : List ℕ) (v : RawGraph) (tag frame : ℕ) (value : Ref) (nodes : List Node) → IsGraph g → (f : IsFrameOf g frame) → Stands g name v tag value nodes → IsPlace g name tag frame f.tags f.values
place_of g name v tag frame value nodes graph f s = record { graph = graph; by = s.by; at = f.at }

pub frame_within : (g : RawGraph) (name : List ℕ) (v : RawGraph) (tag frame : ℕ) (value : Ref) (nodes : List Node) → IsFrameOf g frame → Stands g name v tag value nodes → frame < length nodes
frame_within g name v tag frame value nodes f s =
    subst (λ (ns : List Node). frame < length ns) (sym s.nodes_are) (slice_get_within (all_of g name v) frame (Frame f.tags f.values) (named_at g name v frame (Frame f.tags f.values) f.at))

pub set_passes : (g : RawGraph) (name : List ℕ) (v : RawGraph) (tag frame : ℕ) (value : Ref) (nodes : List Node) → IsGraph g → IsGraph v → IsFrameOf g frame → Stands g name v tag value nodes
    → with_set nodes frame tag value ≡ None → PassesALimit (Some (put_into g name v frame))
set_passes g name v tag frame value nodes graph other f s e =
    let there = named_at g name v frame (Frame f.tags f.values) f.at in
    full_passes g name v tag frame f.tags f.values f.path (place_of g name v tag frame value nodes graph f s) other
    (set_refuses (all_of g name v) frame tag value f.tags f.values there (subst (λ (ns : List Node). with_set ns frame tag value ≡ None) s.nodes_are e)) f.leads

-- the nodes after the last step
pub record Made (g : RawGraph) (name : List ℕ) (v : RawGraph) (tag frame : ℕ) (tags : List ℕ) (values : List Ref) (nodes : List Node) : Type 0 where
  pub at : IsPlace g name tag frame tags values
  pub nodes_are : nodes ≡ set (all_of g name v) frame (frame_of tag (root_of g name v) tags values)

pub made : (g : RawGraph) (name : List ℕ) (v : RawGraph) (tag frame : ℕ) (value : Ref) (nodes more : List Node) → IsGraph g → (f : IsFrameOf g frame) → Stands g name v tag value nodes
    → with_set nodes frame tag value ≡ Some more → Made g name v tag frame f.tags f.values more
made g name v tag frame value nodes more graph f s e =
    let there = named_at g name v frame (Frame f.tags f.values) f.at in
    let same : with_set (all_of g name v) frame tag value ≡ Some more = subst (λ (ns : List Node). with_set ns frame tag value ≡ Some more) s.nodes_are e in
    record {
      at = place_of g name v tag frame value nodes graph f s;
      nodes_are = set_gives (all_of g name v) frame tag value f.tags f.values more there same
          ∙ ap (λ (r : Ref). set (all_of g name v) frame (frame_of tag r f.tags f.values)) s.value_is;
    }

pub all_joined : (g : RawGraph) (name : List ℕ) (v : RawGraph) (tag frame : ℕ) (tags : List ℕ) (values : List Ref) (nodes : List Node) (root : Ref) → IsGraph v → Made g name v tag frame tags values nodes → root ≡ g.root → IsJoined nodes root
all_joined g name v tag frame tags values nodes root other m is =
    subst (IsJoined nodes) (sym is) (subst (λ (ns : List Node). IsJoined ns g.root) (sym m.nodes_are) (put_joined g name v tag frame tags values m.at other))

raw_same : (g : RawGraph) (name : List ℕ) (v : RawGraph) (tag frame : ℕ) (tags : List ℕ) (values : List Ref) (nodes : List Node) (root : Ref) → Made g name v tag frame tags values nodes → root ≡ g.root
    → ◌≡◌ {A = RawGraph} (record { nodes = nodes; root = root }) (record { nodes = set (all_of g name v) frame (frame_of tag (root_of g name v) tags values); root = g.root })
raw_same g name v tag frame tags values nodes root m is =
    ap (λ (ns : List Node). record { nodes = ns; root = root }) m.nodes_are ∙ ap (λ (r : Ref). record { nodes = set (all_of g name v) frame (frame_of tag (root_of g name v) tags values); root = r }) is

pub finished : (g : RawGraph) (name : List ℕ) (v : RawGraph) (tag frame : ℕ) (tags : List ℕ) (values : List Ref) (nodes : List Node) (root : Ref) (result : Result RawGraph GraphFault) → Made g name v tag frame tags values nodes → root ≡ g.root
    → IfOk result (λ h. IsNormalForm (record { nodes = nodes; root = root }) h) → IfOk result (λ h. IsFormOf (Some (put_into g name v frame)) h)
finished g name v tag frame tags values nodes root (Err e) m is form = tt
finished g name v tag frame tags values nodes root (Ok h) m is form =
    made_form g name v tag frame tags values h m.at (subst (λ (x : RawGraph). IsNormalForm x h) (raw_same g name v tag frame tags values nodes root m is) form)

pub ends : (g : RawGraph) (name : List ℕ) (v : RawGraph) (tag frame : ℕ) (tags : List ℕ) (values : List Ref) (nodes : List Node) (root : Ref) (result : Result RawGraph GraphFault) → Made g name v tag frame tags values nodes → root ≡ g.root
    → Gives (λ h. h) result (normal_form (record { nodes = nodes; root = root })) → IsErrOf result Limit → PassesALimit (Some (put_into g name v frame))
ends g name v tag frame tags values nodes root (Ok h) m is gives e = absurd cc
ends g name v tag frame tags values nodes root (Err fault) m is gives e =
    made_none g name v tag frame tags values m.at (subst (λ (x : RawGraph). normal_form x ≡ None) (raw_same g name v tag frame tags values nodes root m is)
    (fails_none fault (normal_form (record { nodes = nodes; root = root })) gives cc))
