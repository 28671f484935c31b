-- A graph whose root is a frame has one after a value is put into it.
use Rattle.std.proofs.Common.{arith, ◌≡◌, refl, ap, sym, ◌∙◌, subst, ℕ, zero, suc, ◌+◌, List, [], ◌∷◌, ◌++◌, true, false, Bool, cond, Option, Some, None, option_and_then, option_map, unwrap_or, length, ◌==◌}
use Rattle.std.specs.Prelude.{slice_get}
use Rattle.std.specs.List.{last_or}
use Rattle.std.proofs.lemmas.Bool.{eq-eqb}
use Rattle.newt_graph.specs.declared.node.Ref.{Ref}
use Rattle.newt_graph.specs.declared.node.Ref.TheVariants.{Imm, Node as At}
use Rattle.newt_graph.specs.declared.node.Node.{Node}
use Rattle.newt_graph.specs.declared.node.Node.TheVariants.{Symbol, Str, Binary, Large, Array, Frame}
use Rattle.newt_graph.specs.Graph.{RawGraph}
use Rattle.newt_spec_graph.specs.Graph.{object, is_frame}
use Rattle.newt_graph.specs.Graph.{payload}
use Rattle.newt_graph.specs.Raw.{renamed}
use Rattle.newt_graph.specs.Steps.{◌>>=◌}
use Rattle.newt_graph.specs.Meeting.{Seen, Step, place, is_new, added, meet_label, meet_labels, meet_class, meet_each, within, enter, meet_by, meet, found, number, moved, limited, numbered, normal_form}
use Rattle.std.proofs.Common.{if◌then◌else◌, get_or, sum_by, nat_le, ◌&&◌}
use Rattle.std.specs.List.{position_from}
use Rattle.newt_spec_graph.proofs.Lists.{some-same}
use Rattle.newt_spec_graph.specs.Slots.{put, put_into, set_slot, with_slot, slot_number, symbol_number, frame_number, value_at, but_last}
use Rattle.newt_spec_store.specs.Keys.{Path}
use Rattle.newt_laws_world.proofs.Patch.{nth-nth}

-- ---- the walk begins with the root

-- the first node that was met
abbrev Begins : ℕ → Seen → Type 0
Begins n seen = (rest : List ℕ) × (seen.order ≡ n ∷ rest)

-- a step keeps it
abbrev Keeps : ℕ → Step → Type 0
Keeps n step = (seen next : Seen) (value : Ref) → Begins n seen → step seen value ≡ Some next → Begins n next

begins-same : {n : ℕ} {s t : Seen} → Begins n s → Some s ≡ Some t → Begins n t
begins-same {n} {s} {t} b e = subst (Begins n) (some-same _ _ e) b

begins-added : (n : ℕ) (seen : Seen) (k : ℕ) → Begins n seen → Begins n (added seen k)
begins-added n seen k b = (b.0 ++ k ∷ [], ap (λ ks. ks ++ k ∷ []) b.1)

begins-label : (n : ℕ) (seen : Seen) (k : ℕ) → Begins n seen → Begins n (meet_label seen k)
unfolding meet_label
begins-label n seen k b = go (is_new seen k)
  where
    go : (new : Bool) → Begins n (if new then added seen k else seen)
    go true = begins-added n seen k b
    go false = b

begins-labels : (n : ℕ) (seen : Seen) (ks : List ℕ) → Begins n seen → Begins n (meet_labels seen ks)
unfolding meet_labels
begins-labels n seen [] b = b
begins-labels n seen (k ∷ ks) b = begins-labels n (meet_label seen k) ks (begins-label n seen k b)

begins-class : (n : ℕ) (seen : Seen) (class : Option ℕ) → Begins n seen → Begins n (meet_class seen class)
begins-class n seen None b = b
begins-class n seen (Some k) b = begins-label n seen k b

begins-each : (n : ℕ) (step : Step) → Keeps n step → (seen next : Seen) (values : List Ref) → Begins n seen → meet_each step seen values ≡ Some next → Begins n next
unfolding meet_each
begins-each n step keeps seen next [] b e = begins-same b e
begins-each n step keeps seen next (v ∷ vs) b e = go (λ mid k f. begins-each n step keeps mid next vs k f) (step seen v) refl e
  where
    go : ((mid : Seen) → Begins n mid → meet_each step mid vs ≡ Some next → Begins n next) → (o : Option Seen) → step seen v ≡ o → (o >>= (λ mid. meet_each step mid vs)) ≡ Some next → Begins n next
    go more None is f = cc
    go more (Some mid) is f = more mid (keeps seen mid v b is) f

begins-within : (n : ℕ) (inner : Option Step) → ((step : Step) → inner ≡ Some step → Keeps n step) → (seen next : Seen) (values : List Ref) → Begins n seen → within inner seen values ≡ Some next → Begins n next
begins-within n None keeps seen next values b e = cc
begins-within n (Some step) keeps seen next values b e = begins-each n step (keeps step refl) seen next values b e

begins-enter : (n : ℕ) (inner : Option Step) → ((step : Step) → inner ≡ Some step → Keeps n step) → (seen next : Seen) (node : Option Node) → Begins n seen → enter inner seen node ≡ Some next → Begins n next
unfolding enter
begins-enter n inner keeps seen next None b e = begins-same b e
begins-enter n inner keeps seen next (Some (Symbol name)) b e = begins-same b e
begins-enter n inner keeps seen next (Some (Str units)) b e = begins-same b e
begins-enter n inner keeps seen next (Some (Binary class bytes)) b e = begins-same (begins-label n seen class b) e
begins-enter n inner keeps seen next (Some (Large class bytes)) b e = begins-same (begins-label n seen class b) e
begins-enter n inner keeps seen next (Some (Array class values)) b e = begins-within n inner keeps (meet_class seen class) next values (begins-class n seen class b) e
begins-enter n inner keeps seen next (Some (Frame tags values)) b e = begins-within n inner keeps (meet_labels seen tags) next values (begins-labels n seen tags b) e

begins-by : (n : ℕ) (nodes : List Node) (inner : Option Step) → ((step : Step) → inner ≡ Some step → Keeps n step) → Keeps n (meet_by nodes inner)
unfolding meet_by
begins-by n nodes inner keeps seen next (Imm w) b e = begins-same b e
begins-by n nodes inner keeps seen next (At k) b e = go (is_new seen k) e
  where
    go : (new : Bool) → (if new then enter inner (added seen k) (slice_get nodes k) else Some seen) ≡ Some next → Begins n next
    go true f = begins-enter n inner keeps (added seen k) next (slice_get nodes k) (begins-added n seen k b) f
    go false f = begins-same b f

begins-meet : (n : ℕ) (nodes : List Node) (room : ℕ) → Keeps n (meet nodes room)
unfolding meet
begins-meet n nodes zero = begins-by n nodes None (λ step e. cc)
begins-meet n nodes (suc room) = begins-by n nodes _ (λ step e. subst (Keeps n) (some-same _ _ e) (begins-meet n nodes room))

-- the root is met first
first-new : (nodes : List Node) (n : ℕ) → is_frame (slice_get nodes n) ≡ true → is_new (record { order = []; count = length nodes }) n ≡ true
unfolding place
first-new [] n h = cc
first-new (x ∷ nodes) zero h = grind arith
first-new (x ∷ nodes) (suc n) h = grind (arith, first-new nodes n h)

begins-root : (nodes : List Node) (n : ℕ) → is_frame (slice_get nodes n) ≡ true → (seen : Seen) → meet nodes 200 (record { order = []; count = length nodes }) (At n) ≡ Some seen → Begins n seen
unfolding meet meet_by
begins-root nodes n h seen e = begins-enter n _ (λ step is. subst (Keeps n) (some-same _ _ is) (begins-meet n nodes 199)) _ seen (slice_get nodes n) ([], refl)
    (sym (ap (λ (b : Bool). if b then enter (Some (λ s v. meet nodes 199 s v)) (added (record { order = []; count = length nodes }) n) (slice_get nodes n) else Some (record { order = []; count = length nodes })) (first-new nodes n h)) ∙ e)

renamed-frame : (to : ℕ → ℕ) (node : Node) → is_frame (Some (renamed to node)) ≡ is_frame (Some node)
renamed-frame to (Symbol s) = refl
renamed-frame to _ = refl

get-frame : (nodes : List Node) (n : ℕ) → is_frame (slice_get nodes n) ≡ true → is_frame (Some (get_or nodes n (Str []))) ≡ true
get-frame [] n h = cc
get-frame (x ∷ nodes) zero h = h
get-frame (x ∷ nodes) (suc n) h = get-frame nodes n h

first-number : (n : ℕ) (rest : List ℕ) → number (n ∷ rest) n ≡ 0
unfolding place
first-number n rest = ap (λ (b : Bool). found (cond b (Some 0) (position_from (λ j. j == n) (0 + 1) rest))) (eq-eqb n n refl)

numbered-frame : (nodes : List Node) (n : ℕ) (rest : List ℕ) → is_frame (slice_get nodes n) ≡ true
    → is_frame (slice_get (moved nodes (n ∷ rest) (n ∷ rest)) (number (n ∷ rest) n)) ≡ true
numbered-frame nodes n rest h = ap (λ k. is_frame (slice_get (moved nodes (n ∷ rest) (n ∷ rest)) k)) (first-number n rest)
    ∙ renamed-frame (number (n ∷ rest)) (get_or nodes n (Str [])) ∙ get-frame nodes n h

limited-is : (g h : RawGraph) → limited g ≡ Some h → g ≡ h
limited-is g h e = go (nat_le (length g.nodes) 65535 && nat_le (sum_by payload g.nodes) 16777216) e
  where
    go : (b : Bool) → cond b (Some g) None ≡ Some h → g ≡ h
    go true f = some-same _ _ f
    go false f = cc

pub normal-frame : (g h : RawGraph) → is_frame (object g.nodes g.root) ≡ true → normal_form g ≡ Some h → is_frame (object h.nodes h.root) ≡ true
unfolding normal_form
normal-frame g h frame e = go g.root frame e
  where
    found-frame : (n : ℕ) → is_frame (slice_get g.nodes n) ≡ true → (o : Option Seen) → meet g.nodes 200 (record { order = []; count = length g.nodes }) (At n) ≡ o
        → (o >>= (λ seen. limited (numbered (record { nodes = g.nodes; root = At n }) seen))) ≡ Some h → is_frame (object h.nodes h.root) ≡ true
    found-frame n f None is k = cc
    found-frame n f (Some seen) is k =
        let b = begins-root g.nodes n f seen is in
        let same = limited-is (numbered (record { nodes = g.nodes; root = At n }) seen) h k in
        subst (λ (x : RawGraph). is_frame (object x.nodes x.root) ≡ true) same
        (ap (λ (order : List ℕ). is_frame (slice_get (moved g.nodes order order) (number order n))) b.1 ∙ numbered-frame g.nodes n b.0 f)

    go : (r : Ref) → is_frame (object g.nodes r) ≡ true
        → (meet g.nodes 200 (record { order = []; count = length g.nodes }) r >>= (λ seen. limited (numbered (record { nodes = g.nodes; root = r }) seen))) ≡ Some h → is_frame (object h.nodes h.root) ≡ true
    go (Imm w) f k = cc
    go (At n) f k = found-frame n f (meet g.nodes 200 (record { order = []; count = length g.nodes }) (At n)) refl k

-- ---- a slot set

with-slot-frame : (o : Option ℕ) (tag : ℕ) (v : Ref) (tags : List ℕ) (values : List Ref) → is_frame (Some (with_slot o tag v tags values)) ≡ true
with-slot-frame None tag v tags values = refl
with-slot-frame (Some i) tag v tags values = refl

set-slot-frame : (nodes : List Node) (name : List ℕ) (v : Ref) (node : Node) → is_frame (Some (set_slot nodes name v node)) ≡ is_frame (Some node)
set-slot-frame nodes name v (Frame tags values) = with-slot-frame (slot_number nodes name tags) (unwrap_or (symbol_number nodes name) 0) v tags values
set-slot-frame nodes name v node = refl

more-frame : (nodes more : List Node) (k : ℕ) → is_frame (slice_get nodes k) ≡ true → is_frame (slice_get (nodes ++ more) k) ≡ true
more-frame [] more k h = cc
more-frame (x ∷ nodes) more zero h = h
more-frame (x ∷ nodes) more (suc k) h = more-frame nodes more k h

put-frame : (g : RawGraph) (name : List ℕ) (value : RawGraph) (frame : ℕ) → is_frame (object g.nodes g.root) ≡ true
    → is_frame (object (put_into g name value frame).nodes (put_into g name value frame).root) ≡ true
put-frame g name value frame h = go g.root h
  where
    go : (r : Ref) → is_frame (object g.nodes r) ≡ true → is_frame (object (put_into g name value frame).nodes r) ≡ true
    go (Imm w) e = cc
    go (At k) e = nth-nth is_frame frame k _ _ (set-slot-frame _ name _) ∙ more-frame _ _ k (more-frame g.nodes _ k e)

pub set-frame : (path : Path) (value g h : RawGraph) → is_frame (object g.nodes g.root) ≡ true → put g path value ≡ Some h → is_frame (object h.nodes h.root) ≡ true
set-frame path value g h frame e = last (last_or None path) e
  where
    kept : (o : Option ℕ) (name : List ℕ) → option_map (put_into g name value) o ≡ Some h → is_frame (object h.nodes h.root) ≡ true
    kept None name f = cc
    kept (Some n) name f = subst (λ (x : RawGraph). is_frame (object x.nodes x.root) ≡ true) (some-same _ _ f) (put-frame g name value n frame)

    last : (o : Option (List ℕ)) → option_and_then (λ name. option_map (put_into g name value) (option_and_then (frame_number g.nodes) (value_at g (but_last path)))) o ≡ Some h
        → is_frame (object h.nodes h.root) ≡ true
    last None f = cc
    last (Some name) f = kept (option_and_then (frame_number g.nodes) (value_at g (but_last path))) name f
