-- Graphs that differ only in the bytes of large binaries of the same lengths are within the limits alike.
use Rattle.std.proofs.Common.{◌≡◌, refl, ap, sym, ◌∙◌, ℕ, zero, suc, ◌+◌, List, [], ◌∷◌, true, false, Bool, ◌&&◌, cond, Option, Some, None, length, nat_le, is_some, get_or, sum_by, if◌then◌else◌}
use Rattle.std.specs.Prelude.{slice_get}
use Rattle.std.specs.List.{list_all}
use Rattle.std.proofs.Math.Path.{fun_ext}
use Rattle.std.proofs.lemmas.List.Sums.{sum_by-cons}
use Rattle.newt_graph.specs.Draft.{is_small}
use Rattle.newt_graph.specs.declared.node.Ref.{Ref}
use Rattle.newt_graph.specs.declared.node.Ref.TheVariants.{Imm, Node as At}
use Rattle.newt_graph.specs.declared.node.Node.{Node}
use Rattle.newt_graph.specs.declared.node.Node.TheVariants.{Symbol, Str, Large}
use Rattle.newt_graph.specs.Graph.{RawGraph, payload}
use Rattle.newt_graph.specs.Raw.{renamed}
use Rattle.newt_graph.specs.Steps.{◌>>=◌}
use Rattle.newt_graph.specs.Meeting.{Seen, Step, is_new, added, enter, meet_by, meet, number, moved, limited, numbered, normal_form}
use Rattle.newt_spec_graph.specs.Graph.{object, is_frame}
use Rattle.newt_spec_graph.specs.Limits.{within_limits}
use Rattle.newt_laws_images.proofs.Both.{Both}

-- two nodes that are seen alike by all that looks at no bytes of large binaries
pub record Alike (a b : Node) : Type 0 where
  pub entered : (inner : Option Step) (seen : Seen) → enter inner seen (Some a) ≡ enter inner seen (Some b)
  pub heavy : payload a ≡ payload b
  pub small : is_small a ≡ is_small b
  pub framed : is_frame (Some a) ≡ is_frame (Some b)

pub same-node : (a : Node) → Alike a a
same-node a = record { entered = λ inner seen. refl; heavy = refl; small = refl; framed = refl }

pub same-large : (c : ℕ) (a b : List ℕ) → length a ≡ length b → Alike (Large c a) (Large c b)
unfolding enter
same-large c a b h = record { entered = λ inner seen. refl; heavy = h; small = ap (λ n. nat_le n 1_000_000) h; framed = refl }

-- what is seen of the nodes of two lists
both-get : {Y : Type 0} (f : Option Node → Y) → ((a b : Node) → Alike a b → f (Some a) ≡ f (Some b)) → (xs ys : List Node) (k : ℕ) → Both Alike xs ys → f (slice_get xs k) ≡ f (slice_get ys k)
both-get f same [] [] k h = refl
both-get f same [] (y ∷ ys) k h = absurd h
both-get f same (x ∷ xs) [] k h = absurd h
both-get f same (x ∷ xs) (y ∷ ys) zero h = same x y h.0
both-get f same (x ∷ xs) (y ∷ ys) (suc k) h = both-get f same xs ys k h.1

both-or : (xs ys : List Node) (k : ℕ) → Both Alike xs ys → payload (get_or xs k (Str [])) ≡ payload (get_or ys k (Str []))
both-or [] [] k h = refl
both-or [] (y ∷ ys) k h = absurd h
both-or (x ∷ xs) [] k h = absurd h
both-or (x ∷ xs) (y ∷ ys) zero h = h.0.heavy
both-or (x ∷ xs) (y ∷ ys) (suc k) h = both-or xs ys k h.1

both-count : (xs ys : List Node) → Both Alike xs ys → length xs ≡ length ys
both-count [] [] h = refl
both-count [] (y ∷ ys) h = absurd h
both-count (x ∷ xs) [] h = absurd h
both-count (x ∷ xs) (y ∷ ys) h = ap suc (both-count xs ys h.1)

both-within : (xs ys : List Node) → Both Alike xs ys → list_all is_small xs ≡ list_all is_small ys
both-within [] [] h = refl
both-within [] (y ∷ ys) h = absurd h
both-within (x ∷ xs) [] h = absurd h
both-within (x ∷ xs) (y ∷ ys) h = λ i. h.0.small i && both-within xs ys h.1 i

-- ---- the walk

-- two lists of nodes of which each node is entered alike are walked alike
meet-by-same : (ms ns : List Node) (ia ib : Option Step) → ia ≡ ib → ((inner : Option Step) (seen : Seen) (k : ℕ) → enter inner seen (slice_get ms k) ≡ enter inner seen (slice_get ns k))
    → (seen : Seen) (value : Ref) → meet_by ms ia seen value ≡ meet_by ns ib seen value
unfolding meet_by
meet-by-same ms ns ia ib same alike seen (Imm w) = refl
meet-by-same ms ns ia ib same alike seen (At k) =
    ap (λ o. if is_new seen k then o else Some seen) (ap (λ i. enter i (added seen k) (slice_get ms k)) same ∙ alike ib (added seen k) k)

meet-same : (room : ℕ) (ms ns : List Node) → ((inner : Option Step) (seen : Seen) (k : ℕ) → enter inner seen (slice_get ms k) ≡ enter inner seen (slice_get ns k))
    → (seen : Seen) (value : Ref) → meet ms room seen value ≡ meet ns room seen value
unfolding meet
meet-same zero ms ns alike seen value = meet-by-same ms ns None None refl alike seen value
meet-same (suc room) ms ns alike seen value =
    meet-by-same ms ns _ _ (ap Some (fun_ext (λ s. fun_ext (λ v. meet-same room ms ns alike s v)))) alike seen value

-- ---- the nodes of a normal form

renamed-payload : (to : ℕ → ℕ) (node : Node) → payload (renamed to node) ≡ payload node
renamed-payload to (Symbol s) = refl
renamed-payload to node = refl

moved-payload : (xs ys : List Node) → Both Alike xs ys → (order ks : List ℕ) → sum_by payload (moved xs order ks) ≡ sum_by payload (moved ys order ks)
moved-payload xs ys h order [] = refl
moved-payload xs ys h order (k ∷ ks) =
    let one = renamed-payload (number order) (get_or xs k (Str [])) ∙ both-or xs ys k h ∙ sym (renamed-payload (number order) (get_or ys k (Str []))) in
    let others = moved-payload xs ys h order ks in
    sum_by-cons payload (renamed (number order) (get_or xs k (Str []))) (moved xs order ks)
    ∙ ap (λ m. m + sum_by payload (moved xs order ks)) one ∙ ap (λ m. payload (renamed (number order) (get_or ys k (Str []))) + m) others
    ∙ sym (sum_by-cons payload (renamed (number order) (get_or ys k (Str []))) (moved ys order ks))

moved-length : (xs ys : List Node) (order ks : List ℕ) → length (moved xs order ks) ≡ length (moved ys order ks)
moved-length xs ys order [] = refl
moved-length xs ys order (k ∷ ks) = ap suc (moved-length xs ys order ks)

limited-same : (g h : RawGraph) → length g.nodes ≡ length h.nodes → sum_by payload g.nodes ≡ sum_by payload h.nodes → is_some (limited g) ≡ is_some (limited h)
limited-same g h few light = go (nat_le (length g.nodes) 65535 && nat_le (sum_by payload g.nodes) 16777216) g
    ∙ ap (λ k. nat_le k 65535 && nat_le (sum_by payload g.nodes) 16777216) few
    ∙ ap (λ k. nat_le (length h.nodes) 65535 && nat_le k 16777216) light
    ∙ sym (go (nat_le (length h.nodes) 65535 && nat_le (sum_by payload h.nodes) 16777216) h)
  where
    go : (b : Bool) (x : RawGraph) → is_some (cond b (Some x) None) ≡ b
    go true x = refl
    go false x = refl

bind-same : (o : Option Seen) (f g : Seen → Option RawGraph) → ((s : Seen) → is_some (f s) ≡ is_some (g s)) → is_some (o >>= f) ≡ is_some (o >>= g)
bind-same None f g h = refl
bind-same (Some s) f g h = h s

module _ (g h : RawGraph) (root : g.root ≡ h.root) (both : Both Alike g.nodes h.nodes) where
  alike-meet : (seen : Seen) (value : Ref) → meet g.nodes 200 seen value ≡ meet h.nodes 200 seen value
  alike-meet seen value = meet-same 200 g.nodes h.nodes (λ inner s k. both-get (enter inner s) (λ a b e. e.entered inner s) g.nodes h.nodes k both) seen value

  alike-normal : is_some (normal_form g) ≡ is_some (normal_form h)
  unfolding normal_form
  alike-normal =
      ap (λ k. is_some (meet g.nodes 200 (record { order = []; count = k }) g.root >>= (λ seen. limited (numbered g seen)))) (both-count g.nodes h.nodes both)
      ∙ ap (λ r. is_some (meet g.nodes 200 (record { order = []; count = length h.nodes }) r >>= (λ seen. limited (numbered g seen)))) root
      ∙ ap (λ o. is_some (o >>= (λ seen. limited (numbered g seen)))) (alike-meet (record { order = []; count = length h.nodes }) h.root)
      ∙ bind-same (meet h.nodes 200 (record { order = []; count = length h.nodes }) h.root) _ _
      (λ seen. limited-same (numbered g seen) (numbered h seen) (moved-length g.nodes h.nodes seen.order seen.order) (moved-payload g.nodes h.nodes both seen.order seen.order))

  pub alike-limits : within_limits g ≡ within_limits h
  alike-limits = λ i. alike-normal i && both-within g.nodes h.nodes both i

  alike-at : (r : Ref) → is_frame (object g.nodes r) ≡ is_frame (object h.nodes r)
  alike-at (Imm w) = refl
  alike-at (At k) = both-get is_frame (λ a b e. e.framed) g.nodes h.nodes k both

  pub alike-frame : is_frame (object g.nodes g.root) ≡ is_frame (object h.nodes h.root)
  alike-frame = ap (λ r. is_frame (object g.nodes r)) root ∙ alike-at h.root
