-- Declarations that agree give one key.
use Rattle.std.proofs.Common.{arith, ◌≡◌, refl, ap, sym, ◌∙◌, ℕ, Bool, true, false, ◌&&◌, ◌||◌, ◌==◌, List, [], ◌∷◌, length, map, find, Option, Some, None, option_map, option_and_then, cond}
use Rattle.std.specs.Prelude.{zip, slice_get}
use Rattle.std.specs.List.{list_all, list_any, position}
use Rattle.std.specs.Str.{bytes_eq, str_to_ascii_lowercase}
use Rattle.std.proofs.lemmas.Bool.{and_parts, eqb-true}
use Rattle.std.proofs.lemmas.Slice.Eq.{bytes_eq-Decides}
use Rattle.newt_base.specs.Names.{same_name, same_path}
use Rattle.newt_graph.specs.declared.node.Ref.{Ref}
use Rattle.newt_graph.specs.declared.node.Node.{Node}
use Rattle.newt_graph.specs.declared.node.Node.TheVariants.{Symbol, Frame}
use Rattle.newt_graph.specs.Graph.{RawGraph}
use Rattle.newt_spec_graph.specs.Graph.{object}
use Rattle.newt_spec_graph.specs.Slots.{is_named, slot_value, value_below, value_at}
use Rattle.newt_spec_graph.proofs.Lists.{none-some}
use Rattle.newt_spec_store.specs.declared.Kind.{Kind}
use Rattle.newt_spec_store.specs.declared.Kind.TheVariants as kind
use Rattle.newt_spec_store.specs.declared.Order.{Order}
use Rattle.newt_spec_store.specs.declared.Order.TheVariants as order
use Rattle.newt_spec_store.specs.Keys.{IndexPart, IndexSpec, Path, Part, key, part_of, if_first_is_there, same_kind, same_direction, same_part, same_spec}
use Rattle.newt_spec_store.specs.Store.{Soup}
use Rattle.newt_spec_query.specs.Hits.{carries}
use Rattle.newt_laws_images.proofs.Chosen.{find-passes}
use Rattle.newt_index.specs.Pairs.{Sorted, parts_of}
use Rattle.newt_index.specs.Range.{range_of}
use Rattle.newt_index_ranges.specs.Range.{range_of_soup}
use Rattle.newt_union.specs.Merged.{Agree}
use Rattle.newt_laws_hits.specs.Taking.{declared}

-- ---- one value at paths that agree

named-same : (a b : List ℕ) → same_name a b ≡ true → (o : Option Node) → is_named a o ≡ is_named b o
named-same a b h (Some (Symbol other)) = ap (λ x. bytes_eq x (str_to_ascii_lowercase other)) ((bytes_eq-Decides (str_to_ascii_lowercase a) (str_to_ascii_lowercase b)).0 h)
named-same a b h _ = refl

slot-same : (nodes : List Node) (a b : List ℕ) → same_name a b ≡ true → (o : Option Node) → slot_value nodes a o ≡ slot_value nodes b o
slot-same nodes a b h (Some (Frame tags values)) =
    λ i. option_and_then (slice_get values) (position (λ t. named-same a b h (slice_get nodes t) i) tags)
slot-same nodes a b h _ = refl

-- the elements of two lists agree one by one
abbrev Agreeing : {X : Type 0} → (X → X → Bool) → List X → List X → Type 0
Agreeing same xs ys = (length xs ≡ length ys) × (list_all (λ p. same p.0 p.1) (zip xs ys) ≡ true)

agreeing : {X : Type 0} (same : X → X → Bool) (xs ys : List X) → ((length xs == length ys) && list_all (λ p. same p.0 p.1) (zip xs ys)) ≡ true → Agreeing same xs ys
agreeing same xs ys h =
    let p = and_parts (length xs == length ys) (list_all (λ p. same p.0 p.1) (zip xs ys)) h in
    (eqb-true (length xs) (length ys) p.0, p.1)

more : {X : Type 0} (same : X → X → Bool) (x y : X) (xs ys : List X) → Agreeing same (x ∷ xs) (y ∷ ys) → (same x y ≡ true) × Agreeing same xs ys
more same x y xs ys h =
    let p = and_parts (same x y) (list_all (λ p. same p.0 p.1) (zip xs ys)) h.1 in
    let l = h.0 in
    (p.0, (omega (arith, l), p.1))

value-same : (nodes : List Node) (v : Ref) (ps qs : Path) → Agreeing same_name ps qs → value_below nodes v ps ≡ value_below nodes v qs
value-same nodes v [] [] h = refl
value-same nodes v [] (q ∷ qs) h = let l = h.0 in absurd (omega (arith, l))
value-same nodes v (p ∷ ps) [] h = let l = h.0 in absurd (omega (arith, l))
value-same nodes v (p ∷ ps) (q ∷ qs) h =
    let m = more same_name p q ps qs h in
    ap (option_and_then (λ w. value_below nodes w ps)) (slot-same nodes p q m.0 (object nodes v))
    ∙ (λ i. option_and_then (λ w. value-same nodes w ps qs m.1 i) (slot_value nodes q (object nodes v)))

-- ---- one key

pub kind-same : (a b : Kind) → same_kind a b ≡ true → a ≡ b
kind-same kind.Text kind.Text h = refl
kind-same kind.Int kind.Int h = refl
kind-same kind.Char kind.Char h = refl
kind-same kind.Symbol kind.Symbol h = refl
kind-same _ _ h = cc

pub direction-same : (a b : Order) → same_direction a b ≡ true → a ≡ b
direction-same order.Ascend order.Ascend h = refl
direction-same order.Descend order.Descend h = refl
direction-same _ _ h = cc

record PartsAgree (p q : IndexPart) : Type 0 where
  paths : Agreeing same_name p.path q.path
  kinds : p.kind ≡ q.kind
  directions : p.direction ≡ q.direction

parts-agree : (p q : IndexPart) → same_part p q ≡ true → PartsAgree p q
parts-agree p q h =
    let a = and_parts (same_path p.path q.path && same_kind p.kind q.kind) (same_direction p.direction q.direction) h in
    let b = and_parts (same_path p.path q.path) (same_kind p.kind q.kind) a.0 in
    record { paths = agreeing same_name p.path q.path b.0; kinds = kind-same p.kind q.kind b.1; directions = direction-same p.direction q.direction a.1 }

part_in : RawGraph → IndexPart → Part
part_in g p = part_of g.nodes p.kind (value_at g p.path)

keys-agree : (g : RawGraph) (ps qs : IndexSpec) → Agreeing same_part ps qs → map (part_in g) ps ≡ map (part_in g) qs
unfolding part_in
keys-agree g [] [] h = refl
keys-agree g [] (q ∷ qs) h = let l = h.0 in absurd (omega (arith, l))
keys-agree g (p ∷ ps) [] h = let l = h.0 in absurd (omega (arith, l))
keys-agree g (p ∷ ps) (q ∷ qs) h =
    let m = more same_part p q ps qs h in
    let a = parts-agree p q m.0 in
    λ i. part_of g.nodes (a.kinds i) (value-same g.nodes g.root p.path q.path a.paths i) ∷ keys-agree g ps qs m.1 i

pub key-same : (g : RawGraph) (ps qs : IndexSpec) → same_spec ps qs ≡ true → key g ps ≡ key g qs
unfolding part_in
key-same g ps qs h = ap if_first_is_there (keys-agree g ps qs (agreeing same_part ps qs h))

agree-from : (ps qs : IndexSpec) → Agreeing same_part ps qs → Agree ps qs
agree-from [] [] h = tt
agree-from [] (q ∷ qs) h = let l = h.0 in absurd (omega (arith, l))
agree-from (p ∷ ps) [] h = let l = h.0 in absurd (omega (arith, l))
agree-from (p ∷ ps) (q ∷ qs) h =
    let m = more same_part p q ps qs h in
    let a = parts-agree p q m.0 in
    (a.kinds, a.directions, agree-from ps qs m.1)

-- ---- the range of a soup by an index

-- a range whose keys are those of the index
pub record IsRangeFor (index : IndexSpec) (p : Soup) (r : Sorted) : Type 0 where
  pub declared_by : Option IndexSpec
  pub range_is : r ≡ range_of declared_by p.entries
  pub keys : (g : RawGraph) → key g (parts_of declared_by) ≡ key g index
  pub agree : Agree index (parts_of declared_by)

find-any : {X : Type 0} (test : X → Bool) (xs : List X) → list_any test xs ≡ true → (x : X) × (find test xs ≡ Some x)
find-any test [] h = cc
find-any test (x ∷ xs) h = go (test x) refl h (find-any test xs)
  where
    go : (b : Bool) → test x ≡ b → (b || list_any test xs) ≡ true → (list_any test xs ≡ true → (y : _) × (find test xs ≡ Some y)) → (y : _) × (cond b (Some x) (find test xs) ≡ Some y)
    go true e h more = (x, refl)
    go false e h more = more h

any-find : {X : Type 0} (test : X → Bool) (xs : List X) (x : X) → find test xs ≡ Some x → list_any test xs ≡ true
any-find test [] x h = absurd (none-some x h)
any-find test (y ∷ xs) x h = go (test y) h (any-find test xs x)
  where
    go : (b : Bool) → cond b (Some y) (find test xs) ≡ Some x → (find test xs ≡ Some x → list_any test xs ≡ true) → (b || list_any test xs) ≡ true
    go true h more = refl
    go false h more = more h

pub carried-range : (index : IndexSpec) (p : Soup) → carries index p ≡ true → (r : Sorted) × (range_of_soup (declared index) p ≡ Some r)
carried-range [] p h = (range_of None p.entries, refl)
carried-range (i ∷ index) p h =
    let f = find-any (same_spec (i ∷ index)) p.specs h in
    (range_of (Some f.0) p.entries, ap (option_map (λ d. range_of (Some d) p.entries)) f.1)

pub range-carried : (index : IndexSpec) (p : Soup) (r : Sorted) → range_of_soup (declared index) p ≡ Some r → (carries index p ≡ true) × IsRangeFor index p r
range-carried [] p r h = (refl, record { declared_by = None; range_is = sym (same (range_of None p.entries) r h); keys = λ g. refl; agree = tt })
  where
    same : (a b : Sorted) → Some a ≡ Some b → a ≡ b
    same a b h = cc
range-carried (i ∷ index) p r h = go (find (same_spec (i ∷ index)) p.specs) refl h
  where
    same : (a b : Sorted) → Some a ≡ Some b → a ≡ b
    same a b h = cc

    go : (o : Option IndexSpec) → find (same_spec (i ∷ index)) p.specs ≡ o → option_map (λ d. range_of (Some d) p.entries) o ≡ Some r
        → (carries (i ∷ index) p ≡ true) × IsRangeFor (i ∷ index) p r
    go None e h = absurd (none-some r h)
    go (Some d) e h =
        let t = (find-passes (same_spec (i ∷ index)) p.specs d e).0 in (
          any-find (same_spec (i ∷ index)) p.specs d e,
          record {
            declared_by = Some d;
            range_is = sym (same (range_of (Some d) p.entries) r h);
            keys = λ g. sym (key-same g (i ∷ index) d t);
            agree = agree-from (i ∷ index) d (agreeing same_part (i ∷ index) d t);
          },
        )
