-- What a text writes down next: a symbol, an open node, and what fills it.
use Rattle.std.proofs.Common.{◌≡◌, ℕ, zero, suc, ◌+◌, ◌<◌, ◌≤◌, Bool, true, false, ltb, eqb, List, [], ◌∷◌, ◌++◌, length, set, Option, Some, None, refl, sym, ap, ◌∙◌, subst, arith, inl, inr, ◌⊎◌}
use Rattle.std.specs.Prelude.{slice_get, nat_le}
use Rattle.std.specs.List.{list_any, sum_by}
use Rattle.std.specs.Str.{str_eq_ignore_ascii_case, str_to_ascii_lowercase}
use Rattle.std.proofs.lemmas.Bool.{lt-ltb, le-leb, ltb-true, ltb-false, eqb-true, eqb-false, or_parts, eq-eqb}
use Rattle.std.proofs.lemmas.List.{append-nil}
use Rattle.std.proofs.lemmas.List.Sums.{sum_by_push, sum_by-set}
use Rattle.std.proofs.lemmas.Option.{slice_get_within}
use Rattle.std.proofs.lemmas.Slice.Eq.{bytes_eq-Decides}
use Rattle.newt_graph.specs.declared.node.Node.{Node}
use Rattle.newt_graph.specs.declared.node.Node.TheVariants as nodes
use Rattle.newt_graph.specs.Graph.{IsNamed, AreFoldedOnce, folded, payload}
use Rattle.newt_graph.specs.Draft.{is_alike, find_alike, known, with_symbol, with_held, with_filled, is_small}
use Rattle.newt_spec_literal.specs.Built.{Built, beside, symbol_in, held, filled, node_of}
use Rattle.newt_spec_literal.specs.Printed.{is_symbol, label_of}
use Rattle.newt_graph.proofs.Elements.{get_append, found_at}
use Rattle.newt_spec_literal.proofs.Lists.{get_last, get_split, get_set, found_none}
use Rattle.newt_spec_literal.proofs.Images.{NodeStands, node_keeps}
use Rattle.newt_spec_literal.proofs.Stands.{Stands, no_symbol, order_pushed, order_filled, room_left}

-- one more in both lists
split : {A B : Type 0} (seen : List A) (built : List B) (k : A) (cell : B) (p : ℕ) (j : A) (node : B) → length built ≡ length seen → slice_get (seen ++ k ∷ []) p ≡ Some j → slice_get (built ++ cell ∷ []) p ≡ Some node
    → ((slice_get seen p ≡ Some j) × (slice_get built p ≡ Some node)) ⊎ ((j ≡ k) × (node ≡ cell))
split seen built k cell p j node same e f = elim (get_split seen k j p e) [
  | inl old ↦ elim (get_split built cell node p f) [
    | inl also ↦ inl (old, also)
    | inr last ↦ absurd (omega (arith, slice_get_within seen p j old, last.0, same))
  ]
  | inr last ↦ elim (get_split built cell node p f) [
    | inl old ↦ absurd (omega (arith, slice_get_within built p node old, last.0, same))
    | inr also ↦ inr (sym last.1, sym also.1)
  ]
]

-- ---- symbols

same_text : (name : List ℕ) → str_eq_ignore_ascii_case name name ≡ true
same_text name = (bytes_eq-Decides (str_to_ascii_lowercase name) (str_to_ascii_lowercase name)).1 refl

alike_tells : (name : List ℕ) (cell : Node) → is_alike name cell ≡ true → (old : List ℕ) × (cell ≡ nodes.Symbol old) × (str_eq_ignore_ascii_case old name ≡ true)
alike_tells name (nodes.Symbol old) e = (old, refl, e)
alike_tells name (nodes.Str u) e = absurd cc
alike_tells name (nodes.Binary c u) e = absurd cc
alike_tells name (nodes.Large c u) e = absurd cc
alike_tells name (nodes.Array c u) e = absurd cc
alike_tells name (nodes.Frame c u) e = absurd cc

-- what naming a symbol gives
pub record SymbolIn (graph : List Node) (labels : List (Option ℕ)) (met : ℕ) (seen open_nodes : List ℕ) (b : Built) (k : ℕ) (name : List ℕ) : Type 0 where
  pub q : ℕ
  pub after : Built
  pub extra : List ℕ
  pub is : symbol_in b name ≡ Some (q, after)
  pub stands : Stands graph labels met (seen ++ extra) open_nodes after
  pub back : slice_get (seen ++ extra) q ≡ Some k
  pub weight : sum_by payload after.nodes ≡ sum_by payload b.nodes

-- a symbol that the text has not met
new_symbol : (graph : List Node) (labels : List (Option ℕ)) (met : ℕ) (seen open_nodes : List ℕ) (b : Built) (k : ℕ) (name : List ℕ) → Stands graph labels met seen open_nodes b → IsNamed graph k name
    → ((p : ℕ) → slice_get seen p ≡ Some k → ⊥) → Stands graph labels met (seen ++ k ∷ []) open_nodes (record { nodes = b.nodes ++ nodes.Symbol name ∷ []; labels = b.labels })
new_symbol graph labels met seen open_nodes b k name s named fresh = record {
  order = order_pushed graph seen b.nodes k (nodes.Symbol name) s.order fresh (slice_get_within graph k (nodes.Symbol name) named) (λ other is. let f : nodes.Symbol name ≡ nodes.Symbol other = cc in f)
      (λ other is. named ∙ ap (λ (x : Node). Some x) is);
  each = λ p j node e f closed. elim (split seen b.nodes k (nodes.Symbol name) p j node s.order.same e f) [
    | inl old ↦ let o = s.each p j node old.0 old.1 closed in (o.0, o.1, node_keeps (k ∷ []) o.2)
    | inr last ↦ (nodes.Symbol name, ap (slice_get graph) last.0 ∙ named, subst (λ (x : Node). NodeStands (seen ++ k ∷ []) x (nodes.Symbol name)) (sym last.1) NodeStands.symbol)
  ];
  below = λ p j e. elim (get_split seen k j p e) [
    | inl old ↦ s.below p j old
    | inr last ↦ inr (name, ap (slice_get graph) (sym last.1) ∙ named)
  ];
  covers = λ j node lt here object. let c = s.covers j node lt here object in (c.0, get_append seen (k ∷ []) c.0 j c.1);
  given = λ j l node lt here object label. let c = s.given j l node lt here object label in (c.0, c.1, get_append seen (k ∷ []) c.0 j c.2);
  only = s.only;
}

pub symbol_stands : (graph : List Node) (labels : List (Option ℕ)) (met : ℕ) (seen open_nodes : List ℕ) (b : Built) (k : ℕ) (name : List ℕ) → length graph ≤ 65535 → AreFoldedOnce graph
    → Stands graph labels met seen open_nodes b → IsNamed graph k name → SymbolIn graph labels met seen open_nodes b k name
unfolding symbol_in with_symbol find_alike
symbol_stands graph labels met seen open_nodes b k name limit once s named = go (find_alike name b.nodes) refl
  where
    go : (o : Option ℕ) → find_alike name b.nodes ≡ o → SymbolIn graph labels met seen open_nodes b k name
    go (Some q) e =
        let f = found_at (is_alike name) 0 b.nodes q e in
        let old = alike_tells name f.1 f.4 in
        let n = s.order.names f.0 old.0 (f.3 ∙ ap (λ (x : Node). Some x) old.1) in
        let same : k ≡ n.0 = once k n.0 name named (old.0, n.2, (bytes_eq-Decides (folded old.0) (folded name)).0 old.2) in
        let place : q ≡ f.0 = omega (arith, f.2) in
        record {
          q = q;
          after = b;
          extra = [];
          is = ap (λ (o : Option ℕ). beside b.labels (known b.nodes name o)) e;
          stands = subst (λ (l : List ℕ). Stands graph labels met l open_nodes b) (sym (append-nil seen)) s;
          back = rw (place, append-nil seen) (n.1 ∙ ap (λ (j : ℕ). Some j) (sym same));
          weight = refl;
        }
    go None e =
        let fresh : (p : ℕ) → slice_get seen p ≡ Some k → ⊥ = λ p at_k.
        let is : is_alike name (nodes.Symbol name) ≡ false = found_none (is_alike name) 0 b.nodes p (nodes.Symbol name) e (s.order.symbols p k name at_k named) in
        let wrong : true ≡ false = sym (same_text name) ∙ is in
        absurd cc in
        let t = new_symbol graph labels met seen open_nodes b k name s named fresh in
        let room : length b.nodes < 131072 = room_left graph seen b.nodes k (nodes.Symbol name) limit t.order in
        record {
          q = length b.nodes;
          after = record { nodes = b.nodes ++ nodes.Symbol name ∷ []; labels = b.labels };
          extra = k ∷ [];
          is = ap (λ (o : Option ℕ). beside b.labels (known b.nodes name o)) e ∙ rw (lt-ltb (length b.nodes) 131072 room) refl;
          stands = t;
          back = rw s.order.same (get_last seen k);
          weight = sum_by_push payload b.nodes (nodes.Symbol name) ∙ omega arith;
        }

-- ---- an object that is opened

-- the labels when the next node has one
abbrev pub marked_labels : Built → Option ℕ → List (ℕ × ℕ)
marked_labels b None = b.labels
marked_labels b (Some l) = b.labels ++ (l, length b.nodes) ∷ []

abbrev pub marked : Built → Option ℕ → Built
marked b label = record { nodes = b.nodes; labels = marked_labels b label }

node_of_left : (l q : ℕ) (old new : List (ℕ × ℕ)) → node_of l old ≡ Some q → node_of l (old ++ new) ≡ Some q
node_of_left l q [] new e = absurd cc
node_of_left l q (x ∷ xs) new e = go (λ e. node_of_left l q xs new e) (eqb x.0 l) refl
  where
    go : (node_of l xs ≡ Some q → node_of l (xs ++ new) ≡ Some q) → (t : Bool) → eqb x.0 l ≡ t → node_of l ((x ∷ xs) ++ new) ≡ Some q
    go others true is = rw is (rw is at e)
    go others false is = rw is (others (rw is at e))

node_of_last : (l q : ℕ) (old : List (ℕ × ℕ)) → node_of l old ≡ None → node_of l (old ++ (l, q) ∷ []) ≡ Some q
node_of_last l q [] e = rw (eq-eqb l l refl) refl
node_of_last l q (x ∷ xs) e = go (λ e. node_of_last l q xs e) (eqb x.0 l) refl
  where
    go : (node_of l xs ≡ None → node_of l (xs ++ (l, q) ∷ []) ≡ Some q) → (t : Bool) → eqb x.0 l ≡ t → node_of l ((x ∷ xs) ++ (l, q) ∷ []) ≡ Some q
    go others true is = let wrong : Some x.1 ≡ None = rw is at e in absurd cc
    go others false is = rw is (others (rw is at e))

node_of_split : (l q m n : ℕ) (old : List (ℕ × ℕ)) → node_of l (old ++ (m, n) ∷ []) ≡ Some q → (node_of l old ≡ Some q) ⊎ (l ≡ m)
node_of_split l q m n [] e = go (eqb m l) refl
  where
    go : (t : Bool) → eqb m l ≡ t → (node_of l [] ≡ Some q) ⊎ (l ≡ m)
    go true is = inr (sym (eqb-true m l is))
    go false is = let wrong : None ≡ Some q = rw is at e in absurd cc
node_of_split l q m n (x ∷ xs) e = go (λ e. node_of_split l q m n xs e) (eqb x.0 l) refl
  where
    go : (node_of l (xs ++ (m, n) ∷ []) ≡ Some q → (node_of l xs ≡ Some q) ⊎ (l ≡ m)) → (t : Bool) → eqb x.0 l ≡ t → (node_of l (x ∷ xs) ≡ Some q) ⊎ (l ≡ m)
    go others true is = inl (rw is (rw is at e))
    go others false is = elim (others (rw is at e)) [ inl h ↦ inl (rw is h) | inr h ↦ inr h ]

pub record Opened (graph : List Node) (labels : List (Option ℕ)) (met : ℕ) (seen open_nodes : List ℕ) (b : Built) (label : Option ℕ) : Type 0 where
  pub after : Built
  pub is : held (marked b label) ≡ Some (length b.nodes, after)
  pub stands : Stands graph labels (met + 1) (seen ++ met ∷ []) (met ∷ open_nodes) after
  pub place : slice_get (seen ++ met ∷ []) (length b.nodes) ≡ Some met
  pub weight : sum_by payload after.nodes ≡ sum_by payload b.nodes

module _ (graph : List Node) (labels : List (Option ℕ)) (apart : (i j l : ℕ) → label_of labels i ≡ Some l → label_of labels j ≡ Some l → i ≡ j) where
  -- a label that has not been given
  pub unknown : (met : ℕ) (seen open_nodes : List ℕ) (b : Built) (l : ℕ) → Stands graph labels met seen open_nodes b → label_of labels met ≡ Some l → node_of l b.labels ≡ None
  unknown met seen open_nodes b l s label = go (node_of l b.labels) refl
    where
      go : (o : Option ℕ) → node_of l b.labels ≡ o → node_of l b.labels ≡ None
      go None e = e
      go (Some q) e = let k = s.only l q e in absurd (omega (arith, apart k.0 met l k.1 label, k.2))

  opened_stands : (met : ℕ) (x : Node) (seen open_nodes : List ℕ) (b : Built) (label : Option ℕ) → slice_get graph met ≡ Some x → is_symbol x ≡ false → label ≡ label_of labels met → Stands graph labels met seen open_nodes b
      → Stands graph labels (met + 1) (seen ++ met ∷ []) (met ∷ open_nodes) (record { nodes = b.nodes ++ nodes.Array None [] ∷ []; labels = marked_labels b label })
  opened_stands met x seen open_nodes b label here object label_is s =
      let fresh : (p : ℕ) → slice_get seen p ≡ Some met → ⊥ = λ p e. elim (s.below p met e) [ inl lt ↦ omega (arith, lt) | inr named ↦ no_symbol graph met x named.0 here object named.1 ] in
      record {
        order = order_pushed graph seen b.nodes met (nodes.Array None []) s.order fresh (slice_get_within graph met x here) (λ name named. absurd (no_symbol graph met x name here object named)) (λ name is. absurd cc);
        each = λ p j node e f closed.
            let parts = or_parts (eqb j met) (list_any (eqb j) open_nodes) closed in
            elim (split seen b.nodes met (nodes.Array None []) p j node s.order.same e f) [
              | inl old ↦ let o = s.each p j node old.0 old.1 parts.1 in (o.0, o.1, node_keeps (met ∷ []) o.2)
              | inr last ↦ absurd (eqb-false j met parts.0 last.0)
            ];
        below = λ p j e. elim (get_split seen met j p e) [
          | inl old ↦ elim (s.below p j old) [ inl lt ↦ inl (omega (arith, lt)) | inr named ↦ inr named ]
          | inr last ↦ inl (omega (arith, last.1))
        ];
        covers = λ j node lt j_here j_object. covered j node lt j_here j_object (ltb j met) refl;
        given = λ j l node lt j_here j_object j_label. given j l node lt j_here j_object j_label (ltb j met) refl;
        only = λ l q e. only l q label label_is e;
      }
    where
      covered : (j : ℕ) (node : Node) → j < met + 1 → slice_get graph j ≡ Some node → is_symbol node ≡ false → (t : Bool) → ltb j met ≡ t → (p : ℕ) × (slice_get (seen ++ met ∷ []) p ≡ Some j)
      covered j node lt j_here j_object true e = let c = s.covers j node (ltb-true j met e) j_here j_object in (c.0, get_append seen (met ∷ []) c.0 j c.1)
      covered j node lt j_here j_object false e = let same : met ≡ j = omega (arith, ltb-false j met e, lt) in (length seen, get_last seen met ∙ ap (λ (n : ℕ). Some n) same)

      left : (l q : ℕ) (o : Option ℕ) → node_of l b.labels ≡ Some q → node_of l (marked_labels b o) ≡ Some q
      left l q None e = e
      left l q (Some m) e = node_of_left l q b.labels ((m, length b.nodes) ∷ []) e

      given : (j l : ℕ) (node : Node) → j < met + 1 → slice_get graph j ≡ Some node → is_symbol node ≡ false → label_of labels j ≡ Some l → (t : Bool) → ltb j met ≡ t
          → (q : ℕ) × (node_of l (marked_labels b label) ≡ Some q) × (slice_get (seen ++ met ∷ []) q ≡ Some j)
      given j l node lt j_here j_object j_label true e =
          let c = s.given j l node (ltb-true j met e) j_here j_object j_label in (c.0, left l c.0 label c.1, get_append seen (met ∷ []) c.0 j c.2)
      given j l node lt j_here j_object j_label false e =
          let same : met ≡ j = omega (arith, ltb-false j met e, lt) in
          let mine : label_of labels met ≡ Some l = ap (label_of labels) same ∙ j_label in
          let last : node_of l (b.labels ++ (l, length b.nodes) ∷ []) ≡ Some (length b.nodes) = node_of_last l (length b.nodes) b.labels (unknown met seen open_nodes b l s mine) in
          (length b.nodes, subst (λ (o : Option ℕ). node_of l (marked_labels b o) ≡ Some (length b.nodes)) (sym (label_is ∙ mine)) last, rw s.order.same (get_last seen met ∙ ap (λ (n : ℕ). Some n) same))

      only : (l q : ℕ) (o : Option ℕ) → o ≡ label_of labels met → node_of l (marked_labels b o) ≡ Some q → (k : ℕ) × (label_of labels k ≡ Some l) × (k < met + 1)
      only l q None is e = let k = s.only l q e in (k.0, k.1, omega (arith, k.2))
      only l q (Some m) is e = elim (node_of_split l q m (length b.nodes) b.labels e) [
        | inl old ↦ let k = s.only l q old in (k.0, k.1, omega (arith, k.2))
        | inr same ↦ (met, sym is ∙ ap (λ (n : ℕ). Some n) (sym same), omega arith)
      ]

  -- the object that the walk meets now is opened, after its label if it has one
  pub opened : (met : ℕ) (x : Node) (seen open_nodes : List ℕ) (b : Built) → length graph ≤ 65535 → slice_get graph met ≡ Some x → is_symbol x ≡ false → Stands graph labels met seen open_nodes b
      → Opened graph labels met seen open_nodes b (label_of labels met)
  unfolding held with_held
  opened met x seen open_nodes b limit here object s =
      let t = opened_stands met x seen open_nodes b (label_of labels met) here object refl s in
      let room : length b.nodes < 131072 = room_left graph seen b.nodes met (nodes.Array None []) limit t.order in
      record {
        after = record { nodes = b.nodes ++ nodes.Array None [] ∷ []; labels = marked_labels b (label_of labels met) };
        is = rw (lt-ltb (length b.nodes) 131072 room) refl;
        stands = t;
        place = rw s.order.same (get_last seen met);
        weight = sum_by_push payload b.nodes (nodes.Array None []) ∙ omega arith;
      }

-- ---- a node that is filled

get_set_same : {X : Type 0} (xs : List X) (n : ℕ) (y x : X) → slice_get xs n ≡ Some x → slice_get (set xs n y) n ≡ Some y
get_set_same [] n y x e = absurd cc
get_set_same (a ∷ xs) zero y x e = refl
get_set_same (a ∷ xs) (suc n) y x e = get_set_same xs n y x e

pub record FilledIn (graph : List Node) (labels : List (Option ℕ)) (met : ℕ) (seen open_nodes : List ℕ) (b : Built) (n : ℕ) (node : Node) : Type 0 where
  pub after : Built
  pub is : filled b n node ≡ Some after
  pub stands : Stands graph labels met seen open_nodes after
  pub weight : sum_by payload after.nodes ≤ sum_by payload b.nodes + payload node

filled_stands : (graph : List Node) (labels : List (Option ℕ)) (met : ℕ) (seen open_nodes : List ℕ) (b : Built) (n k : ℕ) (node x : Node) → Stands graph labels met seen (k ∷ open_nodes) b → slice_get seen n ≡ Some k
    → slice_get graph k ≡ Some x → is_symbol x ≡ false → is_symbol node ≡ false → NodeStands seen node x → Stands graph labels met seen open_nodes (record { nodes = set b.nodes n node; labels = b.labels })
filled_stands graph labels met seen open_nodes b n k node x s place here object no_name is = record {
  order = order_filled graph seen b.nodes n k node s.order place (λ name named. no_symbol graph k x name here object named) (λ name same. let wrong : true ≡ false = sym (ap is_symbol same) ∙ no_name in absurd cc);
  each = λ p j y e f closed. each p j y e f closed (eqb j k) refl;
  below = s.below;
  covers = s.covers;
  given = s.given;
  only = s.only;
}
  where
    each : (p j : ℕ) (y : Node) → slice_get seen p ≡ Some j → slice_get (set b.nodes n node) p ≡ Some y → list_any (eqb j) open_nodes ≡ false → (t : Bool) → eqb j k ≡ t
        → (z : Node) × (slice_get graph j ≡ Some z) × NodeStands seen y z
    each p j y e f closed true t =
        let same : j ≡ k = eqb-true j k t in
        let here_too : p ≡ n = s.order.apart p n k (e ∙ ap (λ (m : ℕ). Some m) same) place in
        elim (get_set b.nodes n node y p f) [
          | inl old ↦
              let at_n : slice_get b.nodes n ≡ Some y = ap (slice_get b.nodes) (sym here_too) ∙ old in
              let filled_in : Some node ≡ Some y = sym (get_set_same b.nodes n node y at_n) ∙ ap (slice_get (set b.nodes n node)) (sym here_too) ∙ f in
              (x, ap (slice_get graph) same ∙ here, let both : node ≡ y = cc in subst (λ (w : Node). NodeStands seen w x) both is)
          | inr new ↦ (x, ap (slice_get graph) same ∙ here, subst (λ (w : Node). NodeStands seen w x) new.1 is)
        ]
    each p j y e f closed false t = elim (get_set b.nodes n node y p f) [
      | inl old ↦ s.each p j y e old (rw t closed)
      | inr new ↦ let same : Some j ≡ Some k = sym e ∙ ap (slice_get seen) new.0 ∙ place in absurd (eqb-false j k t (let both : j ≡ k = cc in both))
    ]

pub filled_in : (graph : List Node) (labels : List (Option ℕ)) (met : ℕ) (seen open_nodes : List ℕ) (b : Built) (n k : ℕ) (node x : Node) → Stands graph labels met seen (k ∷ open_nodes) b → slice_get seen n ≡ Some k
    → slice_get graph k ≡ Some x → is_symbol x ≡ false → is_symbol node ≡ false → NodeStands seen node x → is_small node ≡ true → sum_by payload b.nodes + payload node ≤ 16777216 → FilledIn graph labels met seen open_nodes b n node
unfolding filled with_filled
filled_in graph labels met seen open_nodes b n k node x s place here object no_name is small light =
    let within : n < length b.nodes = omega (arith, slice_get_within seen n k place, s.order.same) in
    let weight : sum_by payload (set b.nodes n node) ≤ sum_by payload b.nodes + payload node = omega (arith, sum_by-set payload b.nodes n node (nodes.Array None []) within) in
    let fits : nat_le (sum_by payload (set b.nodes n node)) 33554432 ≡ true = le-leb _ _ (omega (arith, weight, light)) in
    record {
      after = record { nodes = set b.nodes n node; labels = b.labels };
      is = rw (small, fits) refl;
      stands = filled_stands graph labels met seen open_nodes b n k node x s place here object no_name is;
      weight = weight;
    }
