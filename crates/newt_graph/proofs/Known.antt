-- What a table of names finds, and what it knows as nodes are added and filled.
use Rattle.std.proofs.Common.{◌≡◌, ℕ, zero, suc, ◌+◌, ◌<◌, Bool, true, false, cond, List, [], ◌∷◌, ◌++◌, length, take, drop, get_or, Option, Some, None, refl, sym, ap, subst, ◌∙◌, append_assoc, arith, inl, inr}
use Rattle.std.specs.Prelude.{slice_get, set, nat_lt}
use Rattle.std.specs.Map.{lookup, KeepsOthers}
use Rattle.std.specs.Str.{bytes_eq}
use Rattle.std.specs.BTreeMap.{BTreeMap, Updates, is_at}
use Rattle.std.specs.declared.cmp.Ordering.{Ordering}
use Rattle.std.specs.declared.cmp.Ordering.TheVariants.{Less, Equal, Greater}
use Rattle.std.specs.Ordering.{nat_cmp, is_eq, ordering_then}
use Rattle.std.specs.FinMap.{nat_cmp-IsAntisymmetric, slice_cmp-IsAntisymmetric}
use Rattle.std.specs.Cmp.Lexicographic.{slice_cmp}
use Rattle.std.proofs.lemmas.Slice.Eq.{bytes_eq-Decides}
use Rattle.std.proofs.lemmas.List.{length-append, length-take, take_more, take-append-drop}
use Rattle.std.proofs.lemmas.Option.{slice_get_within}
use Rattle.newt_graph.specs.declared.node.Node.{Node}
use Rattle.newt_graph.specs.declared.node.Node.TheVariants.{Symbol, Array, Frame}
use Rattle.newt_graph.specs.declared.node.Ref.{Ref}
use Rattle.newt_graph.specs.Graph.{folded, IsAlike, AreFoldedOnce}
use Rattle.newt_graph.specs.Draft.{IsFilling, is_alike, find_alike, slot_put, with_slot}
use Rattle.newt_graph.specs.Meeting.{place}
use Rattle.newt_graph.specs.declared.names.Key.{Key}
use Rattle.newt_graph.specs.Names.{KnowsBy, Knows, NotesBy, IsKeyOf, checked, checked_among, compared, is_under, key_cmp, mixed, number_of}
use Rattle.newt_graph.proofs.Elements.{get_append, at_push, any_at}
use Rattle.newt_graph.proofs.Drafts.{bytes_eq-sym, alike_found, alike_symbol, none_alike, get_set, filling_is_no_symbol}

-- ---- what is found

pub found : (number : List ℕ → Option ℕ) (nodes : List Node) (name : List ℕ) → KnowsBy number nodes → checked_among name nodes (number (folded name)) ≡ find_alike name nodes
found number nodes name knows = by (find_alike name nodes) refl
  where
    no_other : (o : Option ℕ) → find_alike name nodes ≡ None → checked_among name nodes o ≡ None
    no_other None none = refl
    no_other (Some k) none = at (slice_get nodes k) refl
      where
        at : (o : Option Node) → slice_get nodes k ≡ o → checked name k o ≡ None
        at None here = refl
        at (Some node) here = tested (is_alike name node) refl
          where
            tested : (b : Bool) → is_alike name node ≡ b → cond b (Some k) None ≡ None
            tested true is =
                let old = alike_symbol name node is in
                absurd (none_alike nodes name none k (old.0, here ∙ ap (λ (n : Node). Some n) old.1, old.2))
            tested false is = refl

    by : (o : Option ℕ) → find_alike name nodes ≡ o → checked_among name nodes (number (folded name)) ≡ o
    by None none = no_other (number (folded name)) none
    by (Some k) is =
        let alike = alike_found name nodes k is in
        let known : number (folded name) ≡ Some k = ap number (sym alike.2) ∙ knows k alike.0 alike.1 in
        let yes : bytes_eq (folded alike.0) (folded name) ≡ true = (bytes_eq-Decides (folded alike.0) (folded name)).1 alike.2 in
        rw (known, alike.1, yes) refl

-- ---- what a table knows after an entry

both_equal : (o p : Ordering) → is_eq (ordering_then o p) ≡ true → (o ≡ Equal) × (p ≡ Equal)
both_equal Less p e = absurd cc
both_equal Greater p e = absurd cc
both_equal Equal Less e = absurd cc
both_equal Equal Equal e = (refl, refl)
both_equal Equal Greater e = absurd cc

told : (name : List ℕ) (key : Key) → is_under name key ≡ true → (mixed name ≡ key.mix) × (name ≡ key.name.items)
told name key e =
    let both = both_equal (nat_cmp (mixed name) key.mix) (slice_cmp nat_cmp name key.name.items) e in
    (nat_cmp-IsAntisymmetric (mixed name) key.mix both.0, slice_cmp-IsAntisymmetric nat_cmp-IsAntisymmetric name key.name.items both.1)

-- a key finds what is under its name
pub found_under : (name : List ℕ) (key : Key) → IsKeyOf name key → (es : List (Key × ℕ)) → lookup (is_at (key_cmp key)) es ≡ lookup (is_under (folded name)) es
found_under name key of es = λ i. lookup (λ k. is_eq (compared (of.mix i) (of.text i) k)) es

-- a new entry is found under its own name alone
pub noted : (old new : BTreeMap Key ℕ) (name : List ℕ) (key : Key) (n : ℕ) → IsKeyOf name key → Updates key_cmp old new key (Some n) → NotesBy (number_of old) name n (number_of new)
unfolding KeepsOthers
noted old new name key n of updates q = by (bytes_eq (folded name) q) refl
  where
    apart : bytes_eq (folded name) q ≡ false → (k : Key) → is_at (key_cmp key) k ≡ true → is_under q k ≡ false
    apart is k same = go (is_under q k) refl
      where
        under : is_under (folded name) k ≡ true
        under = (λ i. is_eq (compared (sym of.mix i) (sym of.text i) k)) ∙ same

        go : (b : Bool) → is_under q k ≡ b → is_under q k ≡ false
        go false e = e
        go true e =
            let one : folded name ≡ q = (told (folded name) k under).1 ∙ sym (told q k e).1 in
            let yes : bytes_eq (folded name) q ≡ true = (bytes_eq-Decides (folded name) q).1 one in
            absurd (no (sym yes ∙ is))
          where
            no : true ≡ false → ⊥
            no e = absurd cc

    by : (b : Bool) → bytes_eq (folded name) q ≡ b → number_of new q ≡ cond b (Some n) (number_of old q)
    by true is = subst (λ (q : List ℕ). number_of new q ≡ Some n) ((bytes_eq-Decides (folded name) q).0 is) (sym (found_under name key of new.entries) ∙ updates.1)
    by false is =
        updates.3 (is_under q)
        (λ x y same. let t = told q x same in λ i. is_eq (compared (t.0 i) (t.1 i) y))
        (apart is)

-- entries that stayed
pub knows_kept : (old new : BTreeMap Key ℕ) (nodes more : List Node) → new.entries ≡ old.entries → Knows old (nodes ++ more) → Knows new nodes
knows_kept old new nodes more same knows k name named = rw same (knows k name (get_append nodes more k (Symbol name) named))

-- an entry for a name that no node has
pub knows_noted : (old new : List ℕ → Option ℕ) (nodes : List Node) (name : List ℕ) (n : ℕ) → KnowsBy old nodes → ((k : ℕ) → IsAlike nodes k name → ⊥) → NotesBy old name n new → KnowsBy new nodes
knows_noted old new nodes name n knows none notes k other named = by (bytes_eq (folded name) (folded other)) refl (notes (folded other))
  where
    by : (b : Bool) → bytes_eq (folded name) (folded other) ≡ b → new (folded other) ≡ cond b (Some n) (old (folded other)) → new (folded other) ≡ Some k
    by true is e = absurd (none k (other, named, sym ((bytes_eq-Decides (folded name) (folded other)).0 is)))
    by false is e = e ∙ knows k other named

-- ---- what a table knows of more nodes

pub knows_pushed : (number : List ℕ → Option ℕ) (nodes items : List Node) (node : Node) → items ≡ nodes ++ node ∷ [] → ((name : List ℕ) → node ≡ Symbol name → ⊥) → KnowsBy number nodes → KnowsBy number items
knows_pushed number nodes items node all none knows = subst (KnowsBy number) (sym all) (λ k name named.
    elim (at_push nodes node k (Symbol name) named) [
      | inl old ↦ knows k name old
      | inr last ↦ absurd (none name last.1)
    ])

pub knows_held : (number : List ℕ → Option ℕ) (nodes items : List Node) → items ≡ nodes ++ Array None [] ∷ [] → KnowsBy number nodes → KnowsBy number items
knows_held number nodes items all knows = knows_pushed number nodes items (Array None []) all (λ name e. absurd cc) knows

pub knows_symbol : (old new : List ℕ → Option ℕ) (nodes : List Node) (name : List ℕ) → KnowsBy old nodes → ((k : ℕ) → IsAlike nodes k name → ⊥) → NotesBy old name (length nodes) new → KnowsBy new (nodes ++ Symbol name ∷ [])
knows_symbol old new nodes name knows none notes k other named =
    elim (at_push nodes (Symbol name) k (Symbol other) named) [
      | inl before ↦ knows_noted old new nodes name (length nodes) knows none notes k other before
      | inr last ↦
          let own : bytes_eq (folded name) (folded name) ≡ true = (bytes_eq-Decides (folded name) (folded name)).1 refl in
          let is : name ≡ other = one_name last.1 in
          let e : new (folded name) ≡ Some (length nodes) = notes (folded name) ∙ rw own refl in
          ap (λ (x : List ℕ). new (folded x)) (sym is) ∙ (e ∙ ap (λ (m : ℕ). Some m) (sym last.0))
    ]
  where
    one_name : {a b : List ℕ} → Symbol a ≡ Symbol b → a ≡ b
    one_name e = cc

-- a symbol that was pushed
pub symbol_known : (old new : List ℕ → Option ℕ) (nodes items : List Node) (name : List ℕ) (n : ℕ) → n ≡ length nodes → items ≡ nodes ++ Symbol name ∷ [] → KnowsBy old nodes → find_alike name nodes ≡ None → NotesBy old name n new → KnowsBy new items
symbol_known old new nodes items name n is all knows none notes =
    subst (KnowsBy new) (sym all) (knows_symbol old new nodes name knows (none_alike nodes name none) (subst (λ (m : ℕ). NotesBy old name m new) is notes))

pub knows_fewer : (number : List ℕ → Option ℕ) (nodes more : List Node) → KnowsBy number (nodes ++ more) → KnowsBy number nodes
knows_fewer number nodes more knows k name named = knows k name (get_append nodes more k (Symbol name) named)

pub set_with : (number : List ℕ → Option ℕ) (nodes : List Node) (n : ℕ) (node : Node) → ((name : List ℕ) → node ≡ Symbol name → ⊥) → KnowsBy number nodes → KnowsBy number (set nodes n node)
set_with number nodes n node none knows k name named =
    elim (get_set nodes n node k (Symbol name) named) [
      | inl h ↦ absurd (none name h.1)
      | inr old ↦ knows k name old
    ]

pub knows_set : (number : List ℕ → Option ℕ) (nodes : List Node) (n : ℕ) (node : Node) → IsFilling node → KnowsBy number nodes → KnowsBy number (set nodes n node)
knows_set number nodes n node is knows = set_with number nodes n node (λ name e. filling_is_no_symbol node name is e) knows

slot_is_frame : (tags : List ℕ) (values : List Ref) (tag : ℕ) (value : Ref) (o : Option ℕ) (node : Node) (name : List ℕ) → slot_put tags values tag value o ≡ Some node → node ≡ Symbol name → ⊥
slot_is_frame tags values tag value (Some i) node name e is = absurd cc
slot_is_frame tags values tag value None node name e is = by (nat_lt (length tags) 65535) e
  where
    by : (b : Bool) → cond b (Some (Frame (tags ++ tag ∷ []) (values ++ value ∷ []))) None ≡ Some node → ⊥
    by true e = absurd cc
    by false e = absurd cc

pub knows_slot : (number : List ℕ → Option ℕ) (nodes : List Node) (n : ℕ) (node : Node) (tags : List ℕ) (values : List Ref) (tag : ℕ) (value : Ref) → with_slot tags values tag value ≡ Some node → KnowsBy number nodes → KnowsBy number (set nodes n node)
unfolding with_slot
knows_slot number nodes n node tags values tag value e knows = set_with number nodes n node (λ name is. slot_is_frame tags values tag value (place tags tag) node name e is) knows

-- ---- new nodes one after another

-- a new symbol that is the next to stand after the others
pub knows_next : (before after : List ℕ → Option ℕ) (old new : List Node) (i n : ℕ) (d : Node) (name : List ℕ) → i < length new → n ≡ length old + i → get_or new i d ≡ Symbol name → AreFoldedOnce (old ++ new)
    → NotesBy before name n after → KnowsBy before (old ++ take i new) → KnowsBy after (old ++ take (i + 1) new)
knows_next before after old new i n d name lt is here once notes knows =
    let so_far = old ++ take i new in
    let long : length so_far ≡ length old + i = omega (arith, length-append old (take i new), length-take i new, lt) in
    let whole : old ++ take (i + 1) new ≡ so_far ++ Symbol name ∷ [] = rw (take_more new i d lt, here) (sym (append_assoc old (take i new) (Symbol name ∷ []))) in
    let there : slice_get (old ++ new) (length old + i) ≡ Some (Symbol name) = get_after old new i (length old + i) (Symbol name) refl (any_at new i d lt ∙ ap (λ (x : Node). Some x) here) in
    subst (KnowsBy after) (sym whole)
    (knows_symbol before after so_far name knows
    (λ k alike.
    let within = slice_get_within so_far k (Symbol alike.0) alike.1 in
    let parts : so_far ++ drop i new ≡ old ++ new = append_assoc old (take i new) (drop i new) ∙ ap (λ (ns : List Node). old ++ ns) (take-append-drop i new) in
    let older = subst (λ (ns : List Node). slice_get ns k ≡ Some (Symbol alike.0)) parts (get_append so_far (drop i new) k (Symbol alike.0) alike.1) in
    let same = once (length old + i) k name there (alike.0, older, alike.2) in
    absurd (omega (arith, within, same, long)))
    (subst (λ (m : ℕ). NotesBy before name m after) (is ∙ sym long) notes))
  where
    get_after : {X : Type 0} (xs ys : List X) (k m : ℕ) (x : X) → m ≡ length xs + k → slice_get ys k ≡ Some x → slice_get (xs ++ ys) m ≡ Some x
    get_after [] ys k m x same e = let here : k ≡ m = omega (arith, same) in subst (λ (m : ℕ). slice_get ys m ≡ Some x) here e
    get_after (y ∷ xs) ys k zero x same e = absurd (omega (arith, same))
    get_after (y ∷ xs) ys k (suc m) x same e = get_after xs ys k m x (omega (arith, same)) e

-- a node of another kind is the next
pub knows_pass : (number : List ℕ → Option ℕ) (old new : List Node) (i : ℕ) (d : Node) → i < length new → ((name : List ℕ) → get_or new i d ≡ Symbol name → ⊥) → KnowsBy number (old ++ take i new) → KnowsBy number (old ++ take (i + 1) new)
knows_pass number old new i d lt none knows =
    let whole : old ++ take (i + 1) new ≡ (old ++ take i new) ++ get_or new i d ∷ [] = rw (take_more new i d lt) (sym (append_assoc old (take i new) (get_or new i d ∷ []))) in
    subst (KnowsBy number) (sym whole) (λ k name named.
    elim (at_push (old ++ take i new) (get_or new i d) k (Symbol name) named) [
      | inl before ↦ knows k name before
      | inr last ↦ absurd (none name last.1)
    ])
