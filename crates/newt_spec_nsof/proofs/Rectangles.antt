-- A frame that is written as a small rectangle is read as this frame.
use Rattle.std.proofs.Common.{◌≡◌, Bool, true, false, ℕ, suc, ◌/◌, ◌%◌, ◌<◌, ◌≤◌, List, [], ◌∷◌, ◌++◌, length, map, All, Option, Some, None, refl, sym, ap, subst, ◌∙◌, arith}
use Rattle.std.specs.Prelude.{slice_get, nat_lt, ◌==◌, ◌&&◌, pos, negsuc}
use Rattle.std.proofs.lemmas.List.{length-map}
use Rattle.std.proofs.lemmas.List.Elements.{All-cons}
use Rattle.std.proofs.lemmas.Slice.Eq.{bytes_eq-Decides}
use Rattle.std.proofs.lemmas.Bool.{le-ltb}
use Rattle.newt_graph.specs.declared.node.Node.{Node}
use Rattle.newt_graph.specs.declared.node.Node.TheVariants.{Symbol, Str, Binary, Large, Array, Frame}
use Rattle.newt_graph.specs.declared.node.Ref.{Ref}
use Rattle.newt_graph.specs.declared.node.Ref.TheVariants as refs
use Rattle.newt_graph.specs.Graph.{IsAlike, integer, folded, WalkLabel, WalkLabels, Walk, Walks}
use Rattle.newt_graph.specs.Slice.{At}
use Rattle.newt_graph.proofs.Drafts.{alike_symbol}
use Rattle.newt_graph.proofs.Slices.{at_first, at_rest, at_here}
use Rattle.newt_spec_nsof.specs.Text.{Interned, InternedEach, corners, sides}
use Rattle.newt_spec_nsof.specs.Written.{side_byte, is_spelled, are_sides, with_byte, side_bytes, small_frame}
use Rattle.newt_spec_nsof.proofs.Spelled.{IsSound, get_front, none_before}

-- both hold
both : (a b : Bool) → (a && b) ≡ true → (a ≡ true) × (b ≡ true)
both true true e = (refl, refl)
both true false e = absurd cc
both false b e = absurd cc

-- ---- values

-- the value of a side is the integer of its byte
side_is : (value : Ref) (b : ℕ) → side_byte value ≡ Some b → (value ≡ integer b) × (b < 256)
side_is (refs.Imm (pos w)) b e = go (w % 4 == 0 && nat_lt w 1024) refl e
  where
    some_same : (x y : ℕ) → Some x ≡ Some y → x ≡ y
    some_same x y e = cc

    of_word : (w b : ℕ) → w % 4 ≡ 0 → w < 1024 → w / 4 ≡ b → (refs.Imm (pos w) ≡ integer b) × (b < 256)
    of_word w b four few half = (ap (λ (n : ℕ). refs.Imm (pos n)) (omega (arith, four, half)), omega (arith, few, half))

    go : (t : Bool) → (w % 4 == 0 && nat_lt w 1024) ≡ t → elim t [ true ↦ Some (w / 4) | false ↦ None ] ≡ Some b → (refs.Imm (pos w) ≡ integer b) × (b < 256)
    go true is e = let h = both (w % 4 == 0) (nat_lt w 1024) is in of_word w b (grind (arith, h.0)) (grind (arith, h.1)) (some_same (w / 4) b e)
    go false is e = absurd cc
side_is (refs.Imm (negsuc w)) b e = absurd cc
side_is (refs.Node k) b e = absurd cc

-- the values are the integers of their bytes
record AreSides (values : List Ref) (bytes : List ℕ) : Type 0 where
  whole : values ≡ map integer bytes
  few : All (λ b. b < 256) bytes

sides_are : (values : List Ref) (bytes : List ℕ) → side_bytes values ≡ Some bytes → AreSides values bytes
sides_are [] bytes e = subst (λ (x : List ℕ). AreSides [] x) (some_same [] bytes e) (record { whole = refl; few = λ k d lt. absurd (omega (arith, lt)) })
  where
    some_same : (x y : List ℕ) → Some x ≡ Some y → x ≡ y
    some_same x y e = cc
sides_are (value ∷ values) bytes e = go (λ rest e. sides_are values rest e) (side_byte value) refl (side_bytes values) refl e
  where
    some_same : (x y : List ℕ) → Some x ≡ Some y → x ≡ y
    some_same x y e = cc

    go : ((rest : List ℕ) → side_bytes values ≡ Some rest → AreSides values rest)
        → (first : Option ℕ) → side_byte value ≡ first → (rest : Option (List ℕ)) → side_bytes values ≡ rest → with_byte first rest ≡ Some bytes → AreSides (value ∷ values) bytes
    go others (Some b) is (Some rest) are e =
        let one = side_is value b is in
        let all = others rest are in
        subst (λ (x : List ℕ). AreSides (value ∷ values) x) (some_same (b ∷ rest) bytes e)
        (record { whole = ap (λ (x : Ref). x ∷ values) one.0 ∙ ap (λ (x : List Ref). integer b ∷ x) all.whole; few = All-cons (λ b. b < 256) b rest one.1 all.few })
    go others (Some b) is None are e = absurd cc
    go others None is rest are e = absurd cc

-- integers meet no nodes
pub words_new : {room : ℕ} {new : List Node} (bytes : List ℕ) (met : ℕ) → Walks room met (map integer bytes) new → new ≡ []
words_new [] met Walks.none = refl
words_new (b ∷ bytes) met (Walks.more (Walk.word is) ws) = words_new bytes _ ws

-- ---- tags

-- however it is spelled, it is alike
spelled_alike : (met : Bool) (nodes : List Node) (k : ℕ) (side : List ℕ) → is_spelled met side (slice_get nodes k) ≡ true → IsAlike nodes k side
spelled_alike met nodes k side e = go met (slice_get nodes k) refl e
  where
    go : (met : Bool) (node : Option Node) → slice_get nodes k ≡ node → is_spelled met side node ≡ true → IsAlike nodes k side
    go true (Some node) at e =
        let a = alike_symbol side node e in
        (a.0, at ∙ ap (λ (n : Node). Some n) a.1, a.2)
    go false (Some (Symbol name)) at e = (name, at, ap folded ((bytes_eq-Decides name side).0 e))
    go false (Some (Str u)) at e = absurd cc
    go false (Some (Binary c u)) at e = absurd cc
    go false (Some (Large c u)) at e = absurd cc
    go false (Some (Array c u)) at e = absurd cc
    go false (Some (Frame c u)) at e = absurd cc
    go true None at e = absurd cc
    go false None at e = absurd cc

-- of a symbol that is met within the frame, the name
spelled_name : (nodes : List Node) (k n : ℕ) (name side : List ℕ) → n ≤ k → slice_get nodes k ≡ Some (Symbol name) → is_spelled (nat_lt k n) side (slice_get nodes k) ≡ true → name ≡ side
spelled_name nodes k n name side le at e =
    (bytes_eq-Decides name side).0 (sym (ap (λ (o : Option Node). is_spelled false side o) at) ∙ sym (ap (λ (b : Bool). is_spelled b side (slice_get nodes k)) (le-ltb k n le)) ∙ e)

-- what was met is before
pub alike_before : (nodes new : List Node) (met k : ℕ) (name : List ℕ) (at : At nodes new met) → k < met → IsAlike nodes k name → IsAlike at.before k name
alike_before nodes new met k name at lt h =
    (h.0, sym (get_front at.before (new ++ at.later) k (omega (arith, at.met_is, lt))) ∙ ap (λ (x : List Node). slice_get x k) (sym at.whole) ∙ h.1, h.2)

side_interned : {met k : ℕ} {new : List Node} → WalkLabel met k new → (nodes : List Node) (at : At nodes new met) → IsSound nodes → (n : ℕ) → n ≤ met → (side : List ℕ) → is_spelled (nat_lt k n) side (slice_get nodes k) ≡ true → Interned at.before side k new
side_interned (WalkLabel.again {met} {k} lt) nodes at sound n le side e = Interned.alike (alike_before nodes [] met k side at lt (spelled_alike (nat_lt k n) nodes k side e))
side_interned (WalkLabel.symbol {met} {name}) nodes at sound n le side e =
    let same : name ≡ side = spelled_name nodes met n name side le (at_here nodes (Symbol name) [] met at) e in
    let made : Interned at.before name (length at.before) (Symbol name ∷ []) = Interned.first (none_before nodes name met at sound) in
    subst (λ (m : ℕ). Interned at.before side m (Symbol name ∷ [])) at.met_is
    (subst (λ (x : List ℕ). Interned at.before x (length at.before) (Symbol name ∷ [])) same made)

pub sides_interned : {met : ℕ} {tags : List ℕ} {new : List Node} → WalkLabels met tags new → (nodes : List Node) (at : At nodes new met) → IsSound nodes → (n : ℕ) → n ≤ met → (names : List (List ℕ)) → are_sides nodes n tags names ≡ true → InternedEach at.before names tags new
sides_interned (WalkLabels.none {met}) nodes at sound n le [] e = InternedEach.none
sides_interned (WalkLabels.none {met}) nodes at sound n le (side ∷ rest) e = absurd cc
sides_interned (WalkLabels.more {met} {k} {ks} {first} {others} w ws) nodes at sound n le [] e = absurd cc
sides_interned (WalkLabels.more {met} {k} {ks} {first} {others} w ws) nodes at sound n le (side ∷ rest) e =
    let h = both (is_spelled (nat_lt k n) side (slice_get nodes k)) (are_sides nodes n ks rest) e in
    InternedEach.more (side_interned w nodes (at_first nodes first others met at) sound n le side h.0)
    (sides_interned ws nodes (at_rest nodes first others met at) sound n (omega (arith, le)) rest h.1)

-- there are as many
pub sides_count : (nodes : List Node) (n : ℕ) (tags : List ℕ) (names : List (List ℕ)) → are_sides nodes n tags names ≡ true → length tags ≡ length names
sides_count nodes n [] [] e = refl
sides_count nodes n [] (side ∷ rest) e = absurd cc
sides_count nodes n (tag ∷ tags) [] e = absurd cc
sides_count nodes n (tag ∷ tags) (side ∷ rest) e =
    ap suc (sides_count nodes n tags rest (both (is_spelled (nat_lt tag n) side (slice_get nodes tag)) (are_sides nodes n tags rest) e).1)

-- ---- frames

-- what a small frame is
pub record IsSmall (nodes : List Node) (n : ℕ) (tags : List ℕ) (values : List Ref) (bytes : List ℕ) : Type 0 where
  pub top : ℕ
  pub left : ℕ
  pub bottom : ℕ
  pub right : ℕ
  pub bytes_are : bytes ≡ top ∷ left ∷ bottom ∷ right ∷ []
  pub values_are : values ≡ corners top left bottom right
  pub top_few : top < 256
  pub left_few : left < 256
  pub bottom_few : bottom < 256
  pub right_few : right < 256
  pub tags_are : are_sides nodes n tags sides ≡ true

small_is : (nodes : List Node) (n : ℕ) (tags : List ℕ) (values : List Ref) (bytes : List ℕ) → length bytes ≡ 4 → AreSides values bytes → are_sides nodes n tags sides ≡ true → IsSmall nodes n tags values bytes
small_is nodes n tags values [] four are e = absurd (omega (arith, four))
small_is nodes n tags values (t ∷ []) four are e = absurd (omega (arith, four))
small_is nodes n tags values (t ∷ l ∷ []) four are e = absurd (omega (arith, four))
small_is nodes n tags values (t ∷ l ∷ b ∷ []) four are e = absurd (omega (arith, four))
small_is nodes n tags values (t ∷ l ∷ b ∷ r ∷ []) four are e = record {
  top = t;
  left = l;
  bottom = b;
  right = r;
  bytes_are = refl;
  values_are = are.whole;
  top_few = are.few 0 0 (omega arith);
  left_few = are.few 1 0 (omega arith);
  bottom_few = are.few 2 0 (omega arith);
  right_few = are.few 3 0 (omega arith);
  tags_are = e;
}
small_is nodes n tags values (t ∷ l ∷ b ∷ r ∷ x ∷ xs) four are e = absurd (omega (arith, four))

pub frame_small : (nodes : List Node) (n : ℕ) (tags : List ℕ) (values : List Ref) (bytes : List ℕ) → length values ≡ length tags → small_frame nodes n tags values ≡ Some bytes → IsSmall nodes n tags values bytes
unfolding small_frame
frame_small nodes n tags values bytes paired e = go (are_sides nodes n tags sides) refl e
  where
    go : (b : Bool) → are_sides nodes n tags sides ≡ b → elim b [ true ↦ side_bytes values | false ↦ None ] ≡ Some bytes → IsSmall nodes n tags values bytes
    go true is e =
        let are = sides_are values bytes e in
        small_is nodes n tags values bytes (omega (arith, paired, sides_count nodes n tags sides is, ap length are.whole, length-map bytes integer)) are is
    go false is e = absurd cc
