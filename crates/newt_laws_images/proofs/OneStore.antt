-- An image has at most one table of objects, and so writes down at most one store.
use Rattle.std.proofs.Common.{arith, ◌≡◌, refl, ap, sym, ◌∙◌, subst, ℕ, ◌<◌, List, length, slice_get, get_or, Option, Some, None, option_map}
use Rattle.std.proofs.lemmas.List.{ext_get_or}
use Rattle.std.proofs.lemmas.Option.{slice_get-get_or}
use Rattle.std.specs.FinMap as map
use Rattle.std.proofs.lemmas.Cmp.{nat_cmp_total}
use Rattle.newt_graph.specs.Graph.{RawGraph}
use Rattle.newt_spec_image.specs.Records.{version}
use Rattle.newt_spec_image.specs.Pages.{Pages, object_length}
use Rattle.newt_spec_image.specs.Objects.{Extent, Table, IsTableOf, Objects, AreObjectsOf, joined, pages_for}
use Rattle.newt_spec_graph.proofs.Lists.{some-same}
use Rattle.newt_spec_store.specs.Store.{Store}
use Rattle.newt_spec_store.specs.OfImage.{IsStoreOf, blocks_of}
use Rattle.newt_spec_store.specs.StoreOf.{store_of}

-- a part of an object in one table is that part of an object of this length in the other
part-carried : (live : Pages) (t u : Table) → IsTableOf live t → IsTableOf live u → (id part number : ℕ) (x : Extent) → t id ≡ Some x → slice_get x.numbers part ≡ Some number
    → (y : Extent) × (u id ≡ Some y) × (slice_get y.numbers part ≡ Some number) × (y.length ≡ x.length)
part-carried live t u is_t is_u id part number x at here =
    let one = is_t.parts id part number x at here in
    let other = is_u.pages number one.0 one.1 in
    let same_id : u id ≡ Some other.0 = ap u (sym one.2.of_object) ∙ other.1 in
    let same_part : slice_get other.0.numbers part ≡ Some number = ap (slice_get other.0.numbers) (sym one.2.of_part) ∙ other.2 in
    let back = is_u.parts id part number other.0 same_id same_part in
    let page = some-same back.0 one.0 (sym back.1 ∙ one.1) in
    (other.0, same_id, same_part, sym back.2.of_size ∙ ap object_length page ∙ one.2.of_size)

pub first-part : (live : Pages) (t : Table) → IsTableOf live t → (id : ℕ) (x : Extent) → t id ≡ Some x → 0 < length x.numbers
first-part live t is_t id x at = let n = is_t.whole id x at in grind (arith, n)

same-extent : (x y : Extent) → y.length ≡ x.length → y.numbers ≡ x.numbers → y ≡ x
same-extent x y a b = λ i. record { length = a i; numbers = b i }

tables-agree : (live : Pages) (t u : Table) → IsTableOf live t → IsTableOf live u → (id : ℕ) (x : Extent) → t id ≡ Some x → u id ≡ Some x
tables-agree live t u is_t is_u id x at =
    let first = part-carried live t u is_t is_u id 0 (get_or x.numbers 0 0) x at (slice_get-get_or x.numbers 0 0 (first-part live t is_t id x at)) in
    let y = first.0 in
    let long : length y.numbers ≡ length x.numbers = is_u.whole id y first.1 ∙ ap pages_for first.3 ∙ sym (is_t.whole id x at) in
    let numbers : y.numbers ≡ x.numbers = ext_get_or 0 y.numbers x.numbers long (λ i inside.
    let k = part-carried live t u is_t is_u id i (get_or x.numbers i 0) x at (slice_get-get_or x.numbers i 0 (omega arith)) in
    let same = some-same k.0 y (sym k.1 ∙ first.1) in
    some-same (get_or y.numbers i 0) (get_or x.numbers i 0)
    (sym (slice_get-get_or y.numbers i 0 inside) ∙ subst (λ (z : Extent). slice_get z.numbers i ≡ Some (get_or x.numbers i 0)) same k.2)) in
    first.1 ∙ ap Some (same-extent x y first.3 numbers)

tables-same : (live : Pages) (t u : Table) → IsTableOf live t → IsTableOf live u → (id : ℕ) → t id ≡ u id
tables-same live t u is_t is_u id = go (t id) refl (u id) refl
  where
    go : (o : Option Extent) → t id ≡ o → (p : Option Extent) → u id ≡ p → t id ≡ u id
    go None a None b = a ∙ sym b
    go (Some x) a p b = a ∙ sym (tables-agree live t u is_t is_u id x a)
    go None a (Some y) b = tables-agree live u t is_u is_t id y b ∙ sym b

pub objects-same : (live : Pages) (a b : Objects) → AreObjectsOf live a → AreObjectsOf live b → a ≡ b
objects-same live a b is_a is_b = map.same_map nat_cmp_total map.nat_cmp-IsAntisymmetric a b
    (λ id. is_a.each id ∙ ap (option_map (joined live)) (tables-same live is_a.table is_b.table is_a.is_table is_b.is_table id) ∙ sym (is_b.each id))

pub store-same : (graph_of : List ℕ → Option RawGraph) (image : List ℕ) (s t : Store) → IsStoreOf graph_of image s → IsStoreOf graph_of image t → s ≡ t
store-same graph_of image s t is_s is_t =
    let live = some-same is_s.live is_t.live (sym is_s.has_pages ∙ is_t.has_pages) in
    let objects = objects-same is_t.live is_s.objects is_t.objects (subst (λ (p : Pages). AreObjectsOf p is_s.objects) live is_s.has_objects) is_t.has_objects in
    some-same s t (sym is_s.reads ∙ ap (λ (o : Objects). store_of graph_of (version image) (map.entries o) (blocks_of image)) objects ∙ is_t.reads)
