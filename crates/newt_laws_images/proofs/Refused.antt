-- Objects that are no store.
use Rattle.std.proofs.Common.{◌≡◌, ◌≢◌, refl, ap, sym, ◌∙◌, subst, ℕ, ◌%◌, List, inl, inr, ◌⊎◌, Option, Some, None, ◌==◌}
use Rattle.std.specs.FinMap as map
use Rattle.std.proofs.lemmas.Bool.{eqb-true, eq-eqb}
use Rattle.newt_graph.specs.Graph.{RawGraph}
use Rattle.newt_spec_image.specs.Objects.{Objects}
use Rattle.newt_spec_graph.specs.Lists.{Pairs, Among}
use Rattle.newt_spec_graph.proofs.Lists.{some-same, none-some, among-filter, filter-among}
use Rattle.newt_spec_store.specs.Laid.{bare}
use Rattle.newt_spec_store.specs.Lies.{IsIn, directory_read, entry_read}
use Rattle.newt_spec_store.specs.Store.{Entry, Store}
use Rattle.newt_spec_store.specs.StoreOf.{store_of}
use Rattle.newt_laws_images.specs.Found.{HasGiven, ids_named}
use Rattle.newt_laws_images.proofs.Finite.{entry-get, get-entry}
use Rattle.newt_laws_images.proofs.Known.{read-directory, read-whole, read-bare, of-object, read-in, named-once, named-apart, even-named, records-differ, Differ, pairs-two}
use Rattle.newt_laws_images.proofs.Made.{odds}
use Rattle.newt_laws_images.proofs.Parts.{IsReading, reading}
use Rattle.newt_laws_images.proofs.Rows.{as-read, read-as}

module _ (graph_of : List ℕ → Option RawGraph) (version : ℕ) (objects : Objects) (blocks : ℕ) (s : Store) (h : store_of graph_of version (map.entries objects) blocks ≡ Some s) where
  is-reading : IsReading graph_of version (map.entries objects) blocks s
  is-reading = reading graph_of version (map.entries objects) blocks s h

  pub has-directory : (bytes : List ℕ) × (map.get objects 0 ≡ Some bytes) × (directory_read graph_of version bytes ≡ Some (bare s))
  has-directory = (is-reading.bytes, read-directory graph_of version objects blocks s is-reading, read-whole graph_of version objects blocks s is-reading)

  pub no-directory : map.get objects 0 ≡ None → ⊥
  no-directory none = none-some has-directory.0 (sym none ∙ has-directory.1)

  pub same-directory : (bytes : List ℕ) → map.get objects 0 ≡ Some bytes → directory_read graph_of version bytes ≡ Some (bare s)
  same-directory bytes at = ap (directory_read graph_of version) (some-same bytes has-directory.0 (sym at ∙ has-directory.1)) ∙ has-directory.2

  pub bad-directory : (bytes : List ℕ) → map.get objects 0 ≡ Some bytes → directory_read graph_of version bytes ≡ None → ⊥
  bad-directory bytes at none = none-some (bare s) (sym none ∙ same-directory bytes at)

  pub has-record : (id : ℕ) (bytes : List ℕ) → map.get objects id ≡ Some bytes → id % 2 ≡ 1
      → (sig : ℕ) × (e : Entry) × (entry_read graph_of objects bytes ≡ Some (sig, e)) × IsIn s sig e × HasGiven (bare s) sig e.uid
  has-record id bytes at odd =
      let r = of-object graph_of version objects blocks s is-reading id bytes at odd in (
        r.0.0,
        r.0.1,
        as-read graph_of objects bytes r.0.0 r.0.1 r.2.read,
        read-in graph_of version objects blocks s is-reading r.0 r.1,
        subst (λ (d : Store). HasGiven d r.0.0 r.0.1.uid) (read-bare graph_of version objects blocks s is-reading) r.2.given,
      )

  in-odds : (id : ℕ) (bytes : List ℕ) → map.get objects id ≡ Some bytes → id % 2 ≡ 1 → Among (odds objects) (id, bytes)
  in-odds id bytes at odd = filter-among (λ (o : ℕ × List ℕ). o.0 % 2 == 1) (map.entries objects) (id, bytes) (get-entry objects id bytes at) (eq-eqb (id % 2) 1 odd)

  pub has-names : (id : ℕ) (bytes : List ℕ) → map.get objects id ≡ Some bytes → (id ≡ 0 → ⊥) → id % 2 ≡ 0
      → (r : ℕ) × (names : List ℕ) × (map.get objects r ≡ Some names) × (r % 2 ≡ 1) × Among (ids_named names) id
  has-names id bytes at n even =
      let k = even-named graph_of version objects blocks s is-reading id bytes at n even in
      let f = among-filter (λ (o : ℕ × List ℕ). o.0 % 2 == 1) (map.entries objects) k.0 k.1 in
      (k.0.0, k.0.1, entry-get objects k.0.0 k.0.1 f.0, eqb-true (k.0.0 % 2) 1 f.1, k.2)

  pub named-by-two : (id other o : ℕ) (bytes others : List ℕ) → map.get objects id ≡ Some bytes → map.get objects other ≡ Some others → id % 2 ≡ 1 → other % 2 ≡ 1 → (id ≡ other → ⊥)
      → Among (ids_named bytes) o → Among (ids_named others) o → ⊥
  named-by-two id other o bytes others at there n m apart k l =
      apart (ap {A = ℕ × List ℕ} {B = ℕ} (λ o. o.0) (named-once graph_of version objects blocks s is-reading (id, bytes) (other, others) o (in-odds id bytes at n) (in-odds other others there m) k l))

  pub named-by-one : (id : ℕ) (bytes : List ℕ) → map.get objects id ≡ Some bytes → id % 2 ≡ 1 → Pairs (λ a b. a ≢ b) (ids_named bytes)
  named-by-one id bytes at odd = named-apart graph_of version objects blocks s is-reading (id, bytes) (in-odds id bytes at odd)

  pub bad-record : (id : ℕ) (bytes : List ℕ) → map.get objects id ≡ Some bytes → id % 2 ≡ 1 → entry_read graph_of objects bytes ≡ None → ⊥
  bad-record id bytes at odd none = let r = has-record id bytes at odd in none-some {X = ℕ × Entry} (r.0, r.1) (sym none ∙ r.2)

  pub not-given : (id : ℕ) (zero bytes : List ℕ) (d : Store) (sig : ℕ) (e : Entry) → map.get objects 0 ≡ Some zero → directory_read graph_of version zero ≡ Some d → map.get objects id ≡ Some bytes → id % 2 ≡ 1
      → entry_read graph_of objects bytes ≡ Some (sig, e) → (HasGiven d sig e.uid → ⊥) → ⊥
  not-given id zero bytes d sig e first is at odd read given =
      let r = has-record id bytes at odd in
      let same : ◌≡◌ {A = ℕ × Entry} (r.0, r.1) (sig, e) = some-same {X = ℕ × Entry} (r.0, r.1) (sig, e) (sym r.2 ∙ read) in
      let whole : bare s ≡ d = some-same (bare s) d (sym (same-directory zero first) ∙ is) in
      given (subst (λ (d : Store). HasGiven d sig e.uid) whole (subst (λ (x : ℕ × Entry). HasGiven (bare s) x.0 x.1.uid) same r.4))

  pub stands-twice : (id other : ℕ) (bytes others : List ℕ) (sig : ℕ) (e k : Entry) → map.get objects id ≡ Some bytes → map.get objects other ≡ Some others → id % 2 ≡ 1 → other % 2 ≡ 1 → (id ≡ other → ⊥)
      → entry_read graph_of objects bytes ≡ Some (sig, e) → entry_read graph_of objects others ≡ Some (sig, k) → e.uid ≡ k.uid → ⊥
  stands-twice id other bytes others sig e k at there n m apart read also uid =
      go (pairs-two (Differ graph_of version objects blocks s is-reading) (odds objects) (id, bytes) (other, others) (records-differ graph_of version objects blocks s is-reading)
      (in-odds id bytes at n) (in-odds other others there m) (λ e. apart (ap {A = ℕ × List ℕ} {B = ℕ} (λ o. o.0) e)))
    where
      go : Differ graph_of version objects blocks s is-reading (id, bytes) (other, others) ⊎ Differ graph_of version objects blocks s is-reading (other, others) (id, bytes) → ⊥
      go (inl f) = f (sig, e) (sig, k) (read-as graph_of objects bytes sig e read) (read-as graph_of objects others sig k also) refl uid
      go (inr f) = f (sig, k) (sig, e) (read-as graph_of objects others sig k also) (read-as graph_of objects bytes sig e read) refl (sym uid)
