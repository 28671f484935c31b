-- Where the entries of a store and their large binaries lie: no two entries in one object.
use Rattle.std.proofs.Common.{arith, ◌≡◌, ◌≢◌, ap, sym, ◌∙◌, subst, ℕ, ◌%◌, ◌<◌, List, IsTrue, Some}
use Rattle.std.specs.FinMap as map
use Rattle.newt_spec_image.specs.Objects.{Objects}
use Rattle.newt_spec_graph.specs.Lists.{Among}
use Rattle.newt_spec_graph.proofs.Lists.{some-same}
use Rattle.newt_spec_store.specs.Image.{entry_bytes}
use Rattle.newt_spec_store.specs.Laid.{row_of}
use Rattle.newt_spec_store.specs.Lies.{Places, IsIn, AreLarges, LiesIn}
use Rattle.newt_spec_store.specs.Store.{Store, Entry}
use Rattle.newt_spec_store.specs.StoreOf.{EntryRow, entry_row}
use Rattle.newt_spec_store.specs.Valid.{well_formed}
use Rattle.newt_laws_images.proofs.Placed.{entry-fits, has-large}
use Rattle.newt_laws_images.proofs.Records.{record-back}

pub odd-is-not : (n : ℕ) → n % 2 ≡ 1 → n ≢ 0
odd-is-not n h e = grind (arith, ap (λ m. m % 2) e)

pub odd-or-even : (n : ℕ) → n % 2 ≡ 1 → n % 2 ≡ 0 → ⊥
odd-or-even n h k = omega (arith, h, k)

pub above-is-not : (n : ℕ) → 0 < n → n ≢ 0
above-is-not n h e = omega (arith, h, e)

-- a place has an object with an odd id, which is the entry's record and names the objects of its large binaries
pub place-there : (objects : Objects) (place : Places) (s : Store) (t u id : ℕ) (lies : LiesIn objects place s) → place t u ≡ Some id
    → (e : Entry) × IsIn s t e × (e.uid ≡ u) × (id % 2 ≡ 1) × (map.get objects id ≡ Some (entry_bytes t e (lies.named id))) × AreLarges objects e.graph (lies.named id)
place-there objects place s t u id lies at =
    let k = lies.places t u id at in
    let r = lies.records t k.0 k.1 in
    let same : r.0 ≡ id = some-same r.0 id (sym r.1 ∙ ap (place t) k.2 ∙ at) in (
      k.0,
      k.1,
      k.2,
      subst (λ n. n % 2 ≡ 1) same r.2,
      subst (λ n. map.get objects n ≡ Some (entry_bytes t k.0 (lies.named n))) same r.3,
      subst (λ n. AreLarges objects k.0.graph (lies.named n)) same r.4,
    )

-- an object that a record names is there, with an even id above 0
pub named-there : (objects : Objects) (place : Places) (s : Store) (lies : LiesIn objects place s) (r o : ℕ) → Among (lies.named r) o
    → (bytes : List ℕ) × (map.get objects o ≡ Some bytes) × (o % 2 ≡ 0) × (0 < o)
named-there objects place s lies r o m =
    let n = lies.names r o m in
    let q = lies.records n.0 n.1 n.2 in
    let same : r ≡ q.0 = some-same r q.0 (sym n.3 ∙ q.1) in
    let l = has-large objects n.1.graph (lies.named q.0) o q.4 (subst (λ k. Among (lies.named k) o) same m) in
    (l.0.1, l.2.3, l.2.0, l.2.1)

pub places_apart : (objects : Objects) (place : Places) (s : Store) → LiesIn objects place s → IsTrue (well_formed s)
    → (t u v x id : ℕ) → place t u ≡ Some id → place v x ≡ Some id → (t ≡ v) × (u ≡ x)
places_apart objects place s lies w t u v x id at other =
    let a = place-there objects place s t u id lies at in
    let b = place-there objects place s v x id lies other in
    let ids = lies.named id in
    let same : entry_bytes t a.0 ids ≡ entry_bytes v b.0 ids = some-same _ _ (sym a.4 ∙ b.4) in
    let rows : row_of t a.0 ids ≡ row_of v b.0 ids = some-same _ _ (
    sym (record-back t a.0 ids (entry-fits objects place s t a.0 ids lies w a.1 a.5)) ∙ ap entry_row same ∙ record-back v b.0 ids (entry-fits objects place s v b.0 ids lies w b.1 b.5)
    ) in
    (ap (λ (r : EntryRow). r.soup) rows, sym a.2 ∙ ap (λ (r : EntryRow). r.uid) rows ∙ b.2)
