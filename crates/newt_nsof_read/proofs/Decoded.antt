-- The answer to a text, by what spells it.
use Rattle.std.proofs.Common.{◌≡◌, ◌≢◌, ℕ, true, false, List, length, Option, Some, None, refl, ◌∙◌, subst, inl, inr, arith}
use Rattle.std.specs.Prelude.{Result, Ok, Err, ◌↔◌}
use Rattle.std.proofs.lemmas.Bool.{cases_lt}
use Rattle.std.proofs.lemmas.List.{get_or_past}
use Rattle.newt_graph.specs.Graph.{RawGraph, IsGraph}
use Rattle.newt_spec_nsof.specs.Text.{AreBytes, Spells, SpellsWide}
use Rattle.newt_spec_nsof.specs.Flat.{flat}
use Rattle.newt_spec_nsof.specs.Written.{nsof}
use Rattle.newt_spec_nsof.proofs.Wider.{spelled_wider}
use Rattle.newt_spec_nsof.proofs.Spelled.{flat_spells}
use Rattle.newt_spec_nsof.proofs.WrittenSpelled.{written_spells}
use Rattle.newt_nsof_read.specs.declared.fault.NsofFault.{NsofFault}
use Rattle.newt_nsof_read.specs.declared.fault.NsofFault.TheVariants.{Malformed, Compressed, Memory}
use Rattle.newt_nsof_read.specs.Reading.{graph_at, decoded}
use Rattle.newt_nsof_read.proofs.Fields.{IsBytes}
use Rattle.newt_nsof_read.proofs.Sound.{graph_spells}
use Rattle.newt_nsof_read.proofs.Complete.{graph_again, refused}

are_bytes : (bytes : List ℕ) → AreBytes bytes → IsBytes bytes
are_bytes bytes h i =
    elim (cases_lt i (length bytes)) [
      | inl lt ↦ h i 0 lt
      | inr le ↦ rw (get_or_past bytes i 0 le) (omega arith)
    ]

-- the two readings of a text, and the answer
data Answered (bytes : List ℕ) : Type 0 where
  graph : (g : RawGraph) → graph_at false bytes ≡ Some g → decoded bytes ≡ Ok g → Answered bytes
  compressed : (g : RawGraph) → graph_at false bytes ≡ None → graph_at true bytes ≡ Some g → decoded bytes ≡ Err Compressed → Answered bytes
  malformed : graph_at false bytes ≡ None → graph_at true bytes ≡ None → decoded bytes ≡ Err Malformed → Answered bytes

answered : (bytes : List ℕ) → Answered bytes
unfolding decoded
answered bytes = go (graph_at false bytes) (graph_at true bytes) refl refl
  where
    go : (read widely : Option RawGraph) → graph_at false bytes ≡ read → graph_at true bytes ≡ widely → Answered bytes
    go (Some g) widely e f = Answered.graph g e (rw e refl)
    go None (Some g) e f = Answered.compressed g e f (rw (e, f) refl)
    go None None e f = Answered.malformed e f (rw (e, f) refl)

pub read_again : (bytes : List ℕ) (g : RawGraph) → Spells bytes g → decoded bytes ≡ Ok g
unfolding decoded
read_again bytes g s = rw (graph_again bytes g s) refl

read_spells : (bytes : List ℕ) (g : RawGraph) → AreBytes bytes → decoded bytes ≡ Ok g → Spells bytes g
read_spells bytes g are e =
    elim (answered bytes) [
      | Answered.graph h read is ↦ graph_spells false bytes g (are_bytes bytes are) (read ∙ (let same : h ≡ g = cc in subst (λ (x : RawGraph). Some h ≡ Some x) same refl))
      | Answered.compressed h none read is ↦ absurd cc
      | Answered.malformed none never is ↦ absurd cc
    ]

pub read_as_spelled : (bytes : List ℕ) (g : RawGraph) → AreBytes bytes → (decoded bytes ≡ Ok g) ↔ Spells bytes g
read_as_spelled bytes g are = (read_spells bytes g are, read_again bytes g)

malformed_tells : (bytes : List ℕ) → decoded bytes ≡ Err Malformed → (g : RawGraph) → SpellsWide bytes g → ⊥
malformed_tells bytes e =
    elim (answered bytes) [
      | Answered.graph h read is ↦ absurd cc
      | Answered.compressed h none read is ↦ absurd cc
      | Answered.malformed none never is ↦ refused true bytes never
    ]

malformed_from : (bytes : List ℕ) → AreBytes bytes → ((g : RawGraph) → SpellsWide bytes g → ⊥) → decoded bytes ≡ Err Malformed
malformed_from bytes are nothing =
    elim (answered bytes) [
      | Answered.graph h read is ↦ absurd (nothing h (spelled_wider bytes h (graph_spells false bytes h (are_bytes bytes are) read)))
      | Answered.compressed h none read is ↦ absurd (nothing h (graph_spells true bytes h (are_bytes bytes are) read))
      | Answered.malformed none never is ↦ is
    ]

pub malformed_is_unspelled : (bytes : List ℕ) → AreBytes bytes → (decoded bytes ≡ Err Malformed) ↔ ((g : RawGraph) → SpellsWide bytes g → ⊥)
malformed_is_unspelled bytes are = (malformed_tells bytes, malformed_from bytes are)

compressed_tells : (bytes : List ℕ) → AreBytes bytes → decoded bytes ≡ Err Compressed → ((g : RawGraph) × SpellsWide bytes g) × ((g : RawGraph) → Spells bytes g → ⊥)
compressed_tells bytes are e =
    elim (answered bytes) [
      | Answered.graph h read is ↦ absurd cc
      | Answered.compressed h none read is ↦ ((h, graph_spells true bytes h (are_bytes bytes are) read), refused false bytes none)
      | Answered.malformed none never is ↦ absurd cc
    ]

compressed_from : (bytes : List ℕ) → AreBytes bytes → ((g : RawGraph) × SpellsWide bytes g) × ((g : RawGraph) → Spells bytes g → ⊥) → decoded bytes ≡ Err Compressed
compressed_from bytes are h =
    elim (answered bytes) [
      | Answered.graph g read is ↦ absurd (h.1 g (graph_spells false bytes g (are_bytes bytes are) read))
      | Answered.compressed g none read is ↦ is
      | Answered.malformed none never is ↦ absurd (refused true bytes never h.0.0 h.0.1)
    ]

pub compressed_is_spelled_widely : (bytes : List ℕ) → AreBytes bytes → (decoded bytes ≡ Err Compressed) ↔ (((g : RawGraph) × SpellsWide bytes g) × ((g : RawGraph) → Spells bytes g → ⊥))
compressed_is_spelled_widely bytes are = (compressed_tells bytes are, compressed_from bytes are)

pub no_want_of_memory : (bytes : List ℕ) → decoded bytes ≢ Err Memory
no_want_of_memory bytes e =
    elim (answered bytes) [
      | Answered.graph h read is ↦ cc
      | Answered.compressed h none read is ↦ cc
      | Answered.malformed none never is ↦ cc
    ]

pub flat_is_read_again : (g : RawGraph) → IsGraph g → decoded (flat g) ≡ Ok g
flat_is_read_again g is = read_again (flat g) g (flat_spells g is)

pub written_is_read_again : (g : RawGraph) → IsGraph g → decoded (nsof g) ≡ Ok g
written_is_read_again g is = read_again (nsof g) g (written_spells g is)

-- ---- what is answered, and what is defined

pub read_is : (bytes : List ℕ) (g : RawGraph) → graph_at false bytes ≡ Some g → Ok g ≡ decoded bytes
unfolding decoded
read_is bytes g e = rw e refl

pub unread_is : (bytes : List ℕ) (fault : NsofFault) → graph_at false bytes ≡ None
    → (fault ≡ Malformed → graph_at true bytes ≡ None) → (fault ≡ Compressed → (g : RawGraph) × (graph_at true bytes ≡ Some g))
    → ◌≢◌ {A = Result RawGraph NsofFault} (Err fault) (Err Memory) → Err fault ≡ decoded bytes
unfolding decoded
unread_is bytes Malformed none never some answers = rw (none, never refl) refl
unread_is bytes Compressed none never some answers = rw (none, (some refl).1) refl
unread_is bytes Memory none never some answers = absurd (answers refl)
