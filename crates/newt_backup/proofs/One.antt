-- A store is read back from its backup.
use Rattle.std.proofs.Common.{◌≡◌, refl, sym, ◌∙◌, ap, ℕ, ◌<◌, ◌≤◌, true, List, [], ◌∷◌, map, subst, Some, arith}
use Rattle.std.specs.Prelude.{option_map, IfSome}
use Rattle.newt_graph.specs.Graph.{IsGraph}
use Rattle.newt_nsof_flat.specs.Stream.{stream_graph}
use Rattle.newt_nsof_flat.proofs.Streams.{reads_graphs}
use Rattle.newt_spec_graph.specs.Graph.{every}
use Rattle.newt_spec_graph.specs.Lists.{Each, Among}
use Rattle.newt_spec_graph.proofs.Lists.{each-from, each-at, rises-above}
use Rattle.newt_spec_store.specs.Store.{Entry, Soup, Store}
use Rattle.newt_spec_store.specs.Cost.{directory_bytes}
use Rattle.newt_spec_store.specs.Image.{all_entries}
use Rattle.newt_spec_store.specs.Laid.{bare, AreInfosRead}
use Rattle.newt_spec_store.specs.Lies.{IsIn, directory_read}
use Rattle.newt_spec_store.specs.Reading.{whole, directory}
use Rattle.newt_spec_store.specs.Valid.{well_formed}
use Rattle.newt_laws_images.proofs.Known.{bare-good}
use Rattle.newt_laws_images.proofs.Assembled.{map-among}
use Rattle.newt_laws_images.proofs.Placed.{all-in, its-id, its-soup}
use Rattle.newt_laws_images.proofs.Read.{directory-back}
use Rattle.newt_laws_images.proofs.Stores.{is-store}
use Rattle.newt_backup.specs.Backup.{full, fulls, backup, IsKept}
use Rattle.newt_backup.specs.Texts.{full_read}
use Rattle.newt_backup.specs.Together.{together}
use Rattle.newt_backup.proofs.Kept.{kept-formed}
use Rattle.newt_backup.proofs.Texts.{full-read, packed-one}
use Rattle.newt_backup.proofs.Together.{store-together}

-- numbers that fit their fields
abbrev pub Fits : ℕ × Entry → Type 0
Fits x = (x.0 < 65536) × (x.1.uid < 4294967296) × (x.1.time < 4294967296) × IsGraph x.1.graph

soup-small : (s : Store) (p : Soup) → well_formed s ≡ true → Among s.soups p → p.sig < 65536
soup-small s p w m = omega (
  arith,
  (each-at (λ n. (0 ≤ n) × (n < s.next_soup)) (map (λ (p : Soup). p.sig) s.soups) p.sig (rises-above 0 s.next_soup (map (λ (p : Soup). p.sig) s.soups) (is-store s w).sigs)
      (map-among (λ (p : Soup). p.sig) s.soups p m)).1,
  (is-store s w).next,
)

pub entries-fit : (s : Store) → IsKept s → Each Fits (all_entries s)
entries-fit s k = each-from Fits (all_entries s) (λ x m. one x (all-in s x m) (each-at (λ (x : ℕ × Entry). IsGraph x.1.graph × (x.1.time < 4294967296)) (all_entries s) x k.graphs m))
  where
    one : (x : ℕ × Entry) → IsIn s x.0 x.1 → IsGraph x.1.graph × (x.1.time < 4294967296) → Fits x
    one x is h =
        let w = kept-formed s k in
        (omega (arith, soup-small s is.soup w is.is_soup, is.of_sig), omega (arith, its-id s x.0 x.1 w is, (its-soup s x.0 x.1 w is).next), h.1, h.0)

each-read : (xs : List (ℕ × Entry)) → Each Fits xs → every (map full_read (map (λ (x : ℕ × Entry). full x.0 x.1) xs)) ≡ Some xs
each-read [] h = refl
each-read (x ∷ xs) h = ap (λ o. every (o ∷ map full_read (map (λ (x : ℕ × Entry). full x.0 x.1) xs))) (full-read x.0 x.1 h.0.0 h.0.1 h.0.2 h.0.3)
    ∙ ap (λ o. option_map (λ l. x ∷ l) o) (each-read xs h.1)

-- the entries of a store are read from their texts
pub fulls-read : (s : Store) → IsKept s → every (map full_read (fulls s)) ≡ Some (all_entries s)
fulls-read s k = each-read (all_entries s) (entries-fit s k)

some-one : {X : Type 0} (x y : X) → Some x ≡ Some y → x ≡ y
some-one x y e = cc

infos-read : (s : Store) → IsKept s → AreInfosRead stream_graph s
infos-read s k p g m e = reads_graphs.back g (subst (λ o. IfSome o IsGraph) e (each-at (λ (p : Soup). IfSome p.info IsGraph) s.soups p k.infos m))

-- Two stores with the same backup are one.
pub one-store : (s t : Store) → IsKept s → IsKept t → backup s ≡ backup t → s ≡ t
one-store s t k l e =
    let same = packed-one (directory_bytes s) (directory_bytes t) (fulls s) (fulls t) e in
    let d : bare s ≡ bare t = some-one (bare s) (bare t) (sym (directory-back stream_graph s (infos-read s k) (kept-formed s k)) ∙ ap (λ b. whole (directory stream_graph) b) same.0 ∙ directory-back stream_graph t (infos-read t l) (kept-formed t l)) in
    let xs : all_entries s ≡ all_entries t = some-one (all_entries s) (all_entries t) (sym (fulls-read s k) ∙ ap (λ ts. every (map full_read ts)) same.1 ∙ fulls-read t l) in
    sym (store-together s (kept-formed s k)) ∙ ap (λ b. together b (all_entries s)) d ∙ ap (λ ys. together (bare t) ys) xs ∙ store-together t (kept-formed t l)

-- the directory of a store is read from its bytes
pub directory-kept : (s : Store) → IsKept s → directory_read stream_graph 2 (directory_bytes s) ≡ Some (bare s)
directory-kept s k = rw (directory-back stream_graph s (infos-read s k) (kept-formed s k), bare-good s (kept-formed s k)) refl
