-- Changes of declarations that do not raise what a store costs, and the cost of a new store.
use Rattle.std.proofs.Common.{arith, ◌≡◌, ℕ, ◌≤◌, List, true, not, length}
use Rattle.newt_spec_image.specs.Pages.{cap}
use Rattle.newt_spec_store.specs.Keys.{Path, paths_of, same_paths}
use Rattle.newt_spec_store.specs.Store.{Store, change_soup, without_index, new_store}
use Rattle.newt_spec_store.specs.Cost.{counted, part_bytes}
use Rattle.newt_spec_store.specs.Valid.{fits}
use Rattle.newt_laws_images.proofs.Totals.{total}
use Rattle.newt_laws_changes.proofs.Costs.{total-filter, soup-length, directory-length, cost-total, fits-with-soup}
pub use Rattle.newt_laws_changes.proofs.Costs.{fits-without-soup, fits-without-entry, fits-with-change}

pub fits-without-index : (blocks : ℕ) (name : List ℕ) (paths : List Path) (s : Store) → fits blocks s ≡ true → fits blocks (change_soup name (without_index paths) s) ≡ true
fits-without-index blocks name paths s = fits-with-soup blocks name (without_index paths) s
    (λ p _. omega (arith, soup-length p, soup-length (without_index paths p), total-filter (λ spec. length (counted part_bytes spec)) (λ spec. not (same_paths (paths_of spec) paths)) p.specs))
    (λ p _. omega arith)

pub fits-new : (blocks : ℕ) (name : List ℕ) (sig : ℕ) → length name ≤ 39 → 13 ≤ blocks → fits blocks (new_store name sig) ≡ true
unfolding total
fits-new blocks name sig h k = grind (arith, directory-length (new_store name sig), cost-total (new_store name sig), room)
  where
    room : 1 ≤ cap blocks
    room = grind arith
