-- Declarations of soups, and new stores, are well formed.
use Rattle.std.proofs.Common.{arith, ◌≡◌, ℕ, List, true, nat_le}
use Rattle.newt_base.specs.Names.{is_name}
use Rattle.newt_spec_store.specs.Store.{new_store}
use Rattle.newt_spec_store.specs.Valid.{well_formed}
pub use Rattle.newt_laws_images.proofs.Stores.{IsSoup, is-soup, soup-is, IsStore, is-store, store-is}
pub use Rattle.newt_laws_changes.proofs.Soups.{with-entry, with-change, without-entry, with-index, without-index, with-tags, with-info, with-soup, with-new-soup, without-soup, found-good, push-all, push-apart, filter-length, filter-all, filter-apart}

pub new-store : (name : List ℕ) (sig : ℕ) → is_name name ≡ true → nat_le sig 536_870_911 ≡ true → well_formed (new_store name sig) ≡ true
new-store name sig h k = grind (arith, h, k)
