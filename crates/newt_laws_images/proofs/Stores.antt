-- What holds of a well-formed store and of a valid soup, as records of facts.
use Rattle.std.proofs.Common.{arith, ◌≡◌, ◌≤◌, true, map, length, nat_le}
use Rattle.std.specs.List.{list_all}
use Rattle.newt_base.specs.Names.{equal_text, is_name}
use Rattle.newt_spec_graph.specs.Lists.{all_apart, rises}
use Rattle.newt_spec_store.specs.Keys.{paths_of, same_paths}
use Rattle.newt_spec_store.specs.Store.{Store, Soup}
use Rattle.newt_spec_store.specs.Valid.{well_formed, valid_soup, valid_entry, valid_spec, valid_tags, valid_info}

pub record IsSoup (p : Soup) : Type 0 where
  pub named : is_name p.name ≡ true
  pub next : p.next_uid ≤ 536870911
  pub uids : rises 0 p.next_uid (map (λ e. e.uid) p.entries) ≡ true
  pub count : length p.specs ≤ 16
  pub specs_fit : list_all valid_spec p.specs ≡ true
  pub specs_apart : all_apart same_paths (map paths_of p.specs) ≡ true
  pub tags_fit : valid_tags p.tags ≡ true
  pub info_fits : valid_info p.info ≡ true
  pub entries_fit : list_all valid_entry p.entries ≡ true

pub is-soup : (p : Soup) → valid_soup p ≡ true → IsSoup p
is-soup p h = record {
  named = grind arith;
  next = grind arith;
  uids = grind arith;
  count = grind arith;
  specs_fit = grind arith;
  specs_apart = grind arith;
  tags_fit = grind arith;
  info_fits = grind arith;
  entries_fit = grind arith;
}

pub soup-is : (p : Soup) → IsSoup p → valid_soup p ≡ true
soup-is p r = grind (arith, r.named, r.next, r.uids, r.count, r.specs_fit, r.specs_apart, r.tags_fit, r.info_fits, r.entries_fit)

pub record IsStore (s : Store) : Type 0 where
  pub named : is_name s.name ≡ true
  pub sig_fits : nat_le s.sig 536_870_911 ≡ true
  pub next : s.next_soup ≤ 65535
  pub count : length s.soups ≤ 250
  pub sigs : rises 0 s.next_soup (map (λ p. p.sig) s.soups) ≡ true
  pub names_apart : all_apart equal_text (map (λ p. p.name) s.soups) ≡ true
  pub soups_fit : list_all valid_soup s.soups ≡ true

pub is-store : (s : Store) → well_formed s ≡ true → IsStore s
is-store s h = record { named = grind arith; sig_fits = grind arith; next = grind arith; count = grind arith; sigs = grind arith; names_apart = grind arith; soups_fit = grind arith }

pub store-is : (s : Store) → IsStore s → well_formed s ≡ true
store-is s r = grind (arith, r.named, r.sig_fits, r.next, r.count, r.sigs, r.names_apart, r.soups_fit)
