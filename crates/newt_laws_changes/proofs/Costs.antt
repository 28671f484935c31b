-- Changes that do not raise what a store costs.
use Rattle.std.proofs.Common.{arith, ◌≡◌, refl, ap, sym, ◌∙◌, subst, ℕ, ◌+◌, ◌≤◌, List, [], ◌∷◌, ◌++◌, true, false, Bool, not, cond, Some, filter, flat_map, length, find, sum_by}
use lib.ListN.{length-append}
use Rattle.newt_base.specs.Text.{be16, be32}
use Rattle.newt_base.specs.Names.{equal_text}
use Rattle.newt_spec_store.specs.Store.{Store, Soup, Entry, change_first, change_soup, change_entry, drop_soup, remove_entry, entry_of, soup_named}
use Rattle.newt_spec_image.specs.Objects.{pages_for}
use Rattle.newt_spec_store.specs.Cost.{cost, directory_bytes, soup_bytes, text_bytes, counted, part_bytes, extra_bytes, entry_pages, soup_pages}
use Rattle.newt_spec_store.specs.Valid.{fits}
use Rattle.newt_laws_images.proofs.Totals.{total, sum-total}

pub flat-total : {X : Type 0} (f : X → List ℕ) (xs : List X) → length (flat_map f xs) ≡ total (λ x. length (f x)) xs
unfolding total
flat-total f [] = refl
flat-total f (x ∷ xs) = length-append (f x) (flat_map f xs) ∙ ap (λ n. length (f x) + n) (flat-total f xs)

pub total-filter : {X : Type 0} (f : X → ℕ) (test : X → Bool) (xs : List X) → total f (filter test xs) ≤ total f xs
unfolding total
total-filter f test [] = omega arith
total-filter f test (x ∷ xs) = go (total-filter f test xs) (test x)
  where
    go : total f (filter test xs) ≤ total f xs → (b : Bool) → total f (cond b (x ∷ filter test xs) (filter test xs)) ≤ f x + total f xs
    go more true = omega (arith, more)
    go more false = omega (arith, more)

pub total-first : {X : Type 0} (f : X → ℕ) (test : X → Bool) (change : X → X) (xs : List X) → ((x : X) → find test xs ≡ Some x → f (change x) ≤ f x) → total f (change_first test change xs) ≤ total f xs
unfolding total
total-first f test change [] h = omega arith
total-first f test change (x ∷ xs) h = go (total-first f test change xs) (test x) h
  where
    go : (((y : _) → find test xs ≡ Some y → f (change y) ≤ f y) → total f (change_first test change xs) ≤ total f xs)
        → (b : Bool) → ((y : _) → cond b (Some x) (find test xs) ≡ Some y → f (change y) ≤ f y)
        → total f (cond b (change x ∷ xs) (x ∷ change_first test change xs)) ≤ f x + total f xs
    go more true h = omega (arith, h x refl)
    go more false h = omega (arith, more h)

pub pages-mono : (m n : ℕ) → m ≤ n → pages_for m ≤ pages_for n
pages-mono m n h = grind arith

-- ---- the directory

pub soup-length : (p : Soup) → length (soup_bytes p) ≡ (length p.name + 8) + (total (λ spec. length (counted part_bytes spec)) p.specs + length (extra_bytes p.tags p.info))
soup-length p = grind (
  arith,
  length-append (text_bytes p.name) (be16 p.sig),
  length-append (text_bytes p.name ++ be16 p.sig) (be32 p.next_uid),
  length-append (text_bytes p.name ++ be16 p.sig ++ be32 p.next_uid) (counted (counted part_bytes) p.specs),
  length-append (text_bytes p.name ++ be16 p.sig ++ be32 p.next_uid ++ counted (counted part_bytes) p.specs) (extra_bytes p.tags p.info),
  flat-total (counted part_bytes) p.specs,
)

pub directory-length : (s : Store) → length (directory_bytes s) ≡ (length s.name + 8) + total (λ p. length (soup_bytes p)) s.soups
directory-length s = grind (
  arith,
  length-append (text_bytes s.name) (be32 s.sig),
  length-append (text_bytes s.name ++ be32 s.sig) (be16 s.next_soup),
  length-append (text_bytes s.name ++ be32 s.sig ++ be16 s.next_soup) (counted soup_bytes s.soups),
  flat-total soup_bytes s.soups,
)

pub cost-total : (s : Store) → cost s ≡ pages_for (length (directory_bytes s)) + total soup_pages s.soups
cost-total s = ap (λ n. pages_for (length (directory_bytes s)) + n) (sum-total (λ p. sum_by entry_pages p.entries) s.soups)

-- a store with no more bytes in its directory and no more pages in its soups
pub costs-less : (s t : Store) → length (directory_bytes t) ≤ length (directory_bytes s) → total soup_pages t.soups ≤ total soup_pages s.soups → cost t ≤ cost s
costs-less s t h k = omega (arith, pages-mono (length (directory_bytes t)) (length (directory_bytes s)) h, cost-total s, cost-total t, k)

pub dropped_cost : (name : List ℕ) (s : Store) → cost (drop_soup name s) ≤ cost s
dropped_cost name s = costs-less s (drop_soup name s)
    (omega (arith, directory-length s, directory-length (drop_soup name s), total-filter (λ p. length (soup_bytes p)) (λ p. not (equal_text p.name name)) s.soups))
    (total-filter soup_pages (λ p. not (equal_text p.name name)) s.soups)

pub removed_cost : (name : List ℕ) (uid : ℕ) (s : Store) → cost (change_soup name (remove_entry uid) s) ≤ cost s
removed_cost name uid s = costs-less s (change_soup name (remove_entry uid) s)
    (omega (arith, directory-length s, directory-length (change_soup name (remove_entry uid) s), total-first (λ p. length (soup_bytes p)) (λ p. equal_text p.name name) (remove_entry uid) s.soups (λ p _. omega arith)))
    (total-first soup_pages (λ p. equal_text p.name name) (remove_entry uid) s.soups (λ p _.
    subst (λ n. sum_by entry_pages (remove_entry uid p).entries ≤ n) (sym (sum-total entry_pages p.entries))
    (subst (λ n. n ≤ total entry_pages p.entries) (sym (sum-total entry_pages (remove_entry uid p).entries)) (total-filter entry_pages _ p.entries))))

-- a store with no more bytes in its directory and no more pages in its soups
pub cheaper : (blocks : ℕ) (s t : Store) → length (directory_bytes t) ≤ length (directory_bytes s) → total soup_pages t.soups ≤ total soup_pages s.soups
    → fits blocks s ≡ true → fits blocks t ≡ true
cheaper blocks s t h k f = grind (arith, pages-mono (length (directory_bytes t)) (length (directory_bytes s)) h, cost-total s, cost-total t)

pub fits-without-soup : (blocks : ℕ) (name : List ℕ) (s : Store) → fits blocks s ≡ true → fits blocks (drop_soup name s) ≡ true
fits-without-soup blocks name s = cheaper blocks s (drop_soup name s)
    (omega (arith, directory-length s, directory-length (drop_soup name s), total-filter (λ p. length (soup_bytes p)) (λ p. not (equal_text p.name name)) s.soups))
    (total-filter soup_pages (λ p. not (equal_text p.name name)) s.soups)

pub fits-with-soup : (blocks : ℕ) (name : List ℕ) (f : Soup → Soup) (s : Store) → ((p : Soup) → soup_named name s ≡ Some p → length (soup_bytes (f p)) ≤ length (soup_bytes p))
    → ((p : Soup) → soup_named name s ≡ Some p → soup_pages (f p) ≤ soup_pages p) → fits blocks s ≡ true → fits blocks (change_soup name f s) ≡ true
fits-with-soup blocks name f s h k = cheaper blocks s (change_soup name f s)
    (omega (arith, directory-length s, directory-length (change_soup name f s), total-first (λ p. length (soup_bytes p)) (λ p. equal_text p.name name) f s.soups h))
    (total-first soup_pages (λ p. equal_text p.name name) f s.soups k)

pub fits-without-entry : (blocks : ℕ) (name : List ℕ) (uid : ℕ) (s : Store) → fits blocks s ≡ true → fits blocks (change_soup name (remove_entry uid) s) ≡ true
fits-without-entry blocks name uid s = fits-with-soup blocks name (remove_entry uid) s (λ p _. omega arith)
    (λ p _. subst (λ n. sum_by entry_pages (remove_entry uid p).entries ≤ n) (sym (sum-total entry_pages p.entries))
    (subst (λ n. n ≤ total entry_pages p.entries) (sym (sum-total entry_pages (remove_entry uid p).entries)) (total-filter entry_pages _ p.entries)))

-- an entry that takes no more pages than before
pub fits-with-change : (blocks : ℕ) (name : List ℕ) (uid : ℕ) (f : Entry → Entry) (s : Store)
    → ((p : Soup) (e : Entry) → soup_named name s ≡ Some p → entry_of uid p ≡ Some e → entry_pages (f e) ≤ entry_pages e) → fits blocks s ≡ true → fits blocks (change_soup name (change_entry uid f) s) ≡ true
fits-with-change blocks name uid f s k = fits-with-soup blocks name (change_entry uid f) s (λ p _. omega arith)
    (λ p found. subst (λ n. sum_by entry_pages (change_entry uid f p).entries ≤ n) (sym (sum-total entry_pages p.entries))
    (subst (λ n. n ≤ total entry_pages p.entries) (sym (sum-total entry_pages (change_entry uid f p).entries))
    (total-first entry_pages _ f p.entries (λ e l. k p e found l))))
