-- What is said of an image whose records are sound.
use Rattle.std.proofs.Common.{arith, ◌≡◌, ap, sym, ◌∙◌, subst, ℕ, ◌+◌, ◌*◌, ◌%◌, ◌<◌, ◌≤◌, ◌==◌, ◌⊎◌, inl, inr, Bool, true, false, cond, List, [], ◌∷◌, length, find, filter, Some, None}
use Rattle.std.specs.FinMap as map
use Rattle.std.specs.BTreeMap.{BTreeMap}
use Rattle.std.proofs.lemmas.List.Sums.{sum_by-cons}
use Rattle.newt_spec_nsof.specs.Text.{AreBytes}
use Rattle.newt_spec_image.specs.Objects.{Objects, pages_for}
use Rattle.newt_spec_image.specs.Pages.{cap}
use Rattle.newt_soupdir.specs.Bare.{bare_store, bare_soup}
use Rattle.newt_soupdir.specs.declared.rows.Directory.{Directory}
use Rattle.newt_laws_images.proofs.Records.{map-length}
use Rattle.newt_laws_images.proofs.Stores.{is-store}
use Rattle.newt_spec_graph.proofs.Lists.{some-same}
use Rattle.newt_spec_store.specs.Laid.{bare, bare_soup as plain_soup}
use Rattle.newt_spec_store.specs.OfImage.{blocks_of}
use Rattle.newt_spec_store.specs.Store.{Store}
use Rattle.newt_spec_store.specs.Valid.{well_formed}
use Rattle.newt_spec_check.specs.Damage.{all_named, bad_large, is_odd, pages_taken}
use Rattle.newt_spec_check.specs.declared.Layer.TheVariants as layer
use Rattle.newt_check.specs.Reports.{HasSoundRecords, IsClean, IsDamaged}
use Rattle.newt_check.specs.Seen.{is_stray_id}
use Rattle.newt_check.proofs.Damages.{at-large, at-cost, at-store}
use Rattle.newt_check.proofs.Listed.{strays-are, odds-are}
use Rattle.newt_check.proofs.Records.{root-is}

pub few-soups : (d : Directory) → well_formed (bare_store d) ≡ true → length d.soups ≤ 250
few-soups d h = let c = (is-store (bare_store d) h).count in let l = map-length bare_soup d.soups in omega (arith, c, l)

as-many : (s : Store) (d : Directory) → bare s ≡ bare_store d → length s.soups ≡ length d.soups
as-many s d h = sym (map-length plain_soup s.soups) ∙ ap (λ (t : Store). length t.soups) h ∙ map-length bare_soup d.soups

-- there are no more records than pages
some-pages : (es : List (ℕ × List ℕ)) → length (filter is_odd es) ≤ pages_taken es
some-pages [] = omega arith
some-pages (e ∷ es) = go (is_odd e) (some-pages es) (sum_by-cons (λ (o : ℕ × List ℕ). pages_for (length o.1)) e es) (one (length e.1))
  where
    one : (n : ℕ) → 1 ≤ pages_for n
    one n = omega arith

    go : (b : Bool) → length (filter is_odd es) ≤ pages_taken es → pages_taken (e ∷ es) ≡ pages_for (length e.1) + pages_taken es → 1 ≤ pages_for (length e.1)
        → length (cond b (e ∷ filter is_odd es) (filter is_odd es)) ≤ pages_taken (e ∷ es)
    go true more sum one = omega (arith, more, sum, one)
    go false more sum one = omega (arith, more, sum, one)

module _ (now : List ℕ) (texts : Objects) (d : Directory) (ids : List ℕ) (counts : BTreeMap ℕ Bool) (blocks pages : ℕ) (s : HasSoundRecords now texts d ids counts blocks pages) where
  large-row : find (is_stray_id (all_named (map.entries texts))) ids ≡ bad_large (map.entries texts)
  large-row = ap (find (is_stray_id (all_named (map.entries texts)))) s.ids_are ∙ sym (strays-are (all_named (map.entries texts)) (map.entries texts))

  pub of-large : (id : ℕ) → Some id ≡ find (is_stray_id (all_named (map.entries texts))) ids → IsDamaged layer.Large id now
  of-large id h = at-large now texts s.holds (bare_store d) (root-is now d texts s.root) s.records id (sym (h ∙ large-row))

  bytes-of : (id : ℕ) (bytes : List ℕ) → map.get texts id ≡ Some bytes → (id ≡ 0) ⊎ (id % 2 ≡ 1) → AreBytes bytes
  bytes-of id bytes at (inl e) = subst AreBytes (some-same s.root.bytes bytes (sym s.root.object ∙ ap (map.get texts) (sym e) ∙ at)) s.root.are_bytes
  bytes-of id bytes at (inr e) = s.bytes id bytes at e

  module _ (none : None ≡ find (is_stray_id (all_named (map.entries texts))) ids) where
    larges : bad_large (map.entries texts) ≡ None
    larges = sym (none ∙ large-row)

    pub of-cost : cap blocks < pages → IsDamaged layer.Cost pages now
    of-cost more = subst (λ (n : ℕ). IsDamaged layer.Cost n now) (sym s.pages_are) (at-cost now texts s.holds (bare_store d) (root-is now d texts s.root) s.records larges bytes-of
        (subst (λ n. cap n < pages_taken (map.entries texts)) (sym s.blocks_are) (subst (λ n. cap blocks < n) s.pages_are more)))

    pub odd-few : length (filter (λ id. id % 2 == 1) ids) ≤ pages
    odd-few =
        let odd = ap (λ (l : List ℕ). length (filter (λ id. id % 2 == 1) l)) s.ids_are ∙ odds-are (map.entries texts) in
        let few = some-pages (map.entries texts) in
        let total = s.pages_are in
        omega (arith, odd, few, total)

    pub of-store : pages ≤ cap blocks → (soups entries : ℕ) → soups ≡ length d.soups → entries ≡ length (filter (λ id. id % 2 == 1) ids) → IsClean soups entries pages now
    of-store few soups entries soups_are entries_are =
        let r = at-store now texts s.holds (bare_store d) (root-is now d texts s.root) s.records larges bytes-of
        (subst (λ n. pages_taken (map.entries texts) ≤ cap n) (sym s.blocks_are) (subst (λ n. n ≤ cap blocks) s.pages_are few)) in
        record {
          store = r.0;
          read = r.1;
          soups_are = as-many r.0 d (some-same (bare r.0) (bare_store d) (sym r.2 ∙ root-is now d texts s.root)) ∙ sym soups_are;
          entries_are = r.4 ∙ sym (odds-are (map.entries texts)) ∙ ap (λ (l : List ℕ). length (filter (λ id. id % 2 == 1) l)) (sym s.ids_are) ∙ sym entries_are;
          pages_are = r.3 ∙ sym s.pages_are;
        }

pub blocks-are : (image : List ℕ) (blocks : ℕ) → length image ≡ blocks * 4096 → blocks_of image ≡ blocks
blocks-are image blocks h = omega (arith, h)
