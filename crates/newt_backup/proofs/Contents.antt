-- A directory and entries as a program has them.
use Rattle.std.proofs.Common.{◌≡◌, refl, sym, ◌∙◌, ap, subst, ℕ, suc, ◌+◌, ◌<◌, ◌≤◌, true, List, [], ◌∷◌, ◌++◌, map, length, All, arith, flat_map}
use Rattle.std.specs.List.{sum_by}
use Rattle.std.proofs.lemmas.List.{append-nil}
use Rattle.std.proofs.lemmas.List.Elements.{All-nil, All-cons}
use Rattle.std.proofs.lemmas.List.Sums.{sum_by-cons}
use Rattle.newt_base.specs.Text.{be16, be32}
use Rattle.newt_spec_graph.specs.Lists.{Each}
use Rattle.newt_spec_store.specs.Store.{Entry, Soup, Store}
use Rattle.newt_spec_store.specs.Cost.{directory_bytes, soup_bytes, text_bytes}
use Rattle.newt_spec_store.specs.Image.{all_entries}
use Rattle.newt_spec_store.specs.Laid.{bare, bare_soup}
use Rattle.newt_spec_store.specs.Valid.{well_formed}
use Rattle.newt_laws_images.proofs.Known.{bare-good}
use Rattle.newt_soupdir.specs.declared.rows.Directory.{Directory}
use Rattle.newt_soupdir.specs.declared.rows.SoupRow.{SoupRow}
use Rattle.newt_soupdir.specs.Bare.{bare_store, bare_soup as row_soup}
use Rattle.newt_entries.specs.declared.full.FullEntry.{FullEntry}
use Rattle.newt_backup.specs.Backup.{full, fulls, packed, backup, CanPack}
use Rattle.newt_backup.specs.Together.{with_own, others, left_over, together}
use Rattle.newt_backup.specs.Contents.{text_of, store_in, AreKept, IsSmall}
use Rattle.newt_entries.specs.Full.{told}
use Rattle.newt_backup.proofs.Kept.{kept-formed, kept-packs}
use Rattle.newt_backup.proofs.One.{Fits as Small, entries-fit}
use Rattle.newt_backup.proofs.Together.{entries-back}

-- entries change nothing of the directory's bytes
soups-same : (ps : List Soup) (xs : List (ℕ × Entry)) → flat_map soup_bytes (with_own ps xs) ≡ flat_map soup_bytes ps
soups-same [] xs = refl
soups-same (p ∷ ps) xs = ap (λ l. soup_bytes p ++ l) (soups-same ps (others p.sig xs))

pub own-length : (ps : List Soup) (xs : List (ℕ × Entry)) → length (with_own ps xs) ≡ length ps
own-length [] xs = refl
own-length (p ∷ ps) xs = ap suc (own-length ps (others p.sig xs))

pub directory-same : (d : Store) (xs : List (ℕ × Entry)) → directory_bytes (together d xs) ≡ directory_bytes d
directory-same d xs = ap (λ n. of d n (flat_map soup_bytes (with_own d.soups xs))) (own-length d.soups xs) ∙ ap (λ l. of d (length d.soups) l) (soups-same d.soups xs)
  where
    of : Store → ℕ → List ℕ → List ℕ
    of d n l = text_bytes d.name ++ be32 d.sig ++ be16 d.next_soup ++ (n ∷ l)

-- the directory is that of the store
bare-own : (rows : List SoupRow) (xs : List (ℕ × Entry)) → map bare_soup (with_own (map row_soup rows) xs) ≡ map row_soup rows
bare-own [] xs = refl
bare-own (r ∷ rows) xs = ap (λ l. row_soup r ∷ l) (bare-own rows (others r.sig xs))

pub bare-same : (d : Directory) (es : List FullEntry) → bare (store_in d es) ≡ bare_store d
bare-same d es = ap (λ ps. of d ps) (bare-own d.soups (map told es))
  where
    of : Directory → List Soup → Store
    of d ps = record { name = d.name; sig = d.sig; next_soup = d.next_soup; soups = ps }

pub directory-formed : (d : Directory) (es : List FullEntry) → AreKept d es → well_formed (bare_store d) ≡ true
directory-formed d es k = subst (λ s. well_formed s ≡ true) (bare-same d es) (bare-good (store_in d es) (kept-formed (store_in d es) k.kept))

-- the entries are those of the store
pub entries-same : (d : Directory) (es : List FullEntry) → left_over (bare_store d).soups (map told es) ≡ [] → all_entries (store_in d es) ≡ map told es
entries-same d es h = sym (append-nil (all_entries (store_in d es))) ∙ ap (λ l. all_entries (store_in d es) ++ l) (sym h) ∙ entries-back (bare_store d).soups (map told es)

texts-told : (es : List FullEntry) → map (λ (x : ℕ × Entry). full x.0 x.1) (map told es) ≡ map text_of es
texts-told [] = refl
texts-told (e ∷ es) = ap (λ l. text_of e ∷ l) (texts-told es)

pub texts-same : (d : Directory) (es : List FullEntry) → AreKept d es → fulls (store_in d es) ≡ map text_of es
texts-same d es k = ap (λ xs. map (λ (x : ℕ × Entry). full x.0 x.1) xs) (entries-same d es k.in_order) ∙ texts-told es

pub backup-same : (d : Directory) (es : List FullEntry) → AreKept d es → packed (directory_bytes (bare_store d)) (map text_of es) ≡ backup (store_in d es)
backup-same d es k = ap (λ b. packed b (map text_of es)) (sym (directory-same (bare_store d) (map told es))) ∙ ap (λ ts. packed (directory_bytes (store_in d es)) ts) (sym (texts-same d es k))

pub can-pack : (d : Directory) (es : List FullEntry) → AreKept d es → CanPack (directory_bytes (bare_store d)) (map text_of es)
can-pack d es k = subst (λ b. CanPack b (map text_of es)) (directory-same (bare_store d) (map told es)) (subst (λ ts. CanPack (directory_bytes (store_in d es)) ts) (texts-same d es k) (kept-packs (store_in d es) k.kept))

-- each entry's soup has a short signature, and its text is not too long
pub entries-small : (d : Directory) (es : List FullEntry) → AreKept d es → All IsSmall es
entries-small d es k = small es 0 (subst (λ xs. Each (λ (x : ℕ × Entry). x.0 < 65536) xs) (entries-same d es k.in_order) (sigs (all_entries (store_in d es)) (entries-fit (store_in d es) k.kept)))
    (more (length (directory_bytes (bare_store d))) (sum_by (λ (text : List ℕ). length text) (map text_of es)) (can-pack d es k).short)
  where
    more : (a b : ℕ) → a + b ≤ 7_989_000 → 0 + b ≤ 7_989_000
    more a b h = omega (arith, h)

    sigs : (xs : List (ℕ × Entry)) → Each Small xs → Each (λ (x : ℕ × Entry). x.0 < 65536) xs
    sigs [] h = tt
    sigs (x ∷ xs) h = (h.0.0, sigs xs h.1)

    small : (es : List FullEntry) (n : ℕ) → Each (λ (x : ℕ × Entry). x.0 < 65536) (map told es) → n + sum_by (λ (text : List ℕ). length text) (map text_of es) ≤ 7_989_000
        → All IsSmall es
    small [] n h l = All-nil IsSmall
    small (e ∷ es) n h l = All-cons IsSmall e es (h.0, omega (arith, l, sum_by-cons (λ (text : List ℕ). length text) (text_of e) (map text_of es)))
        (small es (n + length (text_of e)) h.1 (omega (arith, l, sum_by-cons (λ (text : List ℕ). length text) (text_of e) (map text_of es))))
